use Rattle.turn_laws.proofs.EndsWhere.{away-ends, turns-end}
use Rattle.turn_laws.proofs.laws.turns_end_where.Goals as goal

pub returns-clause-holds : goal.returns-clause-holds
returns-clause-holds c = turns-end

pub returns-clause-away : goal.returns-clause-away
returns-clause-away c = away-ends

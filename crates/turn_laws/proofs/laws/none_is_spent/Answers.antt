use Rattle.turn_laws.proofs.Spent.{away-spends, hosts-spend, nobody-spends, turns-spend}
use Rattle.turn_laws.proofs.Spent.{visits-spend}
use Rattle.turn_laws.proofs.laws.none_is_spent.Goals as goal

pub returns-clause-turns : goal.returns-clause-turns
returns-clause-turns c = turns-spend

pub returns-clause-away : goal.returns-clause-away
returns-clause-away c = away-spends

pub returns-clause-hosts : goal.returns-clause-hosts
returns-clause-hosts c = hosts-spend

pub returns-clause-visits : goal.returns-clause-visits
returns-clause-visits c = visits-spend

pub returns-clause-all : goal.returns-clause-all
returns-clause-all c = nobody-spends

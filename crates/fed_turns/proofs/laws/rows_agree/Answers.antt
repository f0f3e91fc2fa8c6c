use Rattle.fed_turns.proofs.Agreements.{rows}
use Rattle.fed_turns.proofs.laws.rows_agree.Goals as goal

pub returns : goal.returns
returns c = rows

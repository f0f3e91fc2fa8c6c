use Rattle.alike_states.proofs.Tables.{segment-same}
use Rattle.alike_states.proofs.laws.tables_stay_alone.Goals as goal

pub returns : goal.returns
returns c segments number s none from = segment-same segments none number s from

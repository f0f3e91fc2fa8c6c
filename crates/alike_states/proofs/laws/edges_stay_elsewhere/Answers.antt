use Rattle.alike_states.proofs.Edges.{segment-same}
use Rattle.alike_states.proofs.laws.edges_stay_elsewhere.Goals as goal

pub returns : goal.returns
returns c segments number place s from elsewhere = segment-same segments place elsewhere number s from

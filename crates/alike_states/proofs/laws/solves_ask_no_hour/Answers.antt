use Rattle.alike_states.proofs.Hours.{segment-later}
use Rattle.alike_states.proofs.laws.solves_ask_no_hour.Goals as goal

pub returns : goal.returns
returns c segments number seconds s = segment-later seconds segments number s

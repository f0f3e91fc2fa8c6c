use Rattle.peer_cop.proofs.TestedLemmas.{tested-wired}
use Rattle.peer_cop.proofs.laws.tested_plants_can_be_wired.Goals as goal

pub returns : goal.returns
returns c = tested-wired

use Rattle.controller_core.proofs.RunLemmas.{lines_stepped}
use Rattle.controller_core.proofs.laws.steps_add_their_lines.Goals as goal

pub returns : goal.returns
returns c = lines_stepped

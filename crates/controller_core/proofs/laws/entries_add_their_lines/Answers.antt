use Rattle.controller_core.specs.Replay.{start}
use Rattle.controller_core.proofs.RunLemmas.{lines_more}
use Rattle.controller_core.proofs.laws.entries_add_their_lines.Goals as goal

pub returns : goal.returns
returns c = λ fixed front entry. lines_more fixed (start fixed.plan) front entry

use Rattle.controller_core.specs.Replay.{start}
use Rattle.controller_core.proofs.NoteLemmas.{noted_more}
use Rattle.controller_core.proofs.laws.entries_add_their_notes.Goals as goal

pub returns : goal.returns
returns c = λ fixed front entry. noted_more fixed (start fixed.plan) front entry

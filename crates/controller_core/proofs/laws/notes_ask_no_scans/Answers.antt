use Rattle.controller_core.proofs.NoteLemmas.{notes_same}
use Rattle.controller_core.proofs.laws.notes_ask_no_scans.Goals as goal

pub returns : goal.returns
returns c = notes_same

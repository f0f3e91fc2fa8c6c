use Rattle.controller_core.proofs.NotedLineLemmas.{notes_tell}
use Rattle.controller_core.proofs.laws.notes_tell_the_lines.Goals as goal

pub returns : goal.returns
returns c = notes_tell c.scans_end_once.ensures

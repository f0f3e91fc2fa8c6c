use Rattle.controller_core.proofs.NextEntry.{due_stays, ended_stays, stop_stays}
use Rattle.controller_core.proofs.laws.answers_leave_the_scan.Goals as goal

pub returns : goal.returns
returns c = record { due = due_stays; ended = ended_stays; stop = stop_stays }

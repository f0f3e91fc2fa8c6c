use Rattle.controller_core.proofs.RunLemmas.{run_ended, run_keeps, run_starts}
use Rattle.controller_core.proofs.laws.steps_make_the_run.Goals as goal

pub returns : goal.returns
returns c = record { starts = run_starts; keeps = run_keeps; ended = run_ended }

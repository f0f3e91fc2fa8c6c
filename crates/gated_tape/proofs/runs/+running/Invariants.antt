use Rattle.std.proofs.Common.{length, ◌+◌, ◌*◌}
use Rattle.gated_tape.proofs.runs.+running.Given as goal

abbrev pub decreases-run_halves-join_mut+arg2 : goal.decreases-run_halves-join_mut+arg2
decreases-run_halves-join_mut+arg2 g l = 2 * length l.front.now + 1

abbrev pub decreases-run_halves-join_mut+arg3 : goal.decreases-run_halves-join_mut+arg3
decreases-run_halves-join_mut+arg3 g l = 2 * length l.back.now + 1

abbrev pub decreases-run_each : goal.decreases-run_each
decreases-run_each g l = 2 * length l.writers.now + 1

abbrev pub decreases-run_halves : goal.decreases-run_halves
decreases-run_halves g l = 2 * (length l.front.now + length l.back.now)

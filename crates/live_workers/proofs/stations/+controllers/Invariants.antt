use Rattle.std.proofs.Common.{length, ◌+◌, ◌*◌}
use Rattle.live_workers.proofs.stations.+controllers.Given as goal

abbrev pub decreases-run_halves-join_mut+arg2 : goal.decreases-run_halves-join_mut+arg2
decreases-run_halves-join_mut+arg2 g l = 2 * length l.front.now + 1

abbrev pub decreases-run_halves-join_mut+arg3 : goal.decreases-run_halves-join_mut+arg3
decreases-run_halves-join_mut+arg3 g l = 2 * length l.back.now + 1

abbrev pub decreases-run_controllers : goal.decreases-run_controllers
decreases-run_controllers g l = 2 * length l.stations.now + 1

abbrev pub decreases-run_halves : goal.decreases-run_halves
decreases-run_halves g l = 2 * (length l.front.now + length l.back.now)

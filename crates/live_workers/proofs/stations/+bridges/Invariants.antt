use Rattle.std.proofs.Common.{length, ◌+◌, ◌*◌}
use Rattle.live_workers.proofs.stations.+bridges.Given as goal

abbrev pub decreases-run_bridge_halves-join_mut+arg2 :
    goal.decreases-run_bridge_halves-join_mut+arg2
decreases-run_bridge_halves-join_mut+arg2 g l = 2 * length l.front.now + 1

abbrev pub decreases-run_bridge_halves-join_mut+arg3 :
    goal.decreases-run_bridge_halves-join_mut+arg3
decreases-run_bridge_halves-join_mut+arg3 g l = 2 * length l.back.now + 1

abbrev pub decreases-run_bridges : goal.decreases-run_bridges
decreases-run_bridges g l = 2 * length l.stations.now + 1

abbrev pub decreases-run_bridge_halves : goal.decreases-run_bridge_halves
decreases-run_bridge_halves g l = 2 * (length l.front.now + length l.back.now)

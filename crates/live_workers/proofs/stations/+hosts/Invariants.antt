use Rattle.std.proofs.Common.{length, ◌+◌, ◌*◌}
use Rattle.live_workers.proofs.stations.+hosts.Given as goal

abbrev pub decreases-run_host_halves-join_mut+arg2 : goal.decreases-run_host_halves-join_mut+arg2
decreases-run_host_halves-join_mut+arg2 g l = 2 * length l.front.now + 1

abbrev pub decreases-run_host_halves-join_mut+arg3 : goal.decreases-run_host_halves-join_mut+arg3
decreases-run_host_halves-join_mut+arg3 g l = 2 * length l.back.now + 1

abbrev pub decreases-run_hosts : goal.decreases-run_hosts
decreases-run_hosts g l = 2 * length l.stations.now + 1

abbrev pub decreases-run_host_halves : goal.decreases-run_host_halves
decreases-run_host_halves g l = 2 * (length l.front.now + length l.back.now)

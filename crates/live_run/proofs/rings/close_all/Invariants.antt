use Rattle.std.proofs.Common.{vec_len}
use Rattle.live_run.proofs.Closings.{IsClosing}
use Rattle.live_run.proofs.rings.close_all.Given as goal

abbrev pub invariant-loop-home : goal.invariant-loop-home
invariant-loop-home l =
    IsClosing l.fn.rings.homes.items l.fn.rings.purses.items l.homes.items l.purses.items
    l.logs.items l.done

abbrev pub decreases-loop-home : goal.decreases-loop-home
decreases-loop-home l = vec_len l.homes

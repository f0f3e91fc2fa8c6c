use Rattle.std.proofs.Common.{◌≡◌, drop, replicate, length}
use Rattle.ring_core.specs.Machine.{addresses}
use Rattle.station_stats.specs.Counts.{cleared_counters}
use Rattle.ring_core.specs.Kept.{joined_stats, opening_stats}
use Rattle.ring_core.proofs.opening.opening_stats.Given as goal

abbrev pub invariant-loop : goal.invariant-loop
invariant-loop l = l.stats.items ≡ replicate l.counter (cleared_counters 0)

abbrev pub invariant-loop-member : goal.invariant-loop-member
invariant-loop-member l =
    (length l.stats.items ≡ addresses)
    × (joined_stats l.stats.items (drop l.member-index l.members) ≡ opening_stats l.members)

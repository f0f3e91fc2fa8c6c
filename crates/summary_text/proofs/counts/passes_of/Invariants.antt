use Rattle.std.proofs.Common.{◌≡◌, ◌≤◌, ◌+◌, ◌*◌, ◌^◌, drop}
use Rattle.summary_text.proofs.RingCounts.{passes_by_ring}
use Rattle.summary_text.proofs.counts.passes_of.Given as goal

abbrev pub invariant-loop-ring : goal.invariant-loop-ring
invariant-loop-ring l = record {
  total : l.total + passes_by_ring (drop l.ring-index l.rings) ≡ passes_by_ring l.rings;
  small : l.total ≤ l.ring-index * 2 ^ 64;
}

use Rattle.std.proofs.Common.{◌≡◌, ℕ, ◌<◌, [], length, get_or}
use Rattle.joint_history.specs.declared.joint.RingLog.{RingLog}
use Rattle.own_places.specs.Places.{ArePlaces}
use Rattle.joint_law.proofs.on_rings.own_on_each.Given as goal

abbrev pub invariant-loop-ring : goal.invariant-loop-ring
invariant-loop-ring l = record {
  count : length l.own.items ≡ l.ring-index;
  each : (k : ℕ) (d : RingLog) → k < l.ring-index
      → ArePlaces (get_or l.rings k d).entries (get_or l.own.items k []);
}

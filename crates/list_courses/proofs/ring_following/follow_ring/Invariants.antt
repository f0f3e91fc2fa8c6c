use Rattle.std.proofs.Common.{take}
use Rattle.list_courses.specs.RingFollowing.{IsRingBehind}
use Rattle.list_courses.proofs.ring_following.follow_ring.Given as goal

abbrev pub invariant-loop-place : goal.invariant-loop-place
invariant-loop-place l = IsRingBehind l.plan (take l.place l.entries) l.ring

use Rattle.std.proofs.Common.{◌≡◌, ◌≤◌, length, take}
use Rattle.station_laws.proofs.differing.first_difference.Given as goal

abbrev pub invariant-loop-place : goal.invariant-loop-place
invariant-loop-place g l =
    record { within : l.place ≤ length l.other; same : take l.place l.one ≡ take l.place l.other }

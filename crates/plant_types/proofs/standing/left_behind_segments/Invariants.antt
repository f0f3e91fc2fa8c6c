use Rattle.std.proofs.Common.{◌≡◌, ◌-◌, take}
use Rattle.plant_types.specs.Standing.{cells_of_segments, message_count}
use Rattle.plant_types.proofs.standing.left_behind_segments.Given as goal

-- what is left behind the segments so far
abbrev pub invariant-loop-segment : goal.invariant-loop-segment
invariant-loop-segment l =
    l.left ≡ l.initial.left - message_count (cells_of_segments (take l.segment-index l.segments))

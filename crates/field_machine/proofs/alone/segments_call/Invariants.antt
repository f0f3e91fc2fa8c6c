use Rattle.std.proofs.Common.{◌≡◌, drop}
use Rattle.std.specs.List.{list_any}
use Rattle.plant_types.specs.Standing.{cells_of_segments}
use Rattle.field_machine.specs.Alone.{calls}
use Rattle.field_machine.proofs.alone.segments_call.Given as goal

abbrev pub invariant-loop-segment : goal.invariant-loop-segment
invariant-loop-segment l =
    list_any calls (cells_of_segments l.segments)
    ≡ list_any calls (cells_of_segments (drop l.segment-index l.segments))

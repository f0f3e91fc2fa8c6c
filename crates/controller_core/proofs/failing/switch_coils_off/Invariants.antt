use Rattle.std.proofs.Common.{◌≡◌, drop}
use Rattle.plant_types.specs.Store.{Keeps}
use Rattle.plant_types.specs.Standing.{cells_of_segments}
use Rattle.controller_core.specs.Machine.{HasCoils}
use Rattle.controller_core.specs.Replay.{coils_off, unlatched_coils}
use Rattle.controller_core.proofs.failing.switch_coils_off.Given as goal

abbrev pub invariant-loop-segment : goal.invariant-loop-segment
invariant-loop-segment l = record {
  off : coils_off (unlatched_coils (cells_of_segments (drop l.segment-index l.segments))) l.ram
      ≡ coils_off (unlatched_coils (cells_of_segments l.segments)) l.fn.ram;
  there : HasCoils l.ram (unlatched_coils (cells_of_segments (drop l.segment-index l.segments)));
  keeps : Keeps l.fn.ram l.ram;
}

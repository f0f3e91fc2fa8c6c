use Rattle.std.proofs.Common.{◌≡◌, drop}
use Rattle.plant_types.specs.Store.{Keeps}
use Rattle.controller_core.specs.Machine.{HasCoils}
use Rattle.controller_core.specs.Replay.{coils_off, unlatched_coils}
use Rattle.controller_core.proofs.failing.switch_cells_off.Given as goal

abbrev pub invariant-loop-cell : goal.invariant-loop-cell
invariant-loop-cell l = record {
  off : coils_off (unlatched_coils (drop l.cell-index l.cells)) l.ram
      ≡ coils_off (unlatched_coils l.cells) l.fn.ram;
  there : HasCoils l.ram (unlatched_coils (drop l.cell-index l.cells));
  keeps : Keeps l.fn.ram l.ram;
}

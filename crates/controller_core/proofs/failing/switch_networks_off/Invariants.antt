use Rattle.std.proofs.Common.{◌≡◌, drop}
use Rattle.plant_types.specs.Store.{Keeps}
use Rattle.plant_types.specs.Standing.{cells_of_networks}
use Rattle.controller_core.specs.Machine.{HasCoils}
use Rattle.controller_core.specs.Replay.{coils_off, unlatched_coils}
use Rattle.controller_core.proofs.failing.switch_networks_off.Given as goal

abbrev pub invariant-loop-network : goal.invariant-loop-network
invariant-loop-network l = record {
  off : coils_off (unlatched_coils (cells_of_networks (drop l.network-index l.networks))) l.ram
      ≡ coils_off (unlatched_coils (cells_of_networks l.networks)) l.fn.ram;
  there : HasCoils l.ram (unlatched_coils (cells_of_networks (drop l.network-index l.networks)));
  keeps : Keeps l.fn.ram l.ram;
}

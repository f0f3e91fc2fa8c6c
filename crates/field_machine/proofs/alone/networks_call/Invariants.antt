use Rattle.std.proofs.Common.{◌≡◌, drop}
use Rattle.std.specs.List.{list_any}
use Rattle.plant_types.specs.Standing.{cells_of_networks}
use Rattle.field_machine.specs.Alone.{calls}
use Rattle.field_machine.proofs.alone.networks_call.Given as goal

abbrev pub invariant-loop-network : goal.invariant-loop-network
invariant-loop-network l =
    list_any calls (cells_of_networks l.networks)
    ≡ list_any calls (cells_of_networks (drop l.network-index l.networks))

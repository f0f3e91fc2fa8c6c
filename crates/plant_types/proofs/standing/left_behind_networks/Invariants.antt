use Rattle.std.proofs.Common.{◌≡◌, ◌-◌, take}
use Rattle.plant_types.specs.Standing.{cells_of_networks, message_count}
use Rattle.plant_types.proofs.standing.left_behind_networks.Given as goal

-- what is left behind the networks so far
abbrev pub invariant-loop-network : goal.invariant-loop-network
invariant-loop-network l =
    l.left ≡ l.initial.left - message_count (cells_of_networks (take l.network-index l.networks))

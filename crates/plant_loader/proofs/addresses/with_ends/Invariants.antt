use Rattle.std.proofs.Common.{◌≡◌, ◌++◌, take}
use Rattle.plant_loader.specs.Whole.{end_addresses}
use Rattle.plant_loader.proofs.addresses.with_ends.Given as goal

-- the addresses so far
abbrev pub invariant-loop-bridge : goal.invariant-loop-bridge
invariant-loop-bridge l =
    l.all.items ≡ l.initial.all.items ++ end_addresses (take l.bridge-index l.bridges)

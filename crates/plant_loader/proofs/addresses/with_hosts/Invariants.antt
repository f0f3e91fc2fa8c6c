use Rattle.std.proofs.Common.{◌≡◌, ◌++◌, take}
use Rattle.std.specs.Prelude.{map}
use Rattle.plant_types.specs.declared.net.HostPlan.{HostPlan}
use Rattle.plant_loader.specs.Whole.{address_on}
use Rattle.plant_loader.proofs.addresses.with_hosts.Given as goal

-- the addresses so far
abbrev pub invariant-loop-host : goal.invariant-loop-host
invariant-loop-host l = l.addresses.items ≡ l.initial.addresses.items
    ++ map (λ (host : HostPlan). address_on host.network host.node) (take l.host-index l.hosts)

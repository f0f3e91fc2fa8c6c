use Rattle.std.proofs.Common.{sym, subst, map, [], List}
use Rattle.host_port.specs.declared.entry.HostEntry.{HostEntry}
use Rattle.host_port.specs.Kept.{IsHost, path_in}
use Rattle.plant_types.specs.declared.net.HostPlan.{HostPlan}
use Rattle.ring_core.specs.MstrBlock.{network_paths}
use Rattle.host_port.proofs.Keeping.{kept_new}
use Rattle.host_port.proofs.host.Host.new.Goals as goal

pub invariant_of-result : goal.invariant_of-result
invariant_of-result c =
    let paths = map (path_in []) network_paths in
    let new : IsHost c.args.plan.now 0 paths [] =
    record { sound = c.requires; kept = kept_new c.args.plan.now } in
    let copied = subst (λ (p : HostPlan). IsHost p 0 paths []) (sym c.in_ok-copied.ensures) new in
    subst (λ (h : List HostEntry). IsHost c.in_ok-copied.field-0 0 paths h)
    (sym c.new.ensures.items) copied

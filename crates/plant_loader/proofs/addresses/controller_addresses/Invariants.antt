use Rattle.std.proofs.Common.{◌≡◌, take}
use Rattle.std.specs.Prelude.{map}
use Rattle.plant_types.specs.declared.plan.ControllerPlan.{ControllerPlan}
use Rattle.plant_loader.specs.Whole.{address_on}
use Rattle.plant_loader.proofs.addresses.controller_addresses.Given as goal

-- the addresses so far
abbrev pub invariant-loop-plan : goal.invariant-loop-plan
invariant-loop-plan l = l.addresses.items
    ≡ map (λ (plan : ControllerPlan). address_on plan.network plan.node) (take l.plan-index l.plans)

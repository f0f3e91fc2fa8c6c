use Rattle.std.proofs.Common.{sym, subst}
use Rattle.plant_types.specs.Checks.{sizes_of}
use Rattle.plant_types.specs.Sizes.{cleared, discretes_of}
use Rattle.plant_types.specs.Store.{Keeps}
use Rattle.ladder_tests.proofs.segments.stores_of.Goals as goal

pub returns-clause-stored : goal.returns-clause-stored
returns-clause-stored c =
    let all = cleared (sizes_of c.args.plan.now) in
    subst (λ m. Keeps all m) (sym c.in_ok-ram.ensures) (λ at h. h)

pub returns-clause-discretes : goal.returns-clause-discretes
returns-clause-discretes c =
    let parts = cleared (discretes_of (sizes_of c.args.plan.now)) in
    subst (λ m. Keeps parts m) (sym c.in_ok-past.ensures) (λ at h. h)

pub returns-clause-ends : goal.returns-clause-ends
returns-clause-ends c =
    let follow = c.discretes_follow.ensures in
    let sizes = sizes_of c.args.plan.now in
    let all = cleared sizes in
    let parts = cleared (discretes_of sizes) in
    let ends : Keeps parts all =
    subst (λ m. Keeps m all) (follow.fresh sizes) (follow.held sizes all all (λ at h. h)) in
    subst (λ m. Keeps m c.in_ok-ram.ram) (sym c.in_ok-past.ensures)
    (subst (λ m. Keeps parts m) (sym c.in_ok-ram.ensures) ends)

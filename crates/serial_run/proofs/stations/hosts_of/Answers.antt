use Rattle.std.proofs.Common.{◌+◌, Some, ◌≡◌, ◌++◌, ◌∷◌, [], length, take, refl, sym, ap, subst}
use Rattle.std.proofs.Common.{◌∙◌, arith}
use Rattle.std.specs.List.{AllZip, slice_get}
use Rattle.std.proofs.lemmas.List.{take_more}
use Rattle.std.proofs.lemmas.Option.{slice_get_read}
use Rattle.serial_run.specs.Stations.{StartsHost}
use Rattle.plant_types.specs.declared.net.NetPlan.{NetPlan}
use Rattle.plant_types.specs.Plans.{IsNetPlan}
use Rattle.ring_core.specs.Legal.{IsMember}
use Rattle.net_laws.proofs.On.{host-at-on}
use Rattle.serial_run.proofs.Lists.{zip-push}
use Rattle.serial_run.proofs.stations.hosts_of.Goals as goal

-- the plan of the place, and that its node is on its network
pub host_of-requires-clause-net : goal.host_of-requires-clause-net
host_of-requires-clause-net c =
    let items = c.as_slice-plan-items.result.now in
    let at = c.loop-plan.plan-index in
    let plan = c.plan-item.result in
    let there : slice_get items at ≡ Some plan = slice_get_read items (length items) at plan refl
    (omega arith) c.plan-item.is in
    let on = host-at-on c.args.plant.now at plan c.requires.plant.sound
    (subst (λ l. slice_get l at ≡ Some plan) c.as_slice-plan-items.ensures there) in
    subst IsNetPlan (sym on.is) on.sound

pub host_of-requires-clause-member : goal.host_of-requires-clause-member
host_of-requires-clause-member c =
    let items = c.as_slice-plan-items.result.now in
    let at = c.loop-plan.plan-index in
    let plan = c.plan-item.result in
    let there : slice_get items at ≡ Some plan = slice_get_read items (length items) at plan refl
    (omega arith) c.plan-item.is in
    let on = host-at-on c.args.plant.now at plan c.requires.plant.sound
    (subst (λ l. slice_get l at ≡ Some plan) c.as_slice-plan-items.ensures there) in
    subst (λ (net : NetPlan). IsMember net plan.node) (sym on.is) on.member

pub loop-plan-preserved : goal.loop-plan-preserved
loop-plan-preserved c =
    let items = c.as_slice-plan-items.result.now in
    let at = c.loop-plan.plan-index in
    let plan = c.plan-item.result in
    let plans = c.args.plant.now.hosts in
    let R = StartsHost c.args.plant.now in
    let more = zip-push R (take at plans) c.loop-plan.stations.items plan _ c.loop-plan.invariant
    c.in_ok-host_of.ensures in
    let front : take (at + 1) items ≡ take at items ++ plan ∷ [] =
    take_more items at plan (omega arith) ∙ ap (λ p. take at items ++ p ∷ []) (sym c.plan-item.is)
    in
    let front' : take (at + 1) plans ≡ take at plans ++ plan ∷ [] =
    subst (λ l. take (at + 1) l ≡ take at l ++ plan ∷ []) c.as_slice-plan-items.ensures front in
    subst (λ l. AllZip R l c.push.new.self.items) (sym front')
    (subst (AllZip R (take at plans ++ plan ∷ [])) (sym c.in_ok-push.ensures.items) more)

use Rattle.std.proofs.Common.{◌+◌, ◌<◌, ◌≡◌, ◌++◌, ◌∷◌, ℕ, List, [], Some, get_or, length, take}
use Rattle.std.proofs.Common.{sym}
use Rattle.std.proofs.Common.{subst}
use Rattle.std.specs.List.{AllZip, slice_get}
use Rattle.std.proofs.lemmas.List.{take_more}
use Rattle.std.proofs.lemmas.Option.{slice_get-get_or}
use Rattle.plant_types.specs.declared.net.BridgePlan.{BridgePlan}
use Rattle.plant_types.specs.declared.plan.Plant.{Plant}
use Rattle.plant_types.specs.Plans.{IsPlant}
use Rattle.serial_run.specs.Stations.{StartsBridgeSite}
use Rattle.serial_run.proofs.Lists.{zip-push}
use Rattle.serial_run.proofs.Starting.{SiteFits, site-fits}
use Rattle.serial_run.proofs.stations.bridges_of.Goals as goal

-- the bridge that is read at a place fits its plant
fits-at : (plant : Plant) → IsPlant plant → (items : List BridgePlan) (at : ℕ) (d : BridgePlan)
    → items ≡ plant.bridges → at < length items → SiteFits plant (get_or items at d)
fits-at plant sound items at d same low =
    site-fits plant sound at (get_or items at d)
    (subst (λ (l : List BridgePlan). slice_get l at ≡ Some (get_or items at d)) same
    (slice_get-get_or items at d low))

-- one more item is read, and one more is made of it
push-read : {A B : Type 0} (R : A → B → Type 0) (items xs : List A) (at : ℕ) (d : A)
    (ys zs : List B) (y : B) → items ≡ xs → at < length items → AllZip R (take at xs) ys
    → R (get_or items at d) y → zs ≡ ys ++ y ∷ [] → AllZip R (take (at + 1) xs) zs
push-read R items xs at d ys zs y same low all it more =
    let front : take (at + 1) xs ≡ take at xs ++ get_or items at d ∷ [] =
    subst (λ (l : List _). take (at + 1) l ≡ take at l ++ get_or items at d ∷ []) same
    (take_more items at d low) in
    subst (λ (l : List _). AllZip R l zs) (sym front)
    (subst (AllZip R (take at xs ++ get_or items at d ∷ [])) (sym more)
    (zip-push R (take at xs) ys (get_or items at d) y all it))

pub bridge_of-requires-clause-plan : goal.bridge_of-requires-clause-plan
bridge_of-requires-clause-plan c =
    (fits-at c.args.plant.now c.requires.sound c.as_slice-plan-items.result.now
    c.loop-plan.plan-index _ c.as_slice-plan-items.ensures c.loop-plan-test.true).plan

pub bridge_of-requires-clause-left_net : goal.bridge_of-requires-clause-left_net
bridge_of-requires-clause-left_net c =
    (fits-at c.args.plant.now c.requires.sound c.as_slice-plan-items.result.now
    c.loop-plan.plan-index _ c.as_slice-plan-items.ensures c.loop-plan-test.true).left_net

pub bridge_of-requires-clause-left : goal.bridge_of-requires-clause-left
bridge_of-requires-clause-left c =
    (fits-at c.args.plant.now c.requires.sound c.as_slice-plan-items.result.now
    c.loop-plan.plan-index _ c.as_slice-plan-items.ensures c.loop-plan-test.true).left

pub bridge_of-requires-clause-right_net : goal.bridge_of-requires-clause-right_net
bridge_of-requires-clause-right_net c =
    (fits-at c.args.plant.now c.requires.sound c.as_slice-plan-items.result.now
    c.loop-plan.plan-index _ c.as_slice-plan-items.ensures c.loop-plan-test.true).right_net

pub bridge_of-requires-clause-right : goal.bridge_of-requires-clause-right
bridge_of-requires-clause-right c =
    (fits-at c.args.plant.now c.requires.sound c.as_slice-plan-items.result.now
    c.loop-plan.plan-index _ c.as_slice-plan-items.ensures c.loop-plan-test.true).right

pub loop-plan-preserved : goal.loop-plan-preserved
loop-plan-preserved c =
    push-read (StartsBridgeSite c.args.plant.now) c.as_slice-plan-items.result.now
    c.args.plant.now.bridges c.loop-plan.plan-index _ c.loop-plan.sites.items
    c.push.new.self.items _ c.as_slice-plan-items.ensures c.loop-plan-test.true
    c.loop-plan.invariant c.in_ok-bridge_of.ensures c.in_ok-push.ensures.items

-- What an entry makes of the two ends.
use Rattle.std.proofs.Common.{◌≡◌, ◌≢◌, ℕ, ◌==◌, Bool, cond, List, [], ◌∷◌, ◌++◌}
use Rattle.std.proofs.Common.{Option, Some, None, refl, ap, ◌∙◌}
use Rattle.std.proofs.lemmas.Bool.{eq-eqb, ne_eqb}
use Rattle.std.proofs.lemmas.List.Sums.{fold_push}
use Rattle.plant_types.specs.declared.net.BridgePlan.{BridgePlan}
use Rattle.bridge_relay.specs.declared.entry.BridgeEntry.{BridgeEntry}
use Rattle.bridge_relay.specs.declared.entry.BridgeEntry.TheVariants.{Accept, Forward, Finish}
use Rattle.bridge_relay.specs.declared.entry.BridgeEntry.TheVariants.{Back, Gone}
use Rattle.bridge_relay.specs.Machine.{EndIs, RelayIs, Waiting, near_end, far_end, far_side}
use Rattle.bridge_relay.specs.Machine.{with_ends, code_at_once, accepted, relay_step, side_of}
use Rattle.bridge_relay.specs.Machine.{relay_after}
use Rattle.bridge_relay.specs.Machine.{new_relay}
use Rattle.bridge_relay.specs.Kept.{code_between, near_accepted, far_accepted, near_after}
use Rattle.bridge_relay.specs.Kept.{far_after}

code_is : (plan : BridgePlan) (relay : RelayIs) (side : ℕ) (route : List ℕ)
    → code_at_once plan relay side route
    ≡ code_between (far_side plan side) (far_end plan relay side) route
code_is plan relay side [] = refl
code_is plan relay side (next ∷ rest) = refl

accepted_is : (plan : BridgePlan) (relay : RelayIs) (side : ℕ) (item : Waiting) (code : Option ℕ)
    → accepted plan relay side item code
    ≡ with_ends plan side (near_accepted (near_end plan relay side) item code)
    (far_accepted (far_end plan relay side) item code)
accepted_is plan relay side item None = refl
accepted_is plan relay side item (Some code) = refl

-- both ends after an entry, by whether the left one made it
abbrev both_by : BridgePlan → EndIs → EndIs → BridgeEntry → Bool → RelayIs
both_by plan left right entry by_left =
    let across = cond by_left plan.right plan.left in
    let near = cond by_left left right in
    let far = cond by_left right left in
    cond by_left
    (record {
      left = near_after across near far entry;
      right = far_after across near far entry;
    })
    (record {
      left = far_after across near far entry;
      right = near_after across near far entry;
    })

step_is : (plan : BridgePlan) (left right : EndIs) (entry : BridgeEntry)
    → relay_step plan (record { left = left; right = right }) entry
    ≡ both_by plan left right entry (side_of entry == plan.left)
step_is plan left right (Accept side id route request) =
    let relay : RelayIs = record { left = left; right = right } in
    let item : Waiting = record { id = id; route = route; request = request } in
    accepted_is plan relay side item (code_at_once plan relay side route)
    ∙ ap (λ code. with_ends plan side (near_accepted (near_end plan relay side) item code)
    (far_accepted (far_end plan relay side) item code)) (code_is plan relay side route)
step_is plan left right (Forward side old id route request) = refl
step_is plan left right (Finish side id result) = refl
step_is plan left right (Back side id reply) = refl
step_is plan left right (Gone side) = refl

-- an entry of the left end, and of the right one
pub step_left : (plan : BridgePlan) (left right : EndIs) (entry : BridgeEntry)
    → side_of entry ≡ plan.left
    → relay_step plan (record { left = left; right = right }) entry
    ≡ record {
      left = near_after plan.right left right entry;
      right = far_after plan.right left right entry;
    }
step_left plan left right entry is =
    step_is plan left right entry
    ∙ ap (both_by plan left right entry) (eq-eqb (side_of entry) plan.left is)

pub step_right : (plan : BridgePlan) (left right : EndIs) (entry : BridgeEntry)
    → side_of entry ≢ plan.left
    → relay_step plan (record { left = left; right = right }) entry
    ≡ record {
      left = far_after plan.left right left entry;
      right = near_after plan.left right left entry;
    }
step_right plan left right entry is =
    step_is plan left right entry
    ∙ ap (both_by plan left right entry) (ne_eqb (side_of entry) plan.left is)

-- both ends after one entry more
pub after_more : (plan : BridgePlan) (history : List BridgeEntry) (entry : BridgeEntry)
    → relay_after plan (history ++ entry ∷ []) ≡ relay_step plan (relay_after plan history) entry
after_more plan history entry = fold_push (relay_step plan) new_relay history entry

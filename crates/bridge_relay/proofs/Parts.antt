-- The paths of an end, and whether it has left, by its own entries alone.
use Rattle.std.proofs.Common.{◌≡◌, ◌≢◌, ℕ, ◌-◌, ◌==◌, Bool, true, false, cond, List, [], ◌∷◌, ◌++◌}
use Rattle.std.proofs.Common.{Option, Some, None, refl, sym, ap, ◌∙◌, subst, inl, inr, fold, set}
use Rattle.std.proofs.Common.{get_or, append_assoc}
use Rattle.std.proofs.lemmas.Bool.{cases_Bool, cases_eq, eq-eqb, ne_eqb}
use Rattle.std.specs.List.{filter, AllByRecursion}
use Rattle.plant_types.specs.declared.net.BridgePlan.{BridgePlan}
use Rattle.plant_types.specs.Plans.{IsBridgePlan}
use Rattle.bridge_relay.specs.declared.entry.BridgeEntry.{BridgeEntry}
use Rattle.bridge_relay.specs.declared.entry.BridgeEntry.TheVariants.{Accept, Forward, Finish}
use Rattle.bridge_relay.specs.declared.entry.BridgeEntry.TheVariants.{Back, Gone}
use Rattle.bridge_relay.specs.Machine.{EndIs, RelayIs, RelayPath, Waiting, unused_path, new_end}
use Rattle.bridge_relay.specs.Machine.{new_relay, near_end, out_call, relay_step, side_of}
use Rattle.bridge_relay.specs.Legal.{IsEnd, IsBridgeHistory, IsBridgeStep}
use Rattle.bridge_relay.specs.Kept.{code_between, near_accepted, far_accepted, near_after}
use Rattle.bridge_relay.specs.Kept.{far_after}
use Rattle.bridge_relay.specs.Laws.{end_after, is_by, OwnEntriesTellTheEnd}
use Rattle.bridge_relay.proofs.Steps.{step_left, step_right}

pub record Part : Type 0 where
  pub paths : List RelayPath
  pub gone : Bool

abbrev pub part_of : EndIs → Part
part_of end = record { paths = end.paths; gone = end.gone }

-- what an entry of its own makes of the part
abbrev pub part_step : Part → BridgeEntry → Part
part_step part (Accept side id route request) = part
part_step part (Forward side old id route request) = record part {
  paths = set part.paths (id.path - 1)
      (record { last = id.seq; out = Some (out_call old request) });
}
part_step part (Finish side id outcome) = record part {
  paths = set part.paths (id.path - 1)
      (record (get_or part.paths (id.path - 1) unused_path) { out = None });
}
part_step part (Back side id reply) = part
part_step part (Gone side) = record part { gone = true }

-- what any entry makes of it
abbrev pub own_step : ℕ → Part → BridgeEntry → Part
own_step side part entry = cond (is_by side entry) (part_step part entry) part

near_same : (near : EndIs) (item : Waiting) (code : Option ℕ)
    → part_of (near_accepted near item code) ≡ part_of near
near_same near item None = refl
near_same near item (Some code) = refl

far_same : (far : EndIs) (item : Waiting) (code : Option ℕ)
    → part_of (far_accepted far item code) ≡ part_of far
far_same far item None = refl
far_same far item (Some code) = refl

near_part : (across : ℕ) (near far : EndIs) (entry : BridgeEntry)
    → part_of (near_after across near far entry) ≡ part_step (part_of near) entry
near_part across near far (Accept side id route request) =
    near_same near (record { id = id; route = route; request = request })
    (code_between across far route)
near_part across near far (Forward side old id route request) = refl
near_part across near far (Finish side id outcome) = refl
near_part across near far (Back side id reply) = refl
near_part across near far (Gone side) = refl

far_part : (across : ℕ) (near far : EndIs) (entry : BridgeEntry)
    → part_of (far_after across near far entry) ≡ part_of far
far_part across near far (Accept side id route request) =
    far_same far (record { id = id; route = route; request = request })
    (code_between across far route)
far_part across near far (Forward side old id route request) = refl
far_part across near far (Finish side id outcome) = refl
far_part across near far (Back side id reply) = refl
far_part across near far (Gone side) = refl

-- the left end, and the right one, behind an entry
left_step : (plan : BridgePlan) (relay : RelayIs) (entry : BridgeEntry)
    → part_of (relay_step plan relay entry).left ≡ own_step plan.left (part_of relay.left) entry
left_step plan relay entry =
    let left = relay.left in
    let right = relay.right in
    let own = λ (b : Bool). cond b (part_step (part_of left) entry) (part_of left) in
    elim (cases_eq (side_of entry) plan.left) [
      | inl is ↦
          ap (λ (r : RelayIs). part_of r.left) (step_left plan left right entry is)
          ∙ near_part plan.right left right entry
          ∙ ap own (sym (eq-eqb (side_of entry) plan.left is))
      | inr is ↦
          ap (λ (r : RelayIs). part_of r.left) (step_right plan left right entry is)
          ∙ far_part plan.left right left entry
          ∙ ap own (sym (ne_eqb (side_of entry) plan.left is))
    ]

right_step : (plan : BridgePlan) (relay : RelayIs) (entry : BridgeEntry) → plan.left ≢ plan.right
    → IsEnd plan (side_of entry)
    → part_of (relay_step plan relay entry).right ≡ own_step plan.right (part_of relay.right) entry
right_step plan relay entry two made =
    let left = relay.left in
    let right = relay.right in
    let own = λ (b : Bool). cond b (part_step (part_of right) entry) (part_of right) in
    elim (cases_eq (side_of entry) plan.left) [
      | inl is ↦
          let apart : side_of entry ≢ plan.right = λ e. two (sym is ∙ e) in
          ap (λ (r : RelayIs). part_of r.right) (step_left plan left right entry is)
          ∙ far_part plan.right left right entry
          ∙ ap own (sym (ne_eqb (side_of entry) plan.right apart))
      | inr is ↦
          let here : side_of entry ≡ plan.right =
          elim made [ inl e ↦ absurd (is e) | inr e ↦ e ] in
          ap (λ (r : RelayIs). part_of r.right) (step_right plan left right entry is)
          ∙ near_part plan.left right left entry
          ∙ ap own (sym (eq-eqb (side_of entry) plan.right here))
    ]

-- an end of a bridge behind an entry
pub side_step : (plan : BridgePlan) (relay : RelayIs) (side : ℕ) (entry : BridgeEntry)
    → IsBridgePlan plan → IsEnd plan side → IsEnd plan (side_of entry)
    → part_of (near_end plan (relay_step plan relay entry) side)
    ≡ own_step side (part_of (near_end plan relay side)) entry
side_step plan relay side entry sound is made =
    let after = relay_step plan relay entry in
    elim (cases_eq side plan.left) [
      | inl e ↦
          let by : (side == plan.left) ≡ true = eq-eqb side plan.left e in
          ap (λ b. part_of (cond b after.left after.right)) by ∙ left_step plan relay entry
          ∙ ap (λ n. own_step n (part_of relay.left) entry) (sym e)
          ∙ ap (λ b. own_step side (part_of (cond b relay.left relay.right)) entry) (sym by)
      | inr other ↦
          let by : (side == plan.left) ≡ false = ne_eqb side plan.left other in
          let here : side ≡ plan.right = elim is [ inl e ↦ absurd (other e) | inr e ↦ e ] in
          ap (λ b. part_of (cond b after.left after.right)) by
          ∙ right_step plan relay entry sound.two_ends made
          ∙ ap (λ n. own_step n (part_of relay.right) entry) (sym here)
          ∙ ap (λ b. own_step side (part_of (cond b relay.left relay.right)) entry) (sym by)
    ]

abbrev AreByEnds : BridgePlan → List BridgeEntry → Type 0
AreByEnds plan history = AllByRecursion (λ entry. IsEnd plan (side_of entry)) history

side_steps : (plan : BridgePlan) (relay : RelayIs) (side : ℕ) (history : List BridgeEntry)
    → IsBridgePlan plan → IsEnd plan side → AreByEnds plan history
    → part_of (near_end plan (fold (relay_step plan) relay history) side)
    ≡ fold (own_step side) (part_of (near_end plan relay side)) history
side_steps plan relay side [] sound is made = refl
side_steps plan relay side (entry ∷ history) sound is made =
    side_steps plan (relay_step plan relay entry) side history sound is made.1
    ∙ ap (λ p. fold (own_step side) p history) (side_step plan relay side entry sound is made.0)

-- an end at first
pub first_part : (plan : BridgePlan) (side : ℕ)
    → part_of (near_end plan new_relay side) ≡ part_of new_end
first_part plan side = elim (cases_Bool (side == plan.left)) [
  | inl is ↦ ap (λ b. part_of (cond b new_relay.left new_relay.right)) is
  | inr is ↦ ap (λ b. part_of (cond b new_relay.left new_relay.right)) is
]

part_told : (plan : BridgePlan) (side : ℕ) (history : List BridgeEntry)
    → IsBridgePlan plan → IsEnd plan side → AreByEnds plan history
    → part_of (end_after plan history side) ≡ fold (own_step side) (part_of new_end) history
part_told plan side history sound is made =
    side_steps plan new_relay side history sound is made
    ∙ ap (λ p. fold (own_step side) p history) (first_part plan side)

-- the entries of the other side may be left out
own_alone : (side : ℕ) (part : Part) (history : List BridgeEntry)
    → fold (own_step side) part (filter (is_by side) history) ≡ fold (own_step side) part history
own_alone side part [] = refl
own_alone side part (entry ∷ history) =
    let own = filter (is_by side) history in
    elim (cases_Bool (is_by side entry)) [
      | inl is ↦
          ap (λ b. fold (own_step side) part (cond b (entry ∷ own) own)) is
          ∙ own_alone side (own_step side part entry) history
      | inr is ↦
          ap (λ b. fold (own_step side) part (cond b (entry ∷ own) own)) is
          ∙ own_alone side part history
          ∙ ap (λ b. fold (own_step side) (cond b (part_step part entry) part) history) (sym is)
    ]

all_filter : {A : Type 0} (P : A → Type 0) (test : A → Bool) (xs : List A) → AllByRecursion P xs
    → AllByRecursion P (filter test xs)
all_filter P test [] all = tt
all_filter P test (x ∷ xs) all =
    elim (test x) as (λ b. AllByRecursion P (cond b (x ∷ filter test xs) (filter test xs))) [
      | true ↦ (all.0, all_filter P test xs all.1)
      | false ↦ all_filter P test xs all.1
    ]

-- what each step has, each entry of a legal history has
pub all_steps : (plan : BridgePlan) (P : BridgeEntry → Type 0)
    → ((past : List BridgeEntry) (entry : BridgeEntry) → IsBridgeStep plan past entry → P entry)
    → (before history : List BridgeEntry) → IsBridgeHistory plan (before ++ history)
    → AllByRecursion P history
all_steps plan P each before [] legal = tt
all_steps plan P each before (entry ∷ history) legal = (
  each before entry (legal before history entry refl),
  all_steps plan P each (before ++ entry ∷ []) history
      (subst (IsBridgeHistory plan) (sym (append_assoc before (entry ∷ []) history)) legal),
)

pub own_tell : OwnEntriesTellTheEnd
own_tell plan history side sound legal is =
    let made : AreByEnds plan history = all_steps plan (λ e. IsEnd plan (side_of e))
    (λ past entry step. step.side.end) [] history legal in
    let kept = all_filter (λ e. IsEnd plan (side_of e)) (is_by side) history made in
    let both = part_told plan side history sound is made
    ∙ sym (own_alone side (part_of new_end) history)
    ∙ sym (part_told plan side (filter (is_by side) history) sound is kept) in
    record { paths = ap (λ (p : Part). p.paths) both; gone = ap (λ (p : Part). p.gone) both }

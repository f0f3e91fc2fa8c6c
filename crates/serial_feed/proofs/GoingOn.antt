-- Lists of controllers that go on, and fixed parts that agree on them.
use Rattle.std.proofs.Common.{◌≡◌, ℕ, zero, suc, ◌==◌, Bool, true, false, List, [], ◌∷◌, map}
use Rattle.std.proofs.Common.{set, Some, refl, sym, ap, subst, ◌∙◌}
use Rattle.std.specs.Prelude.{if◌then◌else◌, option_map}
use Rattle.std.specs.List.{AllZip, slice_get}
use Rattle.std.proofs.lemmas.Bool.{eqb-true}
use Rattle.std.proofs.lemmas.Option.{slice_get-map}
use Rattle.plant_types.specs.declared.drops.ScriptRow.{ScriptRow}
use Rattle.plant_types.specs.declared.plan.ControllerPlan.{ControllerPlan}
use Rattle.plant_types.specs.declared.plan.Plant.{Plant}
use Rattle.traffic_cop.specs.Feeding.{row_fed}
use Rattle.controller_core.specs.declared.entry.Entry.{Entry}
use Rattle.controller_core.specs.declared.fixed.Fixed.{Fixed}
use Rattle.controller_core.specs.Feeding.{CanFeedAfter}
use Rattle.joint_history.specs.declared.joint.ControllerLog.{ControllerLog}
use Rattle.joint_history.specs.declared.joint.Joint.{Joint}
use Rattle.joint_history.specs.JointLaws.{fixed_of}
use Rattle.fed_turns.specs.Agreeing.{AgreeOn, IsFront}
use Rattle.fed_turns.proofs.Agreements.{agree-front, front-all, front-then, rows}
use Rattle.serial_run.specs.Turns.{place_of_controller, with_list, IsControllerAt}
use Rattle.serial_run.proofs.Lists.{zip-position}
use Rattle.serial_feed.specs.Feeding.{plan_with, plant_fed, CanFeedIn}

-- ---- lists

pub get-set : {X : Type 0} (xs : List X) (at : ℕ) (x y : X) → slice_get xs at ≡ Some x
    → slice_get (set xs at y) at ≡ Some y
get-set [] at x y is = absurd (cc)
get-set (z ∷ xs) zero x y is = refl
get-set (z ∷ xs) (suc at) x y is = get-set xs at x y is

-- the list at a place goes on, and the others stay
set-later : (logs : List ControllerLog) (at k : ℕ) (log new l : ControllerLog)
    → slice_get logs at ≡ Some log → IsFront log.entries new.entries
    → slice_get logs k ≡ Some l
    → (later : ControllerLog) × (slice_get (set logs at new) k ≡ Some later)
    × IsFront l.entries later.entries
set-later [] at k log new l is front there = absurd (cc)
set-later (x ∷ logs) zero zero log new l is front there =
    let one : x ≡ log = cc in
    let two : x ≡ l = cc in
    (new, refl, subst (λ (y : ControllerLog). IsFront y.entries new.entries) (sym one ∙ two) front)
set-later (x ∷ logs) zero (suc k) log new l is front there = (l, there, front-all l.entries)
set-later (x ∷ logs) (suc at) zero log new l is front there = (l, there, front-all l.entries)
set-later (x ∷ logs) (suc at) (suc k) log new l is front there =
    set-later logs at k log new l is front there

images : {A B : Type 0} (f : A → B) (xs : List A) → AllZip (λ (x : A) (y : B). y ≡ f x) xs (map f xs)
images f [] = tt
images f (x ∷ xs) = (refl, images f xs)

agree-self : (fixed : Fixed) (h : List Entry) → AgreeOn fixed fixed h
agree-self fixed h = record {
  scans = refl;
  steps = λ scan. refl;
  entries = λ s step. refl;
  states = λ front x. refl;
}

module _ (plant : Plant) (scans node drop : ℕ) (row : ScriptRow) where
  abbrev pub fed : Plant
  fed = plant_fed plant node drop row

  abbrev pub with_row : ControllerPlan → ControllerPlan
  with_row plan = plan_with node drop row plan

  -- a controller's place, and its plan
  pub same-place : (n : ℕ) → place_of_controller fed n ≡ place_of_controller plant n
  same-place n = zip-position (λ (x y : ControllerPlan). y ≡ with_row x)
      (λ (x : ControllerPlan). x.node == n) (λ (y : ControllerPlan). y.node == n)
      plant.controllers (map with_row plant.controllers) (images with_row plant.controllers)
      (λ x y is. ap (λ (z : ControllerPlan). z.node == n) (sym is))

  pub at-fed : (joint : Joint) (at : ℕ) (plan : ControllerPlan) (log : ControllerLog)
      → IsControllerAt plant joint at plan log → IsControllerAt fed joint at (with_row plan) log
  at-fed joint at plan log is = record {
    plan_is = slice_get-map with_row plant.controllers at ∙ ap (option_map with_row) is.plan_is;
    log_is = is.log_is;
  }

  -- ---- what goes on

  abbrev pub GoesOn : Joint → Joint → Type 0
  GoesOn old new = (at : ℕ) (plan : ControllerPlan) (log : ControllerLog)
      → IsControllerAt plant old at plan log
      → (later : ControllerLog) × (slice_get new.controllers at ≡ Some later)
      × IsFront log.entries later.entries

  pub goes-same : (old new : Joint) → new ≡ old → GoesOn old new
  goes-same old new same at plan log is = (
    log,
    ap (λ (j : Joint). slice_get j.controllers at) same ∙ is.log_is,
    front-all log.entries,
  )

  -- only rings change
  pub goes-rings : (old new : Joint) → new.controllers ≡ old.controllers → GoesOn old new
  goes-rings old new same at plan log is = (
    log,
    ap (λ (l : List ControllerLog). slice_get l at) same ∙ is.log_is,
    front-all log.entries,
  )

  pub goes-then : (old mid new : Joint) → GoesOn old mid → GoesOn mid new → GoesOn old new
  goes-then old mid new x y at plan log is =
      let a = x at plan log is in
      let b = y at plan a.0 (record { plan_is = is.plan_is; log_is = a.1 }) in
      (b.0, b.1, front-then log.entries a.0.entries b.0.entries a.2 b.2)

  pub goes-set : (old new : Joint) (at : ℕ) (log : ControllerLog) (entries : List Entry)
      → slice_get old.controllers at ≡ Some log → IsFront log.entries entries
      → new.controllers ≡ (with_list at log entries old).controllers → GoesOn old new
  goes-set old new at log entries there front same k plan l is =
      let new_log : ControllerLog = record { node = log.node; entries = entries } in
      let it = set-later old.controllers at k log new_log l there front is.log_is in
      (it.0, ap (λ (logs : List ControllerLog). slice_get logs k) same ∙ it.1, it.2)

  -- ---- who agrees

  abbrev pub fixed_as : ControllerPlan → Fixed
  fixed_as plan = fixed_of plant scans plan

  abbrev pub fixed_fed_as : ControllerPlan → Fixed
  fixed_fed_as plan = fixed_of fed scans (with_row plan)

  abbrev pub Agrees : Joint → Type 0
  Agrees joint = (at : ℕ) (plan : ControllerPlan) (log : ControllerLog)
      → IsControllerAt plant joint at plan log
      → AgreeOn (fixed_as plan) (fixed_fed_as plan) log.entries

  agree-by : (b : Bool) (plan : ControllerPlan) (h : List Entry)
      → (b ≡ true → CanFeedAfter (fixed_as plan) h drop row)
      → AgreeOn (fixed_as plan) (fixed_of plant scans (record plan {
        drops = if b then row_fed plan.drops drop row else plan.drops;
      })) h
  agree-by true plan h can = rows (fixed_as plan) h drop row (can refl)
  agree-by false plan h can = agree-self (fixed_as plan) h

  pub agrees-last : (joint : Joint) → CanFeedIn plant scans node drop row joint → Agrees joint
  agrees-last joint can at plan log is =
      agree-by (plan.node == node) plan log.entries
      (λ yes. can at plan log is (eqb-true plan.node node yes))

  pub agrees-front : (old new : Joint) → GoesOn old new → Agrees new → Agrees old
  agrees-front old new goes agrees at plan log is =
      let g = goes at plan log is in
      agree-front (fixed_as plan) (fixed_fed_as plan) log.entries g.0.entries g.2
      (agrees at plan g.0 (record { plan_is = is.plan_is; log_is = g.1 }))

  -- the list that a turn leaves at a place
  pub agree-set : (old new : Joint) (at : ℕ) (plan : ControllerPlan) (log : ControllerLog)
      (entries : List Entry) → IsControllerAt plant old at plan log
      → new.controllers ≡ (with_list at log entries old).controllers → Agrees new
      → AgreeOn (fixed_as plan) (fixed_fed_as plan) entries
  agree-set old new at plan log entries is same agrees =
      let new_log : ControllerLog = record { node = log.node; entries = entries } in
      agrees at plan new_log (record {
        plan_is = is.plan_is;
        log_is = ap (λ (logs : List ControllerLog). slice_get logs at) same
            ∙ get-set old.controllers at log new_log is.log_is;
      })

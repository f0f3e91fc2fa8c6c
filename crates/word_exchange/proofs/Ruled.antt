-- Rows that are fed to a plant whose scripts a rule gives.
use Rattle.std.proofs.Common.{◌≡◌, ℕ, suc, ◌==◌, Bool, true, false, List, [], ◌∷◌, ◌++◌, map}
use Rattle.std.proofs.Common.{refl, sym, ap, ◌∙◌, append_assoc, arith, eq-eqb}
use Rattle.std.specs.Prelude.{◌&&◌, if◌then◌else◌, nat_eq}
use Rattle.std.specs.List.{All, AllByRecursion, IsDistinct}
use Rattle.std.proofs.lemmas.Bool.{eqb-true, ne_eqb}
use Rattle.std.proofs.lemmas.List.{append-nil}
use Rattle.plant_types.specs.declared.drops.IoDrop.{IoDrop}
use Rattle.plant_types.specs.declared.drops.ScriptRow.{ScriptRow}
use Rattle.plant_types.specs.declared.plan.ControllerPlan.{ControllerPlan}
use Rattle.plant_types.specs.declared.plan.Plant.{Plant}
use Rattle.traffic_cop.specs.Feeding.{row_fed, with_row}
use Rattle.joint_history.specs.declared.joint.Joint.{Joint}
use Rattle.peer_cop.specs.declared.wire.Wire.{Wire}
use Rattle.serial_feed.specs.Feeding.{plan_with, plant_fed}
use Rattle.word_exchange.specs.Exchange.{drop_exchanged, plan_exchanged, script_due}
use Rattle.word_exchange.specs.declared.feeding.WiredDrop.{WiredDrop}
use Rattle.word_exchange.specs.declared.running.WireReader.{WireReader}
use Rattle.word_exchange.specs.Feeding.{plant_with_all, plant_with_rows, rows_wanted}
use Rattle.word_exchange.specs.Feeding.{with_script}
use Rattle.word_exchange.specs.Rows.{is_wired}
use Rattle.word_exchange.specs.Scripts.{plan_by, plant_by, script_exchanged, script_with}
use Rattle.word_exchange.specs.Scripts.{script_with_all, HasDropsOnce, RowsFollowRules}

abbrev Rule : Type 0
Rule = ControllerPlan → IoDrop → List ScriptRow

-- ---- one row

number-apart : (a b number : ℕ) → a ≡ number → nat_eq a b ≡ false → (b == number) ≡ false
number-apart a b number same apart = ne_eqb b number
    (λ is. absurd (let it : nat_eq a b ≡ true = eq-eqb a b (same ∙ sym is) in
    let both : true ≡ false = sym it ∙ apart in cc))

module _ (script : IoDrop → List ScriptRow) (number : ℕ) (row : ScriptRow) where
  abbrev before : IoDrop → IoDrop
  before d = with_script d (script d)

  abbrev after : IoDrop → IoDrop
  after d = with_script d
      (if d.number == number then script d ++ row ∷ [] else script d)

  others-stay : (a : ℕ) (drops : List IoDrop) → a ≡ number
      → AllByRecursion (λ (y : ℕ). nat_eq a y ≡ false) (map (λ (d : IoDrop). d.number) drops)
      → map before drops ≡ map after drops
  others-stay a [] same all = refl
  others-stay a (d ∷ drops) same all =
      let not-it = number-apart a d.number number same all.0 in
      let rest = others-stay a drops same all.1 in
      λ i. with_script d (if sym not-it i then script d ++ row ∷ [] else script d) ∷ rest i

  drops-by : (d : IoDrop) (drops : List IoDrop) (b : Bool) → (d.number == number) ≡ b
      → (b ≡ true → map before drops ≡ map after drops)
      → row_fed (map before drops) number row ≡ map after drops
      → (if b then with_row (before d) row ∷ map before drops
      else before d ∷ row_fed (map before drops) number row)
      ≡ with_script d (if b then script d ++ row ∷ [] else script d) ∷ map after drops
  drops-by d drops true is stay more =
      ap (λ (l : List IoDrop). with_row (before d) row ∷ l) (stay refl)
  drops-by d drops false is stay more = ap (λ (l : List IoDrop). before d ∷ l) more

  drops-fed : (drops : List IoDrop) → IsDistinct nat_eq (map (λ (d : IoDrop). d.number) drops)
      → row_fed (map before drops) number row ≡ map after drops
  unfolding row_fed IsDistinct
  drops-fed [] once = refl
  drops-fed (d ∷ drops) once =
      drops-by d drops (d.number == number) refl
      (λ is. others-stay d.number drops (eqb-true d.number number is) once.0)
      (drops-fed drops once.1)

module _ (node number : ℕ) (row : ScriptRow) (script : Rule) where
  fed-by : (plan : ControllerPlan) (b : Bool) → HasDropsOnce plan
      → (if b then row_fed (plan_by script plan).drops number row else (plan_by script plan).drops)
      ≡ map (λ (d : IoDrop). with_script d
      (if b && (d.number == number) then script plan d ++ row ∷ [] else script plan d)) plan.drops
  fed-by plan true once = drops-fed (script plan) number row plan.drops once
  fed-by plan false once = refl

  plans-fed : (plans : List ControllerPlan) → All HasDropsOnce plans
      → map (plan_with node number row) (map (plan_by script) plans)
      ≡ map (plan_by (script_with node number (row ∷ []) script)) plans
  plans-fed [] once = refl
  plans-fed (plan ∷ plans) once =
      let here = fed-by plan (plan.node == node) (once 0 plan (omega arith)) in
      let rest = plans-fed plans (λ k d within. once (suc k) d (omega (arith, within))) in
      λ i. record plan { drops = here i } ∷ rest i

-- ---- rows after rows

add-by : (b : Bool) (old : List ScriptRow) (row : ScriptRow) (rows : List ScriptRow)
    → (if b then (if b then old ++ row ∷ [] else old) ++ rows
    else (if b then old ++ row ∷ [] else old))
    ≡ (if b then old ++ row ∷ rows else old)
add-by true old row rows = append_assoc old (row ∷ []) rows
add-by false old row rows = refl

none-by : (b : Bool) (old : List ScriptRow) → old ≡ (if b then old ++ [] else old)
none-by true old = sym (append-nil old)
none-by false old = refl

by-same : (one other : Rule) (plant : Plant)
    → ((plan : ControllerPlan) (d : IoDrop) → one plan d ≡ other plan d)
    → plant_by one plant ≡ plant_by other plant
by-same one other plant same = λ i. plant_by (λ plan d. same plan d i) plant

rows-fed : (node number : ℕ) (rows : List ScriptRow) (script : Rule) (plant : Plant)
    → All HasDropsOnce plant.controllers
    → plant_with_rows (plant_by script plant) node number rows
    ≡ plant_by (script_with node number rows script) plant
rows-fed node number [] script plant once =
    by-same script (script_with node number [] script) plant
    (λ plan d. none-by ((plan.node == node) && (d.number == number)) (script plan d))
rows-fed node number (row ∷ rows) script plant once =
    let one : plant_fed (plant_by script plant) node number row
    ≡ plant_by (script_with node number (row ∷ []) script) plant =
    ap (λ (l : List ControllerPlan). record plant { controllers = l })
    (plans-fed node number row script plant.controllers once) in
    ap (λ (p : Plant). plant_with_rows p node number rows) one
    ∙ rows-fed node number rows (script_with node number (row ∷ []) script) plant once
    ∙ by-same
    (script_with node number rows (script_with node number (row ∷ []) script))
    (script_with node number (row ∷ rows) script) plant
    (λ plan d. add-by ((plan.node == node) && (d.number == number)) (script plan d) row rows)

all-fed : (readers : List WireReader) (script : Rule) (plant : Plant) (wired : List WiredDrop)
    → All HasDropsOnce plant.controllers
    → plant_with_all readers (plant_by script plant) wired
    ≡ plant_by (script_with_all readers script wired) plant
all-fed readers script plant [] once = refl
all-fed readers script plant (one ∷ wired) once =
    let node = one.plan.now.node in
    let number = one.drop.now.number in
    let rows = rows_wanted readers one in
    ap (λ (p : Plant). plant_with_all readers p wired) (rows-fed node number rows script plant once)
    ∙ all-fed readers (script_with node number rows script) plant wired once

-- ---- the plant of a word exchange

wired-by : (b : Bool) (d : IoDrop) (due : List ScriptRow)
    → (if b then with_script d due else d) ≡ with_script d (if b then due else d.script)
wired-by true d due = refl
wired-by false d due = refl

module _ (plant : Plant) (wires : List Wire) (moments : List Joint) where
  drops-exchanged : (plan : ControllerPlan) (drops : List IoDrop)
      → map (drop_exchanged plant wires moments plan) drops
      ≡ map (λ (d : IoDrop). with_script d (script_exchanged plant wires moments plan d)) drops
  drops-exchanged plan [] = refl
  drops-exchanged plan (d ∷ drops) =
      let here = wired-by (is_wired wires plan.node d.number) d
      (script_due plant wires plan d moments) in
      let rest = drops-exchanged plan drops in
      λ i. here i ∷ rest i

  plans-exchanged : (plans : List ControllerPlan)
      → map (plan_exchanged plant wires moments) plans
      ≡ map (plan_by (script_exchanged plant wires moments)) plans
  plans-exchanged [] = refl
  plans-exchanged (plan ∷ plans) =
      let here = drops-exchanged plan plan.drops in
      let rest = plans-exchanged plans in
      λ i. record plan { drops = here i } ∷ rest i

pub rows-follow-rules : RowsFollowRules
rows-follow-rules = record {
  fed = λ script plant node number rows once.
      rows-fed node number rows script plant once;
  all = all-fed;
  exchanged = λ plant wires moments.
      ap (λ (l : List ControllerPlan). record plant { controllers = l })
      (plans-exchanged plant wires moments plant.controllers);
}

-- The plant of a word exchange by the scripts of its wired drops.
use Rattle.std.proofs.Common.{◌≡◌, ℕ, suc, ◌==◌, Bool, true, false, cond, List, []}
use Rattle.std.proofs.Common.{◌∷◌, ◌++◌, get_or, map, Option, Some, None, refl, sym, ap, ◌∙◌}
use Rattle.std.proofs.Common.{arith, append-nil}
use Rattle.std.specs.Prelude.{if◌then◌else◌, slice_get}
use Rattle.std.specs.List.{All, AllPairs, find}
use Rattle.std.proofs.lemmas.Bool.{and_parts, eqb-true}
use Rattle.plant_types.specs.declared.drops.IoDrop.{IoDrop}
use Rattle.plant_types.specs.declared.drops.ScriptRow.{ScriptRow}
use Rattle.plant_types.specs.declared.plan.ControllerPlan.{ControllerPlan}
use Rattle.plant_types.specs.declared.plan.Plant.{Plant}
use Rattle.plant_types.specs.Plans.{IsPlant}
use Rattle.traffic_cop.specs.Drops.{drop_named}
use Rattle.joint_history.specs.declared.joint.Joint.{Joint}
use Rattle.serial_feed.proofs.SerialLemmas.{all-at}
use Rattle.peer_cop.specs.declared.wire.Wire.{Wire}
use Rattle.peer_cop.specs.Plants.{plan_of}
use Rattle.word_exchange.specs.declared.feeding.WiredDrop.{WiredDrop}
use Rattle.word_exchange.specs.declared.running.WireReader.{WireReader}
use Rattle.word_exchange.specs.Exchange.{plant_exchanged, script_due}
use Rattle.word_exchange.specs.Exchanging.{AreWiredDrops}
use Rattle.word_exchange.specs.Feeding.{plant_with_all, rows_wanted, with_script, AreOtherDrops}
use Rattle.word_exchange.specs.Scripts.{plan_by, plant_by, script_exchanged, script_with}
use Rattle.word_exchange.specs.Scripts.{script_with_all, HasDropsOnce}
use Rattle.word_exchange.specs.Starting.{is_drop_of, rule_of, script_or}
use Rattle.word_exchange.proofs.Matching.{drop-own, plan-own, wired-as, WiredAs}
use Rattle.word_exchange.proofs.Ruled.{rows-follow-rules}

abbrev Rule : Type 0
Rule = ControllerPlan → IoDrop → List ScriptRow

-- ---- rules that agree on the drops of a plant

same-drops : (one other : IoDrop → List ScriptRow) (drops : List IoDrop)
    → ((j : ℕ) (d : IoDrop) → slice_get drops j ≡ Some d → one d ≡ other d)
    → map (λ (d : IoDrop). with_script d (one d)) drops
    ≡ map (λ (d : IoDrop). with_script d (other d)) drops
same-drops one other [] same = refl
same-drops one other (d ∷ drops) same =
    let here = same 0 d refl in
    let rest = same-drops one other drops (λ j. same (suc j)) in
    λ i. with_script d (here i) ∷ rest i

same-plans : (one other : Rule) (plans : List ControllerPlan)
    → ((k : ℕ) (plan : ControllerPlan) → slice_get plans k ≡ Some plan → (j : ℕ) (d : IoDrop)
    → slice_get plan.drops j ≡ Some d → one plan d ≡ other plan d)
    → map (plan_by one) plans ≡ map (plan_by other) plans
same-plans one other [] same = refl
same-plans one other (plan ∷ plans) same =
    let here = same-drops (one plan) (other plan) plan.drops (same 0 plan refl) in
    let rest = same-plans one other plans (λ k. same (suc k)) in
    λ i. record plan { drops = here i } ∷ rest i

-- two rules give every drop of a plant the same script
abbrev pub AgreeIn : Plant → Rule → Rule → Type 0
AgreeIn plant one other = (k : ℕ) (plan : ControllerPlan)
    → slice_get plant.controllers k ≡ Some plan → (j : ℕ) (d : IoDrop)
    → slice_get plan.drops j ≡ Some d → one plan d ≡ other plan d

pub same-plant : (one other : Rule) (plant : Plant) → AgreeIn plant one other
    → plant_by one plant ≡ plant_by other plant
same-plant one other plant same =
    ap (λ (l : List ControllerPlan). record plant { controllers = l })
    (same-plans one other plant.controllers same)

-- ---- the rows of all wired drops, at one drop

module _ (readers : List WireReader) (plan : ControllerPlan) (d : IoDrop) where
  abbrev rows_of : Option WiredDrop → List ScriptRow
  rows_of None = []
  rows_of (Some one) = rows_wanted readers one

  abbrev this : WiredDrop → Bool
  this one = is_drop_of plan.node d.number one

  abbrev rule_with : Rule → WiredDrop → Rule
  rule_with rule one =
      script_with one.plan.now.node one.drop.now.number (rows_wanted readers one) rule

  -- others than this drop leave its script
  others-leave : (rule : Rule) (wired : List WiredDrop)
      → All (λ (one : WiredDrop). this one ≡ false) wired
      → script_with_all readers rule wired plan d ≡ rule plan d
  others-leave rule [] none = refl
  others-leave rule (one ∷ wired) none =
      others-leave (rule_with rule one) wired
      (λ k e within. none (suc k) e (omega (arith, within)))
      ∙ ap (λ (b : Bool). if b then rule plan d ++ rows_wanted readers one else rule plan d)
      (none 0 one (omega arith))

  other-by : (one other : WiredDrop) (b : Bool) → this one ≡ true → AreOtherDrops one other
      → this other ≡ b → b ≡ false
  other-by one other false here apart is = refl
  other-by one other true here apart is =
      let mine = and_parts (plan.node == one.plan.now.node) (d.number == one.drop.now.number) here
      in
      let its = and_parts (plan.node == other.plan.now.node) (d.number == other.drop.now.number) is
      in
      absurd (apart
      (sym (eqb-true plan.node one.plan.now.node mine.0)
      ∙ eqb-true plan.node other.plan.now.node its.0)
      (sym (eqb-true d.number one.drop.now.number mine.1)
      ∙ eqb-true d.number other.drop.now.number its.1))

  all-step : (rule : Rule) (one : WiredDrop) (wired : List WiredDrop) (b : Bool) → this one ≡ b
      → (b ≡ true → All (λ (w : WiredDrop). this w ≡ false) wired)
      → script_with_all readers (rule_with rule one) wired plan d
      ≡ rule_with rule one plan d ++ rows_of (find this wired)
      → script_with_all readers (rule_with rule one) wired plan d
      ≡ rule plan d ++ rows_of (cond b (Some one) (find this wired))
  all-step rule one wired true is none more =
      others-leave (rule_with rule one) wired (none refl)
      ∙ ap (λ (b : Bool). if b then rule plan d ++ rows_wanted readers one else rule plan d) is
  all-step rule one wired false is none more =
      more
      ∙ ap (λ (b : Bool). (if b then rule plan d ++ rows_wanted readers one else rule plan d)
      ++ rows_of (find this wired)) is

  pub all-rows : (rule : Rule) (wired : List WiredDrop) → AllPairs AreOtherDrops wired
      → script_with_all readers rule wired plan d ≡ rule plan d ++ rows_of (find this wired)
  all-rows rule [] apart = sym (append-nil (rule plan d))
  all-rows rule (one ∷ wired) apart =
      all-step rule one wired (this one) refl
      (λ here k e within. other-by one (get_or wired k e) (this (get_or wired k e)) here
      (apart 0 (suc k) e (omega arith) (omega (arith, within))) refl)
      (all-rows (rule_with rule one) wired
      (λ i j e low within. apart (suc i) (suc j) e (omega (arith, low)) (omega (arith, within))))

-- ---- the plant of a word exchange

module _ (plant : Plant) (wires froms : List Wire) (wired : List WiredDrop)
    (sound : IsPlant plant) (once : All HasDropsOnce plant.controllers)
    (drops : AreWiredDrops plant wires froms wired) where
  abbrev HaveDue : List Joint → Type 0
  HaveDue moments = All (λ (one : WiredDrop).
      one.script ≡ script_due plant wires one.plan.now one.drop.now moments) wired

  -- the scripts of the wired drops are those of the exchange
  due-by : (moments : List Joint) → HaveDue moments → (plan : ControllerPlan) (d : IoDrop)
      (plan-is : plan_of plant plan.node ≡ Some plan)
      (drop-is : drop_named plan.drops d.number ≡ Some d) (o : Option WiredDrop)
      → WiredAs plant wires froms wired drops plan d plan-is drop-is o
      → script_or d o ≡ script_exchanged plant wires moments plan d
  due-by moments due plan d plan-is drop-is None it =
      sym (ap (λ (b : Bool). if b then script_due plant wires plan d moments else d.script) it)
  due-by moments due plan d plan-is drop-is (Some one) it =
      all-at (λ (w : WiredDrop). w.script ≡ script_due plant wires w.plan.now w.drop.now moments)
      wired it.0 one due it.1
      ∙ (λ i. script_due plant wires (it.2 i) (it.3 i) moments)
      ∙ sym (ap (λ (b : Bool). if b then script_due plant wires plan d moments else d.script) it.4)

  pub rule-agrees : (moments : List Joint) → HaveDue moments
      → AgreeIn plant (rule_of wired) (script_exchanged plant wires moments)
  rule-agrees moments due k plan there j d within =
      let plan-is = plan-own plant k plan sound there in
      let drop-is = drop-own plan j d (all-at HasDropsOnce plant.controllers k plan once there)
      within in
      due-by moments due plan d plan-is drop-is (find (is_drop_of plan.node d.number) wired)
      (wired-as plant wires froms wired drops plan d plan-is drop-is)

  pub plant-is : (moments : List Joint) → HaveDue moments
      → plant_by (rule_of wired) plant ≡ plant_exchanged plant wires moments
  plant-is moments due =
      same-plant (rule_of wired) (script_exchanged plant wires moments) plant
      (rule-agrees moments due)
      ∙ sym (rows-follow-rules.exchanged plant wires moments)

  -- with the rows that they are given, they are those at the next moment
  module _ (readers : List WireReader) (moments later : List Joint)
      (more : All (λ (one : WiredDrop).
      script_due plant wires one.plan.now one.drop.now moments ++ rows_wanted readers one
      ≡ script_due plant wires one.plan.now one.drop.now later) wired) where
    given-by : (plan : ControllerPlan) (d : IoDrop) (plan-is : plan_of plant plan.node ≡ Some plan)
        (drop-is : drop_named plan.drops d.number ≡ Some d) (o : Option WiredDrop)
        → WiredAs plant wires froms wired drops plan d plan-is drop-is o
        → script_exchanged plant wires moments plan d ++ rows_of readers plan d o
        ≡ script_exchanged plant wires later plan d
    given-by plan d plan-is drop-is None it =
        append-nil (script_exchanged plant wires moments plan d)
        ∙ ap (λ (b : Bool). if b then script_due plant wires plan d moments else d.script) it
        ∙ sym (ap (λ (b : Bool). if b then script_due plant wires plan d later else d.script) it)
    given-by plan d plan-is drop-is (Some one) it =
        ap (λ (b : Bool). (if b then script_due plant wires plan d moments else d.script)
        ++ rows_wanted readers one) it.4
        ∙ (λ i. script_due plant wires (sym it.2 i) (sym it.3 i) moments
        ++ rows_wanted readers one)
        ∙ all-at (λ (w : WiredDrop).
        script_due plant wires w.plan.now w.drop.now moments ++ rows_wanted readers w
        ≡ script_due plant wires w.plan.now w.drop.now later) wired it.0 one more it.1
        ∙ (λ i. script_due plant wires (it.2 i) (it.3 i) later)
        ∙ sym (ap (λ (b : Bool). if b then script_due plant wires plan d later else d.script) it.4)

    given-agrees : AgreeIn plant
        (script_with_all readers (script_exchanged plant wires moments) wired)
        (script_exchanged plant wires later)
    given-agrees k plan there j d within =
        let plan-is = plan-own plant k plan sound there in
        let drop-is = drop-own plan j d (all-at HasDropsOnce plant.controllers k plan once there)
        within in
        all-rows readers plan d (script_exchanged plant wires moments) wired drops.apart
        ∙ given-by plan d plan-is drop-is (find (is_drop_of plan.node d.number) wired)
        (wired-as plant wires froms wired drops plan d plan-is drop-is)

    pub plant-given : plant_with_all readers (plant_exchanged plant wires moments) wired
        ≡ plant_exchanged plant wires later
    plant-given =
        ap (λ (p : Plant). plant_with_all readers p wired)
        (rows-follow-rules.exchanged plant wires moments)
        ∙ rows-follow-rules.all readers (script_exchanged plant wires moments) plant wired once
        ∙ same-plant (script_with_all readers (script_exchanged plant wires moments) wired)
        (script_exchanged plant wires later) plant given-agrees
        ∙ sym (rows-follow-rules.exchanged plant wires later)

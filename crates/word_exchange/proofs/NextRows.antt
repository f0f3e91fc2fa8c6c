-- Wired drops can take the rows that they need, and with them have the scripts that are due next.
use Rattle.std.proofs.Common.{◌≡◌, ◌<◌, ◌≤◌, ℕ, zero, suc, ◌-◌, ◌==◌, Bool, true, false}
use Rattle.std.proofs.Common.{List, [], ◌∷◌, ◌++◌, length, map, max, Ok, Option, Some, refl}
use Rattle.std.proofs.Common.{sym, ap, subst, ◌∙◌, arith}
use Rattle.std.specs.Prelude.{if◌then◌else◌, option_map}
use Rattle.std.specs.List.{All, count_by, range_with_len}
use Rattle.std.specs.Option.{option_and_then}
use Rattle.std.proofs.lemmas.List.{length-map}
use Rattle.std.proofs.lemmas.List.FromFn.{length-range_with_len}
use Rattle.std.proofs.lemmas.List.Sums.{fold-append}
use Rattle.plant_types.specs.declared.drops.IoDrop.{IoDrop}
use Rattle.plant_types.specs.declared.drops.ScriptRow.{ScriptRow}
use Rattle.plant_types.specs.declared.plan.ControllerPlan.{ControllerPlan}
use Rattle.plant_types.specs.declared.plan.Plant.{Plant}
use Rattle.plant_types.specs.FirstFault.{first_failed}
use Rattle.plant_types.specs.Plans.{controller_nodes}
use Rattle.traffic_cop.specs.Drops.{drop_named}
use Rattle.traffic_cop.specs.DropTests.{cop_tests}
use Rattle.traffic_cop.specs.Exchange.{IsDrop}
use Rattle.traffic_cop.specs.Rows.{IsRunnablePlan}
use Rattle.controller_core.specs.declared.entry.Entry.{Entry}
use Rattle.joint_history.specs.declared.joint.ControllerLog.{ControllerLog}
use Rattle.joint_history.specs.declared.joint.Joint.{Joint}
use Rattle.serial_feed.proofs.SerialLemmas.{from-places, map-there}
use Rattle.serial_feed.proofs.SerialLemmas.{all-at}
use Rattle.peer_cop.specs.declared.wire.Wire.{Wire}
use Rattle.peer_cop.specs.Plants.{plan_of}
use Rattle.word_exchange.specs.declared.feeding.WiredDrop.{WiredDrop}
use Rattle.word_exchange.specs.declared.running.WireReader.{WireReader}
use Rattle.word_exchange.specs.Exchange.{plan_exchanged, plant_exchanged, row_now, row_total}
use Rattle.word_exchange.specs.Exchange.{rows_before, script_due, drop_exchanged}
use Rattle.word_exchange.specs.Exchanging.{froms_read, CanExchangeWords, IsWiredDrop}
use Rattle.word_exchange.specs.Exchanging.{IsWiredNow}
use Rattle.word_exchange.specs.Feeding.{rows_wanted, with_script, CanBeGiven, HasMadeAtMost}
use Rattle.word_exchange.specs.Feeding.{HasScript, HasScriptIn}
use Rattle.word_exchange.specs.Moments.{node_of_log}
use Rattle.word_exchange.specs.Rows.{inputs_a_scan, is_wired, own_row}
use Rattle.word_exchange.specs.Sendings.{sending_of}
use Rattle.word_exchange.specs.Sources.{row_brought, AreFroms}
use Rattle.word_exchange.specs.Starting.{IsDropAt}
use Rattle.word_exchange.specs.Words.{entries_of, is_input_of}
use Rattle.word_exchange.proofs.Matching.{find-at, plan-own}
use Rattle.word_exchange.proofs.Staying.{most-least, rows-stay}
use Rattle.word_exchange.proofs.StepsLeft.{entries-at}
use Rattle.word_exchange.proofs.TakingRows.{own-fits}
use Rattle.word_exchange.proofs.Tested.{drop-tested}
use Rattle.word_exchange.proofs.Tied.{row-tied}

-- ---- a drop of the plant

some-plan : (a b : ControllerPlan) → Some a ≡ Some b → a ≡ b
some-plan a b is = cc

pub named-at : (plant : Plant) (node number : ℕ) (plan : ControllerPlan) (d : IoDrop)
    → IsDropAt plant node number plan d → drop_named plan.drops number ≡ Some d
named-at plant node number plan d at =
    sym (ap (option_and_then (λ (p : ControllerPlan). drop_named p.drops number)) at.plan_is)
    ∙ at.drop_is

pub is-drop : (plant : Plant) (wires : List Wire) (node number : ℕ) (plan : ControllerPlan)
    (d : IoDrop) → CanExchangeWords plant wires → IsDropAt plant node number plan d → IsDrop d
is-drop plant wires node number plan d can at =
    let it = find-at (λ (p : ControllerPlan). p.node == node) plant.controllers plan at.plan_is in
    drop-tested plan number d
    (all-at IsRunnablePlan plant.controllers it.0 plan can.runs.controllers it.1)
    (all-at (λ (p : ControllerPlan). first_failed (cop_tests p) ≡ Ok tt) plant.controllers it.0 plan
    can.tested it.1)
    (named-at plant node number plan d at)

-- ---- the rows of a wired drop at the next moment

module _ (plant : Plant) (wires : List Wire) (readers : List WireReader) (moments : List Joint)
    (joint : Joint) where
  abbrev later : List Joint
  later = moments ++ joint ∷ []

  pub script-long : (plan : ControllerPlan) (d : IoDrop)
      → length (script_due plant wires plan d moments) ≡ row_total plan d.number moments
  script-long plan d =
      length-map (range_with_len 1 (row_total plan d.number moments)) _
      ∙ length-range_with_len 1 (row_total plan d.number moments)

  pub total-more : (plan : ControllerPlan) (number : ℕ) → row_total plan number later
      ≡ max (row_total plan number moments) (rows_before plan number joint)
  total-more plan number =
      fold-append (λ (most : ℕ) (j : Joint). max most (rows_before plan number j)) 1 moments
      (joint ∷ [])

  pub rows-next : (one : WiredDrop) → CanExchangeWords plant wires
      → AreFroms wires (froms_read readers)
      → All (λ (r : WireReader). r.sending ≡ sending_of plant later r.sending.wire) readers
      → IsWiredDrop plant wires (froms_read readers) one → IsWiredNow plant wires moments joint one
      → script_due plant wires one.plan.now one.drop.now moments ++ rows_wanted readers one
      ≡ script_due plant wires one.plan.now one.drop.now later
  rows-next one can froms sent is now =
      let plan = one.plan.now in
      let d = one.drop.now in
      let total = row_total plan d.number moments in
      let drop_is = is-drop plant wires plan.node d.number plan d can is.at in
      let same : (r : ℕ) → row_brought readers one.sources.items (own_row d r)
      ≡ row_now plant wires plan d later r = λ r.
      row-tied plant wires later readers froms sent plan.node d.number d.modules one.sources.items
      (own_row d r) is.sources (own-fits d r drop_is) in
      let long : length one.script ≡ total = ap length now.script ∙ script-long plan d in
      let more = total-more plan d.number in
      let needed = now.needed in
      let count : one.needed - length one.script ≡ row_total plan d.number later - total =
      omega (arith, long, more, needed) in
      ap (λ (l : List ScriptRow). script_due plant wires plan d moments ++ l)
      (λ i. map (λ (r : ℕ). same r i) (range_with_len (suc (long i)) (count i)))
      ∙ sym (rows-stay plant wires plan d moments joint)

-- ---- the rows can be taken

module _ (plant : Plant) (wires : List Wire) (moments : List Joint) (plan : ControllerPlan) where
  abbrev as_due : IoDrop → IoDrop
  as_due d = drop_exchanged plant wires moments plan d

  named-by : (b : Bool) (e : IoDrop) (one other : Option IoDrop) → one ≡ option_map as_due other
      → (if b then Some (as_due e) else one) ≡ option_map as_due (if b then Some e else other)
  named-by true e one other same = refl
  named-by false e one other same = same

  number-by : (b : Bool) (e : IoDrop) (due : List ScriptRow)
      → (if b then with_script e due else e).number ≡ e.number
  number-by true e due = refl
  number-by false e due = refl

  named-due : (drops : List IoDrop) (number : ℕ)
      → drop_named (map as_due drops) number ≡ option_map as_due (drop_named drops number)
  unfolding drop_named
  named-due [] number = refl
  named-due (e ∷ drops) number =
      ap (λ n. if n == number then Some (as_due e) else drop_named (map as_due drops) number)
      (number-by (is_wired wires plan.node e.number) e (script_due plant wires plan e moments))
      ∙ named-by (e.number == number) e (drop_named (map as_due drops) number)
      (drop_named drops number) (named-due drops number)

  find-due : (d : IoDrop) → drop_named plan.drops d.number ≡ Some d
      → is_wired wires plan.node d.number ≡ true
      → drop_named (plan_exchanged plant wires moments plan).drops d.number
      ≡ Some (with_script d (script_due plant wires plan d moments))
  find-due d named wired =
      named-due plan.drops d.number ∙ ap (option_map as_due) named
      ∙ ap (λ (b : Bool). Some (if b then with_script d (script_due plant wires plan d moments)
      else d)) wired

some-inputs : (n : ℕ) → (n ≡ 0 → ⊥) → 1 ≤ n
some-inputs zero none = absurd (none refl)
some-inputs (suc n) none = omega arith

module _ (plant : Plant) (wires : List Wire) (froms : List Wire) (moments : List Joint)
    (joint : Joint) (can : CanExchangeWords plant wires)
    (nodes : map node_of_log joint.controllers ≡ controller_nodes plant) (one : WiredDrop)
    (is : IsWiredDrop plant wires froms one) (now : IsWiredNow plant wires moments joint one) where
  abbrev plan : ControllerPlan
  plan = one.plan.now

  abbrev d : IoDrop
  d = one.drop.now

  has-script : HasScript plan d one.script (plant_exchanged plant wires moments)
  has-script =
      from-places (λ (f : ControllerPlan). f.node ≡ plan.node → HasScriptIn plan d one.script f)
      (map (plan_exchanged plant wires moments) plant.controllers)
      (λ k f there.
      let from = map-there (plan_exchanged plant wires moments) plant.controllers k f there in
      subst (λ (g : ControllerPlan). g.node ≡ plan.node → HasScriptIn plan d one.script g) from.2
      (λ here.
      let own : from.0 ≡ plan =
      some-plan from.0 plan
      (sym (plan-own plant k from.0 can.runs.sound from.1)
      ∙ ap (plan_of plant) here ∙ is.at.plan_is) in
      record {
        orders = λ i. (own i).orders;
        drop_is = (λ i. drop_named (plan_exchanged plant wires moments (own i)).drops d.number)
            ∙ find-due plant wires moments plan d
            (named-at plant plan.node d.number plan d is.at) is.wired
            ∙ ap (λ (rows : List ScriptRow). Some (with_script d rows)) (sym now.script);
      }))

  made-at-most : HasMadeAtMost plan d.number (length one.script) joint
  made-at-most =
      from-places (λ (log : ControllerLog). log.node ≡ plan.node
      → count_by (is_input_of plan d.number) log.entries ≤ length one.script) joint.controllers
      (λ k log there here.
      let entries : entries_of plan.node joint ≡ log.entries =
      ap (λ n. entries_of n joint) (sym here)
      ∙ entries-at plant wires moments 0 joint k log nodes can.runs.sound there in
      let few = now.made.few in
      let long = ap length now.script ∙ script-long plant wires [] moments joint plan d in
      let same = ap (λ (l : List Entry). count_by (is_input_of plan d.number) l) entries in
      omega (arith, few, long, same))

  pub can-given : length one.script < one.needed
      → CanBeGiven (plant_exchanged plant wires moments) joint one
  can-given few = record {
    has = has-script;
    own = is-drop plant wires plan.node d.number plan d can is.at;
    read = some-inputs (inputs_a_scan plan d.number) (λ none.
        let unread = now.made.unread none in
        let needed = now.needed in
        let long = ap length now.script ∙ script-long plant wires [] moments joint plan d in
        let least = most-least (rows_before plan d.number) 1 moments in
        omega (arith, few, unread, needed, long, least, none));
    made = made-at-most;
  }

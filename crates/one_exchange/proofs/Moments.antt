-- The rows that a repetition reaches are made by the moments before it.
use Rattle.std.proofs.Common.{◌≡◌, ◌<◌, ◌≤◌, ℕ, zero, suc, ◌+◌, ◌-◌, ◌==◌, Bool, true, false, List}
use Rattle.std.proofs.Common.{[], ◌∷◌}
use Rattle.std.proofs.Common.{◌++◌}
use Rattle.std.proofs.Common.{length, map, max, Some, refl, sym, ap, subst, ◌∙◌, arith}
use Rattle.std.proofs.Common.{append_assoc, append-nil, eq-eqb, length-append}
use Rattle.std.specs.Prelude.{if◌then◌else◌}
use Rattle.std.specs.List.{count_by, range_with_len, slice_get, AllZip}
use Rattle.std.proofs.lemmas.Bool.{ne_eqb}
use Rattle.std.proofs.lemmas.List.FromFn.{length-map-range_with_len}
use Rattle.std.proofs.lemmas.List.Sums.{fold-append}
use Rattle.std.proofs.Math.Nat.{min-eq_left}
use Rattle.plant_types.specs.declared.drops.IoDrop.{IoDrop}
use Rattle.plant_types.specs.declared.drops.ScriptRow.{ScriptRow}
use Rattle.plant_types.specs.declared.plan.ControllerPlan.{ControllerPlan}
use Rattle.plant_types.specs.declared.plan.Plant.{Plant}
use Rattle.plant_types.specs.Plans.{controller_nodes, IsPlant}
use Rattle.traffic_cop.specs.Exchange.{row_at}
use Rattle.traffic_cop.specs.Rows.{IsRunnablePlan}
use Rattle.joint_history.specs.declared.joint.ControllerLog.{ControllerLog}
use Rattle.joint_history.specs.declared.joint.Joint.{Joint}
use Rattle.joint_history.specs.JointLaws.{fixed_of}
use Rattle.joint_history.specs.Runnable.{CanRunPlant}
use Rattle.net_laws.proofs.Apart.{same-controller}
use Rattle.peer_cop.specs.declared.wire.Wire.{Wire}
use Rattle.peer_cop.specs.Plants.{plan_of}
use Rattle.fed_turns.specs.Agreeing.{AgreeOn}
use Rattle.word_exchange.specs.SerialRuns.{IsRepetition}
use Rattle.word_exchange.specs.SerialRuns.{empty_log, nothing_made, IsControllerAt}
use Rattle.word_exchange.proofs.SerialLemmas.{found-at, map-there}
use Rattle.one_run.proofs.Places.{all-at, at-map, some-same}
use Rattle.word_exchange.specs.Exchange.{exchanges_in, row_due, row_now, row_total, rows_before}
use Rattle.word_exchange.specs.Exchange.{script_due, ExchangesAreCounted, RepetitionsExchange}
use Rattle.word_exchange.specs.Exchange.{RowsStay}
use Rattle.word_exchange.specs.Moments.{node_of_log, RepetitionsGoOn}
use Rattle.word_exchange.specs.Rows.{inputs_a_scan, is_wired}
use Rattle.word_exchange.specs.Scripts.{plan_by, plant_by, script_exchanged, RowsFollowRules}
use Rattle.word_exchange.specs.Words.{entries_if, entries_of, is_input_of}
use Rattle.one_exchange.proofs.Ruled.{named-number, rules-agree, GiveSame, Rule}
use Rattle.one_exchange.proofs.Alike.{in_q, q as alike_plant, there-in_q, Agrees, Alike}

-- ---- lists that are found by their nodes

-- a list for each controller of a plant
abbrev pub HasLists : Plant → Joint → Type 0
HasLists plant joint = map node_of_log joint.controllers ≡ controller_nodes plant

-- the node of a plan
abbrev node_in : ControllerPlan → ℕ
node_in plan = plan.node

module _ (plant : Plant) (sound : IsPlant plant) where
  -- a controller is found by its node
  plan-at : (at : ℕ) (plan : ControllerPlan) → slice_get plant.controllers at ≡ Some plan
      → plan_of plant plan.node ≡ Some plan
  plan-at at plan is =
      found-at (λ (x : ControllerPlan). x.node == plan.node) plant.controllers at plan is
      (eq-eqb plan.node plan.node refl)
      (λ k other apart there. ne_eqb other.node plan.node
      (λ same. apart (same-controller plant sound k at other plan there is same)))

  -- a list has the node of the controller at its place
  node-at : (joint : Joint) → HasLists plant joint → (at : ℕ) (plan : ControllerPlan)
      (log : ControllerLog) → IsControllerAt plant joint at plan log → log.node ≡ plan.node
  node-at joint nodes at plan log is = some-same
      (sym (at-map node_of_log joint.controllers at log is.log_is)
      ∙ ap (λ (l : List ℕ). slice_get l at) nodes
      ∙ at-map node_in plant.controllers at plan is.plan_is)

  -- which no other list has
  node-once : (joint : Joint) → HasLists plant joint → (at k : ℕ) (plan : ControllerPlan)
      (other : ControllerLog) → slice_get plant.controllers at ≡ Some plan
      → slice_get joint.controllers k ≡ Some other → other.node ≡ plan.node → k ≡ at
  node-once joint nodes at k plan other is there same =
      let from = map-there node_in plant.controllers k other.node
      (sym (ap (λ (l : List ℕ). slice_get l k) nodes)
      ∙ at-map node_of_log joint.controllers k other there) in
      same-controller plant sound k at from.0 plan from.1 is (from.2 ∙ same)

  -- so a controller's list is found by its node
  entries-at : (joint : Joint) → HasLists plant joint → (at : ℕ) (plan : ControllerPlan)
      (log : ControllerLog) → IsControllerAt plant joint at plan log
      → entries_of plan.node joint ≡ log.entries
  entries-at joint nodes at plan log is = ap entries_if
      (found-at (λ (x : ControllerLog). x.node == plan.node) joint.controllers at log is.log_is
      (eq-eqb log.node plan.node (node-at joint nodes at plan log is))
      (λ k other apart there. ne_eqb other.node plan.node
      (λ same. apart (node-once joint nodes at k plan other is.plan_is there same))))

-- ---- a script whose first rows are those of another

-- an item of the first of two lists
get-front : {X : Type 0} (xs ys : List X) (i : ℕ) → i < length xs
    → slice_get (xs ++ ys) i ≡ slice_get xs i
get-front [] ys i low = absurd (omega (arith, low))
get-front (x ∷ xs) ys zero low = refl
get-front (x ∷ xs) ys (suc i) low = get-front xs ys i (omega (arith, low))

-- a row of the first of two scripts
row-front : (script rest : List ScriptRow) (k : ℕ) → 1 ≤ k → k ≤ length script
    → row_at (script ++ rest) k ≡ row_at script k
row-front script rest k from to =
    let long = length-append script rest in
    let within : k ≤ length (script ++ rest) = omega (arith, long, to) in
    ap (λ n. slice_get (script ++ rest) (n - 1)) (min-eq_left within)
    ∙ get-front script rest (k - 1) (omega (arith, from, to))
    ∙ ap (λ n. slice_get script (n - 1)) (sym (min-eq_left to))

module _ (stay : RowsStay) (plant : Plant) (wires : List Wire) (plan : ControllerPlan)
    (drop : IoDrop) where
  -- the script of the drop after these moments
  abbrev due : List Joint → List ScriptRow
  due moments = script_due plant wires plan drop moments

  -- rows that are there stay through all later moments
  due-front : (front more : List Joint)
      → (rest : List ScriptRow) × (due (front ++ more) ≡ due front ++ rest)
  due-front front [] = ([], ap due (append-nil front) ∙ sym (append-nil (due front)))
  due-front front (joint ∷ more) =
      let longer = front ++ joint ∷ [] in
      let new : List ScriptRow = map (row_now plant wires plan drop longer)
      (range_with_len (suc (row_total plan drop.number front))
      (row_total plan drop.number longer - row_total plan drop.number front)) in
      let later = due-front longer more in (
        new ++ later.0,
        ap due (sym (append_assoc front (joint ∷ []) more)) ∙ later.1
            ∙ ap (λ (l : List ScriptRow). l ++ later.0) (stay plant wires plan drop front joint)
            ∙ append_assoc (due front) new later.0,
      )

  -- so rows that are made are the same, whatever moments come
  row-same : (front more others : List Joint) (k : ℕ) → 1 ≤ k
      → k ≤ row_total plan drop.number front
      → row_at (due (front ++ others)) k ≡ row_at (due (front ++ more)) k
  row-same front more others k from to =
      let one = due-front front more in
      let two = due-front front others in
      let long = length-map-range_with_len (row_due plant wires plan drop front) 1
      (row_total plan drop.number front) in
      let within : k ≤ length (due front) = omega (arith, long, to) in
      ap (λ (s : List ScriptRow). row_at s k) two.1 ∙ row-front (due front) two.0 k from within
      ∙ sym (row-front (due front) one.0 k from within)
      ∙ sym (ap (λ (s : List ScriptRow). row_at s k) one.1)

  -- so the drop has the same row, wired or not
  exchanged-by : (b : Bool) (front more others moments later : List Joint) (k : ℕ) → 1 ≤ k
      → k ≤ row_total plan drop.number front → moments ≡ front ++ more → later ≡ front ++ others
      → row_at (if b then due later else drop.script) k
      ≡ row_at (if b then due moments else drop.script) k
  exchanged-by true front more others moments later k from to one two =
      ap (λ (l : List Joint). row_at (due l) k) two ∙ row-same front more others k from to
      ∙ sym (ap (λ (l : List Joint). row_at (due l) k) one)
  exchanged-by false front more others moments later k from to one two = refl

-- a drop has at the end as many rows as it has to have at the last moment
total-last : (plan : ControllerPlan) (n : ℕ) (before : List Joint) (old : Joint)
    → rows_before plan n old ≤ row_total plan n (before ++ old ∷ [])
total-last plan n before old =
    let sum = fold-append (λ (most : ℕ) (joint : Joint). max most (rows_before plan n joint)) 1
    before (old ∷ []) in
    omega (arith, sum)

-- ---- plants of two rules

-- they are alike but for their drops
like-by : (rule other : Rule) (plans : List ControllerPlan)
    → AllZip Alike (map (plan_by rule) plans) (map (plan_by other) plans)
like-by rule other [] = tt
like-by rule other (plan ∷ plans) =
    (record { drops = (plan_by other plan).drops; is = refl }, like-by rule other plans)

-- a rule changes no empty list
logs-by : (rule : Rule) (plans : List ControllerPlan)
    → map empty_log (map (plan_by rule) plans) ≡ map empty_log plans
logs-by rule [] = refl
logs-by rule (plan ∷ plans) =
    ap (λ (logs : List ControllerLog). empty_log plan ∷ logs) (logs-by rule plans)

-- the empty lists are those of all controllers
lists-first : (plans : List ControllerPlan)
    → map node_of_log (map empty_log plans) ≡ map node_in plans
lists-first [] = refl
lists-first (plan ∷ plans) = ap (λ (l : List ℕ). plan.node ∷ l) (lists-first plans)

-- a plant has a list for each controller at the start
pub has-lists-first : (plant : Plant) → HasLists plant (nothing_made plant)
has-lists-first plant = lists-first plant.controllers

module _ (plant : Plant) (scans : ℕ) (rule other : Rule) where
  -- the plant by one of the rules, and the controllers by the other
  abbrev pub p : Plant
  p = plant_by rule plant

  abbrev pub plans : List ControllerPlan
  plans = map (plan_by other) plant.controllers

  -- which are alike
  pub like : AllZip Alike p.controllers plans
  like = like-by rule other plant.controllers

  -- a rule leaves the joint history where nothing was made
  pub nothing-by : nothing_made p ≡ nothing_made plant
  nothing-by =
      let logs = logs-by rule plant.controllers in
      λ i. record (nothing_made plant) { controllers = logs i }

  module _ (counts : ExchangesAreCounted) (can : CanRunPlant p) where
    -- the plan at a place can be run
    runs-at : (at : ℕ) (plan : ControllerPlan) → slice_get plant.controllers at ≡ Some plan
        → IsRunnablePlan (plan_by rule plan)
    runs-at at plan is = all-at IsRunnablePlan p.controllers at (plan_by rule plan)
        can.controllers (at-map (plan_by rule) plant.controllers at plan is)

    -- they agree where the rules give the same rows
    agrees-by : (joint : Joint) → ((at : ℕ) (plan : ControllerPlan) (log : ControllerLog)
        (is : slice_get plant.controllers at ≡ Some plan)
        → slice_get joint.controllers at ≡ Some log
        → GiveSame counts (fixed_of plant scans plan) rule other (runs-at at plan is) log.entries)
        → Agrees p plans scans like joint
    agrees-by joint give at plan log is =
        let from = map-there (plan_by rule) plant.controllers at plan is.plan_is in
        let base = from.0 in
        let q = alike_plant p plans scans like in
        let theirs : in_q p plans scans like at plan is.plan_is ≡ plan_by other base =
        some-same (sym (there-in_q p plans scans like at plan is.plan_is)
        ∙ at-map (plan_by other) plant.controllers at base from.1) in
        subst (λ (y : ControllerPlan). AgreeOn (fixed_of p scans plan) (fixed_of q scans y)
        log.entries) (sym theirs)
        (subst (λ (x : ControllerPlan). AgreeOn (fixed_of p scans x)
        (fixed_of q scans (plan_by other base)) log.entries) from.2
        (rules-agree counts (fixed_of plant scans base) rule other (runs-at at base from.1)
        log.entries (give at base log from.1 is.log_is)))

    -- they do at the start
    pub agrees-first : Agrees p plans scans like (nothing_made plant)
    agrees-first = agrees-by (nothing_made plant) (λ at plan log is there n k d named low high.
        let from = map-there empty_log plant.controllers at log there in
        let none = ap (λ (l : ControllerLog). count_by (is_input_of plan n) l.entries) from.2 in
        absurd (omega (arith, low, high, none)))

-- ---- the laws of exchanges

-- what is known of word exchanges
pub record ExchangeLaws : Type 0 where
  pub counts : ExchangesAreCounted
  pub exchanges : RepetitionsExchange
  pub go_on : RepetitionsGoOn
  pub rules : RowsFollowRules
  pub stay : RowsStay

module _ (laws : ExchangeLaws) (plant : Plant) (wires : List Wire) (scans : ℕ)
    (moments others : List Joint) where
  -- the rules of two exchanges, and the plant of the first
  abbrev rule : Rule
  rule = script_exchanged plant wires moments

  abbrev other : Rule
  other = script_exchanged plant wires others

  abbrev fed : Plant
  fed = p plant scans rule other

  module _ (can : CanRunPlant fed) where
    -- a repetition keeps a list for each controller
    pub lists-next : (old next : Joint) → HasLists fed old → IsRepetition fed scans old next
        → HasLists fed next
    lists-next old next nodes r = (laws.go_on fed scans old next nodes r).nodes ∙ nodes

    -- the input exchanges after a repetition are at most the rows that had to be there before it
    reached : (old next : Joint) → HasLists fed old → IsRepetition fed scans old next
        → (at : ℕ) (plan : ControllerPlan) (log : ControllerLog) (n : ℕ)
        → slice_get plant.controllers at ≡ Some plan → slice_get next.controllers at ≡ Some log
        → count_by (is_input_of plan n) log.entries ≤ rows_before plan n old
    reached old next nodes r at plan log n is there =
        let mine = plan_by rule plan in
        let here : slice_get fed.controllers at ≡ Some mine =
        at-map (plan_by rule) plant.controllers at plan is in
        let most : exchanges_in plan n next ≤ exchanges_in plan n old + inputs_a_scan plan n =
        laws.exchanges fed scans mine n old next (plan-at fed can.sound at mine here) nodes r in
        let list : entries_of plan.node next ≡ log.entries =
        entries-at fed can.sound next (lists-next old next nodes r) at mine log
        (record { plan_is = here; log_is = there }) in
        let same = ap (count_by (is_input_of plan n)) list in
        omega (arith, most, same)

    -- where both plants have the rows of the moments so far, they agree on a repetition's lists
    pub agrees-next : (before : List Joint) (old next : Joint) (more later : List Joint)
        → moments ≡ (before ++ old ∷ []) ++ more → others ≡ (before ++ old ∷ []) ++ later
        → HasLists fed old → IsRepetition fed scans old next
        → Agrees fed (plans plant scans rule other) scans (like plant scans rule other) next
    agrees-next before old next more later one two nodes r =
        agrees-by plant scans rule other laws.counts can next
        (λ at plan log is there n k d named low high.
        let few = reached old next nodes r at plan log n is there in
        let number = named-number plan.drops n d named in
        let last = total-last plan n before old in
        let total = ap (λ (j : ℕ). row_total plan j (before ++ old ∷ [])) number in
        exchanged-by laws.stay plant wires plan d (is_wired wires plan.node d.number)
        (before ++ old ∷ []) more later moments others k low
        (omega (arith, high, few, last, total)) one two)

-- The input exchanges of a repetition: at most those of a full scan.
use Rattle.std.proofs.Common.{◌≡◌, ◌≤◌, ℕ, suc, ◌+◌, ◌-◌, ◌==◌, Bool, true, false, List, []}
use Rattle.std.proofs.Common.{◌∷◌, ◌++◌, length, map, filter, Option, Some, None, refl, sym, ap}
use Rattle.std.proofs.Common.{subst}
use Rattle.std.proofs.Common.{◌∙◌, append_assoc, length-append, arith}
use Rattle.std.specs.Prelude.{cond, if◌then◌else◌}
use Rattle.std.specs.List.{count_by, find, flat_map, range_with_len, slice_get, zip}
use Rattle.std.proofs.lemmas.List.Sums.{count_by-le-length, length-filter, sum_by-append}
use Rattle.std.proofs.lemmas.List.Sums.{sum_by-cons}
use Rattle.plant_types.specs.declared.plan.ControllerPlan.{ControllerPlan}
use Rattle.plant_types.specs.declared.plan.OrderRow.{OrderRow}
use Rattle.plant_types.specs.declared.plan.Plant.{Plant}
use Rattle.scan_order.specs.declared.due.ScanStep.{ScanStep}
use Rattle.scan_order.specs.declared.due.ScanStep.TheVariants as steps
use Rattle.scan_order.specs.declared.power.ScanPower.{ScanPower}
use Rattle.scan_order.specs.declared.power.ScanPower.TheVariants as powers
use Rattle.scan_order.specs.Due.{due, due_with, full_scan, input_of, input_steps, is_failing}
use Rattle.scan_order.specs.Due.{output_of, output_steps, place_after, row_of, row_steps, rows_from}
use Rattle.scan_order.specs.Due.{step_with, up_to_failure}
use Rattle.scan_order.specs.Power.{power_in}
use Rattle.controller_core.specs.declared.entry.Entry.{Entry}
use Rattle.controller_core.specs.declared.entry.Entry.TheVariants as entries
use Rattle.controller_core.specs.declared.fixed.Fixed.{Fixed}
use Rattle.controller_core.specs.Event.{entry_of}
use Rattle.controller_core.specs.Replay.{ControllerState, apply, replay}
use Rattle.controller_core.specs.Run.{entries_from}
use Rattle.joint_history.specs.declared.joint.ControllerLog.{ControllerLog}
use Rattle.joint_history.specs.JointLaws.{fixed_of}
use Rattle.joint_history.specs.Reading.{has_ended_at, is_ours}
use Rattle.serial_feed.specs.SerialRuns.{log_with_scan, scanned}
use Rattle.serial_feed.proofs.SerialLemmas.{Further}
use Rattle.word_exchange.specs.Exchange.{RepetitionsExchange}
use Rattle.word_exchange.specs.Moments.{node_of_log}
use Rattle.word_exchange.specs.Rows.{inputs_a_scan}
use Rattle.word_exchange.specs.Words.{entries_if, entries_of, is_input_of, names_drop}
use Rattle.word_exchange.proofs.Growing.{repetition-talks}

-- ---- counts

count-cons : {X : Type 0} (p : X → Bool) (x : X) (xs : List X)
    → count_by p (x ∷ xs) ≡ cond (p x) 1 0 + count_by p xs
count-cons p x xs = sum_by-cons (λ y. cond (p y) 1 0) x xs

count-append : {X : Type 0} (p : X → Bool) (xs ys : List X)
    → count_by p (xs ++ ys) ≡ count_by p xs + count_by p ys
count-append p xs ys = sum_by-append (λ y. cond (p y) 1 0) xs ys

module _ (plan : ControllerPlan) (number : ℕ) where
  abbrev input : Entry → Bool
  input e = is_input_of plan number e

  -- ---- entries of the communication are no inputs

  not-ours : (e : Entry) → is_ours e ≡ true → input e ≡ false
  not-ours entries.Begin is = refl
  not-ours (entries.Input row) is = absurd cc
  not-ours (entries.Solve row) is = refl
  not-ours (entries.Output row words) is = refl
  not-ours entries.End is = refl
  not-ours entries.Fail is = refl
  not-ours entries.Dark is = refl
  not-ours (entries.Collect calls) is = refl
  not-ours (entries.Peer id request reply) is = refl
  not-ours (entries.Off id request) is = refl
  not-ours (entries.Finish id result) is = refl

  ours-by : (b : Bool) (e : Entry) (es : List Entry) → is_ours e ≡ b
      → cond b (e ∷ filter is_ours es) (filter is_ours es) ≡ e ∷ es
      → (filter is_ours es ≡ es → count_by input es ≡ 0) → count_by input (e ∷ es) ≡ 0
  ours-by true e es ours all more =
      let rest : filter is_ours es ≡ es = cc in
      count-cons input e es
      ∙ (λ i. cond (not-ours e ours i) 1 0 + more rest i)
  ours-by false e es ours all more =
      let long = ap length all in
      let few = length-filter is_ours es in
      let least = count_by-le-length is_ours es in
      absurd (omega (arith, long, few, least))

  ours-none : (es : List Entry) → filter is_ours es ≡ es → count_by input es ≡ 0
  ours-none [] all = refl
  ours-none (e ∷ es) all = ours-by (is_ours e) e es refl all (ours-none es)

  further-same : (old new : List Entry) → Further is_ours old new
      → count_by input new ≡ count_by input old
  further-same old new f =
      let sum = ap (count_by input) f.is ∙ count-append input old f.more in
      let none = ours-none f.more f.mine in
      omega (arith, sum, none)

  -- ---- the steps of a scan

  is_in : ScanStep → Bool
  is_in steps.Begin = false
  is_in (steps.In row) = names_drop number (input_of (row_of plan row))
  is_in (steps.Solve row) = false
  is_in (steps.Out row) = false
  is_in steps.End = false
  is_in steps.Fail = false
  is_in steps.Dark = false

  abbrev ins : List ScanStep → ℕ
  ins list = count_by is_in list

  -- the steps of a row
  given : (row : ℕ) (o : Option ℕ) → input_of (row_of plan row) ≡ o
      → ins (step_with o (steps.In row)) ≡ cond (names_drop number (input_of (row_of plan row))) 1 0
  unfolding is_in
  given row None is = sym (ap (λ (o : Option ℕ). cond (names_drop number o) 1 0) is)
  given row (Some d) is = let sum = count-cons is_in (steps.In row) [] in omega (arith, sum)

  none-given : (row : ℕ) (o : Option ℕ) → ins (step_with o (steps.Out row)) ≡ 0
  unfolding is_in
  none-given row None = refl
  none-given row (Some d) = refl

  solve-none : (row : ℕ) (list : List ScanStep) → ins (steps.Solve row ∷ list) ≡ ins list
  unfolding is_in
  solve-none row list = count-cons is_in (steps.Solve row) list ∙ omega arith

  row-ins : (row : ℕ) → ins (row_steps plan row)
      ≡ cond (names_drop number (input_of (row_of plan row))) 1 0
  row-ins row =
      let all = count-append is_in (input_steps plan row)
      (steps.Solve row ∷ output_steps plan row) in
      let one = given row (input_of (row_of plan row)) refl in
      let none = solve-none row (output_steps plan row)
      ∙ none-given row (output_of (row_of plan row)) in
      omega (arith, all, one, none)

  seam : (front rest : List OrderRow) (row : OrderRow)
      → slice_get (front ++ row ∷ rest) (length front) ≡ Some row
  seam [] rest row = refl
  seam (x ∷ front) rest row = seam front rest row

  abbrev named : OrderRow → Bool
  named row = names_drop number row.input

  rows-ins : (front rest : List OrderRow) (at : ℕ) → plan.orders ≡ front ++ rest
      → at ≡ suc (length front)
      → ins (flat_map (row_steps plan) (range_with_len at (length rest))) ≡ count_by named rest
  rows-ins front [] at orders is = refl
  rows-ins front (row ∷ rest) at orders is =
      let next = flat_map (row_steps plan) (range_with_len (at + 1) (length rest)) in
      let all = count-append is_in (row_steps plan at) next in
      let place : at - 1 ≡ length front = omega arith in
      let found : row_of plan at ≡ Some row =
      (λ i. slice_get (orders i) (place i)) ∙ seam front rest row in
      let one = row-ins at ∙ ap (λ (o : Option OrderRow). cond (names_drop number (input_of o)) 1 0)
      found in
      let long = length-append front (row ∷ []) in
      let more = rows-ins (front ++ row ∷ []) rest (at + 1)
      (orders ∙ sym (append_assoc front (row ∷ []) rest)) (omega (arith, long)) in
      let sum = count-cons named row rest in
      omega (arith, all, one, more, sum)

  end-none : ins (steps.End ∷ []) ≡ 0
  unfolding is_in
  end-none = refl

  begin-none : (list : List ScanStep) → ins (steps.Begin ∷ list) ≡ ins list
  unfolding is_in
  begin-none list = count-cons is_in steps.Begin list ∙ omega arith

  from-first : ins (rows_from plan 1) ≡ inputs_a_scan plan number
  unfolding rows_from
  from-first =
      let many : suc (length plan.orders) - 1 ≡ length plan.orders = omega arith in
      let rows = flat_map (row_steps plan) (range_with_len 1 (suc (length plan.orders) - 1)) in
      let all = count-append is_in rows (steps.End ∷ []) in
      let each = ap (λ n. ins (flat_map (row_steps plan) (range_with_len 1 n))) many
      ∙ rows-ins [] plan.orders 1 refl refl in
      let none = end-none in
      omega (arith, all, each, none)

  full-ins : ins (full_scan plan) ≡ inputs_a_scan plan number
  full-ins = begin-none (rows_from plan 1) ∙ from-first

  fail-by : (b : Bool) (step : ScanStep) (rest cut : List ScanStep) → ins cut ≤ ins rest
      → ins (step ∷ (if b then steps.Fail ∷ [] else cut)) ≤ ins (step ∷ rest)
  unfolding is_in
  fail-by true step rest cut less =
      let all = count-cons is_in step (steps.Fail ∷ []) in
      let most = count-cons is_in step rest in
      let none : ins (steps.Fail ∷ []) ≡ 0 = refl in
      omega (arith, all, most, none)
  fail-by false step rest cut less =
      let all = count-cons is_in step cut in
      let most = count-cons is_in step rest in
      omega (arith, all, most, less)

  fail-ins : (row : ℕ) (list : List ScanStep) → ins (up_to_failure row list) ≤ ins list
  unfolding up_to_failure
  fail-ins row [] = omega arith
  fail-ins row (step ∷ rest) =
      fail-by (is_failing row (place_after step)) step rest (up_to_failure row rest)
      (fail-ins row rest)

  due-by : (power : ScanPower) → ins (due_with plan power) ≤ inputs_a_scan plan number
  unfolding is_in
  due-by powers.Stays = let full = full-ins in omega (arith, full)
  due-by (powers.Fails row) =
      let full = full-ins in
      let less = fail-ins row (full_scan plan) in
      omega (arith, full, less)
  due-by powers.Dark = omega arith

-- ---- the entries of a scan

module _ (f : Fixed) (number : ℕ) where
  entry-in : (s : ControllerState) (step : ScanStep)
      → is_input_of f.plan number (entry_of f s step) ≡ is_in f.plan number step
  unfolding is_in
  entry-in s steps.Begin = refl
  entry-in s (steps.In row) = refl
  entry-in s (steps.Solve row) = refl
  entry-in s (steps.Out row) = refl
  entry-in s steps.End = refl
  entry-in s steps.Fail = refl
  entry-in s steps.Dark = refl

  entries-by : (b : Bool) (s : ControllerState) (step : ScanStep) (list : List ScanStep)
      (more : List Entry)
      → count_by (is_input_of f.plan number) more ≤ count_by (is_in f.plan number) list
      → count_by (is_input_of f.plan number) (if b then entry_of f s step ∷ more else [])
      ≤ count_by (is_in f.plan number) (step ∷ list)
  entries-by true s step list more less =
      let one = count-cons (is_input_of f.plan number) (entry_of f s step) more
      ∙ ap (λ (b : Bool). cond b 1 0 + count_by (is_input_of f.plan number) more)
      (entry-in s step) in
      let most = count-cons (is_in f.plan number) step list in
      omega (arith, one, most, less)
  entries-by false s step list more less = omega arith

  entries-ins : (s : ControllerState) (list : List ScanStep)
      → count_by (is_input_of f.plan number) (entries_from f s list)
      ≤ count_by (is_in f.plan number) list
  unfolding entries_from
  entries-ins s [] = omega arith
  entries-ins s (step ∷ list) =
      entries-by (s.stop == 0) s step list (entries_from f (apply f s (entry_of f s step)) list)
      (entries-ins (apply f s (entry_of f s step)) list)

  abbrev events : List Entry → List Entry
  events h = entries_from f (replay f h) (due f.plan ((replay f h).gone + 1))

  scan-by : (b : Bool) (h : List Entry)
      → count_by (is_input_of f.plan number) (if b then h else h ++ events h)
      ≤ count_by (is_input_of f.plan number) h + inputs_a_scan f.plan number
  scan-by true h = omega arith
  scan-by false h =
      let all = count-append (is_input_of f.plan number) h (events h) in
      let some = entries-ins (replay f h) (due f.plan ((replay f h).gone + 1)) in
      let most = due-by f.plan number (power_in f.plan ((replay f h).gone + 1)) in
      omega (arith, all, some, most)

-- ---- the scans of all controllers

module _ (plant : Plant) (scans number node : ℕ) (plan : ControllerPlan) where
  abbrev of_node : ControllerLog → Bool
  of_node log = log.node == node

  abbrev made : List Entry → ℕ
  made list = count_by (is_input_of plan number) list

  pick-by : (b : Bool) (x : ControllerPlan) (log : ControllerLog) (later : Option ControllerPlan)
      (old new : Option ControllerLog) → cond b (Some x) later ≡ Some plan
      → (later ≡ Some plan
      → made (entries_if new) ≤ made (entries_if old) + inputs_a_scan plan number)
      → made (entries_if (cond b (Some (log_with_scan plant scans (x, log))) new))
      ≤ made (entries_if (cond b (Some log) old)) + inputs_a_scan plan number
  pick-by true x log later old new is more =
      let same : x ≡ plan = cc in
      subst (λ (y : ControllerPlan). made (log_with_scan plant scans (y, log)).entries
      ≤ made log.entries + inputs_a_scan plan number) (sym same)
      (scan-by (fixed_of plant scans plan) number
      (has_ended_at (fixed_of plant scans plan) log.entries) log.entries)
  pick-by false x log later old new is more = more is

  scans-made : (plans : List ControllerPlan) (logs : List ControllerLog)
      → map node_of_log logs ≡ map (λ (x : ControllerPlan). x.node) plans
      → find (λ (x : ControllerPlan). x.node == node) plans ≡ Some plan
      → made (entries_if (find of_node (map (log_with_scan plant scans) (zip plans logs))))
      ≤ made (entries_if (find of_node logs)) + inputs_a_scan plan number
  scans-made [] logs same is = absurd cc
  scans-made (x ∷ plans) [] same is = absurd cc
  scans-made (x ∷ plans) (log ∷ logs) same is =
      let here : log.node ≡ x.node = cc in
      let rest : map node_of_log logs ≡ map (λ (y : ControllerPlan). y.node) plans = cc in
      let later = find (λ (y : ControllerPlan). y.node == node) plans in
      pick-by (log.node == node) x log later (find of_node logs)
      (find of_node (map (log_with_scan plant scans) (zip plans logs)))
      (ap (λ n. cond (n == node) (Some x) later) here ∙ is)
      (scans-made plans logs rest)

pub exchanges : RepetitionsExchange
exchanges plant scans plan number old new has same r =
    let t = repetition-talks plant scans old new r in
    let mid = scanned plant scans old in
    let scan = scans-made plant scans number plan.node plan plant.controllers old.controllers same
    has in
    let rest = further-same plan number (entries_of plan.node mid) (entries_of plan.node new)
    (t.entries plan.node) in
    omega (arith, scan, rest)

-- Two rules for the scripts of a plan's drops make fixed parts that agree on a history, where they
-- give the same rows as far as the history reads.
use Rattle.std.proofs.Common.{◌≡◌, ◌≤◌, ℕ, zero, suc, ◌+◌, ◌-◌, ◌==◌, Bool, true, false, List, []}
use Rattle.std.proofs.Common.{◌∷◌, ◌++◌}
use Rattle.std.proofs.Common.{fold, map, Option, Some, None, refl, sym, ap, subst, ◌∙◌, arith}
use Rattle.std.proofs.Common.{append_assoc, eq-eqb}
use Rattle.std.specs.Prelude.{cond, if◌then◌else◌, option_map, slice_index, slice_set}
use Rattle.std.specs.List.{count_by, slice_get, AllByRecursion}
use Rattle.std.proofs.lemmas.Bool.{eqb-true}
use Rattle.std.proofs.lemmas.List.Sums.{fold-append, sum_by-append, sum_by-cons}
use Rattle.plant_types.specs.declared.drops.IoDrop.{IoDrop}
use Rattle.plant_types.specs.declared.drops.ScriptRow.{ScriptRow}
use Rattle.plant_types.specs.declared.plan.ControllerPlan.{ControllerPlan}
use Rattle.plant_types.specs.declared.plan.OrderRow.{OrderRow}
use Rattle.plant_types.specs.Store.{Contents}
use Rattle.scan_order.specs.declared.due.ScanStep.{ScanStep}
use Rattle.scan_order.specs.declared.due.ScanStep.TheVariants as steps
use Rattle.scan_order.specs.Due.{due, input_of, output_of, row_of, rows_from}
use Rattle.scan_order.specs.Power.{power_in}
use Rattle.traffic_cop.specs.Drops.{drop_named, exchanged_in, input_after, outputs_in}
use Rattle.traffic_cop.specs.Exchange.{exchanged_by, row_at}
use Rattle.traffic_cop.specs.Rows.{FitsPlan, HasDrop, IsRunnablePlan, NamesDrop}
use Rattle.controller_core.specs.declared.entry.Entry.{Entry}
use Rattle.controller_core.specs.declared.entry.Entry.TheVariants as entries
use Rattle.controller_core.specs.declared.fixed.Fixed.{Fixed}
use Rattle.controller_core.specs.Event.{entry_of, outputs_to}
use Rattle.controller_core.specs.Replay.{ControllerState, apply, read_in, replay, start}
use Rattle.fed_turns.specs.Agreeing.{AgreeOn}
use Rattle.peer_cop.proofs.PlantLemmas.{named_find}
use Rattle.word_exchange.proofs.SerialLemmas.{found-place}
use Rattle.word_exchange.specs.Exchange.{ExchangesAreCounted}
use Rattle.word_exchange.specs.Feeding.{with_script}
use Rattle.word_exchange.specs.Scripts.{plan_by}
use Rattle.word_exchange.specs.Words.{is_input_of, names_drop}

-- a script for each drop of a controller
abbrev pub Rule : Type 0
Rule = ControllerPlan → IoDrop → List ScriptRow

-- ---- counts

-- the counts of two lists add up
count-append : {X : Type 0} (p : X → Bool) (xs ys : List X)
    → count_by p (xs ++ ys) ≡ count_by p xs + count_by p ys
count-append p xs ys = sum_by-append (λ y. cond (p y) 1 0) xs ys

-- one that passes counts
count-one : {X : Type 0} (p : X → Bool) (x : X) (xs : List X) → p x ≡ true
    → count_by p (x ∷ xs) ≡ 1 + count_by p xs
count-one p x xs is = sum_by-cons (λ y. cond (p y) 1 0) x xs
    ∙ ap (λ (b : Bool). cond b 1 0 + count_by p xs) is

-- ---- drops with other scripts

-- a drop with the script that it is given
abbrev pub scripted : (IoDrop → List ScriptRow) → IoDrop → IoDrop
scripted script drop = with_script drop (script drop)

-- so it is at the head of the drops
named-step : (script : IoDrop → List ScriptRow) (d : IoDrop) (drops : List IoDrop) (n : ℕ)
    (b : Bool)
    → drop_named (map (scripted script) drops) n
    ≡ option_map (scripted script) (drop_named drops n)
    → (if b then Some (scripted script d) else drop_named (map (scripted script) drops) n)
    ≡ option_map (scripted script) (if b then Some d else drop_named drops n)
named-step script d drops n true more = refl
named-step script d drops n false more = more

-- the drop of a number is that of before, with its script
pub named-by : (script : IoDrop → List ScriptRow) (drops : List IoDrop) (n : ℕ)
    → drop_named (map (scripted script) drops) n
    ≡ option_map (scripted script) (drop_named drops n)
unfolding drop_named
named-by script [] n = refl
named-by script (d ∷ drops) n =
    named-step script d drops n (d.number == n) (named-by script drops n)

-- the drop of a number has it
pub named-number : (drops : List IoDrop) (n : ℕ) (d : IoDrop) → drop_named drops n ≡ Some d
    → d.number ≡ n
named-number drops n d is =
    eqb-true d.number n
    (found-place (λ (x : IoDrop). x.number == n) drops d (named_find drops n ∙ is)).2

-- a drop gives the same words, whatever its script
words-in : (script : IoDrop → List ScriptRow) (o : Option IoDrop) (m : Contents)
    → outputs_in (option_map (scripted script) o) m ≡ outputs_in o m
words-in script None m = refl
words-in script (Some d) m = refl

-- so does the drop that a row of the order of solve names
words-to : (script : IoDrop → List ScriptRow) (drops : List IoDrop) (o : Option ℕ) (m : Contents)
    → outputs_to (map (scripted script) drops) o m ≡ outputs_to drops o m
words-to script drops None m = refl
words-to script drops (Some n) m =
    ap (λ (o : Option IoDrop). outputs_in o m) (named-by script drops n)
    ∙ words-in script (drop_named drops n) m

-- an exchange brings the same where the row is the same
given-in : (script other : IoDrop → List ScriptRow) (o : Option IoDrop) (k : ℕ) (m : Contents)
    → ((d : IoDrop) → o ≡ Some d → row_at (other d) k ≡ row_at (script d) k)
    → exchanged_in (option_map (scripted other) o) k m
    ≡ exchanged_in (option_map (scripted script) o) k m
given-in script other None k m each = refl
given-in script other (Some d) k m each =
    ap (λ (r : Option ScriptRow). exchanged_by r d.modules m) (each d refl)

-- so does the exchange of the drop of a number
given-same : (script other : IoDrop → List ScriptRow) (drops : List IoDrop) (n k : ℕ)
    (m : Contents)
    → ((d : IoDrop) → drop_named drops n ≡ Some d → row_at (other d) k ≡ row_at (script d) k)
    → input_after (map (scripted other) drops) n k m
    ≡ input_after (map (scripted script) drops) n k m
given-same script other drops n k m each =
    ap (λ (o : Option IoDrop). exchanged_in o k m) (named-by other drops n)
    ∙ given-in script other (drop_named drops n) k m each
    ∙ ap (λ (o : Option IoDrop). exchanged_in o k m) (sym (named-by script drops n))

-- ---- drops that the order of solve names

-- a drop that is named is there
names-it : (plan : ControllerPlan) (o : Option ℕ) (n : ℕ) → o ≡ Some n → NamesDrop plan o
    → HasDrop plan n
names-it plan None n is has = absurd cc
names-it plan (Some m) n is has = let same : m ≡ n = cc in subst (HasDrop plan) same has

-- so is one that a row of the order of solve names as input
named-there : (plan : ControllerPlan) (orders : List OrderRow) (i n : ℕ)
    → AllByRecursion (FitsPlan plan) orders → input_of (slice_get orders i) ≡ Some n
    → HasDrop plan n
named-there plan [] i n all is = absurd cc
named-there plan (row ∷ orders) zero n all is = names-it plan row.input n is all.0.input
named-there plan (row ∷ orders) (suc i) n all is = named-there plan orders i n all.1 is

-- ---- what is due

-- no script changes what is due
due-by : (plan : ControllerPlan) (rule other : Rule) (scan : ℕ)
    → due (plan_by other plan) scan ≡ due (plan_by rule plan) scan
unfolding rows_from power_in
due-by plan rule other scan = refl

-- ---- fixed parts

-- a fixed part with the scripts of a rule
abbrev pub fixed_by : Fixed → Rule → Fixed
fixed_by f rule = record f { plan = plan_by rule f.plan }

module _ (counts : ExchangesAreCounted) (f : Fixed) (rule other : Rule)
    (runs : IsRunnablePlan (plan_by rule f.plan)) where
  abbrev one : Fixed
  one = fixed_by f rule

  abbrev two : Fixed
  two = fixed_by f other

  -- the input exchanges of a drop in a list
  abbrev inputs : ℕ → List Entry → ℕ
  inputs n list = count_by (is_input_of f.plan n) list

  -- the rules give the same row at each input exchange of a list
  abbrev pub GiveSame : List Entry → Type 0
  GiveSame list = (n k : ℕ) (d : IoDrop) → drop_named f.plan.drops n ≡ Some d → 1 ≤ k
      → k ≤ inputs n list → row_at (other f.plan d) k ≡ row_at (rule f.plan d) k

  -- so they do for what a list begins with
  give-front : (front more : List Entry) → GiveSame (front ++ more) → GiveSame front
  give-front front more give n k d is low high =
      let sum = count-append (is_input_of f.plan n) front more in
      give n k d is low (omega (arith, sum, high))

  -- an input exchange does the same
  read-same : (front more : List Entry) (row : ℕ) (o : Option ℕ)
      → input_of (row_of f.plan row) ≡ o → GiveSame (front ++ entries.Input row ∷ more)
      → read_in two.plan.drops o (replay one front) ≡ read_in one.plan.drops o (replay one front)
  read-same front more row None is give = refl
  read-same front more row (Some n) is give =
      let s = replay one front in
      let has = named-there one.plan one.plan.orders (row - 1) n runs.rows is in
      let made : slice_index s.exchanges (n - 1) ≡ inputs n front =
      counts one front n has.from has.to runs in
      let k = slice_index s.exchanges (n - 1) + 1 in
      let yes : is_input_of f.plan n (entries.Input row) ≡ true =
      ap (names_drop n) is ∙ eq-eqb n n refl in
      let sum = count-append (is_input_of f.plan n) front (entries.Input row ∷ more) in
      let here = count-one (is_input_of f.plan n) (entries.Input row) more yes in
      ap (λ (m : Contents). record s {
        solving = record s.solving { map = m };
        exchanges = slice_set s.exchanges (n - 1) k;
      }) (given-same (rule f.plan) (other f.plan) f.plan.drops n k s.solving.map
      (λ d at. give n k d at (omega arith) (omega (arith, made, sum, here))))

  -- an event does the same
  apply-same : (front more : List Entry) (e : Entry) → GiveSame (front ++ e ∷ more)
      → apply two (replay one front) e ≡ apply one (replay one front) e
  apply-same front more entries.Begin give = refl
  apply-same front more (entries.Input row) give =
      read-same front more row (input_of (row_of f.plan row)) refl give
  apply-same front more (entries.Solve row) give = refl
  apply-same front more (entries.Output row words) give = refl
  apply-same front more entries.End give = refl
  apply-same front more entries.Fail give = refl
  apply-same front more entries.Dark give = refl
  apply-same front more (entries.Collect calls) give = refl
  apply-same front more (entries.Peer id request reply) give = refl
  apply-same front more (entries.Off id request) give = refl
  apply-same front more (entries.Finish id result) give = refl

  -- so do events one after another
  fold-same : (front list : List Entry) → GiveSame (front ++ list)
      → fold (apply two) (replay one front) list ≡ fold (apply one) (replay one front) list
  fold-same front [] give = refl
  fold-same front (e ∷ list) give =
      let s = replay one front in
      let after : replay one (front ++ e ∷ []) ≡ apply one s e =
      fold-append (apply one) (start one.plan) front (e ∷ []) in
      ap (λ (t : ControllerState). fold (apply two) t list)
      (apply-same front list e give ∙ sym after)
      ∙ fold-same (front ++ e ∷ []) list
      (subst GiveSame (sym (append_assoc front (e ∷ []) list)) give)
      ∙ ap (λ (t : ControllerState). fold (apply one) t list) after

  -- a step makes the same entry
  entry-same : (s : ControllerState) (step : ScanStep) → entry_of two s step ≡ entry_of one s step
  entry-same s steps.Begin = refl
  entry-same s (steps.In row) = refl
  entry-same s (steps.Solve row) = refl
  entry-same s (steps.Out row) =
      let to = output_of (row_of f.plan row) in
      ap (λ (words : List ℕ). entries.Output row words)
      (words-to (other f.plan) f.plan.drops to s.solving.map
      ∙ sym (words-to (rule f.plan) f.plan.drops to s.solving.map))
  entry-same s steps.End = refl
  entry-same s steps.Fail = refl
  entry-same s steps.Dark = refl

  -- so both fixed parts agree on the list
  pub rules-agree : (list : List Entry) → GiveSame list → AgreeOn one two list
  rules-agree list give = record {
    scans = refl;
    steps = due-by f.plan rule other;
    entries = entry-same;
    states = λ front x. fold-same [] front
        (give-front front x.0 (subst GiveSame (sym x.1) give));
  }

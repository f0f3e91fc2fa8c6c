-- The entries of one scan on a bench: they are one scan's part, and a stop is seen in them.
use Rattle.std.proofs.Common.{◌≡◌, ◌≢◌, ℕ, suc, ◌+◌, ◌-◌, length, ◌==◌, Bool, true, false, ◌||◌, List, [], ◌∷◌}
use Rattle.std.proofs.Common.{◌++◌, Option, Some, None, All, refl, sym, ap, subst, ◌∙◌, arith}
use Rattle.std.specs.Prelude.{if◌then◌else◌}
use Rattle.std.specs.List.{flat_map, list_any, range_with_len}
use Rattle.std.proofs.lemmas.Bool.{eq-eqb, ne_eqb}
use Rattle.std.proofs.lemmas.List.Elements.{All-append, All-cons, All-nil}
use Rattle.std.proofs.lemmas.List.Folds.{list_any-append}
use Rattle.plant_types.specs.declared.plan.ControllerPlan.{ControllerPlan}
use Rattle.scan_order.specs.declared.due.ScanStep.{ScanStep}
use Rattle.scan_order.specs.declared.due.ScanStep.TheVariants as steps
use Rattle.scan_order.specs.declared.power.ScanPower.{ScanPower}
use Rattle.scan_order.specs.declared.power.ScanPower.TheVariants as powers
use Rattle.scan_order.specs.Due.{due, due_with, ends_scan, input_of, input_steps, is_failing}
use Rattle.scan_order.specs.Due.{output_of, output_steps, place_after, row_of, row_steps, rows_from}
use Rattle.scan_order.specs.Due.{step_with, up_to_failure}
use Rattle.scan_order.specs.Power.{power_in}
use Rattle.controller_core.specs.declared.entry.Entry.{Entry}
use Rattle.controller_core.specs.declared.entry.Entry.TheVariants as entries
use Rattle.controller_core.specs.declared.entry.Maker.TheVariants.{Communication}
use Rattle.controller_core.specs.declared.fixed.Fixed.{Fixed}
use Rattle.controller_core.specs.Controller.{AreOf}
use Rattle.controller_core.specs.Event.{entry_of, maker_of}
use Rattle.controller_core.specs.Replay.{ControllerState, apply}
use Rattle.controller_core.specs.Run.{entries_from}
use Rattle.controller_core.specs.Scans.{closes_scan}
use Rattle.controller_core.proofs.Keeping.{gone_made}
use Rattle.controller_core.proofs.NextEntry.{replay_append}
use Rattle.whole_scan.proofs.ScanEnds.{NoEnds, due-once}
use Rattle.whole_scan.proofs.ScanSteps.{closes, entries-end, entries-first, entries-none}
use Rattle.panel_session.specs.Scanning.{calls_ended, scan_due, scan_made}
use Rattle.panel_session.specs.Session.{state_after}
use Rattle.panel_session.proofs.Quiet.{ends-of, given-ends, leaves}
use Rattle.hot_standby.specs.Part.{BeginsOnce, begins_scan, scans_made}
use Rattle.standby_pair.specs.Course.{ends_a_scan}

-- ---- whether it is over

-- A stop is seen in what a scan made, and one scan more is behind it.
pub record IsOver (fixed : Fixed) (s : ControllerState) (entries : List Entry) : Type 0 where
  pub seen : list_any ends_a_scan entries ≡ ((state_after fixed s entries).stop == 0)
  pub made : scans_made (state_after fixed s entries) ≡ s.gone + 1

ends-entry : (fixed : Fixed) (s : ControllerState) (step : ScanStep)
    → ends_a_scan (entry_of fixed s step) ≡ ends_scan step
ends-entry fixed s steps.Begin = refl
ends-entry fixed s (steps.In row) = refl
ends-entry fixed s (steps.Solve row) = refl
ends-entry fixed s (steps.Out row) = refl
ends-entry fixed s steps.End = refl
ends-entry fixed s steps.Fail = refl
ends-entry fixed s steps.Dark = refl

-- A step that ends a scan leaves the stop code.
stop-kept : (fixed : Fixed) (s : ControllerState) (step : ScanStep) → ends_scan step ≡ true
    → (apply fixed s (entry_of fixed s step)).stop ≡ s.stop
stop-kept fixed s steps.Begin is = absurd (let no' : false ≡ true = is in cc)
stop-kept fixed s (steps.In row) is = absurd (let no' : false ≡ true = is in cc)
stop-kept fixed s (steps.Solve row) is = absurd (let no' : false ≡ true = is in cc)
stop-kept fixed s (steps.Out row) is = absurd (let no' : false ≡ true = is in cc)
stop-kept fixed s steps.End is = refl
stop-kept fixed s steps.Fail is = refl
stop-kept fixed s steps.Dark is = refl

gone-by : (fixed : Fixed) (s : ControllerState) (step : ScanStep) (ends : Bool)
    → ends_scan step ≡ ends
    → (apply fixed s (entry_of fixed s step)).gone ≡ (if ends then s.gone + 1 else s.gone)
gone-by fixed s step ends is =
    gone_made fixed s step ∙ ap (λ (ends : Bool). if ends then s.gone + 1 else s.gone) is

-- How many scans a state has behind it, by how many are gone and whether it stopped.
made-by : (t : ControllerState) (gone : ℕ) (goes : Bool) → t.gone ≡ gone → (t.stop == 0) ≡ goes
    → scans_made t ≡ gone + (if goes then 0 else 1)
made-by t gone goes is stop =
    ap (λ (n : ℕ). n + (if t.stop == 0 then 0 else 1)) is
    ∙ ap (λ (b : Bool). gone + (if b then 0 else 1)) stop

-- The last step of a scan, and one in which it stops.
over-last : (fixed : Fixed) (s : ControllerState) (last : ScanStep) → s.stop ≡ 0
    → ends_scan last ≡ true → IsOver fixed s (entry_of fixed s last ∷ [])
over-last fixed s last goes ends =
    let after = apply fixed s (entry_of fixed s last) in
    let runs : (after.stop == 0) ≡ true =
    eq-eqb after.stop 0 (stop-kept fixed s last ends ∙ goes) in
    record {
      seen = ap (λ (b : Bool). b || false) (ends-entry fixed s last ∙ ends) ∙ sym runs;
      made = made-by after (s.gone + 1) true (gone-by fixed s last true ends) runs ∙ omega arith;
    }

over-stop : (fixed : Fixed) (s : ControllerState) (step : ScanStep) → ends_scan step ≡ false
    → (apply fixed s (entry_of fixed s step)).stop ≢ 0
    → IsOver fixed s (entry_of fixed s step ∷ [])
over-stop fixed s step none stops =
    let after = apply fixed s (entry_of fixed s step) in
    let stopped : (after.stop == 0) ≡ false = ne_eqb after.stop 0 stops in
    record {
      seen = ap (λ (b : Bool). b || false) (ends-entry fixed s step ∙ none) ∙ sym stopped;
      made = made-by after s.gone false (gone-by fixed s step false none) stopped;
    }

over-more : (fixed : Fixed) (s : ControllerState) (step : ScanStep) (entries : List Entry)
    → ends_scan step ≡ false → IsOver fixed (apply fixed s (entry_of fixed s step)) entries
    → IsOver fixed s (entry_of fixed s step ∷ entries)
over-more fixed s step entries none over = record {
  seen = ap (λ (b : Bool). b || list_any ends_a_scan entries) (ends-entry fixed s step ∙ none)
      ∙ over.seen;
  made = over.made ∙ ap (λ (n : ℕ). n + 1) (gone-by fixed s step false none);
}

over-by : (fixed : Fixed) (s : ControllerState) (front : List ScanStep) (last : ScanStep)
    → s.stop ≡ 0 → NoEnds front → ends_scan last ≡ true
    → IsOver fixed s (entries_from fixed s (front ++ last ∷ []))
over-by fixed s [] last goes none ends =
    let after = apply fixed s (entry_of fixed s last) in
    subst (IsOver fixed s)
    (sym (entries-first fixed s last [] goes
    ∙ ap (λ (entries : List Entry). entry_of fixed s last ∷ entries) (entries-end fixed after)))
    (over-last fixed s last goes ends)
over-by fixed s (step ∷ front) last goes none ends =
    either (closes_scan step after.stop) refl
    (λ runs. over-by fixed after front last runs none.1 ends)
  where
    after : ControllerState
    after = apply fixed s (entry_of fixed s step)

    rest : List ScanStep
    rest = front ++ last ∷ []

    either : (closed : Bool) → closes_scan step after.stop ≡ closed
        → (after.stop ≡ 0 → IsOver fixed after (entries_from fixed after rest))
        → IsOver fixed s (entries_from fixed s (step ∷ rest))
    either true closed more =
        let stops = (closes fixed s step goes none.0).over closed in
        subst (IsOver fixed s)
        (sym (entries-first fixed s step rest goes
        ∙ ap (λ (entries : List Entry). entry_of fixed s step ∷ entries)
        (entries-none fixed after rest (ne_eqb after.stop 0 stops))))
        (over-stop fixed s step none.0 stops)
    either false closed more =
        subst (IsOver fixed s) (sym (entries-first fixed s step rest goes))
        (over-more fixed s step (entries_from fixed after rest) none.0
        (more ((closes fixed s step goes none.0).goes_on closed)))

told-ends : (entry : Entry) → maker_of entry ≡ Communication → ends_a_scan entry ≡ false
told-ends entries.Begin of = refl
told-ends (entries.Input row) of = refl
told-ends (entries.Solve row) of = refl
told-ends (entries.Output row words) of = refl
told-ends entries.End of = absurd cc
told-ends entries.Fail of = absurd cc
told-ends entries.Dark of = absurd cc
told-ends (entries.Collect calls) of = refl
told-ends (entries.Peer id request reply) of = refl
told-ends (entries.Off id request) of = refl
told-ends (entries.Finish id result) of = refl

none-ends : (added : List Entry) → AreOf Communication added → list_any ends_a_scan added ≡ false
none-ends [] of = refl
none-ends (entry ∷ added) of =
    ap (λ (b : Bool). b || list_any ends_a_scan added) (told-ends entry of.0)
    ∙ none-ends added of.1

or-none : (b : Bool) → (b || false) ≡ b
or-none true = refl
or-none false = refl

-- It stays over where entries follow that are of no scan.
pub over-and : (fixed : Fixed) (s : ControllerState) (made added : List Entry)
    → IsOver fixed s made → AreOf Communication added → IsOver fixed s (made ++ added)
over-and fixed s made added over of =
    let after = state_after fixed s made in
    let left = leaves fixed after added of in
    let same : state_after fixed s (made ++ added) ≡ state_after fixed after added =
    replay_append fixed s made added in
    record {
      seen = list_any-append ends_a_scan made added
          ∙ ap (λ (b : Bool). list_any ends_a_scan made || b) (none-ends added of)
          ∙ or-none (list_any ends_a_scan made)
          ∙ over.seen
          ∙ ap (λ (n : ℕ). n == 0) (sym left.stop)
          ∙ ap (λ (t : ControllerState). t.stop == 0) (sym same);
      made = ap scans_made same
          ∙ ap (λ (n : ℕ). n + (if (state_after fixed after added).stop == 0 then 0 else 1))
          left.gone
          ∙ ap (λ (n : ℕ). after.gone + (if n == 0 then 0 else 1)) left.stop
          ∙ over.made;
    }

-- The scan that is due, with the ends of its calls.
pub over-made : (fixed : Fixed) (s : ControllerState) → s.stop ≡ 0
    → IsOver fixed s (scan_made fixed s)
over-made fixed s goes =
    let once = due-once fixed.plan (s.gone + 1) in
    let after = state_after fixed s (scan_due fixed s) in
    over-and fixed s (scan_due fixed s) (calls_ended after)
    (subst (λ (steps : List ScanStep). IsOver fixed s (entries_from fixed s steps))
    (sym once.is) (over-by fixed s once.front once.last goes once.none once.ends))
    (ends-of (calls_ended after) (given-ends after))

-- ---- where it begins

abbrev begins_step : ScanStep → Bool
begins_step steps.Begin = true
begins_step steps.Dark = true
begins_step _ = false

abbrev BeginsNone : Entry → Type 0
BeginsNone entry = begins_scan entry ≡ false

abbrev NoBegins : List ScanStep → Type 0
NoBegins [] = Unit {0}
NoBegins (step ∷ rest) = (begins_step step ≡ false) × NoBegins rest

begins-entry : (fixed : Fixed) (s : ControllerState) (step : ScanStep)
    → begins_scan (entry_of fixed s step) ≡ begins_step step
begins-entry fixed s steps.Begin = refl
begins-entry fixed s (steps.In row) = refl
begins-entry fixed s (steps.Solve row) = refl
begins-entry fixed s (steps.Out row) = refl
begins-entry fixed s steps.End = refl
begins-entry fixed s steps.Fail = refl
begins-entry fixed s steps.Dark = refl

both-none : (xs ys : List ScanStep) → NoBegins xs → NoBegins ys → NoBegins (xs ++ ys)
both-none [] ys a b = b
both-none (x ∷ xs) ys a b = (a.0, both-none xs ys a.1 b)

with-none : (drop : Option ℕ) (step : ScanStep) → begins_step step ≡ false
    → NoBegins (step_with drop step)
with-none None step none = tt
with-none (Some d) step none = (none, tt)

row-none : (plan : ControllerPlan) (row : ℕ) → NoBegins (row_steps plan row)
row-none plan row =
    both-none (input_steps plan row) (steps.Solve row ∷ output_steps plan row)
    (with-none (input_of (row_of plan row)) (steps.In row) refl)
    (refl, with-none (output_of (row_of plan row)) (steps.Out row) refl)

rows-none : (plan : ControllerPlan) (rows : List ℕ) → NoBegins (flat_map (row_steps plan) rows)
rows-none plan [] = tt
rows-none plan (row ∷ rows) =
    both-none (row_steps plan row) (flat_map (row_steps plan) rows) (row-none plan row)
    (rows-none plan rows)

from-none : (plan : ControllerPlan) → NoBegins (rows_from plan 1)
unfolding rows_from
from-none plan =
    both-none (flat_map (row_steps plan) (range_with_len 1 (suc (length plan.orders) - 1)))
    (steps.End ∷ []) (rows-none plan (range_with_len 1 (suc (length plan.orders) - 1))) (refl, tt)

failing-none : (row : ℕ) (steps : List ScanStep) → NoBegins steps
    → NoBegins (up_to_failure row steps)
unfolding up_to_failure
failing-none row [] none = tt
failing-none row (step ∷ rest) none =
    (none.0, at (is_failing row (place_after step)) (failing-none row rest none.1))
  where
    at : (b : Bool) → NoBegins (up_to_failure row rest)
        → NoBegins (if b then steps.Fail ∷ [] else up_to_failure row rest)
    at true more = (refl, tt)
    at false more = more

-- The first step of a scan begins it, and no other does.
record FirstBegins (steps : List ScanStep) : Type 0 where
  pub first : ScanStep
  pub more : List ScanStep
  pub is : steps ≡ first ∷ more
  pub begins : begins_step first ≡ true
  pub none : NoBegins more

first-by : (plan : ControllerPlan) (power : ScanPower) → FirstBegins (due_with plan power)
unfolding up_to_failure
first-by plan powers.Stays = record
    { first = steps.Begin; more = rows_from plan 1; is = refl; begins = refl; none = from-none plan }
first-by plan powers.Dark = record
    { first = steps.Dark; more = []; is = refl; begins = refl; none = tt }
first-by plan (powers.Fails row) = record {
  first = steps.Begin;
  more = if is_failing row (place_after steps.Begin) then steps.Fail ∷ []
      else up_to_failure row (rows_from plan 1);
  is = refl;
  begins = refl;
  none = at (is_failing row (place_after steps.Begin));
}
  where
    at : (b : Bool) → NoBegins (if b then steps.Fail ∷ [] else up_to_failure row (rows_from plan 1))
    at true = (refl, tt)
    at false = failing-none row (rows_from plan 1) (from-none plan)

more-none : (fixed : Fixed) (t : ControllerState) (more : List ScanStep) → NoBegins more
    → All BeginsNone (entries_from fixed t more)
unfolding entries_from
more-none fixed t [] none = All-nil BeginsNone
more-none fixed t (step ∷ more) none =
    either (t.stop == 0)
    (more-none fixed (apply fixed t (entry_of fixed t step)) more none.1)
  where
    rest : List Entry
    rest = entries_from fixed (apply fixed t (entry_of fixed t step)) more

    either : (b : Bool) → All BeginsNone rest
        → All BeginsNone (if b then entry_of fixed t step ∷ rest else [])
    either true behind =
        All-cons BeginsNone (entry_of fixed t step) rest (begins-entry fixed t step ∙ none.0) behind
    either false behind = All-nil BeginsNone

told-begins : (entry : Entry) → maker_of entry ≡ Communication → begins_scan entry ≡ false
told-begins entries.Begin of = absurd cc
told-begins (entries.Input row) of = refl
told-begins (entries.Solve row) of = refl
told-begins (entries.Output row words) of = refl
told-begins entries.End of = refl
told-begins entries.Fail of = refl
told-begins entries.Dark of = absurd cc
told-begins (entries.Collect calls) of = refl
told-begins (entries.Peer id request reply) of = refl
told-begins (entries.Off id request) of = refl
told-begins (entries.Finish id result) of = refl

none-begin : (added : List Entry) → AreOf Communication added → All BeginsNone added
none-begin [] of = All-nil BeginsNone
none-begin (entry ∷ added) of =
    All-cons BeginsNone entry added (told-begins entry of.0) (none-begin added of.1)

-- The first entry of a scan begins it, and no other does, whatever is served behind.
pub begins-once : (fixed : Fixed) (s : ControllerState) (served : List Entry) → s.stop ≡ 0
    → AreOf Communication served → BeginsOnce (scan_made fixed s ++ served)
begins-once fixed s served goes of =
    subst (λ (events : List Entry). BeginsOnce ((events ++ ends) ++ served)) (sym events) (
      begins-entry fixed s found.first ∙ found.begins,
      All-append BeginsNone (rest ++ ends) served
          (All-append BeginsNone rest ends (more-none fixed after found.more found.none)
          (none-begin ends (ends-of ends (given-ends (state_after fixed s (scan_due fixed s))))))
          (none-begin served of),
    )
  where
    found : FirstBegins (due fixed.plan (s.gone + 1))
    found = first-by fixed.plan (power_in fixed.plan (s.gone + 1))

    after : ControllerState
    after = apply fixed s (entry_of fixed s found.first)

    rest : List Entry
    rest = entries_from fixed after found.more

    ends : List Entry
    ends = calls_ended (state_after fixed s (scan_due fixed s))

    events : scan_due fixed s ≡ entry_of fixed s found.first ∷ rest
    events =
        ap (λ (steps : List ScanStep). entries_from fixed s steps) found.is
        ∙ entries-first fixed s found.first found.more goes

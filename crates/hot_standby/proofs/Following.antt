-- A controller that follows one scan's part, entry by entry.
use Rattle.std.proofs.Common.{◌≡◌, ◌≢◌, ℕ, ◌+◌, ◌==◌, Bool, true, false, not, ◌&&◌, List, []}
use Rattle.std.proofs.Common.{◌∷◌, ◌++◌, Option, Some, None, refl, sym, ap, subst, ◌∙◌, arith}
use Rattle.std.proofs.Common.{inl, inr, ⊎_elim, length, length-append, zero, suc}
use Rattle.std.specs.Prelude.{if◌then◌else◌}
use Rattle.std.proofs.lemmas.Bool.{eq-eqb, ne_eqb}
use Rattle.std.proofs.lemmas.List.{append_cancel_left}
use Rattle.plant_types.specs.declared.plan.ControllerPlan.{ControllerPlan}
use Rattle.scan_order.specs.declared.due.ScanStep.{ScanStep}
use Rattle.scan_order.specs.declared.due.ScanStep.TheVariants as steps
use Rattle.scan_order.specs.Due.{due, due_with, ends_scan, rows_from, up_to_failure}
use Rattle.scan_order.specs.Power.{power_in}
use Rattle.scan_order.specs.declared.power.ScanPower.{ScanPower}
use Rattle.scan_order.specs.declared.power.ScanPower.TheVariants as powers
use Rattle.controller_core.specs.declared.fixed.Fixed.{Fixed}
use Rattle.controller_core.specs.declared.entry.Entry.{Entry}
use Rattle.controller_core.specs.declared.entry.Entry.TheVariants as entries
use Rattle.controller_core.specs.declared.entry.Maker.TheVariants.{Communication}
use Rattle.controller_core.specs.Replay.{ControllerState, apply, start}
use Rattle.controller_core.specs.Event.{entry_of, maker_of}
use Rattle.controller_core.specs.Scans.{closes_scan, scans_from}
use Rattle.controller_core.specs.Run.{entries_from}
use Rattle.controller_core.specs.Controller.{ControllerIs, due_step, first_step, has_ended, is_none}
use Rattle.controller_core.specs.Controller.{collecting, grown, has_started, left_of, made}
use Rattle.controller_core.specs.Controller.{state_of, stepped}
use Rattle.controller_core.specs.Controller.{GoesOn}
use Rattle.controller_core.specs.Following.{MayFollow, followed}
use Rattle.controller_core.proofs.Keeping.{gone_made, replay_more}
use Rattle.controller_core.proofs.NextEntry.{fits_last}
use Rattle.whole_scan.specs.Scans.{IsBetweenScans}
use Rattle.whole_scan.proofs.ScanSteps.{InScan, closes, ends-close, quiet-scan}
use Rattle.whole_scan.proofs.ScanSteps.{scan-begins, scan-goes-on}
use Rattle.hot_standby.specs.Part.{begins_scan, scans_made}

-- a scan of the controller runs, behind so many that are gone, or it is over
pub record InPart (before : ℕ) (v : ControllerIs) : Type 0 where
  pub target : List Entry
  pub scan : InScan target v
  pub runs : v.reserved ≡ true → (state_of v).gone ≡ before
  pub over : v.reserved ≡ false → scans_made (state_of v) ≡ before + 1

-- ---- a step of the scan

opened : (b : Bool) → not b ≡ true → b ≡ false
opened true is = absurd cc
opened false is = refl

shut : (b : Bool) → not b ≡ false → b ≡ true
shut true is = refl
shut false is = absurd cc

-- a step that ends a scan leaves the stop code
ends-stop : (f : Fixed) (s : ControllerState) (step : ScanStep) → ends_scan step ≡ true
    → (apply f s (entry_of f s step)).stop ≡ s.stop
ends-stop f s steps.Begin is = absurd (let no' : false ≡ true = is in cc)
ends-stop f s (steps.In row) is = absurd (let no' : false ≡ true = is in cc)
ends-stop f s (steps.Solve row) is = absurd (let no' : false ≡ true = is in cc)
ends-stop f s (steps.Out row) is = absurd (let no' : false ≡ true = is in cc)
ends-stop f s steps.End is = refl
ends-stop f s steps.Fail is = refl
ends-stop f s steps.Dark is = refl

module _ (before : ℕ) (v : ControllerIs) (part : InPart before v) (kept : v.reserved ≡ true) where
  runs-on : (state_of v).stop ≡ 0
  runs-on = (part.scan.goes kept).0

  abbrev after : ScanStep → ControllerState
  after step = apply v.fixed (state_of v) (entry_of v.fixed (state_of v) step)

  state-is : (step : ScanStep) → state_of (made v (Some step)) ≡ after step
  state-is step =
      replay_more v.fixed (start v.fixed.plan) v.history (entry_of v.fixed (state_of v) step)

  gone-is : (step : ScanStep) (ends : Bool) → ends_scan step ≡ ends
      → (after step).gone ≡ (if ends then before + 1 else before)
  gone-is step ends is =
      gone_made v.fixed (state_of v) step
      ∙ ap (λ b. if b then (state_of v).gone + 1 else (state_of v).gone) is
      ∙ ap (λ n. if ends then n + 1 else n) (part.runs kept)

  kept-is : (step : ScanStep)
      → (made v (Some step)).reserved ≡ not (closes_scan step (after step).stop)
  kept-is step = ap (λ b. b && not (closes_scan step (after step).stop)) kept

  still : (step : ScanStep) → (made v (Some step)).reserved ≡ true
      → (state_of (made v (Some step))).gone ≡ before
  still step on = at (ends_scan step) refl
    where
      open' : closes_scan step (after step).stop ≡ false
      open' = opened _ (sym (kept-is step) ∙ on)

      at : (ends : Bool) → ends_scan step ≡ ends → (state_of (made v (Some step))).gone ≡ before
      at true is = absurd (let no' : true ≡ false = sym (ends-close step _ is) ∙ open' in cc)
      at false is = ap (λ (t : ControllerState). t.gone) (state-is step) ∙ gone-is step false is

  over-now : (step : ScanStep) → (made v (Some step)).reserved ≡ false
      → scans_made (state_of (made v (Some step))) ≡ before + 1
  over-now step off =
      ap (λ (t : ControllerState). scans_made t) (state-is step) ∙ at (ends_scan step) refl
    where
      closed : closes_scan step (after step).stop ≡ true
      closed = shut _ (sym (kept-is step) ∙ off)

      with-stop : (gone : ℕ) (b : Bool) → (after step).gone ≡ gone → ((after step).stop == 0) ≡ b
          → scans_made (after step) ≡ gone + (if b then 0 else 1)
      with-stop gone b gone' stop' =
          ap (λ n. n + (if (after step).stop == 0 then 0 else 1)) gone'
          ∙ ap (λ c. gone + (if c then 0 else 1)) stop'

      at : (ends : Bool) → ends_scan step ≡ ends → scans_made (after step) ≡ before + 1
      at true is =
          let stop' : (after step).stop ≡ 0 = ends-stop v.fixed (state_of v) step is ∙ runs-on in
          let all = with-stop (before + 1) true (gone-is step true is) (eq-eqb _ 0 stop') in
          omega (arith, all)
      at false is =
          let other = (closes v.fixed (state_of v) step runs-on is).over closed in
          with-stop before false (gone-is step false is) (ne_eqb (after step).stop 0 other)

  -- the scan goes on, or is over behind its step
  pub part-step : InPart before (stepped v)
  part-step = by (due_step v) refl
    where
      by : (due : Option ScanStep) → due_step v ≡ due → InPart before (made v due)
      by None is = part
      by (Some step) is = record {
        target = part.target;
        scan = subst (λ due. InScan part.target (made v due)) is
            (scan-goes-on part.target v part.scan kept);
        runs = still step;
        over = over-now step;
      }

-- ---- what the communication does in between

part-told : (before : ℕ) (v : ControllerIs) (e : Entry) → maker_of e ≡ Communication
    → InPart before v → InPart before (grown v (e ∷ []) v.reserved)
part-told before v e of part =
    let w = grown v (e ∷ []) v.reserved in
    let keeps = quiet-scan v (e ∷ []) v.reserved (of, tt) in
    record {
      target = w.history ++ entries_from w.fixed (state_of w) part.scan.rest;
      scan = record {
        rest = part.scan.rest;
        next = part.scan.next;
        many = part.scan.many;
        runs = refl;
        left = λ goes. keeps.left ∙ part.scan.left (sym keeps.stop ∙ goes);
        goes = λ on.
            let was = part.scan.goes on in
            (keeps.stop ∙ was.0, was.1, was.2 ∙ ap (λ n. n + 2) (sym keeps.gone));
        over = λ off. ⊎_elim
            (λ stopped. inl (λ zero'. stopped (sym keeps.stop ∙ zero')))
            (λ none. inr (none.0, none.1 ∙ ap (λ n. n + 1) (sym keeps.gone)))
            (part.scan.over off);
      };
      runs = λ on. keeps.gone ∙ part.runs on;
      over = λ off.
          ap (λ n. n + (if (state_of w).stop == 0 then 0 else 1)) keeps.gone
          ∙ ap (λ n. (state_of v).gone + (if n == 0 then 0 else 1)) keeps.stop
          ∙ part.over off;
    }

-- ---- the first step of a scan

-- the first of the steps that are due in a scan
record FirstDue (plan : ControllerPlan) (scan : ℕ) : Type 0 where
  pub first : ScanStep
  pub more : List ScanStep
  pub is : due plan scan ≡ first ∷ more
  pub begins : (f : Fixed) (s : ControllerState) → begins_scan (entry_of f s first) ≡ true

first-by : (plan : ControllerPlan) (power : ScanPower)
    → (first : ScanStep) × (more : List ScanStep) × (due_with plan power ≡ first ∷ more)
    × ((f : Fixed) (s : ControllerState) → begins_scan (entry_of f s first) ≡ true)
unfolding up_to_failure
first-by plan powers.Stays = (steps.Begin, rows_from plan 1, refl, λ f s. refl)
first-by plan (powers.Fails row) = (steps.Begin, _, refl, λ f s. refl)
first-by plan powers.Dark = (steps.Dark, [], refl, λ f s. refl)

first-due : (plan : ControllerPlan) (scan : ℕ) → FirstDue plan scan
first-due plan scan =
    let found = first-by plan (power_in plan scan) in
    record { first = found.0; more = found.1; is = found.2; begins = found.3 }

-- a controller whose history is that of another and an entry more
same-as : (v w : ControllerIs) (e : Entry) (reserved : Bool) → w.fixed ≡ v.fixed
    → w.history ≡ v.history ++ e ∷ [] → w.reserved ≡ reserved → w ≡ grown v (e ∷ []) reserved
same-as v w e reserved fixed history kept =
    λ i. record { fixed = fixed i; history = history i; reserved = kept i }

-- nothing was made where the history is longer
longer : (h : List Entry) (e : Entry) → h ≢ h ++ e ∷ []
longer h e is = let a = ap length is in let b = length-append h (e ∷ []) in omega (arith, a, b)

abbrev with-room : ControllerIs → ControllerIs
with-room v = record v { reserved = true }

-- a step was due, and its entry is the one that was followed
step-of : (v : ControllerIs) (e : Entry) (due : Option ScanStep)
    → (made (with-room v) due).history ≡ v.history ++ e ∷ []
    → (step : ScanStep) × (due ≡ Some step) × (entry_of v.fixed (state_of v) step ≡ e)
step-of v e None history = absurd (longer v.history e history)
step-of v e (Some step) history =
    let last : entry_of v.fixed (state_of v) step ∷ [] ≡ e ∷ [] =
    append_cancel_left v.history _ _ history in
    (step, refl, cc)

-- the first of all that is left between two scans begins a scan
begins-left : (v : ControllerIs) (next many : ℕ) (step : ScanStep)
    → left_of v.fixed v.history ≡ scans_from v.fixed next many
    → first_step (left_of v.fixed v.history) ≡ Some step
    → begins_scan (entry_of v.fixed (state_of v) step) ≡ true
begins-left v next zero step left first =
    absurd (let no' : None ≡ Some step = ap first_step (sym left) ∙ first in cc)
begins-left v next (suc many) step left first =
    let one = first-due v.fixed.plan next in
    let front : left_of v.fixed v.history
    ≡ one.first ∷ (one.more ++ scans_from v.fixed (next + 1) many) =
    left ∙ ap (λ (l : List ScanStep). l ++ scans_from v.fixed (next + 1) many) one.is in
    let same : Some one.first ≡ Some step = ap first_step (sym front) ∙ first in
    let is : one.first ≡ step = cc in
    subst (λ s. begins_scan (entry_of v.fixed (state_of v) s) ≡ true) is
    (one.begins v.fixed (state_of v))

-- a step that is due in a controller that goes on is the first that is left
due-first : (v : ControllerIs) (step : ScanStep) → (state_of v).stop ≡ 0
    → due_step v ≡ Some step → first_step (left_of v.fixed v.history) ≡ Some step
due-first v step goes due =
    sym (ap (λ n. if n == 0 then first_step (left_of v.fixed v.history) else None) goes) ∙ due

-- between two scans no entry is followed that begins none
none-between : (before : ℕ) (v : ControllerIs) (e : Entry) → InPart before v
    → v.reserved ≡ false → (state_of v).stop ≡ 0
    → (stepped (with-room v)).history ≡ v.history ++ e ∷ [] → begins_scan e ≡ true
none-between before v e part off goes history =
    let found = step-of v e (due_step v) history in
    let first = due-first v found.0 goes found.1 in
    subst (λ (x : Entry). begins_scan x ≡ true) found.2
    (⊎_elim
    (λ (stopped : (state_of v).stop ≢ 0). absurd (stopped goes))
    (λ (none : (part.scan.rest ≡ []) × (part.scan.next ≡ (state_of v).gone + 1)).
    begins-left v part.scan.next part.scan.many found.0
    (part.scan.left goes
    ∙ ap (λ (l : List ScanStep). l ++ scans_from v.fixed part.scan.next part.scan.many) none.0)
    first)
    (part.scan.over off))

-- a step is followed
step-followed : (before : ℕ) (v : ControllerIs) (e : Entry) → InPart before v
    → (state_of v).stop ≡ 0 → begins_scan e ≡ false
    → (stepped (with-room v)).history ≡ v.history ++ e ∷ []
    → InPart before (stepped (with-room v))
step-followed before v e part goes no' history = by v.reserved refl
  where
    by : (b : Bool) → v.reserved ≡ b → InPart before (stepped (with-room v))
    by true on =
        subst (λ (u : ControllerIs). InPart before (stepped u))
        (λ i. record { fixed = v.fixed; history = v.history; reserved = on i })
        (part-step before v part on)
    by false off =
        let yes : begins_scan e ≡ true = none-between before v e part off goes history in
        absurd (let bad : true ≡ false = sym yes ∙ no' in cc)

if-kept : (b : Bool) (x y : ControllerIs) (r : Bool) → x.reserved ≡ r → y.reserved ≡ r
    → (if b then x else y).reserved ≡ r
if-kept true x y r a b = a
if-kept false x y r a b = b

-- what the communication does is followed
told-followed : (before : ℕ) (v w : ControllerIs) (e : Entry) → maker_of e ≡ Communication
    → InPart before v → w.fixed ≡ v.fixed → w.history ≡ v.history ++ e ∷ []
    → w.reserved ≡ v.reserved → InPart before w
told-followed before v w e of part fixed history kept =
    subst (λ (u : ControllerIs). InPart before u)
    (sym (same-as v w e v.reserved fixed history kept))
    (part-told before v e of part)

-- an entry that begins no scan is followed
pub goes-on : (before : ℕ) (v w : ControllerIs) (e : Entry) → InPart before v
    → begins_scan e ≡ false → MayFollow v e → w ≡ followed v e true → w.fixed ≡ v.fixed
    → w.history ≡ v.history ++ e ∷ [] → InPart before w
goes-on before v w e part no' may is fixed history = by e no' may is history
  where
    stepping : (x : Entry) → begins_scan x ≡ false → GoesOn (state_of v)
        → w ≡ stepped (with-room v) → w.history ≡ v.history ++ x ∷ [] → InPart before w
    stepping x none goes same longer' =
        subst (λ (u : ControllerIs). InPart before u) (sym same)
        (step-followed before v x part goes none
        (sym (ap (λ (u : ControllerIs). u.history) same) ∙ longer'))

    by : (x : Entry) → begins_scan x ≡ false → MayFollow v x → w ≡ followed v x true
        → w.history ≡ v.history ++ x ∷ [] → InPart before w
    by entries.Begin none legal same longer' = absurd (let bad : true ≡ false = none in cc)
    by entries.Dark none legal same longer' = absurd (let bad : true ≡ false = none in cc)
    by (entries.Input row) none legal same longer' =
        stepping (entries.Input row) none (fits_last v (entries.Input row) legal) same longer'
    by (entries.Solve row) none legal same longer' =
        stepping (entries.Solve row) none (fits_last v (entries.Solve row) legal) same longer'
    by (entries.Output row words) none legal same longer' =
        stepping (entries.Output row words) none
        (fits_last v (entries.Output row words) legal).0 same longer'
    by entries.End none legal same longer' =
        stepping entries.End none (fits_last v entries.End legal) same longer'
    by entries.Fail none legal same longer' =
        stepping entries.Fail none (fits_last v entries.Fail legal) same longer'
    by (entries.Collect calls) none legal same longer' =
        told-followed before v w (entries.Collect calls) refl part fixed longer'
        (ap (λ (u : ControllerIs). u.reserved) same
        ∙ if-kept (has_started v) (collecting v) v v.reserved refl refl)
    by (entries.Peer id request reply) none legal same longer' =
        told-followed before v w (entries.Peer id request reply) refl part fixed longer'
        (ap (λ (u : ControllerIs). u.reserved) same)
    by (entries.Off id request) none legal same longer' =
        told-followed before v w (entries.Off id request) refl part fixed longer'
        (ap (λ (u : ControllerIs). u.reserved) same)
    by (entries.Finish id result) none legal same longer' =
        told-followed before v w (entries.Finish id result) refl part fixed longer'
        (ap (λ (u : ControllerIs). u.reserved) same)

-- a step that was due makes a controller that has not ended
open-by : (v : ControllerIs) (step : ScanStep) → due_step v ≡ Some step → has_ended v ≡ false
open-by v step is = ap is_none is

-- the first entry of a part is followed
first-followed : (v : ControllerIs) (e : Entry) → IsBetweenScans v → (state_of v).stop ≡ 0
    → (stepped (with-room v)).history ≡ v.history ++ e ∷ []
    → InPart (scans_made (state_of v)) (stepped (with-room v))
first-followed v e between goes history =
    let found = step-of v e (due_step v) history in
    let scan = scan-begins v (open-by v found.0 found.1) between in
    let none : scans_made (state_of v) ≡ (state_of v).gone =
    ap (λ n. (state_of v).gone + (if n == 0 then 0 else 1)) goes ∙ omega arith in
    part-step (scans_made (state_of v)) (with-room v) (record {
      target = _;
      scan = scan;
      runs = λ on. sym none;
      over = λ off. absurd (let bad : true ≡ false = off in cc);
    }) refl

pub begins : (v w : ControllerIs) (e : Entry) → IsBetweenScans v → begins_scan e ≡ true
    → MayFollow v e → w ≡ followed v e true → w.history ≡ v.history ++ e ∷ []
    → InPart (scans_made (state_of v)) w
begins v w e between one may is history = by e one may is history
  where
    starting : (x : Entry) → GoesOn (state_of v) → w ≡ stepped (with-room v)
        → w.history ≡ v.history ++ x ∷ [] → InPart (scans_made (state_of v)) w
    starting x goes same longer' =
        subst (λ (u : ControllerIs). InPart (scans_made (state_of v)) u) (sym same)
        (first-followed v x between goes
        (sym (ap (λ (u : ControllerIs). u.history) same) ∙ longer'))

    by : (x : Entry) → begins_scan x ≡ true → MayFollow v x → w ≡ followed v x true
        → w.history ≡ v.history ++ x ∷ [] → InPart (scans_made (state_of v)) w
    by entries.Begin one legal same longer' =
        starting entries.Begin (fits_last v entries.Begin legal) same longer'
    by entries.Dark one legal same longer' =
        starting entries.Dark (fits_last v entries.Dark legal) same longer'
    by (entries.Input row) one legal same longer' = absurd (let bad : false ≡ true = one in cc)
    by (entries.Solve row) one legal same longer' = absurd (let bad : false ≡ true = one in cc)
    by (entries.Output row words) one legal same longer' =
        absurd (let bad : false ≡ true = one in cc)
    by entries.End one legal same longer' = absurd (let bad : false ≡ true = one in cc)
    by entries.Fail one legal same longer' = absurd (let bad : false ≡ true = one in cc)
    by (entries.Collect calls) one legal same longer' =
        absurd (let bad : false ≡ true = one in cc)
    by (entries.Peer id request reply) one legal same longer' =
        absurd (let bad : false ≡ true = one in cc)
    by (entries.Off id request) one legal same longer' =
        absurd (let bad : false ≡ true = one in cc)
    by (entries.Finish id result) one legal same longer' =
        absurd (let bad : false ≡ true = one in cc)

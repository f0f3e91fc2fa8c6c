-- A whole scan of a controller, step by step.
use Rattle.std.proofs.Common.{◌≡◌, ◌≢◌, ◌⊎◌, ◌==◌, ℕ, zero, suc, ◌+◌, ◌<◌, ◌≤◌, Bool, true}
use Rattle.std.proofs.Common.{false, not}
use Rattle.std.proofs.Common.{◌&&◌, List, [], ◌∷◌, ◌++◌, length, drop, Option, Some, None, refl}
use Rattle.std.proofs.Common.{sym}
use Rattle.std.proofs.Common.{ap, subst, ◌∙◌, arith, append_assoc, append-nil, length-append, inl}
use Rattle.std.proofs.Common.{inr}
use Rattle.std.proofs.Common.{⊎_elim}
use Rattle.std.specs.Prelude.{fold, if◌then◌else◌}
use Rattle.std.proofs.lemmas.Bool.{eqb-true, eq-eqb, ne_eqb}
use Rattle.scan_order.specs.declared.due.ScanStep.{ScanStep}
use Rattle.scan_order.specs.declared.due.ScanStep.TheVariants as steps
use Rattle.scan_order.specs.Due.{due, ends_scan, input_of, row_of}
use Rattle.plant_types.specs.declared.drops.IoDrop.{IoDrop}
use Rattle.controller_core.specs.declared.fixed.Fixed.{Fixed}
use Rattle.controller_core.specs.declared.entry.Entry.{Entry}
use Rattle.controller_core.specs.declared.entry.Entry.TheVariants as entries
use Rattle.controller_core.specs.Replay.{ControllerState, apply, replay, start, read_in}
use Rattle.controller_core.specs.Event.{entry_of, maker_of, scan_steps}
use Rattle.controller_core.specs.Scans.{all_due, closes_scan, scans_from}
use Rattle.controller_core.specs.Controller.{ControllerIs, due_step, first_step, has_ended, is_none}
use Rattle.controller_core.specs.Controller.{left_of, made, state_of, stepped, grown}
use Rattle.controller_core.specs.Run.{entries_from}
use Rattle.controller_core.specs.Controller.{AreOf, ControllerWentOn}
use Rattle.controller_core.specs.declared.entry.Maker.TheVariants.{Communication, Scan}
use Rattle.whole_scan.specs.Scans.{with_scan, IsBetweenScans, KeepsStepsLeft, LessensScan}
use Rattle.whole_scan.specs.Scans.{MadeEvents}
use Rattle.controller_core.proofs.Keeping.{replay_more, scan_steps-more, scan_steps-quiet}
use Rattle.controller_core.proofs.Keeping.{gone_made, told_entry}
use Rattle.controller_core.proofs.NextEntry.{replay_append, stop_stays}
use Rattle.whole_scan.proofs.ScanEnds.{EndsOnce, IsNoEnd, NoEnds, due-once}

drop-first : (n : ℕ) (xs : List ScanStep) (x : ScanStep) (rest : List ScanStep)
    → drop n xs ≡ x ∷ rest → drop (suc n) xs ≡ rest
drop-first zero [] x rest is = absurd cc
drop-first zero (y ∷ xs) x rest is = cc
drop-first (suc n) [] x rest is = absurd cc
drop-first (suc n) (y ∷ xs) x rest is = drop-first n xs x rest is

-- what is left behind one more step
left-more : (f : Fixed) (s : ControllerState) (h : List Entry) (step : ScanStep)
    (rest : List ScanStep)
    → left_of f h ≡ step ∷ rest
    → left_of f (h ++ entry_of f s step ∷ []) ≡ rest
left-more f s h step rest left =
    let more = scan_steps-more f s h step in
    let long : length (scan_steps (h ++ entry_of f s step ∷ [])) ≡ suc (length (scan_steps h)) =
    omega (arith, ap length more, length-append (scan_steps h) (step ∷ [])) in
    ap (λ n. drop n (all_due f)) long ∙ drop-first (length (scan_steps h)) (all_due f) step rest
    left

pub entries-first : (f : Fixed) (s : ControllerState) (step : ScanStep) (rest : List ScanStep)
    → s.stop ≡ 0
    → entries_from f s (step ∷ rest) ≡ entry_of f s step ∷ entries_from f
    (apply f s (entry_of f s step)) rest
unfolding entries_from
entries-first f s step rest goes =
    ap (λ n. if n == 0 then entry_of f s step ∷ entries_from f (apply f s (entry_of f s step)) rest
    else []) goes

pub entries-none : (f : Fixed) (s : ControllerState) (due : List ScanStep) → (s.stop == 0) ≡ false
    → entries_from f s due ≡ []
unfolding entries_from
entries-none f s [] stopped = refl
entries-none f s (step ∷ rest) stopped =
    ap (λ b. if b then entry_of f s step ∷ entries_from f (apply f s (entry_of f s step)) rest else
    []) stopped

pub entries-end : (f : Fixed) (s : ControllerState) → entries_from f s [] ≡ []
unfolding entries_from
entries-end f s = refl

-- ---- one step of a scan

read-stop : (drops : List IoDrop) (drop : Option ℕ) (s : ControllerState)
    → (read_in drops drop s).stop ≡ s.stop
read-stop drops None s = refl
read-stop drops (Some d) s = refl

pub record Closes (step : ScanStep) (stop : ℕ) : Type 0 where
  pub goes_on : closes_scan step stop ≡ false → stop ≡ 0
  pub over : closes_scan step stop ≡ true → stop ≢ 0

goes-on : (step : ScanStep) (stop : ℕ) → closes_scan step stop ≡ false → stop ≡ 0 → Closes step stop
goes-on step stop open' zero' = record
    { goes_on = λ _. zero'; over = λ is. absurd (let no' : false ≡ true = sym open' ∙ is in cc) }

pub closes : (f : Fixed) (s : ControllerState) (step : ScanStep) → s.stop ≡ 0 → IsNoEnd step
    → Closes step (apply f s (entry_of f s step)).stop
closes f s steps.Begin zero' no' = goes-on steps.Begin _ refl zero'
closes f s (steps.In row) zero' no' = goes-on (steps.In row) _ refl
    (read-stop f.plan.drops (input_of (row_of f.plan row)) s ∙ zero')
closes f s (steps.Solve row) zero' no' = solved-closes
    (apply f s (entry_of f s (steps.Solve row))).stop where
      solved-closes : (stop : ℕ) → Closes (steps.Solve row) stop
      solved-closes stop = record {
        goes_on = λ is. eqb-true stop 0 (twice (stop == 0) is);
        over = λ is e. let t = eq-eqb stop 0 e in let no'' : false ≡ true = ap not (sym t) ∙ is in
            absurd (cc);
      } where
        twice : (b : Bool) → not b ≡ false → b ≡ true
        twice true is = refl
        twice false is = absurd (cc)
closes f s (steps.Out row) zero' no' = goes-on (steps.Out row) _ refl zero'
closes f s steps.End zero' no' = absurd (let no'' : true ≡ false = no' in cc)
closes f s steps.Fail zero' no' = absurd (let no'' : true ≡ false = no' in cc)
closes f s steps.Dark zero' no' = absurd (let no'' : true ≡ false = no' in cc)

-- the last step of a scan closes it
pub ends-close : (step : ScanStep) (stop : ℕ) → ends_scan step ≡ true → closes_scan step stop ≡ true
ends-close steps.Begin stop is = absurd (let no' : false ≡ true = is in cc)
ends-close (steps.In row) stop is = absurd (let no' : false ≡ true = is in cc)
ends-close (steps.Solve row) stop is = absurd (let no' : false ≡ true = is in cc)
ends-close (steps.Out row) stop is = absurd (let no' : false ≡ true = is in cc)
ends-close steps.End stop is = refl
ends-close steps.Fail stop is = refl
ends-close steps.Dark stop is = refl

-- a controller within a scan that ends with this history
pub record InScan (target : List Entry) (v : ControllerIs) : Type 0 where
  pub rest : List ScanStep
  pub next : ℕ
  pub many : ℕ
  pub runs : v.history ++ entries_from v.fixed (state_of v) rest ≡ target
  pub left : (state_of v).stop ≡ 0
      → left_of v.fixed v.history ≡ rest ++ scans_from v.fixed next many
  pub goes : v.reserved ≡ true
      → ((state_of v).stop ≡ 0) × EndsOnce rest × (next ≡ (state_of v).gone + 2)
  pub over : v.reserved ≡ false
      → ((state_of v).stop ≢ 0) ⊎ ((rest ≡ []) × (next ≡ (state_of v).gone + 1))

module _ (target : List Entry) (v : ControllerIs) (scan : InScan target v)
    (kept : v.reserved ≡ true) where
  stop-is : (state_of v).stop ≡ 0
  stop-is = (scan.goes kept).0

  made-runs : (step : ScanStep) (rest : List ScanStep) → scan.rest ≡ step ∷ rest
      → (made v (Some step)).history ++ entries_from v.fixed (state_of (made v (Some step))) rest ≡
      target
  made-runs step rest is =
      let f = v.fixed in
      let h = v.history in
      let s = state_of v in
      let e = entry_of f s step in
      let now : replay f (h ++ e ∷ []) ≡ apply f s e = replay_more f (start f.plan) h e in
      ap (λ (t : ControllerState). (h ++ e ∷ []) ++ entries_from f t rest) now
      ∙ (append_assoc h (e ∷ []) (entries_from f (apply f s e) rest)
      ∙ (ap (λ (l : List Entry). h ++ l) (sym (entries-first f s step rest stop-is))
      ∙ (ap (λ (l : List ScanStep). h ++ entries_from f s l) (sym is) ∙ scan.runs)))

  made-left : (step : ScanStep) (rest : List ScanStep) → scan.rest ≡ step ∷ rest
      → left_of v.fixed (made v (Some step)).history ≡ rest ++ scans_from v.fixed scan.next
      scan.many
  made-left step rest is =
      left-more v.fixed (state_of v) v.history step (rest ++ scans_from v.fixed scan.next scan.many)
      (scan.left stop-is ∙ ap (λ (l : List ScanStep). l ++ scans_from v.fixed scan.next scan.many)
      is)

  made-stop : (step : ScanStep) → (state_of (made v (Some step))).stop ≡
      (apply v.fixed (state_of v) (entry_of v.fixed (state_of v) step)).stop
  made-stop step = ap (λ (t : ControllerState). t.stop)
      (replay_more v.fixed (start v.fixed.plan) v.history (entry_of v.fixed (state_of v) step))

  made-kept : (step : ScanStep) → (made v (Some step)).reserved
      ≡ not (closes_scan step (apply v.fixed (state_of v)
      (entry_of v.fixed (state_of v) step)).stop)
  made-kept step = ap (λ b. b && not
      (closes_scan step (apply v.fixed (state_of v) (entry_of v.fixed (state_of v) step)).stop))
      kept

  made-gone : (step : ScanStep) (ends : Bool) → ends_scan step ≡ ends
      → (state_of (made v (Some step))).gone
      ≡ (if ends then (state_of v).gone + 1 else (state_of v).gone)
  made-gone step ends is = ap (λ (t : ControllerState). t.gone)
      (replay_more v.fixed (start v.fixed.plan) v.history (entry_of v.fixed (state_of v) step))
      ∙ gone_made v.fixed (state_of v) step
      ∙ ap (λ b. if b then (state_of v).gone + 1 else (state_of v).gone) is

  next-is : scan.next ≡ (state_of v).gone + 2
  next-is = (scan.goes kept).2

  made-last : (last : ScanStep) → ends_scan last ≡ true → scan.rest ≡ last ∷ []
      → InScan target (made v (Some last))
  made-last last ends is = record {
    rest = [];
    next = scan.next;
    many = scan.many;
    runs = made-runs last [] is;
    left = λ _. made-left last [] is;
    goes = λ on.
        let shut : not (closes_scan last _) ≡ false = ap not (ends-close last _ ends) in
        absurd (let no' : false ≡ true = sym shut ∙ (sym (made-kept last) ∙ on) in cc);
    over = λ _. inr (refl, let more = made-gone last true ends in omega (arith, next-is, more));
  }

  made-on : (step : ScanStep) (front : List ScanStep) (last : ScanStep) → IsNoEnd step
      → NoEnds front → ends_scan last ≡ true → scan.rest ≡ step ∷ (front ++ last ∷ [])
      → InScan target (made v (Some step))
  made-on step front last no' none ends is =
      let c = closes v.fixed (state_of v) step stop-is no' in
      record {
        rest = front ++ last ∷ [];
        next = scan.next;
        many = scan.many;
        runs = made-runs step (front ++ last ∷ []) is;
        left = λ _. made-left step (front ++ last ∷ []) is;
        goes = λ on. (
          made-stop step ∙ c.goes_on (opened _ (sym (made-kept step) ∙ on)),
          record
              { front = front; last = last; none = none; ends = ends; is = refl },
          let same = made-gone step false no' in omega (arith, next-is, same),
        );
        over = λ off. inl (λ z. c.over (closed _ (sym (made-kept step) ∙ off))
            (sym (made-stop step) ∙ z));
      } where
        opened : (b : Bool) → not b ≡ true → b ≡ false
        opened true is = absurd (cc)
        opened false is = refl

        closed : (b : Bool) → not b ≡ false → b ≡ true
        closed true is = refl
        closed false is = absurd (cc)

  due-is : (step : ScanStep) (rest : List ScanStep) → scan.rest ≡ step ∷ rest
      → due_step v ≡ Some step
  due-is step rest is =
      ap (λ n. if n == 0 then first_step (left_of v.fixed v.history) else None) stop-is
      ∙ ap first_step (scan.left stop-is ∙ ap
      (λ (l : List ScanStep). l ++ scans_from v.fixed scan.next scan.many) is)

  -- the scan goes on
  record Next : Type 0 where
    pub step : ScanStep
    pub rest : List ScanStep
    pub is : scan.rest ≡ step ∷ rest
    pub within : InScan target (made v (Some step))

  next-by : (front : List ScanStep) (last : ScanStep) → NoEnds front → ends_scan last ≡ true
      → scan.rest ≡ front ++ last ∷ [] → Next
  next-by [] last none ends is =
      record { step = last; rest = []; is = is; within = made-last last ends is }
  next-by (step ∷ front) last none ends is =
      record {
        step = step;
        rest = front ++ last ∷ [];
        is = is;
        within = made-on step front last none.0 none.1 ends is;
      }

  the-next : Next
  the-next =
      let once = (scan.goes kept).1 in next-by once.front once.last once.none once.ends once.is

  pub scan-goes-on : InScan target (stepped v)
  scan-goes-on = subst (λ (due : Option ScanStep). InScan target (made v due))
      (sym (due-is the-next.step the-next.rest the-next.is)) the-next.within

  -- and less is left
  pub scan-shorter : length (left_of (stepped v).fixed (stepped v).history) < length
      (left_of v.fixed v.history)
  scan-shorter =
      let n = the-next in
      let more = scans_from v.fixed scan.next scan.many in
      let old : left_of v.fixed v.history ≡ n.step ∷ (n.rest ++ more) =
      scan.left stop-is ∙ ap (λ (l : List ScanStep). l ++ more) n.is in
      let new : left_of v.fixed (made v (Some n.step)).history ≡ n.rest ++ more = made-left n.step
      n.rest n.is in
      let P : Option ScanStep → Type 0 = λ due. length
      (left_of (made v due).fixed (made v due).history) < length (left_of v.fixed v.history) in
      let a = ap length old in
      let b = ap length new in
      subst P (sym (due-is n.step n.rest n.is)) (omega (arith, a, b))

-- ---- the ends of a scan

-- behind the last step
pub scan-over : (target : List Entry) (v : ControllerIs) → InScan target v → v.reserved ≡ false
    → v.history ≡ target
scan-over target v scan off = sym (append-nil v.history)
    ∙ (ap (λ (l : List Entry). v.history ++ l) (sym nothing) ∙ scan.runs) where
      is-not : (n : ℕ) → n ≢ 0 → (n == 0) ≡ false
      is-not n other = ne_eqb n 0 other

      nothing : entries_from v.fixed (state_of v) scan.rest ≡ []
      nothing = ⊎_elim
          (λ (stopped : (state_of v).stop ≢ 0). entries-none v.fixed (state_of v) scan.rest
          (is-not (state_of v).stop stopped))
          (λ (none : (scan.rest ≡ []) × (scan.next ≡ (state_of v).gone + 1)).
          ap (entries_from v.fixed (state_of v)) none.0 ∙ entries-end v.fixed (state_of v))
          (scan.over off)

-- a controller that has not ended goes on
pub open-stop : (v : ControllerIs) → has_ended v ≡ false → (state_of v).stop ≡ 0
open-stop v open' = by ((state_of v).stop == 0) refl where
  by : (b : Bool) → ((state_of v).stop == 0) ≡ b → (state_of v).stop ≡ 0
  by true is = eqb-true (state_of v).stop 0 is
  by false is =
      let ended : has_ended v ≡ true = ap
      (λ b. is_none (if b then first_step (left_of v.fixed v.history) else None)) is in
      let no' : true ≡ false = sym ended ∙ open' in absurd (cc)

pub open-left : (v : ControllerIs) → has_ended v ≡ false
    → is_none (first_step (left_of v.fixed v.history)) ≡ false
open-left v open' = sym (ap (λ n. is_none
    (if n == 0 then first_step (left_of v.fixed v.history) else None)) (open-stop v open')) ∙ open'

-- of so many whole scans one is to come
pub record Whole (v : ControllerIs) (next many : ℕ) : Type 0 where
  pub rest : ℕ
  pub is : many ≡ suc rest
  pub left : left_of v.fixed v.history ≡ due v.fixed.plan next ++ scans_from v.fixed (next + 1) rest

pub whole-by : (v : ControllerIs) (next many : ℕ) → has_ended v ≡ false
    → left_of v.fixed v.history ≡ scans_from v.fixed next many → Whole v next many
whole-by v next zero open' left =
    let none : is_none (first_step (left_of v.fixed v.history)) ≡ true = ap
    (λ (l : List ScanStep). is_none (first_step l)) left in
    let no' : true ≡ false = sym none ∙ open-left v open' in absurd (cc)
whole-by v next (suc many) open' left = record { rest = many; is = refl; left = left }

-- where a scan begins
pub scan-begins : (v : ControllerIs) → has_ended v ≡ false → IsBetweenScans v
    → InScan (v.history ++ entries_from v.fixed (state_of v)
    (due v.fixed.plan ((state_of v).gone + 1))) (record v { reserved = true })
scan-begins v open' between =
    let scan = (state_of v).gone + 1 in
    let w = whole-by v scan between.many open' (between.left (open-stop v open')) in
    record {
      rest = due v.fixed.plan scan;
      next = scan + 1;
      many = w.rest;
      runs = refl;
      left = λ _. w.left;
      goes = λ _. (open-stop v open', due-once v.fixed.plan scan, omega arith);
      over = λ off. absurd (let no' : true ≡ false = off in cc);
    }

-- ---- what the communication leaves of the scans

gone-from : (f : Fixed) (s : ControllerState) (added : List Entry) → AreOf Communication added
    → (fold (apply f) s added).gone ≡ s.gone
gone-from f s [] of = refl
gone-from f s (e ∷ added) of = gone-from f (apply f s e) added of.1 ∙ (told_entry e of.0).gone f s

gone-stays : (v : ControllerIs) (added : List Entry) → AreOf Communication added
    → (state_of (grown v added v.reserved)).gone ≡ (state_of v).gone
gone-stays v added of =
    ap (λ (t : ControllerState). t.gone)
    (replay_append v.fixed (start v.fixed.plan) v.history added)
    ∙ gone-from v.fixed (state_of v) added of

-- power, and how often it failed
abbrev SamePower : ControllerState → ControllerState → Type 0
SamePower s t = (t.powered ≡ s.powered) × (t.failures ≡ s.failures)

power-entry : (f : Fixed) (s : ControllerState) (e : Entry) → maker_of e ≡ Communication
    → SamePower s (apply f s e)
power-entry f s entries.Begin of = absurd (cc)
power-entry f s (entries.Input row) of = absurd (cc)
power-entry f s (entries.Solve row) of = absurd (cc)
power-entry f s (entries.Output row words) of = absurd (cc)
power-entry f s entries.End of = absurd (cc)
power-entry f s entries.Fail of = absurd (cc)
power-entry f s entries.Dark of = absurd (cc)
power-entry f s (entries.Collect calls) of = (refl, refl)
power-entry f s (entries.Peer id request reply) of = (refl, refl)
power-entry f s (entries.Off id request) of = (refl, refl)
power-entry f s (entries.Finish id result) of = (refl, refl)

power-from : (f : Fixed) (s : ControllerState) (added : List Entry) → AreOf Communication added
    → SamePower s (fold (apply f) s added)
power-from f s [] of = (refl, refl)
power-from f s (e ∷ added) of =
    let one = power-entry f s e of.0 in
    let more = power-from f (apply f s e) added of.1 in
    (more.0 ∙ one.0, more.1 ∙ one.1)

added-state : (v : ControllerIs) (added : List Entry)
    → state_of (grown v added v.reserved) ≡ fold (apply v.fixed) (state_of v) added
added-state v added = replay_append v.fixed (start v.fixed.plan) v.history added

pub quiet-scan : (v : ControllerIs) (added : List Entry) (reserved : Bool)
    → AreOf Communication added → KeepsStepsLeft v (grown v added reserved)
quiet-scan v added reserved of = record {
  fixed = refl;
  left = ap (λ (l : List ScanStep). drop (length l) (all_due v.fixed))
      (steps-stay v.history added of);
  gone = gone-stays v added of;
  stop = stop_stays v added of;
  powered = ap (λ (t : ControllerState). t.powered) (added-state v added)
      ∙ (power-from v.fixed (state_of v) added of).0;
  failures = ap (λ (t : ControllerState). t.failures) (added-state v added)
      ∙ (power-from v.fixed (state_of v) added of).1;
} where
  steps-stay : (h added : List Entry) → AreOf Communication added
      → scan_steps (h ++ added) ≡ scan_steps h
  steps-stay h [] of = ap scan_steps (append-nil h)
  steps-stay h (e ∷ added) of =
      ap scan_steps (sym (append_assoc h (e ∷ []) added))
      ∙ (steps-stay (h ++ e ∷ []) added of.1 ∙ scan_steps-quiet h e (told_entry e of.0).step)

pub between-kept : (v w : ControllerIs) → KeepsStepsLeft v w → IsBetweenScans v → IsBetweenScans w
between-kept v w keeps b = record {
  many = b.many;
  left = λ goes. keeps.left ∙ (b.left (sym keeps.stop ∙ goes)
      ∙ (λ i. scans_from (sym keeps.fixed i) (sym keeps.gone i + 1) b.many));
}

-- ---- a scan that runs

pub record IsScanning (first v : ControllerIs) : Type 0 where
  pub within : InScan (with_scan first) v
  pub events : List Entry
  pub went_on : ControllerWentOn Scan events first v
  pub no_more : length (left_of v.fixed v.history) ≤ length (left_of first.fixed first.history)
  pub less : v.reserved ≡ false → length (left_of v.fixed v.history) < length
      (left_of first.fixed first.history)

are-both : (xs ys : List Entry) → AreOf Scan xs → AreOf Scan ys → AreOf Scan (xs ++ ys)
are-both [] ys a b = b
are-both (x ∷ xs) ys a b = (a.0, are-both xs ys a.1 b)

pub went-both : (xs ys : List Entry) (u v w : ControllerIs) → ControllerWentOn Scan xs u v
    → ControllerWentOn Scan ys v w → ControllerWentOn Scan (xs ++ ys) u w
went-both xs ys u v w a b = record {
  fixed = b.fixed ∙ a.fixed;
  history = b.history ∙ (ap (λ (l : List Entry). l ++ ys) a.history ∙ append_assoc u.history xs ys);
  made = are-both xs ys a.made b.made;
  legal = b.legal;
}

-- the history with which a scan ends, where the controller goes on
pub scan-target : (v : ControllerIs) → has_ended v ≡ false
    → with_scan v ≡ v.history ++ entries_from v.fixed (state_of v)
    (due v.fixed.plan ((state_of v).gone + 1))
scan-target v open' =
    ap (λ b. if b then v.history else v.history ++ entries_from v.fixed (state_of v)
    (due v.fixed.plan ((state_of v).gone + 1))) open'

pub scanning-begins : (v w : ControllerIs) (events : List Entry) → has_ended v ≡ false
    → IsBetweenScans v → w ≡ record v { reserved = true }
    → ControllerWentOn Scan events v w → IsScanning v w
scanning-begins v w events open' between is went = record {
  within = subst (λ (target : List Entry). InScan target w) (sym (scan-target v open'))
      (subst (InScan (v.history ++ entries_from v.fixed (state_of v)
      (due v.fixed.plan ((state_of v).gone + 1)))) (sym is)
      (scan-begins v open' between));
  events = events;
  went_on = went;
  no_more =
      let same : length (left_of w.fixed w.history) ≡ length (left_of v.fixed v.history) =
      ap (λ (u : ControllerIs). length (left_of u.fixed u.history)) is in
      omega (arith, same);
  less = λ off. absurd (let no' : true ≡ false = sym (ap (λ (u : ControllerIs). u.reserved) is)
      ∙ off in cc);
}

pub scanning-shorter : (first v w : ControllerIs) → IsScanning first v → v.reserved ≡ true
    → w ≡ stepped v
    → length (left_of w.fixed w.history) < length (left_of v.fixed v.history)
scanning-shorter first v w s kept is =
    subst (λ (u : ControllerIs). length (left_of u.fixed u.history) < length
    (left_of v.fixed v.history)) (sym is)
    (scan-shorter (with_scan first) v s.within kept)

pub scanning-goes-on : (first v w : ControllerIs) (events : List Entry) → IsScanning first v
    → v.reserved ≡ true → w ≡ stepped v
    → ControllerWentOn Scan events v w → IsScanning first w
scanning-goes-on first v w events s kept is went = record {
  within = subst (InScan (with_scan first)) (sym is)
      (scan-goes-on (with_scan first) v s.within kept);
  events = s.events ++ events;
  went_on = went-both s.events events first v w s.went_on went;
  no_more = let shorter = scanning-shorter first v w s kept is in let before = s.no_more in omega
      (arith, shorter, before);
  less = λ off. let shorter = scanning-shorter first v w s kept is in let before = s.no_more in
      omega (arith, shorter, before);
}

pub scanning-made : (first v : ControllerIs) → IsScanning first v → v.reserved ≡ false
    → MadeEvents (with_scan first) first v
scanning-made first v s off = record {
  history_is = scan-over (with_scan first) v s.within off;
  events = s.events;
  went_on = s.went_on;
}

pub scanning-between : (first v : ControllerIs) → IsScanning first v → v.reserved ≡ false
    → IsBetweenScans v
scanning-between first v s off = record { many = s.within.many; left = λ goes. all goes }
  where
    all : (state_of v).stop ≡ 0
        → left_of v.fixed v.history ≡ scans_from v.fixed ((state_of v).gone + 1) s.within.many
    all goes = s.within.left goes ∙ elim (s.within.over off) [
      | inl stopped ↦ absurd (stopped goes)
      | inr done ↦ λ i. done.0 i ++ scans_from v.fixed (done.1 i) s.within.many
    ]

pub scanning-lessens : (first v : ControllerIs) → IsScanning first v → v.reserved ≡ false
    → LessensScan first v
scanning-lessens first v s off = record { no_more = s.no_more; less = λ open'. s.less off }

-- How many whole scans are left of a session.
use Rattle.std.proofs.Common.{◌≡◌, ℕ, zero, suc, ◌+◌, ◌<◌, ◌≤◌, ◌==◌, Bool, true, false, ◌||◌, not}
use Rattle.std.proofs.Common.{List, [], ◌∷◌, ◌++◌, length, drop, None, refl, sym, ap, subst, ◌∙◌}
use Rattle.std.proofs.Common.{arith, length-append, inl, inr}
use Rattle.std.specs.Prelude.{if◌then◌else◌}
use Rattle.std.proofs.Math.Seq.{drop-append_seam}
use Rattle.std.proofs.lemmas.Bool.{eqb-true, or_right}
use Rattle.std.proofs.lemmas.List.{drop-drop, length-drop}
use Rattle.std.proofs.lemmas.List.Elements.{filter_map-append}
use Rattle.scan_order.specs.declared.due.ScanStep.{ScanStep}
use Rattle.scan_order.specs.Due.{due}
use Rattle.controller_core.specs.Controller.{ControllerIs, first_step, grown, has_ended, is_none}
use Rattle.controller_core.specs.Controller.{left_of, state_of}
use Rattle.controller_core.specs.Event.{scan_steps, step_of}
use Rattle.controller_core.specs.Replay.{ControllerState, start}
use Rattle.controller_core.specs.Scans.{all_due, scans_from}
use Rattle.controller_core.proofs.NextEntry.{replay_append}
use Rattle.whole_scan.specs.Scans.{IsBetweenScans}
use Rattle.whole_scan.proofs.ScanEnds.{EndsOnce, due-once}
use Rattle.whole_scan.proofs.ScanSteps.{open-left, open-stop, whole-by}
use Rattle.panel_session.specs.Scanning.{scan_made}
use Rattle.panel_session.specs.Session.{ends_bench, state_after}
use Rattle.panel_session.proofs.OneScan.{made-scan}

-- A controller after the scan that is due, with the ends of its calls.
abbrev pub scanned : ControllerIs → ControllerIs
scanned v = grown v (scan_made v.fixed (state_of v)) v.reserved

pub scanned-state : (v : ControllerIs)
    → state_of (scanned v) ≡ state_after v.fixed (state_of v) (scan_made v.fixed (state_of v))
scanned-state v =
    replay_append v.fixed (start v.fixed.plan) v.history (scan_made v.fixed (state_of v))

-- What is left behind its steps.
left-behind : (v : ControllerIs)
    → left_of v.fixed (scanned v).history
    ≡ drop (length (scan_steps (scan_made v.fixed (state_of v)))) (left_of v.fixed v.history)
left-behind v =
    let made = scan_made v.fixed (state_of v) in
    let count : length (scan_steps (v.history ++ made))
    ≡ length (scan_steps v.history) + length (scan_steps made) =
    ap length (filter_map-append step_of v.history made)
    ∙ length-append (scan_steps v.history) (scan_steps made) in
    ap (λ (n : ℕ). drop n (all_due v.fixed)) count
    ∙ sym (drop-drop (length (scan_steps made)) (length (scan_steps v.history)) (all_due v.fixed))

-- Where a controller goes on, one scan of those that are left is made.
pub record OneLess (v : ControllerIs) (many : ℕ) : Type 0 where
  pub rest : ℕ
  pub is : many ≡ suc rest
  pub goes : (state_of v).stop ≡ 0
  pub left : (state_of (scanned v)).stop ≡ 0 → left_of v.fixed (scanned v).history
      ≡ scans_from v.fixed ((state_of (scanned v)).gone + 1) rest

pub one-less : (v : ControllerIs) (between : IsBetweenScans v) → has_ended v ≡ false
    → OneLess v between.many
one-less v between open' =
    let scan = (state_of v).gone + 1 in
    let goes = open-stop v open' in
    let whole = whole-by v scan between.many open' (between.left goes) in
    let made = made-scan v.fixed (state_of v) goes in
    let state = scanned-state v in
    record {
      rest = whole.rest;
      is = whole.is;
      goes = goes;
      left = λ runs. elim made.ends [
        | inl stops ↦ absurd (stops (sym (ap (λ (s : ControllerState). s.stop) state) ∙ runs))
        | inr all ↦
            left-behind v
            ∙ ap (λ (steps : List ScanStep). drop (length steps) (left_of v.fixed v.history)) all.0
            ∙ ap (drop (length (due v.fixed.plan scan))) whole.left
            ∙ drop-append_seam (due v.fixed.plan scan) (scans_from v.fixed (scan + 1) whole.rest)
            ∙ ap (λ (gone : ℕ). scans_from v.fixed (gone + 1) whole.rest)
            (sym (ap (λ (s : ControllerState). s.gone) state ∙ all.1))
      ];
    }

some-there : (steps : List ScanStep) → is_none (first_step steps) ≡ false → 1 ≤ length steps
some-there [] there = absurd (let no' : true ≡ false = there in cc)
some-there (step ∷ steps) there = omega arith

-- Fewer steps are left behind it.
pub fewer-left : (v : ControllerIs) → has_ended v ≡ false
    → length (left_of v.fixed (scanned v).history) < length (left_of v.fixed v.history)
fewer-left v open' =
    let made = scan_made v.fixed (state_of v) in
    let some = (made-scan v.fixed (state_of v) (open-stop v open')).some in
    let count = ap length (left-behind v)
    ∙ length-drop (length (scan_steps made)) (left_of v.fixed v.history) in
    let there = some-there (left_of v.fixed v.history) (open-left v open') in
    omega (arith, count, some, there)

-- Where a controller has ended, no scan is left, or it has stopped.
first-there : (steps more : List ScanStep) → EndsOnce steps
    → is_none (first_step (steps ++ more)) ≡ false
first-there steps more once =
    subst (λ (steps : List ScanStep). is_none (first_step (steps ++ more)) ≡ false) (sym once.is)
    (either once.front)
  where
    either : (front : List ScanStep)
        → is_none (first_step ((front ++ once.last ∷ []) ++ more)) ≡ false
    either [] = refl
    either (step ∷ front) = refl

none-left : (v : ControllerIs) (next many : ℕ)
    → is_none (first_step (left_of v.fixed v.history)) ≡ true
    → left_of v.fixed v.history ≡ scans_from v.fixed next many → (many == 0) ≡ true
none-left v next zero none left = refl
none-left v next (suc many) none left =
    let there = first-there (due v.fixed.plan next) (scans_from v.fixed (next + 1) many)
    (due-once v.fixed.plan next) in
    let no' : true ≡ false =
    sym none ∙ ap (λ (steps : List ScanStep). is_none (first_step steps)) left ∙ there in
    absurd (cc)

pub ended-last : (v : ControllerIs) (between : IsBetweenScans v) → has_ended v ≡ true
    → ends_bench between.many (state_of v) ≡ true
ended-last v between ended = either ((state_of v).stop == 0) refl
  where
    either : (goes : Bool) → ((state_of v).stop == 0) ≡ goes
        → ends_bench between.many (state_of v) ≡ true
    either true is =
        let none : is_none (first_step (left_of v.fixed v.history)) ≡ true =
        sym (ap (λ (goes : Bool). is_none (if goes
        then first_step (left_of v.fixed v.history) else None)) is) ∙ ended in
        let left = between.left (eqb-true (state_of v).stop 0 is) in
        ap (λ (none : Bool). none || not ((state_of v).stop == 0))
        (none-left v ((state_of v).gone + 1) between.many none left)
    either false is = or_right (between.many == 0) (not ((state_of v).stop == 0)) (ap not is)

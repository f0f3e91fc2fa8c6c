-- How a history grows to the run of a controller, and its panel lines with it.
use Rattle.std.proofs.Common.{◌≡◌, ◌==◌, ℕ, zero, suc, Bool, true, false, List, [], ◌∷◌, ◌++◌}
use Rattle.std.proofs.Common.{length, drop, Option, Some, None, refl, sym, ap, ◌∙◌, arith}
use Rattle.std.proofs.Common.{append_assoc, append-nil, length-append}
use Rattle.std.specs.Prelude.{fold, if◌then◌else◌}
use Rattle.scan_order.specs.declared.due.ScanStep.{ScanStep}
use Rattle.scan_order.specs.declared.due.ScanStep.TheVariants as steps
use Rattle.controller_core.specs.declared.fixed.Fixed.{Fixed}
use Rattle.controller_core.specs.declared.entry.Entry.{Entry}
use Rattle.controller_core.specs.declared.entry.StepEnd.TheVariants as ends
use Rattle.controller_core.specs.Replay.{ControllerState, apply, replay, start}
use Rattle.controller_core.specs.Event.{entry_of, scan_steps, step_of}
use Rattle.controller_core.specs.Scans.{all_due}
use Rattle.controller_core.specs.Controller.{ControllerIs, answered, due_step, first_step}
use Rattle.controller_core.specs.Controller.{has_ended}
use Rattle.controller_core.specs.Controller.{is_none, left_of, made, state_of, step_end, stepped}
use Rattle.controller_core.specs.Panel.{line_of_end, line_of_step, lines_from, panel_lines}
use Rattle.controller_core.specs.Run.{ends_with, entries_from, run_of}
use Rattle.controller_core.proofs.Keeping.{replay_more, scan_steps-more}

pub step_of_made : (f : Fixed) (s : ControllerState) (step : ScanStep)
    → step_of (entry_of f s step) ≡ Some step
step_of_made f s steps.Begin = refl
step_of_made f s (steps.In row) = refl
step_of_made f s (steps.Solve row) = refl
step_of_made f s (steps.Out row) = refl
step_of_made f s steps.End = refl
step_of_made f s steps.Fail = refl
step_of_made f s steps.Dark = refl

pub lines_more : (f : Fixed) (s : ControllerState) (h : List Entry) (e : Entry)
    → lines_from f s (h ++ e ∷ [])
    ≡ lines_from f s h ++ line_of_step f.plan (step_of e) (fold (apply f) s (h ++ e ∷ []))
unfolding lines_from
lines_more f s [] e = append-nil (line_of_step f.plan (step_of e) (apply f s e))
lines_more f s (x ∷ h) e =
    let after = apply f s x in
    ap (λ (l : List (List ℕ)). line_of_step f.plan (step_of x) after ++ l) (lines_more f after h e)
    ∙ sym (append_assoc (line_of_step f.plan (step_of x) after) (lines_from f after h)
    (line_of_step f.plan (step_of e) (fold (apply f) after (h ++ e ∷ []))))

none_line : (v : ControllerIs) (stop : ℕ) (s : ControllerState)
    → line_of_end v.fixed.plan (answered stop None) s ≡ []
none_line v stop s = none_line_by (stop == 0)
  where
    none_line_by : (b : Bool)
        → line_of_end v.fixed.plan (if b then ends.Ended else ends.Stopped stop) s ≡ []
    none_line_by true = refl
    none_line_by false = refl

lines_made : (v : ControllerIs) (due : Option ScanStep) → panel_lines v.fixed (made v due).history
    ≡ panel_lines v.fixed v.history
    ++ line_of_end v.fixed.plan (answered (state_of v).stop due) (state_of (made v due))
lines_made v None =
    sym (ap (λ (l : List (List ℕ)). panel_lines v.fixed v.history ++ l)
    (none_line v (state_of v).stop (state_of v))
    ∙ append-nil (panel_lines v.fixed v.history))
lines_made v (Some step) =
    let e = entry_of v.fixed (state_of v) step in
    lines_more v.fixed (start v.fixed.plan) v.history e
    ∙ ap (λ (o : Option ScanStep). panel_lines v.fixed v.history
    ++ line_of_step v.fixed.plan o (replay v.fixed (v.history ++ e ∷ [])))
    (step_of_made v.fixed (state_of v) step)

pub lines_stepped : (v : ControllerIs) → panel_lines v.fixed (stepped v).history
    ≡ panel_lines v.fixed v.history ++ line_of_end v.fixed.plan (step_end v) (state_of (stepped v))
lines_stepped v = lines_made v (due_step v)

-- ---- the run

drop_first : (n : ℕ) (xs : List ScanStep) (x : ScanStep) (rest : List ScanStep)
    → drop n xs ≡ x ∷ rest → drop (suc n) xs ≡ rest
drop_first zero [] x rest is = absurd cc
drop_first zero (y ∷ xs) x rest is = cc
drop_first (suc n) [] x rest is = absurd cc
drop_first (suc n) (y ∷ xs) x rest is = drop_first n xs x rest is

-- what is left behind one more step
left_more : (f : Fixed) (s : ControllerState) (h : List Entry) (step : ScanStep)
    (rest : List ScanStep) → left_of f h ≡ step ∷ rest
    → left_of f (h ++ entry_of f s step ∷ []) ≡ rest
left_more f s h step rest left =
    let more = scan_steps-more f s h step in
    let long : length (scan_steps (h ++ entry_of f s step ∷ [])) ≡ suc (length (scan_steps h)) =
    omega (arith, ap length more, length-append (scan_steps h) (step ∷ [])) in
    ap (λ n. drop n (all_due f)) long
    ∙ drop_first (length (scan_steps h)) (all_due f) step rest left

entries_first : (f : Fixed) (s : ControllerState) (step : ScanStep) (rest : List ScanStep)
    → (s.stop == 0) ≡ true
    → entries_from f s (step ∷ rest)
    ≡ entry_of f s step ∷ entries_from f (apply f s (entry_of f s step)) rest
unfolding entries_from
entries_first f s step rest goes =
    ap (λ b. if b
    then entry_of f s step ∷ entries_from f (apply f s (entry_of f s step)) rest else []) goes

entries_none : (f : Fixed) (s : ControllerState) (due : List ScanStep) → (s.stop == 0) ≡ false
    → entries_from f s due ≡ []
unfolding entries_from
entries_none f s [] stopped = refl
entries_none f s (step ∷ rest) stopped =
    ap (λ b. if b then entry_of f s step ∷ entries_from f (apply f s (entry_of f s step)) rest
    else []) stopped

entries_end : (f : Fixed) (s : ControllerState) (due : List ScanStep) → due ≡ []
    → entries_from f s due ≡ []
unfolding entries_from
entries_end f s due none = ap (entries_from f s) none

run_by : (v : ControllerIs) (b : Bool) → ((state_of v).stop == 0) ≡ b → (due : List ScanStep)
    → left_of v.fixed v.history ≡ due
    → ends_with (made v (if b then first_step due else None)) ≡ ends_with v
run_by v false going due left = refl
run_by v true going [] left = refl
run_by v true going (step ∷ rest) left =
    let f = v.fixed in
    let h = v.history in
    let s = state_of v in
    let e = entry_of f s step in
    let now : replay f (h ++ e ∷ []) ≡ apply f s e = replay_more f (start f.plan) h e in
    let behind : left_of f (h ++ e ∷ []) ≡ rest = left_more f s h step rest left in
    let first : entries_from f s (left_of f h) ≡ e ∷ entries_from f (apply f s e) rest =
    ap (entries_from f s) left ∙ entries_first f s step rest going in
    ap (λ (t : ControllerState). (h ++ e ∷ []) ++ entries_from f t (left_of f (h ++ e ∷ []))) now
    ∙ ap (λ (l : List ScanStep). (h ++ e ∷ []) ++ entries_from f (apply f s e) l) behind
    ∙ append_assoc h (e ∷ []) (entries_from f (apply f s e) rest)
    ∙ ap (λ (l : List Entry). h ++ l) (sym first)

nothing_more : (v : ControllerIs)
    → entries_from v.fixed (state_of v) (left_of v.fixed v.history) ≡ [] → ends_with v ≡ v.history
nothing_more v none = ap (λ (l : List Entry). v.history ++ l) none ∙ append-nil v.history

ended_by : (v : ControllerIs) (b : Bool) → ((state_of v).stop == 0) ≡ b → (due : List ScanStep)
    → left_of v.fixed v.history ≡ due
    → is_none (if b then first_step due else None) ≡ true → ends_with v ≡ v.history
ended_by v false going due left none =
    nothing_more v (entries_none v.fixed (state_of v) (left_of v.fixed v.history) going)
ended_by v true going [] left none =
    nothing_more v (entries_end v.fixed (state_of v) (left_of v.fixed v.history) left)
ended_by v true going (step ∷ rest) left none = absurd cc

pub run_starts : (v : ControllerIs) → v.history ≡ [] → ends_with v ≡ run_of v.fixed
run_starts v none =
    ap (λ (h : List Entry). h ++ entries_from v.fixed (replay v.fixed h) (left_of v.fixed h)) none

pub run_keeps : (v : ControllerIs) → ends_with (stepped v) ≡ ends_with v
run_keeps v = run_by v ((state_of v).stop == 0) refl (left_of v.fixed v.history) refl

pub run_ended : (v : ControllerIs) → has_ended v ≡ true → ends_with v ≡ v.history
run_ended v ended = ended_by v ((state_of v).stop == 0) refl (left_of v.fixed v.history) refl ended

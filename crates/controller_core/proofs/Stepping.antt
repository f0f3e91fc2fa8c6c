-- What a step gives, and whether all scans are gone.
use Rattle.std.proofs.Common.{◌≡◌, ◌<◌, ◌==◌, ℕ, suc, ◌+◌, ◌-◌, Bool, true, false, ◌&&◌, List}
use Rattle.std.proofs.Common.{[], ◌∷◌, ◌++◌, length, drop, Some, None, refl, sym, ap, ◌∙◌}
use Rattle.std.proofs.Common.{subst, arith}
use Rattle.std.specs.Prelude.{not, if◌then◌else◌}
use Rattle.std.proofs.Math.Seq.{drop-append_seam}
use Rattle.scan_order.specs.declared.due.ScanPlace.{ScanPlace}
use Rattle.scan_order.specs.declared.due.ScanPlace.TheVariants as places
use Rattle.scan_order.specs.declared.due.ScanStep.{ScanStep}
use Rattle.controller_core.specs.declared.fixed.Fixed.{Fixed}
use Rattle.controller_core.specs.declared.entry.Entry.{Entry}
use Rattle.controller_core.specs.declared.entry.StepEnd.TheVariants as ends
use Rattle.controller_core.specs.declared.machine.Machine.{Machine}
use Rattle.controller_core.specs.Replay.{ControllerState, apply, replay}
use Rattle.controller_core.specs.Event.{entry_of, scan_steps}
use Rattle.controller_core.specs.Machine.{state_is}
use Rattle.controller_core.specs.Scans.{all_due, closes_scan, is_done, is_over}
use Rattle.controller_core.specs.Scans.{scans_from}
use Rattle.controller_core.specs.Controller.{ControllerIs}
use Rattle.controller_core.specs.Controller.{answered, due_step, first_step, grown, left_of}
use Rattle.controller_core.specs.Controller.{state_of}
use Rattle.controller_core.specs.Controller.{entry_for, has_ended, is_none, made, step_end, stepped}
use Rattle.controller_core.specs.Conducted.{conducted_at, conducted_if, step_conducts}
use Rattle.controller_core.specs.Kept.{IsKept}
use Rattle.controller_core.proofs.Keeping.{IsNext, due_first, due_none}
use Rattle.controller_core.proofs.Places.{not_done, scans-whole}

-- ---- what a step gives

-- the step that is due in a controller that goes on, and in one that has stopped
goes_due : (f : Fixed) (m : Machine) (h : List Entry) (at : ScanPlace) (r : Bool)
    → IsKept f m h at → m.stop ≡ 0
    → due_step (record { fixed = f; history = h; reserved = r }) ≡ first_step (left_of f h)
goes_due f m h at r k goes =
    let stop : (replay f h).stop ≡ 0 = ap (λ (t : ControllerState). t.stop) (sym k.state) ∙ goes in
    ap (λ n. if n == 0 then first_step (left_of f h) else None) stop

pub step_made : (f : Fixed) (m n : Machine) (h : List Entry) (at : ScanPlace) (r : Bool)
    (step : ScanStep) (v : ControllerIs)
    → record { fixed = f; history = h; reserved = r } ≡ v → IsKept f m h at → m.stop ≡ 0
    → m.gone < f.scans
    → IsNext f m at step → state_is n ≡ apply f (state_is m) (entry_of f (state_is m) step)
    → (stepped v ≡ record {
      fixed = f;
      history = h ++ entry_of f (state_is m) step ∷ [];
      reserved = r && not (closes_scan step n.stop);
    })
    × (step_end v ≡ ends.Did step) × (has_ended v ≡ false)
step_made f m n h at r step v is k goes lt next after =
    let w : ControllerIs = record { fixed = f; history = h; reserved = r } in
    let due : due_step w ≡ Some step = goes_due f m h at r k goes
    ∙ due_first f m h at step k lt next in
    let one : stepped w ≡ made w (Some step) = ap (made w) due in
    let two : made w (Some step) ≡ grown w (entry_of f (state_is m) step ∷ [])
    (r && not (closes_scan step (apply f (state_is m) (entry_of f (state_is m) step)).stop)) =
    ap (λ (t : ControllerState). grown w (entry_of f t step ∷ [])
    (r && not (closes_scan step (apply f t (entry_of f t step)).stop))) (sym k.state) in
    let three : grown w (entry_of f (state_is m) step ∷ [])
    (r && not (closes_scan step (apply f (state_is m) (entry_of f (state_is m) step)).stop))
    ≡ grown w (entry_of f (state_is m) step ∷ []) (r && not (closes_scan step n.stop)) =
    ap (λ (t : ControllerState). grown w (entry_of f (state_is m) step ∷ [])
    (r && not (closes_scan step t.stop))) (sym after) in
    let P : ControllerIs
    → Type 0 = λ u. (stepped u ≡ grown w (entry_of f (state_is m) step ∷ [])
    (r && not (closes_scan step n.stop))) × (step_end u ≡ ends.Did step) × (has_ended u ≡ false) in
    subst P is (one ∙ two ∙ three, ap (answered (state_of w).stop) due, ap is_none due)

-- what the step that is due conducts
pub conducts_made : (f : Fixed) (m : Machine) (h : List Entry) (at : ScanPlace) (r : Bool)
    (step : ScanStep) (v : ControllerIs)
    → record { fixed = f; history = h; reserved = r } ≡ v → IsKept f m h at → m.stop ≡ 0
    → m.gone < f.scans → IsNext f m at step
    → step_conducts v ≡ conducted_at f (state_is m) (entry_of f (state_is m) step)
conducts_made f m h at r step v is k goes lt next =
    let w : ControllerIs = record { fixed = f; history = h; reserved = r } in
    let due : due_step w ≡ Some step = goes_due f m h at r k goes
    ∙ due_first f m h at step k lt next in
    let one : step_conducts w ≡ conducted_at f (replay f h) (entry_of f (replay f h) step) =
    ap (λ o. conducted_if w (entry_for w o)) due in
    let two = ap (λ (t : ControllerState). conducted_at f t (entry_of f t step)) (sym k.state) in
    let P : ControllerIs → Type 0 = λ u. step_conducts u
    ≡ conducted_at f (state_is m) (entry_of f (state_is m) step) in
    subst P is (one ∙ two)

-- nothing conducts where no step is due
pub conducts_none : (v : ControllerIs) → due_step v ≡ None → step_conducts v ≡ []
conducts_none v none = ap (λ o. conducted_if v (entry_for v o)) none

pub step_none : (f : Fixed) (m : Machine) (h : List Entry) (at : ScanPlace) (r : Bool)
    (v : ControllerIs)
    → record { fixed = f; history = h; reserved = r } ≡ v → IsKept f m h at → m.stop ≡ 0
    → is_done f.scans at m.gone ≡ true
    → (stepped v ≡ v) × (step_end v ≡ ends.Ended)
step_none f m h places.Start r v is k goes done =
    let w : ControllerIs = record { fixed = f; history = h; reserved = r } in
    let all : m.gone ≡ f.scans = grind arith in
    let due : due_step w ≡ None = goes_due f m h places.Start r k goes ∙ due_none f m h k all in
    let stop : (state_of w).stop ≡ 0 = ap (λ (t : ControllerState). t.stop) (sym k.state) ∙ goes in
    let P : ControllerIs → Type 0 = λ u. (stepped u ≡ u) × (step_end u ≡ ends.Ended) in
    subst P is
    (ap (made w) due, ap (answered (state_of w).stop) due ∙ ap (λ n. answered n None) stop)
step_none f m h places.Began r v is k goes done = absurd cc
step_none f m h (places.DidIn row) r v is k goes done = absurd cc
step_none f m h (places.DidSolve row) r v is k goes done = absurd cc
step_none f m h (places.DidOut row) r v is k goes done = absurd cc

not_over : (scans : ℕ) (at : ScanPlace) (gone : ℕ) (b : Bool)
    → (if b then is_done scans at gone else true) ≡ false
    → (b ≡ true) × (is_done scans at gone ≡ false)
not_over scans at gone true is = (refl, is)
not_over scans at gone false is = absurd cc

pub due_is : (f : Fixed) (m : Machine) (h : List Entry) (at : ScanPlace) (r : Bool)
    (v : ControllerIs) (step : ScanStep)
    → record { fixed = f; history = h; reserved = r } ≡ v → IsKept f m h at
    → is_over m.stop f.scans at m.gone ≡ false
    → IsNext f m at step → due_step v ≡ Some step
due_is f m h at r v step is k over next =
    let two = not_over f.scans at m.gone (m.stop == 0) over in
    let none : m.stop ≡ 0 = let e = two.0 in grind arith in
    let lt = not_done f.scans at m.gone k.within two.1 in
    let P : ControllerIs → Type 0 = λ u. due_step u ≡ Some step in
    subst P is (goes_due f m h at r k none ∙ due_first f m h at step k lt next)

-- a controller that has stopped
stopped_due : (f : Fixed) (h : List Entry) (r : Bool) (stop : ℕ) → (replay f h).stop ≡ stop
    → (stop == 0) ≡ false
    → (due_step (record { fixed = f; history = h; reserved = r }) ≡ None)
    × (step_end (record { fixed = f; history = h; reserved = r }) ≡ ends.Stopped stop)
stopped_due f h r stop is not =
    let w : ControllerIs = record { fixed = f; history = h; reserved = r } in
    let no : ((replay f h).stop == 0) ≡ false = ap (λ n. n == 0) is ∙ not in
    let due : due_step w ≡ None = ap (λ b. if b then first_step (left_of f h) else None) no in
    let told : answered (replay f h).stop None ≡ ends.Stopped (replay f h).stop =
    ap (λ b. if b then ends.Ended else ends.Stopped (replay f h).stop) no in
    (due, ap (answered (replay f h).stop) due ∙ told ∙ ap ends.Stopped is)

-- ---- whether all scans are done

goes_on : (f : Fixed) (m : Machine) (h : List Entry) (at : ScanPlace) → IsKept f m h at
    → m.gone < f.scans
    → is_none (first_step (drop (length (scan_steps h)) (all_due f))) ≡ false
goes_on f m h at k lt =
    let p = k.steps in
    let later = scans_from f (m.gone + 1 + 1) (f.scans - suc m.gone) in
    ap (λ (l : List ScanStep). is_none (first_step (drop (length (scan_steps h)) l)))
    (sym (scans-whole f (scan_steps h) m.gone at p lt))
    ∙ ap (λ (l : List ScanStep). is_none (first_step l))
    (drop-append_seam (scan_steps h) (p.next ∷ (p.after ++ later)))

all_ended : (f : Fixed) (m : Machine) (h : List Entry) (at : ScanPlace) → IsKept f m h at
    → is_done f.scans at m.gone ≡ true
    → is_none (first_step (drop (length (scan_steps h)) (all_due f))) ≡ true
all_ended f m h places.Start k done =
    let all : m.gone ≡ f.scans = grind arith in ap is_none (due_none f m h k all)
all_ended f m h places.Began k done = absurd cc
all_ended f m h (places.DidIn row) k done = absurd cc
all_ended f m h (places.DidSolve row) k done = absurd cc
all_ended f m h (places.DidOut row) k done = absurd cc

done_either : (f : Fixed) (m : Machine) (h : List Entry) (at : ScanPlace) → IsKept f m h at
    → (b : Bool) → is_done f.scans at m.gone ≡ b
    → b ≡ is_none (first_step (drop (length (scan_steps h)) (all_due f)))
done_either f m h at k true e = sym (all_ended f m h at k e)
done_either f m h at k false e = sym (goes_on f m h at k (not_done f.scans at m.gone k.within e))

ended_by : (f : Fixed) (m : Machine) (h : List Entry) (at : ScanPlace) (r : Bool) → IsKept f m h at
    → (b : Bool) → (m.stop == 0) ≡ b
    → (if b then is_done f.scans at m.gone else true)
    ≡ has_ended (record { fixed = f; history = h; reserved = r })
ended_by f m h at r k true is =
    let none : m.stop ≡ 0 = grind arith in
    done_either f m h at k (is_done f.scans at m.gone) refl
    ∙ sym (ap is_none (goes_due f m h at r k none))
ended_by f m h at r k false is =
    let both = stopped_due f h r m.stop (ap (λ (t : ControllerState). t.stop) (sym k.state)) is in
    sym (ap is_none both.0)

pub ended_is : (f : Fixed) (m : Machine) (h : List Entry) (at : ScanPlace) (r : Bool)
    (v : ControllerIs)
    → record { fixed = f; history = h; reserved = r } ≡ v → IsKept f m h at
    → is_over m.stop f.scans at m.gone ≡ has_ended v
ended_is f m h at r v is k =
    let P : ControllerIs → Type 0 = λ u. is_over m.stop f.scans at m.gone ≡ has_ended u in
    subst P is (ended_by f m h at r k (m.stop == 0) refl)

-- A controller without power has not stopped.
use Rattle.std.proofs.Common.{◌≡◌, ℕ, Bool, true, false, List, [], ◌∷◌, ◌++◌}
use Rattle.std.proofs.Common.{Option, Some, None, refl, sym, subst, ◌∙◌, append_assoc}
use Rattle.std.specs.Prelude.{fold, if◌then◌else◌}
use Rattle.std.specs.List.{flat_map, range_with_len}
use Rattle.plant_types.specs.declared.drops.IoDrop.{IoDrop}
use Rattle.plant_types.specs.declared.network.Segment.{Segment}
use Rattle.plant_types.specs.declared.plan.ControllerPlan.{ControllerPlan}
use Rattle.plant_types.specs.declared.plan.OrderRow.{OrderRow}
use Rattle.scan_order.specs.declared.due.ScanStep.{ScanStep}
use Rattle.scan_order.specs.declared.due.ScanStep.TheVariants as steps
use Rattle.scan_order.specs.declared.power.ScanPower.{ScanPower}
use Rattle.scan_order.specs.declared.power.ScanPower.TheVariants as powers
use Rattle.scan_order.specs.Due.{due, due_with, input_of, is_failing, place_after, row_of}
use Rattle.scan_order.specs.Due.{rows_from, up_to_failure}
use Rattle.scan_order.specs.Power.{power_in}
use Rattle.controller_core.specs.declared.entry.Entry.{Entry}
use Rattle.controller_core.specs.declared.entry.Entry.TheVariants as entries
use Rattle.controller_core.specs.declared.fixed.Fixed.{Fixed}
use Rattle.controller_core.specs.Controller.{EachFits, IsLegal}
use Rattle.controller_core.specs.Event.{scan_steps}
use Rattle.controller_core.specs.Replay.{ControllerState, apply, control_is_on, read_in, replay}
use Rattle.controller_core.specs.Replay.{segment_solved, solved, start}
use Rattle.controller_core.specs.Scans.{all_due}
use Rattle.whole_scan.proofs.ScanEnds.{IsNoEnd, NoEnds, before-end, no-ends-before}

-- steps in which nothing is solved without power
abbrev Sound : Bool → List ScanStep → Type 0
Sound on [] = Unit {0}
Sound on (steps.Begin ∷ rest) = Sound true rest
Sound on (steps.In row ∷ rest) = Sound on rest
Sound on (steps.Solve row ∷ rest) = (on ≡ true) × Sound on rest
Sound on (steps.Out row ∷ rest) = Sound on rest
Sound on (steps.End ∷ rest) = Sound on rest
Sound on (steps.Fail ∷ rest) = Sound false rest
Sound on (steps.Dark ∷ rest) = Sound on rest

abbrev SoundBoth : List ScanStep → Type 0
SoundBoth list = (on : Bool) → Sound on list

sound-front : (on : Bool) (xs ys : List ScanStep) → Sound on (xs ++ ys) → Sound on xs
sound-front on [] ys all = tt
sound-front on (steps.Begin ∷ xs) ys all = sound-front true xs ys all
sound-front on (steps.In row ∷ xs) ys all = sound-front on xs ys all
sound-front on (steps.Solve row ∷ xs) ys all = (all.0, sound-front on xs ys all.1)
sound-front on (steps.Out row ∷ xs) ys all = sound-front on xs ys all
sound-front on (steps.End ∷ xs) ys all = sound-front on xs ys all
sound-front on (steps.Fail ∷ xs) ys all = sound-front false xs ys all
sound-front on (steps.Dark ∷ xs) ys all = sound-front on xs ys all

sound-step : (step : ScanStep) (rest : List ScanStep) → IsNoEnd step → Sound true rest
    → Sound true (step ∷ rest)
sound-step steps.Begin rest none all = all
sound-step (steps.In row) rest none all = all
sound-step (steps.Solve row) rest none all = (refl, all)
sound-step (steps.Out row) rest none all = all
sound-step steps.End rest none all = absurd (let no' : true ≡ false = none in cc)
sound-step steps.Fail rest none all = absurd (let no' : true ≡ false = none in cc)
sound-step steps.Dark rest none all = absurd (let no' : true ≡ false = none in cc)

sound-steps : (front rest : List ScanStep) → NoEnds front → Sound true rest
    → Sound true (front ++ rest)
sound-steps [] rest none all = all
sound-steps (step ∷ front) rest none all =
    sound-step step (front ++ rest) none.0 (sound-steps front rest none.1 all)

-- a scan in which power fails
sound-failing : (row : ℕ) (front rest : List ScanStep) → NoEnds front → SoundBoth rest
    → Sound true (up_to_failure row (front ++ steps.End ∷ []) ++ rest)
unfolding up_to_failure
sound-failing row [] rest none all = all true
sound-failing row (step ∷ front) rest none all =
    at (is_failing row (place_after step)) (sound-failing row front rest none.1 all)
  where
    at : (b : Bool) → Sound true (up_to_failure row (front ++ steps.End ∷ []) ++ rest)
        → Sound true ((step ∷ (if b then steps.Fail ∷ [] else
        up_to_failure row (front ++ steps.End ∷ []))) ++ rest)
    at true more = sound-step step (steps.Fail ∷ rest) none.0 (all false)
    at false more = sound-step step (up_to_failure row (front ++ steps.End ∷ []) ++ rest) none.0
        more

sound-scan : (plan : ControllerPlan) (power : ScanPower) (rest : List ScanStep) → SoundBoth rest
    → SoundBoth (due_with plan power ++ rest)
unfolding up_to_failure rows_from
sound-scan plan powers.Stays rest all on =
    subst (Sound true) (sym (append_assoc (before-end plan) (steps.End ∷ []) rest))
    (sound-steps (before-end plan) (steps.End ∷ rest) (no-ends-before plan) (all true))
sound-scan plan (powers.Fails row) rest all on =
    sound-failing row (before-end plan) rest (no-ends-before plan) all
sound-scan plan powers.Dark rest all on = all on

sound-scans : (plan : ControllerPlan) (scans : List ℕ) → SoundBoth (flat_map (due plan) scans)
sound-scans plan [] on = tt
sound-scans plan (scan ∷ scans) on =
    sound-scan plan (power_in plan scan) (flat_map (due plan) scans) (sound-scans plan scans) on

-- ---- what a history makes of it

clash : {C : Type 0} {b : Bool} → b ≡ true → b ≡ false → C
clash is no' = let e : true ≡ false = sym is ∙ no' in absurd cc

abbrev IsFine : ControllerState → Type 0
IsFine s = s.powered ≡ false → s.stop ≡ 0

reads-powered : (drops : List IoDrop) (drop : Option ℕ) (s : ControllerState)
    → (read_in drops drop s).powered ≡ s.powered
reads-powered drops None s = refl
reads-powered drops (Some drop) s = refl

reads-stop : (drops : List IoDrop) (drop : Option ℕ) (s : ControllerState)
    → (read_in drops drop s).stop ≡ s.stop
reads-stop drops None s = refl
reads-stop drops (Some drop) s = refl

solves-powered : (segments : List Segment) (row : Option OrderRow) (s : ControllerState)
    → (solved segments row s).powered ≡ s.powered
solves-powered segments None s = refl
solves-powered segments (Some row) s = either (control_is_on s.solving.map row.control)
  where
    either : (b : Bool)
        → (if b then segment_solved segments row.segment s else s).powered ≡ s.powered
    either true = refl
    either false = refl

off-goes : (f : Fixed) (s : ControllerState) (h : List Entry) → IsFine s
    → Sound s.powered (scan_steps h) → EachFits f s h → IsFine (fold (apply f) s h)
unfolding EachFits
off-goes f s [] fine sound each = fine
off-goes f s (entries.Begin ∷ h) fine sound each =
    off-goes f (apply f s entries.Begin) h (λ off. clash refl off) sound each.1
off-goes f s (entries.Input row ∷ h) fine sound each =
    let drop = input_of (row_of f.plan row) in
    let powered = reads-powered f.plan.drops drop s in
    off-goes f (apply f s (entries.Input row)) h
    (λ off. reads-stop f.plan.drops drop s ∙ fine (sym powered ∙ off))
    (subst (λ (on : Bool). Sound on (scan_steps h)) (sym powered) sound) each.1
off-goes f s (entries.Solve row ∷ h) fine sound each =
    let powered = solves-powered f.plan.segments (row_of f.plan row) s in
    off-goes f (apply f s (entries.Solve row)) h (λ off. clash (powered ∙ sound.0) off)
    (subst (λ (on : Bool). Sound on (scan_steps h)) (sym powered) sound.1) each.1
off-goes f s (entries.Output row words ∷ h) fine sound each =
    off-goes f (apply f s (entries.Output row words)) h fine sound each.1
off-goes f s (entries.End ∷ h) fine sound each =
    off-goes f (apply f s entries.End) h fine sound each.1
off-goes f s (entries.Fail ∷ h) fine sound each =
    off-goes f (apply f s entries.Fail) h (λ off. each.0) sound each.1
off-goes f s (entries.Dark ∷ h) fine sound each =
    off-goes f (apply f s entries.Dark) h fine sound each.1
off-goes f s (entries.Collect calls ∷ h) fine sound each =
    off-goes f (apply f s (entries.Collect calls)) h fine sound each.1
off-goes f s (entries.Peer id request reply ∷ h) fine sound each =
    off-goes f (apply f s (entries.Peer id request reply)) h fine sound each.1
off-goes f s (entries.Off id request ∷ h) fine sound each =
    off-goes f (apply f s (entries.Off id request)) h fine sound each.1
off-goes f s (entries.Finish id result ∷ h) fine sound each =
    off-goes f (apply f s (entries.Finish id result)) h fine sound each.1

pub off-stop : (f : Fixed) (h : List Entry) → IsLegal f h → (replay f h).powered ≡ false
    → (replay f h).stop ≡ 0
off-stop f h legal off =
    let sound : Sound true (all_due f) = sound-scans f.plan (range_with_len 1 f.scans) true in
    off-goes f (start f.plan) h (λ no'. clash refl no')
    (sound-front true (scan_steps h) legal.due.0 (subst (Sound true) (sym legal.due.1) sound))
    legal.each off

-- What one more step keeps.
use Rattle.std.proofs.Common.{◌≡◌, ◌≤◌, ◌<◌, ◌==◌, ℕ, suc, ◌+◌, ◌-◌, Bool, true, false, ◌&&◌, List}
use Rattle.std.proofs.Common.{[], ◌∷◌, ◌++◌, length, drop, Option, Some, None, refl, sym, ap, ◌∙◌}
use Rattle.std.proofs.Common.{subst, arith, append-nil, length-append, length-drop}
use Rattle.std.specs.Prelude.{fold, not, if◌then◌else◌}
use Rattle.std.specs.List.{cons_option}
use Rattle.std.proofs.lemmas.List.Elements.{filter_map-append}
use Rattle.std.proofs.Math.Seq.{drop-append_seam}
use Rattle.plant_types.specs.declared.drops.IoDrop.{IoDrop}
use Rattle.plant_types.specs.declared.network.Segment.{Segment}
use Rattle.plant_types.specs.declared.plan.OrderRow.{OrderRow}
use Rattle.ladder_solver.specs.Segment.{segment_after}
use Rattle.plant_types.specs.declared.plan.ControllerPlan.{ControllerPlan}
use Rattle.scan_order.specs.declared.due.ScanPlace.{ScanPlace}
use Rattle.scan_order.specs.declared.due.ScanPlace.TheVariants as places
use Rattle.scan_order.specs.declared.due.ScanStep.{ScanStep}
use Rattle.scan_order.specs.declared.due.ScanStep.TheVariants as steps
use Rattle.scan_order.specs.declared.power.ScanPower.{ScanPower}
use Rattle.scan_order.specs.declared.power.ScanPower.TheVariants as powers
use Rattle.scan_order.specs.Power.{power_in}
use Rattle.scan_order.specs.Due.{due, due_with, place_after, row_of, up_to_failure, IsNextOf}
use Rattle.scan_order.specs.Due.{IsStep}
use Rattle.scan_order.proofs.Places.{due-first}
use Rattle.controller_core.specs.declared.fixed.Fixed.{Fixed}
use Rattle.mstr_block.specs.declared.call.CallId.{CallId}
use Rattle.mstr_block.specs.declared.call.MstrResult.{MstrResult}
use Rattle.controller_core.specs.declared.call.Call.{Call}
use Rattle.controller_core.specs.declared.entry.Entry.{Entry}
use Rattle.controller_core.specs.declared.entry.Entry.TheVariants as entries
use Rattle.controller_core.specs.declared.entry.Maker.TheVariants as makers
use Rattle.controller_core.specs.declared.machine.Machine.{Machine}
use Rattle.controller_core.specs.Replay.{ControllerState, apply, control_is_on, read_in}
use Rattle.controller_core.specs.Replay.{segment_solved, solved, start, table_of, watchdog_stop}
use Rattle.controller_core.specs.Event.{entry_of, maker_of, scan_steps, step_of}
use Rattle.controller_core.specs.Machine.{state_is, CanSolve, DoesEntry, IsSound, IsTimely, Tells}
use Rattle.controller_core.specs.Machine.{most_steps}
use Rattle.controller_core.specs.Scans.{all_due, closes_scan, gone_after, is_done}
use Rattle.controller_core.specs.Scans.{left_in_scan, scans_at, scans_from, IsPlaced}
use Rattle.controller_core.specs.Controller.{ControllerIs, EachFits, Fits, GoesOn}
use Rattle.controller_core.specs.Controller.{ControllerWentOn}
use Rattle.controller_core.specs.Controller.{first_step, grown}
use Rattle.controller_core.specs.Controller.{state_of}
use Rattle.controller_core.specs.Kept.{IsKept, IsWatched}
use Rattle.controller_core.proofs.Lengths.{scans_few}
use Rattle.controller_core.proofs.Places.{all-made, left-all, placed-step, scans-whole}
use Rattle.controller_core.proofs.Places.{step-is}

-- ---- one more entry

pub replay_more : (f : Fixed) (s : ControllerState) (h : List Entry) (e : Entry)
    → fold (apply f) s (h ++ e ∷ []) ≡ apply f (fold (apply f) s h) e
replay_more f s [] e = refl
replay_more f s (x ∷ h) e = replay_more f (apply f s x) h e

pub EachFits-more : (f : Fixed) (s : ControllerState) (h : List Entry) (e : Entry) → EachFits f s h
    → Fits f (fold (apply f) s h) e → EachFits f s (h ++ e ∷ [])
unfolding EachFits
EachFits-more f s [] e each fits = (fits, tt)
EachFits-more f s (x ∷ h) e each fits = (each.0, EachFits-more f (apply f s x) h e each.1 fits)

one_step : (f : Fixed) (s : ControllerState) (step : ScanStep)
    → scan_steps (entry_of f s step ∷ []) ≡ step ∷ []
one_step f s steps.Begin = refl
one_step f s (steps.In row) = refl
one_step f s (steps.Solve row) = refl
one_step f s (steps.Out row) = refl
one_step f s steps.End = refl
one_step f s steps.Fail = refl
one_step f s steps.Dark = refl

pub scan_steps-more : (f : Fixed) (s : ControllerState) (h : List Entry) (step : ScanStep)
    → scan_steps (h ++ entry_of f s step ∷ []) ≡ scan_steps h ++ (step ∷ [])
scan_steps-more f s h step =
    filter_map-append step_of h (entry_of f s step ∷ [])
    ∙ ap (λ (l : List ScanStep). scan_steps h ++ l) (one_step f s step)

pub fits_made : (f : Fixed) (s : ControllerState) (step : ScanStep) → GoesOn s
    → Fits f s (entry_of f s step)
fits_made f s steps.Begin goes = goes
fits_made f s (steps.In row) goes = goes
fits_made f s (steps.Solve row) goes = goes
fits_made f s (steps.Out row) goes = (goes, refl)
fits_made f s steps.End goes = goes
fits_made f s steps.Fail goes = goes
fits_made f s steps.Dark goes = goes

pub read_gone : (drops : List IoDrop) (drop : Option ℕ) (s : ControllerState)
    → (read_in drops drop s).gone ≡ s.gone
read_gone drops None s = refl
read_gone drops (Some drop) s = refl

pub solved_gone : (segments : List Segment) (row : Option OrderRow) (s : ControllerState)
    → (solved segments row s).gone ≡ s.gone
solved_gone segments None s = refl
solved_gone segments (Some row) s = either_gone (control_is_on s.solving.map row.control)
  where
    either_gone : (b : Bool)
        → (if b then segment_solved segments row.segment s else s).gone ≡ s.gone
    either_gone true = refl
    either_gone false = refl

-- a scan is gone behind its last step, and behind no other
pub gone_made : (f : Fixed) (s : ControllerState) (step : ScanStep)
    → (apply f s (entry_of f s step)).gone ≡ gone_after step s.gone
gone_made f s steps.Begin = refl
gone_made f s (steps.In row) = read_gone f.plan.drops _ s
gone_made f s (steps.Solve row) = solved_gone f.plan.segments (row_of f.plan row) s
gone_made f s (steps.Out row) = refl
gone_made f s steps.End = refl
gone_made f s steps.Fail = refl
gone_made f s steps.Dark = refl

-- what the communication does is no step
pub scan_steps-quiet : (h : List Entry) (e : Entry) → step_of e ≡ None
    → scan_steps (h ++ e ∷ []) ≡ scan_steps h
scan_steps-quiet h e none =
    filter_map-append step_of h (e ∷ []) ∙ ap
    (λ (o : Option ScanStep). scan_steps h ++ cons_option o []) none ∙ append-nil (scan_steps h)

-- ---- the watchdog

read_left : (drops : List IoDrop) (drop : Option ℕ) (s : ControllerState)
    → (read_in drops drop s).solving.left ≡ s.solving.left
read_left drops None s = refl
read_left drops (Some drop) s = refl

segment_left : (stop left : ℕ) (b : Bool) → (left == 0) ≡ b
    → (if b then watchdog_stop else stop) ≡ 0 → 0 < left
segment_left stop left true none goes = absurd cc
segment_left stop left false some goes = grind arith

solved_left : (segments : List Segment) (row : Option OrderRow) (s : ControllerState)
    → 0 < s.solving.left → (solved segments row s).stop ≡ 0
    → 0 < (solved segments row s).solving.left
solved_left segments None s left goes = left
solved_left segments (Some row) s left goes =
    either_left (control_is_on s.solving.map row.control) goes
  where
    either_left : (b : Bool) → (if b then segment_solved segments row.segment s else s).stop ≡ 0
        → 0 < (if b then segment_solved segments row.segment s else s).solving.left
    either_left true goes =
        let after = segment_after segments row.segment s.solving in
        segment_left s.stop after.left (after.left == 0) refl goes
    either_left false goes = left

-- a step within a scan is made where networks are left to the watchdog
abbrev WasWatched : ScanStep → ControllerState → Type 0
WasWatched (steps.In row) s = 0 < s.solving.left
WasWatched (steps.Solve row) s = 0 < s.solving.left
WasWatched (steps.Out row) s = 0 < s.solving.left
WasWatched _ s = Unit {0}

was_of : (step : ScanStep) (s : ControllerState) → 0 < s.solving.left → WasWatched step s
was_of steps.Begin s left = tt
was_of (steps.In row) s left = left
was_of (steps.Solve row) s left = left
was_of (steps.Out row) s left = left
was_of steps.End s left = tt
was_of steps.Fail s left = tt
was_of steps.Dark s left = tt

first_same : {x y : ScanStep} {xs ys : List ScanStep} → x ∷ xs ≡ y ∷ ys → x ≡ y
first_same is = cc

left_as : (n : Machine) (s : ControllerState) → state_is n ≡ s → 0 < s.solving.left
    → 0 < n.watch.left
left_as n s is left =
    subst (λ x. 0 < x) (sym (ap (λ (t : ControllerState). t.solving.left) is)) left

-- behind it networks are still left, where a scan runs
left_made : (f : Fixed) (s : ControllerState) (step : ScanStep) (n : Machine) → 1 ≤ f.watchdog
    → WasWatched step s → state_is n ≡ apply f s (entry_of f s step)
    → IsWatched (place_after step) n
left_made f s steps.Begin n watchdog left is = λ goes. left_as n _ is watchdog
left_made f s (steps.In row) n watchdog left is = λ goes.
    left_as n _ is (subst (λ x. 0 < x) (sym (read_left f.plan.drops _ s)) left)
left_made f s (steps.Solve row) n watchdog left is = λ goes.
    left_as n _ is (solved_left f.plan.segments (row_of f.plan row) s left
    (sym (ap (λ (t : ControllerState). t.stop) is) ∙ goes))
left_made f s (steps.Out row) n watchdog left is = λ goes. left_as n _ is left
left_made f s steps.End n watchdog left is = tt
left_made f s steps.Fail n watchdog left is = tt
left_made f s steps.Dark n watchdog left is = tt

-- the step that is next at a place, in the scan behind those that have gone
abbrev pub IsNext : Fixed → Machine → ScanPlace → ScanStep → Type 0
IsNext f m at step = IsNextOf (due f.plan (m.gone + 1)) at step

-- a scan begins, or is dark
start_watched : (plan : ControllerPlan) (step : ScanStep) (s : ControllerState) (power : ScanPower)
    {rest : List ScanStep} → due_with plan power ≡ step ∷ rest → WasWatched step s
unfolding up_to_failure
start_watched plan step s powers.Stays next =
    subst (λ (x : ScanStep). WasWatched x s) (first_same next) tt
start_watched plan step s (powers.Fails row) next =
    subst (λ (x : ScanStep). WasWatched x s) (first_same next) tt
start_watched plan step s powers.Dark next =
    subst (λ (x : ScanStep). WasWatched x s) (first_same next) tt

-- what is due at a place is watched there
due_watched : (f : Fixed) (m : Machine) (at : ScanPlace) (step : ScanStep)
    → IsNext f m at step → m.stop ≡ 0
    → IsWatched at m → WasWatched step (state_is m)
due_watched f m places.Start step next goes watched =
    let first = due-first f.plan (m.gone + 1) in
    let is : step ≡ first.first = next [] first.first first.rest (sym first.is) refl in
    start_watched f.plan step (state_is m) (power_in f.plan (m.gone + 1))
    (first.is ∙ ap (λ (s : ScanStep). s ∷ first.rest) (sym is))
due_watched f m places.Began step next goes watched = was_of step (state_is m) (watched goes)
due_watched f m (places.DidIn row) step next goes watched = was_of step (state_is m) (watched goes)
due_watched f m (places.DidSolve row) step next goes watched =
    was_of step (state_is m) (watched goes)
due_watched f m (places.DidOut row) step next goes watched = was_of step (state_is m) (watched goes)

pub can_solve : (f : Fixed) (m : Machine) (at : ScanPlace) (step : ScanStep)
    → IsNext f m at step → m.stop ≡ 0
    → IsWatched at m → CanSolve step m
can_solve f m at steps.Begin next goes watched = tt
can_solve f m at (steps.In row) next goes watched = tt
can_solve f m at (steps.Solve row) next goes watched =
    due_watched f m at (steps.Solve row) next goes watched
can_solve f m at (steps.Out row) next goes watched = tt
can_solve f m at steps.End next goes watched = tt
can_solve f m at steps.Fail next goes watched = tt
can_solve f m at steps.Dark next goes watched = tt

-- ---- what is left

-- the steps so far, the due step in front of what is left behind it
in_front : (f : Fixed) (m : Machine) (h : List Entry) (at : ScanPlace) (step : ScanStep)
    → IsKept f m h at → m.gone < f.scans → IsNext f m at step
    → (rest : List ScanStep) × (scan_steps h ++ step ∷ rest ≡ all_due f)
in_front f m h at step k lt next =
    let p = k.steps in
    let later = scans_from f (m.gone + 1 + 1) (f.scans - suc m.gone) in
    let is = step-is f (scan_steps h) m.gone at step p next in (
      p.after ++ later,
      ap (λ (s : ScanStep). scan_steps h ++ s ∷ (p.after ++ later)) is
          ∙ scans-whole f (scan_steps h) m.gone at p lt,
    )

pub due_first : (f : Fixed) (m : Machine) (h : List Entry) (at : ScanPlace) (step : ScanStep)
    → IsKept f m h at → m.gone < f.scans
    → IsNext f m at step → first_step (drop (length (scan_steps h)) (all_due f)) ≡ Some step
due_first f m h at step k lt next =
    let front = in_front f m h at step k lt next in
    ap (λ (l : List ScanStep). first_step (drop (length (scan_steps h)) l)) (sym front.1)
    ∙ ap first_step (drop-append_seam (scan_steps h) (step ∷ front.0))

pub due_none : (f : Fixed) (m : Machine) (h : List Entry) → IsKept f m h places.Start
    → m.gone ≡ f.scans
    → first_step (drop (length (scan_steps h)) (all_due f)) ≡ None
due_none f m h k all =
    ap (λ (l : List ScanStep). first_step (drop (length (scan_steps h)) l))
    (sym (all-made f (scan_steps h) m.gone k.steps all))
    ∙ ap first_step (drop-append_seam (scan_steps h) [])

-- ---- the invariant

within_after : (step : ScanStep) (gone scans : ℕ) → gone < scans
    → scans_at (place_after step) (gone_after step gone) ≤ scans
within_after steps.Begin gone scans lt = omega arith
within_after (steps.In row) gone scans lt = omega arith
within_after (steps.Solve row) gone scans lt = omega arith
within_after (steps.Out row) gone scans lt = omega arith
within_after steps.End gone scans lt = omega arith
within_after steps.Fail gone scans lt = omega arith
within_after steps.Dark gone scans lt = omega arith

pub kept_step : (f : Fixed) (m n : Machine) (h : List Entry) (at : ScanPlace) (step : ScanStep)
    → IsKept f m h at → m.stop ≡ 0 → m.gone < f.scans
    → IsNext f m at step → IsStep f.plan step → DoesEntry (entry_of f (state_is m) step) m n
    → IsKept f n (h ++ entry_of f (state_is m) step ∷ []) (place_after step)
kept_step f m n h at step k goes lt next is does =
    let s = state_is m in
    let e = entry_of f s step in
    let watchdog : 1 ≤ f.watchdog =
    subst (λ (g : Fixed). 1 ≤ g.watchdog) k.fixed_is k.sound.runs.watchdog in
    let now : state_is n ≡ apply f s e = does.state ∙ ap (λ (g : Fixed). apply g s e) k.fixed_is in
    let gone : n.gone ≡ gone_after step m.gone = ap (λ (t : ControllerState). t.gone) now
    ∙ gone_made f s step in
    let more = scan_steps-more f s h step in
    let long : length (scan_steps h) + 1 ≡ length (scan_steps (h ++ e ∷ [])) =
    omega (arith, ap length more, length-append (scan_steps h) (step ∷ [])) in
    let placed : IsPlaced f (scan_steps (h ++ e ∷ [])) n.gone (place_after step) =
    subst (λ x. IsPlaced f (scan_steps (h ++ e ∷ [])) x (place_after step)) (sym gone)
    (subst (λ (l : List ScanStep). IsPlaced f l (gone_after step m.gone) (place_after step))
    (sym more) (placed-step f (scan_steps h) m.gone at step k.steps next)) in
    let within : scans_at (place_after step) n.gone ≤ f.scans =
    subst (λ x. scans_at (place_after step) x ≤ f.scans) (sym gone)
    (within_after step m.gone f.scans lt) in
    record {
      fixed_is = does.fixed ∙ k.fixed_is;
      sound = does.sound;
      legal = record {
        each = EachFits-more f (start f.plan) h e k.legal.each
            (subst (λ (t : ControllerState). Fits f t e) k.state (fits_made f s step goes));
        due = left-all f (scan_steps (h ++ e ∷ [])) n.gone (place_after step) placed within
            (is_done f.scans (place_after step) n.gone) refl;
      };
      state = now ∙ ap (λ (t : ControllerState). apply f t e) k.state
          ∙ sym (replay_more f (start f.plan) h e);
      steps = placed;
      place = is;
      watched = left_made f s step n watchdog (due_watched f m at step next goes k.watched) now;
      within = within;
      timely = subst (IsTimely n) long (does.timely (length (scan_steps h)) k.timely);
    }

pub kept_as : (f g : Fixed) (n : Machine) (h l : List Entry) (at to : ScanPlace) → g ≡ f → l ≡ h
    → to ≡ at → IsKept f n h at → IsKept g n l to
kept_as f g n h l at to fixed items place k =
    let P : List Entry → Type 0 = λ x. IsKept g n x to in
    let Q : ScanPlace → Type 0 = λ x. IsKept g n h x in
    let R : Fixed → Type 0 = λ x. IsKept x n h at in
    subst P (sym items) (subst Q (sym place) (subst R (sym fixed) k))

watched_told : (at : ScanPlace) (m n : Machine) → n.stop ≡ m.stop → n.watch.left ≡ m.watch.left
    → IsWatched at m → IsWatched at n
watched_told places.Start m n stop left watched = tt
watched_told places.Began m n stop left watched =
    λ goes. subst (λ x. 0 < x) (sym left) (watched (sym stop ∙ goes))
watched_told (places.DidIn row) m n stop left watched =
    λ goes. subst (λ x. 0 < x) (sym left) (watched (sym stop ∙ goes))
watched_told (places.DidSolve row) m n stop left watched =
    λ goes. subst (λ x. 0 < x) (sym left) (watched (sym stop ∙ goes))
watched_told (places.DidOut row) m n stop left watched =
    λ goes. subst (λ x. 0 < x) (sym left) (watched (sym stop ∙ goes))

-- what the communication does is no step, and leaves what a scan counts by
pub record IsTold (e : Entry) : Type 0 where
  pub maker : maker_of e ≡ makers.Communication
  pub step : step_of e ≡ None
  pub left : (f : Fixed) (s : ControllerState) → (apply f s e).solving.left ≡ s.solving.left
  pub gone : (f : Fixed) (s : ControllerState) → (apply f s e).gone ≡ s.gone
  pub stop : (f : Fixed) (s : ControllerState) → (apply f s e).stop ≡ s.stop
  pub powered : (f : Fixed) (s : ControllerState) → (apply f s e).powered ≡ s.powered
  pub failures : (f : Fixed) (s : ControllerState) → (apply f s e).failures ≡ s.failures

pub collect_told : (calls : List Call) → IsTold (entries.Collect calls)
collect_told calls =
    record {
      maker = refl;
      step = refl;
      left = λ f s. refl;
      gone = λ f s. refl;
      stop = λ f s. refl;
      powered = λ f s. refl;
      failures = λ f s. refl;
    }

pub peer_told : (id : CallId) (request reply : List ℕ) → IsTold (entries.Peer id request reply)
peer_told id request reply =
    record {
      maker = refl;
      step = refl;
      left = λ f s. refl;
      gone = λ f s. refl;
      stop = λ f s. refl;
      powered = λ f s. refl;
      failures = λ f s. refl;
    }

pub off_told : (id : CallId) (request : List ℕ) → IsTold (entries.Off id request)
off_told id request =
    record {
      maker = refl;
      step = refl;
      left = λ f s. refl;
      gone = λ f s. refl;
      stop = λ f s. refl;
      powered = λ f s. refl;
      failures = λ f s. refl;
    }

pub finish_told : (id : CallId) (result : MstrResult) → IsTold (entries.Finish id result)
finish_told id result =
    record {
      maker = refl;
      step = refl;
      left = λ f s. refl;
      gone = λ f s. refl;
      stop = λ f s. refl;
      powered = λ f s. refl;
      failures = λ f s. refl;
    }

pub told_entry : (e : Entry) → maker_of e ≡ makers.Communication → IsTold e
told_entry entries.Begin of = absurd cc
told_entry (entries.Input row) of = absurd cc
told_entry (entries.Solve row) of = absurd cc
told_entry (entries.Output row words) of = absurd cc
told_entry entries.End of = absurd cc
told_entry entries.Fail of = absurd cc
told_entry entries.Dark of = absurd cc
told_entry (entries.Collect calls) of = collect_told calls
told_entry (entries.Peer id request reply) of = peer_told id request reply
told_entry (entries.Off id request) of = off_told id request
told_entry (entries.Finish id result) of = finish_told id result

pub kept_told : (f : Fixed) (m n : Machine) (h : List Entry) (at : ScanPlace) (e : Entry) → IsTold e
    → IsKept f m h at
    → Tells e m n → Fits f (state_is m) e → IsKept f n (h ++ e ∷ []) at
kept_told f m n h at e told k tells fits =
    let same = scan_steps-quiet h e told.step in
    let fixed : m.fixed ≡ f = k.fixed_is in
    let after : state_is n ≡ apply f (state_is m) e = tells.state
    ∙ ap (λ (g : Fixed). apply g (state_is m) e) fixed in
    let gone : n.gone ≡ m.gone = ap (λ (t : ControllerState). t.gone) after
    ∙ told.gone f (state_is m) in
    record {
      fixed_is = tells.fixed ∙ fixed;
      sound = tells.sound;
      legal = record {
        each = EachFits-more f (start f.plan) h e k.legal.each
            (subst (λ (t : ControllerState). Fits f t e) k.state fits);
        due = subst (λ (l : List ScanStep). (rest : List ScanStep) × (l ++ rest ≡ all_due f))
            (sym same) k.legal.due;
      };
      state = after ∙ ap (λ (t : ControllerState). apply f t e) k.state
          ∙ sym (replay_more f (start f.plan) h e);
      steps = subst (λ x. IsPlaced f (scan_steps (h ++ e ∷ [])) x at) (sym gone)
          (subst (λ (l : List ScanStep). IsPlaced f l m.gone at) (sym same) k.steps);
      place = k.place;
      watched = watched_told at m n (ap (λ (t : ControllerState). t.stop) after
          ∙ told.stop f (state_is m))
          (ap (λ (t : ControllerState). t.solving.left) after ∙ told.left f (state_is m)) k.watched;
      within = subst (λ x. scans_at at x ≤ f.scans) (sym gone) k.within;
      timely = subst (λ (l : List ScanStep). IsTimely n (length l)) (sym same)
          (tells.timely (length (scan_steps h)) k.timely);
    }

-- the same, with the entry's items as its calls answer them
pub kept_with : (f : Fixed) (m n : Machine) (h l : List Entry) (at : ScanPlace) (e : Entry)
    → IsTold e → IsKept f m h at
    → Tells e m n → Fits f (state_is m) e → l ≡ h ++ e ∷ [] → IsKept n.fixed n l at
kept_with f m n h l at e told k tells fits items =
    let after = kept_told f m n h at e told k tells fits in
    kept_as f n.fixed n (h ++ e ∷ []) l at at after.fixed_is items refl after

-- a history of all scans is short enough for the counts of a machine
pub timely_enough : (f : Fixed) (m : Machine) (h : List Entry) (at : ScanPlace) → IsKept f m h at
    → f.scans ≤ 2000 → length f.plan.orders ≤ 32
    → IsTimely m most_steps
timely_enough f m h at k scans rows =
    let few = scans_few f 1 f.scans rows in
    let due = k.legal.due in
    let all = ap length due.1 in
    let parts = length-append (scan_steps h) due.0 in
    let short : length (scan_steps h) ≤ 196000 = omega arith in
    record {
      clock = let t = k.timely.clock in omega arith;
      exchanges = λ i. let t = k.timely.exchanges i in omega arith;
      gone = let t = k.timely.gone in omega arith;
      failures = let t = k.timely.failures in omega arith;
    }

-- what a step leaves is kept, in what its calls answer
pub kept_made : (f : Fixed) (m n : Machine) (h l : List Entry) (at to : ScanPlace) (step : ScanStep)
    → IsKept f m h at → m.stop ≡ 0 → m.gone < f.scans
    → IsNext f m at step → IsStep f.plan step → DoesEntry (entry_of f (state_is m) step) m n
    → l ≡ h ++ entry_of f (state_is m) step ∷ [] → to ≡ place_after step → IsKept n.fixed n l to
kept_made f m n h l at to step k goes lt next is does items place =
    let after = kept_step f m n h at step k goes lt next is does in
    kept_as f n.fixed n (h ++ entry_of f (state_is m) step ∷ []) l
    (place_after step) to after.fixed_is items place after

-- ---- what each call says of itself

pub maker_of_made : (f : Fixed) (s : ControllerState) (step : ScanStep)
    → maker_of (entry_of f s step) ≡ makers.Scan
maker_of_made f s steps.Begin = refl
maker_of_made f s (steps.In row) = refl
maker_of_made f s (steps.Solve row) = refl
maker_of_made f s (steps.Out row) = refl
maker_of_made f s steps.End = refl
maker_of_made f s steps.Fail = refl
maker_of_made f s steps.Dark = refl

pub went_on_step : (f : Fixed) (m n : Machine) (h l : List Entry) (at to : ScanPlace)
    (r after : Bool) (step : ScanStep) (v : ControllerIs)
    → record { fixed = f; history = h; reserved = r } ≡ v → IsKept f m h at
    → IsKept n.fixed n l to → n.fixed ≡ f
    → l ≡ h ++ entry_of f (state_is m) step ∷ []
    → ControllerWentOn makers.Scan (entry_of v.fixed (state_of v) step ∷ []) v
    (record { fixed = n.fixed; history = l; reserved = after })
went_on_step f m n h l at to r after step v is k new fixed items = record {
  fixed = fixed ∙ ap (λ (u : ControllerIs). u.fixed) is;
  history = items ∙ ap (λ (t : ControllerState). h ++ entry_of f t step ∷ []) k.state
      ∙ ap (λ (u : ControllerIs). u.history ++ entry_of u.fixed (state_of u) step ∷ []) is;
  made = (maker_of_made v.fixed (state_of v) step, tt);
  legal = new.legal;
}

-- the table of the blocks is that of the state
pub bank_is : (f : Fixed) (m : Machine) (h : List Entry) (at : ScanPlace) (r : Bool)
    (v : ControllerIs)
    → record { fixed = f; history = h; reserved = r } ≡ v → IsKept f m h at
    → m.bank ≡ table_of (state_of v)
bank_is f m h at r v is k =
    ap table_of k.state ∙ ap (λ (u : ControllerIs). table_of (state_of u)) is

pub state_as : (f : Fixed) (m : Machine) (h : List Entry) (at : ScanPlace) (r : Bool)
    (v : ControllerIs)
    → record { fixed = f; history = h; reserved = r } ≡ v → IsKept f m h at
    → state_is m ≡ state_of v
state_as f m h at r v is k = k.state ∙ ap state_of is

-- a controller with one more entry
pub view_more : (n : Machine) (f : Fixed) (h l : List Entry) (r : Bool) (e given : Entry)
    (v : ControllerIs)
    → record { fixed = f; history = h; reserved = r } ≡ v → n.fixed ≡ f
    → l ≡ h ++ e ∷ [] → e ≡ given
    → record { fixed = n.fixed; history = l; reserved = r } ≡ grown v (given ∷ []) v.reserved
view_more n f h l r e given v is fixed items same =
    ap (λ (g : Fixed). record { fixed = g; history = l; reserved = r }) fixed
    ∙ ap (λ (x : List Entry). record { fixed = f; history = x; reserved = r })
    (items ∙ ap (λ (x : Entry). h ++ x ∷ []) same)
    ∙ ap (λ (u : ControllerIs). grown u (given ∷ []) u.reserved) is

pub went_on_told : (f : Fixed) (m n : Machine) (h l : List Entry) (at : ScanPlace) (r : Bool)
    (e : Entry) (v : ControllerIs) → IsTold e
    → record { fixed = f; history = h; reserved = r } ≡ v → IsKept n.fixed n l at → n.fixed ≡ f
    → l ≡ h ++ e ∷ []
    → ControllerWentOn makers.Communication (e ∷ []) v
    (record { fixed = n.fixed; history = l; reserved = r })
went_on_told f m n h l at r e v told is new fixed items = record {
  fixed = fixed ∙ ap (λ (u : ControllerIs). u.fixed) is;
  history = items ∙ ap (λ (u : ControllerIs). u.history ++ e ∷ []) is;
  made = (told.maker, tt);
  legal = new.legal;
}

left_less : (f : Fixed) (h : List ScanStep) (gone : ℕ) (step : ScanStep)
    → length (left_in_scan f gone (h ++ step ∷ [])) ≡ length (left_in_scan f gone h) - 1
left_less f h gone step =
    let all = scans_from f 1 (gone + 1) in
    let one = length-drop (length (h ++ step ∷ [])) all in
    let two = length-drop (length h) all in
    let more = length-append h (step ∷ []) in
    omega arith

-- a step that does not close its scan leaves one step less of it
pub room_step : (r : Bool) (f : Fixed) (h : List ScanStep) (gone : ℕ) (step : ScanStep) (stop : ℕ)
    → (r && not (closes_scan step stop)) ≡ true → (r ≡ true)
    × (length (left_in_scan f (gone_after step gone) (h ++ step ∷ []))
    ≡ length (left_in_scan f gone h) - 1)
room_step false f h gone step stop is = cc
room_step true f h gone steps.Begin stop is = (refl, left_less f h gone steps.Begin)
room_step true f h gone (steps.In row) stop is = (refl, left_less f h gone (steps.In row))
room_step true f h gone (steps.Solve row) stop is = (refl, left_less f h gone (steps.Solve row))
room_step true f h gone (steps.Out row) stop is = (refl, left_less f h gone (steps.Out row))
room_step true f h gone steps.End stop is = cc
room_step true f h gone steps.Fail stop is = cc
room_step true f h gone steps.Dark stop is = cc

-- a controller when it starts
pub kept_new : (f : Fixed) (m : Machine) (h : List Entry) → m.fixed ≡ f → state_is m ≡ start f.plan
    → h ≡ [] → IsTimely m 0
    → IsSound m → IsKept f m h places.Start
unfolding EachFits
kept_new f m h fixed state none timely sound =
    let gone : m.gone ≡ 0 = ap (λ (t : ControllerState). t.gone) state in
    let P : List Entry → Type 0 = λ l. IsKept f m l places.Start in
    let first = due-first f.plan (m.gone + 1) in
    subst P (sym none) (record {
      fixed_is = fixed;
      sound = sound;
      legal = record { each = tt; due = (all_due f, refl) };
      state = state;
      steps = record {
        before = [];
        next = first.first;
        after = first.rest;
        scan = sym first.is;
        place = refl;
        steps = sym (ap (λ n. scans_from f 1 n ++ []) gone);
      };
      place = tt;
      watched = tt;
      within = omega arith;
      timely = timely;
    })

-- A row that is added to the script of a drop changes no history that is too short for it.
use Rattle.std.proofs.Common.{◌≡◌, ◌≤◌, ◌<◌, ℕ, zero, suc, ◌+◌, ◌-◌, Bool, true, false, List, []}
use Rattle.std.proofs.Common.{◌∷◌, ◌++◌, length, drop, get_or, set, Option, Some, None, refl, sym}
use Rattle.std.proofs.Common.{ap, ◌∙◌, subst, arith, length-set}
use Rattle.std.specs.Prelude.{fold, if◌then◌else◌, is_some, Result, OnErr, OnOk}
use Rattle.std.specs.List.{flat_map, range_with_len}
use Rattle.std.proofs.lemmas.List.{get_or-set_same}
use Rattle.std.proofs.lemmas.List.Sums.{fold-append}
use Rattle.plant_types.specs.declared.drops.IoDrop.{IoDrop}
use Rattle.plant_types.specs.declared.drops.ScriptRow.{ScriptRow}
use Rattle.plant_types.specs.declared.network.Segment.{Segment}
use Rattle.plant_types.specs.declared.plan.ControllerPlan.{ControllerPlan}
use Rattle.plant_types.specs.declared.plan.OrderRow.{OrderRow}
use Rattle.plant_types.specs.Store.{Contents}
use Rattle.scan_order.specs.declared.due.ScanPlace.{ScanPlace}
use Rattle.scan_order.specs.declared.due.ScanPlace.TheVariants as places
use Rattle.scan_order.specs.declared.due.ScanStep.{ScanStep}
use Rattle.scan_order.specs.Due.{due, input_of, output_of, row_of, rows_from, IsPlace}
use Rattle.scan_order.specs.Power.{power_in}
use Rattle.traffic_cop.specs.Feeding.{fits_drop, fits_in, plan_fed, row_count, row_fed}
use Rattle.traffic_cop.proofs.FeedingLemmas.{either-way, on-err, on-ok, rows-later}
use Rattle.controller_core.specs.declared.entry.Entry.{Entry}
use Rattle.controller_core.specs.declared.entry.Entry.TheVariants as entries
use Rattle.controller_core.specs.declared.fixed.Fixed.{Fixed}
use Rattle.controller_core.specs.declared.machine.Machine.{Machine}
use Rattle.controller_core.specs.Replay.{ControllerState, apply, control_is_on, read_in}
use Rattle.controller_core.specs.Replay.{replay, segment_solved, solved, start}
use Rattle.controller_core.specs.Event.{outputs_to, scan_steps, step_of}
use Rattle.controller_core.specs.Scans.{left_in_scan, scans_from, IsPlaced}
use Rattle.controller_core.specs.Controller.{ControllerIs, EachFits, Fits, IsLegal}
use Rattle.controller_core.specs.Kept.{IsKept, IsWatched, IsWhole}
use Rattle.controller_core.specs.Machine.{IsRunnable, IsSound, IsTimely}
use Rattle.controller_core.specs.Notes.{note_of_step, noted_from, noted_values}
use Rattle.controller_core.specs.Feeding.{exchanges_made, fixed_fed, machine_fed, CanFeedAfter}
use Rattle.controller_core.specs.Feeding.{feeding, RowsKeepHistories}

-- ---- the exchanges

-- a count that goes on leaves no count lower
set-rises : (xs : List ℕ) (i j : ℕ) → get_or xs j 0 ≤ get_or (set xs i (get_or xs i 0 + 1)) j 0
set-rises [] i j = omega arith
set-rises (x ∷ xs) zero zero = omega arith
set-rises (x ∷ xs) zero (suc j) = omega arith
set-rises (x ∷ xs) (suc i) zero = omega arith
set-rises (x ∷ xs) (suc i) (suc j) = set-rises xs i j

-- an event leaves as many counts, and none lower
record Rises (s t : ControllerState) : Type 0 where
  long : length t.exchanges ≡ length s.exchanges
  most : (j : ℕ) → get_or s.exchanges j 0 ≤ get_or t.exchanges j 0

rises-same : (s t : ControllerState) → t.exchanges ≡ s.exchanges → Rises s t
rises-same s t same = record {
  long = ap length same;
  most = λ j. let e = ap (λ (l : List ℕ). get_or l j 0) same in omega (arith, e);
}

read-rises : (drops : List IoDrop) (o : Option ℕ) (s : ControllerState)
    → Rises s (read_in drops o s)
read-rises drops None s = rises-same s s refl
read-rises drops (Some d) s = record {
  long = length-set s.exchanges (d - 1) (get_or s.exchanges (d - 1) 0 + 1);
  most = λ j. set-rises s.exchanges (d - 1) j;
}

solved-same : (segments : List Segment) (row : Option OrderRow) (s : ControllerState)
    → (solved segments row s).exchanges ≡ s.exchanges
solved-same segments None s = refl
solved-same segments (Some row) s = either_same (control_is_on s.solving.map row.control)
  where
    either_same : (b : Bool)
        → (if b then segment_solved segments row.segment s else s).exchanges ≡ s.exchanges
    either_same true = refl
    either_same false = refl

apply-rises : (f : Fixed) (s : ControllerState) (e : Entry) → Rises s (apply f s e)
apply-rises f s entries.Begin = rises-same s (apply f s entries.Begin) refl
apply-rises f s (entries.Input row) = read-rises f.plan.drops (input_of (row_of f.plan row)) s
apply-rises f s (entries.Solve row) =
    rises-same s (apply f s (entries.Solve row))
    (solved-same f.plan.segments (row_of f.plan row) s)
apply-rises f s (entries.Output row words) = rises-same s s refl
apply-rises f s entries.End = rises-same s (apply f s entries.End) refl
apply-rises f s entries.Fail = rises-same s (apply f s entries.Fail) refl
apply-rises f s entries.Dark = rises-same s (apply f s entries.Dark) refl
apply-rises f s (entries.Collect calls) = rises-same s (apply f s (entries.Collect calls)) refl
apply-rises f s (entries.Peer id request reply) =
    rises-same s (apply f s (entries.Peer id request reply)) refl
apply-rises f s (entries.Off id request) = rises-same s s refl
apply-rises f s (entries.Finish id result) =
    rises-same s (apply f s (entries.Finish id result)) refl

fold-rises : (f : Fixed) (s : ControllerState) (h : List Entry) (j : ℕ)
    → get_or s.exchanges j 0 ≤ get_or (fold (apply f) s h).exchanges j 0
fold-rises f s [] j = omega arith
fold-rises f s (e ∷ h) j =
    let one = (apply-rises f s e).most j in
    let more = fold-rises f (apply f s e) h j in
    omega (arith, one, more)

-- ---- one event

-- the counts that a history begins with, and that it ends with
record Within (f : Fixed) (s : ControllerState) (h : List Entry) (drop : ℕ) : Type 0 where
  place : drop - 1 < length s.exchanges
  most : exchanges_made (fold (apply f) s h) drop ≤ row_count f.plan.drops drop

read-fed : (drops : List IoDrop) (drop : ℕ) (row : ScriptRow) (o : Option ℕ) (s : ControllerState)
    → drop - 1 < length s.exchanges
    → exchanges_made (read_in drops o s) drop ≤ row_count drops drop
    → read_in (row_fed drops drop row) o s ≡ read_in drops o s
read-fed drops drop row None s place most = refl
read-fed drops drop row (Some d) s place most =
    let k = get_or s.exchanges (d - 1) 0 + 1 in
    let few : d ≡ drop → k ≤ row_count drops drop = λ same.
    let put : get_or (set s.exchanges (d - 1) k) (d - 1) 0 ≡ k =
    get_or-set_same s.exchanges (d - 1) k 0 (let e = same in omega (arith, e, place)) in
    let there = ap (λ n. get_or (set s.exchanges (d - 1) k) (n - 1) 0) same in
    omega (arith, put, there, most) in
    ap (λ (m : Contents). record s {
      solving = record s.solving { map = m };
      exchanges = set s.exchanges (d - 1) k;
    }) (rows-later.inputs drops drop d k row s.solving.map (omega arith) few)

apply-fed : (f : Fixed) (drop : ℕ) (row : ScriptRow) (s : ControllerState) (e : Entry)
    → drop - 1 < length s.exchanges
    → exchanges_made (apply f s e) drop ≤ row_count f.plan.drops drop
    → apply (fixed_fed f drop row) s e ≡ apply f s e
apply-fed f drop row s entries.Begin place most = refl
apply-fed f drop row s (entries.Input at) place most =
    read-fed f.plan.drops drop row (input_of (row_of f.plan at)) s place most
apply-fed f drop row s (entries.Solve at) place most = refl
apply-fed f drop row s (entries.Output at words) place most = refl
apply-fed f drop row s entries.End place most = refl
apply-fed f drop row s entries.Fail place most = refl
apply-fed f drop row s entries.Dark place most = refl
apply-fed f drop row s (entries.Collect calls) place most = refl
apply-fed f drop row s (entries.Peer id request reply) place most = refl
apply-fed f drop row s (entries.Off id request) place most = refl
apply-fed f drop row s (entries.Finish id result) place most = refl

-- ---- a history

first-fed : (f : Fixed) (drop : ℕ) (row : ScriptRow) (s : ControllerState) (e : Entry)
    (h : List Entry) → Within f s (e ∷ h) drop
    → apply (fixed_fed f drop row) s e ≡ apply f s e
first-fed f drop row s e h in_it =
    let more = fold-rises f (apply f s e) h (drop - 1) in
    let most = in_it.most in
    apply-fed f drop row s e in_it.place (omega (arith, more, most))

rest-within : (f : Fixed) (drop : ℕ) (s : ControllerState) (e : Entry) (h : List Entry)
    → Within f s (e ∷ h) drop → Within f (apply f s e) h drop
rest-within f drop s e h in_it = record {
  place =
      let long = (apply-rises f s e).long in
      let place = in_it.place in
      omega (arith, long, place);
  most = in_it.most;
}

fold-fed : (f : Fixed) (drop : ℕ) (row : ScriptRow) (s : ControllerState) (h : List Entry)
    → Within f s h drop → fold (apply (fixed_fed f drop row)) s h ≡ fold (apply f) s h
fold-fed f drop row s [] in_it = refl
fold-fed f drop row s (e ∷ h) in_it =
    ap (λ (t : ControllerState). fold (apply (fixed_fed f drop row)) t h)
    (first-fed f drop row s e h in_it)
    ∙ fold-fed f drop row (apply f s e) h (rest-within f drop s e h in_it)

noted-fed : (f : Fixed) (drop : ℕ) (row : ScriptRow) (s : ControllerState) (h : List Entry)
    → Within f s h drop → noted_from (fixed_fed f drop row) s h ≡ noted_from f s h
unfolding noted_from
noted-fed f drop row s [] in_it = refl
noted-fed f drop row s (e ∷ h) in_it =
    ap (λ (t : ControllerState). note_of_step f.plan (step_of e) t
    ++ noted_from (fixed_fed f drop row) t h) (first-fed f drop row s e h in_it)
    ∙ ap (λ (l : List ℕ). note_of_step f.plan (step_of e) (apply f s e) ++ l)
    (noted-fed f drop row (apply f s e) h (rest-within f drop s e h in_it))

outputs-fed : (drops : List IoDrop) (drop : ℕ) (row : ScriptRow) (o : Option ℕ) (m : Contents)
    → outputs_to (row_fed drops drop row) o m ≡ outputs_to drops o m
outputs-fed drops drop row None m = refl
outputs-fed drops drop row (Some d) m = rows-later.outputs drops drop d row m

fits-fed : (f : Fixed) (drop : ℕ) (row : ScriptRow) (s : ControllerState) (e : Entry)
    → Fits f s e → Fits (fixed_fed f drop row) s e
fits-fed f drop row s entries.Begin fits = fits
fits-fed f drop row s (entries.Input at) fits = fits
fits-fed f drop row s (entries.Solve at) fits = fits
fits-fed f drop row s (entries.Output at words) fits = (
  fits.0,
  fits.1 ∙ sym (outputs-fed f.plan.drops drop row (output_of (row_of f.plan at)) s.solving.map),
)
fits-fed f drop row s entries.End fits = fits
fits-fed f drop row s entries.Fail fits = fits
fits-fed f drop row s entries.Dark fits = fits
fits-fed f drop row s (entries.Collect calls) fits = fits
fits-fed f drop row s (entries.Peer id request reply) fits = fits
fits-fed f drop row s (entries.Off id request) fits = fits
fits-fed f drop row s (entries.Finish id result) fits = fits

each-fed : (f : Fixed) (drop : ℕ) (row : ScriptRow) (s : ControllerState) (h : List Entry)
    → Within f s h drop → EachFits f s h → EachFits (fixed_fed f drop row) s h
unfolding EachFits
each-fed f drop row s [] in_it each = tt
each-fed f drop row s (e ∷ h) in_it each = (
  fits-fed f drop row s e each.0,
  subst (λ (t : ControllerState). EachFits (fixed_fed f drop row) t h)
      (sym (first-fed f drop row s e h in_it))
      (each-fed f drop row (apply f s e) h (rest-within f drop s e h in_it) each.1),
)

-- ---- what is due

due-fed : (plan : ControllerPlan) (drop : ℕ) (row : ScriptRow) (scan : ℕ)
    → due (plan_fed plan drop row) scan ≡ due plan scan
unfolding rows_from power_in
due-fed plan drop row scan = refl

scans-fed : (f : Fixed) (drop : ℕ) (row : ScriptRow) (scan count : ℕ)
    → scans_from (fixed_fed f drop row) scan count ≡ scans_from f scan count
scans-fed f drop row scan count =
    λ i. flat_map (λ n. due-fed f.plan drop row n i) (range_with_len scan count)

placed-fed : (f : Fixed) (drop : ℕ) (row : ScriptRow) (made : List ScanStep) (gone : ℕ)
    (at : ScanPlace) → IsPlaced f made gone at → IsPlaced (fixed_fed f drop row) made gone at
placed-fed f drop row made gone at p = record {
  before = p.before;
  next = p.next;
  after = p.after;
  scan = p.scan ∙ sym (due-fed f.plan drop row (gone + 1));
  place = p.place;
  steps = p.steps ∙ ap (λ (l : List ScanStep). l ++ p.before) (sym (scans-fed f drop row 1 gone));
}

place-fed : (plan : ControllerPlan) (drop : ℕ) (row : ScriptRow) (at : ScanPlace)
    → IsPlace plan at → IsPlace (plan_fed plan drop row) at
place-fed plan drop row places.Start is = tt
place-fed plan drop row places.Began is = tt
place-fed plan drop row (places.DidIn at) is = is
place-fed plan drop row (places.DidSolve at) is = is
place-fed plan drop row (places.DidOut at) is = is

-- ---- the law

within-start : (f : Fixed) (h : List Entry) (drop : ℕ) (row : ScriptRow)
    → CanFeedAfter f h drop row → Within f (start f.plan) h drop
within-start f h drop row can = record {
  place = let to = can.there.to in omega (arith, to);
  most = can.exchanges;
}

runs-fed : (f : Fixed) (drop : ℕ) (row : ScriptRow) → fits_drop f.plan.drops drop row ≡ true
    → IsRunnable f → IsRunnable (fixed_fed f drop row)
runs-fed f drop row fits runs = record {
  plan = rows-later.runs f.plan drop row fits runs.plan;
  scan_time = runs.scan_time;
  watchdog = runs.watchdog;
  scans = runs.scans;
}

state-fed : (f : Fixed) (h : List Entry) (drop : ℕ) (row : ScriptRow)
    → CanFeedAfter f h drop row → replay (fixed_fed f drop row) h ≡ replay f h
state-fed f h drop row can = fold-fed f drop row (start f.plan) h (within-start f h drop row can)

values-fed : (f : Fixed) (h : List Entry) (drop : ℕ) (row : ScriptRow)
    → CanFeedAfter f h drop row → noted_values (fixed_fed f drop row) h ≡ noted_values f h
values-fed f h drop row can =
    noted-fed f drop row (start f.plan) h (within-start f h drop row can)

legal-fed : (f : Fixed) (h : List Entry) (drop : ℕ) (row : ScriptRow)
    → CanFeedAfter f h drop row → IsLegal f h → IsLegal (fixed_fed f drop row) h
legal-fed f h drop row can legal = record {
  each = each-fed f drop row (start f.plan) h (within-start f h drop row can) legal.each;
  due = (legal.due.0, legal.due.1 ∙ sym (scans-fed f drop row 1 f.scans));
}

front-fed : (f : Fixed) (front rest : List Entry) (drop : ℕ) (row : ScriptRow)
    → CanFeedAfter f (front ++ rest) drop row → CanFeedAfter f front drop row
front-fed f front rest drop row can = record {
  there = can.there;
  fits = can.fits;
  exchanges =
      let parts = ap (λ (t : ControllerState). exchanges_made t drop)
      (fold-append (apply f) (start f.plan) front rest) in
      let more = fold-rises f (replay f front) rest (drop - 1) in
      let most = can.exchanges in
      omega (arith, parts, more, most);
}

pub rows-keep : RowsKeepHistories
rows-keep = record {
  runs = runs-fed;
  state = state-fed;
  notes = values-fed;
  legal = legal-fed;
  fronts = front-fed;
}

-- ---- the machine

-- both have the row
pub both-fed : (m : Machine) (drops cop : List IoDrop) (drop : ℕ) (row : ScriptRow)
    → m.cop ≡ m.fixed.plan.drops → drops ≡ row_fed m.fixed.plan.drops drop row → cop ≡ drops
    → record m {
      fixed = record m.fixed { plan = record m.fixed.plan { drops = drops } };
      cop = cop;
    } ≡ machine_fed m drop row
both-fed m drops cop drop row sound fed same =
    let cops : cop ≡ row_fed m.cop drop row =
    same ∙ fed ∙ ap (λ (l : List IoDrop). row_fed l drop row) (sym sound) in
    λ i. record m {
      fixed = record m.fixed { plan = record m.fixed.plan { drops = fed i } };
      cop = cops i;
    }

-- neither has it
pub both-stay : (m : Machine) (drops cop : List IoDrop) → m.cop ≡ m.fixed.plan.drops
    → drops ≡ m.fixed.plan.drops → cop ≡ drops
    → record m {
      fixed = record m.fixed { plan = record m.fixed.plan { drops = drops } };
      cop = cop;
    } ≡ m
both-stay m drops cop sound stays same =
    let cops : cop ≡ m.cop = same ∙ stays ∙ sym sound in
    λ i. record m {
      fixed = record m.fixed { plan = record m.fixed.plan { drops = stays i } };
      cop = cops i;
    }

sound-fed : (m : Machine) (drop : ℕ) (row : ScriptRow)
    → fits_drop m.fixed.plan.drops drop row ≡ true → IsSound m → IsSound (machine_fed m drop row)
sound-fed m drop row fits sound = record {
  runs = runs-fed m.fixed drop row fits sound.runs;
  grids = sound.grids;
  drops = ap (λ (l : List IoDrop). row_fed l drop row) sound.drops;
  keeps = sound.keeps;
  past = sound.past;
  node = sound.node;
  routed = sound.routed;
  blocks = sound.blocks;
  few = sound.few;
  exchanges = sound.exchanges;
}

watched-fed : (m : Machine) (drop : ℕ) (row : ScriptRow) (at : ScanPlace) → IsWatched at m
    → IsWatched at (machine_fed m drop row)
watched-fed m drop row places.Start is = tt
watched-fed m drop row places.Began is = is
watched-fed m drop row (places.DidIn row_in) is = is
watched-fed m drop row (places.DidSolve row_in) is = is
watched-fed m drop row (places.DidOut row_in) is = is

timely-fed : (m : Machine) (drop : ℕ) (row : ScriptRow) (steps : ℕ) → IsTimely m steps
    → IsTimely (machine_fed m drop row) steps
timely-fed m drop row steps timely = record {
  clock = timely.clock;
  exchanges = timely.exchanges;
  gone = timely.gone;
  failures = timely.failures;
}

kept-fed : (m : Machine) (h : List Entry) (at : ScanPlace) (drop : ℕ) (row : ScriptRow)
    → CanFeedAfter m.fixed h drop row → IsKept m.fixed m h at
    → IsKept (fixed_fed m.fixed drop row) (machine_fed m drop row) h at
kept-fed m h at drop row can kept = record {
  fixed_is = refl;
  sound = sound-fed m drop row can.fits kept.sound;
  legal = legal-fed m.fixed h drop row can kept.legal;
  state = kept.state ∙ sym (state-fed m.fixed h drop row can);
  steps = placed-fed m.fixed drop row (scan_steps h) m.gone at kept.steps;
  place = place-fed m.fixed.plan drop row at kept.place;
  within = kept.within;
  watched = watched-fed m drop row at kept.watched;
  timely = timely-fed m drop row (length (scan_steps h)) kept.timely;
}

whole-fed : (m : Machine) (h : List Entry) (at : ScanPlace) (reserved : Bool) (capacity : ℕ)
    (values : List ℕ) (values_capacity number : ℕ) (row : ScriptRow)
    → CanFeedAfter m.fixed h number row
    → IsWhole m h at reserved capacity values values_capacity
    → IsWhole (machine_fed m number row) h at reserved capacity values values_capacity
whole-fed m h at reserved capacity values values_capacity number row can whole =
    let left : left_in_scan (fixed_fed m.fixed number row) m.gone (scan_steps h)
    ≡ left_in_scan m.fixed m.gone (scan_steps h) =
    ap (λ (l : List ScanStep). drop (length (scan_steps h)) l) (scans-fed m.fixed number row 1 (m.gone + 1)) in
    record {
      kept = kept-fed m h at number row can whole.kept;
      room = λ is.
          let long = ap length left in
          let room = whole.room is in
          omega (arith, long, room);
      noted = record {
        are = whole.noted.are ∙ sym (values-fed m.fixed h number row can);
        room = whole.noted.room;
      };
    }

-- what the machine was fed with, or not, is what the controller sees
pub whole-either : {T E : Type 0} (result : Result T E) (m n : Machine) (h : List Entry)
    (at : ScanPlace) (reserved : Bool) (capacity : ℕ) (values : List ℕ) (values_capacity number : ℕ)
    (row : ScriptRow) → CanFeedAfter m.fixed h number row
    → IsWhole m h at reserved capacity values values_capacity
    → OnOk result (n ≡ machine_fed m number row) → OnErr result (n ≡ m)
    → IsWhole n h at reserved capacity values values_capacity
whole-either result m n h at reserved capacity values values_capacity number row can whole ok err =
    either-way result
    (on-ok result (λ fed. subst (λ (x : Machine). IsWhole x h at reserved capacity values
    values_capacity) (sym fed)
    (whole-fed m h at reserved capacity values values_capacity number row can whole)) ok)
    (on-err result (λ same. subst (λ (x : Machine). IsWhole x h at reserved capacity values
    values_capacity) (sym same) whole) err)

pub state-either : {T E : Type 0} (result : Result T E) (m n : Machine) (h : List Entry)
    (number : ℕ) (row : ScriptRow) → CanFeedAfter m.fixed h number row
    → OnOk result (n ≡ machine_fed m number row) → OnErr result (n ≡ m)
    → replay n.fixed h ≡ replay m.fixed h
state-either result m n h number row can ok err =
    either-way result
    (on-ok result (λ fed. ap (λ (x : Machine). replay x.fixed h) fed
    ∙ state-fed m.fixed h number row can) ok)
    (on-err result (λ same. ap (λ (x : Machine). replay x.fixed h) same) err)

pub fed-view : (m n : Machine) (h : List Entry) (r : Bool) (v : ControllerIs) (number : ℕ)
    (row : ScriptRow) → record { fixed = m.fixed; history = h; reserved = r } ≡ v
    → n ≡ machine_fed m number row
    → record { fixed = n.fixed; history = h; reserved = r } ≡ feeding v number row
fed-view m n h r v number row view fed =
    let new : record { fixed = n.fixed; history = h; reserved = r }
    ≡ record { fixed = fixed_fed m.fixed number row; history = h; reserved = r } =
    ap (λ (x : Machine). record { fixed = x.fixed; history = h; reserved = r }) fed in
    new ∙ ap (λ (u : ControllerIs). feeding u number row) view

-- a row that fits a drop has one
pub fits-named : (o : Option IoDrop) (row : ScriptRow) → fits_in o row ≡ true → is_some o ≡ true
fits-named None row fits = cc
fits-named (Some d) row fits = refl

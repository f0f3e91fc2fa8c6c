-- The scans of all controllers, one after another.
use Rattle.std.proofs.Common.{◌≡◌, ℕ, zero, suc, ◌+◌, ◌<◌, ◌≤◌, ◌++◌, Bool, true, false, List}
use Rattle.std.proofs.Common.{[], ◌∷◌, length, map, set, drop, take, refl, sym, ap, subst, ◌∙◌}
use Rattle.std.proofs.Common.{arith}
use Rattle.std.proofs.Common.{get_or, All, ⊎_elim, append-nil}
use Rattle.std.specs.Prelude.{◌&&◌}
use Rattle.std.specs.List.{AllZip, list_all, sum_by, zip}
use Rattle.std.proofs.lemmas.Bool.{cases_Bool}
use Rattle.std.proofs.lemmas.List.Sums.{sum_by-cons}
use Rattle.std.proofs.lemmas.List.Elements.{All-cons, All-nil}
use Rattle.plant_types.specs.declared.plan.ControllerPlan.{ControllerPlan}
use Rattle.plant_types.specs.declared.plan.Plant.{Plant}
use Rattle.controller_core.specs.declared.fixed.Fixed.{Fixed}
use Rattle.controller_core.specs.Controller.{has_ended, left_of}
use Rattle.joint_history.specs.JointLaws.{fixed_of}
use Rattle.joint_history.specs.Reading.{controller_at}
use Rattle.whole_scan.specs.Scans.{IsBetweenScans, LessensScan, MadeEvents, with_scan}
use Rattle.serial_run.specs.declared.stations.ControllerStation.{ControllerStation}
use Rattle.serial_run.specs.declared.stations.RingStation.{RingStation}
use Rattle.serial_run.specs.declared.stations.Stations.{Stations}
use Rattle.serial_run.specs.Serial.{log_with_scan, scanned}
use Rattle.serial_run.specs.Stations.{Did, HostStandsOn, StandAll, StandsOn, StandsRing}
use Rattle.serial_run.specs.Stations.{StandsSite, host_log_of, log_of, log_of_ring, log_of_site}
use Rattle.serial_run.specs.Stations.{station_ring}
use Rattle.serial_run.specs.Scans.{have_ended, steps_left, AreBetweenScans}
use Rattle.serial_run.proofs.Lists.{zip-both}
use Rattle.serial_run.proofs.Standings.{stands-scans}

-- a station whose controller made a scan
pub record Scanned (s t : ControllerStation) : Type 0 where
  pub same : t ≡ record s { controller = t.controller }
  pub made : MadeEvents (with_scan s.controller) s.controller
      t.controller
  pub between : IsBetweenScans t.controller
  pub less : LessensScan s.controller t.controller

-- those before a place have
pub record SomeScanned (first now : List ControllerStation) (at : ℕ) : Type 0 where
  pub front : List ControllerStation
  pub size : length front ≡ at
  pub each : AllZip Scanned (take at first) front
  pub is : now ≡ front ++ drop at first

pub none-scanned : (first : List ControllerStation) → SomeScanned first first 0
none-scanned first = record { front = []; size = refl; each = tt; is = refl }

drop-at : (xs : List ControllerStation) (at : ℕ) (d : ControllerStation) → at < length xs
    → drop at xs ≡ get_or xs at d ∷ drop (suc at) xs
drop-at [] at d low = absurd (omega arith)
drop-at (x ∷ xs) zero d low = refl
drop-at (x ∷ xs) (suc at) d low = drop-at xs at d (omega arith)

take-at : (xs : List ControllerStation) (at : ℕ) (d : ControllerStation) → at < length xs
    → take (suc at) xs ≡ take at xs ++ get_or xs at d ∷ []
take-at [] at d low = absurd (omega arith)
take-at (x ∷ xs) zero d low = refl
take-at (x ∷ xs) (suc at) d low = λ i. x ∷ take-at xs at d (omega arith) i

set-behind : (front rest : List ControllerStation) (x y : ControllerStation)
    → set (front ++ x ∷ rest) (length front) y ≡ (front ++ y ∷ []) ++ rest
set-behind [] rest x y = refl
set-behind (f ∷ front) rest x y = λ i. f ∷ set-behind front rest x y i

get-behind : (front rest : List ControllerStation) (x d : ControllerStation)
    → get_or (front ++ x ∷ rest) (length front) d ≡ x
get-behind [] rest x d = refl
get-behind (f ∷ front) rest x d = get-behind front rest x d

zip-last : (xs ys : List ControllerStation) (x y : ControllerStation) → AllZip Scanned xs ys
    → Scanned x y → AllZip Scanned (xs ++ x ∷ []) (ys ++ y ∷ [])
zip-last [] [] x y all it = (it, tt)
zip-last [] (b ∷ ys) x y all it = absurd all
zip-last (a ∷ xs) [] x y all it = absurd all
zip-last (a ∷ xs) (b ∷ ys) x y all it = (all.0, zip-last xs ys x y all.1 it)

-- the station of the place is the first one still
pub still-first : (first now : List ControllerStation) (at : ℕ) (d : ControllerStation)
    → SomeScanned first now at → at < length first
    → get_or now at d ≡ get_or first at d
still-first first now at d some low =
    let split : now ≡ some.front ++ get_or first at d ∷ drop (suc at) first = some.is ∙ ap
    (λ l. some.front ++ l) (drop-at first at d low) in
    ap (λ l. get_or l at d) split
    ∙ (ap (λ k. get_or (some.front ++ get_or first at d ∷ drop (suc at) first) k d) (sym some.size)
    ∙ get-behind some.front (drop (suc at) first) (get_or first at d) d)

pub one-more-scanned : (first now : List ControllerStation) (at : ℕ) (s t : ControllerStation)
    → SomeScanned first now at → at < length first
    → s ≡ get_or now at s → Scanned s t → SomeScanned first (set now at t) (at + 1)
one-more-scanned first now at s t some low is it =
    let there : s ≡ get_or first at s = is ∙ still-first first now at s some low in
    let split : now ≡ some.front ++ get_or first at s ∷ drop (suc at) first = some.is ∙ ap
    (λ l. some.front ++ l) (drop-at first at s low) in
    let changed : set now at t ≡ (some.front ++ t ∷ []) ++ drop (suc at) first =
    (λ i. set (split i) (sym some.size i) t) ∙ set-behind some.front (drop (suc at) first)
    (get_or first at s) t in
    let suc-at : suc at ≡ at + 1 = omega arith in
    subst (SomeScanned first (set now at t)) suc-at
    (record {
      front = some.front ++ t ∷ [];
      size = long some.front t ∙ ap suc some.size;
      each = subst (λ l. AllZip Scanned l (some.front ++ t ∷ [])) (sym (take-at first at s low))
          (zip-last (take at first) some.front (get_or first at s) t some.each
          (subst (λ (x : ControllerStation). Scanned x t) there it));
      is = changed;
    }) where
      long : (xs : List ControllerStation) (y : ControllerStation)
          → length (xs ++ y ∷ []) ≡ suc (length xs)
      long [] y = refl
      long (x ∷ xs) y = ap suc (long xs y)

take-everything : (xs : List ControllerStation) → take (length xs) xs ≡ xs
take-everything [] = refl
take-everything (x ∷ xs) = λ i. x ∷ take-everything xs i

drop-everything : (xs : List ControllerStation) → drop (length xs) xs ≡ []
drop-everything [] = refl
drop-everything (x ∷ xs) = drop-everything xs

pub everyone-scanned : (first now : List ControllerStation) (at : ℕ) → at ≡ length first
    → SomeScanned first now at → AllZip Scanned first now
everyone-scanned first now at is some =
    let none : drop at first ≡ [] = ap (λ k. drop k first) is ∙ drop-everything first in
    let same : now ≡ some.front = some.is ∙ (ap (λ l. some.front ++ l) none ∙ append-nil some.front)
    in
    subst (AllZip Scanned first) (sym same)
    (subst (λ l. AllZip Scanned l some.front)
    (ap (λ k. take k first) is ∙ take-everything first) some.each)

-- ---- what that makes of all stations

module _ (old new : Stations) (hosts : new.hosts.items ≡ old.hosts.items)
    (bridges : new.bridges.items ≡ old.bridges.items)
    (rings : new.rings.items ≡ old.rings.items)
    (each : AllZip Scanned old.controllers.items new.controllers.items) where
  scanned-stands : (plant : Plant) (scans : ℕ) (plan : ControllerPlan) (s t : ControllerStation)
      → StandsOn plant scans old.rings.items plan s → Scanned s t
      → StandsOn plant scans old.rings.items plan t
  scanned-stands plant scans plan s t st it =
      subst (StandsOn plant scans old.rings.items plan) (sym it.same)
      (stands-scans plant scans (station_ring old plan.network).history plan s t.controller
      (with_scan s.controller) it.made st)

  all-stand : (plant : Plant) (scans : ℕ) → StandAll plant scans old → StandAll plant scans new
  all-stand plant scans all = record {
    sound = all.sound;
    rings = subst (AllZip StandsRing plant.nets) (sym rings) all.rings;
    controllers = subst (λ (l : List RingStation). AllZip (StandsOn plant scans l)
        plant.controllers new.controllers.items) (sym rings)
        (zip-both (StandsOn plant scans old.rings.items) Scanned
        (StandsOn plant scans old.rings.items) plant.controllers
        old.controllers.items new.controllers.items all.controllers each
        (scanned-stands plant scans));
    hosts = subst (λ (l : List RingStation). AllZip (HostStandsOn plant l) plant.hosts
        new.hosts.items) (sym rings)
        (subst (AllZip (HostStandsOn plant old.rings.items) plant.hosts) (sym hosts) all.hosts);
    bridges = subst (λ (l : List RingStation). AllZip (StandsSite plant l) plant.bridges
        new.bridges.items) (sym rings)
        (subst (AllZip (StandsSite plant old.rings.items) plant.bridges) (sym bridges)
        all.bridges);
  }

  logs-by : (plant : Plant) (scans : ℕ) (rings : List RingStation) (plans : List ControllerPlan)
      (xs ys : List ControllerStation)
      → AllZip (StandsOn plant scans rings) plans xs → AllZip Scanned xs ys
      → map log_of ys ≡ map (log_with_scan plant scans) (zip plans (map log_of xs))
  logs-by plant scans rings [] [] [] a b = refl
  logs-by plant scans rings [] [] (y ∷ ys) a b = absurd b
  logs-by plant scans rings [] (x ∷ xs) ys a b = absurd a
  logs-by plant scans rings (p ∷ plans) [] ys a b = absurd a
  logs-by plant scans rings (p ∷ plans) (x ∷ xs) [] a b = absurd b
  logs-by plant scans rings (p ∷ plans) (x ∷ xs) (y ∷ ys) a b =
      let node : y.node ≡ x.node = ap (λ (s : ControllerStation). s.node) b.0.same in
      let history : y.controller.history
      ≡ with_scan (controller_at (fixed_of plant scans p) x.controller.history) =
      b.0.made.history_is
      ∙ ap (λ (f : Fixed). with_scan (controller_at f x.controller.history)) a.0.fixed in
      λ i. record { node = node i; entries = history i } ∷ logs-by plant scans rings plans xs ys a.1
      b.1 i

  pub scan-all-did : Did (λ plant scans before behind. behind ≡ scanned plant scans before) old new
  scan-all-did = record {
    stand = all-stand;
    made = λ plant scans all.
        let logs = logs-by plant scans old.rings.items plant.controllers old.controllers.items
        new.controllers.items all.controllers each in
        λ i. record {
          controllers = logs i;
          hosts = map host_log_of (hosts i);
          bridges = map log_of_site (bridges i);
          rings = map log_of_ring (rings i);
        };
  }

between-all : (xs ys : List ControllerStation) → AllZip Scanned xs ys
    → All (λ (s : ControllerStation). IsBetweenScans s.controller) ys
between-all [] [] all = All-nil (λ (s : ControllerStation). IsBetweenScans s.controller)
between-all [] (y ∷ ys) all = absurd all
between-all (x ∷ xs) [] all = absurd all
between-all (x ∷ xs) (y ∷ ys) all = All-cons
    (λ (s : ControllerStation). IsBetweenScans s.controller) y ys all.0.between
    (between-all xs ys all.1)

pub scan-all-between : (old new : Stations)
    → AllZip Scanned old.controllers.items new.controllers.items → AreBetweenScans new
scan-all-between old new each = between-all old.controllers.items new.controllers.items each

abbrev steps_of : ControllerStation → ℕ
steps_of s = length (left_of s.controller.fixed s.controller.history)

steps-no-more : (xs ys : List ControllerStation) → AllZip Scanned xs ys
    → sum_by steps_of ys ≤ sum_by steps_of xs
steps-no-more [] [] all = omega arith
steps-no-more [] (y ∷ ys) all = absurd all
steps-no-more (x ∷ xs) [] all = absurd all
steps-no-more (x ∷ xs) (y ∷ ys) all =
    let here = all.0.less.no_more in
    let rest = steps-no-more xs ys all.1 in
    let a = sum_by-cons steps_of x xs in
    let b = sum_by-cons steps_of y ys in
    omega (arith, here, rest, a, b)

and-second : (b c : Bool) → (b && c) ≡ false → b ≡ true → c ≡ false
and-second true c is on = is
and-second false c is on = absurd (cc)

steps-less : (xs ys : List ControllerStation) → AllZip Scanned xs ys
    → list_all (λ (s : ControllerStation). has_ended s.controller) xs ≡ false
    → sum_by steps_of ys < sum_by steps_of xs
steps-less [] [] all open' = absurd (cc)
steps-less [] (y ∷ ys) all open' = absurd all
steps-less (x ∷ xs) [] all open' = absurd all
steps-less (x ∷ xs) (y ∷ ys) all open' =
    let a = sum_by-cons steps_of x xs in
    let b = sum_by-cons steps_of y ys in
    ⊎_elim
    (λ (ended : has_ended x.controller ≡ true).
    let here = all.0.less.no_more in
    let rest = steps-less xs ys all.1
    (and-second (has_ended x.controller)
    (list_all (λ (s : ControllerStation). has_ended s.controller) xs) open' ended) in
    omega (arith, here, rest, a, b))
    (λ (goes : has_ended x.controller ≡ false).
    let here = all.0.less.less goes in
    let rest = steps-no-more xs ys all.1 in
    omega (arith, here, rest, a, b))
    (cases_Bool (has_ended x.controller))

pub scan-all-less : (old new : Stations)
    → AllZip Scanned old.controllers.items new.controllers.items → have_ended old ≡ false
    → steps_left new < steps_left old
scan-all-less old new each open' = steps-less old.controllers.items new.controllers.items each open'

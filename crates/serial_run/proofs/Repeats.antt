-- What repetitions, and the rounds behind them, make of all stations.
use Rattle.std.proofs.Common.{◌≡◌, ◌≢◌, ◌⊎◌, ℕ, zero, suc, ◌++◌, Bool, true, false, not, List, []}
use Rattle.std.proofs.Common.{◌∷◌, length, map, Some, ⊎_elim, refl, sym, ap, subst, ◌∙◌, arith, All}
use Rattle.std.proofs.Common.{count_by}
use Rattle.std.specs.Prelude.{◌&&◌, option_map}
use Rattle.std.specs.List.{AllZip, list_all, slice_get, sum_by}
use Rattle.std.proofs.lemmas.Option.{get_or_from_slice_get, slice_get-map, slice_get_within}
use Rattle.std.proofs.lemmas.List.Elements.{All-cons, All-nil}
use Rattle.std.proofs.lemmas.List.Sums.{sum_by-cons}
use Rattle.plant_types.specs.declared.plan.ControllerPlan.{ControllerPlan}
use Rattle.plant_types.specs.declared.plan.Plant.{Plant}
use Rattle.plant_types.specs.Plans.{net_of}
use Rattle.ring_core.specs.declared.entry.RingEntry.{RingEntry}
use Rattle.ring_core.specs.declared.status.NodeStatus.{NodeStatus}
use Rattle.ring_core.specs.declared.status.NodeStatus.TheVariants.{In, Away, Asking, Gone}
use Rattle.bridge_station.specs.Station.{end_has_left}
use Rattle.bridge_station.specs.Stands.{StandsEnd}
use Rattle.bridge_station.proofs.Standing.{end-knows}
use Rattle.controller_core.specs.Controller.{is_off, left_of}
use Rattle.joint_history.specs.declared.joint.Joint.{Joint}
use Rattle.joint_history.specs.JointLaws.{fixed_of, logged}
use Rattle.joint_history.specs.Reading.{is_off_at}
use Rattle.tied_lists.specs.Waits.{has_left, status_at}
use Rattle.tied_lists.proofs.Boxes.{count-cons, one-if}
use Rattle.bridge_station.specs.TurnLaws.{is_out_of_ring}
use Rattle.whole_scan.specs.Scans.{IsBetweenScans, KeepsStepsLeft}
use Rattle.serial_run.specs.declared.stations.BridgeSite.{BridgeSite}
use Rattle.serial_run.specs.declared.stations.ControllerStation.{ControllerStation}
use Rattle.serial_run.specs.declared.stations.HostStation.{HostStation}
use Rattle.serial_run.specs.declared.stations.Stations.{Stations}
use Rattle.serial_run.specs.Turns.{MakesTurns}
use Rattle.serial_run.specs.Serial.{all_are_out, away_turns_of, bridge_is_out, host_is_out}
use Rattle.serial_run.specs.Serial.{log_is_out, node_is_out, visits_of, IsChain, Finishes}
use Rattle.serial_run.specs.Serial.{IsLateRound, IsRepetition, MakesLateRounds, MakesRound}
use Rattle.serial_run.specs.Serial.{MakesRounds, Repeats, scanned}
use Rattle.serial_run.specs.Stations.{Did, DidWith, HostStandsOn, StandAll, StandsSite, joint_of}
use Rattle.serial_run.specs.Stations.{log_of, station_ring}
use Rattle.serial_run.specs.Held.{is_away_status, site_has_left, stations_here, status_in, AllHave}
use Rattle.serial_run.specs.Held.{IsOffAway, Stay}
use Rattle.serial_run.specs.Scans.{have_ended, steps_left, AreBetweenScans, KeepScans}
use Rattle.serial_run.proofs.HoldsDid.{noted-mine}
use Rattle.serial_run.proofs.Gained.{all-stay}
use Rattle.serial_run.proofs.Lists.{map-there, zip-at-first, zip-parts, zip-there}
use Rattle.serial_run.proofs.Measures.{scans-same, station-open}
use Rattle.serial_run.proofs.Networks.{noted-is}
use Rattle.serial_run.proofs.TurnsMade.{at-place, host-at-place, site-at-place}
use Rattle.whole_scan.proofs.ScanSteps.{between-kept}
use Rattle.serial_run.proofs.Rounds.{chain-more, ended-as, scans-both}

-- ---- repetitions

head-all : {X : Type 0} (P : X → Type 0) (x : X) (xs : List X) → All P (x ∷ xs) → P x
head-all P x xs all = all 0 x (omega arith)

rest-all : {X : Type 0} (P : X → Type 0) (x : X) (xs : List X) → All P (x ∷ xs) → All P xs
rest-all P x xs all = λ k d low. all (suc k) d (omega arith)

abbrev KeepsStation : ControllerStation → ControllerStation → Type 0
KeepsStation s t = KeepsStepsLeft s.controller t.controller

abbrev BetweenStation : ControllerStation → Type 0
BetweenStation s = IsBetweenScans s.controller

between-each : (xs ys : List ControllerStation) → AllZip KeepsStation xs ys → All BetweenStation xs
    → All BetweenStation ys
between-each [] [] keep all = All-nil BetweenStation
between-each [] (y ∷ ys) keep all = absurd keep
between-each (x ∷ xs) [] keep all = absurd keep
between-each (x ∷ xs) (y ∷ ys) keep all =
    All-cons BetweenStation y ys (between-kept x.controller y.controller keep.0
    (head-all BetweenStation x xs all))
    (between-each xs ys keep.1 (rest-all BetweenStation x xs all))

pub scans-between : (a b : Stations) → KeepScans a b → AreBetweenScans a → AreBetweenScans b
scans-between a b keep all = between-each a.controllers.items b.controllers.items keep all

abbrev steps_of : ControllerStation → ℕ
steps_of s = length (left_of s.controller.fixed s.controller.history)

steps-each : (xs ys : List ControllerStation) → AllZip KeepsStation xs ys
    → sum_by steps_of ys ≡ sum_by steps_of xs
steps-each [] [] keep = refl
steps-each [] (y ∷ ys) keep = absurd keep
steps-each (x ∷ xs) [] keep = absurd keep
steps-each (x ∷ xs) (y ∷ ys) keep =
    let here = ap length keep.0.left in
    let rest = steps-each xs ys keep.1 in
    let a = sum_by-cons steps_of x xs in
    let b = sum_by-cons steps_of y ys in
    omega (arith, here, rest, a, b)

pub steps-kept : (a b : Stations) → KeepScans a b → steps_left b ≡ steps_left a
steps-kept a b keep = steps-each a.controllers.items b.controllers.items keep

module _ (rotations : ℕ) (old scanned_run back_run visited_run new : Stations)
    (open' : have_ended old ≡ false)
    (scans_did : Did (λ plant scans before behind. behind ≡ scanned plant scans before) old
    scanned_run)
    (back_did : Did (λ plant scans. MakesTurns plant scans (away_turns_of plant)) scanned_run
    back_run)
    (visits_did : Did (λ plant scans. MakesTurns plant scans (visits_of plant)) back_run
    visited_run)
    (rounds_did : Did (λ plant scans. MakesRounds plant scans rotations) visited_run new) where
  pub repetition-did : DidWith rotations IsRepetition old new
  repetition-did = record {
    stand = λ plant scans all. rounds_did.stand plant scans
        (visits_did.stand plant scans
        (back_did.stand plant scans (scans_did.stand plant scans all)));
    made = λ plant scans all same.
        let behind_scans = scans_did.stand plant scans all in
        let behind_back = back_did.stand plant scans behind_scans in
        record {
          goes_on = sym (ended-as plant scans old all) ∙ open';
          came_back = joint_of back_run;
          away_turns = subst (λ (j : Joint). MakesTurns plant scans (away_turns_of plant) j
              (joint_of back_run)) (scans_did.made plant scans all)
              (back_did.made plant scans behind_scans);
          visited = joint_of visited_run;
          visits = visits_did.made plant scans behind_back;
          rounds = subst (λ (n : ℕ). MakesRounds plant scans n (joint_of visited_run)
              (joint_of new)) (sym same)
              (rounds_did.made plant scans (visits_did.stand plant scans behind_back));
        };
  }

-- some repetitions, or some rounds behind them
pub record SomeOf (came : Joint → Joint → Type 0) (old new : Joint) : Type 0 where
  pub behind_each : List Joint
  pub chain : IsChain came old behind_each new

pub none-of-them : (came : Joint → Joint → Type 0) (joint : Joint) → SomeOf came joint joint
none-of-them came joint = record { behind_each = []; chain = refl }

pub one-more-of : (came : Joint → Joint → Type 0) (first next last : Joint) → SomeOf came first next
    → came next last → SomeOf came first last
one-more-of came first next last some it = record {
  behind_each = some.behind_each ++ last ∷ [];
  chain = chain-more came first next last some.behind_each some.chain it;
}

pub record SomeRepetitions (rotations : ℕ) (old new : Stations) : Type 0 where
  pub did : DidWith rotations (λ plant scans. SomeOf (IsRepetition plant scans)) old new
  pub between : AreBetweenScans new
  pub off : AllHave IsOffAway new

pub no-repetitions : (rotations : ℕ) (run : Stations) → AreBetweenScans run → AllHave IsOffAway run
    → SomeRepetitions rotations run run
no-repetitions rotations run between off = record {
  off = off;
  did = record {
    stand = λ plant scans all. all;
    made = λ plant scans all same. none-of-them (IsRepetition plant scans) (joint_of run);
  };
  between = between;
}

pub one-more-repetition : (rotations : ℕ) (first old new : Stations)
    → SomeRepetitions rotations first old → DidWith rotations IsRepetition old new
    → AreBetweenScans new → AllHave IsOffAway new → SomeRepetitions rotations first new
one-more-repetition rotations first old new some did between off = record {
  off = off;
  did = record {
    stand = λ plant n all. did.stand plant n (some.did.stand plant n all);
    made = λ plant n all same.
        one-more-of (IsRepetition plant n) (joint_of first) (joint_of old) (joint_of new)
        (some.did.made plant n all same)
        (did.made plant n (some.did.stand plant n all) same);
  };
  between = between;
}

pub all-repeated : (rotations : ℕ) (first new : Stations) → SomeRepetitions rotations first new
    → have_ended new ≡ true
    → DidWith rotations Repeats first new
all-repeated rotations first new some ended = record {
  stand = some.did.stand;
  made = λ plant n all same.
      let s = some.did.made plant n all same in
      record {
        behind_each = s.behind_each;
        repetitions = s.chain;
        ended = sym (ended-as plant n new (some.did.stand plant n all)) ∙ ended;
      };
}

-- ---- rounds behind the repetitions

-- who has not left is not out of the ring
pub open-out : (stays : Bool) (status : NodeStatus) → has_left status ≡ false
    → is_out_of_ring stays status ≡ false
open-out stays In here = refl
open-out stays Away here = absurd (let no' : true ≡ false = here in cc)
open-out stays Asking here = refl
open-out stays Gone here = absurd (let no' : true ≡ false = here in cc)

-- who has left is, if it stays without power where it is away
pub left-out : (stays : Bool) (status : NodeStatus) → has_left status ≡ true
    → (is_away_status status ≡ true → stays ≡ true) → is_out_of_ring stays status ≡ true
left-out stays In left off = absurd (let no' : false ≡ true = left in cc)
left-out stays Away left off = off refl
left-out stays Asking left off = absurd (let no' : false ≡ true = left in cc)
left-out stays Gone left off = refl

and-false : (b : Bool) → (b && false) ≡ false
and-false true = refl
and-false false = refl

not-all : {X : Type 0} (p : X → Bool) (xs : List X) (k : ℕ) (x : X) → slice_get xs k ≡ Some x
    → p x ≡ false → list_all p xs ≡ false
not-all p [] k x is no' = absurd (cc)
not-all p (y ∷ xs) zero x is no' =
    let same : y ≡ x = cc in ap (λ b. b && list_all p xs) (ap p same ∙ no')
not-all p (y ∷ xs) (suc k) x is no' =
    ap (λ b. p y && b) (not-all p xs k x is no') ∙ and-false (p y)

all-true : {X : Type 0} (p : X → Bool) (xs : List X)
    → ((k : ℕ) (x : X) → slice_get xs k ≡ Some x → p x ≡ true) → list_all p xs ≡ true
all-true p [] each = refl
all-true p (x ∷ xs) each = λ i. each 0 x refl i && all-true p xs (λ k. each (suc k)) i

pub all-at : {X : Type 0} (P : X → Type 0) (xs : List X) (k : ℕ) (x : X) → All P xs
    → slice_get xs k ≡ Some x → P x
all-at P xs k x all is = subst P (get_or_from_slice_get xs k x x is)
    (all k x (slice_get_within xs k x is))

none-counted : {X : Type 0} (p : X → Bool) (xs : List X) (k : ℕ) (x : X) → count_by p xs ≡ 0
    → slice_get xs k ≡ Some x → p x ≡ false
none-counted p [] k x none is = absurd (cc)
none-counted p (y ∷ xs) zero x none is =
    let same : y ≡ x = cc in ap p (sym same) ∙ first (p y) refl where
      first : (b : Bool) → p y ≡ b → p y ≡ false
      first true on = absurd (let c = count-cons p y xs in let o = one-if (p y) on in omega
          (arith, c, o, none))
      first false off = off
none-counted p (y ∷ xs) (suc k) x none is =
    none-counted p xs k x (let c = count-cons p y xs in omega (arith, c, none)) is

not-false : (b : Bool) → not b ≡ false → b ≡ true
not-false true is = refl
not-false false is = absurd (cc)

module _ (run : Stations) (none : stations_here run ≡ 0) where
  pub controller-left : (k : ℕ) (s : ControllerStation)
      → slice_get run.controllers.items k ≡ Some s → s.left ≡ true
  controller-left k s is = not-false s.left
      (none-counted (λ (s : ControllerStation). not s.left) run.controllers.items k s
      (omega (arith, none)) is)

  pub host-left : (k : ℕ) (s : HostStation) → slice_get run.hosts.items k ≡ Some s
      → s.left ≡ true
  host-left k s is = not-false s.left
      (none-counted (λ (s : HostStation). not s.left) run.hosts.items k s
      (omega (arith, none)) is)

  pub site-left : (k : ℕ) (s : BridgeSite) → slice_get run.bridges.items k ≡ Some s
      → site_has_left s ≡ true
  site-left k s is = not-false (site_has_left s)
      (none-counted (λ (s : BridgeSite). not (site_has_left s)) run.bridges.items k s
      (omega (arith, none)) is)

module _ (plant : Plant) (scans : ℕ) (run : Stations) (all : StandAll plant scans run) where
  -- a station's status, as its plan has it
  pub out-as : (k : ℕ) (s : ControllerStation)
      (is : slice_get run.controllers.items k ≡ Some s)
      → is_out_of_ring (is_off s.controller) (status_in (station_ring run s.network) s.node)
      ≡ log_is_out plant scans (joint_of run) ((at-place plant scans run k s all is).plan, log_of s)
  out-as k s is =
      let p = at-place plant scans run k s all is in
      (λ i. is_out_of_ring (is_off_at (p.stands.fixed i) s.controller.history)
      (status_at (p.ring.net_is i) (station_ring run s.network).history (p.stands.node i)))
      ∙ ap (λ (l : List RingEntry). is_out_of_ring
      (is_off_at (fixed_of plant scans p.plan) s.controller.history)
      (status_at (net_of plant p.plan.node) l p.plan.node))
      (sym (noted-mine run s.network p.plan.network p.stands.network))

  host-out-as : (k : ℕ) (s : HostStation) (is : slice_get run.hosts.items k ≡ Some s)
      → (let p = host-at-place plant scans run k s all is in
      is_out_of_ring false (status_at (net_of plant p.plan.node)
      (station_ring run s.network).history
      p.plan.node) ≡ host_is_out plant (joint_of run) p.plan)
  host-out-as k s is =
      let p = host-at-place plant scans run k s all is in
      ap (λ (l : List RingEntry). is_out_of_ring false (status_at (net_of plant p.plan.node) l
      p.plan.node)) (sym (noted-mine run s.network p.plan.network p.stands.network))

  -- an end that has left is out, and no other one is
  end-out-as : (site : BridgeSite) (home side : ℕ)
      → StandsEnd side site.station (net_of plant side) (station_ring run home).history
      → node_is_out plant (joint_of run) false home side ≡ end_has_left side site.station
  end-out-as site home side st =
      let list = (station_ring run home).history in
      let status = status_at (net_of plant side) list side in
      ap (λ (l : List RingEntry). is_out_of_ring false (status_at (net_of plant side) l side))
      (noted-is run.rings.items home)
      ∙ (out-gone status (end_has_left side site.station)
      (end-knows side site.station (net_of plant side) list st)
      (λ left. (st.keeps.gone left).on_ring))
    where
      out-gone : (status : NodeStatus) (left : Bool) → left ≡ has_left status
          → (left ≡ true → status ≡ Gone) → is_out_of_ring false status ≡ left
      out-gone In left is gone = sym is
      out-gone Away left is gone =
          absurd (let no' : Away ≡ Gone = gone is in cc)
      out-gone Asking left is gone = sym is
      out-gone Gone left is gone = sym is

  site-out-as : (k : ℕ) (s : BridgeSite) (is : slice_get run.bridges.items k ≡ Some s)
      → bridge_is_out plant (joint_of run) (site-at-place plant scans run k s all is).plan
      ≡ site_has_left s
  site-out-as k s is =
      let p = site-at-place plant scans run k s all is in
      let a = end-out-as s p.plan.left_net p.plan.left p.stands.left in
      let b = end-out-as s p.plan.right_net p.plan.right p.stands.right in
      (λ i. a i && b i)
      ∙ (λ i. end_has_left (sym p.stands.plan_is i).left s.station
      && end_has_left (sym p.stands.plan_is i).right s.station)

  pub open-all : stations_here run ≢ 0 → all_are_out plant scans (joint_of run) ≡ false
  open-all some = ⊎_elim
      (λ (c : (k : ℕ) × (s : ControllerStation)
      × (slice_get run.controllers.items k ≡ Some s) × (s.left ≡ false)).
      let p = at-place plant scans run c.0 c.1 all c.2 in
      let open' : log_is_out plant scans (joint_of run) (p.plan, log_of c.1) ≡ false =
      sym (out-as c.0 c.1 c.2)
      ∙ open-out (is_off c.1.controller) (status_in (station_ring run c.1.network) c.1.node)
      ((λ i. has_left (status_at (p.ring.net_is i) (station_ring run c.1.network).history
      (p.stands.node i))) ∙ (sym p.stands.left ∙ c.3)) in
      ap (λ b. (b && hosts-out) && bridges-out)
      (not-all (log_is_out plant scans (joint_of run)) (logged plant (joint_of run)) c.0
      (p.plan, log_of c.1) (logged-at c.0 c.1 c.2 p.plan p.plan_is) open'))
      (λ (rest : ((k : ℕ) × (s : HostStation) × (slice_get run.hosts.items k ≡ Some s)
      × (s.left ≡ false))
      ⊎ ((k : ℕ) × (s : BridgeSite) × (slice_get run.bridges.items k ≡ Some s)
      × (site_has_left s ≡ false))). ⊎_elim
      (λ (h : (k : ℕ) × (s : HostStation)
      × (slice_get run.hosts.items k ≡ Some s) × (s.left ≡ false)).
      let p = host-at-place plant scans run h.0 h.1 all h.2 in
      let open' : host_is_out plant (joint_of run) p.plan ≡ false =
      sym (host-out-as h.0 h.1 h.2)
      ∙ open-out false (status_at (net_of plant p.plan.node) (station_ring run h.1.network).history
      p.plan.node) (sym p.stands.left ∙ h.3) in
      ap (λ b. (controllers-out && b) && bridges-out)
      (not-all (host_is_out plant (joint_of run)) plant.hosts h.0 p.plan p.plan_is open')
      ∙ ap (λ b. b && bridges-out) (and-false controllers-out))
      (λ (h : (k : ℕ) × (s : BridgeSite)
      × (slice_get run.bridges.items k ≡ Some s) × (site_has_left s ≡ false)).
      let p = site-at-place plant scans run h.0 h.1 all h.2 in
      ap (λ b. (controllers-out && hosts-out) && b)
      (not-all (bridge_is_out plant (joint_of run)) plant.bridges h.0 p.plan p.plan_is
      (site-out-as h.0 h.1 h.2 ∙ h.3))
      ∙ and-false (controllers-out && hosts-out))
      rest)
      (station-open run some)
    where
      controllers-out : Bool
      controllers-out =
          list_all (log_is_out plant scans (joint_of run)) (logged plant (joint_of run))

      hosts-out : Bool
      hosts-out = list_all (host_is_out plant (joint_of run)) plant.hosts

      bridges-out : Bool
      bridges-out = list_all (bridge_is_out plant (joint_of run)) plant.bridges

      logged-at : (k : ℕ) (s : ControllerStation) → slice_get run.controllers.items k ≡ Some s
          → (plan : ControllerPlan) → slice_get plant.controllers k ≡ Some plan
          → slice_get (logged plant (joint_of run)) k ≡ Some (plan, log_of s)
      logged-at k s is plan plan-is =
          zip-there plant.controllers (map log_of run.controllers.items) k plan (log_of s) plan-is
          (slice_get-map log_of run.controllers.items k ∙ ap (option_map log_of) is)

  pub all-out : stations_here run ≡ 0 → AllHave IsOffAway run
      → all_are_out plant scans (joint_of run) ≡ true
  all-out none off =
      (λ i. (controllers-out i && hosts-out i) && bridges-out i) where
        controllers-out : list_all (log_is_out plant scans (joint_of run))
            (logged plant (joint_of run)) ≡ true
        controllers-out = all-true (log_is_out plant scans (joint_of run))
            (logged plant (joint_of run)) (λ k of is.
            let spot = zip-parts plant.controllers (map log_of run.controllers.items) k of is in
            let found = map-there log_of run.controllers.items k of.1 spot.1 in
            let s = found.0 in
            let p = at-place plant scans run k s all found.1 in
            let plan_is : p.plan ≡ of.0 =
            (let both : Some p.plan ≡ Some of.0 = sym p.plan_is ∙ spot.0 in cc) in
            let out' : log_is_out plant scans (joint_of run) (p.plan, log_of s) ≡ true =
            sym (out-as k s found.1)
            ∙ left-out (is_off s.controller) (status_in (station_ring run s.network) s.node)
            ((λ i. has_left (status_at (p.ring.net_is i) (station_ring run s.network).history
            (p.stands.node i)))
            ∙ (sym p.stands.left ∙ controller-left run none k s found.1))
            (all-at (λ (x : ControllerStation). IsOffAway (station_ring run x.network) x)
            run.controllers.items k s off found.1) in
            (λ i. log_is_out plant scans (joint_of run) (sym plan_is i, sym found.2 i)) ∙ out')

        hosts-out : list_all (host_is_out plant (joint_of run)) plant.hosts ≡ true
        hosts-out = all-true (host_is_out plant (joint_of run)) plant.hosts (λ k plan is.
            let its = zip-at-first (HostStandsOn plant run.rings.items) plant.hosts
            run.hosts.items k plan
            all.hosts is in
            let left = host-left run none k its.0 its.1 in
            ap (λ (l : List RingEntry). is_out_of_ring false
            (status_at (net_of plant plan.node) l plan.node))
            (noted-is run.rings.items plan.network)
            ∙ ap (is_out_of_ring false) ((its.2.keeps.gone left).gone))

        bridges-out : list_all (bridge_is_out plant (joint_of run)) plant.bridges ≡ true
        bridges-out = all-true (bridge_is_out plant (joint_of run)) plant.bridges (λ k plan is.
            let its = zip-at-first (StandsSite plant run.rings.items) plant.bridges
            run.bridges.items k plan all.bridges is in
            let p = site-at-place plant scans run k its.0 all its.1 in
            let plan_is : p.plan ≡ plan =
            (let both : Some p.plan ≡ Some plan = sym p.plan_is ∙ is in cc) in
            ap (bridge_is_out plant (joint_of run)) (sym plan_is)
            ∙ (site-out-as k its.0 its.1 ∙ site-left run none k its.0 its.1))

-- some rounds
pub record SomeLate (old new : Stations) : Type 0 where
  pub did : Did (λ plant scans. SomeOf (IsLateRound plant scans)) old new
  pub scans : KeepScans old new
  pub off : AllHave IsOffAway new

pub no-late : (run : Stations) → AllHave IsOffAway run → SomeLate run run
no-late run off = record {
  did = record {
    stand = λ plant scans all. all;
    made = λ plant scans all. none-of-them (IsLateRound plant scans) (joint_of run);
  };
  scans = scans-same run run refl;
  off = off;
}

pub one-more-late : (first old new : Stations) → SomeLate first old → stations_here old ≢ 0
    → Did MakesRound old new → KeepScans old new
    → Stay IsOffAway old new → SomeLate first new
one-more-late first old new some is did scans off = record {
  did = record {
    stand = λ plant n all. did.stand plant n (some.did.stand plant n all);
    made = λ plant n all.
        let now = some.did.stand plant n all in
        one-more-of (IsLateRound plant n) (joint_of first) (joint_of old) (joint_of new)
        (some.did.made plant n all)
        (record { goes_on = open-all plant n old now is; round = did.made plant n now });
  };
  scans = scans-both first old new some.scans scans;
  off = all-stay IsOffAway old new off some.off;
}

pub all-emptied : (first new : Stations) → SomeLate first new → stations_here new ≡ 0
    → Did MakesLateRounds first new
all-emptied first new some none = record {
  stand = some.did.stand;
  made = λ plant n all.
      let s = some.did.made plant n all in
      record {
        behind_each = s.behind_each;
        rounds = s.chain;
        out = all-out plant n new (some.did.stand plant n all) none some.off;
      };
}

pub all-finished : (first emptied new : Stations) → Did MakesLateRounds first emptied
    → Did (λ plant scans. MakesTurns plant scans (visits_of plant)) emptied new
    → Did Finishes first new
all-finished first emptied new rounds visits = record {
  stand = λ plant n all. visits.stand plant n (rounds.stand plant n all);
  made = λ plant n all. record {
    emptied = joint_of emptied;
    rounds = rounds.made plant n all;
    visits = visits.made plant n (rounds.stand plant n all);
  };
}

-- Stations of a plant stand as those of the plant with a row more, where one of them was fed it.
use Rattle.std.proofs.Common.{◌≡◌, ◌≢◌, ℕ, ◌+◌, zero, suc, ◌==◌, Bool, true, false, List, [], ◌∷◌}
use Rattle.std.proofs.Common.{map}
use Rattle.std.proofs.Common.{set, Option, Some, None, refl, sym, ap, subst, ◌∙◌, inl, inr, ⊎_elim}
use Rattle.std.specs.Prelude.{if◌then◌else◌, not, option_map, ◌⊎◌}
use Rattle.std.specs.List.{All, AllZip, flat_map, position, range_with_len, slice_get}
use Rattle.std.proofs.lemmas.Bool.{eq-eqb, eqb-true, ne_eqb}
use Rattle.std.proofs.lemmas.List.{map-set}
use Rattle.std.proofs.lemmas.Option.{get_or_from_slice_get, slice_get-map}
use Rattle.plant_types.specs.declared.drops.ScriptRow.{ScriptRow}
use Rattle.plant_types.specs.declared.net.BridgePlan.{BridgePlan}
use Rattle.plant_types.specs.declared.net.HostPlan.{HostPlan}
use Rattle.plant_types.specs.declared.net.NetPlan.{NetPlan}
use Rattle.plant_types.specs.declared.plan.ControllerPlan.{ControllerPlan}
use Rattle.plant_types.specs.declared.plan.Plant.{Plant}
use Rattle.plant_types.specs.Plans.{net_of}
use Rattle.ring_core.specs.declared.entry.RingEntry.{RingEntry}
use Rattle.traffic_cop.specs.Feeding.{fits_drop, row_fed}
use Rattle.traffic_cop.specs.Rows.{IsRunnablePlan}
use Rattle.traffic_cop.proofs.FeedingLemmas.{rows-later}
use Rattle.controller_core.specs.declared.entry.Entry.{Entry}
use Rattle.controller_core.specs.declared.fixed.Fixed.{Fixed}
use Rattle.controller_core.specs.Controller.{ControllerIs, IsLegal}
use Rattle.controller_core.specs.Feeding.{fixed_fed, CanFeed, CanFeedAfter}
use Rattle.controller_core.specs.Replay.{ControllerState}
use Rattle.controller_core.proofs.FeedingLemmas.{rows-keep}
use Rattle.joint_history.specs.declared.joint.ControllerLog.{ControllerLog}
use Rattle.joint_history.specs.JointLaws.{fixed_of}
use Rattle.joint_history.specs.Runnable.{CanRunPlant}
use Rattle.serial_run.specs.CommPort.{own_side, Standing, WorkerIs}
use Rattle.serial_run.specs.TurnLaws.{KeepsOn}
use Rattle.serial_run.proofs.NetLaws.{same-controller}
use Rattle.whole_scan.specs.Scans.{IsBetweenScans}
use Rattle.fed_turns.specs.Agreeing.{AgreeOn}
use Rattle.fed_turns.proofs.Agreements.{ended-same, left-same, rows, started-same, state-same}
use Rattle.serial_run.specs.declared.stations.BridgeSite.{BridgeSite}
use Rattle.serial_run.specs.declared.stations.ControllerStation.{ControllerStation}
use Rattle.serial_run.specs.declared.stations.HostStation.{HostStation}
use Rattle.serial_run.specs.declared.stations.RingStation.{RingStation}
use Rattle.serial_run.specs.declared.stations.Stations.{Stations}
use Rattle.serial_run.specs.Feeding.{station_fed, AreAsBefore, CanFeedNode, FedAt, FedIf, FedNode}
use Rattle.serial_run.specs.Held.{AllHave, IsOffAway}
use Rattle.serial_run.specs.Scans.{AreBetweenScans}
use Rattle.serial_run.specs.Stations.{HostStandsOn, StandAll, StandsController, StandsOn}
use Rattle.serial_run.specs.Stations.{StandsRing, StandsSite, host_log_of, joint_of, log_of}
use Rattle.serial_run.specs.Stations.{log_of_ring, log_of_site, plain_ram_side, ring_on}
use Rattle.serial_run.proofs.Lists.{from-places, map-there, position-none, set-there, zip-at}
use Rattle.serial_run.proofs.Lists.{zip-at-first, zip-other, zip-set}
use Rattle.serial_run.proofs.Repeats.{all-at}
use Rattle.serial_run.proofs.TurnsMade.{found-station}
use Rattle.serial_feed.specs.Feeding.{CanFeedIn}
use Rattle.serial_feed.proofs.FedPlants.{sound-fed}
use Rattle.serial_feed.proofs.GoingOn.{agrees-last, fed, fixed_as, fixed_fed_as, with_row}

-- ---- lists

some-same : {X : Type 0} (x y : X) → Some x ≡ Some y → x ≡ y
some-same x y is = cc

zip-mapped : {A B C : Type 0} (f : A → C) (R : C → B → Type 0) (xs : List A) (ys : List B)
    → AllZip (λ (x : A) (y : B). R (f x) y) xs ys → AllZip R (map f xs) ys
zip-mapped f R [] [] all = tt
zip-mapped f R [] (y ∷ ys) all = absurd all
zip-mapped f R (x ∷ xs) [] all = absurd all
zip-mapped f R (x ∷ xs) (y ∷ ys) all = (all.0, zip-mapped f R xs ys all.1)

set-item : {X : Type 0} (xs : List X) (at k : ℕ) (y z : X) → slice_get (set xs at y) k ≡ Some z
    → (y ≡ z) ⊎ (slice_get xs k ≡ Some z)
set-item [] at k y z is = inr is
set-item (x ∷ xs) zero zero y z is = inl (some-same y z is)
set-item (x ∷ xs) zero (suc k) y z is = inr is
set-item (x ∷ xs) (suc at) zero y z is = inr is
set-item (x ∷ xs) (suc at) (suc k) y z is = set-item xs at k y z is

all-set : {X : Type 0} (P : X → Type 0) (xs : List X) (at : ℕ) (y : X) → All P xs → P y
    → All P (set xs at y)
all-set P xs at y all here = from-places P (set xs at y) (λ k z is. ⊎_elim
    (λ (same : y ≡ z). subst P same here)
    (λ (old : slice_get xs k ≡ Some z). all-at P xs k z all old)
    (set-item xs at k y z is))

-- ---- what a controller's lists keep

keeps-as : (fixed other : Fixed) (net : NetPlan) (n : ℕ) (h : List Entry) (ring : List RingEntry)
    (left : Bool) → AgreeOn fixed other h → KeepsOn fixed net n h ring left
    → KeepsOn other net n h ring left
keeps-as fixed other net n h ring left a k = record {
  replied = k.replied;
  stays = k.stays;
  said = λ said.
      let d = k.said said in
      record {
        ended = ended-same fixed other h a ∙ d.ended;
        collected = started-same fixed other h a ∙ d.collected;
        finished = d.finished;
      };
  noticed = λ m there.
      let e = k.noticed m there in
      record { ended = ended-same fixed other h a ∙ e.ended; noticed = e.noticed };
  at_home = k.at_home;
  gone = k.gone;
  timely = k.timely;
}

standing-as : (w : WorkerIs) (v : ControllerIs) (x : Fixed) (net : NetPlan)
    (ring : List RingEntry) → x.plan.node ≡ v.fixed.plan.node
    → Standing w (plain_ram_side v) v.history (own_side net) ring
    → Standing w (plain_ram_side (record v { fixed = x })) v.history (own_side net) ring
standing-as w v x net ring same s = record {
  node = same ∙ s.node;
  member = s.member;
  serves = s.serves;
  legal = s.legal;
  patient = s.patient;
  tied = s.tied;
  noticed = s.noticed;
  waits = s.waits;
  rest = s.rest;
}

between-as : (v : ControllerIs) (other : Fixed) → AgreeOn v.fixed other v.history
    → IsBetweenScans v → IsBetweenScans (record v { fixed = other })
between-as v other a b =
    let state = state-same v.fixed other v.history a in
    record {
      many = b.many;
      left = λ goes.
          left-same v.fixed other v.history a
          ∙ b.left (sym (ap (λ (s : ControllerState). s.stop) state) ∙ goes)
          ∙ sym (λ i. flat_map (λ k. a.steps k i)
          (range_with_len ((state i).gone + 1) b.many));
    }

-- ---- stations of a plant

module _ (plant : Plant) (scans node drop : ℕ) (row : ScriptRow) (run : Stations)
    (all : StandAll plant scans run) (can : CanFeedNode node drop row run) where
  abbrev p : Plant
  p = fed plant scans node drop row

  abbrev as_fed : ControllerPlan → ControllerPlan
  as_fed plan = with_row plant scans node drop row plan

  abbrev old_fixed : ControllerPlan → Fixed
  old_fixed plan = fixed_as plant scans node drop row plan

  abbrev new_fixed : ControllerPlan → Fixed
  new_fixed plan = fixed_fed_as plant scans node drop row plan

  abbrev stations : List ControllerStation
  stations = run.controllers.items

  abbrev rings : List RingStation
  rings = run.rings.items

  can-at : (k : ℕ) (s : ControllerStation) → slice_get stations k ≡ Some s → s.node ≡ node
      → CanFeed s.controller drop row
  can-at k s is mine = all-at (λ (x : ControllerStation). x.node ≡ node
      → CanFeed x.controller drop row) stations k s can is mine

  pub can-in : CanFeedIn plant scans node drop row (joint_of run)
  can-in k plan log is mine =
      let from = map-there log_of stations k log is.log_is in
      let z = zip-at (StandsOn plant scans rings) plant.controllers stations k from.0
      all.controllers from.1 in
      let same : z.0 ≡ plan = some-same z.0 plan (sym z.1 ∙ is.plan_is) in
      let it = can-at k from.0 from.1
      (z.2.node ∙ ap (λ (x : ControllerPlan). x.node) same ∙ mine) in
      let fixed : from.0.controller.fixed ≡ old_fixed plan =
      z.2.fixed ∙ ap (λ (x : ControllerPlan). old_fixed x) same in
      subst (λ (h : List Entry). CanFeedAfter (old_fixed plan) h drop row)
      (ap (λ (l : ControllerLog). l.entries) from.2)
      (subst (λ (f : Fixed). CanFeedAfter f from.0.controller.history drop row) fixed it)

  agree-station : (k : ℕ) (x : ControllerPlan) (s : ControllerStation)
      → slice_get plant.controllers k ≡ Some x → slice_get stations k ≡ Some s
      → AgreeOn (old_fixed x) (new_fixed x) s.controller.history
  agree-station k x s at-x at-s =
      agrees-last plant scans node drop row (joint_of run) can-in k x (log_of s) (record {
        plan_is = at-x;
        log_is = slice_get-map log_of stations k ∙ ap (option_map log_of) at-s;
      })

  stands-with : (ring : List RingEntry) (x : ControllerPlan) (s : ControllerStation) (f : Fixed)
      → AgreeOn (old_fixed x) (new_fixed x) s.controller.history → f ≡ new_fixed x
      → IsLegal f s.controller.history → f.plan.node ≡ s.controller.fixed.plan.node
      → StandsController plant scans ring x s
      → StandsController p scans ring (as_fed x)
      (record s { controller = record s.controller { fixed = f } })
  stands-with ring x s f a is legal same st = record {
    node = st.node;
    network = st.network;
    worker_node = st.worker_node;
    budget = st.budget;
    fixed = is;
    legal = legal;
    standing = standing-as s.worker s.controller f (net_of plant x.node) ring same st.standing;
    left = st.left;
    keeps = keeps-as (old_fixed x) (new_fixed x) (net_of plant x.node) x.node
        s.controller.history ring s.left a st.keeps;
  }

  abbrev fixed_by : ControllerPlan → Bool → Fixed
  fixed_by x b = fixed_of plant scans
      (record x { drops = if b then row_fed x.drops drop row else x.drops })

  stands-mine : (k : ℕ) (x : ControllerPlan) (s : ControllerStation)
      → slice_get plant.controllers k ≡ Some x → slice_get stations k ≡ Some s
      → s.node ≡ node → StandsOn plant scans rings x s
      → StandsOn p scans rings (as_fed x) (station_fed drop row s)
  stands-mine k x s at-x at-s mine st =
      stands-with (ring_on rings x.network).history x s
      (fixed_fed s.controller.fixed drop row)
      (agree-station k x s at-x at-s)
      (ap (λ (f : Fixed). fixed_fed f drop row) st.fixed
      ∙ ap (fixed_by x) (sym (eq-eqb x.node node (sym st.node ∙ mine))))
      (rows-keep.legal s.controller.fixed s.controller.history drop row (can-at k s at-s mine)
      st.legal)
      refl st

  stands-other : (k : ℕ) (x : ControllerPlan) (s : ControllerStation)
      → slice_get plant.controllers k ≡ Some x → slice_get stations k ≡ Some s
      → x.node ≢ node → StandsOn plant scans rings x s → StandsOn p scans rings (as_fed x) s
  stands-other k x s at-x at-s other st =
      stands-with (ring_on rings x.network).history x s s.controller.fixed
      (agree-station k x s at-x at-s)
      (st.fixed ∙ ap (fixed_by x) (sym (ne_eqb x.node node other)))
      st.legal refl st

  host-stands : (x : HostPlan) (s : HostStation) → HostStandsOn plant rings x s
      → HostStandsOn p rings x s
  host-stands x s st = record {
    node = st.node;
    network = st.network;
    worker_node = st.worker_node;
    budget = st.budget;
    plan_is = st.plan_is;
    ties = st.ties;
    counts = st.counts;
    left = st.left;
    keeps = st.keeps;
  }

  site-stands : (x : BridgePlan) (s : BridgeSite) → StandsSite plant rings x s
      → StandsSite p rings x s
  site-stands x s st = record {
    plan_is = st.plan_is;
    bridge_is = st.bridge_is;
    left_budget = st.left_budget;
    right_budget = st.right_budget;
    left = st.left;
    right = st.right;
  }

  -- all stand whose controllers do
  all-stand : (new : Stations) → new.hosts.items ≡ run.hosts.items
      → new.bridges.items ≡ run.bridges.items → new.rings.items ≡ rings
      → AllZip (StandsOn p scans rings) p.controllers new.controllers.items
      → StandAll p scans new
  all-stand new hosts bridges same each = record {
    sound = sound-fed node drop row plant all.sound;
    rings = subst (AllZip StandsRing plant.nets) (sym same) all.rings;
    controllers = subst (λ (l : List RingStation). AllZip (StandsOn p scans l) p.controllers
        new.controllers.items) (sym same) each;
    hosts = subst (λ (l : List RingStation). AllZip (HostStandsOn p l) plant.hosts new.hosts.items)
        (sym same)
        (subst (AllZip (HostStandsOn p rings) plant.hosts) (sym hosts)
        (zip-other (HostStandsOn plant rings) (HostStandsOn p rings) plant.hosts run.hosts.items
        all.hosts (λ k x s at-x at-s st. host-stands x s st)));
    bridges = subst (λ (l : List RingStation). AllZip (StandsSite p l) plant.bridges
        new.bridges.items) (sym same)
        (subst (AllZip (StandsSite p rings) plant.bridges) (sym bridges)
        (zip-other (StandsSite plant rings) (StandsSite p rings) plant.bridges run.bridges.items
        all.bridges (λ k x s at-x at-s st. site-stands x s st)));
  }

  -- ---- the plant can be run

  runs-by : (b : Bool) (x : ControllerPlan)
      → (b ≡ true → fits_drop x.drops drop row ≡ true) → IsRunnablePlan x
      → IsRunnablePlan (record x { drops = if b then row_fed x.drops drop row else x.drops })
  runs-by true x fits can-run = rows-later.runs x drop row (fits refl) can-run
  runs-by false x fits can-run = can-run

  runs-at : (k : ℕ) (x : ControllerPlan) → slice_get plant.controllers k ≡ Some x
      → IsRunnablePlan x → IsRunnablePlan (as_fed x)
  runs-at k x at-x can-run =
      let z = zip-at-first (StandsOn plant scans rings) plant.controllers stations k x
      all.controllers at-x in
      runs-by (x.node == node) x
      (λ mine. subst (λ (f : Fixed). fits_drop f.plan.drops drop row ≡ true) z.2.fixed
      (can-at k z.0 z.1 (z.2.node ∙ eqb-true x.node node mine)).fits) can-run

  pub plant-runs : CanRunPlant plant → CanRunPlant p
  plant-runs can-run = record {
    sound = sound-fed node drop row plant can-run.sound;
    controllers = from-places IsRunnablePlan (map as_fed plant.controllers) (λ k y is.
        let from = map-there as_fed plant.controllers k y is in
        subst IsRunnablePlan from.2 (runs-at k from.0 from.1
        (all-at IsRunnablePlan plant.controllers k from.0 can-run.controllers from.1)));
  }

  -- ---- where nobody is fed

  nobody-stands : (new : Stations) → AreAsBefore run new
      → position (λ (s : ControllerStation). s.node == node) stations ≡ None
      → StandAll p scans new
  nobody-stands new same none =
      let each : AllZip (λ (x : ControllerPlan) (s : ControllerStation).
      StandsOn p scans rings (as_fed x) s) plant.controllers stations =
      zip-other (StandsOn plant scans rings)
      (λ (x : ControllerPlan) (s : ControllerStation). StandsOn p scans rings (as_fed x) s)
      plant.controllers stations all.controllers
      (λ k x s at-x at-s st. stands-other k x s at-x at-s
      (λ mine. absurd (let no' : (s.node == node) ≡ false =
      position-none (λ (y : ControllerStation). y.node == node) stations k s none at-s in
      let yes = eq-eqb s.node node (st.node ∙ mine) in cc)) st) in
      all-stand new (ap (λ v. v.items) same.hosts) (ap (λ v. v.items) same.bridges)
      (ap (λ v. v.items) same.rings)
      (zip-mapped as_fed (StandsOn p scans rings) plant.controllers new.controllers.items
      (subst (AllZip (λ (x : ControllerPlan) (s : ControllerStation).
      StandsOn p scans rings (as_fed x) s) plant.controllers) (sym same.controllers) each))

  -- ---- where one is

  module _ (new : Stations) (at : ℕ)
      (place : position (λ (s : ControllerStation). s.node == node) stations ≡ Some at)
      (it : FedAt at drop row run new) where
    mine : it.station.node ≡ node
    mine =
        let value = sym (get_or_from_slice_get stations at it.station it.station it.station_is) in
        eqb-true it.station.node node (found-station run node at it.station place value).1

    here : (z : ControllerPlan) → slice_get plant.controllers at ≡ Some z
        → StandsOn p scans rings (as_fed z) (station_fed drop row it.station)
    here z at-z =
        let x = zip-at (StandsOn plant scans rings) plant.controllers stations at it.station
        all.controllers it.station_is in
        let same : x.0 ≡ z = some-same x.0 z (sym x.1 ∙ at-z) in
        stands-mine at z it.station at-z it.station_is mine
        (subst (λ (y : ControllerPlan). StandsOn plant scans rings y it.station) same x.2)

    others : (k : ℕ) (x : ControllerPlan) → k ≢ at → slice_get plant.controllers k ≡ Some x
        → x.node ≢ node
    others k x apart at-x same =
        let z = zip-at (StandsOn plant scans rings) plant.controllers stations at it.station
        all.controllers it.station_is in
        apart (same-controller plant all.sound k at x z.0 at-x z.1
        (same ∙ sym mine ∙ z.2.node))

    one-stands : StandAll p scans new
    one-stands =
        let each : AllZip (λ (x : ControllerPlan) (s : ControllerStation).
        StandsOn p scans rings (as_fed x) s) plant.controllers
        (set stations at (station_fed drop row it.station)) =
        zip-set (StandsOn plant scans rings)
        (λ (x : ControllerPlan) (s : ControllerStation). StandsOn p scans rings (as_fed x) s)
        plant.controllers stations at (station_fed drop row it.station) all.controllers here
        (λ k x s apart at-x at-s st. stands-other k x s at-x at-s (others k x apart at-x) st)
        in
        all-stand new (ap (λ v. v.items) it.hosts) (ap (λ v. v.items) it.bridges)
        (ap (λ v. v.items) it.rings)
        (zip-mapped as_fed (StandsOn p scans rings) plant.controllers new.controllers.items
        (subst (AllZip (λ (x : ControllerPlan) (s : ControllerStation).
        StandsOn p scans rings (as_fed x) s) plant.controllers) (sym it.controllers) each))

    one-between : AreBetweenScans run → AreBetweenScans new
    one-between between =
        let s = it.station in
        let agree = rows s.controller.fixed s.controller.history drop row
        (can-at at s it.station_is mine) in
        subst (All (λ (x : ControllerStation). IsBetweenScans x.controller)) (sym it.controllers)
        (all-set (λ (x : ControllerStation). IsBetweenScans x.controller) stations at
        (station_fed drop row s) between
        (between-as s.controller (fixed_fed s.controller.fixed drop row) agree
        (all-at (λ (x : ControllerStation). IsBetweenScans x.controller) stations at s between
        it.station_is)))

    one-off : AllHave IsOffAway run → AllHave IsOffAway new
    one-off off =
        let s = it.station in
        let agree = rows s.controller.fixed s.controller.history drop row
        (can-at at s it.station_is mine) in
        let state = state-same s.controller.fixed (fixed_fed s.controller.fixed drop row)
        s.controller.history agree in
        subst (λ (l : List RingStation). All (λ (x : ControllerStation).
        IsOffAway (ring_on l x.network) x) new.controllers.items)
        (sym (ap (λ v. v.items) it.rings))
        (subst (All (λ (x : ControllerStation). IsOffAway (ring_on rings x.network) x))
        (sym it.controllers)
        (all-set (λ (x : ControllerStation). IsOffAway (ring_on rings x.network) x) stations at
        (station_fed drop row s) off
        (λ away. ap (λ (t : ControllerState). not t.powered) state
        ∙ all-at (λ (x : ControllerStation). IsOffAway (ring_on rings x.network) x) stations at s
        off it.station_is away)))

    one-joint : joint_of new ≡ joint_of run
    one-joint =
        let s = it.station in
        let logs : map log_of new.controllers.items ≡ map log_of stations =
        ap (map log_of) it.controllers
        ∙ map-set log_of stations at (station_fed drop row s)
        ∙ set-there (map log_of stations) at (log_of s)
        (slice_get-map log_of stations at ∙ ap (option_map log_of) it.station_is) in
        λ i. record {
          controllers = logs i;
          hosts = map host_log_of (it.hosts i).items;
          bridges = map log_of_site (it.bridges i).items;
          rings = map log_of_ring (it.rings i).items;
        }

-- ---- stations that are as before

module _ (run new : Stations) (same : AreAsBefore run new) where
  pub same-joint : joint_of new ≡ joint_of run
  same-joint = λ i. record {
    controllers = map log_of (same.controllers i);
    hosts = map host_log_of (same.hosts i).items;
    bridges = map log_of_site (same.bridges i).items;
    rings = map log_of_ring (same.rings i).items;
  }

  pub same-between : AreBetweenScans run → AreBetweenScans new
  same-between between = subst (All (λ (x : ControllerStation). IsBetweenScans x.controller))
      (sym same.controllers) between

  pub same-off : AllHave IsOffAway run → AllHave IsOffAway new
  same-off off =
      subst (λ (l : List RingStation). All (λ (x : ControllerStation).
      IsOffAway (ring_on l x.network) x) new.controllers.items)
      (sym (ap (λ v. v.items) same.rings))
      (subst (All (λ (x : ControllerStation). IsOffAway (ring_on run.rings.items x.network) x))
      (sym same.controllers) off)

  pub same-stand : (plant : Plant) (scans : ℕ) → StandAll plant scans run
      → StandAll plant scans new
  same-stand plant scans all =
      let hosts = ap (λ v. v.items) same.hosts in
      let bridges = ap (λ v. v.items) same.bridges in
      let rings = ap (λ v. v.items) same.rings in
      record {
        sound = all.sound;
        rings = subst (AllZip StandsRing plant.nets) (sym rings) all.rings;
        controllers = subst (λ (l : List RingStation). AllZip (StandsOn plant scans l)
            plant.controllers new.controllers.items) (sym rings)
            (subst (AllZip (StandsOn plant scans run.rings.items) plant.controllers)
            (sym same.controllers) all.controllers);
        hosts = subst (λ (l : List RingStation). AllZip (HostStandsOn plant l) plant.hosts
            new.hosts.items) (sym rings)
            (subst (AllZip (HostStandsOn plant run.rings.items) plant.hosts) (sym hosts)
            all.hosts);
        bridges = subst (λ (l : List RingStation). AllZip (StandsSite plant l) plant.bridges
            new.bridges.items) (sym rings)
            (subst (AllZip (StandsSite plant run.rings.items) plant.bridges) (sym bridges)
            all.bridges);
      }

-- ---- the node that is fed, or nobody

pub record StillStand (plant fed_plant : Plant) (scans : ℕ) (run new : Stations) : Type 0 where
  pub can : CanRunPlant plant → CanRunPlant fed_plant
  pub stand : StandAll fed_plant scans new
  pub joint : joint_of new ≡ joint_of run
  pub between : AreBetweenScans run → AreBetweenScans new
  pub off : AllHave IsOffAway run → AllHave IsOffAway new

still-by : (plant : Plant) (scans node drop : ℕ) (row : ScriptRow) (run new : Stations)
    (o : Option ℕ) → position (λ (s : ControllerStation). s.node == node) run.controllers.items ≡ o
    → StandAll plant scans run → CanFeedNode node drop row run → FedIf o drop row run new
    → StillStand plant (fed plant scans node drop row) scans run new
still-by plant scans node drop row run new None place all can it = record {
  can = plant-runs plant scans node drop row run all can;
  stand = nobody-stands plant scans node drop row run all can new it place;
  joint = same-joint run new it;
  between = same-between run new it;
  off = same-off run new it;
}
still-by plant scans node drop row run new (Some at) place all can it = record {
  can = plant-runs plant scans node drop row run all can;
  stand = one-stands plant scans node drop row run all can new at place it;
  joint = one-joint plant scans node drop row run all can new at place it;
  between = one-between plant scans node drop row run all can new at place it;
  off = one-off plant scans node drop row run all can new at place it;
}

pub still-stand : (plant : Plant) (scans node drop : ℕ) (row : ScriptRow) (run new : Stations)
    → StandAll plant scans run → CanFeedNode node drop row run → FedNode node drop row run new
    → StillStand plant (fed plant scans node drop row) scans run new
still-stand plant scans node drop row run new all can it =
    still-by plant scans node drop row run new
    (position (λ (s : ControllerStation). s.node == node) run.controllers.items) refl all can it

-- What a hold of the token of one network makes of all stations.
use Rattle.std.proofs.Common.{◌≡◌, ◌≢◌, ℕ, ◌<◌, ◌==◌, true, false, Some, None, refl, sym, ap}
use Rattle.std.proofs.Common.{subst}
use Rattle.std.proofs.Common.{◌∙◌, arith, ⊎_elim, inl, inr, [], Option, get_or}
use Rattle.std.specs.List.{position, slice_get}
use Rattle.std.specs.Vec.{with_item}
use Rattle.std.proofs.lemmas.Bool.{eq-eqb, eqb-true, true≢false}
use Rattle.plant_types.specs.declared.net.BridgePlan.{BridgePlan}
use Rattle.plant_types.specs.declared.net.NetPlan.{NetPlan}
use Rattle.plant_types.specs.declared.plan.Plant.{Plant}
use Rattle.plant_types.specs.Plans.{no_net}
use Rattle.ring_core.specs.Kept.{KeptRing, ring_of}
use Rattle.ring_core.specs.Machine.{is_held}
use Rattle.bridge_station.specs.Station.{BridgeStationIs, end_has_left}
use Rattle.bridge_station.specs.Stands.{HeldByEnd, MovedByEnd, StandsEnd}
use Rattle.bridge_station.proofs.Standing.{holding-there}
use Rattle.comm_port.specs.Turns.{IsNoBridge}
use Rattle.bridge_station.specs.TurnLaws.{SomebodyHolds}
use Rattle.bridge_station.proofs.TurnLaws.{there-member}
use Rattle.serial_run.specs.declared.stations.BridgeSite.{BridgeSite}
use Rattle.serial_run.specs.declared.stations.ControllerStation.{ControllerStation}
use Rattle.serial_run.specs.declared.stations.HostStation.{HostStation}
use Rattle.serial_run.specs.declared.stations.RingStation.{RingStation}
use Rattle.serial_run.specs.declared.stations.Stations.{Stations}
use Rattle.serial_run.specs.declared.order.Turn.TheVariants.{Away, Visit}
use Rattle.serial_run.specs.Turns.{MakesTurn, is_end_of}
use Rattle.serial_run.specs.Scans.{KeepScans}
use Rattle.serial_run.specs.Stations.{Did, StandAll, no_ring, ring_if, station_ring, station_on}
use Rattle.serial_run.specs.Held.{HasToken, HeldController, HeldHost, HeldOn, HostKeepsBeside}
use Rattle.serial_run.specs.Held.{CameBack, GainFor, HostStandsBeside, IsOffAway, IsVisited}
use Rattle.serial_run.specs.Held.{KeepsBeside}
use Rattle.serial_run.specs.Held.{KnowsLeft, StandsBeside, Stay, VisitedController}
use Rattle.serial_run.specs.Held.{stations_here}
use Rattle.serial_run.specs.Held.{IsHeld, members_if, members_in, members_of_ring, turns_left}
use Rattle.serial_run.proofs.HoldsDid.{HoldsAtPlace, IsEndOn, end-grew, end-has-token, end-hold-did}
use Rattle.serial_run.proofs.HoldsDid.{has-token, hold-did, host-has-token, host-hold-did}
use Rattle.serial_run.proofs.HoldsDid.{host-stands-beside, no-hold-did, no-hold-on-did}
use Rattle.serial_run.proofs.HoldsDid.{stands-beside}
use Rattle.serial_run.proofs.Did.{came-did, visit-did}
use Rattle.serial_run.proofs.Gained.{stays-same}
use Rattle.serial_run.proofs.Holding.{end-hold-lessens, here-left, hold-lessens, hold-scans}
use Rattle.serial_run.proofs.Holding.{host-hold-lessens, knows-left, visit-scans}
use Rattle.serial_run.proofs.Keeping.{host-is-here, host-keeps-beside, host-no-bridge-beside}
use Rattle.serial_run.proofs.Keeping.{keeps-beside, no-bridge-beside}
use Rattle.serial_run.proofs.Lists.{find-none, position-none}
use Rattle.serial_run.proofs.Measures.{holder-found, scans-same}
use Rattle.serial_run.proofs.Networks.{RingPlace, Turned, as-turned, behind, ring-place}
use Rattle.serial_run.proofs.Networks.{ring-of, station-other, turned-by}
use Rattle.serial_run.proofs.Off.{came-gains, came-scans, end-hold-off, hold-off, host-hold-off}
use Rattle.serial_run.proofs.Off.{visit-gains, visit-here, visit-off}
use Rattle.serial_run.proofs.TurnsMade.{at-place, found-host, found-ring, found-site}
use Rattle.serial_run.proofs.TurnsMade.{found-station, host-at-place, site-at-place}

-- what a visit of the controller of a node, or its away turn, makes of all stations
pub record VisitedAll (node : ℕ) (old new : Stations) : Type 0 where
  pub visited : Did (λ plant scans. MakesTurn plant scans (Visit node)) old new
  pub scans : KeepScans old new
  pub off : Stay IsOffAway old new
  pub gain : GainFor IsVisited node old new
  pub here : stations_here new ≡ stations_here old

pub record CameAll (node : ℕ) (old new : Stations) : Type 0 where
  pub did : Did (λ plant scans. MakesTurn plant scans (Away node)) old new
  pub scans : KeepScans old new
  pub gain : GainFor IsOffAway node old new

-- all stations where one is another, and the ring at a place
abbrev pub with-controller : Stations → ℕ → ControllerStation → ℕ → RingStation → Stations
with-controller run at t place station = record {
  controllers = with_item run.controllers at t;
  hosts = run.hosts;
  bridges = run.bridges;
  rings = with_item run.rings place station;
}

abbrev pub with-host : Stations → ℕ → HostStation → ℕ → RingStation → Stations
with-host run at t place station = record {
  controllers = run.controllers;
  hosts = with_item run.hosts at t;
  bridges = run.bridges;
  rings = with_item run.rings place station;
}

abbrev pub with-site : Stations → ℕ → BridgeSite → ℕ → RingStation → Stations
with-site run at t place station = record {
  controllers = run.controllers;
  hosts = run.hosts;
  bridges = with_item run.bridges at t;
  rings = with_item run.rings place station;
}

module _ (law : SomebodyHolds) (plant : Plant) (scans : ℕ) (run : Stations)
    (all : StandAll plant scans run) (place : ℕ) (r : RingStation) (network : ℕ)
    (at-ring : slice_get run.rings.items place ≡ Some r) (on : r.network ≡ network) where
  spot : RingPlace plant run.rings.items place r
  spot = ring-place plant run.rings.items all.sound all.rings place r at-ring

  -- no other network has another number of members
  others-stay : (new : Stations) (ring : KeptRing)
      → new.rings.items ≡ (with_item run.rings place (behind r ring)).items
      → (other : ℕ) → other ≢ network
      → members_in new other ≡ members_in run other
  others-stay new ring rings other apart =
      ap (λ l. members_if (station_on l other)) rings
      ∙ ap members_if (station-other run.rings.items place r ring at-ring other
      (λ same. apart (same ∙ on)))

  -- ---- a controller

  module _ (at : ℕ) (s : ControllerStation) (is : slice_get run.controllers.items at ≡ Some s)
      (named : (s.node == (ring_of r.ring).holder) ≡ true) where
    holds : HoldsAtPlace run s.network s.worker.node r
    holds = has-token law plant scans run at s all is place r at-ring named

    pub controller-stands : StandsBeside s r.ring
    controller-stands = subst (StandsBeside s) holds.ring_is
        (stands-beside plant scans run at s all is)

    pub controller-token : HasToken s.worker.node r.ring
    controller-token = holds.token

    pub controller-is-no-end : IsNoBridge r.ring.net s.worker.node
    controller-is-no-end = subst (λ (k : KeptRing). IsNoBridge k.net s.worker.node) holds.ring_is
        (no-bridge-beside plant scans run at s all is)

    pub controller-keeps : KeepsBeside s r.ring
    controller-keeps = subst (KeepsBeside s) holds.ring_is
        (keeps-beside plant scans run at s all is)

    own-token : HasToken s.worker.node (station_ring run s.network)
    own-token = subst (HasToken s.worker.node) (sym holds.ring_is) holds.token

    pub controller-here : s.left ≡ false
    controller-here = here-left plant scans run at s all is own-token

    pub controller-held : (t : ControllerStation) (ring : KeptRing)
        → position (λ (x : ControllerStation). x.node == (ring_of r.ring).holder)
        run.controllers.items ≡ Some at
        → HeldController s t r.ring ring
        → HeldOn network run (with-controller run at t place (behind r ring))
    controller-held t ring found held =
        let new = with-controller run at t place (behind r ring) in
        let home = sym holds.network_is in
        let budget = (at-place plant scans run at s all is).stands.budget in
        let turned : Turned s.network run.rings.items new.rings.items =
        turned-by plant run.rings.items place r ring s.network spot home in
        let held' : HeldController s t (station_ring run s.network) (station_ring new s.network) =
        as-turned (HeldController s t) plant run.rings.items place r ring s.network spot home held
        in
        let less : turns_left new < turns_left run =
        hold-lessens run new at s t is refl budget held' plant scans all refl refl turned own-token
        in
        record {
          did = hold-did run new at s t is refl refl refl turned budget held' place r network
              at-ring on found;
          scans = hold-scans run new at s t is refl budget held';
          no_more = omega (arith, less);
          less = λ there. less;
          off = hold-off plant scans run new at s t all is refl turned held';
          others = others-stay new ring refl;
        }

  -- ---- a host

  module _ (at : ℕ) (s : HostStation) (is : slice_get run.hosts.items at ≡ Some s)
      (named : (s.node == (ring_of r.ring).holder) ≡ true) where
    host-holds : HoldsAtPlace run s.network s.worker.node r
    host-holds = host-has-token law plant scans run at s all is place r at-ring named

    pub host-stands : HostStandsBeside s r.ring
    host-stands = subst (HostStandsBeside s) host-holds.ring_is
        (host-stands-beside plant scans run at s all is)

    pub host-token : HasToken s.worker.node r.ring
    host-token = host-holds.token

    pub host-is-no-end : IsNoBridge r.ring.net s.worker.node
    host-is-no-end = subst (λ (k : KeptRing). IsNoBridge k.net s.worker.node) host-holds.ring_is
        (host-no-bridge-beside plant scans run at s all is)

    pub host-keeps : HostKeepsBeside s r.ring
    host-keeps = subst (HostKeepsBeside s) host-holds.ring_is
        (host-keeps-beside plant scans run at s all is)

    own-host-token : HasToken s.worker.node (station_ring run s.network)
    own-host-token = subst (HasToken s.worker.node) (sym host-holds.ring_is) host-holds.token

    pub host-here : s.left ≡ false
    host-here = host-is-here plant scans run at s all is own-host-token

    pub host-held : (t : HostStation) (ring : KeptRing)
        → position (λ (x : ControllerStation). x.node == (ring_of r.ring).holder)
        run.controllers.items ≡ None
        → position (λ (x : HostStation). x.node == (ring_of r.ring).holder) run.hosts.items
        ≡ Some at
        → HeldHost s t r.ring ring → HeldOn network run (with-host run at t place (behind r ring))
    host-held t ring none found held =
        let new = with-host run at t place (behind r ring) in
        let home = sym host-holds.network_is in
        let budget = (host-at-place plant scans run at s all is).stands.budget in
        let turned : Turned s.network run.rings.items new.rings.items =
        turned-by plant run.rings.items place r ring s.network spot home in
        let held' : HeldHost s t (station_ring run s.network) (station_ring new s.network) =
        as-turned (HeldHost s t) plant run.rings.items place r ring s.network spot home held in
        let less : turns_left new < turns_left run =
        host-hold-lessens plant scans run new at s t all is refl refl refl turned own-host-token
        held' in
        record {
          did = host-hold-did run new at s t is refl refl refl turned budget held' place r network
              at-ring on none found;
          scans = scans-same run new refl;
          no_more = omega (arith, less);
          less = λ there. less;
          off = host-hold-off plant scans run new at s t all is refl refl turned held' refl;
          others = others-stay new ring refl;
        }

  -- ---- a bridge

  module _ (at : ℕ) (s : BridgeSite) (is : slice_get run.bridges.items at ≡ Some s)
      (named : is_end_of (ring_of r.ring).holder s.plan ≡ true) where
    abbrev holder : ℕ
    holder = (ring_of r.ring).holder

    -- how the end of the holder stands on this ring
    pub record EndHere : Type 0 where
      pub side : IsEndOn s.plan holder network
      pub stands : StandsEnd holder s.station r.ring.net r.ring.history
      pub token : HasToken holder r.ring

    end-here : EndHere
    end-here =
        let p = site-at-place plant scans run at s all is in
        let as-plan = sym p.stands.plan_is in
        ⊎_elim
        (λ (left : (holder ≡ p.plan.left) × HoldsAtPlace run p.plan.left_net p.plan.left r).
        let h = left.1 in
        record {
          side = inl (
            left.0 ∙ ap (λ (q : BridgePlan). q.left) as-plan,
            ap (λ (q : BridgePlan). q.left_net) p.stands.plan_is ∙ (h.network_is ∙ on),
          );
          stands = subst (λ (n : ℕ). StandsEnd n s.station r.ring.net r.ring.history) (sym left.0)
              (subst (λ (k : KeptRing). StandsEnd p.plan.left s.station k.net k.history) h.ring_is
              (subst (λ (net : NetPlan). StandsEnd p.plan.left s.station net
              (station_ring run p.plan.left_net).history) (sym p.left.net_is) p.stands.left));
          token = subst (λ (n : ℕ). HasToken n r.ring) (sym left.0) h.token;
        })
        (λ (right : (holder ≡ p.plan.right) × HoldsAtPlace run p.plan.right_net p.plan.right r).
        let h = right.1 in
        record {
          side = inr (
            right.0 ∙ ap (λ (q : BridgePlan). q.right) as-plan,
            ap (λ (q : BridgePlan). q.right_net) p.stands.plan_is ∙ (h.network_is ∙ on),
          );
          stands = subst (λ (n : ℕ). StandsEnd n s.station r.ring.net r.ring.history)
              (sym right.0)
              (subst (λ (k : KeptRing). StandsEnd p.plan.right s.station k.net k.history)
              h.ring_is
              (subst (λ (net : NetPlan). StandsEnd p.plan.right s.station net
              (station_ring run p.plan.right_net).history) (sym p.right.net_is) p.stands.right));
          token = subst (λ (n : ℕ). HasToken n r.ring) (sym right.0) h.token;
        })
        (end-has-token law plant scans run at s all is place r at-ring named).side

    pub end-stands : StandsEnd holder s.station r.ring.net r.ring.history
    end-stands = end-here.stands

    pub end-token : HasToken holder r.ring
    end-token = end-here.token

    pub end-there : end_has_left holder s.station ≡ false
    end-there = holding-there holder s.station r.ring.net r.ring.history end-here.stands
        end-here.token

    pub end-held : (station : BridgeStationIs) (ring : KeptRing)
        → position (λ (x : ControllerStation). x.node == holder) run.controllers.items ≡ None
        → position (λ (x : HostStation). x.node == holder) run.hosts.items ≡ None
        → position (λ (x : BridgeSite). is_end_of holder x.plan) run.bridges.items ≡ Some at
        → HeldByEnd holder s.station station r.ring ring
        → MovedByEnd holder s.station station r.ring ring
        → HeldOn network run (with-site run at (record { plan = s.plan; station = station }) place
        (behind r ring))
    end-held station ring none no-host found held moved =
        let t : BridgeSite = record { plan = s.plan; station = station } in
        let new = with-site run at t place (behind r ring) in
        let turned : Turned network run.rings.items new.rings.items =
        turned-by plant run.rings.items place r ring network spot on in
        let held' = as-turned (HeldByEnd holder s.station station) plant run.rings.items place r
        ring network spot on held in
        let moved' = as-turned (MovedByEnd holder s.station station) plant run.rings.items place r
        ring network spot on moved in
        let side = end-here.side in
        let ring_is : station_ring run network ≡ r.ring =
        ap (λ (k : ℕ). station_ring run k) (sym on) ∙ ap ring_if spot.found in
        let token : HasToken holder (station_ring run network) =
        subst (HasToken holder) (sym ring_is) end-here.token in
        let less : turns_left new < turns_left run =
        end-hold-lessens run new at s t is refl refl refl refl network holder side turned held'
        moved' plant scans all token in
        record {
          did = end-hold-did run new at s t is refl refl refl refl network holder side turned
              held' moved' place r at-ring on ring_is refl none no-host found;
          scans = scans-same run new refl;
          no_more = omega (arith, less);
          less = λ there. less;
          off = end-hold-off run new holder refl
              (end-grew run new at s t is refl refl refl refl network holder side turned held'
              moved') none;
          others = others-stay new ring refl;
        }

  -- ---- nobody

  pub nobody-held : position (λ (x : ControllerStation). x.node == (ring_of r.ring).holder)
      run.controllers.items ≡ None
      → position (λ (x : HostStation). x.node == (ring_of r.ring).holder) run.hosts.items ≡ None
      → position (λ (x : BridgeSite). is_end_of (ring_of r.ring).holder x.plan) run.bridges.items
      ≡ None
      → HeldOn network run run
  nobody-held none no-host no-bridge = record {
    did = no-hold-did run place r network at-ring on none no-host no-bridge;
    scans = scans-same run run refl;
    no_more = omega arith;
    less = λ there. absurd (holder-found law plant scans run all place r network at-ring on none
        no-host no-bridge there);
    off = stays-same IsOffAway run.rings.items run.controllers.items;
    others = λ other apart. refl;
  }

-- the members of the ring at a place are those of the network
pub members-at : (plant : Plant) (scans : ℕ) (run : Stations) → StandAll plant scans run
    → (network place : ℕ) (r : RingStation)
    → position (λ (x : RingStation). x.network == network) run.rings.items ≡ Some place
    → r ≡ get_or run.rings.items place r → members_of_ring r ≡ members_in run network
members-at plant scans run all network place r placed value =
    let read = found-ring run network place r placed value in
    let at = ring-place plant run.rings.items all.sound all.rings place r read.0 in
    sym (ap members_if (ap (λ (k : ℕ). station_on run.rings.items k)
    (sym (eqb-true r.network network read.1)) ∙ at.found))

pub members-nowhere : (run : Stations) (network : ℕ)
    → position (λ (x : RingStation). x.network == network) run.rings.items ≡ None
    → 0 ≡ members_in run network
members-nowhere run network none =
    sym (ap members_if (find-none (λ (x : RingStation). x.network == network) run.rings.items
    (λ k y at-y.
    position-none (λ (x : RingStation). x.network == network) run.rings.items k y none at-y)))

-- the ring of a controller's network is there
pub ring-missing : (plant : Plant) (scans : ℕ) (run : Stations) → StandAll plant scans run
    → (at : ℕ) (s : ControllerStation) → slice_get run.controllers.items at ≡ Some s
    → position (λ (x : RingStation). x.network == s.network) run.rings.items ≡ None → ⊥
ring-missing plant scans run all at s is none =
    let p = at-place plant scans run at s all is in
    let of = ring-of plant run.rings.items all.sound all.rings p.ring.on.net p.ring.on.there in
    let no' = position-none (λ (x : RingStation). x.network == s.network) run.rings.items of.place
    of.station none of.at.is in
    true≢false (sym (eq-eqb of.station.network s.network (of.stands.network ∙ p.ring.on.number))
    ∙ no')

-- ---- a turn of a controller on the ring of its own network

module _ (plant : Plant) (scans : ℕ) (run : Stations) (all : StandAll plant scans run) (at : ℕ)
    (s : ControllerStation) (is : slice_get run.controllers.items at ≡ Some s) (place : ℕ)
    (r : RingStation) (at-ring : slice_get run.rings.items place ≡ Some r)
    (named : (r.network == s.network) ≡ true) where
  home-spot : RingPlace plant run.rings.items place r
  home-spot = ring-place plant run.rings.items all.sound all.rings place r at-ring

  home-is : r.network ≡ s.network
  home-is = eqb-true r.network s.network named

  home-ring : station_ring run s.network ≡ r.ring
  home-ring = ap (λ (k : ℕ). station_ring run k) (sym home-is) ∙ ap ring_if home-spot.found

  pub home-stands : StandsBeside s r.ring
  home-stands = subst (StandsBeside s) home-ring (stands-beside plant scans run at s all is)

  pub home-left : KnowsLeft s r.ring
  home-left = subst (KnowsLeft s) home-ring (knows-left plant scans run at s all is)

  pub home-keeps : KeepsBeside s r.ring
  home-keeps = subst (KeepsBeside s) home-ring (keeps-beside plant scans run at s all is)

  pub home-node : s.node ≡ s.worker.node
  home-node =
      let p = at-place plant scans run at s all is in
      p.stands.node ∙ sym p.stands.worker_node

  module _ (t : ControllerStation) (ring : KeptRing) where
    abbrev behind-turn : Stations
    behind-turn = with-controller run at t place (behind r ring)

    home-turned : Turned s.network run.rings.items behind-turn.rings.items
    home-turned = turned-by plant run.rings.items place r ring s.network home-spot home-is

    pub visited-all : VisitedController s t r.ring ring → (node : ℕ)
        → position (λ (x : ControllerStation). x.node == node) run.controllers.items ≡ Some at
        → (s.node == node) ≡ true → VisitedAll node run behind-turn
    visited-all visited node found called =
        let new = behind-turn in
        let made = as-turned (VisitedController s t) plant run.rings.items place r ring s.network
        home-spot home-is visited in
        record {
          visited = visit-did run new at s t is refl refl refl home-turned made node found;
          scans = visit-scans run new at s t (station_ring run s.network)
              (station_ring new s.network) is
              refl made;
          off = visit-off plant scans run new at s t all is refl refl refl home-turned made;
          gain = visit-gains plant scans run new at s t all is refl refl refl home-turned made node
              called;
          here = visit-here run new at s t is refl refl refl made.left;
        }

    pub came-all : CameBack s t r.ring ring → (node : ℕ)
        → position (λ (x : ControllerStation). x.node == node) run.controllers.items ≡ Some at
        → (s.node == node) ≡ true → CameAll node run behind-turn
    came-all came node found called =
        let new = behind-turn in
        let made = as-turned (CameBack s t) plant run.rings.items place r ring s.network home-spot
        home-is came in
        record {
          did = came-did run new at s t is refl refl refl home-turned made node found;
          scans = came-scans run new at s t (station_ring run s.network)
              (station_ring new s.network) is refl
              made;
          gain = came-gains plant scans run new node at s t all is called refl refl refl home-turned
              made;
        }

-- a network that is not there has no member that holds its token
pub no-network-held : (run : Stations) (network : ℕ)
    → position (λ (x : RingStation). x.network == network) run.rings.items ≡ None
    → HeldOn network run run
no-network-held run network none = record {
  did = no-hold-on-did run network none;
  scans = scans-same run run refl;
  no_more = omega arith;
  less = λ held. absurd (not-held held);
  off = stays-same IsOffAway run.rings.items run.controllers.items;
  others = λ other apart. refl;
} where
  not-held : IsHeld run network → ⊥
  not-held held =
      let none-is : station_on run.rings.items network ≡ None =
      find-none (λ (x : RingStation). x.network == network) run.rings.items (λ k y at-y.
      position-none (λ (x : RingStation). x.network == network) run.rings.items k y none at-y) in
      let here : is_held (ring_of no_ring) ≡ true =
      sym (ap (λ (o : Option RingStation). is_held (ring_of (ring_if o))) none-is) ∙ held in
      let member = there-member no_net [] (ring_of no_ring).holder tt here in
      absurd (let low = member.1 in omega (arith, low))

-- ---- the cases of a hold on the ring at a place

module _ (law : SomebodyHolds) (plant : Plant) (scans : ℕ) (run : Stations)
    (all : StandAll plant scans run) (network place n : ℕ) (i r : RingStation)
    (placed : position (λ (x : RingStation). x.network == network) run.rings.items ≡ Some place)
    (i-value : i ≡ get_or run.rings.items place i) (r-value : r ≡ get_or run.rings.items place r)
    (holder : n ≡ (ring_of i.ring).holder) where
  read : (slice_get run.rings.items place ≡ Some r) × ((r.network == network) ≡ true)
  read = found-ring run network place r placed r-value

  on-network : r.network ≡ network
  on-network = eqb-true r.network network read.1

  holder-is : n ≡ (ring_of r.ring).holder
  holder-is =
      let both : Some i ≡ Some r = sym (found-ring run network place i placed i-value).0 ∙ read.0 in
      let same : i ≡ r = cc in
      holder ∙ ap (λ (x : RingStation). (ring_of x.ring).holder) same

  pub record ControllerTurn (at : ℕ) (s : ControllerStation) : Type 0 where
    pub stands : StandsBeside s r.ring
    pub token : HasToken s.worker.node r.ring
    pub no_bridge : IsNoBridge r.ring.net s.worker.node
    pub keeps : KeepsBeside s r.ring
    pub here : s.left ≡ false
    pub held : (t : ControllerStation) (ring : KeptRing) → HeldController s t r.ring ring
        → HeldOn network run (with-controller run at t place (behind r ring))

  pub controller-turn : (at : ℕ) (s : ControllerStation)
      → position (λ (x : ControllerStation). x.node == n) run.controllers.items ≡ Some at
      → s ≡ get_or run.controllers.items at s → ControllerTurn at s
  controller-turn at s found value =
      let found' = subst (λ (m : ℕ). position (λ (x : ControllerStation). x.node == m)
      run.controllers.items ≡ Some at) holder-is found in
      let it = found-station run (ring_of r.ring).holder at s found' value in
      record {
        stands = controller-stands law plant scans run all place r network read.0 on-network at s
            it.0 it.1;
        token = controller-token law plant scans run all place r network read.0 on-network at s
            it.0 it.1;
        no_bridge = controller-is-no-end law plant scans run all place r network read.0
            on-network at s it.0 it.1;
        keeps = controller-keeps law plant scans run all place r network read.0 on-network at s
            it.0 it.1;
        here = controller-here law plant scans run all place r network read.0 on-network at s
            it.0 it.1;
        held = λ t ring. controller-held law plant scans run all place r network read.0 on-network
            at s it.0 it.1 t ring found';
      }

  pub record HostTurn (at : ℕ) (s : HostStation) : Type 0 where
    pub stands : HostStandsBeside s r.ring
    pub token : HasToken s.worker.node r.ring
    pub no_bridge : IsNoBridge r.ring.net s.worker.node
    pub keeps : HostKeepsBeside s r.ring
    pub here : s.left ≡ false
    pub held : (t : HostStation) (ring : KeptRing) → HeldHost s t r.ring ring
        → HeldOn network run (with-host run at t place (behind r ring))

  none-is : position (λ (x : ControllerStation). x.node == n) run.controllers.items ≡ None
      → position (λ (x : ControllerStation). x.node == (ring_of r.ring).holder)
      run.controllers.items ≡ None
  none-is none = subst (λ (m : ℕ). position (λ (x : ControllerStation). x.node == m)
      run.controllers.items ≡ None) holder-is none

  no-host-is : position (λ (x : HostStation). x.node == n) run.hosts.items ≡ None
      → position (λ (x : HostStation). x.node == (ring_of r.ring).holder) run.hosts.items ≡ None
  no-host-is none = subst (λ (m : ℕ). position (λ (x : HostStation). x.node == m) run.hosts.items
      ≡ None) holder-is none

  pub host-turn-here : (at : ℕ) (s : HostStation)
      → position (λ (x : ControllerStation). x.node == n) run.controllers.items ≡ None
      → position (λ (x : HostStation). x.node == n) run.hosts.items ≡ Some at
      → s ≡ get_or run.hosts.items at s → HostTurn at s
  host-turn-here at s none found value =
      let found' = subst (λ (m : ℕ). position (λ (x : HostStation). x.node == m)
      run.hosts.items ≡ Some at) holder-is found in
      let it = found-host run (ring_of r.ring).holder at s found' value in
      record {
        stands = host-stands law plant scans run all place r network read.0 on-network at s
            it.0 it.1;
        token = host-token law plant scans run all place r network read.0 on-network at s
            it.0 it.1;
        no_bridge = host-is-no-end law plant scans run all place r network read.0 on-network at
            s it.0 it.1;
        keeps = host-keeps law plant scans run all place r network read.0 on-network at s
            it.0 it.1;
        here = host-here law plant scans run all place r network read.0 on-network at s
            it.0 it.1;
        held = λ t ring. host-held law plant scans run all place r network read.0 on-network
            at s it.0 it.1 t ring (none-is none) found';
      }

  pub record EndTurn (at : ℕ) (s : BridgeSite) : Type 0 where
    pub stands : StandsEnd n s.station r.ring.net r.ring.history
    pub token : HasToken n r.ring
    pub here : end_has_left n s.station ≡ false
    pub held : (station : BridgeStationIs) (ring : KeptRing)
        → HeldByEnd n s.station station r.ring ring → MovedByEnd n s.station station r.ring ring
        → HeldOn network run (with-site run at (record { plan = s.plan; station = station }) place
        (behind r ring))

  pub end-turn-here : (at : ℕ) (s : BridgeSite)
      → position (λ (x : ControllerStation). x.node == n) run.controllers.items ≡ None
      → position (λ (x : HostStation). x.node == n) run.hosts.items ≡ None
      → position (λ (x : BridgeSite). is_end_of n x.plan) run.bridges.items ≡ Some at
      → s ≡ get_or run.bridges.items at s → EndTurn at s
  end-turn-here at s none no-host found value =
      let m = (ring_of r.ring).holder in
      let found' = subst (λ (k : ℕ). position (λ (x : BridgeSite). is_end_of k x.plan)
      run.bridges.items ≡ Some at) holder-is found in
      let it = found-site run m at s found' value in
      let back = sym holder-is in
      record {
        stands = subst (λ (k : ℕ). StandsEnd k s.station r.ring.net r.ring.history) back
            (end-stands law plant scans run all place r network read.0 on-network at s it.0 it.1);
        token = subst (λ (k : ℕ). HasToken k r.ring) back
            (end-token law plant scans run all place r network read.0 on-network at s it.0 it.1);
        here = subst (λ (k : ℕ). end_has_left k s.station ≡ false) back
            (end-there law plant scans run all place r network read.0 on-network at s it.0 it.1);
        held = λ station ring made moved. end-held law plant scans run all place r network read.0
            on-network at s it.0 it.1 station ring (none-is none) (no-host-is no-host) found'
            (subst (λ (k : ℕ). HeldByEnd k s.station station r.ring ring) holder-is made)
            (subst (λ (k : ℕ). MovedByEnd k s.station station r.ring ring) holder-is moved);
      }

  pub nobody-here : position (λ (x : ControllerStation). x.node == n) run.controllers.items ≡ None
      → position (λ (x : HostStation). x.node == n) run.hosts.items ≡ None
      → position (λ (x : BridgeSite). is_end_of n x.plan) run.bridges.items ≡ None
      → HeldOn network run run
  nobody-here none no-host no-bridge =
      nobody-held law plant scans run all place r network read.0 on-network (none-is none)
      (no-host-is no-host)
      (subst (λ (k : ℕ). position (λ (x : BridgeSite). is_end_of k x.plan) run.bridges.items
      ≡ None) holder-is no-bridge)

-- What a hold turn makes of all stations.
use Rattle.std.proofs.Common.{◌≡◌, ◌≢◌, ℕ, ◌<◌, ◌≤◌, ◌==◌, Bool, true, List, set, Option, Some}
use Rattle.std.proofs.Common.{None, All, refl, sym, ap, subst, ◌∙◌, arith, ⊎_elim, ◌⊎◌, inl, inr}
use Rattle.std.specs.List.{AllZip, position, slice_get}
use Rattle.std.proofs.lemmas.Bool.{eq-eqb, eqb-true, ne_eqb, or_cases}
use Rattle.std.proofs.lemmas.List.Elements.{All-contains}
use Rattle.plant_types.specs.declared.net.BridgePlan.{BridgePlan}
use Rattle.plant_types.specs.declared.net.NetPlan.{NetPlan}
use Rattle.plant_types.specs.declared.net.HostPlan.{HostPlan}
use Rattle.plant_types.specs.declared.plan.Plant.{Plant}
use Rattle.plant_types.specs.Plans.{IsBridgeOf, IsNode, IsPlant, net_of}
use Rattle.ring_core.specs.declared.entry.RingEntry.{RingEntry}
use Rattle.ring_core.specs.declared.status.NodeStatus.TheVariants.{In}
use Rattle.ring_core.specs.Machine.{addresses, is_in, ring_after}
use Rattle.ring_core.specs.Legal.{IsLegalRing, IsMember}
use Rattle.ring_core.specs.Kept.{KeptRing, ring_of}
use Rattle.controller_core.specs.declared.fixed.Fixed.{Fixed}
use Rattle.controller_core.specs.Controller.{made}
use Rattle.joint_history.specs.declared.joint.Joint.{Joint}
use Rattle.joint_history.specs.JointLaws.{fixed_of}
use Rattle.joint_history.specs.Nets.{noted_on}
use Rattle.bridge_station.specs.BridgePort.{HoldsEndTurn}
use Rattle.bridge_station.specs.Station.{end_station}
use Rattle.bridge_station.specs.Stands.{HeldByEnd, MovedByEnd, StandsEnd}
use Rattle.net_laws.proofs.On.{net-sound}
use Rattle.comm_port.specs.Worker.{Standing, WorkerIs}
use Rattle.comm_port.specs.HostTurns.{HoldsHostTurn, HostTies}
use Rattle.comm_port.specs.WholeTurn.{HoldsTurn}
use Rattle.comm_port.specs.HostStands.{own_side}
use Rattle.tied_lists.specs.Own.{is_of}
use Rattle.tied_lists.specs.Waits.{Holds, has_left, status_at}
use Rattle.serial_run.specs.declared.order.Turn.TheVariants.{Hold}
use Rattle.serial_run.specs.declared.stations.BridgeSite.{BridgeSite}
use Rattle.serial_run.specs.declared.stations.ControllerStation.{ControllerStation}
use Rattle.serial_run.specs.declared.stations.HostStation.{HostStation}
use Rattle.serial_run.specs.declared.stations.RingStation.{RingStation}
use Rattle.serial_run.specs.declared.stations.Stations.{Stations}
use Rattle.serial_run.specs.Turns.{holder_on, is_end_of, net_numbered, node_has_left}
use Rattle.serial_run.specs.Turns.{place_of_bridge, place_of_controller, place_of_host, MakesTurn}
use Rattle.serial_run.specs.Turns.{MakesHold, MakesHoldOn, EndHoldsAt, with_bridge_list}
use Rattle.serial_run.specs.Turns.{with_noted_on}
use Rattle.serial_run.specs.Stations.{StandsController, StandAll, StandsHost, StandsRing, Did}
use Rattle.serial_run.specs.Stations.{host_log_of, joint_of, log_of, log_of_site, plain_ram_side}
use Rattle.serial_run.specs.Stations.{ring_if, station_ring}
use Rattle.serial_run.specs.Held.{StaysStation, HeldController, StandsBeside, HasToken}
use Rattle.serial_run.specs.Held.{HostStandsBeside, HeldHost}
use Rattle.bridge_station.specs.TurnLaws.{HostKeepsOn, KeepsOn, SomebodyHolds}
use Rattle.bridge_station.proofs.TurnLaws.{there-member}
use Rattle.serial_run.proofs.Grown.{Further, further-grew}
use Rattle.serial_run.proofs.HeldTurns.{turn-ring, host-turn-ring}
use Rattle.serial_run.proofs.Lists.{find-none, found-at, position-none, zip-at-first}
use Rattle.serial_run.proofs.Networks.{GrewBy, NodeOn, Turned, contains-at, low-members, node-on}
use Rattle.serial_run.proofs.Networks.{noted-is, ring-place, same-net, same-network, turned-grew}
use Rattle.serial_run.proofs.Networks.{turned-stands}
use Rattle.serial_run.proofs.Standings.{end-stands-others}
use Rattle.serial_run.proofs.TurnsMade.{at-place, bridge-place-is, host-place-is, place-is, is-at}
use Rattle.serial_run.proofs.TurnsMade.{joint-is, stand-with, host-at-place, host-stand-with}
use Rattle.serial_run.proofs.TurnsMade.{host-is-at, host-joint-is, IsEndAt, SiteAtPlace, left-apart}
use Rattle.serial_run.proofs.TurnsMade.{right-apart, site-at-place, site-is-at, site-joint-is}
use Rattle.serial_run.proofs.TurnsMade.{site-stand-with}

-- ---- before a turn: the station stands beside its ring, and its node holds the token

pub stands-beside : (plant : Plant) (scans : ℕ) (run : Stations) (at : ℕ) (s : ControllerStation)
    → StandAll plant scans run
    → slice_get run.controllers.items at ≡ Some s → StandsBeside s (station_ring run s.network)
stands-beside plant scans run at s all is =
    let p = at-place plant scans run at s all is in
    subst (λ (net : NetPlan). Standing s.worker (plain_ram_side s.controller) s.controller.history
    (own_side net) (station_ring run s.network).history) (sym p.ring.net_is) p.stands.standing

pub host-stands-beside : (plant : Plant) (scans : ℕ) (run : Stations) (at : ℕ) (s : HostStation)
    → StandAll plant scans run
    → slice_get run.hosts.items at ≡ Some s → HostStandsBeside s (station_ring run s.network)
host-stands-beside plant scans run at s all is =
    let p = host-at-place plant scans run at s all is in
    record {
      ties = subst (λ (net : NetPlan). HostTies s.worker.node s.host (own_side net)
          (station_ring run s.network).history) (sym p.ring.net_is)
          (subst (λ (n : ℕ). HostTies n s.host (own_side (net_of plant p.plan.node))
          (station_ring run s.network).history) (sym p.stands.worker_node) p.stands.ties);
      counts = p.stands.counts;
    }

-- whoever holds the token and has an address is in
token-by : SomebodyHolds → (net : NetPlan) (history : List RingEntry) (n : ℕ)
    → All (λ m. m < addresses) net.members → IsLegalRing net history → 1 ≤ n
    → (ring_after net history).holder ≡ n → Holds net history n
token-by law net history n low legal from holder = ⊎_elim
    (λ (there : status_at net history (ring_after net history).holder ≡ In).
    record {
      holder = holder;
      here = ap (λ (k : ℕ). is_in (status_at net history k)) (sym holder) ∙ ap is_in there;
    })
    (λ (none : ((ring_after net history).holder ≡ 0)
    × ((k : ℕ) → has_left (status_at net history k) ≡ true)).
    absurd (let z = none.0 in omega (arith, z, holder, from)))
    (law net history low legal)

-- a node of a network holds the token of the ring at a place, which is that network's
pub record HoldsAtPlace (run : Stations) (network n : ℕ) (station : RingStation) : Type 0 where
  pub network_is : network ≡ station.network
  pub ring_is : station_ring run network ≡ station.ring
  pub token : HasToken n station.ring

pub holds-at-place : SomebodyHolds → (plant : Plant) (scans : ℕ) (run : Stations)
    → StandAll plant scans run → (place : ℕ) (station : RingStation)
    → slice_get run.rings.items place ≡ Some station → (network n : ℕ)
    → NodeOn plant run.rings.items network n → (ring_of station.ring).holder ≡ n
    → HoldsAtPlace run network n station
holds-at-place law plant scans run all place station at-ring network n on holder =
    let at = ring-place plant run.rings.items all.sound all.rings place station at-ring in
    let there = contains-at plant.nets place at.net at.net_is in
    let sound = (net-sound plant at.net all.sound there).plan in
    let net = at.stands.net_is in
    let legal : IsLegalRing station.ring.net station.ring.history =
    subst (λ (p : NetPlan). IsLegalRing p station.ring.history) (sym net) at.stands.legal in
    let node = All-contains IsNode (net_of plant n).members n on.sound.members.each on.member in
    let from = node.from in
    let token = token-by law station.ring.net station.ring.history n
    (subst (λ (p : NetPlan). All (λ m. m < addresses) p.members) (sym net)
    (low-members at.net sound)) legal from holder in
    let member = subst (λ (p : NetPlan). IsMember p n) net
    (there-member station.ring.net station.ring.history n legal token.here) in
    let same : network ≡ station.network =
    same-network plant network n at.net all.sound on.on there member ∙ sym at.stands.network in
    record {
      network_is = same;
      ring_is = ap (λ (k : ℕ). station_ring run k) same ∙ ap ring_if at.found;
      token = token;
    }

pub has-token : SomebodyHolds → (plant : Plant) (scans : ℕ) (run : Stations) (at : ℕ)
    (s : ControllerStation) → StandAll plant scans run
    → slice_get run.controllers.items at ≡ Some s → (place : ℕ) (station : RingStation)
    → slice_get run.rings.items place ≡ Some station
    → (s.node == (ring_of station.ring).holder) ≡ true
    → HoldsAtPlace run s.network s.worker.node station
has-token law plant scans run at s all is place station at-ring holds =
    let p = at-place plant scans run at s all is in
    subst (λ (n : ℕ). HoldsAtPlace run s.network n station) (sym p.stands.worker_node)
    (holds-at-place law plant scans run all place station at-ring s.network p.plan.node p.ring
    (sym (eqb-true s.node (ring_of station.ring).holder holds) ∙ p.stands.node))

pub host-has-token : SomebodyHolds → (plant : Plant) (scans : ℕ) (run : Stations) (at : ℕ)
    (s : HostStation) → StandAll plant scans run
    → slice_get run.hosts.items at ≡ Some s → (place : ℕ) (station : RingStation)
    → slice_get run.rings.items place ≡ Some station
    → (s.node == (ring_of station.ring).holder) ≡ true
    → HoldsAtPlace run s.network s.worker.node station
host-has-token law plant scans run at s all is place station at-ring holds =
    let p = host-at-place plant scans run at s all is in
    subst (λ (n : ℕ). HoldsAtPlace run s.network n station) (sym p.stands.worker_node)
    (holds-at-place law plant scans run all place station at-ring s.network p.plan.node p.ring
    (sym (eqb-true s.node (ring_of station.ring).holder holds) ∙ p.stands.node))

-- the end of a bridge that holds the token of the ring at a place
pub record EndHolds (run : Stations) (plan : BridgePlan) (n : ℕ) (station : RingStation)
    : Type 0 where
  pub side : ((n ≡ plan.left) × HoldsAtPlace run plan.left_net plan.left station)
      ⊎ ((n ≡ plan.right) × HoldsAtPlace run plan.right_net plan.right station)

pub end-has-token : SomebodyHolds → (plant : Plant) (scans : ℕ) (run : Stations) (at : ℕ)
    (s : BridgeSite) (all : StandAll plant scans run)
    (is : slice_get run.bridges.items at ≡ Some s) (place : ℕ) (station : RingStation)
    → slice_get run.rings.items place ≡ Some station
    → is_end_of (ring_of station.ring).holder s.plan ≡ true
    → EndHolds run (site-at-place plant scans run at s all is).plan (ring_of station.ring).holder
    station
end-has-token law plant scans run at s all is place station at-ring holds =
    let p = site-at-place plant scans run at s all is in
    let n = (ring_of station.ring).holder in
    let ends : is_end_of n p.plan ≡ true = ap (is_end_of n) (sym p.stands.plan_is) ∙ holds in
    record {
      side = ⊎_elim
          (λ (left : (p.plan.left == n) ≡ true).
          let same = sym (eqb-true p.plan.left n left) in
          inl (
            same,
            holds-at-place law plant scans run all place station at-ring p.plan.left_net
                p.plan.left p.left same,
          ))
          (λ (right : (p.plan.right == n) ≡ true).
          let same = sym (eqb-true p.plan.right n right) in
          inr (
            same,
            holds-at-place law plant scans run all place station at-ring
                p.plan.right_net p.plan.right p.right same,
          ))
          (or_cases (p.plan.left == n) (p.plan.right == n) ends);
    }

-- ---- a hold turn

numbered : (plant : Plant) → IsPlant plant → (place : ℕ) (net : NetPlan)
    → slice_get plant.nets place ≡ Some net → net_numbered plant net.number ≡ Some net
numbered plant sound place net at-net =
    found-at (λ (n : NetPlan). n.number == net.number) plant.nets place net at-net
    (eq-eqb net.number net.number refl)
    (λ k y apart at-y. ne_eqb y.number net.number
    (λ same. apart (same-net plant sound k place y net at-y at-net same)))

-- a hold turn on the ring at a place
held-on : (plant : Plant) (scans : ℕ) (run : Stations) (all : StandAll plant scans run)
    (place : ℕ) (station : RingStation) (network : ℕ)
    (is : slice_get run.rings.items place ≡ Some station) → station.network ≡ network
    → (new : Joint)
    → (let net = (ring-place plant run.rings.items all.sound all.rings place station is).net in
    let n = (ring_of station.ring).holder in
    n ≡ holder_on net (joint_of run) → net.number ≡ network → station.ring.net ≡ net
    → MakesHold plant scans net (place_of_controller plant n) (place_of_host plant n)
    (place_of_bridge plant n) (joint_of run) new)
    → MakesTurn plant scans (Hold network) (joint_of run) new
held-on plant scans run all place station network is on new made =
    let at = ring-place plant run.rings.items all.sound all.rings place station is in
    let same : at.net.number ≡ network = sym at.stands.network ∙ on in
    let noted : noted_on at.net.number (joint_of run) ≡ station.ring.history =
    noted-is run.rings.items at.net.number
    ∙ (ap (λ (k : ℕ). (station_ring run k).history) (sym at.stands.network)
    ∙ ap (λ (r : KeptRing). r.history) (ap ring_if at.found)) in
    let holder : (ring_of station.ring).holder ≡ holder_on at.net (joint_of run) =
    λ i. (ring_after (at.stands.net_is i) (sym noted i)).holder in
    subst (λ (k : ℕ). MakesTurn plant scans (Hold k) (joint_of run) new) same
    (subst (λ (o : Option NetPlan). MakesHoldOn plant scans o (joint_of run) new)
    (sym (numbered plant all.sound place at.net at.net_is))
    (subst (λ (n : ℕ). MakesHold plant scans at.net (place_of_controller plant n)
    (place_of_host plant n) (place_of_bridge plant n) (joint_of run) new) holder
    (made holder same at.stands.net_is)))

-- what a node's ring noted so far, as the joint history has it
pub noted-mine : (run : Stations) (network home : ℕ) → network ≡ home
    → noted_on home (joint_of run) ≡ (station_ring run network).history
noted-mine run network home same =
    noted-is run.rings.items home ∙ ap (λ (k : ℕ). (station_ring run k).history) (sym same)

module _ (old new : Stations) (at : ℕ) (s t : ControllerStation)
    (is : slice_get old.controllers.items at ≡ Some s)
    (items : new.controllers.items ≡ set old.controllers.items at t)
    (hosts : new.hosts.items ≡ old.hosts.items)
    (bridges : new.bridges.items ≡ old.bridges.items)
    (turned : Turned s.network old.rings.items new.rings.items)
    (stays : StaysStation s t (station_ring old s.network) (station_ring new s.network))
    (further : Further (is_of s.worker.node) (station_ring old s.network).history
    (station_ring new s.network).history)
    (left : (plant : Plant) (scans : ℕ) → StandAll plant scans old
    → t.left ≡ node_has_left (station_ring old s.network).net (station_ring new s.network).history
    s.worker.node)
    (keeps : KeepsOn s.controller.fixed (station_ring old s.network).net s.worker.node
    t.controller.history (station_ring new s.network).history t.left) where
  abbrev new_list : List RingEntry
  new_list = (station_ring new s.network).history

  pub own-stands : (plant : Plant) (scans : ℕ) → StandAll plant scans old
      → StandAll plant scans new
  own-stands plant scans all =
      let p = at-place plant scans old at s all is in
      let home = net_of plant p.plan.node in
      let net : (station_ring new s.network).net ≡ home = stays.net ∙ p.ring.net_is in
      let worker : s.worker.node ≡ p.plan.node = p.stands.worker_node in
      let it : StandsController plant scans new_list p.plan t = record {
        node = stays.node ∙ p.stands.node;
        network = stays.network ∙ p.stands.network;
        worker_node = ap (λ (w : WorkerIs). w.node) stays.worker ∙ worker;
        budget = ap (λ (w : WorkerIs). w.budget) stays.worker ∙ p.stands.budget;
        fixed = stays.fixed ∙ p.stands.fixed;
        legal = stays.legal;
        standing = subst (λ (net : NetPlan). Standing t.worker (plain_ram_side t.controller)
            t.controller.history (own_side net) new_list)
            net stays.stands;
        left = left plant scans all
            ∙ (λ i. node_has_left (p.ring.net_is i) new_list (worker i));
        keeps = subst (λ (f : Fixed). KeepsOn f home p.plan.node t.controller.history
            new_list t.left) p.stands.fixed
            (subst (λ (net : NetPlan). KeepsOn s.controller.fixed net p.plan.node
            t.controller.history new_list t.left) p.ring.net_is
            (subst (λ (n : ℕ). KeepsOn s.controller.fixed (station_ring old s.network).net n
            t.controller.history new_list t.left) worker keeps));
      } in
      stand-with plant scans old new at s t all is items hosts bridges
      (turned-grew s.network old.rings.items new.rings.items turned p.plan.node
      (subst (λ (n : ℕ). Further (is_of n) (station_ring old s.network).history new_list) worker
      further) stays.net)
      (turned-stands s.network old.rings.items new.rings.items turned plant.nets all.rings
      stays.net stays.ring_legal)
      (subst (λ (k : ℕ). StandsController plant scans (station_ring new k).history p.plan t)
      (sym stays.network) it)

module _ (old new : Stations) (at : ℕ) (s t : ControllerStation)
    (is : slice_get old.controllers.items at ≡ Some s)
    (items : new.controllers.items ≡ set old.controllers.items at t)
    (hosts : new.hosts.items ≡ old.hosts.items)
    (bridges : new.bridges.items ≡ old.bridges.items)
    (turned : Turned s.network old.rings.items new.rings.items)
    (budget : s.worker.budget ≡ true)
    (held : HeldController s t (station_ring old s.network) (station_ring new s.network)) where
  abbrev ring : KeptRing
  ring = station_ring old s.network

  abbrev new_ring : KeptRing
  new_ring = station_ring new s.network

  turn : HoldsTurn true true s.controller.fixed ring.net s.worker.node true s.controller.history
      t.controller.history ring.history new_ring.history held.end
  turn = subst (λ (b : Bool). HoldsTurn true true s.controller.fixed ring.net s.worker.node b
      s.controller.history t.controller.history
      ring.history new_ring.history held.end) budget held.turn

  turn-as : (plant : Plant) (scans : ℕ) (all : StandAll plant scans old)
      → (let p = at-place plant scans old at s all is in
      HoldsTurn true true (fixed_of plant scans p.plan) (net_of plant p.plan.node) p.plan.node true
      s.controller.history t.controller.history (noted_on p.plan.network (joint_of old))
      new_ring.history held.end)
  turn-as plant scans all =
      let p = at-place plant scans old at s all is in
      let known = s.controller.history in
      let behind' = t.controller.history in
      subst (λ (l : List RingEntry). HoldsTurn true true (fixed_of plant scans p.plan)
      (net_of plant p.plan.node) p.plan.node true known behind' l new_ring.history held.end)
      (sym (noted-mine old s.network p.plan.network p.stands.network))
      (subst (λ (f : Fixed). HoldsTurn true true f (net_of plant p.plan.node) p.plan.node
      true known behind' ring.history new_ring.history held.end) p.stands.fixed
      (subst (λ (net : NetPlan). HoldsTurn true true s.controller.fixed net p.plan.node true
      known behind' ring.history new_ring.history held.end) p.ring.net_is
      (subst (λ (n : ℕ). HoldsTurn true true s.controller.fixed ring.net n true
      known behind' ring.history new_ring.history held.end) p.stands.worker_node turn)))

  pub hold-did : (place : ℕ) (station : RingStation) (network : ℕ)
      → slice_get old.rings.items place ≡ Some station → station.network ≡ network
      → position (λ (s : ControllerStation). s.node == (ring_of station.ring).holder)
      old.controllers.items ≡ Some at
      → Did (λ plant scans. MakesTurn plant scans (Hold network)) old new
  hold-did place station network at-ring on found = record {
    stand = own-stands old new at s t is items hosts bridges turned held.stays
        (turn-ring s.controller.fixed ring.net s.worker.node s.controller.history
        t.controller.history ring.history new_ring.history held.end turn)
        (λ plant scans all. held.left) held.keeps;
    made = λ plant scans all. held-on plant scans old all place station network at-ring on
        (joint_of new) (λ holder number net_is.
        let p = at-place plant scans old at s all is in
        let net = (ring-place plant old.rings.items all.sound all.rings place station at-ring).net
        in
        let n = (ring_of station.ring).holder in
        subst (λ (o : Option ℕ). MakesHold plant scans net o (place_of_host plant n)
        (place_of_bridge plant n) (joint_of old) (joint_of new))
        (sym found ∙ place-is plant scans old n all)
        (record {
          plan = p.plan;
          log = log_of s;
          is = is-at plant scans old new at s t all is items hosts bridges;
          entries = t.controller.history;
          ring = new_ring.history;
          end = held.end;
          turn = turn-as plant scans all;
          made = joint-is plant scans old new at s t all is items hosts bridges turned
              held.stays.node;
        }));
  }

-- ---- a host's hold turn

module _ (old new : Stations) (at : ℕ) (s t : HostStation)
    (is : slice_get old.hosts.items at ≡ Some s)
    (items : new.hosts.items ≡ set old.hosts.items at t)
    (controllers : new.controllers.items ≡ old.controllers.items)
    (bridges : new.bridges.items ≡ old.bridges.items)
    (turned : Turned s.network old.rings.items new.rings.items)
    (budget : s.worker.budget ≡ true)
    (held : HeldHost s t (station_ring old s.network) (station_ring new s.network)) where
  abbrev host_ring : KeptRing
  host_ring = station_ring old s.network

  abbrev new_host_ring : KeptRing
  new_host_ring = station_ring new s.network

  host-turn : HoldsHostTurn true host_ring.net s.worker.node s.host.plan true s.host.history
      t.host.history host_ring.history new_host_ring.history t.left
  host-turn = subst (λ (b : Bool). HoldsHostTurn true host_ring.net s.worker.node s.host.plan b
      s.host.history t.host.history host_ring.history
      new_host_ring.history t.left) budget held.turn

  pub host-further : Further (is_of s.worker.node) host_ring.history new_host_ring.history
  host-further = host-turn-ring host_ring.net s.worker.node s.host.plan s.host.history
      t.host.history host_ring.history new_host_ring.history t.left host-turn

  pub host-hold-stands : (plant : Plant) (scans : ℕ) → StandAll plant scans old
      → StandAll plant scans new
  host-hold-stands plant scans all =
      let p = host-at-place plant scans old at s all is in
      let home = net_of plant p.plan.node in
      let net : new_host_ring.net ≡ home = held.net ∙ p.ring.net_is in
      let worker : s.worker.node ≡ p.plan.node = p.stands.worker_node in
      let now : t.worker.node ≡ p.plan.node = held.worker_node ∙ worker in
      let it : StandsHost plant new_host_ring.history p.plan t = record {
        node = held.node ∙ p.stands.node;
        network = held.network ∙ p.stands.network;
        worker_node = now;
        budget = held.budget ∙ p.stands.budget;
        plan_is = held.plan ∙ p.stands.plan_is;
        ties = subst (λ (net : NetPlan). HostTies p.plan.node t.host (own_side net)
            new_host_ring.history) net
            (subst (λ (n : ℕ). HostTies n t.host (own_side new_host_ring.net)
            new_host_ring.history) now held.stands.ties);
        counts = held.stands.counts;
        left = held.left
            ∙ (λ i. node_has_left (p.ring.net_is i) new_host_ring.history (worker i));
        keeps = subst (λ (plan : HostPlan). HostKeepsOn plan home t.host.history
            new_host_ring.history t.left) p.stands.plan_is
            (subst (λ (net : NetPlan). HostKeepsOn s.host.plan net t.host.history
            new_host_ring.history t.left) p.ring.net_is held.keeps);
      } in
      host-stand-with plant scans old new at s t all is items controllers bridges
      (turned-grew s.network old.rings.items new.rings.items turned p.plan.node
      (subst (λ (n : ℕ). Further (is_of n) host_ring.history new_host_ring.history) worker
      host-further) held.net)
      (turned-stands s.network old.rings.items new.rings.items turned plant.nets all.rings
      held.net held.ring_legal)
      (subst (λ (k : ℕ). StandsHost plant (station_ring new k).history p.plan t)
      (sym held.network) it)

  host-turn-as : (plant : Plant) (scans : ℕ) (all : StandAll plant scans old)
      → (let p = host-at-place plant scans old at s all is in
      HoldsHostTurn true (net_of plant p.plan.node) p.plan.node p.plan true s.host.history
      t.host.history (noted_on p.plan.network (joint_of old)) new_host_ring.history t.left)
  host-turn-as plant scans all =
      let p = host-at-place plant scans old at s all is in
      let known = s.host.history in
      let behind' = t.host.history in
      subst (λ (l : List RingEntry). HoldsHostTurn true (net_of plant p.plan.node)
      p.plan.node p.plan true known behind' l new_host_ring.history t.left)
      (sym (noted-mine old s.network p.plan.network p.stands.network))
      (subst (λ (plan : HostPlan). HoldsHostTurn true (net_of plant p.plan.node) p.plan.node plan
      true known behind' host_ring.history new_host_ring.history t.left) p.stands.plan_is
      (subst (λ (net : NetPlan). HoldsHostTurn true net p.plan.node s.host.plan true
      known behind' host_ring.history new_host_ring.history t.left) p.ring.net_is
      (subst (λ (n : ℕ). HoldsHostTurn true host_ring.net n s.host.plan true
      known behind' host_ring.history new_host_ring.history t.left) p.stands.worker_node
      host-turn)))

  pub host-hold-did : (place : ℕ) (station : RingStation) (network : ℕ)
      → slice_get old.rings.items place ≡ Some station → station.network ≡ network
      → position (λ (s : ControllerStation). s.node == (ring_of station.ring).holder)
      old.controllers.items ≡ None
      → position (λ (s : HostStation). s.node == (ring_of station.ring).holder) old.hosts.items
      ≡ Some at
      → Did (λ plant scans. MakesTurn plant scans (Hold network)) old new
  host-hold-did place station network at-ring on none found = record {
    stand = host-hold-stands;
    made = λ plant scans all. held-on plant scans old all place station network at-ring on
        (joint_of new) (λ holder number net_is.
        let p = host-at-place plant scans old at s all is in
        let net = (ring-place plant old.rings.items all.sound all.rings place station at-ring).net
        in
        let n = (ring_of station.ring).holder in
        subst (λ (o : Option ℕ). MakesHold plant scans net o (place_of_host plant n)
        (place_of_bridge plant n) (joint_of old) (joint_of new))
        (sym none ∙ place-is plant scans old n all)
        (subst (λ (o : Option ℕ). MakesHold plant scans net None o (place_of_bridge plant n)
        (joint_of old) (joint_of new))
        (sym found ∙ host-place-is plant scans old n all)
        (record {
          plan = p.plan;
          log = host_log_of s;
          is = host-is-at plant scans old new at s t all is items controllers bridges;
          entries = t.host.history;
          ring = new_host_ring.history;
          left = t.left;
          turn = host-turn-as plant scans all;
          made = host-joint-is plant scans old new at s t all is items controllers bridges turned
              held.node;
        })));
  }

-- ---- a hold turn of a bridge's end

-- which end, and that its network is this one
abbrev pub IsLeftOn : BridgePlan → ℕ → ℕ → Type 0
IsLeftOn plan n network = (n ≡ plan.left) × (plan.left_net ≡ network)

abbrev pub IsRightOn : BridgePlan → ℕ → ℕ → Type 0
IsRightOn plan n network = (n ≡ plan.right) × (plan.right_net ≡ network)

abbrev pub IsEndOn : BridgePlan → ℕ → ℕ → Type 0
IsEndOn plan n network = IsLeftOn plan n network ⊎ IsRightOn plan n network

module _ (old new : Stations) (at : ℕ) (s t : BridgeSite)
    (is : slice_get old.bridges.items at ≡ Some s)
    (items : new.bridges.items ≡ set old.bridges.items at t)
    (controllers : new.controllers.items ≡ old.controllers.items)
    (hosts : new.hosts.items ≡ old.hosts.items) (same-plan : t.plan ≡ s.plan)
    (network n : ℕ) (side : IsEndOn s.plan n network)
    (turned : Turned network old.rings.items new.rings.items)
    (held : HeldByEnd n s.station t.station (station_ring old network) (station_ring new network))
    (moved : MovedByEnd n s.station t.station (station_ring old network)
    (station_ring new network)) where
  abbrev end_ring : KeptRing
  end_ring = station_ring old network

  abbrev new_end_ring : KeptRing
  new_end_ring = station_ring new network

  pub end-further : Further (is_of n) end_ring.history new_end_ring.history
  end-further =
      let grown = moved.moved.on_ring.grown in
      further-grew (is_of n) grown.added end_ring.history new_end_ring.history grown.grew

  pub end-grew : GrewBy n old.rings.items new.rings.items
  end-grew = turned-grew network old.rings.items new.rings.items turned n end-further
      moved.moved.net

  end-rings : (plant : Plant) (scans : ℕ) → StandAll plant scans old
      → AllZip StandsRing plant.nets new.rings.items
  end-rings plant scans all = turned-stands network old.rings.items new.rings.items turned
      plant.nets all.rings moved.moved.net
      (subst (λ (net : NetPlan). IsLegalRing net new_end_ring.history) (sym moved.moved.net)
      moved.moved.on_ring.legal)

  -- the end that made its turn stands
  own-end : (plant : Plant) (home node : ℕ) → n ≡ node → home ≡ network
      → NodeOn plant old.rings.items home node
      → StandsEnd node t.station (net_of plant node) (station_ring new home).history
  own-end plant home node same there on =
      let net : new_end_ring.net ≡ net_of plant node =
      moved.moved.net ∙ (ap (λ (k : ℕ). (station_ring old k).net) (sym there) ∙ on.net_is) in
      subst (λ (k : ℕ). StandsEnd node t.station (net_of plant node) (station_ring new k).history)
      (sym there)
      (subst (λ (p : NetPlan). StandsEnd node t.station p new_end_ring.history) net
      (subst (λ (k : ℕ). StandsEnd k t.station new_end_ring.net new_end_ring.history) same
      held.stands))

  -- and the other one
  far-end : (plant : Plant) (scans : ℕ) → StandAll plant scans old → (home node : ℕ) → node ≢ n
      → NodeOn plant old.rings.items home node
      → StandsEnd node s.station (net_of plant node) (station_ring old home).history
      → StandsEnd node t.station (net_of plant node) (station_ring new home).history
  far-end plant scans all home node other on st =
      let now = node-on plant new.rings.items all.sound (end-rings plant scans all) home node on.on
      in
      end-stands-others node n t.station (net_of plant node) (station_ring old home).history
      (station_ring new home).history other (end-grew.further home) now.legal
      (moved.others node (net_of plant node) (station_ring old home).history other st)

  abbrev spot : (plant : Plant) (scans : ℕ) → StandAll plant scans old → SiteAtPlace plant old at s
  spot plant scans all = site-at-place plant scans old at s all is

  end-stood : (plant : Plant) (scans : ℕ) (all : StandAll plant scans old)
      → (let plan = (spot plant scans all).plan in
      StandsEnd plan.left t.station (net_of plant plan.left)
      (station_ring new plan.left_net).history
      → StandsEnd plan.right t.station (net_of plant plan.right)
      (station_ring new plan.right_net).history
      → IsEndAt plant scans old new at s t all is items controllers hosts n
      → StandAll plant scans new)
  end-stood plant scans all left right apart =
      let p = spot plant scans all in
      site-stand-with plant scans old new at s t all is items controllers hosts n apart end-grew
      (end-rings plant scans all) (record {
        plan_is = same-plan ∙ p.stands.plan_is;
        bridge_is = moved.moved.plan ∙ p.stands.bridge_is;
        left_budget = ap (λ w. w.budget) (moved.workers p.plan.left) ∙ p.stands.left_budget;
        right_budget = ap (λ w. w.budget) (moved.workers p.plan.right) ∙ p.stands.right_budget;
        left = left;
        right = right;
      })

  pub end-hold-stands : (plant : Plant) (scans : ℕ) → StandAll plant scans old
      → StandAll plant scans new
  end-hold-stands plant scans all =
      let p = spot plant scans all in
      let ends = (All-contains (IsBridgeOf plant) plant.bridges p.plan all.sound.bridges
      (contains-at plant.bridges at p.plan p.plan_is)).plan.two_ends in
      ⊎_elim
      (λ (left : IsLeftOn p.plan n network).
      end-stood plant scans all (own-end plant p.plan.left_net p.plan.left left.0 left.1 p.left)
      (far-end plant scans all p.plan.right_net p.plan.right
      (λ same. ends (sym left.0 ∙ sym same)) p.right p.stands.right)
      (subst (IsEndAt plant scans old new at s t all is items controllers hosts) (sym left.0)
      (left-apart plant scans old new at s t all is items controllers hosts)))
      (λ (right : IsRightOn p.plan n network).
      end-stood plant scans all
      (far-end plant scans all p.plan.left_net p.plan.left
      (λ same. ends (same ∙ right.0)) p.left p.stands.left)
      (own-end plant p.plan.right_net p.plan.right right.0 right.1 p.right)
      (subst (IsEndAt plant scans old new at s t all is items controllers hosts) (sym right.0)
      (right-apart plant scans old new at s t all is items controllers hosts)))
      (subst (λ (plan : BridgePlan). IsEndOn plan n network) p.stands.plan_is side)

  pub end-budget : (plant : Plant) (scans : ℕ) → StandAll plant scans old
      → (end_station n s.station).worker.budget ≡ true
  end-budget plant scans all =
      let p = spot plant scans all in
      ⊎_elim
      (λ (left : IsLeftOn p.plan n network).
      ap (λ (k : ℕ). (end_station k s.station).worker.budget) left.0 ∙ p.stands.left_budget)
      (λ (right : IsRightOn p.plan n network).
      ap (λ (k : ℕ). (end_station k s.station).worker.budget) right.0 ∙ p.stands.right_budget)
      (subst (λ (plan : BridgePlan). IsEndOn plan n network) p.stands.plan_is side)

  -- its turn, as that of an end with a budget
  pub end-turn : (plant : Plant) (scans : ℕ) → StandAll plant scans old
      → HoldsEndTurn true true s.station.bridge.plan end_ring.net n true s.station.bridge.history
      t.station.bridge.history end_ring.history new_end_ring.history
      (end_station n t.station).left
  end-turn plant scans all = subst (λ (b : Bool). HoldsEndTurn true true s.station.bridge.plan
      end_ring.net n b s.station.bridge.history t.station.bridge.history end_ring.history
      new_end_ring.history (end_station n t.station).left) (end-budget plant scans all) held.turn

  end-made : (plant : Plant) (scans : ℕ) (all : StandAll plant scans old) (net : NetPlan)
      → net.number ≡ network → end_ring.net ≡ net
      → EndHoldsAt plant net n at (joint_of old) (joint_of new)
  end-made plant scans all net number net_is =
      let p = spot plant scans all in
      let known = s.station.bridge.history in
      let behind' = t.station.bridge.history in
      let gone = (end_station n t.station).left in
      record {
        plan = p.plan;
        log = log_of_site s;
        is = site-is-at plant scans old new at s t all is items controllers hosts;
        entries = behind';
        ring = new_end_ring.history;
        left = gone;
        turn = subst (λ (l : List RingEntry). HoldsEndTurn true true p.plan net n true known
            behind' l new_end_ring.history gone)
            (sym (noted-mine old network net.number (sym number)))
            (subst (λ (k : NetPlan). HoldsEndTurn true true p.plan k n true known behind'
            end_ring.history new_end_ring.history gone) net_is
            (subst (λ (plan : BridgePlan). HoldsEndTurn true true plan end_ring.net n true known
            behind' end_ring.history new_end_ring.history gone) p.stands.bridge_is
            (end-turn plant scans all)));
        made = site-joint-is plant scans old new at s t all is items controllers hosts network
            turned moved.moved.plan
            ∙ ap (λ (k : ℕ). with_noted_on k new_end_ring.history
            (with_bridge_list at (log_of_site s) behind' (joint_of old))) (sym number);
      }

  pub end-hold-did : (place : ℕ) (station : RingStation)
      → slice_get old.rings.items place ≡ Some station → station.network ≡ network
      → station_ring old network ≡ station.ring → (ring_of station.ring).holder ≡ n
      → position (λ (s : ControllerStation). s.node == (ring_of station.ring).holder)
      old.controllers.items ≡ None
      → position (λ (s : HostStation). s.node == (ring_of station.ring).holder) old.hosts.items
      ≡ None
      → position (λ (s : BridgeSite). is_end_of (ring_of station.ring).holder s.plan)
      old.bridges.items ≡ Some at
      → Did (λ plant scans. MakesTurn plant scans (Hold network)) old new
  end-hold-did place station at-ring on ring_is mine none no-host found = record {
    stand = end-hold-stands;
    made = λ plant scans all. held-on plant scans old all place station network at-ring on
        (joint_of new) (λ holder number net_is.
        let net = (ring-place plant old.rings.items all.sound all.rings place station at-ring).net
        in
        let m = (ring_of station.ring).holder in
        subst (λ (o : Option ℕ). MakesHold plant scans net o (place_of_host plant m)
        (place_of_bridge plant m) (joint_of old) (joint_of new))
        (sym none ∙ place-is plant scans old m all)
        (subst (λ (o : Option ℕ). MakesHold plant scans net None o (place_of_bridge plant m)
        (joint_of old) (joint_of new))
        (sym no-host ∙ host-place-is plant scans old m all)
        (subst (λ (o : Option ℕ). MakesHold plant scans net None None o (joint_of old)
        (joint_of new))
        (sym found ∙ bridge-place-is plant scans old m all)
        (subst (λ (k : ℕ). EndHoldsAt plant net k at (joint_of old) (joint_of new))
        (sym mine ∙ holder)
        (end-made plant scans all net number (ap (λ (r : KeptRing). r.net) ring_is ∙ net_is))))));
  }

-- nobody holds the token
pub no-hold-did : (old : Stations) (place : ℕ) (station : RingStation) (network : ℕ)
    → slice_get old.rings.items place ≡ Some station → station.network ≡ network
    → position (λ (s : ControllerStation). s.node == (ring_of station.ring).holder)
    old.controllers.items ≡ None
    → position (λ (s : HostStation). s.node == (ring_of station.ring).holder) old.hosts.items
    ≡ None
    → position (λ (s : BridgeSite). is_end_of (ring_of station.ring).holder s.plan)
    old.bridges.items ≡ None
    → Did (λ plant scans. MakesTurn plant scans (Hold network)) old old
no-hold-did old place station network at-ring on none no-host no-bridge = record {
  stand = λ plant scans all. all;
  made = λ plant scans all. held-on plant scans old all place station network at-ring on
      (joint_of old) (λ holder number net_is.
      let net = (ring-place plant old.rings.items all.sound all.rings place station at-ring).net in
      let n = (ring_of station.ring).holder in
      subst (λ (o : Option ℕ). MakesHold plant scans net o (place_of_host plant n)
      (place_of_bridge plant n) (joint_of old) (joint_of old))
      (sym none ∙ place-is plant scans old n all)
      (subst (λ (o : Option ℕ). MakesHold plant scans net None o (place_of_bridge plant n)
      (joint_of old) (joint_of old))
      (sym no-host ∙ host-place-is plant scans old n all)
      (subst (λ (o : Option ℕ). MakesHold plant scans net None None o (joint_of old)
      (joint_of old))
      (sym no-bridge ∙ bridge-place-is plant scans old n all) refl)));
}

-- there is no such network
pub no-hold-on-did : (old : Stations) (network : ℕ)
    → position (λ (r : RingStation). r.network == network) old.rings.items ≡ None
    → Did (λ plant scans. MakesTurn plant scans (Hold network)) old old
no-hold-on-did old network none = record {
  stand = λ plant scans all. all;
  made = λ plant scans all. subst
      (λ (o : Option NetPlan). MakesHoldOn plant scans o (joint_of old) (joint_of old))
      (sym (find-none (λ (net : NetPlan). net.number == network) plant.nets (λ k net at-net.
      let its = zip-at-first StandsRing plant.nets old.rings.items k net all.rings at-net in
      ap (λ (m : ℕ). m == network) (sym its.2.network)
      ∙ position-none (λ (r : RingStation). r.network == network) old.rings.items k its.0 none
      its.1))) refl;
}

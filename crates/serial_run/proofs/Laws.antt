-- The joint history of stations that stand is legal, and its lists keep the laws.
use Rattle.std.proofs.Common.{◌≡◌, ℕ, List, [], ◌∷◌, ◌++◌, map, Some, refl, sym, ap, subst, ◌∙◌}
use Rattle.std.proofs.Common.{All}
use Rattle.std.specs.List.{AllZip, slice_get}
use Rattle.std.proofs.lemmas.List.Elements.{All-cons, All-nil}
use Rattle.plant_types.specs.declared.net.BridgePlan.{BridgePlan}
use Rattle.plant_types.specs.declared.net.HostPlan.{HostPlan}
use Rattle.plant_types.specs.declared.plan.ControllerPlan.{ControllerPlan}
use Rattle.plant_types.specs.declared.plan.Plant.{Plant}
use Rattle.plant_types.specs.Plans.{net_of}
use Rattle.ring_core.specs.declared.entry.RingEntry.{RingEntry}
use Rattle.controller_core.specs.declared.fixed.Fixed.{Fixed}
use Rattle.controller_core.specs.Controller.{IsLegal}
use Rattle.host_port.specs.Legal.{IsHostHistory}
use Rattle.bridge_relay.specs.Legal.{IsBridgeHistory}
use Rattle.bridge_station.specs.Stands.{StandsEnd}
use Rattle.tied_lists.specs.Own.{own}
use Rattle.tied_lists.specs.Items.{AController, AHost}
use Rattle.tied_lists.specs.Tied.{Tied, TiedEnd}
use Rattle.joint_history.specs.declared.joint.Joint.{Joint}
use Rattle.joint_history.specs.Bridges.{backs_of, side_items}
use Rattle.joint_history.specs.JointLaws.{IsJoint, IsLegalBridgeLog, IsLegalHostLog, IsLegalJoint}
use Rattle.joint_history.specs.JointLaws.{IsLegalLog, IsTiedBridge, IsTiedController, IsTiedHost}
use Rattle.joint_history.specs.JointLaws.{IsTiedSide}
use Rattle.joint_history.specs.Nets.{noted_on_rings}
use Rattle.joint_history.specs.Reading.{items_of, host_items_of}
use Rattle.bridge_station.specs.TurnLaws.{HostInTime, InTime, IsControllerInTime, IsHostInTime}
use Rattle.bridge_station.specs.TurnLaws.{StationsAreInTime}
use Rattle.net_laws.proofs.Rings.{own-on}
use Rattle.bridge_station.specs.EndTimes.{AreBridgesInTime, EndInTime, IsBridgeInTime, IsEndInTime}
use Rattle.serial_run.specs.declared.order.Turn.{Turn}
use Rattle.serial_run.specs.declared.stations.BridgeSite.{BridgeSite}
use Rattle.serial_run.specs.declared.stations.ControllerStation.{ControllerStation}
use Rattle.serial_run.specs.declared.stations.HostStation.{HostStation}
use Rattle.serial_run.specs.declared.stations.Stations.{Stations}
use Rattle.serial_run.specs.Turns.{MakesTurn, MakesTurns}
use Rattle.serial_run.specs.Stations.{HostStandsOn, StandAll, StandsOn, StandsSite, host_log_of}
use Rattle.serial_run.specs.Stations.{joint_of, log_of, log_of_ring, log_of_site, station_ring}
use Rattle.serial_run.proofs.Lists.{zip-map, zip-other}
use Rattle.serial_run.proofs.Networks.{NodeOn, noted-is, rings-legal}
use Rattle.serial_run.proofs.TurnsMade.{at-place, host-at-place, site-at-place}

zip-all : {A B C : Type 0} (R : A → B → Type 0) (P : C → Type 0) (g : B → C) (xs : List A)
    (ys : List B) → AllZip R xs ys
    → ((x : A) (y : B) → R x y → P (g y)) → All P (map g ys)
zip-all R P g [] [] all f = All-nil P
zip-all R P g [] (y ∷ ys) all f = absurd all
zip-all R P g (x ∷ xs) [] all f = absurd all
zip-all R P g (x ∷ xs) (y ∷ ys) all f = All-cons P (g y) (map g ys) (f x y all.0)
    (zip-all R P g xs ys all.1 f)

pub stand-legal : (plant : Plant) (scans : ℕ) (run : Stations) → StandAll plant scans run
    → IsLegalJoint plant scans (joint_of run)
stand-legal plant scans run all = record {
  controllers = zip-map (StandsOn plant scans run.rings.items) (IsLegalLog plant scans)
      log_of plant.controllers run.controllers.items
      all.controllers (λ plan s st. (
        st.node,
        subst (λ (f : Fixed). IsLegal f s.controller.history)
            st.fixed st.legal,
      ));
  hosts = zip-map (HostStandsOn plant run.rings.items) IsLegalHostLog host_log_of plant.hosts
      run.hosts.items all.hosts
      (λ plan s st. (
        st.node,
        subst (λ (p : HostPlan). IsHostHistory p s.host.history) st.plan_is
            st.ties.legal,
      ));
  bridges = zip-map (StandsSite plant run.rings.items) IsLegalBridgeLog log_of_site plant.bridges
      run.bridges.items all.bridges
      (λ plan s st. (
        ap (λ (p : BridgePlan). p.left) st.bridge_is,
        ap (λ (p : BridgePlan). p.right) st.bridge_is,
        subst (λ (p : BridgePlan). IsBridgeHistory p s.station.bridge.history) st.bridge_is
            st.left.ready.ties.legal,
      ));
  rings = rings-legal plant.nets run.rings.items all.rings;
}

-- what a node noted on any ring is what it noted on the ring of its network
pub own-noted : (plant : Plant) (scans : ℕ) (run : Stations) → StandAll plant scans run
    → (network node : ℕ) → NodeOn plant run.rings.items network node
    → own node (noted_on_rings (joint_of run)) ≡ own node (station_ring run network).history
own-noted plant scans run all network node on =
    own-on plant (map log_of_ring run.rings.items) all.sound
    (rings-legal plant.nets run.rings.items all.rings) on.on.net node on.on.there on.on.member
    ∙ ap (own node) (noted-is run.rings.items on.on.net.number
    ∙ ap (λ (k : ℕ). (station_ring run k).history) on.on.number)

module _ (plant : Plant) (scans : ℕ) (run : Stations) (all : StandAll plant scans run) where
  abbrev noted : List RingEntry
  noted = noted_on_rings (joint_of run)

  -- what is said of each controller's station, by its place
  pub controllers-each : (P : ControllerPlan → ControllerStation → Type 0)
      → ((k : ℕ) (s : ControllerStation) (is : slice_get run.controllers.items k ≡ Some s)
      → P (at-place plant scans run k s all is).plan s)
      → AllZip P plant.controllers run.controllers.items
  controllers-each P each =
      zip-other (StandsOn plant scans run.rings.items) P plant.controllers run.controllers.items
      all.controllers (λ k x y at-x at-y st.
      let p = at-place plant scans run k y all at-y in
      let same : p.plan ≡ x = (let both : Some p.plan ≡ Some x = sym p.plan_is ∙ at-x in cc) in
      subst (λ (q : ControllerPlan). P q y) same (each k y at-y))

  pub hosts-each : (P : HostPlan → HostStation → Type 0)
      → ((k : ℕ) (s : HostStation) (is : slice_get run.hosts.items k ≡ Some s)
      → P (host-at-place plant scans run k s all is).plan s)
      → AllZip P plant.hosts run.hosts.items
  hosts-each P each =
      zip-other (HostStandsOn plant run.rings.items) P plant.hosts run.hosts.items
      all.hosts (λ k x y at-x at-y st.
      let p = host-at-place plant scans run k y all at-y in
      let same : p.plan ≡ x = (let both : Some p.plan ≡ Some x = sym p.plan_is ∙ at-x in cc) in
      subst (λ (q : HostPlan). P q y) same (each k y at-y))

  pub sites-each : (P : BridgePlan → BridgeSite → Type 0)
      → ((k : ℕ) (s : BridgeSite) (is : slice_get run.bridges.items k ≡ Some s)
      → P (site-at-place plant scans run k s all is).plan s)
      → AllZip P plant.bridges run.bridges.items
  sites-each P each =
      zip-other (StandsSite plant run.rings.items) P plant.bridges run.bridges.items
      all.bridges (λ k x y at-x at-y st.
      let p = site-at-place plant scans run k y all at-y in
      let same : p.plan ≡ x = (let both : Some p.plan ≡ Some x = sym p.plan_is ∙ at-x in cc) in
      subst (λ (q : BridgePlan). P q y) same (each k y at-y))

  tied-at : (k : ℕ) (s : ControllerStation) → slice_get run.controllers.items k ≡ Some s
      → IsTiedController noted (log_of s)
  tied-at k s is =
      let p = at-place plant scans run k s all is in
      let items = items_of s.controller.history in
      subst (λ (n : ℕ). Tied AController items (own n noted)) (sym p.stands.node)
      (subst (Tied AController items) (sym (own-noted plant scans run all s.network p.plan.node
      p.ring))
      (subst (λ (n : ℕ). Tied AController items (own n (station_ring run s.network).history))
      p.stands.worker_node p.stands.standing.tied))

  host-tied-at : (k : ℕ) (s : HostStation) → slice_get run.hosts.items k ≡ Some s
      → IsTiedHost noted (host_log_of s)
  host-tied-at k s is =
      let p = host-at-place plant scans run k s all is in
      let items = host_items_of s.host.history in
      subst (λ (n : ℕ). Tied AHost items (own n noted)) (sym p.stands.node)
      (subst (Tied AHost items) (sym (own-noted plant scans run all s.network p.plan.node p.ring))
      p.stands.ties.tied)

  side-tied-at : (s : BridgeSite) (home side other : ℕ) → NodeOn plant run.rings.items home side
      → side ≡ other → StandsEnd side s.station (net_of plant side) (station_ring run home).history
      → IsTiedSide noted (log_of_site s) other
  side-tied-at s home side other on same st =
      subst (IsTiedSide noted (log_of_site s)) same
      (subst (TiedEnd (side_items side s.station.bridge.history)
      (backs_of side s.station.bridge.history))
      (sym (own-noted plant scans run all home side on)) st.ready.ties.tied)

  site-tied-at : (k : ℕ) (s : BridgeSite) → slice_get run.bridges.items k ≡ Some s
      → IsTiedBridge noted (log_of_site s)
  site-tied-at k s is =
      let p = site-at-place plant scans run k s all is in
      record {
        left = side-tied-at s p.plan.left_net p.plan.left s.station.bridge.plan.left p.left
            (sym (ap (λ (q : BridgePlan). q.left) p.stands.bridge_is)) p.stands.left;
        right = side-tied-at s p.plan.right_net p.plan.right s.station.bridge.plan.right p.right
            (sym (ap (λ (q : BridgePlan). q.right) p.stands.bridge_is)) p.stands.right;
      }

  pub stand-joint : IsJoint (joint_of run)
  stand-joint = record {
    controllers = zip-all (λ plan s. IsTiedController noted (log_of s)) (IsTiedController noted)
        log_of plant.controllers run.controllers.items
        (controllers-each (λ plan s. IsTiedController noted (log_of s)) tied-at)
        (λ plan s tied. tied);
    hosts = zip-all (λ plan s. IsTiedHost noted (host_log_of s)) (IsTiedHost noted)
        host_log_of plant.hosts run.hosts.items
        (hosts-each (λ plan s. IsTiedHost noted (host_log_of s)) host-tied-at)
        (λ plan s tied. tied);
    bridges = zip-all (λ plan s. IsTiedBridge noted (log_of_site s)) (IsTiedBridge noted)
        log_of_site plant.bridges run.bridges.items
        (sites-each (λ plan s. IsTiedBridge noted (log_of_site s)) site-tied-at)
        (λ plan s tied. tied);
  }

  in-time-at : (k : ℕ) (s : ControllerStation) → slice_get run.controllers.items k ≡ Some s
      → IsControllerInTime noted (log_of s)
  in-time-at k s is =
      let p = at-place plant scans run k s all is in
      subst (λ (n : ℕ). InTime s.controller.history (own n noted)) (sym p.stands.node)
      (subst (InTime s.controller.history) (sym (own-noted plant scans run all s.network
      p.plan.node p.ring)) p.stands.keeps.timely.timely)

  host-in-time-at : (k : ℕ) (s : HostStation) → slice_get run.hosts.items k ≡ Some s
      → IsHostInTime noted (host_log_of s)
  host-in-time-at k s is =
      let p = host-at-place plant scans run k s all is in
      subst (λ (n : ℕ). HostInTime s.host.history (own n noted)) (sym p.stands.node)
      (subst (HostInTime s.host.history) (sym (own-noted plant scans run all s.network
      p.plan.node p.ring)) p.stands.keeps.timely.timely)

  pub stand-in-time : StationsAreInTime (joint_of run)
  stand-in-time = record {
    controllers = zip-all (λ plan s. IsControllerInTime noted (log_of s))
        (IsControllerInTime noted) log_of plant.controllers run.controllers.items
        (controllers-each (λ plan s. IsControllerInTime noted (log_of s)) in-time-at)
        (λ plan s timely. timely);
    hosts = zip-all (λ plan s. IsHostInTime noted (host_log_of s)) (IsHostInTime noted)
        host_log_of plant.hosts run.hosts.items
        (hosts-each (λ plan s. IsHostInTime noted (host_log_of s)) host-in-time-at)
        (λ plan s timely. timely);
  }

  side-in-time-at : (s : BridgeSite) (home side other : ℕ)
      → NodeOn plant run.rings.items home side → side ≡ other
      → StandsEnd side s.station (net_of plant side) (station_ring run home).history
      → IsEndInTime other s.station.bridge.history noted
  side-in-time-at s home side other on same st =
      subst (λ (n : ℕ). IsEndInTime n s.station.bridge.history noted) same
      (subst (EndInTime side s.station.bridge.history)
      (sym (own-noted plant scans run all home side on)) st.keeps.in_time)

  site-in-time-at : (k : ℕ) (s : BridgeSite) → slice_get run.bridges.items k ≡ Some s
      → IsBridgeInTime noted (log_of_site s)
  site-in-time-at k s is =
      let p = site-at-place plant scans run k s all is in
      record {
        left = side-in-time-at s p.plan.left_net p.plan.left s.station.bridge.plan.left p.left
            (sym (ap (λ (q : BridgePlan). q.left) p.stands.bridge_is)) p.stands.left;
        right = side-in-time-at s p.plan.right_net p.plan.right s.station.bridge.plan.right p.right
            (sym (ap (λ (q : BridgePlan). q.right) p.stands.bridge_is)) p.stands.right;
      }

  pub stand-bridges-in-time : AreBridgesInTime (joint_of run)
  stand-bridges-in-time =
      zip-all (λ plan s. IsBridgeInTime noted (log_of_site s)) (IsBridgeInTime noted)
      log_of_site plant.bridges run.bridges.items
      (sites-each (λ plan s. IsBridgeInTime noted (log_of_site s)) site-in-time-at)
      (λ plan s timely. timely)

-- turns one after another, and one more
pub one-more-turn : (plant : Plant) (scans : ℕ) (turns : List Turn) (turn : Turn)
    (first next last : Joint) → MakesTurns plant scans turns first next
    → MakesTurn plant scans turn next last → MakesTurns plant scans (turns ++ turn ∷ []) first last
one-more-turn plant scans [] turn first next last made
    it = (last, subst (λ (j : Joint). MakesTurn plant scans turn j last) made it, refl)
one-more-turn plant scans (t ∷ turns) turn first next last made it =
    (made.0, made.1, one-more-turn plant scans turns turn made.0 next last made.2 it)

-- A run at whose end all stations have finished.
use Rattle.std.proofs.Common.{◌≡◌, ℕ, zero, suc, ◌==◌, Bool, true, false, List, [], ◌∷◌}
use Rattle.std.proofs.Common.{map, Some, None, refl, sym, ap, subst, ◌∙◌, arith}
use Rattle.std.specs.Prelude.{◌&&◌, if◌then◌else◌}
use Rattle.std.specs.List.{AllZip, list_all, slice_get}
use Rattle.std.proofs.lemmas.List.Elements.{All-contains}
use Rattle.plant_types.specs.declared.net.BridgePlan.{BridgePlan}
use Rattle.plant_types.specs.declared.net.HostPlan.{HostPlan}
use Rattle.plant_types.specs.declared.net.NetPlan.{NetPlan}
use Rattle.plant_types.specs.declared.plan.Plant.{Plant}
use Rattle.plant_types.specs.Plans.{IsBridgeOf, IsBridgePlan, net_of}
use Rattle.ring_core.specs.declared.entry.RingEntry.{RingEntry}
use Rattle.scan_order.specs.declared.due.ScanStep.{ScanStep}
use Rattle.controller_core.specs.declared.fixed.Fixed.{Fixed}
use Rattle.controller_core.specs.Controller.{ControllerIs, first_step, has_ended, has_started}
use Rattle.controller_core.specs.Controller.{is_none, is_off, left_of}
use Rattle.controller_core.specs.Controller.{state_of}
use Rattle.bridge_station.specs.Station.{end_has_left}
use Rattle.bridge_station.specs.Stands.{StandsEnd}
use Rattle.bridge_station.specs.EndLaws.{EndKeepsOn}
use Rattle.bridge_station.proofs.EndLaws.{end-complete}
use Rattle.joint_history.specs.declared.joint.RingLog.{RingLog}
use Rattle.joint_history.specs.Complete.{ControllerIsCompleteOn, EndIsComplete, HostIsCompleteOn}
use Rattle.joint_history.specs.Complete.{IsComplete, IsCompleteBridgeLog, IsCompleteHostLog}
use Rattle.joint_history.specs.Complete.{IsCompleteLog}
use Rattle.joint_history.specs.JointLaws.{fixed_of}
use Rattle.joint_history.specs.Nets.{entries_on, own_ring}
use Rattle.joint_history.specs.Reading.{has_ended_at, has_started_at, is_off_at}
use Rattle.comm_port.specs.Worker.{IsMemberWorker}
use Rattle.comm_port.specs.HostStands.{own_side}
use Rattle.tied_lists.specs.Waits.{has_left, status_at}
use Rattle.bridge_station.specs.TurnLaws.{is_out_of_ring, ControllersComplete, HostKeepsOn}
use Rattle.bridge_station.specs.TurnLaws.{HostStandsTied, HostsComplete, KeepsOn, StandsTied}
use Rattle.bridge_station.proofs.TurnLaws.{host-stands-of, stands-of}
use Rattle.whole_scan.specs.Scans.{KeepsStepsLeft}
use Rattle.serial_run.specs.declared.stations.BridgeSite.{BridgeSite}
use Rattle.serial_run.specs.declared.stations.ControllerStation.{ControllerStation}
use Rattle.serial_run.specs.declared.stations.HostStation.{HostStation}
use Rattle.serial_run.specs.declared.stations.Stations.{Stations}
use Rattle.serial_run.specs.Scans.{have_ended, KeepScans}
use Rattle.serial_run.specs.Stations.{StandAll, host_log_of, joint_of, log_of, log_of_ring}
use Rattle.serial_run.specs.Stations.{log_of_site, plain_ram_side, station_ring}
use Rattle.serial_run.specs.Held.{AllHave, IsOffAway, IsVisited, stations_here, status_in}
use Rattle.serial_run.proofs.Laws.{controllers-each, hosts-each, sites-each}
use Rattle.serial_run.proofs.Networks.{NodeOn, contains-at, low-members, noted-is}
use Rattle.serial_run.proofs.Repeats.{all-at, controller-left, host-left, left-out, site-left}
use Rattle.serial_run.proofs.TurnsMade.{at-place, host-at-place, site-at-place}

-- ---- who has ended has

none-same : (v w : ControllerIs) → KeepsStepsLeft v w → has_ended w ≡ has_ended v
none-same v w keep =
    ap (λ n. is_none (if n == 0 then first_step (left_of w.fixed w.history) else None)) keep.stop
    ∙ ap (λ (l : List ScanStep). is_none (if (state_of v).stop == 0 then first_step l else None))
    keep.left

ended-each : (xs ys : List ControllerStation)
    → AllZip (λ (s t : ControllerStation). KeepsStepsLeft s.controller t.controller) xs ys
    → list_all (λ (s : ControllerStation). has_ended s.controller) ys ≡ list_all
    (λ (s : ControllerStation). has_ended s.controller) xs
ended-each [] [] keep = refl
ended-each [] (y ∷ ys) keep = absurd keep
ended-each (x ∷ xs) [] keep = absurd keep
ended-each (x ∷ xs) (y ∷ ys) keep = λ i. none-same x.controller y.controller keep.0 i && ended-each
    xs ys keep.1 i

pub ended-kept : (a b : Stations) → KeepScans a b → have_ended b ≡ have_ended a
ended-kept a b keep = ended-each a.controllers.items b.controllers.items keep

-- ---- each of them

both-true : (a b : Bool) → (a && b) ≡ true → (a ≡ true) × (b ≡ true)
both-true true b is = (refl, is)
both-true false b is = absurd (cc)

list-all-at : {X : Type 0} (p : X → Bool) (xs : List X) (k : ℕ) (x : X) → list_all p xs ≡ true
    → slice_get xs k ≡ Some x → p x ≡ true
list-all-at p [] k x all is = absurd (cc)
list-all-at p (y ∷ xs) zero x all is = let same : y ≡ x = cc in ap p (sym same)
    ∙ (both-true (p y) (list_all p xs) all).0
list-all-at p (y ∷ xs) (suc k) x all is = list-all-at p xs k x
    (both-true (p y) (list_all p xs) all).1 is

zip-map-at : {A B C : Type 0} (S : A → C → Type 0) (g : B → C) (xs : List A) (ys : List B)
    → AllZip (λ x y. S x (g y)) xs ys → AllZip S xs (map g ys)
zip-map-at S g [] [] all = tt
zip-map-at S g [] (y ∷ ys) all = absurd all
zip-map-at S g (x ∷ xs) [] all = absurd all
zip-map-at S g (x ∷ xs) (y ∷ ys) all = (all.0, zip-map-at S g xs ys all.1)

module _ (law : ControllersComplete) (host_law : HostsComplete) (plant : Plant) (scans : ℕ)
    (run : Stations) (all : StandAll plant scans run) (here : stations_here run ≡ 0) where
  abbrev rings : List RingLog
  rings = map log_of_ring run.rings.items

  -- the ring on which a node stands is that of its own network
  own-ring-is : (network node : ℕ) → NodeOn plant run.rings.items network node
      → (station_ring run network).history ≡ own_ring plant rings node
  own-ring-is network node on =
      sym (ap (λ (net : NetPlan). entries_on net.number rings) on.on.is
      ∙ (noted-is run.rings.items on.on.net.number
      ∙ ap (λ (k : ℕ). (station_ring run k).history) on.on.number))

  -- a visit that is not due has nothing to collect
  none-started : (s : ControllerStation) → has_ended s.controller ≡ true
      → is_out_of_ring (is_off s.controller) (status_in (station_ring run s.network) s.node) ≡ true
      → IsVisited (station_ring run s.network) s → has_started s.controller ≡ false
  none-started s ended out' visited =
      sym (ap (λ b. is_out_of_ring (b && is_off s.controller)
      (status_in (station_ring run s.network) s.node) && has_started s.controller) ended
      ∙ ap (λ b. b && has_started s.controller) out') ∙ visited

  complete-at : (k : ℕ) (s : ControllerStation) (is : slice_get run.controllers.items k ≡ Some s)
      → s.left ≡ true → has_ended s.controller ≡ true → IsOffAway (station_ring run s.network) s
      → IsVisited (station_ring run s.network) s
      → IsCompleteLog plant scans rings (at-place plant scans run k s all is).plan (log_of s)
  complete-at k s is left ended off visited =
      let p = at-place plant scans run k s all is in
      let st = p.stands in
      let ring = station_ring run s.network in
      let home = net_of plant p.plan.node in
      let fixed = fixed_of plant scans p.plan in
      let known = s.controller.history in
      let answer = p.ring.sound.numbers.answer.from in
      let member : IsMemberWorker home s.worker.node =
      subst (IsMemberWorker home) (sym st.worker_node) (record {
        members = low-members home p.ring.sound;
        member = p.ring.member;
        answer = omega (arith, answer);
      }) in
      let tied : StandsTied fixed home p.plan.node known ring.history =
      subst (λ (f : Fixed). StandsTied f home p.plan.node known ring.history) st.fixed
      (subst (λ (n : ℕ). StandsTied s.controller.fixed home n known ring.history) st.worker_node
      (stands-of s.worker (plain_ram_side s.controller) known (own_side home) ring.history member
      st.legal st.standing)) in
      let keeps : KeepsOn fixed home p.plan.node known ring.history true =
      subst (KeepsOn fixed home p.plan.node known ring.history) left st.keeps in
      let out' : is_out_of_ring (is_off s.controller) (status_in ring s.node) ≡ true =
      left-out (is_off s.controller) (status_in ring s.node)
      ((λ i. has_left (status_at (p.ring.net_is i) ring.history (st.node i)))
      ∙ (sym st.left ∙ left)) off in
      let status : status_in ring s.node ≡ status_at home ring.history p.plan.node =
      λ i. status_at (p.ring.net_is i) ring.history (st.node i) in
      let each = law fixed home p.plan.node known ring.history tied keeps
      (ap (λ (f : Fixed). has_ended_at f known) (sym st.fixed) ∙ ended)
      (ap (λ (f : Fixed). has_started_at f known) (sym st.fixed)
      ∙ none-started s ended out' visited)
      ((λ i. is_out_of_ring (is_off_at (sym st.fixed i) known) (sym status i)) ∙ out') in
      subst (λ (n : ℕ). ControllerIsCompleteOn (net_of plant n) (own_ring plant rings n) n fixed
      known) (sym st.node)
      (subst (λ (l : List RingEntry). ControllerIsCompleteOn home l p.plan.node fixed known)
      (own-ring-is s.network p.plan.node p.ring) each)

  host-complete-at : (k : ℕ) (s : HostStation) (is : slice_get run.hosts.items k ≡ Some s)
      → IsCompleteHostLog plant rings (host-at-place plant scans run k s all is).plan
      (host_log_of s)
  host-complete-at k s is =
      let p = host-at-place plant scans run k s all is in
      let st = p.stands in
      let ring = station_ring run s.network in
      let home = net_of plant p.plan.node in
      let known = s.host.history in
      let tied : HostStandsTied p.plan home known ring.history =
      subst (λ (q : HostPlan). HostStandsTied q home known ring.history) st.plan_is
      (host-stands-of p.plan.node s.host (own_side home) ring.history st.ties) in
      let keeps : HostKeepsOn p.plan home known ring.history true =
      subst (HostKeepsOn p.plan home known ring.history) (host-left run here k s is) st.keeps in
      let each = host_law p.plan home known ring.history tied keeps in
      subst (λ (n : ℕ). HostIsCompleteOn (net_of plant n) (own_ring plant rings n) n p.plan known)
      (sym st.node)
      (subst (λ (l : List RingEntry). HostIsCompleteOn home l p.plan.node p.plan known)
      (own-ring-is s.network p.plan.node p.ring) each)

  end-complete-at : (site : BridgeSite) (home side other : ℕ)
      → IsBridgePlan site.station.bridge.plan → NodeOn plant run.rings.items home side
      → side ≡ other
      → StandsEnd side site.station (net_of plant side) (station_ring run home).history
      → end_has_left side site.station ≡ true
      → EndIsComplete (net_of plant other) (own_ring plant rings other)
      site.station.bridge.history other
  end-complete-at site home side other sound on same st left =
      let list = site.station.bridge.history in
      let ring = (station_ring run home).history in
      let plan = site.station.bridge.plan in
      let net = net_of plant side in
      let each = end-complete plan net side list ring sound st.ready.ties
      (subst (EndKeepsOn plan net side list ring) left st.keeps) in
      subst (λ (n : ℕ). EndIsComplete (net_of plant n) (own_ring plant rings n) list n) same
      (subst (λ (l : List RingEntry). EndIsComplete net l list side) (own-ring-is home side on)
      each)

  site-complete-at : (k : ℕ) (s : BridgeSite) (is : slice_get run.bridges.items k ≡ Some s)
      → IsCompleteBridgeLog plant rings (site-at-place plant scans run k s all is).plan
      (log_of_site s)
  site-complete-at k s is =
      let p = site-at-place plant scans run k s all is in
      let st = p.stands in
      let both = both-true (end_has_left s.plan.left s.station)
      (end_has_left s.plan.right s.station) (site-left run here k s is) in
      let sound = subst IsBridgePlan (sym st.bridge_is)
      (All-contains (IsBridgeOf plant) plant.bridges p.plan all.sound.bridges
      (contains-at plant.bridges k p.plan p.plan_is)).plan in (
        end-complete-at s p.plan.left_net p.plan.left s.station.bridge.plan.left sound p.left
            (sym (ap (λ (q : BridgePlan). q.left) st.bridge_is)) st.left
            (ap (λ (q : BridgePlan). end_has_left q.left s.station) (sym st.plan_is) ∙ both.0),
        end-complete-at s p.plan.right_net p.plan.right s.station.bridge.plan.right sound p.right
            (sym (ap (λ (q : BridgePlan). q.right) st.bridge_is)) st.right
            (ap (λ (q : BridgePlan). end_has_left q.right s.station) (sym st.plan_is) ∙ both.1),
      )

  pub all-complete : have_ended run ≡ true → AllHave IsOffAway run → AllHave IsVisited run
      → IsComplete plant scans (joint_of run)
  all-complete ended off visited = record {
    controllers = zip-map-at (IsCompleteLog plant scans rings) log_of plant.controllers
        run.controllers.items
        (controllers-each plant scans run all
        (λ plan s. IsCompleteLog plant scans rings plan (log_of s))
        (λ k s is. complete-at k s is (controller-left run here k s is)
        (list-all-at (λ (x : ControllerStation). has_ended x.controller)
        run.controllers.items k s ended is)
        (all-at (λ (x : ControllerStation). IsOffAway (station_ring run x.network) x)
        run.controllers.items k s off is)
        (all-at (λ (x : ControllerStation). IsVisited (station_ring run x.network) x)
        run.controllers.items k s visited is)));
    hosts = zip-map-at (IsCompleteHostLog plant rings) host_log_of plant.hosts run.hosts.items
        (hosts-each plant scans run all
        (λ plan s. IsCompleteHostLog plant rings plan (host_log_of s)) host-complete-at);
    bridges = zip-map-at (IsCompleteBridgeLog plant rings) log_of_site plant.bridges
        run.bridges.items
        (sites-each plant scans run all
        (λ plan s. IsCompleteBridgeLog plant rings plan (log_of_site s)) site-complete-at);
  }

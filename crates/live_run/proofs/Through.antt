-- All stations ran, and the passes of all rings are back.
use Rattle.std.proofs.Common.{◌≡◌, ℕ, ◌≤◌, ◌&&◌, Bool, true, false, List, [], ◌∷◌, ◌++◌, map}
use Rattle.std.proofs.Common.{reverse, Option, Some, IfSome, refl, sym, ap, subst, ◌∙◌, arith}
use Rattle.std.proofs.Common.{⊎_elim, inr}
use Rattle.std.specs.Prelude.{flat_map}
use Rattle.std.specs.List.{All, AllZip, Contains, slice_get}
use Rattle.std.proofs.lemmas.Bool.{and_parts}
use Rattle.std.proofs.lemmas.List.{append-nil, append_assoc}
use Rattle.std.proofs.lemmas.List.Elements.{All-contains, All-weaker, Contains-append_left}
use Rattle.std.proofs.lemmas.List.Elements.{Contains-append_right}
use Rattle.turn_gate.specs.Known.{PassFacts, first_pass, is_among, numbers}
use Rattle.plant_types.specs.declared.net.BridgePlan.{BridgePlan}
use Rattle.plant_types.specs.declared.net.HostPlan.{HostPlan}
use Rattle.plant_types.specs.declared.net.NetPlan.{NetPlan}
use Rattle.plant_types.specs.declared.plan.ControllerPlan.{ControllerPlan}
use Rattle.plant_types.specs.declared.plan.Plant.{Plant}
use Rattle.plant_types.specs.Limits.{most_scans}
use Rattle.plant_types.specs.Plans.{IsBridgeOf, IsBridgePlan, IsPlant, controller_nodes}
use Rattle.plant_types.specs.Plans.{host_nodes}
use Rattle.ring_core.specs.declared.entry.RingEntry.{RingEntry}
use Rattle.joint_history.specs.declared.joint.BridgeLog.{BridgeLog}
use Rattle.joint_history.specs.declared.joint.HostLog.{HostLog}
use Rattle.joint_history.specs.Runnable.{CanRunPlant}
use Rattle.comm_port.specs.Turns.{IsNoBridge}
use Rattle.net_laws.proofs.On.{controller-no-bridge, controller-on, host-no-bridge, host-on}
use Rattle.gated_sides.specs.Sides.{GatedRingIs}
use Rattle.live_workers.specs.declared.stations.NotedLog.{NotedLog}
use Rattle.live_workers.specs.Stations.{AllCrossed, AllRan, AllServed, AreBridgePlans}
use Rattle.live_workers.specs.Stations.{BridgeCameToEnd, BridgeHasRun, CameNoted, CanRunAll}
use Rattle.live_workers.specs.Stations.{HostCameToEnd}
use Rattle.live_run.specs.Closing.{IsClosable, IsOpened}
use Rattle.live_run.specs.Dealing.{DealsAt, GathersAt, HasBrought, HasLog, IsDealt, IsFreshSeat}
use Rattle.live_run.specs.Dealing.{AreGathered, Key, Seat, key_of, side_of_seat}
use Rattle.live_run.specs.Ends.{Crossing, IsFreshBridge, ends_of_plan, sides_of_ends}
use Rattle.live_run.specs.Homes.{IsHomeOf, KeepsZero, Purse, RingGate, is_ring_of, place_of_ring}
use Rattle.live_run.specs.Runs.{AreBrought, IsBridgeBrought, IsThrough}
use Rattle.live_run.proofs.Places.{find-there, zip-there, zip-weaker}
use Rattle.live_run.proofs.Zipped.{all-there, contains-at, zip-first}
use Rattle.live_run.proofs.Seats.{AreEndsOf, IsSideOf, IsStationOn, end-keys-kept, ends-after}
use Rattle.live_run.proofs.Seats.{keys-kept, seat_seen, seat_side, seats-after}

-- ---- passes on their way

-- nothing was dealt yet
pub to-deal : (gates : List RingGate) (purses : List Purse) → AllZip IsOpened gates purses
    → AllZip (DealsAt [] []) gates purses
to-deal gates purses all =
    zip-weaker IsOpened (DealsAt [] []) gates purses (λ gate purse o. record {
      pass = first_pass gate.name;
      kept = o.kept;
      first = refl;
      among = λ n is. is;
      sides = λ n is. absurd (let no' : false ≡ true = is in cc);
    }) all

-- what was dealt is to be gathered
pub to-gather : (dealt : List ℕ) (out : List Key) (gates : List RingGate) (purses : List Purse)
    → AllZip (DealsAt dealt out) gates purses → AllZip (GathersAt out []) gates purses
to-gather dealt out gates purses all =
    zip-weaker (DealsAt dealt out) (GathersAt out []) gates purses (λ gate purse d. record {
      pass = d.pass;
      kept = d.kept;
      zero = record {
        gate_is = ap (λ (p : PassFacts RingEntry). p.gate) d.first;
        outside = ap (λ (p : PassFacts RingEntry). p.stay) d.first;
        number = ap (λ (p : PassFacts RingEntry). p.number) d.first;
      };
      owed = λ n is. inr (d.sides n is);
      brought = λ side there. absurd (let low = there.1 in omega (arith, low));
    }) all

-- pass 0 of each gate is kept meanwhile
pub deals-keep : (dealt : List ℕ) (out : List Key) (gates : List RingGate) (purses : List Purse)
    → AllZip (DealsAt dealt out) gates purses → AllZip KeepsZero gates purses
deals-keep dealt out gates purses all =
    zip-weaker (GathersAt out []) KeepsZero gates purses
    (λ gate purse g. record { pass = g.pass; kept = g.kept; zero = g.zero })
    (to-gather dealt out gates purses all)

-- a gate of which no pass was split off can be closed
pub opened-closable : (gates : List RingGate) (purses : List Purse)
    → AllZip IsOpened gates purses → AllZip IsClosable gates purses
opened-closable gates purses all =
    zip-weaker IsOpened IsClosable gates purses (λ gate purse o. record {
      pass = first_pass gate.name;
      kept = o.kept;
      zero = record { gate_is = refl; outside = refl; number = refl };
      all_back = λ n is. absurd (let no' : false ≡ true = is in cc);
    }) all

pub opened-unused : (gates : List RingGate) (purses : List Purse) → AllZip IsOpened gates purses
    → All (λ (g : RingGate). g.name.opening ≡ []) gates
opened-unused gates purses all =
    zip-first IsOpened (λ (g : RingGate). g.name.opening ≡ []) (λ gate purse o. o.unused) gates
    purses all

module _ (gates : List RingGate) (purses : List Purse) (back : List GatedRingIs)
    (whole : AllZip (GathersAt [] back) gates purses) where
  -- where none is out all gates can be closed
  gathered-closable : AllZip IsClosable gates purses
  gathered-closable =
      zip-weaker (GathersAt [] back) IsClosable gates purses (λ gate purse g. record {
        pass = g.pass;
        kept = g.kept;
        zero = g.zero;
        all_back = λ n is. ⊎_elim
            (λ (there : is_among n (numbers g.pass) ≡ true). there)
            (λ (out : Contains [] (gate, n)). absurd (let low = out.1 in omega (arith, low)))
            (g.owed n is);
      }) whole

  -- what pass 0 of the ring of a network keeps of a side
  record BroughtAt (network : ℕ) (side : GatedRingIs) : Type 0 where
    pub pass : PassFacts RingEntry
    pub kept : slice_get purses (place_of_ring gates network) ≡ Some (Some pass)
    pub unused : pass.gate.opening ≡ []
    pub brought : HasBrought pass side

  brought-at : All (λ (g : RingGate). g.name.opening ≡ []) gates → (network : ℕ)
      (side : GatedRingIs) → IsHomeOf gates network side.gate → Contains back side
      → BroughtAt network side
  brought-at unused network side home there =
      let at : slice_get gates (place_of_ring gates network) ≡ Some side.gate =
      (find-there (is_ring_of network) gates side.gate home).0 in
      let its = zip-there (is_ring_of network) (GathersAt [] back) gates purses side.gate whole
      home in
      let g = its.2 in
      record {
        pass = g.pass;
        kept = its.1 ∙ ap Some g.kept;
        unused = ap (λ n. n.opening) g.zero.gate_is
            ∙ All-contains (λ (x : RingGate). x.name.opening ≡ []) gates side.gate unused
            (contains-at gates (place_of_ring gates network) side.gate at);
        brought = g.brought side there refl;
      }

  module _ (unused : All (λ (g : RingGate). g.name.opening ≡ []) gates) where
    are-brought : {P L : Type 0} (network_of node_of : P → ℕ)
        (C : P → L → List RingEntry → Type 0) (plans : List P) (seats : List (Seat L))
        (logs : List L)
        → ((side : GatedRingIs) → Contains (map side_of_seat seats) side → Contains back side)
        → AllZip (λ plan (seat : Seat L). IfSome seat.log (λ log. C plan log seat.ring.seen))
        plans seats
        → AllZip (λ plan (seat : Seat L).
        IsSideOf gates (network_of plan) (node_of plan) seat.ring) plans seats
        → AllZip HasLog seats logs → AreBrought gates purses network_of node_of C plans logs
    are-brought network_of node_of C [] [] [] among ran at logged = tt
    are-brought network_of node_of C [] [] (l ∷ logs) among ran at logged = absurd logged
    are-brought network_of node_of C [] (s ∷ seats) logs among ran at logged = absurd ran
    are-brought network_of node_of C (p ∷ plans) [] logs among ran at logged = absurd ran
    are-brought network_of node_of C (p ∷ plans) (s ∷ seats) [] among ran at logged =
        absurd logged
    are-brought {P} {L} network_of node_of C (p ∷ plans) (s ∷ seats) (l ∷ logs) among ran at
        logged =
        let b = brought-at unused (network_of p) s.ring at.0.home
        (among s.ring (0, omega arith, refl)) in (
          record {
            side = s.ring;
            number = at.0.number;
            holds = subst (λ (o : Option L). IfSome o (λ log. C p log s.ring.seen)) logged.0
                ran.0;
            home = at.0.home;
            pass = b.pass;
            kept = b.kept;
            unused = b.unused;
            brought = b.brought;
          },
          are-brought network_of node_of C plans seats logs
              (λ side there. among side
              (Contains-append_right (s.ring ∷ []) (map side_of_seat seats) side there))
              ran.1 at.1 logged.1,
        )

    bridges-brought : (plant : Plant) (plans : List BridgePlan) (stations : List Crossing)
        (logs : List BridgeLog)
        → ((side : GatedRingIs) → Contains (flat_map sides_of_ends stations) side
        → Contains back side)
        → AllZip (BridgeHasRun seat_seen plant) plans stations
        → AllZip (AreEndsOf gates) plans stations → AllZip HasLog stations logs
        → AllZip (IsBridgeBrought plant gates purses) plans logs
    bridges-brought plant [] [] [] among ran at logged = tt
    bridges-brought plant [] [] (l ∷ logs) among ran at logged = absurd logged
    bridges-brought plant [] (s ∷ stations) logs among ran at logged = absurd ran
    bridges-brought plant (p ∷ plans) [] logs among ran at logged = absurd ran
    bridges-brought plant (p ∷ plans) (s ∷ stations) [] among ran at logged = absurd logged
    bridges-brought plant (p ∷ plans) (s ∷ stations) (l ∷ logs) among ran at logged =
        let left = s.ring.left in
        let right = s.ring.right in
        let one = brought-at unused p.left_net left at.0.left.home
        (among left (0, omega arith, refl)) in
        let two = brought-at unused p.right_net right at.0.right.home
        (among right (1, omega arith, refl)) in
        let c : BridgeCameToEnd plant p l left.seen right.seen =
        subst (λ (o : Option BridgeLog).
        IfSome o (λ log. BridgeCameToEnd plant p log left.seen right.seen)) logged.0 ran.0 in (
          record {
            legal = c.legal;
            left = record {
              side = left;
              number = at.0.left.number;
              holds = c.left_end;
              home = at.0.left.home;
              pass = one.pass;
              kept = one.kept;
              unused = one.unused;
              brought = one.brought;
            };
            right = record {
              side = right;
              number = at.0.right.number;
              holds = c.right_end;
              home = at.0.right.home;
              pass = two.pass;
              kept = two.kept;
              unused = two.unused;
              brought = two.brought;
            };
          },
          bridges-brought plant plans stations logs
              (λ side there. among side (Contains-append_right (left ∷ right ∷ [])
              (flat_map sides_of_ends stations) side there))
              ran.1 at.1 logged.1,
        )

-- ---- the whole way

-- stations of a plant as they were dealt, as they ran, and as they were gathered
module _ (plant : Plant) (scans : ℕ) (gates : List RingGate) where
  pub record Dealt (first last : List Purse) (controllers : List (Seat NotedLog))
      (hosts : List (Seat HostLog)) (bridges : List Crossing) : Type 0 where
    pub one : List Purse
    pub two : List Purse
    pub opened : AllZip IsOpened gates first
    pub ran : IsDealt gates first one (controller_nodes plant)
        (map key_of (map side_of_seat controllers))
    pub served : IsDealt gates one two (host_nodes plant) (map key_of (map side_of_seat hosts))
    pub crossed : IsDealt gates two last (flat_map ends_of_plan plant.bridges)
        (map key_of (flat_map sides_of_ends bridges))
    pub controllers_fresh : AllZip
        (λ (p : ControllerPlan). IsFreshSeat gates p.network p.node) plant.controllers controllers
    pub hosts_fresh : AllZip (λ (p : HostPlan). IsFreshSeat gates p.network p.node) plant.hosts
        hosts
    pub bridges_fresh : AllZip (IsFreshBridge gates) plant.bridges bridges

  pub record Ran (old new : List (Seat NotedLog)) (host_old host_new : List (Seat HostLog))
      (bridge_old bridge_new : List Crossing) : Type 0 where
    pub controllers : AllRan seat_side seat_seen plant scans plant.controllers old new
    pub hosts : AllServed seat_side seat_seen plant plant.hosts host_old host_new
    pub bridges : AllCrossed seat_side seat_seen plant plant.bridges bridge_old bridge_new

  pub record Gathered (first last : List Purse) (controllers : List (Seat NotedLog))
      (hosts : List (Seat HostLog)) (bridges : List Crossing) (logs : List NotedLog)
      (host_logs : List HostLog) (bridge_logs : List BridgeLog) (ran served crossed : Bool)
      : Type 0 where
    pub one : List Purse
    pub two : List Purse
    pub controllers_back : AreGathered gates first one (map side_of_seat controllers)
    pub hosts_back : AreGathered gates one two (map side_of_seat hosts)
    pub bridges_back : AreGathered gates two last (flat_map sides_of_ends bridges)
    pub logged : ran ≡ true → AllZip HasLog controllers logs
    pub hosts_logged : served ≡ true → AllZip HasLog hosts host_logs
    pub bridges_logged : crossed ≡ true → AllZip HasLog bridges bridge_logs

  -- by the plans as they are read
  pub dealt-from : (first one two last : List Purse) (controllers : List (Seat NotedLog))
      (hosts : List (Seat HostLog)) (bridges : List Crossing) (plans : List ControllerPlan)
      (host_plans : List HostPlan) (bridge_plans : List BridgePlan) → plans ≡ plant.controllers
      → host_plans ≡ plant.hosts → bridge_plans ≡ plant.bridges → AllZip IsOpened gates first
      → IsDealt gates first one (map (λ (p : ControllerPlan). p.node) plans)
      (map key_of (map side_of_seat controllers))
      → IsDealt gates one two (map (λ (p : HostPlan). p.node) host_plans)
      (map key_of (map side_of_seat hosts))
      → IsDealt gates two last (flat_map ends_of_plan bridge_plans)
      (map key_of (flat_map sides_of_ends bridges))
      → AllZip (λ (p : ControllerPlan). IsFreshSeat gates p.network p.node) plans controllers
      → AllZip (λ (p : HostPlan). IsFreshSeat gates p.network p.node) host_plans hosts
      → AllZip (IsFreshBridge gates) bridge_plans bridges
      → Dealt first last controllers hosts bridges
  dealt-from first one two last controllers hosts bridges plans host_plans bridge_plans is
      hosts-are bridges-are opened ran served crossed fresh hosts_fresh bridges_fresh = record {
        one = one;
        two = two;
        opened = opened;
        ran = subst (λ (l : List ControllerPlan). IsDealt gates first one
            (map (λ (p : ControllerPlan). p.node) l) (map key_of (map side_of_seat controllers)))
            is ran;
        served = subst (λ (l : List HostPlan). IsDealt gates one two
            (map (λ (p : HostPlan). p.node) l) (map key_of (map side_of_seat hosts))) hosts-are
            served;
        crossed = subst (λ (l : List BridgePlan). IsDealt gates two last
            (flat_map ends_of_plan l) (map key_of (flat_map sides_of_ends bridges))) bridges-are
            crossed;
        controllers_fresh = subst (λ (l : List ControllerPlan).
            AllZip (λ (p : ControllerPlan). IsFreshSeat gates p.network p.node) l controllers) is
            fresh;
        hosts_fresh = subst (λ (l : List HostPlan).
            AllZip (λ (p : HostPlan). IsFreshSeat gates p.network p.node) l hosts) hosts-are
            hosts_fresh;
        bridges_fresh = subst (λ (l : List BridgePlan). AllZip (IsFreshBridge gates) l bridges)
            bridges-are bridges_fresh;
      }

  -- all passes that are out have these gates and numbers
  pub dealt-all : (first last : List Purse) (controllers : List (Seat NotedLog))
      (hosts : List (Seat HostLog)) (bridges : List Crossing)
      → Dealt first last controllers hosts bridges
      → AllZip (DealsAt (reverse (flat_map ends_of_plan plant.bridges)
      ++ (reverse (host_nodes plant) ++ (reverse (controller_nodes plant) ++ [])))
      ((map key_of (map side_of_seat controllers) ++ map key_of (map side_of_seat hosts))
      ++ map key_of (flat_map sides_of_ends bridges))) gates last
  dealt-all first last controllers hosts bridges d =
      let kc = map key_of (map side_of_seat controllers) in
      let kh = map key_of (map side_of_seat hosts) in
      let cs = reverse (controller_nodes plant) ++ [] in
      d.crossed (reverse (host_nodes plant) ++ cs) (kc ++ kh)
      (d.served cs kc (d.ran [] [] (to-deal gates first d.opened)))

  -- and so they have where the stations ran
  pub dealt-after : (first last : List Purse) (old new : List (Seat NotedLog))
      (host_old host_new : List (Seat HostLog)) (bridge_old bridge_new : List Crossing)
      → Dealt first last old host_old bridge_old
      → Ran old new host_old host_new bridge_old bridge_new
      → AllZip (GathersAt (map key_of (map side_of_seat new)
      ++ (map key_of (map side_of_seat host_new)
      ++ (map key_of (flat_map sides_of_ends bridge_new) ++ []))) []) gates last
  dealt-after first last old new host_old host_new bridge_old bridge_new d r =
      let kc = map key_of (map side_of_seat old) in
      let kh = map key_of (map side_of_seat host_old) in
      let kb = map key_of (flat_map sides_of_ends bridge_old) in
      let sc = sym (keys-kept old new r.controllers.sides) in
      let sh = sym (keys-kept host_old host_new r.hosts.sides) in
      let sb = sym (end-keys-kept bridge_old bridge_new r.bridges.sides)
      ∙ sym (append-nil (map key_of (flat_map sides_of_ends bridge_new))) in
      let same = append_assoc kc kh kb ∙ (λ i. sc i ++ (sh i ++ sb i)) in
      subst (λ (out : List Key). AllZip (GathersAt out []) gates last) same
      (to-gather (reverse (flat_map ends_of_plan plant.bridges)
      ++ (reverse (host_nodes plant) ++ (reverse (controller_nodes plant) ++ [])))
      ((kc ++ kh) ++ kb) gates last
      (dealt-all first last old host_old bridge_old d))

  pub through-all : (first mid last : List Purse) (old new : List (Seat NotedLog))
      (host_old host_new : List (Seat HostLog)) (bridge_old bridge_new : List Crossing)
      (logs : List NotedLog) (host_logs : List HostLog) (bridge_logs : List BridgeLog)
      (ran served crossed : Bool) → Dealt first mid old host_old bridge_old
      → Ran old new host_old host_new bridge_old bridge_new
      → Gathered mid last new host_new bridge_new logs host_logs bridge_logs ran served crossed
      → IsThrough plant scans gates last logs host_logs bridge_logs ((ran && served) && crossed)
  through-all first mid last old new host_old host_new bridge_old bridge_new logs host_logs
      bridge_logs ran served crossed d r g =
      let sc = map side_of_seat new in
      let sh = map side_of_seat host_new in
      let sb = flat_map sides_of_ends bridge_new in
      let kb = map key_of sb ++ [] in
      let start = dealt-after first mid old new host_old host_new bridge_old bridge_new d r in
      let whole : AllZip (GathersAt [] ((sc ++ sh) ++ sb)) gates last =
      g.bridges_back [] (sc ++ sh)
      (g.hosts_back kb sc (g.controllers_back (map key_of sh ++ kb) [] start)) in
      let unused = opened-unused gates first d.opened in
      record {
        closable = gathered-closable gates last ((sc ++ sh) ++ sb) whole;
        ran = λ yes'.
            are-brought gates last ((sc ++ sh) ++ sb) whole unused
            (λ (p : ControllerPlan). p.network) (λ (p : ControllerPlan). p.node)
            (CameNoted plant scans) plant.controllers new logs
            (λ side there. Contains-append_left (sc ++ sh) sb side
            (Contains-append_left sc sh side there))
            r.controllers.ran
            (seats-after gates (λ (p : ControllerPlan). p.network)
            (λ (p : ControllerPlan). p.node) plant.controllers old new d.controllers_fresh
            r.controllers.sides)
            (g.logged (and_parts ran served (and_parts (ran && served) crossed yes').0).0);
        served = λ yes'.
            are-brought gates last ((sc ++ sh) ++ sb) whole unused
            (λ (p : HostPlan). p.network) (λ (p : HostPlan). p.node) (HostCameToEnd plant)
            plant.hosts host_new host_logs
            (λ side there. Contains-append_left (sc ++ sh) sb side
            (Contains-append_right sc sh side there))
            r.hosts.ran
            (seats-after gates (λ (p : HostPlan). p.network) (λ (p : HostPlan). p.node)
            plant.hosts host_old host_new d.hosts_fresh r.hosts.sides)
            (g.hosts_logged
            (and_parts ran served (and_parts (ran && served) crossed yes').0).1);
        crossed = λ yes'.
            bridges-brought gates last ((sc ++ sh) ++ sb) whole unused plant plant.bridges
            bridge_new bridge_logs
            (λ side there. Contains-append_right (sc ++ sh) sb side there) r.bridges.ran
            (ends-after gates plant.bridges bridge_old bridge_new d.bridges_fresh
            r.bridges.sides)
            (g.bridges_logged (and_parts (ran && served) crossed yes').1);
      }

-- a run that could not begin
pub not-through : (plant : Plant) (scans : ℕ) (gates : List RingGate) (purses : List Purse)
    (logs : List NotedLog) (host_logs : List HostLog) (bridge_logs : List BridgeLog) (done : Bool)
    → done ≡ false → AllZip IsOpened gates purses
    → IsThrough plant scans gates purses logs host_logs bridge_logs done
not-through plant scans gates purses logs host_logs bridge_logs done not' opened = record {
  closable = opened-closable gates purses opened;
  ran = λ yes'. absurd (let no' : false ≡ true = sym not' ∙ yes' in cc);
  served = λ yes'. absurd (let no' : false ≡ true = sym not' ∙ yes' in cc);
  crossed = λ yes'. absurd (let no' : false ≡ true = sym not' ∙ yes' in cc);
}

-- each controller of a plant that can run can run
pub can-run : (plant : Plant) (scans : ℕ) → CanRunPlant plant → scans ≤ most_scans
    → CanRunAll plant scans plant.controllers
can-run plant scans can few k d within = record {
  plan = can.controllers k d within;
  scan_time = can.sound.scan_time.to;
  watchdog = can.sound.watchdog.from;
  scans = few;
}

-- and its bridges have plans
pub bridge-plans : (plant : Plant) → IsPlant plant → AreBridgePlans plant.bridges
bridge-plans plant sound =
    All-weaker (IsBridgeOf plant) IsBridgePlan (λ p is. is.plan) plant.bridges sound.bridges

-- its controllers and hosts are on their networks, and are no ends of bridges there
pub controllers-on : (plant : Plant) → IsPlant plant
    → All (λ (p : ControllerPlan). IsStationOn plant p.network p.node) plant.controllers
controllers-on plant sound =
    all-there (λ (p : ControllerPlan). IsStationOn plant p.network p.node) plant.controllers
    (λ p there.
    let on = controller-on plant p sound there in
    record {
      on = on;
      no_bridge = subst (λ (net : NetPlan). IsNoBridge net p.node) (sym on.is)
          (controller-no-bridge plant p on.net sound there on.there);
    })

pub hosts-on : (plant : Plant) → IsPlant plant
    → All (λ (p : HostPlan). IsStationOn plant p.network p.node) plant.hosts
hosts-on plant sound =
    all-there (λ (p : HostPlan). IsStationOn plant p.network p.node) plant.hosts
    (λ p there.
    let on = host-on plant p sound there in
    record {
      on = on;
      no_bridge = subst (λ (net : NetPlan). IsNoBridge net p.node) (sym on.is)
          (host-no-bridge plant p on.net sound there on.there);
    })

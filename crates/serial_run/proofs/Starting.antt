-- Stations at their start.
use Rattle.std.proofs.Common.{◌≡◌, ℕ, ◌+◌, ◌<◌, ◌==◌, true, false, List, [], ◌∷◌, Option}
use Rattle.std.proofs.Common.{Some, refl, sym, ap, subst, ◌∙◌, arith}
use Rattle.std.specs.List.{AllZip, slice_get}
use Rattle.std.proofs.lemmas.Bool.{cond_both}
use Rattle.std.proofs.lemmas.List.Elements.{All-contains}
use Rattle.plant_types.specs.declared.net.BridgePlan.{BridgePlan}
use Rattle.plant_types.specs.declared.net.HostPlan.{HostPlan}
use Rattle.plant_types.specs.declared.net.NetPlan.{NetPlan}
use Rattle.plant_types.specs.declared.plan.ControllerPlan.{ControllerPlan}
use Rattle.plant_types.specs.declared.plan.Plant.{Plant}
use Rattle.plant_types.specs.Plans.{IsBridgeOf, IsBridgePlan, IsNetPlan, IsPlant, net_of}
use Rattle.ring_core.specs.declared.entry.RingEntry.{RingEntry}
use Rattle.ring_core.specs.Kept.{KeptRing}
use Rattle.ring_core.specs.Legal.{IsLegalRing, IsMember}
use Rattle.ring_core.specs.Machine.{addresses}
use Rattle.bridge_relay.specs.Bridge.{BridgeIs}
use Rattle.bridge_station.specs.Station.{EndStationIs, end_station}
use Rattle.bridge_station.specs.Stands.{StandsEnd}
use Rattle.controller_core.specs.Controller.{ControllerIs, IsLegal, left_of}
use Rattle.controller_core.specs.declared.entry.Entry.{Entry}
use Rattle.controller_core.specs.Replay.{replay}
use Rattle.controller_core.specs.Scans.{scans_from}
use Rattle.joint_history.specs.JointLaws.{fixed_of}
use Rattle.comm_port.specs.Worker.{WorkerIs, new_worker}
use Rattle.comm_port.specs.HostTurns.{HostWorkerIs}
use Rattle.comm_port.proofs.HostTurnLaws.{host-ties-new}
use Rattle.comm_port.proofs.Standings.{standing-new}
use Rattle.comm_port.specs.HostStands.{own_side}
use Rattle.host_port.specs.Host.{HostIs}
use Rattle.host_port.specs.Legal.{IsHostHistory}
use Rattle.net_laws.proofs.On.{left-on, right-on}
use Rattle.tied_lists.specs.Waits.{has_left}
use Rattle.bridge_station.proofs.TurnLaws.{host-starts, member-there, starts}
use Rattle.whole_scan.specs.Scans.{IsBetweenScans}
use Rattle.serial_run.specs.declared.stations.BridgeSite.{BridgeSite}
use Rattle.serial_run.specs.declared.stations.ControllerStation.{ControllerStation}
use Rattle.serial_run.specs.declared.stations.RingStation.{RingStation}
use Rattle.serial_run.specs.declared.stations.Stations.{Stations}
use Rattle.serial_run.specs.Turns.{empty_bridge_log, empty_host_log, empty_log, empty_ring_log}
use Rattle.serial_run.specs.Turns.{node_has_left}
use Rattle.serial_run.specs.Stations.{HostStandsOn, StandsController, StandsHost, StandsOn}
use Rattle.serial_run.specs.Stations.{StandsRing, StandsSite, StartsBridgeSite, StartsController}
use Rattle.serial_run.specs.Stations.{StartsHost, StartsRing, StartBridges, StartControllers}
use Rattle.serial_run.specs.Stations.{StartHosts, StartRings, Starts, host_log_of, log_of}
use Rattle.serial_run.specs.Stations.{log_of_ring, log_of_site, ring_if, ring_on, station_on}
use Rattle.serial_run.proofs.Lists.{zip-each, zip-other, zip-same-map}
use Rattle.serial_run.proofs.Networks.{contains-at, low-members}

nobody-left : (net : NetPlan) → IsNetPlan net → (n : ℕ) → IsMember net n
    → false ≡ node_has_left net [] n
nobody-left net sound n member =
    let low = All-contains (λ m. m < addresses) net.members n (low-members net sound) member in
    sym (ap has_left (member-there net n low member))

pub start-controller : (plant : Plant) (scans : ℕ) (plan : ControllerPlan) (v : ControllerIs)
    (w : WorkerIs) → IsNetPlan (net_of plant plan.node) → IsMember (net_of plant plan.node)
    plan.node
    → IsLegal (fixed_of plant scans plan) []
    → v ≡ record { fixed = fixed_of plant scans plan; history = []; reserved = false }
    → w ≡ new_worker plan.node true
    → StartsController plant scans plan (record {
      node = plan.node;
      network = plan.network;
      controller = v;
      worker = w;
      left = false;
    })
start-controller plant scans plan v w sound member legal v-is w-is =
    let home = net_of plant plan.node in
    subst (λ (v : ControllerIs). StartsController plant scans plan (record {
      node = plan.node;
      network = plan.network;
      controller = v;
      worker = w;
      left = false;
    })) (sym v-is)
    (subst (λ (w : WorkerIs). StartsController plant scans plan (record {
      node = plan.node;
      network = plan.network;
      controller = record { fixed = fixed_of plant scans plan; history = []; reserved = false };
      worker = w;
      left = false;
    })) (sym w-is)
    (record {
      stands = record {
        node = refl;
        network = refl;
        worker_node = refl;
        budget = refl;
        fixed = refl;
        legal = legal;
        standing = standing-new plan.node true
            (record { fixed = fixed_of plant scans plan; place = tt }) [] (own_side home)
            refl (record {
              members = low-members home sound;
              member = member;
              answer = let from = sound.numbers.answer.from in omega (arith, from);
            }) tt refl;
        left = nobody-left home sound plan.node member;
        keeps = starts (fixed_of plant scans plan) home plan.node [] refl;
      };
      nothing = refl;
      here = refl;
    }))

pub start-host : (plant : Plant) (plan : HostPlan) (v : HostIs) (w : HostWorkerIs)
    → IsNetPlan (net_of plant plan.node) → IsMember (net_of plant plan.node) plan.node
    → IsHostHistory plan [] → v ≡ record { plan = plan; history = [] }
    → w ≡ record { node = plan.node; budget = true; passes = 0 }
    → StartsHost plant plan (record {
      node = plan.node;
      network = plan.network;
      host = v;
      worker = w;
      left = false;
    })
start-host plant plan v w sound member legal v-is w-is =
    let home = net_of plant plan.node in
    subst (λ (v : HostIs). StartsHost plant plan (record {
      node = plan.node;
      network = plan.network;
      host = v;
      worker = w;
      left = false;
    })) (sym v-is)
    (subst (λ (w : HostWorkerIs). StartsHost plant plan (record {
      node = plan.node;
      network = plan.network;
      host = record { plan = plan; history = [] };
      worker = w;
      left = false;
    })) (sym w-is)
    (record {
      stands = record {
        node = refl;
        network = refl;
        worker_node = refl;
        budget = refl;
        plan_is = refl;
        ties = host-ties-new plan (own_side home) legal tt
            (record {
              members = low-members home sound;
              legal = tt;
              member = member;
              patient = tt;
            })
            (let from = sound.numbers.answer.from in omega (arith, from));
        counts = refl;
        left = nobody-left home sound plan.node member;
        keeps = host-starts plan home [] refl;
      };
      nothing = refl;
    }))

-- a bridge's ends are members of networks of the plant
pub record SiteFits (plant : Plant) (bridge : BridgePlan) : Type 0 where
  pub plan : IsBridgePlan bridge
  pub left_net : IsNetPlan (net_of plant bridge.left)
  pub left : IsMember (net_of plant bridge.left) bridge.left
  pub right_net : IsNetPlan (net_of plant bridge.right)
  pub right : IsMember (net_of plant bridge.right) bridge.right

pub site-fits : (plant : Plant) → IsPlant plant → (at : ℕ) (plan : BridgePlan)
    → slice_get plant.bridges at ≡ Some plan → SiteFits plant plan
site-fits plant sound at plan is =
    let there = contains-at plant.bridges at plan is in
    let left = left-on plant plan sound there in
    let right = right-on plant plan sound there in
    record {
      plan = (All-contains (IsBridgeOf plant) plant.bridges plan sound.bridges there).plan;
      left_net = subst IsNetPlan (sym left.is) left.sound;
      left = subst (λ (net : NetPlan). IsMember net plan.left) (sym left.is) left.member;
      right_net = subst IsNetPlan (sym right.is) right.sound;
      right = subst (λ (net : NetPlan). IsMember net plan.right) (sym right.is) right.member;
    }

-- ---- all stations

-- the ring of each network is empty at first
ring-starts : (net : NetPlan) (r : RingStation) → StartsRing net r → StandsRing net r
ring-starts net r st = record {
  network = st.network;
  members = st.members;
  net_is = ap (λ (k : KeptRing). k.net) st.ring;
  legal = subst (λ (k : KeptRing). IsLegalRing net k.history) (sym st.ring) tt;
}

empty-rings : (nets : List NetPlan) (rings : List RingStation) → AllZip StartsRing nets rings
    → (k : ℕ) → (ring_on rings k).history ≡ []
empty-rings [] [] all k = refl
empty-rings [] (r ∷ rings) all k = absurd all
empty-rings (net ∷ nets) [] all k = absurd all
empty-rings (net ∷ nets) (r ∷ rings) all k =
    cond_both (r.network == k) (Some r) (station_on rings k)
    (λ (o : Option RingStation). (ring_if o).history ≡ [])
    (λ _. ap (λ (x : KeptRing). x.history) all.0.ring)
    (λ _. empty-rings nets rings all.1 k)

site-starts : (plant : Plant) (rings : List RingStation) → ((k : ℕ) → (ring_on rings k).history ≡
    [])
    → (plan : BridgePlan) (site : BridgeSite) → StartsBridgeSite plant plan site
    → StandsSite plant rings plan site
site-starts plant rings empty plan site st =
    let s = site.station in
    let is : s.bridge.plan ≡ plan = ap (λ (b : BridgeIs). b.plan) st.starts.bridge in
    record {
      plan_is = st.plan_is;
      bridge_is = is;
      left_budget = budget-at plan.left;
      right_budget = budget-at plan.right;
      left = subst (λ (l : List RingEntry). StandsEnd plan.left s (net_of plant plan.left) l)
          (sym (empty plan.left_net))
          (subst (λ (p : BridgePlan). StandsEnd p.left s (net_of plant plan.left) []) is
          st.starts.stands.left);
      right = subst (λ (l : List RingEntry). StandsEnd plan.right s (net_of plant plan.right) l)
          (sym (empty plan.right_net))
          (subst (λ (p : BridgePlan). StandsEnd p.right s (net_of plant plan.right) []) is
          st.starts.stands.right);
    }
  where
    budget-at : (side : ℕ) → (end_station side site.station).worker.budget ≡ true
    budget-at side = cond_both (side == site.station.bridge.plan.left) site.station.left
        site.station.right (λ (e : EndStationIs). e.worker.budget ≡ true)
        (λ _. ap (λ (e : EndStationIs). e.worker.budget) st.starts.left)
        (λ _. ap (λ (e : EndStationIs). e.worker.budget) st.starts.right)

pub start-all : (plant : Plant) (scans : ℕ) (run : Stations) → IsPlant plant
    → StartControllers plant scans run.controllers.items → StartHosts plant run.hosts.items
    → StartBridges plant run.bridges.items → StartRings plant run.rings.items
    → Starts plant scans run
start-all plant scans run sound controllers hosts bridges rings = record {
  stand = record {
    sound = sound;
    rings = zip-other StartsRing StandsRing plant.nets run.rings.items rings
        (λ k x y at-x at-y st. ring-starts x y st);
    controllers = zip-other (StartsController plant scans) (StandsOn plant scans run.rings.items)
        plant.controllers run.controllers.items controllers
        (λ k x y at-x at-y s. subst (λ (l : List RingEntry). StandsController plant scans l x y)
        (sym (empty x.network)) s.stands);
    hosts = zip-other (StartsHost plant) (HostStandsOn plant run.rings.items) plant.hosts
        run.hosts.items hosts
        (λ k x y at-x at-y s. subst (λ (l : List RingEntry). StandsHost plant l x y)
        (sym (empty x.network)) s.stands);
    bridges = zip-other (StartsBridgeSite plant) (StandsSite plant run.rings.items) plant.bridges
        run.bridges.items bridges
        (λ k x y at-x at-y s. site-starts plant run.rings.items empty x y s);
  };
  nothing =
      let a = zip-same-map (StartsController plant scans) empty_log log_of plant.controllers
      run.controllers.items controllers
      (λ x y s. (λ i. record { node = s.stands.node i; entries = s.nothing i })) in
      let b = zip-same-map (StartsHost plant) empty_host_log host_log_of plant.hosts run.hosts.items
      hosts
      (λ x y s. (λ i. record { node = s.stands.node i; entries = s.nothing i })) in
      let c = zip-same-map (StartsBridgeSite plant) empty_bridge_log log_of_site plant.bridges
      run.bridges.items bridges
      (λ x y s. (λ i. record {
        left = (s.starts.bridge i).plan.left;
        right = (s.starts.bridge i).plan.right;
        entries = (s.starts.bridge i).history;
      })) in
      let d = zip-same-map StartsRing empty_ring_log log_of_ring plant.nets run.rings.items rings
      (λ x y s. (λ i. record { network = s.network i; entries = (s.ring i).history })) in
      λ i. record {
        controllers = a i;
        hosts = b i;
        bridges = c i;
        rings = d i;
      };
  between = zip-each (StartsController plant scans)
      (λ (s : ControllerStation). IsBetweenScans s.controller) plant.controllers
      run.controllers.items
      controllers (λ x y s. record {
        many = y.controller.fixed.scans;
        left = λ goes. ap (λ (h : List Entry). left_of y.controller.fixed h) s.nothing
            ∙ sym (ap (λ (h : List Entry). scans_from y.controller.fixed
            ((replay y.controller.fixed h).gone + 1) y.controller.fixed.scans) s.nothing);
      });
  here = zip-each (StartsController plant scans) (λ (s : ControllerStation). s.left ≡ false)
      plant.controllers run.controllers.items
      controllers (λ x y s. s.here);
} where
  empty : (k : ℕ) → (ring_on run.rings.items k).history ≡ []
  empty = empty-rings plant.nets run.rings.items rings

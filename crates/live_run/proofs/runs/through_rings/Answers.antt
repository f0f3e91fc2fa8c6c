use Rattle.std.proofs.Common.{◌++◌, [], List, map, refl, reverse, sym, subst}
use Rattle.std.specs.Prelude.{flat_map}
use Rattle.std.specs.List.{All, AllZip}
use Rattle.plant_types.specs.declared.net.BridgePlan.{BridgePlan}
use Rattle.plant_types.specs.declared.net.HostPlan.{HostPlan}
use Rattle.plant_types.specs.declared.plan.ControllerPlan.{ControllerPlan}
use Rattle.joint_history.specs.declared.joint.HostLog.{HostLog}
use Rattle.live_workers.specs.declared.stations.NotedLog.{NotedLog}
use Rattle.live_workers.specs.Stations.{AllCrossed, AllRan, AllServed}
use Rattle.live_workers.specs.Stations.{AreBridgesFresh, AreFresh, HasRun, HostHasRun}
use Rattle.live_workers.specs.Stations.{BridgeHasRun, ends_side}
use Rattle.live_workers.proofs.Ran.{kept-whole, ran-long}
use Rattle.live_run.specs.Dealing.{HasLog, IsFreshSeat, AreGathered}
use Rattle.live_run.specs.Dealing.{Seat, key_of, side_of_seat}
use Rattle.live_run.specs.Ends.{Crossing, IsFreshBridge, ends_of_plan, sides_of_ends}
use Rattle.live_run.specs.Homes.{HasRing}
use Rattle.live_run.proofs.Nodes.{controllers-rings, ends-rings, hosts-rings, nodes-read, rings-low}
use Rattle.live_run.proofs.Nodes.{rings-apart}
use Rattle.live_run.proofs.Seats.{bridges-fresh, ends-back, seat_seen, seat_side, seats-back}
use Rattle.live_run.proofs.Seats.{seats-fresh}
use Rattle.live_run.proofs.Through.{bridge-plans, can-run, controllers-on}
use Rattle.live_run.proofs.Through.{deals-keep, dealt-from, hosts-on, not-through}
use Rattle.live_run.proofs.Through.{opened-unused, through-all, to-deal}
use Rattle.live_run.proofs.runs.through_rings.Goals as goal

-- ---- passes are dealt

pub deal-controllers-requires-clause-members : goal.deal-controllers-requires-clause-members
deal-controllers-requires-clause-members g c =
    rings-low c.args.run.now.plant.now c.requires.plant.sound c.args.homes.now c.requires.nets

pub deal-controllers-requires-clause-rings : goal.deal-controllers-requires-clause-rings
deal-controllers-requires-clause-rings g c =
    let gates = c.args.homes.now in
    subst (λ (l : List ControllerPlan). All (λ (p : ControllerPlan). HasRing gates p.network) l)
    (sym c.as_slice-plans.ensures)
    (controllers-rings c.args.run.now.plant.now c.requires.plant.sound gates c.requires.nets)

pub deal-controllers-requires-clause-ready : goal.deal-controllers-requires-clause-ready
deal-controllers-requires-clause-ready g c = record {
  dealt = [];
  out = [];
  deals = to-deal c.args.homes.now c.args.purses.now c.requires.opened;
  new = (nodes-read c.args.run.now.plant.now c.as_slice-plans.result.now
      c.as_slice-host_plans.result.now c.as_slice-bridge_plans.result.now c.requires.plant.sound
      c.as_slice-plans.ensures c.as_slice-host_plans.ensures
      c.as_slice-bridge_plans.ensures).controllers;
}

pub deal-hosts-requires-clause-members : goal.deal-hosts-requires-clause-members
deal-hosts-requires-clause-members g c =
    rings-low c.args.run.now.plant.now c.requires.plant.sound c.args.homes.now c.requires.nets

pub deal-hosts-requires-clause-rings : goal.deal-hosts-requires-clause-rings
deal-hosts-requires-clause-rings g c =
    let gates = c.args.homes.now in
    subst (λ (l : List HostPlan). All (λ (p : HostPlan). HasRing gates p.network) l)
    (sym c.as_slice-host_plans.ensures)
    (hosts-rings c.args.run.now.plant.now c.requires.plant.sound gates c.requires.nets)

pub deal-hosts-requires-clause-ready : goal.deal-hosts-requires-clause-ready
deal-hosts-requires-clause-ready g c = record {
  dealt = reverse (map (λ (p : ControllerPlan). p.node) c.as_slice-plans.result.now) ++ [];
  out = map key_of (map side_of_seat c.deal-controllers.result.items);
  deals = c.deal-controllers.ensures.dealt [] []
      (to-deal c.args.homes.now c.args.purses.now c.requires.opened);
  new = (nodes-read c.args.run.now.plant.now c.as_slice-plans.result.now
      c.as_slice-host_plans.result.now c.as_slice-bridge_plans.result.now c.requires.plant.sound
      c.as_slice-plans.ensures c.as_slice-host_plans.ensures
      c.as_slice-bridge_plans.ensures).hosts;
}

pub deal_ends-bridges-requires-clause-members : goal.deal_ends-bridges-requires-clause-members
deal_ends-bridges-requires-clause-members g c =
    rings-low c.args.run.now.plant.now c.requires.plant.sound c.args.homes.now c.requires.nets

pub deal_ends-bridges-requires-clause-rings : goal.deal_ends-bridges-requires-clause-rings
deal_ends-bridges-requires-clause-rings g c =
    let gates = c.args.homes.now in
    subst (λ (l : List BridgePlan).
    All (λ (p : BridgePlan). HasRing gates p.left_net × HasRing gates p.right_net) l)
    (sym c.as_slice-bridge_plans.ensures)
    (ends-rings c.args.run.now.plant.now c.requires.plant.sound gates c.requires.nets)

pub deal_ends-bridges-requires-clause-ready : goal.deal_ends-bridges-requires-clause-ready
deal_ends-bridges-requires-clause-ready g c =
    let cs = reverse (map (λ (p : ControllerPlan). p.node) c.as_slice-plans.result.now) ++ [] in
    let kc = map key_of (map side_of_seat c.deal-controllers.result.items) in
    record {
      dealt = reverse (map (λ (p : HostPlan). p.node) c.as_slice-host_plans.result.now) ++ cs;
      out = kc ++ map key_of (map side_of_seat c.deal-hosts.result.items);
      deals = c.deal-hosts.ensures.dealt cs kc (c.deal-controllers.ensures.dealt [] []
          (to-deal c.args.homes.now c.args.purses.now c.requires.opened));
      new = (nodes-read c.args.run.now.plant.now c.as_slice-plans.result.now
          c.as_slice-host_plans.result.now c.as_slice-bridge_plans.result.now
          c.requires.plant.sound c.as_slice-plans.ensures c.as_slice-host_plans.ensures
          c.as_slice-bridge_plans.ensures).ends;
    }

-- ---- the stations run

pub run_all-requires-clause-nodes : goal.run_all-requires-clause-nodes
run_all-requires-clause-nodes g c κs within =
    let plant = c.args.run.now.plant.now in
    let gates = c.args.homes.now in
    let sound = c.requires.plant.sound in
    let seats = c.deal-controllers.result.items in
    let host_seats = c.deal-hosts.result.items in
    let unused = opened-unused gates c.args.purses.now c.requires.opened in
    record {
      can_run = can-run plant c.args.run.now.scans c.requires.plant c.requires.scans;
      can_serve = sound.hosts;
      fresh = subst (λ (l : List (Seat NotedLog)). AreFresh seat_side seat_seen plant
          (λ (p : ControllerPlan). p.node) plant.controllers l) (sym c.as_mut_slice.ensures.value)
          (seats-fresh plant sound gates c.requires.nets unused
          (λ (p : ControllerPlan). p.network) (λ (p : ControllerPlan). p.node) plant.controllers
          seats (controllers-on plant sound)
          (subst (λ (l : List ControllerPlan).
          AllZip (λ (p : ControllerPlan). IsFreshSeat gates p.network p.node) l seats)
          c.as_slice-plans.ensures c.deal-controllers.ensures.seats));
      fresh_hosts = subst (λ (l : List (Seat HostLog)). AreFresh seat_side seat_seen plant
          (λ (p : HostPlan). p.node) plant.hosts l) (sym c.as_mut_slice-2.ensures.value)
          (seats-fresh plant sound gates c.requires.nets unused
          (λ (p : HostPlan). p.network) (λ (p : HostPlan). p.node) plant.hosts host_seats
          (hosts-on plant sound)
          (subst (λ (l : List HostPlan).
          AllZip (λ (p : HostPlan). IsFreshSeat gates p.network p.node) l host_seats)
          c.as_slice-host_plans.ensures c.deal-hosts.ensures.seats));
    }

pub run_all-requires-clause-bridges : goal.run_all-requires-clause-bridges
run_all-requires-clause-bridges g c κs within =
    let plant = c.args.run.now.plant.now in
    let gates = c.args.homes.now in
    let sound = c.requires.plant.sound in
    let stations = c.deal_ends-bridges.result.items in
    record {
      plans = bridge-plans plant sound;
      fresh = subst (λ (l : List Crossing).
          AreBridgesFresh seat_side seat_seen plant plant.bridges l)
          (sym c.as_mut_slice-3.ensures.value)
          (bridges-fresh plant sound gates c.requires.nets
          (opened-unused gates c.args.purses.now c.requires.opened) stations
          (subst (λ (l : List BridgePlan). AllZip (IsFreshBridge gates) l stations)
          c.as_slice-bridge_plans.ensures c.deal_ends-bridges.ensures.seats));
    }

-- ---- passes are gathered

pub gather-controllers-requires-clause-apart : goal.gather-controllers-requires-clause-apart
gather-controllers-requires-clause-apart g c =
    rings-apart c.args.run.now.plant.now c.requires.plant.sound c.args.homes.now c.requires.nets

pub gather-controllers-requires-clause-unused : goal.gather-controllers-requires-clause-unused
gather-controllers-requires-clause-unused g c =
    opened-unused c.args.homes.now c.args.purses.now c.requires.opened

pub gather-controllers-requires-clause-keeps : goal.gather-controllers-requires-clause-keeps
gather-controllers-requires-clause-keeps g c =
    let cs = reverse (map (λ (p : ControllerPlan). p.node) c.as_slice-plans.result.now) ++ [] in
    let hs = reverse (map (λ (p : HostPlan). p.node) c.as_slice-host_plans.result.now) ++ cs in
    let kc = map key_of (map side_of_seat c.deal-controllers.result.items) in
    let kh = map key_of (map side_of_seat c.deal-hosts.result.items) in
    let kb = map key_of (flat_map sides_of_ends c.deal_ends-bridges.result.items) in
    deals-keep (reverse (flat_map ends_of_plan c.as_slice-bridge_plans.result.now) ++ hs)
    ((kc ++ kh) ++ kb) c.args.homes.now c.deal_ends-bridges.new.purses
    (c.deal_ends-bridges.ensures.dealt hs (kc ++ kh) (c.deal-hosts.ensures.dealt cs kc
    (c.deal-controllers.ensures.dealt [] []
    (to-deal c.args.homes.now c.args.purses.now c.requires.opened))))

pub gather-controllers-requires-clause-at : goal.gather-controllers-requires-clause-at
gather-controllers-requires-clause-at g c =
    let plant = c.args.run.now.plant.now in
    let gates = c.args.homes.now in
    let dealt = c.deal-controllers.result in
    let old = c.as_mut_slice.result.now in
    let new = c.run_all.new.controllers in
    let ran : AllRan seat_side seat_seen plant c.args.run.now.scans plant.controllers old new =
    c.run_all.ensures.controllers in
    let whole = kept-whole dealt.items old new dealt.len c.as_mut_slice.ensures.value
    (ran-long seat_side (HasRun seat_seen plant c.args.run.now.scans) plant.controllers old new ran)
    c.as_mut_slice.ensures.len in
    seats-back gates (λ (p : ControllerPlan). p.network) (λ (p : ControllerPlan). p.node)
    c.as_slice-plans.result.now dealt.items old new _ c.as_mut_slice.ensures.value ran.sides whole
    c.deal-controllers.ensures.seats

pub gather-hosts-requires-clause-apart : goal.gather-hosts-requires-clause-apart
gather-hosts-requires-clause-apart g c =
    rings-apart c.args.run.now.plant.now c.requires.plant.sound c.args.homes.now c.requires.nets

pub gather-hosts-requires-clause-unused : goal.gather-hosts-requires-clause-unused
gather-hosts-requires-clause-unused g c =
    opened-unused c.args.homes.now c.args.purses.now c.requires.opened

pub gather-hosts-requires-clause-at : goal.gather-hosts-requires-clause-at
gather-hosts-requires-clause-at g c =
    let plant = c.args.run.now.plant.now in
    let gates = c.args.homes.now in
    let dealt = c.deal-hosts.result in
    let old = c.as_mut_slice-2.result.now in
    let new = c.run_all.new.hosts in
    let ran : AllServed seat_side seat_seen plant plant.hosts old new = c.run_all.ensures.hosts in
    let whole = kept-whole dealt.items old new dealt.len c.as_mut_slice-2.ensures.value
    (ran-long seat_side (HostHasRun seat_seen plant) plant.hosts old new ran)
    c.as_mut_slice-2.ensures.len in
    seats-back gates (λ (p : HostPlan). p.network) (λ (p : HostPlan). p.node)
    c.as_slice-host_plans.result.now dealt.items old new _ c.as_mut_slice-2.ensures.value ran.sides
    whole c.deal-hosts.ensures.seats

pub gather_ends-bridges-requires-clause-apart : goal.gather_ends-bridges-requires-clause-apart
gather_ends-bridges-requires-clause-apart g c =
    rings-apart c.args.run.now.plant.now c.requires.plant.sound c.args.homes.now c.requires.nets

pub gather_ends-bridges-requires-clause-unused : goal.gather_ends-bridges-requires-clause-unused
gather_ends-bridges-requires-clause-unused g c =
    opened-unused c.args.homes.now c.args.purses.now c.requires.opened

pub gather_ends-bridges-requires-clause-at : goal.gather_ends-bridges-requires-clause-at
gather_ends-bridges-requires-clause-at g c =
    let plant = c.args.run.now.plant.now in
    let gates = c.args.homes.now in
    let dealt = c.deal_ends-bridges.result in
    let old = c.as_mut_slice-3.result.now in
    let new = c.run_all.new.bridges in
    let ran : AllCrossed seat_side seat_seen plant plant.bridges old new =
    c.run_all.ensures.bridges in
    let whole = kept-whole dealt.items old new dealt.len c.as_mut_slice-3.ensures.value
    (ran-long (ends_side seat_side) (BridgeHasRun seat_seen plant) plant.bridges old new ran)
    c.as_mut_slice-3.ensures.len in
    ends-back gates c.as_slice-bridge_plans.result.now dealt.items old new _
    c.as_mut_slice-3.ensures.value ran.sides whole c.deal_ends-bridges.ensures.seats

-- ---- what it came to

pub returns-in_default : goal.returns-in_default
returns-in_default g c =
    let r = c.not_begun.result in
    not-through c.args.run.now.plant.now c.args.run.now.scans c.args.homes.now c.args.purses.now
    r.controllers.items r.hosts.items r.bridges.items r.done c.not_begun.ensures
    c.requires.opened

pub returns : goal.returns
returns g c =
    let plant = c.args.run.now.plant.now in
    let scans = c.args.run.now.scans in
    let gates = c.args.homes.now in
    let cs = c.deal-controllers.result in
    let hs = c.deal-hosts.result in
    let bs = c.deal_ends-bridges.result in
    let first = c.args.purses.now in
    let mid = c.deal_ends-bridges.new.purses in
    let last = c.gather_ends-bridges.new.purses in
    let new = c.run_all.new.controllers in
    let host_new = c.run_all.new.hosts in
    let bridge_new = c.run_all.new.bridges in
    let ran : AllRan seat_side seat_seen plant scans plant.controllers cs.items new =
    subst (λ (l : List (Seat NotedLog)).
    AllRan seat_side seat_seen plant scans plant.controllers l new) c.as_mut_slice.ensures.value
    c.run_all.ensures.controllers in
    let served : AllServed seat_side seat_seen plant plant.hosts hs.items host_new =
    subst (λ (l : List (Seat HostLog)). AllServed seat_side seat_seen plant plant.hosts l host_new)
    c.as_mut_slice-2.ensures.value c.run_all.ensures.hosts in
    let crossed : AllCrossed seat_side seat_seen plant plant.bridges bs.items bridge_new =
    subst (λ (l : List Crossing). AllCrossed seat_side seat_seen plant plant.bridges l bridge_new)
    c.as_mut_slice-3.ensures.value c.run_all.ensures.bridges in
    let one = kept-whole cs.items cs.items new cs.len refl
    (ran-long seat_side (HasRun seat_seen plant scans) plant.controllers cs.items new ran)
    (sym cs.ok.0) in
    let two = kept-whole hs.items hs.items host_new hs.len refl
    (ran-long seat_side (HostHasRun seat_seen plant) plant.hosts hs.items host_new served)
    (sym hs.ok.0) in
    let three = kept-whole bs.items bs.items bridge_new bs.len refl
    (ran-long (ends_side seat_side) (BridgeHasRun seat_seen plant) plant.bridges bs.items bridge_new
    crossed) (sym bs.ok.0) in
    let a = c.gather-controllers in
    let b = c.gather-hosts in
    let d = c.gather_ends-bridges in
    through-all plant scans gates first mid last cs.items new hs.items host_new bs.items bridge_new
    a.result.0.items b.result.0.items d.result.0.items a.result.1 b.result.1 d.result.1
    (dealt-from plant scans gates first c.deal-controllers.new.purses c.deal-hosts.new.purses mid
    cs.items hs.items bs.items c.as_slice-plans.result.now c.as_slice-host_plans.result.now
    c.as_slice-bridge_plans.result.now c.as_slice-plans.ensures c.as_slice-host_plans.ensures
    c.as_slice-bridge_plans.ensures c.requires.opened c.deal-controllers.ensures.dealt
    c.deal-hosts.ensures.dealt c.deal_ends-bridges.ensures.dealt c.deal-controllers.ensures.seats
    c.deal-hosts.ensures.seats c.deal_ends-bridges.ensures.seats)
    (record { controllers = ran; hosts = served; bridges = crossed })
    (record {
      one = a.new.purses;
      two = b.new.purses;
      controllers_back = subst (λ (l : List (Seat NotedLog)).
          AreGathered gates mid a.new.purses (map side_of_seat l)) one a.ensures.gathered;
      hosts_back = subst (λ (l : List (Seat HostLog)).
          AreGathered gates a.new.purses b.new.purses (map side_of_seat l)) two
          b.ensures.gathered;
      bridges_back = subst (λ (l : List Crossing).
          AreGathered gates b.new.purses last (flat_map sides_of_ends l)) three
          d.ensures.gathered;
      logged = λ yes'. subst (λ (l : List (Seat NotedLog)). AllZip HasLog l a.result.0.items) one
          (a.ensures.logs yes');
      hosts_logged = λ yes'. subst (λ (l : List (Seat HostLog)).
          AllZip HasLog l b.result.0.items) two (b.ensures.logs yes');
      bridges_logged = λ yes'. subst (λ (l : List Crossing).
          AllZip HasLog l d.result.0.items) three (d.ensures.logs yes');
    })

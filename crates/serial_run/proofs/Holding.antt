-- What a hold turn leaves of scans and of hold turns.
use Rattle.std.proofs.Common.{◌≡◌, ◌≢◌, ◌<◌, ℕ, Bool, true, false, Some, set, sym, ap, subst, ◌∙◌}
use Rattle.std.proofs.Common.{arith, ⊎_elim}
use Rattle.std.specs.List.{All, slice_get}
use Rattle.std.proofs.lemmas.List.Elements.{All-contains}
use Rattle.plant_types.specs.declared.net.BridgePlan.{BridgePlan}
use Rattle.plant_types.specs.declared.net.NetPlan.{NetPlan}
use Rattle.plant_types.specs.declared.plan.Plant.{Plant}
use Rattle.plant_types.specs.Plans.{IsBridgeOf, net_of}
use Rattle.ring_core.specs.declared.status.NodeStatus.{NodeStatus}
use Rattle.ring_core.specs.Machine.{addresses, is_in}
use Rattle.ring_core.specs.Kept.{KeptRing}
use Rattle.ring_core.specs.Legal.{IsLegalRing}
use Rattle.bridge_station.specs.Station.{end_has_left}
use Rattle.bridge_station.specs.Stands.{HeldByEnd, MovedByEnd, StandsEnd}
use Rattle.bridge_station.proofs.Standing.{end-knows}
use Rattle.tied_lists.specs.Own.{is_of}
use Rattle.tied_lists.specs.Waits.{has_left, status_at}
use Rattle.joint_history.specs.Reading.{is_ours}
use Rattle.comm_port.specs.WholeTurn.{HoldsTurn}
use Rattle.whole_scan.specs.Scans.{KeepsStepsLeft}
use Rattle.serial_run.specs.declared.stations.BridgeSite.{BridgeSite}
use Rattle.serial_run.specs.declared.stations.ControllerStation.{ControllerStation}
use Rattle.serial_run.specs.declared.stations.HostStation.{HostStation}
use Rattle.serial_run.specs.declared.stations.Stations.{Stations}
use Rattle.serial_run.specs.Turns.{node_has_left}
use Rattle.comm_port.specs.HostTurns.{HoldsHostTurn}
use Rattle.serial_run.specs.Scans.{KeepScans}
use Rattle.serial_run.specs.Stations.{StandAll, station_ring}
use Rattle.serial_run.specs.Held.{HasToken, HeldController, HeldHost, KnowsLeft}
use Rattle.serial_run.specs.Held.{VisitedController, VisitedWhere, failures_of, is_visit_due}
use Rattle.serial_run.specs.Held.{site_turns, turns_in, turns_left, turns_of}
use Rattle.bridge_station.proofs.TurnLaws.{in-of}
use Rattle.serial_run.proofs.HoldsDid.{IsEndOn, IsLeftOn, IsRightOn, end-grew, end-turn}
use Rattle.serial_run.proofs.Lists.{set-there}
use Rattle.serial_run.proofs.Grown.{Further}
use Rattle.serial_run.proofs.HeldTurns.{end-turn-ended, hold-less, host-turn-ended}
use Rattle.serial_run.proofs.HeldTurns.{host-turn-ring, turn-known, turn-less, turn-ring}
use Rattle.serial_run.proofs.HeldTurns.{visit-known}
use Rattle.serial_run.proofs.Measures.{controller-less, host-less, keep-further, keep-same}
use Rattle.serial_run.proofs.Measures.{other-on, own-turns, scans-same, scans-with, site-less}
use Rattle.serial_run.proofs.Networks.{NodeOn, Turned, contains-at, low-members, turned-grew}
use Rattle.serial_run.proofs.TurnsMade.{IsEndAt, at-place, host-at-place, left-apart}
use Rattle.serial_run.proofs.TurnsMade.{right-apart, site-at-place}

-- a member has not left
pub in-left : (status : NodeStatus) → is_in status ≡ true → has_left status ≡ false
in-left status there = ap has_left (in-of status there)

pub here-left : (plant : Plant) (scans : ℕ) (run : Stations) (at : ℕ) (s : ControllerStation)
    → StandAll plant scans run → slice_get run.controllers.items at ≡ Some s
    → HasToken s.worker.node (station_ring run s.network) → s.left ≡ false
here-left plant scans run at s all is token =
    let p = at-place plant scans run at s all is in
    p.stands.left ∙ ((λ i. node_has_left (sym p.ring.net_is i) (station_ring run s.network).history
    (sym p.stands.worker_node i)) ∙ in-left _ token.here)

module _ (old new : Stations) (at : ℕ) (s t : ControllerStation)
    (is : slice_get old.controllers.items at ≡ Some s)
    (items : new.controllers.items ≡ set old.controllers.items at t)
    (budget : s.worker.budget ≡ true)
    (held : HeldController s t (station_ring old s.network) (station_ring new s.network)) where
  abbrev ring : KeptRing
  ring = station_ring old s.network

  abbrev new_ring : KeptRing
  new_ring = station_ring new s.network

  pub held-turn : HoldsTurn true true s.controller.fixed ring.net s.worker.node true
      s.controller.history t.controller.history ring.history new_ring.history held.end
  held-turn = subst (λ (b : Bool). HoldsTurn true true s.controller.fixed ring.net s.worker.node
      b s.controller.history t.controller.history
      ring.history new_ring.history held.end) budget held.turn

  pub held-further : Further (is_of s.worker.node) ring.history new_ring.history
  held-further = turn-ring s.controller.fixed ring.net s.worker.node s.controller.history
      t.controller.history ring.history new_ring.history held.end held-turn

  held-known : Further is_ours s.controller.history t.controller.history
  held-known = turn-known s.controller.fixed ring.net s.worker.node s.controller.history
      t.controller.history ring.history new_ring.history held.end held-turn

  pub hold-scans : KeepScans old new
  hold-scans = scans-with old new at s t is items held.stays.fixed held-known

  hold-keeps : KeepsStepsLeft s.controller t.controller
  hold-keeps = keep-further s.controller t.controller held.stays.fixed held-known

  pub hold-lessens : (plant : Plant) (scans : ℕ) → StandAll plant scans old
      → new.hosts.items ≡ old.hosts.items → new.bridges.items ≡ old.bridges.items
      → Turned s.network old.rings.items new.rings.items
      → HasToken s.worker.node ring → turns_left new < turns_left old
  hold-lessens plant scans all hosts bridges turned token =
      let p = at-place plant scans old at s all is in
      let n = s.worker.node in
      let node : n ≡ s.node = p.stands.worker_node ∙ sym p.stands.node in
      let was : s.left ≡ false = here-left plant scans old at s all is token in
      let failures : failures_of t ≡ failures_of s = hold-keeps.failures in
      let low : All (λ m. m < addresses) ring.net.members =
      subst (λ (net : NetPlan). All (λ m. m < addresses) net.members) (sym p.ring.net_is)
      (low-members (net_of plant p.plan.node) p.ring.sound) in
      let less = own-turns ring new_ring n (failures_of s) t.left s.left held.stays.net was
      (subst (λ (left : Bool). turns_of ring.net new_ring.history n (failures_of s) left
      < turns_of ring.net ring.history n (failures_of s) false) (sym held.left_is)
      (hold-less s.controller.fixed ring.net n s.controller.history t.controller.history
      ring.history new_ring.history held.end low
      (subst (λ (net : NetPlan). IsLegalRing net new_ring.history) held.stays.net
      held.stays.ring_legal) held-turn)) in
      controller-less plant scans old new at s t all is items hosts bridges held.stays.node
      held.stays.network
      (turned-grew s.network old.rings.items new.rings.items turned s.node
      (subst (λ (k : ℕ). Further (is_of k) ring.history new_ring.history) node held-further)
      held.stays.net)
      (subst (λ (f : ℕ). turns_in new_ring s.node f t.left
      < turns_in ring s.node (failures_of s) s.left) (sym failures)
      (subst (λ (k : ℕ). turns_in new_ring k (failures_of s) t.left
      < turns_in ring k (failures_of s) s.left) node less))

pub host-hold-lessens : (plant : Plant) (scans : ℕ) (old new : Stations) (at : ℕ)
    (s t : HostStation) (all : StandAll plant scans old)
    (is : slice_get old.hosts.items at ≡ Some s)
    (items : new.hosts.items ≡ set old.hosts.items at t)
    (controllers : new.controllers.items ≡ old.controllers.items)
    (bridges : new.bridges.items ≡ old.bridges.items)
    (turned : Turned s.network old.rings.items new.rings.items)
    → HasToken s.worker.node (station_ring old s.network)
    → HeldHost s t (station_ring old s.network) (station_ring new s.network)
    → turns_left new < turns_left old
host-hold-lessens plant scans old new at s t all is items controllers bridges turned token held =
    let p = host-at-place plant scans old at s all is in
    let ring = station_ring old s.network in
    let new_ring = station_ring new s.network in
    let n = s.worker.node in
    let turn : HoldsHostTurn true ring.net n s.host.plan true s.host.history t.host.history
    ring.history new_ring.history t.left =
    subst (λ (b : Bool). HoldsHostTurn true ring.net n s.host.plan b s.host.history
    t.host.history ring.history new_ring.history t.left) p.stands.budget held.turn in
    let node : n ≡ s.node = p.stands.worker_node ∙ sym p.stands.node in
    let ended = host-turn-ended ring.net n s.host.plan s.host.history t.host.history
    ring.history new_ring.history t.left turn in
    let further = host-turn-ring ring.net n s.host.plan s.host.history t.host.history
    ring.history new_ring.history t.left turn in
    let was : s.left ≡ false =
    p.stands.left ∙ ((λ i. node_has_left (sym p.ring.net_is i) ring.history
    (sym p.stands.worker_node i)) ∙ in-left _ token.here) in
    let less = own-turns ring new_ring n 0 t.left s.left held.net was
    (turn-less ring.net n 0 ring.history new_ring.history t.left
    (subst (λ (net : NetPlan). All (λ m. m < addresses) net.members) (sym p.ring.net_is)
    (low-members (net_of plant p.plan.node) p.ring.sound))
    (subst (λ (net : NetPlan). IsLegalRing net new_ring.history) held.net held.ring_legal) ended) in
    host-less plant scans old new at s t all is items controllers bridges held.node held.network
    (turned-grew s.network old.rings.items new.rings.items turned s.node
    (subst (λ (k : ℕ). Further (is_of k) ring.history new_ring.history) node further) held.net)
    (subst (λ (k : ℕ). turns_in new_ring k 0 t.left < turns_in ring k 0 s.left) node less)

-- ---- an end of a bridge

module _ (old new : Stations) (at : ℕ) (s t : BridgeSite)
    (is : slice_get old.bridges.items at ≡ Some s)
    (items : new.bridges.items ≡ set old.bridges.items at t)
    (controllers : new.controllers.items ≡ old.controllers.items)
    (hosts : new.hosts.items ≡ old.hosts.items) (same-plan : t.plan ≡ s.plan)
    (network n : ℕ) (side : IsEndOn s.plan n network)
    (turned : Turned network old.rings.items new.rings.items)
    (held : HeldByEnd n s.station t.station (station_ring old network) (station_ring new network))
    (moved : MovedByEnd n s.station t.station (station_ring old network)
    (station_ring new network)) where
  abbrev end_ring : KeptRing
  end_ring = station_ring old network

  abbrev new_end_ring : KeptRing
  new_end_ring = station_ring new network

  -- the turn leaves the end fewer turns
  end-less : (plant : Plant) (scans : ℕ) (all : StandAll plant scans old)
      → All (λ m. m < addresses) end_ring.net.members → end_has_left n s.station ≡ false
      → turns_in new_end_ring n 0 (end_has_left n t.station)
      < turns_in end_ring n 0 (end_has_left n s.station)
  end-less plant scans all low was =
      let plan = s.station.bridge.plan in
      let left = end_has_left n t.station in
      let legal = moved.moved.on_ring.legal in
      own-turns end_ring new_end_ring n 0 left (end_has_left n s.station) moved.moved.net was
      (turn-less end_ring.net n 0 end_ring.history new_end_ring.history left low legal
      (end-turn-ended plan end_ring.net n s.station.bridge.history t.station.bridge.history
      end_ring.history new_end_ring.history left
      (end-turn old new at s t is items controllers hosts same-plan network n side turned held
      moved plant scans all)))

  -- and the other end as many
  far-same : (plant : Plant) (scans : ℕ) (all : StandAll plant scans old) (home node : ℕ)
      → node ≢ n → NodeOn plant old.rings.items home node
      → StandsEnd node s.station (net_of plant node) (station_ring old home).history
      → turns_in (station_ring new home) node 0 (end_has_left node t.station)
      ≡ turns_in (station_ring old home) node 0 (end_has_left node s.station)
  far-same plant scans all home node other on st =
      let net = net_of plant node in
      let history = (station_ring old home).history in
      let same : end_has_left node t.station ≡ end_has_left node s.station =
      end-knows node t.station net history (moved.others node net history other st)
      ∙ sym (end-knows node s.station net history st) in
      ap (λ (b : Bool). turns_in (station_ring new home) node 0 b) same
      ∙ other-on n old.rings.items new.rings.items
      (end-grew old new at s t is items controllers hosts same-plan network n side turned held
      moved) home node 0 (end_has_left node s.station) other

  pub end-hold-lessens : (plant : Plant) (scans : ℕ) → StandAll plant scans old
      → HasToken n end_ring → turns_left new < turns_left old
  end-hold-lessens plant scans all token =
      let p = site-at-place plant scans old at s all is in
      let plan = p.plan in
      let ends = (All-contains (IsBridgeOf plant) plant.bridges plan all.sound.bridges
      (contains-at plant.bridges at plan p.plan_is)).plan.two_ends in
      let grew = end-grew old new at s t is items controllers hosts same-plan network n side
      turned held moved in
      let now_plan : t.plan ≡ plan = same-plan ∙ p.stands.plan_is in
      let less : IsEndAt plant scans old new at s t all is items controllers hosts n
      → site_turns new.rings.items (record { plan = plan; station = t.station })
      < site_turns old.rings.items (record { plan = plan; station = s.station })
      → turns_left new < turns_left old =
      λ apart own. site-less plant scans old new at n s t all is items controllers hosts apart
      grew
      (subst (λ (q : BridgePlan).
      site_turns new.rings.items (record { plan = q; station = t.station })
      < site_turns old.rings.items s) (sym now_plan)
      (subst (λ (q : BridgePlan).
      site_turns new.rings.items (record { plan = plan; station = t.station })
      < site_turns old.rings.items (record { plan = q; station = s.station }))
      (sym p.stands.plan_is) own)) in
      ⊎_elim
      (λ (left : IsLeftOn plan n network).
      let on = p.left in
      let net : end_ring.net ≡ net_of plant plan.left =
      ap (λ (k : ℕ). (station_ring old k).net) (sym left.1) ∙ on.net_is in
      let low : All (λ m. m < addresses) end_ring.net.members =
      subst (λ (q : NetPlan). All (λ m. m < addresses) q.members) (sym net)
      (low-members (net_of plant plan.left) on.sound) in
      let was : end_has_left n s.station ≡ false =
      ap (λ (k : ℕ). end_has_left k s.station) left.0
      ∙ (end-knows plan.left s.station (net_of plant plan.left)
      (station_ring old plan.left_net).history p.stands.left
      ∙ ((λ i. has_left
      (status_at (sym net i) (station_ring old (left.1 i)).history (sym left.0 i)))
      ∙ in-left _ token.here)) in
      let near : turns_in (station_ring new plan.left_net) plan.left 0
      (end_has_left plan.left t.station)
      < turns_in (station_ring old plan.left_net) plan.left 0 (end_has_left plan.left s.station) =
      subst (λ (k : ℕ). turns_in (station_ring new k) plan.left 0 (end_has_left plan.left t.station)
      < turns_in (station_ring old k) plan.left 0 (end_has_left plan.left s.station)) (sym left.1)
      (subst (λ (k : ℕ). turns_in new_end_ring k 0 (end_has_left k t.station)
      < turns_in end_ring k 0 (end_has_left k s.station)) left.0
      (end-less plant scans all low was)) in
      let far = far-same plant scans all plan.right_net plan.right
      (λ same. ends (sym left.0 ∙ sym same)) p.right p.stands.right in
      less (subst (IsEndAt plant scans old new at s t all is items controllers hosts)
      (sym left.0) (left-apart plant scans old new at s t all is items controllers hosts))
      (omega (arith, near, far)))
      (λ (right : IsRightOn plan n network).
      let on = p.right in
      let net : end_ring.net ≡ net_of plant plan.right =
      ap (λ (k : ℕ). (station_ring old k).net) (sym right.1) ∙ on.net_is in
      let low : All (λ m. m < addresses) end_ring.net.members =
      subst (λ (q : NetPlan). All (λ m. m < addresses) q.members) (sym net)
      (low-members (net_of plant plan.right) on.sound) in
      let was : end_has_left n s.station ≡ false =
      ap (λ (k : ℕ). end_has_left k s.station) right.0
      ∙ (end-knows plan.right s.station (net_of plant plan.right)
      (station_ring old plan.right_net).history p.stands.right
      ∙ ((λ i. has_left (status_at (sym net i) (station_ring old (right.1 i)).history
      (sym right.0 i))) ∙ in-left _ token.here)) in
      let near : turns_in (station_ring new plan.right_net) plan.right 0
      (end_has_left plan.right t.station)
      < turns_in (station_ring old plan.right_net) plan.right 0
      (end_has_left plan.right s.station) =
      subst (λ (k : ℕ). turns_in (station_ring new k) plan.right 0
      (end_has_left plan.right t.station)
      < turns_in (station_ring old k) plan.right 0 (end_has_left plan.right s.station))
      (sym right.1)
      (subst (λ (k : ℕ). turns_in new_end_ring k 0 (end_has_left k t.station)
      < turns_in end_ring k 0 (end_has_left k s.station)) right.0
      (end-less plant scans all low was)) in
      let far = far-same plant scans all plan.left_net plan.left
      (λ same. ends (same ∙ right.0)) p.left p.stands.left in
      less (subst (IsEndAt plant scans old new at s t all is items controllers hosts)
      (sym right.0) (right-apart plant scans old new at s t all is items controllers hosts))
      (omega (arith, near, far)))
      (subst (λ (q : BridgePlan). IsEndOn q n network) p.stands.plan_is side)

-- a visit leaves the scans and the power of its controller
pub visit-keeps : (s t : ControllerStation) (ring new_ring : KeptRing)
    → VisitedController s t ring new_ring → KeepsStepsLeft s.controller t.controller
visit-keeps s t ring new_ring visited = by (is_visit_due ring s) visited.visit
  where
    by : (b : Bool) → VisitedWhere b s t ring new_ring
        → KeepsStepsLeft s.controller t.controller
    by true v = keep-further s.controller t.controller visited.stays.fixed
        (visit-known s.controller.fixed ring.net s.worker.node s.controller.history
        t.controller.history ring.history new_ring.history v)
    by false v = subst (λ (x : ControllerStation). KeepsStepsLeft s.controller x.controller)
        (sym v.0) (keep-same s.controller)

-- a visit leaves all scans
pub visit-scans : (old new : Stations) (at : ℕ) (s t : ControllerStation)
    (ring new_ring : KeptRing)
    → slice_get old.controllers.items at ≡ Some s
    → new.controllers.items ≡ set old.controllers.items at t
    → VisitedController s t ring new_ring → KeepScans old new
visit-scans old new at s t ring new_ring is items visited = by (is_visit_due ring s) visited.visit
  where
    by : (b : Bool) → VisitedWhere b s t ring new_ring → KeepScans old new
    by true v = scans-with old new at s t is items visited.stays.fixed
        (visit-known s.controller.fixed ring.net s.worker.node s.controller.history
        t.controller.history ring.history new_ring.history v)
    by false v = scans-same old new
        (items ∙ (ap (set old.controllers.items at) v.0 ∙ set-there old.controllers.items at s is))

pub knows-left : (plant : Plant) (scans : ℕ) (run : Stations) (at : ℕ) (s : ControllerStation)
    → StandAll plant scans run
    → slice_get run.controllers.items at ≡ Some s → KnowsLeft s (station_ring run s.network)
knows-left plant scans run at s all is =
    let p = at-place plant scans run at s all is in
    p.stands.left ∙ (λ i. node_has_left (sym p.ring.net_is i) (station_ring run s.network).history
    (sym p.stands.worker_node i))

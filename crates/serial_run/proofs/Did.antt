-- What the due step, a visit and an away turn make of all stations.
use Rattle.std.proofs.Common.{◌≡◌, ℕ, zero, suc, ◌==◌, Bool, true, false, cond, List, [], ◌∷◌, ◌++◌}
use Rattle.std.proofs.Common.{filter, map, set, Option, Some, None, refl, sym, ap, subst, ◌∙◌}
use Rattle.std.specs.Prelude.{◌&&◌}
use Rattle.std.specs.List.{AllZip, position, slice_get}
use Rattle.std.proofs.lemmas.Bool.{eq-eqb}
use Rattle.plant_types.specs.declared.net.NetPlan.{NetPlan}
use Rattle.plant_types.specs.declared.plan.Plant.{Plant}
use Rattle.plant_types.specs.Plans.{net_of}
use Rattle.ring_core.specs.declared.entry.RingEntry.{RingEntry}
use Rattle.ring_core.specs.declared.entry.RingEntry.TheVariants.{Join}
use Rattle.ring_core.specs.declared.status.NodeStatus.{NodeStatus}
use Rattle.ring_core.specs.declared.status.NodeStatus.TheVariants.{In, Away, Asking, Gone}
use Rattle.ring_core.specs.Kept.{KeptRing}
use Rattle.controller_core.specs.declared.fixed.Fixed.{Fixed}
use Rattle.controller_core.specs.declared.entry.Entry.{Entry}
use Rattle.controller_core.specs.Controller.{ControllerIs, due_step, is_off, made, stepped}
use Rattle.joint_history.specs.JointLaws.{fixed_of}
use Rattle.joint_history.specs.Nets.{noted_on}
use Rattle.joint_history.specs.Reading.{controller_at, has_started_at, is_off_at}
use Rattle.comm_port.specs.HoldTurn.{VisitsEnd}
use Rattle.tied_lists.specs.Own.{is_of}
use Rattle.tied_lists.specs.Waits.{has_left, status_at}
use Rattle.whole_scan.specs.Scans.{MadeEvents}
use Rattle.serial_run.specs.declared.order.Turn.TheVariants as turns
use Rattle.serial_run.specs.declared.order.Turn.TheVariants.{Step, Visit}
use Rattle.serial_run.specs.declared.stations.ControllerStation.{ControllerStation}
use Rattle.serial_run.specs.declared.stations.RingStation.{RingStation}
use Rattle.serial_run.specs.declared.stations.Stations.{Stations}
use Rattle.serial_run.specs.Turns.{coming_back, may_visit, node_has_left, stepped_list}
use Rattle.serial_run.specs.Turns.{visit_is_due, with_list, MakesAwayTurn, MakesTurn, MakesStep}
use Rattle.serial_run.specs.Turns.{MakesVisit, VisitsWhere, with_entries}
use Rattle.serial_run.specs.Stations.{StandsController, StandAll, StandsRing, Did, host_log_of}
use Rattle.serial_run.specs.Stations.{joint_of, log_of, log_of_ring, log_of_site, station_ring}
use Rattle.serial_run.specs.Stations.{ring_on}
use Rattle.serial_run.specs.Held.{CameBack, VisitedController, VisitedWhere, is_visit_due}
use Rattle.serial_run.proofs.Grown.{Further, further-none}
use Rattle.serial_run.proofs.HeldTurns.{visit-ring}
use Rattle.serial_run.proofs.Lists.{set-there}
use Rattle.serial_run.proofs.Networks.{GrewBy, Turned, grew-none, behind, turned-logs}
use Rattle.serial_run.proofs.Standings.{stands-scans}
use Rattle.serial_run.proofs.TurnsMade.{at-place, place-is, is-at, joint-is, joint-stays}
use Rattle.serial_run.proofs.TurnsMade.{stand-with}
use Rattle.serial_run.proofs.HoldsDid.{noted-mine, own-stands}

-- ---- the due step

stepped-by : (v : ControllerIs) (due : Option _)
    → (made v due).history ≡ (made (controller_at v.fixed v.history) due).history
stepped-by v None = refl
stepped-by v (Some step) = refl

stepped-is : (v : ControllerIs) (fixed : Fixed) → v.fixed ≡ fixed
    → (stepped v).history ≡ stepped_list fixed v.history
stepped-is v fixed same = stepped-by v (due_step v) ∙ ap (λ (f : Fixed). stepped_list f v.history)
    same

module _ (old new : Stations) (at : ℕ) (s : ControllerStation) (w : ControllerIs)
    (is : slice_get old.controllers.items at ≡ Some s)
    (items : new.controllers.items ≡ set old.controllers.items at (record s { controller = w }))
    (hosts : new.hosts.items ≡ old.hosts.items)
    (bridges : new.bridges.items ≡ old.bridges.items)
    (rings : new.rings.items ≡ old.rings.items) (h : List Entry)
    (made-events : MadeEvents h s.controller w) where
  pub scan-stands : (plant : Plant) (scans : ℕ) → StandAll plant scans old
      → StandAll plant scans new
  scan-stands plant scans all =
      let t : ControllerStation = record s { controller = w } in
      let p = at-place plant scans old at s all is in
      let it : StandsController plant scans (station_ring old s.network).history p.plan t =
      stands-scans plant scans (station_ring old s.network).history p.plan s w h made-events
      p.stands in
      stand-with plant scans old new at s t all is items hosts bridges
      (subst (GrewBy p.plan.node old.rings.items) (sym rings)
      (grew-none p.plan.node old.rings.items))
      (subst (AllZip StandsRing plant.nets) (sym rings) all.rings)
      (subst (λ (l : List RingStation). StandsController plant scans
      (ring_on l s.network).history p.plan t) (sym rings) it)

  pub scan-joint : (plant : Plant) (scans : ℕ) → StandAll plant scans old
      → joint_of new ≡ with_list at (log_of s) h (joint_of old)
  scan-joint plant scans all =
      let t : ControllerStation = record s { controller = w } in
      joint-stays plant scans old new at s t all is items hosts bridges rings refl
      ∙ ap (λ (l : List Entry). with_list at (log_of s) l (joint_of old)) made-events.history_is

pub step-did : (old new : Stations) (node at : ℕ) (s : ControllerStation) (w : ControllerIs)
    → slice_get old.controllers.items at ≡ Some s
    → position (λ (s : ControllerStation). s.node == node) old.controllers.items ≡ Some at
    → new.controllers.items ≡ set old.controllers.items at (record s { controller = w })
    → new.hosts.items ≡ old.hosts.items → new.bridges.items ≡ old.bridges.items
    → new.rings.items ≡ old.rings.items
    → MadeEvents (stepped s.controller).history s.controller w
    → Did (λ plant scans. MakesTurn plant scans (Step node)) old new
step-did old new node at s w is found items hosts bridges rings events = record {
  stand = scan-stands old new at s w is items hosts bridges rings (stepped s.controller).history
      events;
  made = λ plant scans all. subst
      (λ (o : Option ℕ). MakesStep plant scans o (joint_of old) (joint_of new))
      (sym found ∙ place-is plant scans old node all)
      (let p = at-place plant scans old at s all is in
      record {
        plan = p.plan;
        log = log_of s;
        is = is-at plant scans old new at s (record s { controller = w }) all is items hosts
            bridges;
        made = scan-joint old new at s w is items hosts bridges rings
            (stepped s.controller).history events plant scans all
            ∙ ap (λ (l : List Entry). with_list at (log_of s) l (joint_of old))
            (stepped-is s.controller (fixed_of plant scans p.plan) p.stands.fixed);
      });
}

pub no-step-did : (old : Stations) (node : ℕ)
    → position (λ (s : ControllerStation). s.node == node) old.controllers.items ≡ None
    → Did (λ plant scans. MakesTurn plant scans (Step node)) old old
no-step-did old node none = record {
  stand = λ plant scans all. all;
  made = λ plant scans all. subst
      (λ (o : Option ℕ). MakesStep plant scans o (joint_of old) (joint_of old))
      (sym none ∙ place-is plant scans old node all) refl;
}

-- ---- a visit

module _ (old new : Stations) (at : ℕ) (s t : ControllerStation)
    (is : slice_get old.controllers.items at ≡ Some s)
    (items : new.controllers.items ≡ set old.controllers.items at t)
    (hosts : new.hosts.items ≡ old.hosts.items)
    (bridges : new.bridges.items ≡ old.bridges.items)
    (turned : Turned s.network old.rings.items new.rings.items)
    (visited : VisitedController s t (station_ring old s.network) (station_ring new s.network))
  where
    abbrev here : KeptRing
    here = station_ring old s.network

    abbrev there : KeptRing
    there = station_ring new s.network

    further-by : (b : Bool) → VisitedWhere b s t here there
        → Further (is_of s.worker.node) here.history there.history
    further-by true v = visit-ring s.controller.fixed here.net s.worker.node
        s.controller.history
        t.controller.history here.history
        there.history v
    further-by false v =
        subst (λ (l : List RingEntry). Further (is_of s.worker.node) here.history
        l) (sym (ap (λ r. r.history) v.1))
        (further-none (is_of s.worker.node) here.history)

    pub visit-further : Further (is_of s.worker.node) here.history there.history
    visit-further = further-by (is_visit_due here s) visited.visit

    -- a visit keeps whether the node has left
    visit-left : (plant : Plant) (scans : ℕ) → StandAll plant scans old
        → t.left ≡ node_has_left here.net there.history s.worker.node
    visit-left plant scans all =
        let p = at-place plant scans old at s all is in
        visited.left ∙ (p.stands.left ∙ ((λ i. node_has_left (sym p.ring.net_is i) here.history
        (sym p.stands.worker_node i)) ∙ ap has_left (sym visited.status)))

    visits-by : (plant : Plant) (scans : ℕ) (all : StandAll plant scans old) (b : Bool)
        → VisitedWhere b s t here there
        → VisitsWhere b plant scans at (at-place plant scans old at s all is).plan (log_of s)
        (joint_of old) (joint_of new)
    visits-by plant scans all true v =
        let p = at-place plant scans old at s all is in
        let known = s.controller.history in
        let now = t.controller.history in
        record {
          entries = now;
          ring = there.history;
          visit = subst (λ (l : List RingEntry). VisitsEnd true true (fixed_of plant scans p.plan)
              (net_of plant p.plan.node) p.plan.node known now l there.history)
              (sym (noted-mine old s.network p.plan.network p.stands.network))
              (subst (λ (f : Fixed). VisitsEnd true true f (net_of plant p.plan.node) p.plan.node
              known now here.history there.history) p.stands.fixed
              (subst (λ (net : NetPlan). VisitsEnd true true s.controller.fixed net p.plan.node
              known now here.history there.history) p.ring.net_is
              (subst (λ (n : ℕ). VisitsEnd true true s.controller.fixed here.net n
              known now here.history there.history) p.stands.worker_node v)));
          made = joint-is plant scans old new at s t all is items hosts bridges turned
              visited.stays.node;
        }
    visits-by plant scans all false v =
        let same : new.controllers.items ≡ old.controllers.items =
        items ∙ (ap (set old.controllers.items at) v.0 ∙ set-there old.controllers.items at s is) in
        let rings : new.rings.items ≡ old.rings.items =
        turned.new_is
        ∙ (ap (λ (r : KeptRing). set old.rings.items turned.place (behind turned.station r))
        (v.1 ∙ turned.was)
        ∙ set-there old.rings.items turned.place turned.station turned.is) in
        λ i. record {
          controllers = map log_of (same i);
          hosts = map host_log_of (hosts i);
          bridges = map log_of_site (bridges i);
          rings = map log_of_ring (rings i);
        }

    pub visit-did : (node : ℕ)
        → position (λ (s : ControllerStation). s.node == node)
        old.controllers.items ≡ Some at
        → Did (λ plant scans. MakesTurn plant scans (Visit node)) old new
    visit-did node found = record {
      stand = own-stands old new at s t is items hosts bridges turned visited.stays visit-further
          visit-left visited.keeps;
      made = λ plant scans all. subst
          (λ (o : Option ℕ). MakesVisit plant scans o (joint_of old) (joint_of new))
          (sym found ∙ place-is plant scans old node all)
          (let p = at-place plant scans old at s all is in
          let due : is_visit_due here s ≡ visit_is_due plant scans p.plan
          s.controller.history (noted_on p.plan.network (joint_of old)) =
          (λ i. may_visit (p.stands.fixed i) s.controller.history
          (status_at (p.ring.net_is i) here.history (p.stands.node i))
          && has_started_at (p.stands.fixed i) s.controller.history)
          ∙ ap (visit_is_due plant scans p.plan s.controller.history)
          (sym (noted-mine old s.network p.plan.network p.stands.network)) in
          record {
            plan = p.plan;
            log = log_of s;
            is = is-at plant scans old new at s t all is items hosts bridges;
            visits = subst (λ (b : Bool). VisitsWhere b plant scans at p.plan (log_of s)
                (joint_of old) (joint_of new)) due
                (visits-by plant scans all (is_visit_due here s) visited.visit);
          });
    }

pub no-visit-did : (old : Stations) (node : ℕ)
    → position (λ (s : ControllerStation). s.node == node) old.controllers.items ≡ None
    → Did (λ plant scans. MakesTurn plant scans (Visit node)) old old
no-visit-did old node none = record {
  stand = λ plant scans all. all;
  made = λ plant scans all. subst
      (λ (o : Option ℕ). MakesVisit plant scans o (joint_of old) (joint_of old))
      (sym none ∙ place-is plant scans old node all) refl;
}

-- ---- an away turn

coming-mine : (status : NodeStatus) (off : Bool) (n : ℕ)
    → filter (is_of n) (coming_back status off n) ≡ coming_back status off n
coming-mine In off n = refl
coming-mine Away true n = refl
coming-mine Away false n = ap (λ b. cond b (Join n ∷ []) []) (eq-eqb n n refl)
coming-mine Asking off n = refl
coming-mine Gone off n = refl

logs-same : (xs : List ControllerStation) (at : ℕ) (s t : ControllerStation)
    → slice_get xs at ≡ Some s → log_of t ≡ log_of s → map log_of (set xs at t) ≡ map log_of xs
logs-same [] at s t is same = refl
logs-same (x ∷ xs) zero s t is same =
    let there : x ≡ s = cc in λ i. (same ∙ ap log_of (sym there)) i ∷ map log_of xs
logs-same (x ∷ xs) (suc at) s t is same = λ i. log_of x ∷ logs-same xs at s t is same i

module _ (old new : Stations) (at : ℕ) (s t : ControllerStation)
    (is : slice_get old.controllers.items at ≡ Some s)
    (items : new.controllers.items ≡ set old.controllers.items at t)
    (hosts : new.hosts.items ≡ old.hosts.items)
    (bridges : new.bridges.items ≡ old.bridges.items)
    (turned : Turned s.network old.rings.items new.rings.items)
    (came : CameBack s t (station_ring old s.network) (station_ring new s.network))
  where
    abbrev was_ring : KeptRing
    was_ring = station_ring old s.network

    abbrev now_ring : KeptRing
    now_ring = station_ring new s.network

    pub came-further : Further (is_of s.worker.node) was_ring.history now_ring.history
    came-further = record {
      more = coming_back (status_at was_ring.net was_ring.history s.worker.node)
          (is_off s.controller) s.worker.node;
      is = came.came;
      mine = coming-mine (status_at was_ring.net was_ring.history s.worker.node)
          (is_off s.controller) s.worker.node;
    }

    pub came-did : (node : ℕ)
        → position (λ (s : ControllerStation). s.node == node)
        old.controllers.items ≡ Some at
        → Did (λ plant scans. MakesTurn plant scans (turns.Away node)) old new
    came-did node found = record {
      stand = own-stands old new at s t is items hosts bridges turned came.stays came-further
          (λ plant scans all. came.left) came.keeps;
      made = λ plant scans all. subst
          (λ (o : Option ℕ). MakesAwayTurn plant scans o (joint_of old) (joint_of new))
          (sym found ∙ place-is plant scans old node all)
          (let p = at-place plant scans old at s all is in
          let home = p.plan.network in
          let logs : map log_of new.controllers.items ≡ map log_of old.controllers.items =
          ap (map log_of) items ∙ logs-same old.controllers.items at s t is
          (λ i. record { node = came.stays.node i; entries = came.history i }) in
          let back : List RingEntry → List RingEntry = λ l. l
          ++ coming_back (status_at (net_of plant p.plan.node) l p.plan.node)
          (is_off_at (fixed_of plant scans p.plan) s.controller.history) p.plan.node in
          let ring : now_ring.history ≡ back (noted_on home (joint_of old)) =
          came.came ∙ ((λ i. was_ring.history
          ++ coming_back (status_at (p.ring.net_is i) was_ring.history (p.stands.worker_node i))
          (is_off_at (p.stands.fixed i) s.controller.history) (p.stands.worker_node i))
          ∙ ap back (sym (noted-mine old s.network home p.stands.network))) in
          let rings : map log_of_ring new.rings.items
          ≡ map (with_entries home (back (noted_on home (joint_of old))))
          (map log_of_ring old.rings.items) =
          turned-logs s.network old.rings.items new.rings.items turned
          ∙ (λ i. map (with_entries (p.stands.network i) (ring i))
          (map log_of_ring old.rings.items)) in
          record {
            plan = p.plan;
            log = log_of s;
            is = is-at plant scans old new at s t all is items hosts bridges;
            made = λ i. record {
              controllers = logs i;
              hosts = map host_log_of (hosts i);
              bridges = map log_of_site (bridges i);
              rings = rings i;
            };
          });
    }

pub no-away-did : (old : Stations) (node : ℕ)
    → position (λ (s : ControllerStation). s.node == node) old.controllers.items ≡ None
    → Did (λ plant scans. MakesTurn plant scans (turns.Away node)) old old
no-away-did old node none = record {
  stand = λ plant scans all. all;
  made = λ plant scans all. subst
      (λ (o : Option ℕ). MakesAwayTurn plant scans o (joint_of old) (joint_of old))
      (sym none ∙ place-is plant scans old node all) refl;
}

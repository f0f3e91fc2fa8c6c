-- What stations keep while others have their turns, and while their scans go on.
use Rattle.std.proofs.Common.{◌++◌, ◌≡◌, ◌≢◌, ℕ, List, [], ◌∷◌, filter, Some, refl}
use Rattle.std.proofs.Common.{sym, subst, ◌∙◌}
use Rattle.std.specs.List.{AllZip, slice_get}
use Rattle.std.specs.Prelude.{count_by, min}
use Rattle.joint_history.specs.Complete.{is_pass}
use Rattle.plant_types.specs.declared.net.NetPlan.{NetPlan}
use Rattle.plant_types.specs.declared.net.HostPlan.{HostPlan}
use Rattle.plant_types.specs.declared.plan.ControllerPlan.{ControllerPlan}
use Rattle.plant_types.specs.declared.plan.Plant.{Plant}
use Rattle.ring_core.specs.declared.entry.RingEntry.{RingEntry}
use Rattle.ring_core.specs.Legal.{IsLegalRing}
use Rattle.controller_core.specs.declared.entry.Entry.{Entry}
use Rattle.controller_core.specs.declared.entry.Entry.TheVariants as entries
use Rattle.controller_core.specs.declared.entry.Maker.TheVariants.{Scan}
use Rattle.controller_core.specs.Controller.{ControllerIs, AreOf, ControllerWentOn}
use Rattle.tied_lists.specs.Own.{is_of}
use Rattle.tied_lists.proofs.Turns.{on-others}
use Rattle.joint_history.specs.Reading.{is_ours}
use Rattle.comm_port.specs.Worker.{Standing, WorkerIs}
use Rattle.comm_port.specs.HostTurns.{HostTies}
use Rattle.comm_port.proofs.HostTurnLaws.{host-ties-others}
use Rattle.comm_port.proofs.Standings.{standing-others, standing-scans}
use Rattle.comm_port.specs.HostStands.{own_side}
use Rattle.controller_core.specs.declared.fixed.Fixed.{Fixed}
use Rattle.plant_types.specs.declared.net.BridgePlan.{BridgePlan}
use Rattle.plant_types.specs.Plans.{IsNetPlan, IsPlant, net_of}
use Rattle.bridge_station.specs.Station.{BridgeStationIs}
use Rattle.bridge_station.specs.Stands.{StandsEnd}
use Rattle.bridge_station.proofs.Standing.{stands-beside}
use Rattle.net_laws.proofs.On.{controller-at-on, host-at-on, left-on, right-on}
use Rattle.ring_core.specs.Legal.{IsMember}
use Rattle.bridge_station.specs.TurnLaws.{HostKeepsOn, KeepsOn}
use Rattle.bridge_station.proofs.TurnLaws.{host-others, others, scans as scans-keep}
use Rattle.controller_core.specs.Controller.{IsLegal}
use Rattle.joint_history.specs.JointLaws.{fixed_of}
use Rattle.whole_scan.specs.Scans.{MadeEvents}
use Rattle.serial_run.specs.declared.stations.BridgeSite.{BridgeSite}
use Rattle.serial_run.specs.declared.stations.RingStation.{RingStation}
use Rattle.serial_run.specs.declared.stations.ControllerStation.{ControllerStation}
use Rattle.serial_run.specs.declared.stations.HostStation.{HostStation}
use Rattle.serial_run.specs.Stations.{HostStandsOn, StandsController, StandsHost, StandsOn}
use Rattle.serial_run.specs.Stations.{StandsRing, StandsSite, plain_ram_side, ring_on}
use Rattle.serial_run.proofs.Lists.{zip-other}
use Rattle.serial_run.proofs.Networks.{GrewBy, contains-at, low-members, node-on}
use Rattle.serial_run.proofs.Grown.{Further, others-own, others-left, others-none}

-- ---- others have their turns

comm-others : (net : NetPlan) (w : WorkerIs) (v : ControllerIs) (n : ℕ) (old new : List RingEntry)
    → IsNetPlan net → IsMember net w.node → w.node ≢ n
    → Further (is_of n) old new → IsLegalRing net new
    → Standing w (plain_ram_side v) v.history (own_side net) old
    → Standing w (plain_ram_side v) v.history (own_side net) new
comm-others net w v n old new sound member other f legal s =
    subst (Standing w (plain_ram_side v) v.history (own_side net)) (sym f.is)
    (standing-others w (plain_ram_side v) v.history (own_side net) old f.more
    (on-others net w.node old f.more (record {
      members = low-members net sound;
      legal = s.legal;
      member = member;
      patient = s.patient;
    }) (subst (IsLegalRing net) f.is legal) (others-none n w.node old new other f))
    (others-none n w.node old new other f) s)

ties-others : (net : NetPlan) (host : _) (m n : ℕ) (old new : List RingEntry) → m ≢ n
    → Further (is_of n) old new → IsLegalRing net new
    → HostTies m host (own_side net) old → HostTies m host (own_side net) new
ties-others net host m n old new other f legal s =
    subst (HostTies m host (own_side net)) (sym f.is)
    (host-ties-others m host (own_side net) old f.more (others-none n m old new other f)
    (subst (IsLegalRing net) f.is legal) s)

stands-others : (plant : Plant) (scans n : ℕ) (old new : List RingEntry) (plan : ControllerPlan)
    (s : ControllerStation) → IsNetPlan (net_of plant plan.node)
    → IsMember (net_of plant plan.node) plan.node → plan.node ≢ n
    → Further (is_of n) old new → IsLegalRing (net_of plant plan.node) new
    → StandsController plant scans old plan s → StandsController plant scans new plan s
stands-others plant scans n old new plan s sound member other f legal st = record {
  node = st.node;
  network = st.network;
  worker_node = st.worker_node;
  budget = st.budget;
  fixed = st.fixed;
  legal = st.legal;
  standing = comm-others (net_of plant plan.node) s.worker s.controller n old new sound
      (subst (IsMember (net_of plant plan.node)) (sym st.worker_node) member)
      (λ e. other (sym st.worker_node ∙ e)) f legal st.standing;
  left = st.left ∙ sym (others-left (net_of plant plan.node) n plan.node old new other f);
  keeps = subst (λ (l : List RingEntry). KeepsOn (fixed_of plant scans plan)
      (net_of plant plan.node) plan.node
      s.controller.history l s.left) (sym f.is)
      (others (fixed_of plant scans plan) (net_of plant plan.node) plan.node s.controller.history
      old f.more s.left
      (others-none n plan.node old new other f) st.keeps);
}

host-stands-others : (plant : Plant) (n : ℕ) (old new : List RingEntry) (plan : HostPlan)
    (s : HostStation) → plan.node ≢ n
    → Further (is_of n) old new → IsLegalRing (net_of plant plan.node) new
    → StandsHost plant old plan s → StandsHost plant new plan s
host-stands-others plant n old new plan s other f legal st = record {
  node = st.node;
  network = st.network;
  worker_node = st.worker_node;
  budget = st.budget;
  plan_is = st.plan_is;
  ties = ties-others (net_of plant plan.node) s.host plan.node n old new other f legal st.ties;
  counts = subst (λ (b : List RingEntry). s.worker.passes ≡ min (count_by is_pass b) 4294967295)
      (sym (others-own n s.worker.node old new (λ e. other (sym st.worker_node ∙ e)) f)) st.counts;
  left = st.left ∙ sym (others-left (net_of plant plan.node) n plan.node old new other f);
  keeps = subst (λ (l : List RingEntry). HostKeepsOn plan (net_of plant plan.node) s.host.history l
      s.left)
      (sym f.is)
      (host-others plan (net_of plant plan.node) s.host.history old f.more s.left
      (others-none n plan.node old new other f) st.keeps);
}

-- an end of a bridge
pub end-stands-others : (side n : ℕ) (station : BridgeStationIs) (net : NetPlan)
    (old new : List RingEntry) → side ≢ n → Further (is_of n) old new → IsLegalRing net new
    → StandsEnd side station net old → StandsEnd side station net new
end-stands-others side n station net old new other f legal st =
    subst (StandsEnd side station net) (sym f.is)
    (stands-beside side station net old f.more (others-none n side old new other f)
    (subst (IsLegalRing net) f.is legal) st)

-- stations of other nodes stand where rings went on by the entries of one
module _ (plant : Plant) (n : ℕ) (old new : List RingStation) (sound : IsPlant plant)
    (grew : GrewBy n old new) (rings : AllZip StandsRing plant.nets new) where
  pub other-controller : (scans k : ℕ) (x : ControllerPlan) (y : ControllerStation)
      → slice_get plant.controllers k ≡ Some x → x.node ≢ n → StandsOn plant scans old x y
      → StandsOn plant scans new x y
  other-controller scans k x y at-x other st =
      let on = node-on plant new sound rings x.network x.node
      (controller-at-on plant k x sound at-x) in
      stands-others plant scans n (ring_on old x.network).history (ring_on new x.network).history
      x y on.sound on.member other (grew.further x.network) on.legal st

  pub other-host : (k : ℕ) (x : HostPlan) (y : HostStation) → slice_get plant.hosts k ≡ Some x
      → x.node ≢ n → HostStandsOn plant old x y → HostStandsOn plant new x y
  other-host k x y at-x other st =
      let on = node-on plant new sound rings x.network x.node (host-at-on plant k x sound at-x) in
      host-stands-others plant n (ring_on old x.network).history (ring_on new x.network).history
      x y other (grew.further x.network) on.legal st

  pub other-site : (k : ℕ) (x : BridgePlan) (y : BridgeSite) → slice_get plant.bridges k ≡ Some x
      → x.left ≢ n → x.right ≢ n → StandsSite plant old x y → StandsSite plant new x y
  other-site k x y at-x left right st =
      let there = contains-at plant.bridges k x at-x in
      let on = node-on plant new sound rings x.left_net x.left (left-on plant x sound there) in
      let on' = node-on plant new sound rings x.right_net x.right (right-on plant x sound there) in
      record {
        plan_is = st.plan_is;
        bridge_is = st.bridge_is;
        left_budget = st.left_budget;
        right_budget = st.right_budget;
        left = end-stands-others x.left n y.station (net_of plant x.left)
            (ring_on old x.left_net).history (ring_on new x.left_net).history left
            (grew.further x.left_net) on.legal st.left;
        right = end-stands-others x.right n y.station (net_of plant x.right)
            (ring_on old x.right_net).history (ring_on new x.right_net).history right
            (grew.further x.right_net) on'.legal st.right;
      }

  pub other-controllers : (scans : ℕ) (xs : List ControllerStation)
      → ((k : ℕ) (x : ControllerPlan) → slice_get plant.controllers k ≡ Some x → x.node ≢ n)
      → AllZip (StandsOn plant scans old) plant.controllers xs
      → AllZip (StandsOn plant scans new) plant.controllers xs
  other-controllers scans xs other all =
      zip-other (StandsOn plant scans old) (StandsOn plant scans new) plant.controllers xs all
      (λ k x y at-x at-y st. other-controller scans k x y at-x (other k x at-x) st)

  pub other-hosts : (xs : List HostStation)
      → ((k : ℕ) (x : HostPlan) → slice_get plant.hosts k ≡ Some x → x.node ≢ n)
      → AllZip (HostStandsOn plant old) plant.hosts xs
      → AllZip (HostStandsOn plant new) plant.hosts xs
  other-hosts xs other all =
      zip-other (HostStandsOn plant old) (HostStandsOn plant new) plant.hosts xs all
      (λ k x y at-x at-y st. other-host k x y at-x (other k x at-x) st)

  pub other-sites : (xs : List BridgeSite)
      → ((k : ℕ) (x : BridgePlan) → slice_get plant.bridges k ≡ Some x
      → (x.left ≢ n) × (x.right ≢ n))
      → AllZip (StandsSite plant old) plant.bridges xs
      → AllZip (StandsSite plant new) plant.bridges xs
  other-sites xs other all =
      zip-other (StandsSite plant old) (StandsSite plant new) plant.bridges xs all
      (λ k x y at-x at-y st. other-site k x y at-x (other k x at-x).0 (other k x at-x).1 st)

-- ---- events of the scan

no-items : (added : List Entry) → AreOf Scan added → filter is_ours added ≡ []
no-items [] of = refl
no-items (entries.Begin ∷ added) of = no-items added of.1
no-items (entries.Input row ∷ added) of = no-items added of.1
no-items (entries.Solve row ∷ added) of = no-items added of.1
no-items (entries.Output row words ∷ added) of = no-items added of.1
no-items (entries.End ∷ added) of = no-items added of.1
no-items (entries.Fail ∷ added) of = no-items added of.1
no-items (entries.Dark ∷ added) of = no-items added of.1
no-items (entries.Collect calls ∷ added) of = absurd (let is = of.0 in cc)
no-items (entries.Peer id request reply ∷ added) of = absurd (let is = of.0 in cc)
no-items (entries.Off id request ∷ added) of = absurd (let is = of.0 in cc)
no-items (entries.Finish id result ∷ added) of = absurd (let is = of.0 in cc)

comm-scans : (net : NetPlan) (worker : WorkerIs) (added : List Entry) (v w : ControllerIs)
    (ring : List RingEntry) → ControllerWentOn Scan added v w
    → Standing worker (plain_ram_side v) v.history (own_side net) ring
    → Standing worker (plain_ram_side w) w.history (own_side net) ring
comm-scans net worker added v w ring went s =
    subst (λ (f : Fixed). Standing worker (record { fixed = f; place = tt }) w.history
    (own_side net) ring) (sym went.fixed)
    (subst (λ (h : List Entry). Standing worker (plain_ram_side v) h (own_side net) ring)
    (sym went.history)
    (standing-scans worker (plain_ram_side v) v.history added (own_side net) ring
    (no-items added went.made) s))

pub stands-scans : (plant : Plant) (scans : ℕ) (ring : List RingEntry) (plan : ControllerPlan)
    (s : ControllerStation) (w : ControllerIs)
    (h : List Entry) → MadeEvents h s.controller w → StandsController plant scans ring plan s
    → StandsController plant scans ring plan (record s { controller = w })
stands-scans plant scans ring plan s w h made st = record {
  node = st.node;
  network = st.network;
  worker_node = st.worker_node;
  budget = st.budget;
  fixed = made.went_on.fixed ∙ st.fixed;
  legal = made.went_on.legal;
  standing = comm-scans (net_of plant plan.node) s.worker made.events s.controller w ring
      made.went_on
      st.standing;
  left = st.left;
  keeps =
      let went = made.went_on in
      let fixed : w.fixed ≡ fixed_of plant scans plan = went.fixed ∙ st.fixed in
      let legal : IsLegal (fixed_of plant scans plan) (s.controller.history ++ made.events) =
      subst (IsLegal (fixed_of plant scans plan)) went.history
      (subst (λ (f : Fixed). IsLegal f w.history) fixed went.legal) in
      subst (λ (h : List Entry). KeepsOn (fixed_of plant scans plan)
      (net_of plant plan.node) plan.node h ring
      s.left) (sym went.history)
      (scans-keep (fixed_of plant scans plan) (net_of plant plan.node) plan.node
      s.controller.history made.events ring s.left legal
      (no-items made.events went.made) st.keeps);
}

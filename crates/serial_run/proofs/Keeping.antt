-- A station beside the ring, as the laws of turns see it.
use Rattle.std.proofs.Common.{◌≡◌, ◌≢◌, ℕ, Bool, true, false, List, Some, refl, sym, ap, subst}
use Rattle.std.proofs.Common.{◌∙◌, arith}
use Rattle.std.specs.Prelude.{not, ◌&&◌}
use Rattle.std.specs.List.{slice_get}
use Rattle.plant_types.specs.declared.net.NetPlan.{NetPlan}
use Rattle.plant_types.specs.declared.net.HostPlan.{HostPlan}
use Rattle.plant_types.specs.declared.plan.Plant.{Plant}
use Rattle.plant_types.specs.Plans.{net_of}
use Rattle.net_laws.proofs.On.{controller-no-bridge, host-no-bridge}
use Rattle.ring_core.specs.declared.entry.RingEntry.{RingEntry}
use Rattle.ring_core.specs.declared.status.NodeStatus.{NodeStatus}
use Rattle.ring_core.specs.declared.status.NodeStatus.TheVariants.{In, Away, Asking, Gone}
use Rattle.ring_core.specs.Kept.{KeptRing}
use Rattle.controller_core.specs.declared.fixed.Fixed.{Fixed}
use Rattle.controller_core.specs.Controller.{ControllerIs, IsLegal, is_off}
use Rattle.joint_history.specs.JointLaws.{fixed_of}
use Rattle.comm_port.specs.declared.turn_end.TurnEnd.{TurnEnd}
use Rattle.comm_port.specs.declared.turn_end.TurnEnd.TheVariants as ends
use Rattle.comm_port.specs.Worker.{IsMemberWorker, IsSameWorker, Standing, WorkerIs}
use Rattle.comm_port.specs.HostTurns.{HostWorkerIs, after_turn}
use Rattle.comm_port.specs.Leaving.{IsHere}
use Rattle.comm_port.specs.HostStands.{own_side}
use Rattle.comm_port.specs.Turns.{IsNoBridge}
use Rattle.tied_lists.specs.Own.{is_of}
use Rattle.tied_lists.specs.Waits.{HasLeft, has_left, status_at}
use Rattle.bridge_station.specs.TurnLaws.{is_out_of_ring, leaves_out, HostKeepsOn, KeepsOn}
use Rattle.bridge_station.specs.TurnLaws.{StandsAs, StandsTied}
use Rattle.bridge_station.proofs.TurnLaws.{stands-of}
use Rattle.whole_scan.specs.Scans.{KeepsStepsLeft}
use Rattle.serial_run.specs.declared.stations.ControllerStation.{ControllerStation}
use Rattle.serial_run.specs.declared.stations.HostStation.{HostStation}
use Rattle.serial_run.specs.declared.stations.Stations.{Stations}
use Rattle.serial_run.specs.Turns.{node_has_left}
use Rattle.serial_run.specs.Stations.{StandAll, plain_ram_side, station_ring}
use Rattle.serial_run.specs.Held.{HasToken, HostKeepsBeside, IsOffAway, KeepsBeside, is_away_status}
use Rattle.serial_run.proofs.Grown.{Further, others-away}
use Rattle.serial_run.proofs.Holding.{in-left}
use Rattle.serial_run.proofs.Networks.{contains-at, low-members}
use Rattle.serial_run.proofs.TurnsMade.{at-place, host-at-place}

pub stands-before : (w : WorkerIs) (v : ControllerIs) (ring : KeptRing)
    → IsMemberWorker ring.net w.node → IsLegal v.fixed v.history
    → Standing w (plain_ram_side v) v.history (own_side ring.net) ring.history
    → StandsTied v.fixed ring.net w.node v.history ring.history
stands-before w v ring member legal s = stands-of w (plain_ram_side v) v.history
    (own_side ring.net) ring.history member legal s

pub stands-behind : (w u : WorkerIs) (v x : ControllerIs) (ring new_ring : KeptRing)
    → IsMemberWorker ring.net w.node → IsLegal x.fixed x.history
    → IsSameWorker w u → x.fixed ≡ v.fixed → new_ring.net ≡ ring.net
    → Standing u (plain_ram_side x) x.history (own_side new_ring.net) new_ring.history
    → StandsTied v.fixed ring.net w.node x.history new_ring.history
stands-behind w u v x ring new_ring member legal worker fixed net s =
    let node : u.node ≡ w.node = ap (λ (k : WorkerIs). k.node) worker in
    let there : IsMemberWorker new_ring.net u.node =
    subst (λ (p : NetPlan). IsMemberWorker p u.node) (sym net)
    (subst (IsMemberWorker ring.net) (sym node) member) in
    subst (λ (f : Fixed). StandsTied f ring.net w.node x.history new_ring.history) fixed
    (subst (λ (p : NetPlan). StandsTied x.fixed p w.node x.history new_ring.history) net
    (subst (λ (n : ℕ). StandsTied x.fixed new_ring.net n x.history new_ring.history) node
    (stands-of u (plain_ram_side x) x.history (own_side new_ring.net) new_ring.history there legal
    s)))

-- no station of a plant is the end of a bridge
pub no-bridge-beside : (plant : Plant) (scans : ℕ) (run : Stations) (at : ℕ)
    (s : ControllerStation) → StandAll plant scans run
    → slice_get run.controllers.items at ≡ Some s
    → IsNoBridge (station_ring run s.network).net s.worker.node
no-bridge-beside plant scans run at s all is =
    let p = at-place plant scans run at s all is in
    let on = p.ring.on in
    subst (λ (net : NetPlan). IsNoBridge net s.worker.node) (sym (p.ring.net_is ∙ on.is))
    (subst (IsNoBridge on.net) (sym p.stands.worker_node)
    (controller-no-bridge plant p.plan on.net all.sound
    (contains-at plant.controllers at p.plan p.plan_is) on.there))

pub host-no-bridge-beside : (plant : Plant) (scans : ℕ) (run : Stations) (at : ℕ)
    (s : HostStation) → StandAll plant scans run
    → slice_get run.hosts.items at ≡ Some s
    → IsNoBridge (station_ring run s.network).net s.worker.node
host-no-bridge-beside plant scans run at s all is =
    let p = host-at-place plant scans run at s all is in
    let on = p.ring.on in
    subst (λ (net : NetPlan). IsNoBridge net s.worker.node) (sym (p.ring.net_is ∙ on.is))
    (subst (IsNoBridge on.net) (sym p.stands.worker_node)
    (host-no-bridge plant p.plan on.net all.sound
    (contains-at plant.hosts at p.plan p.plan_is) on.there))

-- what a station keeps, beside its ring alone
pub keeps-beside : (plant : Plant) (scans : ℕ) (run : Stations) (at : ℕ) (s : ControllerStation)
    → StandAll plant scans run
    → slice_get run.controllers.items at ≡ Some s → KeepsBeside s (station_ring run s.network)
keeps-beside plant scans run at s all is =
    let p = at-place plant scans run at s all is in
    let home = net_of plant p.plan.node in
    let history = (station_ring run s.network).history in
    let answer = p.ring.sound.numbers.answer.from in
    record {
      member = subst (λ (net : NetPlan). IsMemberWorker net s.worker.node) (sym p.ring.net_is)
          (subst (IsMemberWorker home) (sym p.stands.worker_node) (record {
            members = low-members home p.ring.sound;
            member = p.ring.member;
            answer = omega (arith, answer);
          }));
      legal = p.stands.legal;
      keeps = subst (λ (f : Fixed). KeepsOn f (station_ring run s.network).net s.worker.node
          s.controller.history history s.left) (sym p.stands.fixed)
          (subst (λ (net : NetPlan). KeepsOn (fixed_of plant scans p.plan) net s.worker.node
          s.controller.history history s.left) (sym p.ring.net_is)
          (subst (λ (n : ℕ). KeepsOn (fixed_of plant scans p.plan)
          home n s.controller.history
          history s.left) (sym p.stands.worker_node)
          p.stands.keeps));
    }

pub host-keeps-beside : (plant : Plant) (scans : ℕ) (run : Stations) (at : ℕ) (s : HostStation)
    → StandAll plant scans run
    → slice_get run.hosts.items at ≡ Some s → HostKeepsBeside s (station_ring run s.network)
host-keeps-beside plant scans run at s all is =
    let p = host-at-place plant scans run at s all is in
    let ring = station_ring run s.network in
    subst (λ (plan : HostPlan). HostKeepsOn plan ring.net s.host.history ring.history
    s.left) (sym p.stands.plan_is)
    (subst (λ (net : NetPlan). HostKeepsOn p.plan net s.host.history ring.history s.left)
    (sym p.ring.net_is) p.stands.keeps)

-- who holds the token has not left
pub host-is-here : (plant : Plant) (scans : ℕ) (run : Stations) (at : ℕ) (s : HostStation)
    → StandAll plant scans run
    → slice_get run.hosts.items at ≡ Some s → HasToken s.worker.node (station_ring run s.network)
    → s.left ≡ false
host-is-here plant scans run at s all is token =
    let p = host-at-place plant scans run at s all is in
    p.stands.left ∙ ((λ i. node_has_left (sym p.ring.net_is i) (station_ring run s.network).history
    (sym p.stands.worker_node i)) ∙ in-left _ token.here)

-- ---- a host's worker behind a turn

pub after-node : (w : HostWorkerIs) (left : Bool) → (after_turn w left).node ≡ w.node
after-node w true = refl
after-node w false = refl

pub after-budget : (w : HostWorkerIs) (left : Bool) → (after_turn w left).budget ≡ w.budget
after-budget w true = refl
after-budget w false = refl

pub left-from : (net new_net : NetPlan) (history : List RingEntry) (n : ℕ) (left : Bool)
    → new_net ≡ net
    → (left ≡ true → HasLeft new_net history n) → (left ≡ false → IsHere new_net history n)
    → left ≡ node_has_left net history n
left-from net new_net history n true same gone stays = sym (gone refl) ∙ ap
    (λ (p : NetPlan). node_has_left p history n) same
left-from net new_net history n false same gone stays =
    sym (in-left (status_at new_net history n) (stays refl)) ∙ ap
    (λ (p : NetPlan). node_has_left p history n) same

-- where a turn that ended so leaves its node
pub left-as : (end : TurnEnd) (status : NodeStatus) → StandsAs end status
    → leaves_out end ≡ has_left status
left-as ends.Passed status is = sym (ap has_left is)
left-as ends.Left status is = sym (ap has_left is)
left-as ends.Away status is = sym (ap has_left is)
left-as ends.Asking status is = sym is

-- ---- what a controller's station has of its power

pub is-away : (status : NodeStatus) → is_away_status status ≡ true → status ≡ Away
is-away In away = absurd (let no' : false ≡ true = away in cc)
is-away Away away = refl
is-away Asking away = absurd (let no' : false ≡ true = away in cc)
is-away Gone away = absurd (let no' : false ≡ true = away in cc)

-- a node that is away behind a turn of another was so before
pub other-away : (old new : KeptRing) (n : ℕ) (x : ControllerStation) → new.net ≡ old.net
    → x.node ≢ n → Further (is_of n) old.history new.history → IsOffAway old x → IsOffAway new x
other-away old new n x net other f off away =
    let there : status_at old.net new.history x.node ≡ Away =
    ap (λ (p : NetPlan). status_at p new.history x.node) (sym net)
    ∙ is-away (status_at new.net new.history x.node) away in
    off (ap is_away_status (others-away old.net n x.node old.history new.history other f there))

-- so it is for the node of a hold turn
pub own-away : (end : TurnEnd) (status : NodeStatus) (off : Bool) → StandsAs end status
    → (end ≡ ends.Away → off ≡ true) → is_away_status status ≡ true → off ≡ true
own-away ends.Passed status off is out' away =
    absurd (let no' : false ≡ true = sym (ap is_away_status is) ∙ away in cc)
own-away ends.Left status off is out' away =
    absurd (let no' : false ≡ true = sym (ap is_away_status is) ∙ away in cc)
own-away ends.Away status off is out' away = out' refl
own-away ends.Asking status off is out' away =
    absurd (let no' : true ≡ false = sym (ap has_left (is-away status away)) ∙ is in cc)

-- power that a turn of the node leaves
pub same-off : (v w : ControllerIs) → KeepsStepsLeft v w → is_off w ≡ is_off v
same-off v w keeps = ap not keeps.powered

-- who may make its visit has left
pub out-left : (stays : Bool) (status : NodeStatus) → is_out_of_ring stays status ≡ true
    → has_left status ≡ true
out-left stays In out' = absurd (let no' : false ≡ true = out' in cc)
out-left stays Away out' = refl
out-left stays Asking out' = absurd (let no' : false ≡ true = out' in cc)
out-left stays Gone out' = refl

pub left-asks : (status : NodeStatus) → has_left status ≡ true → status ≢ Asking
left-asks status left asks = let no' : false ≡ true = sym (ap has_left asks) ∙ left in absurd (cc)

pub and-first : (a b : Bool) → (a && b) ≡ true → a ≡ true
and-first true b is = refl
and-first false b is = absurd (cc)

pub and-false : (a b : Bool) → b ≡ false → (a && b) ≡ false
and-false true b is = is
and-false false b is = refl

-- a node that did not come back has no power
pub off-away : (status : NodeStatus) (joined off : Bool) → has_left status ≡ not joined
    → joined ≡ not off → is_away_status status ≡ true → off ≡ true
off-away status joined true left is away = refl
off-away status joined false left is away =
    let here : has_left status ≡ false = left ∙ ap not is in
    let no' : true ≡ false = sym (ap has_left (is-away status away)) ∙ here in absurd (cc)

-- a worker that noticed nothing is the same
pub same-worker : (w u : WorkerIs) → u ≡ record w { waiting = u.waiting } → IsSameWorker w u
same-worker w u is =
    let noticed : u.noticed ≡ w.noticed = ap (λ (k : WorkerIs). k.noticed) is in
    is ∙ (λ i. record w { noticed = sym noticed i; waiting = u.waiting })

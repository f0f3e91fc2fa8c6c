-- Stations that are away without power, turn by turn.
use Rattle.std.proofs.Common.{◌≡◌, ◌≢◌, ℕ, zero, suc, ◌==◌, Bool, true, false, cond, List, []}
use Rattle.std.proofs.Common.{◌∷◌, ◌++◌, Some, None, set, not, refl, sym, ap, subst, ◌∙◌, arith}
use Rattle.std.proofs.Common.{All, count_by, ⊎_elim}
use Rattle.std.specs.Prelude.{◌&&◌}
use Rattle.std.specs.List.{AllZip, position, slice_get}
use Rattle.std.proofs.lemmas.Bool.{cases_Bool, eq-eqb, true≢false}
use Rattle.plant_types.specs.declared.plan.Plant.{Plant}
use Rattle.controller_core.specs.declared.fixed.Fixed.{Fixed}
use Rattle.controller_core.specs.Controller.{has_started, is_off}
use Rattle.joint_history.specs.Reading.{is_off_at, is_ours}
use Rattle.net_laws.proofs.Apart.{controller-no-host}
use Rattle.tied_lists.specs.Own.{is_of}
use Rattle.tied_lists.specs.Waits.{has_left, status_at}
use Rattle.tied_lists.proofs.Boxes.{count-cons}
use Rattle.tied_lists.proofs.Turns.{membership-kept}
use Rattle.ring_core.specs.Kept.{KeptRing}
use Rattle.ring_core.specs.declared.status.NodeStatus.{NodeStatus}
use Rattle.whole_scan.specs.Scans.{KeepsStepsLeft}
use Rattle.serial_run.specs.declared.stations.BridgeSite.{BridgeSite}
use Rattle.serial_run.specs.declared.stations.ControllerStation.{ControllerStation}
use Rattle.serial_run.specs.declared.stations.HostStation.{HostStation}
use Rattle.serial_run.specs.declared.stations.RingStation.{RingStation}
use Rattle.serial_run.specs.declared.stations.Stations.{Stations}
use Rattle.serial_run.specs.Scans.{KeepScans}
use Rattle.serial_run.specs.Stations.{StandAll, station_ring, ring_on}
use Rattle.serial_run.specs.Turns.{may_visit}
use Rattle.serial_run.specs.Held.{AllHave}
use Rattle.serial_run.specs.Held.{CameBack, GainFor, HeldController, HeldHost, IsOffAway, IsVisited}
use Rattle.serial_run.specs.Held.{Stay, VisitedController, is_away_status, site_has_left}
use Rattle.serial_run.specs.Held.{stations_here, status_in}
use Rattle.bridge_station.proofs.TurnLaws.{left-others}
use Rattle.serial_run.proofs.Did.{came-further, visit-further}
use Rattle.serial_run.proofs.HoldsDid.{host-further}
use Rattle.serial_run.proofs.Gained.{gains-with, stays-all, stays-turn}
use Rattle.serial_run.proofs.Grown.{Further, further-none, others-none}
use Rattle.serial_run.proofs.Holding.{held-further, visit-keeps}
use Rattle.serial_run.proofs.Keeping.{is-away}
use Rattle.serial_run.proofs.Keeping.{left-asks, other-away, own-away, same-off}
use Rattle.serial_run.proofs.Lists.{from-places, position-none}
use Rattle.serial_run.proofs.Measures.{scans-with}
use Rattle.serial_run.proofs.Networks.{GrewBy, Turned, turned-grew}
use Rattle.serial_run.proofs.Repeats.{all-at, open-out}
use Rattle.serial_run.proofs.TurnsMade.{at-place, host-at-place}

-- a station of another node has what it had of its power
other-off : (n : ℕ) (old new : List RingStation) (x : ControllerStation) → x.node ≢ n
    → GrewBy n old new → IsOffAway (ring_on old x.network) x → IsOffAway (ring_on new x.network) x
other-off n old new x other grew off =
    other-away (ring_on old x.network) (ring_on new x.network) n x (grew.net x.network) other
    (grew.further x.network) off

-- a turn of a node that no controller's station has
same-off-all : (old new : Stations) (n : ℕ) → new.controllers.items ≡ old.controllers.items
    → GrewBy n old.rings.items new.rings.items
    → ((k : ℕ) (x : ControllerStation) → slice_get old.controllers.items k ≡ Some x → x.node ≢ n)
    → Stay IsOffAway old new
same-off-all old new n controllers grew other =
    subst (AllZip (λ (a b : ControllerStation). IsOffAway (station_ring old a.network) a
    → IsOffAway (station_ring new b.network) b) old.controllers.items) (sym controllers)
    (stays-all IsOffAway old.rings.items new.rings.items old.controllers.items
    (λ k x at-x. other-off n old.rings.items new.rings.items x (other k x at-x) grew))

pub hold-off : (plant : Plant) (scans : ℕ) (old new : Stations) (at : ℕ) (s t : ControllerStation)
    → StandAll plant scans old → slice_get old.controllers.items at ≡ Some s
    → new.controllers.items ≡ set old.controllers.items at t
    → Turned s.network old.rings.items new.rings.items
    → HeldController s t (station_ring old s.network) (station_ring new s.network)
    → Stay IsOffAway old new
hold-off plant scans old new at s t all is items turned held =
    let p = at-place plant scans old at s all is in
    let ring = station_ring old s.network in
    let new_ring = station_ring new s.network in
    let n = s.worker.node in
    let same : n ≡ s.node = p.stands.worker_node ∙ sym p.stands.node in
    let further = held-further old new at s t is items p.stands.budget held in
    let there : t.node ≡ n = held.stays.node ∙ sym same in
    let grew = turned-grew s.network old.rings.items new.rings.items turned n further
    held.stays.net in
    let it : IsOffAway new_ring t =
    λ away. own-away held.end (status_at ring.net new_ring.history n) (is_off t.controller)
    held.ends_where.stands (λ e. ap (λ (f : Fixed). is_off_at f t.controller.history)
    held.stays.fixed ∙ held.ends_where.off e)
    ((λ i. is_away_status (status_at (sym held.stays.net i) new_ring.history (sym there i)))
    ∙ away) in
    stays-turn IsOffAway plant scans old new at s t all is items
    (λ was. subst (λ (k : ℕ). IsOffAway (station_ring new k) t) (sym held.stays.network) it)
    (λ x other. other-off n old.rings.items new.rings.items x (λ e. other (e ∙ same)) grew)

pub host-hold-off : (plant : Plant) (scans : ℕ) (old new : Stations) (at : ℕ) (s t : HostStation)
    → StandAll plant scans old → slice_get old.hosts.items at ≡ Some s
    → new.controllers.items ≡ old.controllers.items
    → new.bridges.items ≡ old.bridges.items
    → Turned s.network old.rings.items new.rings.items
    → HeldHost s t (station_ring old s.network) (station_ring new s.network)
    → new.hosts.items ≡ set old.hosts.items at t
    → Stay IsOffAway old new
host-hold-off plant scans old new at s t all is controllers bridges turned held hosts =
    let p = host-at-place plant scans old at s all is in
    let n = s.worker.node in
    let further = host-further old new at s t is hosts controllers bridges turned p.stands.budget
    held in
    let grew = turned-grew s.network old.rings.items new.rings.items turned n further held.net in
    same-off-all old new n controllers grew (λ k x at-x.
    let its = at-place plant scans old k x all at-x in
    λ e. controller-no-host plant all.sound k at its.plan p.plan its.plan_is p.plan_is
    (sym its.stands.node ∙ (e ∙ p.stands.worker_node)))

-- a turn of a node that is none of a controller's
pub end-hold-off : (old new : Stations) (n : ℕ) → new.controllers.items ≡ old.controllers.items
    → GrewBy n old.rings.items new.rings.items
    → position (λ (x : ControllerStation). x.node == n) old.controllers.items ≡ None
    → Stay IsOffAway old new
end-hold-off old new n controllers grew none =
    same-off-all old new n controllers grew (λ k x at-x e.
    true≢false (sym (eq-eqb x.node n e)
    ∙ position-none (λ (y : ControllerStation). y.node == n) old.controllers.items k x none at-x))

pub came-gains : (plant : Plant) (scans : ℕ) (old new : Stations) (node at : ℕ)
    (s t : ControllerStation) → StandAll plant scans old
    → slice_get old.controllers.items at ≡ Some s → (s.node == node) ≡ true
    → new.controllers.items ≡ set old.controllers.items at t
    → new.hosts.items ≡ old.hosts.items → new.bridges.items ≡ old.bridges.items
    → Turned s.network old.rings.items new.rings.items
    → CameBack s t (station_ring old s.network) (station_ring new s.network)
    → GainFor IsOffAway node old new
came-gains plant scans old new node at s t all is named items hosts bridges turned came =
    let p = at-place plant scans old at s all is in
    let same : s.worker.node ≡ s.node = p.stands.worker_node ∙ sym p.stands.node in
    let grew = turned-grew s.network old.rings.items new.rings.items turned s.worker.node
    (came-further old new at s t is items hosts bridges turned came) came.stays.net in
    gains-with IsOffAway plant scans old new node at s t all is named items
    (subst (λ (k : ℕ). IsOffAway (station_ring new k) t) (sym came.stays.network) came.off)
    (λ x other. other-off s.worker.node old.rings.items new.rings.items x
    (λ e. other (e ∙ same)) grew)

pub came-scans : (old new : Stations) (at : ℕ) (s t : ControllerStation) (ring new_ring : KeptRing)
    → slice_get old.controllers.items at ≡ Some s
    → new.controllers.items ≡ set old.controllers.items at t
    → CameBack s t ring new_ring → KeepScans old new
came-scans old new at s t ring new_ring is items came =
    scans-with old new at s t is items came.stays.fixed
    (subst (Further is_ours s.controller.history) (sym came.history)
    (further-none is_ours s.controller.history))

-- ---- a visit

-- who was not to make a visit is not to make one behind the turn of another
other-visited : (old new : KeptRing) (n : ℕ) (x : ControllerStation) → new.net ≡ old.net
    → x.node ≢ n → Further (is_of n) old.history new.history → IsVisited old x → IsVisited new x
other-visited old new n x net other f was =
    let m = x.node in
    let none = others-none n m old.history new.history other f in
    let to : status_in new m ≡ status_at old.net (old.history ++ f.more) m =
    λ i. status_at (net i) (f.is i) m in
    let due : NodeStatus → Bool = λ status. may_visit x.controller.fixed x.controller.history status
    && has_started x.controller in
    ⊎_elim
    (λ (left : has_left (status_in old m) ≡ true).
    ap due (to ∙ membership-kept old.net m old.history f.more none
    (left-asks (status_in old m) left)) ∙ was)
    (λ (here : has_left (status_in old m) ≡ false).
    ap (λ b. b && has_started x.controller)
    (open-out _ (status_in new m)
    (ap has_left to ∙ (left-others old.net m old.history f.more none ∙ here))))
    (cases_Bool (has_left (status_in old m)))

count-set : {X : Type 0} (p : X → Bool) (xs : List X) (at : ℕ) (x y : X)
    → slice_get xs at ≡ Some x → p y ≡ p x → count_by p (set xs at y) ≡ count_by p xs
count-set p [] at x y is same = refl
count-set p (z ∷ xs) zero x y is same =
    let there : z ≡ x = cc in
    let one : cond {A = ℕ} (p y) 1 0 ≡ cond {A = ℕ} (p z) 1 0 =
    ap (λ b. cond {A = ℕ} b 1 0) (same ∙ ap p (sym there)) in
    let a = count-cons p y xs in
    let b = count-cons p z xs in
    omega (arith, one, a, b)
count-set p (z ∷ xs) (suc at) x y is same =
    let rest = count-set p xs at x y is same in
    let a = count-cons p z (set xs at y) in
    let b = count-cons p z xs in
    omega (arith, rest, a, b)

pub visit-here : (old new : Stations) (at : ℕ) (s t : ControllerStation)
    → slice_get old.controllers.items at ≡ Some s
    → new.controllers.items ≡ set old.controllers.items at t
    → new.hosts.items ≡ old.hosts.items → new.bridges.items ≡ old.bridges.items
    → t.left ≡ s.left → stations_here new ≡ stations_here old
visit-here old new at s t is items hosts bridges left =
    let here : ControllerStation → Bool = λ x. not x.left in
    let a : count_by here new.controllers.items ≡ count_by here old.controllers.items =
    ap (count_by here) items ∙ count-set here old.controllers.items at s t is (ap not left) in
    let b : count_by (λ (x : HostStation). not x.left) new.hosts.items
    ≡ count_by (λ (x : HostStation). not x.left) old.hosts.items =
    ap (count_by (λ (x : HostStation). not x.left)) hosts in
    let c = ap (count_by (λ (x : BridgeSite). not (site_has_left x))) bridges in
    omega (arith, a, b, c)

-- a visit leaves the statuses of all nodes
module _ (plant : Plant) (scans : ℕ) (old new : Stations) (at : ℕ) (s t : ControllerStation)
    (all : StandAll plant scans old) (is : slice_get old.controllers.items at ≡ Some s)
    (items : new.controllers.items ≡ set old.controllers.items at t)
    (hosts : new.hosts.items ≡ old.hosts.items)
    (bridges : new.bridges.items ≡ old.bridges.items)
    (turned : Turned s.network old.rings.items new.rings.items)
    (visited : VisitedController s t (station_ring old s.network) (station_ring new s.network))
  where
    abbrev ring : KeptRing
    ring = station_ring old s.network

    abbrev new_ring : KeptRing
    new_ring = station_ring new s.network

    same : s.worker.node ≡ s.node
    same =
        let p = at-place plant scans old at s all is in
        p.stands.worker_node ∙ sym p.stands.node

    grew : GrewBy s.worker.node old.rings.items new.rings.items
    grew = turned-grew s.network old.rings.items new.rings.items turned s.worker.node
        (visit-further old new at s t is items hosts bridges turned visited) visited.stays.net

    keeps : KeepsStepsLeft s.controller t.controller
    keeps = visit-keeps s t ring new_ring visited

    own-status : status_in new_ring t.node ≡ status_in ring s.node
    own-status = (λ i. status_at (visited.stays.net i) new_ring.history
        ((visited.stays.node ∙ sym same) i))
        ∙ (visited.status ∙ ap (status_at ring.net ring.history) same)

    pub visit-off : Stay IsOffAway old new
    visit-off = stays-turn IsOffAway plant scans old new at s t all is items
        (λ was. subst (λ (k : ℕ). IsOffAway (station_ring new k) t) (sym visited.stays.network)
        (λ away. same-off s.controller t.controller keeps
        ∙ was (sym (ap is_away_status own-status) ∙ away)))
        (λ x other. other-off s.worker.node old.rings.items new.rings.items x
        (λ e. other (e ∙ same)) grew)

    pub visit-gains : (node : ℕ) → (s.node == node) ≡ true → GainFor IsVisited node old new
    visit-gains node named = gains-with IsVisited plant scans old new node at s t all is named items
        (subst (λ (k : ℕ). IsVisited (station_ring new k) t) (sym visited.stays.network)
        visited.visited)
        (λ x other was. other-visited (station_ring old x.network) (station_ring new x.network)
        s.worker.node x (grew.net x.network) (λ e. other (e ∙ same)) (grew.further x.network) was)

-- nobody is away where all are here
pub nobody-away : (plant : Plant) (scans : ℕ) (run : Stations) → StandAll plant scans run
    → All (λ (s : ControllerStation). s.left ≡ false) run.controllers.items
    → AllHave IsOffAway run
nobody-away plant scans run all here =
    from-places (λ (x : ControllerStation). IsOffAway (station_ring run x.network) x)
    run.controllers.items (λ k x at-x away.
    let p = at-place plant scans run k x all at-x in
    let ring = station_ring run x.network in
    let present : x.left ≡ false =
    all-at (λ (s : ControllerStation). s.left ≡ false) run.controllers.items k x here at-x in
    absurd (let no' : true ≡ false =
    sym (ap has_left (is-away (status_in ring x.node) away))
    ∙ ((λ i. has_left (status_at (p.ring.net_is i) ring.history (p.stands.node i)))
    ∙ (sym p.stands.left ∙ present)) in cc))

-- What hold turns and visits leave of scans and of hold turns.
use Rattle.std.proofs.Common.{◌≡◌, ◌≢◌, ◌⊎◌, ℕ, zero, suc, ◌+◌}
use Rattle.std.proofs.Common.{◌-◌, ◌*◌, ◌<◌, ◌≤◌, ◌==◌, Bool, true}
use Rattle.std.proofs.Common.{false, Option}
use Rattle.std.specs.Prelude.{◌&&◌, ◌||◌}
use Rattle.std.proofs.Common.{cond, not, List, [], ◌∷◌, filter, set, length, Some, None}
use Rattle.std.proofs.Common.{refl, sym, ap, subst, ◌∙◌, arith, ⊎_elim, inl, inr, count_by}
use Rattle.std.specs.Prelude.{if◌then◌else◌}
use Rattle.std.specs.List.{AllZip, Contains, position, slice_get, slice_index_or, sum_by}
use Rattle.std.proofs.lemmas.Bool.{cases_Bool, eq-eqb, true≢false}
use Rattle.std.proofs.lemmas.List.Sums.{sum_by-cons}
use Rattle.plant_types.specs.declared.net.NetPlan.{NetPlan}
use Rattle.plant_types.specs.declared.net.BridgePlan.{BridgePlan}
use Rattle.plant_types.specs.declared.net.HostPlan.{HostPlan}
use Rattle.plant_types.specs.declared.plan.ControllerPlan.{ControllerPlan}
use Rattle.plant_types.specs.declared.plan.Plant.{Plant}
use Rattle.plant_types.specs.Plans.{net_of}
use Rattle.bridge_station.specs.Station.{end_has_left}
use Rattle.bridge_station.proofs.Standing.{end-knows}
use Rattle.net_laws.proofs.Apart.{controller-no-end, controller-no-host, host-no-end}
use Rattle.net_laws.proofs.Apart.{same-controller, same-host}
use Rattle.net_laws.proofs.On.{net-sound}
use Rattle.ring_core.specs.declared.entry.RingEntry.{RingEntry}
use Rattle.ring_core.specs.Machine.{is_held, is_in, ring_after}
use Rattle.ring_core.specs.Kept.{KeptRing, ring_of}
use Rattle.ring_core.specs.Legal.{IsLegalRing, IsMember}
use Rattle.controller_core.specs.declared.entry.Entry.{Entry}
use Rattle.controller_core.specs.declared.entry.Entry.TheVariants as entries
use Rattle.controller_core.specs.declared.entry.Maker.TheVariants.{Communication}
use Rattle.controller_core.specs.Controller.{ControllerIs, AreOf, grown}
use Rattle.joint_history.specs.Reading.{is_ours}
use Rattle.tied_lists.specs.Own.{is_of}
use Rattle.tied_lists.specs.Waits.{has_left, status_at}
use Rattle.ring_core.specs.declared.status.NodeStatus.TheVariants.{In}
use Rattle.whole_scan.specs.Scans.{KeepsStepsLeft}
use Rattle.serial_run.specs.Turns.{is_end_of, node_has_left}
use Rattle.tied_lists.proofs.Boxes.{count-cons, none-if, one-if}
use Rattle.joint_history.specs.Complete.{is_pass}
use Rattle.serial_run.specs.declared.stations.BridgeSite.{BridgeSite}
use Rattle.serial_run.specs.declared.stations.ControllerStation.{ControllerStation}
use Rattle.serial_run.specs.declared.stations.HostStation.{HostStation}
use Rattle.serial_run.specs.declared.stations.RingStation.{RingStation}
use Rattle.serial_run.specs.declared.stations.Stations.{Stations}
use Rattle.serial_run.specs.Scans.{KeepScans}
use Rattle.serial_run.specs.Stations.{HostStandsOn, StandAll, StandsOn, StandsSite, ring_if}
use Rattle.serial_run.specs.Stations.{station_ring, ring_on, station_on}
use Rattle.serial_run.specs.Held.{IsHeld, failures_of, host_turns, is_in_ring, members_if}
use Rattle.serial_run.specs.Held.{members_in, members_of_ring, site_has_left, site_turns}
use Rattle.serial_run.specs.Held.{station_turns, stations_here, turns_in, turns_left, turns_of}
use Rattle.serial_run.specs.Held.{unnoticed_of}
use Rattle.serial_run.proofs.Grown.{Further, others-own}
use Rattle.bridge_station.specs.TurnLaws.{SomebodyHolds}
use Rattle.bridge_station.proofs.TurnLaws.{in-of, there-member}
use Rattle.serial_run.proofs.Lists.{found-place, position-none, zip-at-first}
use Rattle.serial_run.proofs.Members.{member-station}
use Rattle.serial_run.proofs.Networks.{GrewBy, NodeOn, contains-at, low-members, ring-of}
use Rattle.serial_run.proofs.Networks.{ring-place}
use Rattle.serial_run.proofs.TurnsMade.{IsEndAt, at-place, host-at-place, site-at-place}
use Rattle.whole_scan.proofs.ScanSteps.{quiet-scan}

-- ---- scans

few : (es : List Entry) → length (filter is_ours es) ≤ length es
few [] = omega arith
few (e ∷ es) = by (is_ours e) (few es) where
  by : (b : Bool) → length (filter is_ours es) ≤ length es
      → length (cond b (e ∷ filter is_ours es) (filter is_ours es)) ≤ suc (length es)
  by true few = omega arith
  by false few = omega arith

not-ours : (e : Entry) (es : List Entry) → filter is_ours es ≡ e ∷ es → ⊥
not-ours e es mine = let less = few es in let long = ap length mine in absurd
    (omega (arith, less, long))

rest-ours : (e : Entry) (es : List Entry) → e ∷ filter is_ours es ≡ e ∷ es → filter is_ours es ≡ es
rest-ours e es mine = cc

all-ours : (more : List Entry) → filter is_ours more ≡ more → AreOf Communication more
all-ours [] mine = tt
all-ours (entries.Begin ∷ more) mine = absurd (not-ours entries.Begin more mine)
all-ours (entries.Input row ∷ more) mine = absurd (not-ours (entries.Input row) more mine)
all-ours (entries.Solve row ∷ more) mine = absurd (not-ours (entries.Solve row) more mine)
all-ours (entries.Output row words ∷ more) mine = absurd
    (not-ours (entries.Output row words) more mine)
all-ours (entries.End ∷ more) mine = absurd (not-ours entries.End more mine)
all-ours (entries.Fail ∷ more) mine = absurd (not-ours entries.Fail more mine)
all-ours (entries.Dark ∷ more) mine = absurd (not-ours entries.Dark more mine)
all-ours (entries.Collect calls ∷ more)
    mine = (refl, all-ours more (rest-ours (entries.Collect calls) more mine))
all-ours (entries.Peer id request reply ∷ more)
    mine = (refl, all-ours more (rest-ours (entries.Peer id request reply) more mine))
all-ours (entries.Off id request ∷ more)
    mine = (refl, all-ours more (rest-ours (entries.Off id request) more mine))
all-ours (entries.Finish id result ∷ more)
    mine = (refl, all-ours more (rest-ours (entries.Finish id result) more mine))

pub keep-further : (v w : ControllerIs) → w.fixed ≡ v.fixed → Further is_ours v.history w.history
    → KeepsStepsLeft v w
keep-further v w fixed f =
    let quiet = quiet-scan v f.more w.reserved (all-ours f.more f.mine) in
    let same : w ≡ grown v f.more w.reserved = λ i. record
    { fixed = fixed i; history = f.is i; reserved = w.reserved } in
    subst (KeepsStepsLeft v) (sym same) quiet

pub keep-same : (v : ControllerIs) → KeepsStepsLeft v v
keep-same v = record {
  fixed = refl;
  left = refl;
  gone = refl;
  stop = refl;
  powered = refl;
  failures = refl;
}

zip-self : {X : Type 0} (R : X → X → Type 0) → ((x : X) → R x x) → (xs : List X) → AllZip R xs xs
zip-self R same [] = tt
zip-self R same (x ∷ xs) = (same x, zip-self R same xs)

zip-self-set : {X : Type 0} (R : X → X → Type 0) → ((x : X) → R x x)
    → (xs : List X) (at : ℕ) (x y : X) → slice_get xs at ≡ Some x → R x y
    → AllZip R xs (set xs at y)
zip-self-set R same [] at x y is it = tt
zip-self-set R same (z ∷ xs) zero x y is it = let there : z ≡ x = cc in
    (subst (λ (w : _). R w y) (sym there) it, zip-self R same xs)
zip-self-set R same (z ∷ xs) (suc at) x y is it = (same z, zip-self-set R same xs at x y is it)

abbrev KeepsStation : ControllerStation → ControllerStation → Type 0
KeepsStation a b = KeepsStepsLeft a.controller b.controller

pub scans-same : (old new : Stations) → new.controllers.items ≡ old.controllers.items
    → KeepScans old new
scans-same old new same =
    subst (AllZip KeepsStation old.controllers.items) (sym same)
    (zip-self KeepsStation (λ s. keep-same s.controller) old.controllers.items)

pub scans-with : (old new : Stations) (at : ℕ) (s t : ControllerStation)
    → slice_get old.controllers.items at ≡ Some s
    → new.controllers.items ≡ set old.controllers.items at t
    → t.controller.fixed ≡ s.controller.fixed
    → Further is_ours s.controller.history t.controller.history → KeepScans old new
scans-with old new at s t is items fixed f =
    subst (AllZip KeepsStation old.controllers.items) (sym items)
    (zip-self-set KeepsStation (λ s. keep-same s.controller) old.controllers.items at s t is
    (keep-further s.controller t.controller fixed f))

-- ---- sums

pub sum-same : {X : Type 0} (f g : X → ℕ) (xs : List X)
    → ((k : ℕ) (x : X) → slice_get xs k ≡ Some x → g x ≡ f x) → sum_by g xs ≡ sum_by f xs
sum-same f g [] same = refl
sum-same f g (x ∷ xs) same =
    let here = same 0 x refl in
    let rest = sum-same f g xs (λ k. same (suc k)) in
    let a = sum_by-cons f x xs in
    let b = sum_by-cons g x xs in
    omega (arith, here, rest, a, b)

pub sum-less : {X : Type 0} (f g : X → ℕ) (xs : List X) (at : ℕ) (x y : X)
    → slice_get xs at ≡ Some x → g y < f x
    → ((k : ℕ) (z : X) → k ≢ at → slice_get xs k ≡ Some z → g z ≡ f z)
    → sum_by g (set xs at y) < sum_by f xs
sum-less f g [] at x y is less same = absurd (cc)
sum-less f g (z ∷ xs) zero x y is less same =
    let there : z ≡ x = cc in
    let rest = sum-same f g xs (λ k w. same (suc k) w (λ e. absurd (cc))) in
    let a = sum_by-cons f z xs in
    let b = sum_by-cons g y xs in
    let c = ap f there in
    omega (arith, less, rest, a, b, c)
sum-less f g (z ∷ xs) (suc at) x y is less same =
    let here = same 0 z (λ e. absurd (cc)) refl in
    let rest = sum-less f g xs at x y is less
    (λ k w other. same (suc k) w (λ e. other (omega (arith, e)))) in
    let a = sum_by-cons f z xs in
    let b = sum_by-cons g z (set xs at y) in
    omega (arith, here, rest, a, b)

-- ---- hold turns

-- those of other nodes
other-turns : (old new : KeptRing) (n m failures : ℕ) (left : Bool) → new.net ≡ old.net → m ≢ n
    → Further (is_of n) old.history new.history
    → turns_in new m failures left ≡ turns_in old m failures left
other-turns old new n m failures left net other f =
    (λ i. turns_of (net i) new.history m failures left)
    ∙ ap (λ (b : List RingEntry). if left then 0
    else (old.net.holds - count_by is_pass b) * 2 + unnoticed_of failures b + 1)
    (others-own n m old.history new.history other f)

pub own-turns : (old new : KeptRing) (n failures : ℕ) (left was : Bool) → new.net ≡ old.net
    → was ≡ false
    → turns_of old.net new.history n failures left < turns_of old.net old.history n failures false
    → turns_in new n failures left < turns_in old n failures was
own-turns old new n failures left was net none less =
    subst (λ (b : Bool). turns_in new n failures left < turns_in old n failures b) (sym none)
    (subst (λ (p : NetPlan). turns_of p new.history n failures left
    < turns_in old n failures false) (sym net) less)

-- nobody else is there
here-counted : (left : Bool) → not left ≡ true → left ≡ false
here-counted true is = absurd (cc)
here-counted false is = refl

-- those of stations and of bridges, where rings went on by the entries of one node
module _ (n : ℕ) (old new : List RingStation) (grew : GrewBy n old new) where
  pub other-on : (network m failures : ℕ) (left : Bool) → m ≢ n
      → turns_in (ring_on new network) m failures left
      ≡ turns_in (ring_on old network) m failures left
  other-on network m failures left other =
      other-turns (ring_on old network) (ring_on new network) n m failures left (grew.net network)
      other (grew.further network)

  station-same : (z : ControllerStation) → z.node ≢ n → station_turns new z ≡ station_turns old z
  station-same z other = other-on z.network z.node (failures_of z) z.left other

  host-same : (z : HostStation) → z.node ≢ n → host_turns new z ≡ host_turns old z
  host-same z other = other-on z.network z.node 0 z.left other

  site-same : (z : BridgeSite) → z.plan.left ≢ n → z.plan.right ≢ n
      → site_turns new z ≡ site_turns old z
  site-same z left right =
      let a = other-on z.plan.left_net z.plan.left 0 (end_has_left z.plan.left z.station) left in
      let b = other-on z.plan.right_net z.plan.right 0 (end_has_left z.plan.right z.station) right
      in
      omega (arith, a, b)

-- a hold turn of a controller's node
pub controller-less : (plant : Plant) (scans : ℕ) (old new : Stations) (at : ℕ)
    (s t : ControllerStation) → StandAll plant scans old
    → slice_get old.controllers.items at ≡ Some s
    → new.controllers.items ≡ set old.controllers.items at t
    → new.hosts.items ≡ old.hosts.items → new.bridges.items ≡ old.bridges.items
    → t.node ≡ s.node → t.network ≡ s.network
    → GrewBy s.node old.rings.items new.rings.items
    → turns_in (station_ring new s.network) s.node (failures_of t) t.left
    < turns_in (station_ring old s.network) s.node (failures_of s) s.left
    → turns_left new < turns_left old
controller-less plant scans old new at s t all is items hosts bridges node network grew less =
    let mine = at-place plant scans old at s all is in
    let was = old.rings.items in
    let now = new.rings.items in
    let own : station_turns now t < station_turns was s =
    subst (λ (k : ℕ). turns_in (station_ring new k) t.node (failures_of t) t.left
    < station_turns was s) (sym network)
    (subst (λ (m : ℕ). turns_in (station_ring new s.network) m (failures_of t) t.left
    < station_turns was s) (sym node) less) in
    let controllers : sum_by (station_turns now) (set old.controllers.items at t)
    < sum_by (station_turns was) old.controllers.items =
    sum-less (station_turns was) (station_turns now) old.controllers.items at s t is own
    (λ k z other is-z.
    let its = at-place plant scans old k z all is-z in
    station-same s.node was now grew z
    (λ same. other (same-controller plant all.sound k at its.plan mine.plan its.plan_is
    mine.plan_is (sym its.stands.node ∙ (same ∙ mine.stands.node))))) in
    let rest : sum_by (host_turns now) old.hosts.items ≡ sum_by (host_turns was)
    old.hosts.items =
    sum-same (host_turns was) (host_turns now) old.hosts.items
    (λ k z is-z.
    let its = host-at-place plant scans old k z all is-z in
    host-same s.node was now grew z
    (λ same. controller-no-host plant all.sound at k mine.plan its.plan mine.plan_is its.plan_is
    (sym mine.stands.node ∙ (sym same ∙ its.stands.node)))) in
    let far : sum_by (site_turns now) old.bridges.items ≡ sum_by (site_turns was)
    old.bridges.items =
    sum-same (site_turns was) (site_turns now) old.bridges.items
    (λ k z is-z.
    let its = site-at-place plant scans old k z all is-z in
    let apart = controller-no-end plant all.sound at k mine.plan its.plan mine.plan_is its.plan_is
    in
    let plan = its.stands.plan_is in
    site-same s.node was now grew z
    (λ same. apart.0 (sym mine.stands.node ∙ (sym same
    ∙ ap (λ (p : BridgePlan). p.left) plan)))
    (λ same. apart.1 (sym mine.stands.node ∙ (sym same
    ∙ ap (λ (p : BridgePlan). p.right) plan)))) in
    let a = ap (sum_by (station_turns now)) items in
    let b = ap (sum_by (host_turns now)) hosts in
    let c = ap (sum_by (site_turns now)) bridges in
    omega (arith, controllers, rest, far, a, b, c)

-- of a host's node
pub host-less : (plant : Plant) (scans : ℕ) (old new : Stations) (at : ℕ) (s t : HostStation)
    → StandAll plant scans old
    → slice_get old.hosts.items at ≡ Some s → new.hosts.items ≡ set old.hosts.items at t
    → new.controllers.items ≡ old.controllers.items → new.bridges.items ≡ old.bridges.items
    → t.node ≡ s.node → t.network ≡ s.network
    → GrewBy s.node old.rings.items new.rings.items
    → turns_in (station_ring new s.network) s.node 0 t.left
    < turns_in (station_ring old s.network) s.node 0 s.left
    → turns_left new < turns_left old
host-less plant scans old new at s t all is items controllers bridges node network grew less =
    let mine = host-at-place plant scans old at s all is in
    let was = old.rings.items in
    let now = new.rings.items in
    let own : host_turns now t < host_turns was s =
    subst (λ (k : ℕ). turns_in (station_ring new k) t.node 0 t.left < host_turns was s)
    (sym network)
    (subst (λ (m : ℕ). turns_in (station_ring new s.network) m 0 t.left < host_turns was s)
    (sym node)
    less) in
    let hosts : sum_by (host_turns now) (set old.hosts.items at t)
    < sum_by (host_turns was) old.hosts.items =
    sum-less (host_turns was) (host_turns now) old.hosts.items at s t is own
    (λ k z other is-z.
    let its = host-at-place plant scans old k z all is-z in
    host-same s.node was now grew z
    (λ same. other (same-host plant all.sound k at its.plan mine.plan its.plan_is
    mine.plan_is (sym its.stands.node ∙ (same ∙ mine.stands.node))))) in
    let rest : sum_by (station_turns now) old.controllers.items ≡ sum_by
    (station_turns was) old.controllers.items =
    sum-same (station_turns was) (station_turns now) old.controllers.items
    (λ k z is-z.
    let its = at-place plant scans old k z all is-z in
    station-same s.node was now grew z
    (λ same. controller-no-host plant all.sound k at its.plan mine.plan its.plan_is mine.plan_is
    (sym its.stands.node ∙ (same ∙ mine.stands.node)))) in
    let far : sum_by (site_turns now) old.bridges.items ≡ sum_by (site_turns was)
    old.bridges.items =
    sum-same (site_turns was) (site_turns now) old.bridges.items
    (λ k z is-z.
    let its = site-at-place plant scans old k z all is-z in
    let apart = host-no-end plant all.sound at k mine.plan its.plan mine.plan_is its.plan_is in
    let plan = its.stands.plan_is in
    site-same s.node was now grew z
    (λ same. apart.0 (sym mine.stands.node ∙ (sym same
    ∙ ap (λ (p : BridgePlan). p.left) plan)))
    (λ same. apart.1 (sym mine.stands.node ∙ (sym same
    ∙ ap (λ (p : BridgePlan). p.right) plan)))) in
    let a = ap (sum_by (station_turns now)) controllers in
    let b = ap (sum_by (host_turns now)) items in
    let c = ap (sum_by (site_turns now)) bridges in
    omega (arith, hosts, rest, far, a, b, c)

-- of an end of a bridge
pub site-less : (plant : Plant) (scans : ℕ) (old new : Stations) (at n : ℕ) (s t : BridgeSite)
    (all : StandAll plant scans old) (is : slice_get old.bridges.items at ≡ Some s)
    (items : new.bridges.items ≡ set old.bridges.items at t)
    (controllers : new.controllers.items ≡ old.controllers.items)
    (hosts : new.hosts.items ≡ old.hosts.items)
    → IsEndAt plant scans old new at s t all is items controllers hosts n
    → GrewBy n old.rings.items new.rings.items
    → site_turns new.rings.items t < site_turns old.rings.items s
    → turns_left new < turns_left old
site-less plant scans old new at n s t all is items controllers hosts apart grew own =
    let was = old.rings.items in
    let now = new.rings.items in
    let bridges : sum_by (site_turns now) (set old.bridges.items at t)
    < sum_by (site_turns was) old.bridges.items =
    sum-less (site_turns was) (site_turns now) old.bridges.items at s t is own
    (λ k z other is-z.
    let its = site-at-place plant scans old k z all is-z in
    let far = apart.no_bridge k its.plan other its.plan_is in
    let plan = its.stands.plan_is in
    site-same n was now grew z
    (λ same. far.0 (sym (ap (λ (p : BridgePlan). p.left) plan) ∙ same))
    (λ same. far.1 (sym (ap (λ (p : BridgePlan). p.right) plan) ∙ same))) in
    let rest : sum_by (station_turns now) old.controllers.items ≡ sum_by
    (station_turns was) old.controllers.items =
    sum-same (station_turns was) (station_turns now) old.controllers.items
    (λ k z is-z.
    let its = at-place plant scans old k z all is-z in
    station-same n was now grew z
    (λ same. apart.no_controller k its.plan its.plan_is (sym its.stands.node ∙ same))) in
    let more : sum_by (host_turns now) old.hosts.items ≡ sum_by (host_turns was)
    old.hosts.items =
    sum-same (host_turns was) (host_turns now) old.hosts.items
    (λ k z is-z.
    let its = host-at-place plant scans old k z all is-z in
    host-same n was now grew z
    (λ same. apart.no_host k its.plan its.plan_is (sym its.stands.node ∙ same))) in
    let a = ap (sum_by (station_turns now)) controllers in
    let b = ap (sum_by (host_turns now)) hosts in
    let c = ap (sum_by (site_turns now)) items in
    omega (arith, bridges, rest, more, a, b, c)

-- ---- nobody is there

-- some station that a test counts
counts-some : {X : Type 0} (p : X → Bool) (xs : List X) → count_by p xs ≢ 0
    → (k : ℕ) × (x : X) × (slice_get xs k ≡ Some x) × (p x ≡ true)
counts-some p [] some = absurd (some refl)
counts-some p (x ∷ xs) some = ⊎_elim
    (λ (yes : p x ≡ true). (0, x, refl, yes))
    (λ (no' : p x ≡ false).
    let c = count-cons p x xs in
    let z = none-if (p x) no' in
    let more = counts-some p xs (λ e. some (omega (arith, c, z, e))) in
    (suc more.0, more.1, more.2, more.3))
    (cases_Bool (p x))

not-all-zero : (a b c : ℕ) → a + b + c ≢ 0 → (a ≢ 0) ⊎ ((b ≢ 0) ⊎ (c ≢ 0))
not-all-zero zero zero c some = inr (inr (λ e. some (omega (arith, e))))
not-all-zero zero (suc b) c some = inr (inl (λ e. absurd (cc)))
not-all-zero (suc a) b c some = inl (λ e. absurd (cc))

pub station-open : (run : Stations) → stations_here run ≢ 0
    → ((k : ℕ) × (s : ControllerStation) × (slice_get run.controllers.items k ≡ Some s)
    × (s.left ≡ false))
    ⊎ (((k : ℕ) × (s : HostStation) × (slice_get run.hosts.items k ≡ Some s) × (s.left ≡ false))
    ⊎ ((k : ℕ) × (s : BridgeSite) × (slice_get run.bridges.items k ≡ Some s)
    × (site_has_left s ≡ false)))
station-open run some = ⊎_elim
    (λ (c : count_by (λ (s : ControllerStation). not s.left) run.controllers.items ≢ 0).
    let found = counts-some (λ (s : ControllerStation). not s.left) run.controllers.items c in
    inl (found.0, found.1, found.2, here-counted found.1.left found.3))
    (λ (rest : (count_by (λ (s : HostStation). not s.left) run.hosts.items ≢ 0)
    ⊎ (count_by (λ (s : BridgeSite). not (site_has_left s)) run.bridges.items ≢ 0)). ⊎_elim
    (λ (c : count_by (λ (s : HostStation). not s.left) run.hosts.items ≢ 0).
    let found = counts-some (λ (s : HostStation). not s.left) run.hosts.items c in
    inr (inl (found.0, found.1, found.2, here-counted found.1.left found.3)))
    (λ (c : count_by (λ (s : BridgeSite). not (site_has_left s)) run.bridges.items ≢ 0).
    let found = counts-some (λ (s : BridgeSite). not (site_has_left s)) run.bridges.items c in
    inr (inr (found.0, found.1, found.2, here-counted (site_has_left found.1) found.3)))
    rest)
    (not-all-zero _ _ _ some)

pub one-open : (a b : Bool) → (a && b) ≡ false → (a ≡ false) ⊎ (b ≡ false)
one-open true b is = inr is
one-open false b is = inl refl

-- a node that has not left, on the ring of a network
pub record SomebodyOn (plant : Plant) (run : Stations) : Type 0 where
  pub net : NetPlan
  pub there : Contains plant.nets net
  pub node : ℕ
  pub here : node_has_left net (station_ring run net.number).history node ≡ false

somebody-on : (plant : Plant) (run : Stations) (network node : ℕ)
    → NodeOn plant run.rings.items network node
    → node_has_left (net_of plant node) (station_ring run network).history node ≡ false
    → SomebodyOn plant run
somebody-on plant run network node on here = record {
  net = on.on.net;
  there = on.on.there;
  node = node;
  here = sym (λ i. node_has_left (on.on.is i) (station_ring run (sym on.on.number i)).history node)
      ∙ here;
}

pub some-there : (plant : Plant) (scans : ℕ) (run : Stations) → StandAll plant scans run
    → stations_here run ≢ 0 → SomebodyOn plant run
some-there plant scans run all some = ⊎_elim
    (λ (c : (k : ℕ) × (s : ControllerStation)
    × (slice_get run.controllers.items k ≡ Some s) × (s.left ≡ false)).
    let its = at-place plant scans run c.0 c.1 all c.2 in
    somebody-on plant run c.1.network its.plan.node its.ring (sym its.stands.left ∙ c.3))
    (λ (rest : ((k : ℕ) × (s : HostStation) × (slice_get run.hosts.items k ≡ Some s)
    × (s.left ≡ false))
    ⊎ ((k : ℕ) × (s : BridgeSite) × (slice_get run.bridges.items k ≡ Some s)
    × (site_has_left s ≡ false))). ⊎_elim
    (λ (c : (k : ℕ) × (s : HostStation) × (slice_get run.hosts.items k ≡ Some s)
    × (s.left ≡ false)).
    let its = host-at-place plant scans run c.0 c.1 all c.2 in
    somebody-on plant run c.1.network its.plan.node its.ring (sym its.stands.left ∙ c.3))
    (λ (c : (k : ℕ) × (s : BridgeSite) × (slice_get run.bridges.items k ≡ Some s)
    × (site_has_left s ≡ false)).
    let its = site-at-place plant scans run c.0 c.1 all c.2 in
    let of = λ (side : ℕ). end_has_left side c.1.station in
    let plan = its.stands.plan_is in
    ⊎_elim
    (λ (left : end_has_left c.1.plan.left c.1.station ≡ false).
    somebody-on plant run its.plan.left_net its.plan.left its.left
    (sym (end-knows its.plan.left c.1.station (net_of plant its.plan.left)
    (station_ring run its.plan.left_net).history its.stands.left)
    ∙ (ap of (sym (ap (λ (p : BridgePlan). p.left) plan)) ∙ left)))
    (λ (right : end_has_left c.1.plan.right c.1.station ≡ false).
    somebody-on plant run its.plan.right_net its.plan.right its.right
    (sym (end-knows its.plan.right c.1.station (net_of plant its.plan.right)
    (station_ring run its.plan.right_net).history its.stands.right)
    ∙ (ap of (sym (ap (λ (p : BridgePlan). p.right) plan)) ∙ right)))
    (one-open (end_has_left c.1.plan.left c.1.station) (end_has_left c.1.plan.right c.1.station)
    c.3))
    rest)
    (station-open run some)

-- ---- members and the token

or-true : (b : Bool) → (b || true) ≡ true
or-true true = refl
or-true false = refl

count-there : (p : ℕ → Bool) (xs : List ℕ) (k n : ℕ) → k < length xs → slice_index_or xs k n ≡ n
    → p n ≡ true → 0 < count_by p xs
count-there p [] k n low is named = absurd (omega (arith, low))
count-there p (x ∷ xs) zero n low is named =
    let c = count-cons p x xs in
    let o = one-if (p x) (ap p is ∙ named) in
    omega (arith, c, o)
count-there p (x ∷ xs) (suc k) n low is named =
    let c = count-cons p x xs in
    let more = count-there p xs k n (omega (arith, low)) is named in
    omega (arith, c, more)

module _ (law : SomebodyHolds) (plant : Plant) (scans : ℕ) (run : Stations)
    (all : StandAll plant scans run) where
  -- where a node has not left its ring, the ring has members
  pub members-there : (somebody : SomebodyOn plant run)
      → members_in run somebody.net.number ≢ 0
  members-there somebody =
      let net = somebody.net in
      let of = ring-of plant run.rings.items all.sound all.rings net somebody.there in
      let st = of.stands in
      let history = of.station.ring.history in
      let holder = (ring_after net history).holder in
      let here : node_has_left net history somebody.node ≡ false =
      sym (ap (λ (r : KeptRing). node_has_left net r.history somebody.node) of.ring_is)
      ∙ somebody.here in
      let sound = (net-sound plant net all.sound somebody.there).plan in
      let some : 0 < members_of_ring of.station = ⊎_elim
      (λ (in' : status_at net history holder ≡ In).
      let member = there-member net history holder st.legal (ap is_in in') in
      let count = count-there (λ (n : ℕ). is_in (status_at net history n)) net.members member.0
      holder member.1 member.2 (ap is_in in') in
      let same : members_of_ring of.station
      ≡ count_by (λ (n : ℕ). is_in (status_at net history n)) net.members =
      λ i. count_by (λ (n : ℕ). is_in (status_at (st.net_is i) history n)) (st.members i) in
      omega (arith, count, same))
      (λ (nobody : (holder ≡ 0) × ((k : ℕ) → node_has_left net history k ≡ true)).
      absurd (true≢false (sym (nobody.1 somebody.node) ∙ here)))
      (law net history (low-members net sound) st.legal) in
      λ none. let is = ap members_if of.found in
      let zero' : members_in run net.number ≡ 0 = none in
      absurd (omega (arith, some, is, zero'))

  -- where a ring has members, one holds the token
  pub members-hold : (network : ℕ) → members_in run network ≢ 0 → IsHeld run network
  members-hold network some = by (station_on run.rings.items network) refl where
    by : (o : Option RingStation) → station_on run.rings.items network ≡ o → IsHeld run network
    by None is = absurd (some (ap members_if is))
    by (Some station) is =
        let spot = found-place (λ (r : RingStation). r.network == network) run.rings.items station
        is in
        let at = ring-place plant run.rings.items all.sound all.rings spot.0 station spot.1 in
        let there = contains-at plant.nets spot.0 at.net at.net_is in
        let net_is = at.stands.net_is in
        let history = station.ring.history in
        let found = counts-some (λ (n : ℕ). is_in_ring station.ring n) station.members
        (λ none. some (ap members_if is ∙ none)) in
        let here : is_in (status_at at.net history found.1) ≡ true =
        sym (ap (λ (n : NetPlan). is_in (status_at n history found.1)) net_is) ∙ found.3 in
        let holder = (ring_after at.net history).holder in
        let held : is_held (ring_after at.net history) ≡ true = ⊎_elim
        (λ (in' : status_at at.net history holder ≡ In). ap is_in in')
        (λ (nobody : (holder ≡ 0) × ((k : ℕ) → node_has_left at.net history k ≡ true)).
        absurd (true≢false (sym (nobody.1 found.1) ∙ ap has_left (in-of _ here))))
        (law at.net history (low-members at.net (net-sound plant at.net all.sound there).plan)
        at.stands.legal) in
        (λ i. is_held (ring_of (ring_if (is i))))
        ∙ (ap (λ (n : NetPlan). is_held (ring_after n history)) net_is ∙ held)

  -- then it is the node of a station or an end of a bridge
  pub holder-found : (place : ℕ) (station : RingStation) (network : ℕ)
      → slice_get run.rings.items place ≡ Some station → station.network ≡ network
      → position (λ (s : ControllerStation). s.node == (ring_of station.ring).holder)
      run.controllers.items ≡ None
      → position (λ (s : HostStation). s.node == (ring_of station.ring).holder) run.hosts.items
      ≡ None
      → position (λ (s : BridgeSite). is_end_of (ring_of station.ring).holder s.plan)
      run.bridges.items ≡ None
      → IsHeld run network → ⊥
  holder-found place station network at-ring on none no-host no-bridge held =
      let at = ring-place plant run.rings.items all.sound all.rings place station at-ring in
      let there = contains-at plant.nets place at.net at.net_is in
      let history = station.ring.history in
      let n = (ring_of station.ring).holder in
      let net_is = at.stands.net_is in
      let ring : station_ring run network ≡ station.ring =
      ap (λ (k : ℕ). station_ring run k) (sym on) ∙ ap ring_if at.found in
      let here : is_in (status_at station.ring.net history n) ≡ true =
      sym (ap (λ (r : KeptRing). is_held (ring_of r)) ring) ∙ held in
      let legal : IsLegalRing station.ring.net history =
      subst (λ (p : NetPlan). IsLegalRing p history) (sym net_is) at.stands.legal in
      let member = subst (λ (p : NetPlan). IsMember p n) net_is
      (there-member station.ring.net history n legal here) in
      ⊎_elim
      (λ (c : (k : ℕ) × (p : ControllerPlan) × (slice_get plant.controllers k ≡ Some p)
      × (p.node ≡ n)).
      let its = zip-at-first (StandsOn plant scans run.rings.items) plant.controllers
      run.controllers.items c.0 c.1 all.controllers c.2 in
      let no' = position-none (λ (s : ControllerStation). s.node == n)
      run.controllers.items c.0 its.0 none its.1 in
      true≢false (sym (eq-eqb its.0.node n (its.2.node ∙ c.3)) ∙ no'))
      (λ (rest : ((k : ℕ) × (p : HostPlan) × (slice_get plant.hosts k ≡ Some p) × (p.node ≡ n))
      ⊎ ((k : ℕ) × (p : BridgePlan) × (slice_get plant.bridges k ≡ Some p)
      × ((p.left ≡ n) ⊎ (p.right ≡ n)))). ⊎_elim
      (λ (c : (k : ℕ) × (p : HostPlan) × (slice_get plant.hosts k ≡ Some p) × (p.node ≡ n)).
      let its = zip-at-first (HostStandsOn plant run.rings.items) plant.hosts run.hosts.items c.0
      c.1 all.hosts c.2 in
      let no' = position-none (λ (s : HostStation). s.node == n)
      run.hosts.items c.0 its.0 no-host its.1 in
      true≢false (sym (eq-eqb its.0.node n (its.2.node ∙ c.3)) ∙ no'))
      (λ (c : (k : ℕ) × (p : BridgePlan) × (slice_get plant.bridges k ≡ Some p)
      × ((p.left ≡ n) ⊎ (p.right ≡ n))).
      let its = zip-at-first (StandsSite plant run.rings.items) plant.bridges run.bridges.items
      c.0 c.1 all.bridges c.2 in
      let no' = position-none (λ (s : BridgeSite). is_end_of n s.plan)
      run.bridges.items c.0 its.0 no-bridge its.1 in
      let yes : is_end_of n c.1 ≡ true = end-named c.1 n c.3 in
      true≢false (sym (ap (is_end_of n) its.2.plan_is ∙ yes) ∙ no'))
      rest)
      (member-station plant all.sound at.net there n member).found
    where
      end-named : (p : BridgePlan) (m : ℕ) → (p.left ≡ m) ⊎ (p.right ≡ m) → is_end_of m p ≡ true
      end-named p m (inl same) = ap (λ b. b || (p.right == m)) (eq-eqb p.left m same)
      end-named p m (inr same) = ap (λ b. (p.left == m) || b) (eq-eqb p.right m same)
          ∙ or-true (p.left == m)

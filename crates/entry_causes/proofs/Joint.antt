-- One order of all entries of each ring of a joint history, and of the stations there.
use Rattle.std.proofs.Common.{ℕ, List, [], ◌∷◌, ◌++◌, map, get_or, sym, subst}
use Rattle.std.specs.Prelude.{Contains}
use Rattle.std.specs.List.{AllByRecursion as Each}
use Rattle.std.proofs.lemmas.List.Elements.{Contains-get_or, recursion_from_All}
use Rattle.plant_types.specs.declared.net.HostPlan.{HostPlan}
use Rattle.plant_types.specs.declared.plan.ControllerPlan.{ControllerPlan}
use Rattle.plant_types.specs.declared.plan.Plant.{Plant}
use Rattle.plant_types.specs.Plans.{IsPlant}
use Rattle.ring_core.specs.declared.entry.RingEntry.{RingEntry}
use Rattle.net_laws.specs.TiedLists.{own}
use Rattle.net_laws.specs.JointHistory.{noted_on_rings, ControllerLog, HostLog, IsLegalJoint, Joint}
use Rattle.net_laws.specs.JointHistory.{RingLog}
use Rattle.one_order.specs.Merges.{Merged, AsNoted, AsDone, noted_of, deeds_of, Runs, InTimeFrom}
use Rattle.one_order.specs.Orders.{HaveNodesApart, Log}
use Rattle.entry_causes.specs.Causes.{StationEntry, ByController, ByHost, Noted, Done, no_notes}
use Rattle.entry_causes.specs.Causes.{no_deeds, note, deed, AreCaused}
use Rattle.entry_causes.specs.InTime.{InTime, HostInTime, IsInTime}
use Rattle.entry_causes.specs.Joint.{controller_log, host_log, logs_on, stations_on}
use Rattle.entry_causes.specs.Joint.{IsControllerInTime, IsHostInTime, StationsAreInTime}
use Rattle.entry_causes.specs.Joint.{RingIsInOneOrder, JointIsInOneOrder}
use Rattle.one_order.proofs.Merges.{nothing-due, noted-first, done-first}
use Rattle.net_laws.proofs.On.{net-sound}
use Rattle.net_laws.proofs.Rings.{of-ring}
use Rattle.entry_causes.proofs.Nodes.{apart-on}
use Rattle.entry_causes.proofs.On.{controllers-here, hosts-here}
use Rattle.entry_causes.proofs.Stations.{one-order}

-- entries of one sort among those of both
module _ {X : Type 0} (f : X → StationEntry) where
  abbrev noting : Noted → X → Noted
  noting s e = note s (f e)

  mapped-runs : (s : Noted) (d : Done) (w : List (Merged X RingEntry))
      → Runs noting deed AreCaused s d w
      → InTimeFrom note deed AreCaused s d (map f (noted_of w)) (deeds_of w)
  mapped-runs s d [] x = nothing-due note deed AreCaused s d
  mapped-runs s d (AsNoted e ∷ w) x =
      noted-first note deed AreCaused s d (f e) (map f (noted_of w)) (deeds_of w) x.0
      (mapped-runs (noting s e) d w x.1)
  mapped-runs s d (AsDone r ∷ w) x =
      done-first note deed AreCaused s d r (map f (noted_of w)) (deeds_of w) x.0
      (mapped-runs s (deed d r) w x.1)

  mapped : (s : Noted) (d : Done) (known : List X) (first : List RingEntry)
      → InTimeFrom noting deed AreCaused s d known first
      → InTimeFrom note deed AreCaused s d (map f known) first
  mapped s d known first x =
      subst (λ (k : List X). InTimeFrom note deed AreCaused s d (map f k) first) x.noted
      (subst (λ (o : List RingEntry). InTimeFrom note deed AreCaused s d (map f (noted_of x.merge))
      o) x.done (mapped-runs s d x.merge x.runs))

both-timely : (ring : List RingEntry) (a b : List (Log StationEntry)) → Each (IsInTime ring) a
    → Each (IsInTime ring) b
    → Each (IsInTime ring) (a ++ b)
both-timely ring [] b x y = y
both-timely ring (log ∷ a) b x y = (x.0, both-timely ring a b x.1 y)

controllers-timely : (ring : List RingEntry) (logs : List ControllerLog)
    → Each (IsControllerInTime ring) logs
    → Each (IsInTime ring) (map controller_log logs)
controllers-timely ring [] all = tt
controllers-timely ring (log ∷ logs) all = (
  mapped ByController no_notes no_deeds log.entries (own log.node ring) all.0,
  controllers-timely ring logs all.1,
)

hosts-timely : (ring : List RingEntry) (logs : List HostLog) → Each (IsHostInTime ring) logs
    → Each (IsInTime ring) (map host_log logs)
hosts-timely ring [] all = tt
hosts-timely ring (log ∷ logs) all = (
  mapped ByHost no_notes no_deeds log.entries (own log.node ring) all.0,
  hosts-timely ring logs all.1,
)

ring-order : (plant : Plant) (scans : ℕ) (joint : Joint) (ring : RingLog) → IsPlant plant
    → IsLegalJoint plant scans joint → StationsAreInTime joint → Contains joint.rings ring
    → RingIsInOneOrder plant joint ring
ring-order plant scans joint ring sound legal x there =
    let of = of-ring plant joint.rings sound legal.rings ring there in
    let controllers = logs_on (λ (p : ControllerPlan). p.network) ring.network plant.controllers
    joint.controllers in
    let hosts = logs_on (λ (p : HostPlan). p.network) ring.network plant.hosts joint.hosts in
    one-order ring.entries (stations_on plant ring.network joint)
    (subst (λ (n : ℕ). HaveNodesApart (stations_on plant n joint)) (sym of.legal.0)
    (apart-on plant scans joint of.net (net-sound plant of.net sound of.there) legal))
    (both-timely ring.entries (map controller_log controllers) (map host_log hosts)
    (controllers-timely ring.entries controllers
    (controllers-here plant scans joint ring sound legal of
    (λ log own_is. InTime log.entries own_is)
    (recursion_from_All (IsControllerInTime (noted_on_rings joint)) joint.controllers
    x.controllers)))
    (hosts-timely ring.entries hosts
    (hosts-here plant scans joint ring sound legal of
    (λ log own_is. HostInTime log.entries own_is)
    (recursion_from_All (IsHostInTime (noted_on_rings joint)) joint.hosts x.hosts))))

pub joint-order : JointIsInOneOrder
joint-order plant scans joint sound legal x k d low =
    ring-order plant scans joint (get_or joint.rings k d) sound legal x
    (Contains-get_or joint.rings k d low)

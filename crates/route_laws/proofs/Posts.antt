-- What all rings of a joint history say of one call.
use Rattle.std.proofs.Common.{◌≡◌, ℕ, ◌<◌, ◌≤◌, true, List, [], ◌∷◌, subst, inr, ⊎_elim, arith}
use Rattle.std.specs.Prelude.{Contains, ◌==◌}
use Rattle.std.specs.List.{All, AllByRecursion as Each, AllZip, count_by, sum_by}
use Rattle.std.proofs.lemmas.Bool.{cases_lt}
use Rattle.std.proofs.lemmas.List.Elements.{All-head, All-tail}
use Rattle.std.proofs.lemmas.List.Sums.{sum_by-cons}
use Rattle.plant_types.specs.declared.net.NetPlan.{NetPlan}
use Rattle.plant_types.specs.declared.plan.Plant.{Plant}
use Rattle.plant_types.specs.Plans.{IsNetOf, IsPlant}
use Rattle.mstr_block.specs.declared.call.CallId.{CallId}
use Rattle.ring_core.specs.declared.entry.RingEntry.{RingEntry}
use Rattle.ring_core.specs.declared.entry.RingEntry.TheVariants.{Post, Take}
use Rattle.ring_core.specs.Words.{maker}
use Rattle.ring_core.specs.Legal.{IsMember}
use Rattle.ring_laws.specs.Once.{IsRingHistory, posts, takes}
use Rattle.ring_laws.proofs.Law.{only-its-target, taken-once}
use Rattle.ring_laws.proofs.Lists.{contains-count, count-contains, each-contains, each-map}
use Rattle.joint_history.specs.declared.joint.RingLog.{RingLog}
use Rattle.joint_history.specs.declared.joint.Joint.{Joint}
use Rattle.joint_history.specs.JointLaws.{IsLegalJoint, IsLegalRingLog}
use Rattle.joint_history.specs.Nets.{noted_on_rings}
use Rattle.effect_laws.proofs.Entries.{asks-this, posted-owns, taken-as}
use Rattle.net_laws.proofs.Members.{all_nodes, member-stands, members-stand, nets-differ}
use Rattle.net_laws.proofs.Members.{nodes-once, times}
use Rattle.net_laws.proofs.On.{net-sound, there-times}
use Rattle.net_laws.proofs.Rings.{counted-rings, each-ring, makers, ring-of}

-- an entry of a ring names a member of its network
maker-stands : (net : NetPlan) (ring : List RingEntry) (e : RingEntry) → IsRingHistory net ring
    → Contains ring e → 1 ≤ times (maker e) net.members
maker-stands net ring e is there =
    there-times (maker e) net.members
    (each-contains (λ x. IsMember net (maker x)) ring e (makers net ring is.legal) there)

-- a Request that was taken was posted, by a member of the network
record FromMember (net : NetPlan) (ring : List RingEntry) (id : CallId) : Type 0 where
  pub taken : count_by (takes id) ring ≤ count_by (posts id) ring
  pub member : count_by (takes id) ring ≤ times id.node net.members

from-member : (net : NetPlan) (ring : List RingEntry) (id : CallId) → IsRingHistory net ring
    → FromMember net ring id
from-member net ring id is =
    let once = taken-once net ring id is in
    ⊎_elim
    (λ (few : count_by (takes id) ring < 1).
    record { taken = omega (arith, few); member = omega (arith, few) })
    (λ (some : 1 ≤ count_by (takes id) ring).
    let found = count-contains (takes id) ring some in
    let taken = taken-as id found.0 found.2 in
    let there : Contains ring (Take taken.node taken.frame) =
    subst (λ (e : RingEntry). Contains ring e) taken.is found.1 in
    let asked = (only-its-target net ring taken.node taken.frame is (inr there) taken.kind).2 in
    let posted = contains-count (posts id) ring (Post taken.frame.id.node taken.frame)
    (asks-this id taken.frame taken.kind taken.same) asked in
    let stands = maker-stands net ring (Post taken.frame.id.node taken.frame) is asked in
    let here : 1 ≤ times id.node net.members =
    subst (λ (i : CallId). 1 ≤ times i.node net.members) taken.same stands in
    record { taken = omega (arith, once, posted); member = omega (arith, once, here) })
    (cases_lt (count_by (takes id) ring) 1)

-- so it is of all rings together
all-taken : (plant : Plant) (id : CallId) (nets : List NetPlan) (rings : List RingLog)
    → All (IsNetOf plant) nets → AllZip IsLegalRingLog nets rings
    → (sum_by (λ (r : RingLog). count_by (takes id) r.entries) rings
    ≤ sum_by (λ (r : RingLog). count_by (posts id) r.entries) rings)
    × (sum_by (λ (r : RingLog). count_by (takes id) r.entries) rings
    ≤ sum_by (λ (net : NetPlan). times id.node net.members) nets)
all-taken plant id [] [] all zip = (omega arith, omega arith)
all-taken plant id [] (ring ∷ rings) all zip = absurd zip
all-taken plant id (net ∷ nets) [] all zip = absurd zip
all-taken plant id (net ∷ nets) (ring ∷ rings) all zip =
    let rest = all-taken plant id nets rings (All-tail (IsNetOf plant) net nets all) zip.1 in
    let here = from-member net ring.entries id
    (ring-of plant net ring (All-head (IsNetOf plant) net nets all) zip.0) in
    let one = sum_by-cons (λ (r : RingLog). count_by (takes id) r.entries) ring rings in
    let two = sum_by-cons (λ (r : RingLog). count_by (posts id) r.entries) ring rings in
    let three = sum_by-cons (λ (n : NetPlan). times id.node n.members) net nets in
    let posted = here.taken in
    let member = here.member in
    let more = rest.0 in
    let most = rest.1 in
    (omega (arith, one, two, posted, more), omega (arith, one, three, member, most))

-- on all rings together a Request is taken at most once
pub taken-on-rings : (plant : Plant) (scans : ℕ) (joint : Joint) (id : CallId) → IsPlant plant
    → IsLegalJoint plant scans joint → count_by (takes id) (noted_on_rings joint) ≤ 1
taken-on-rings plant scans joint id is legal =
    let all = counted-rings (takes id) joint.rings in
    let most = (all-taken plant id plant.nets joint.rings is.nets legal.rings).1 in
    let stand = members-stand plant id.node plant.nets is.nets (nets-differ plant is) in
    let once = nodes-once plant id.node is in
    omega arith

-- what nobody posted, nobody takes
pub taken-posted : (plant : Plant) (scans : ℕ) (joint : Joint) (id : CallId) → IsPlant plant
    → IsLegalJoint plant scans joint
    → count_by (takes id) (noted_on_rings joint) ≤ count_by (posts id) (noted_on_rings joint)
taken-posted plant scans joint id is legal =
    let taken = counted-rings (takes id) joint.rings in
    let posted = counted-rings (posts id) joint.rings in
    let most = (all-taken plant id plant.nets joint.rings is.nets legal.rings).0 in
    omega arith

-- each entry names an address of the plant
pub makers-stand : (plant : Plant) (scans : ℕ) (joint : Joint) → IsPlant plant
    → IsLegalJoint plant scans joint
    → Each (λ e. 1 ≤ times (maker e) (all_nodes plant)) (noted_on_rings joint)
makers-stand plant scans joint is legal =
    each-ring stands plant.nets joint.rings (λ net ring there lawful.
    each-map (λ e. IsMember net (maker e)) stands ring.entries
    (λ e member.
    let here = there-times (maker e) net.members member in
    let most = member-stands plant (maker e) net (net-sound plant net is there) in
    omega (arith, here, most))
    (makers net ring.entries lawful.1)) legal.rings
  where
    stands : RingEntry → Type 0
    stands e = 1 ≤ times (maker e) (all_nodes plant)

-- the node that posted a Request is the one that its name says
pub posts-own : (plant : Plant) (scans : ℕ) (joint : Joint) (id : CallId)
    → IsLegalJoint plant scans joint
    → Each (λ e. posts id e ≡ true → (maker e == id.node) ≡ true) (noted_on_rings joint)
posts-own plant scans joint id legal =
    each-ring (λ e. posts id e ≡ true → (maker e == id.node) ≡ true) plant.nets joint.rings
    (λ net ring there lawful. posted-owns net [] ring.entries id lawful.1) legal.rings

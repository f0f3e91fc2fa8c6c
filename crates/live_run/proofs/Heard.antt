-- What a node had seen of its ring has all that it noted on any, and so on its own.
use Rattle.std.proofs.Common.{◌≡◌, ℕ, ◌<◌, ◌++◌, List, [], Some, sym, ap, subst, ◌∙◌, arith}
use Rattle.std.specs.List.{AllZip, Contains}
use Rattle.std.proofs.lemmas.List.Elements.{All-contains}
use Rattle.turn_gate.specs.Known.{Owns, PassFacts, made_by}
use Rattle.plant_types.specs.declared.net.NetPlan.{NetPlan}
use Rattle.plant_types.specs.declared.plan.Plant.{Plant}
use Rattle.plant_types.specs.Plans.{IsNode, IsPlant}
use Rattle.ring_core.specs.declared.entry.RingEntry.{RingEntry}
use Rattle.ring_core.specs.Machine.{addresses}
use Rattle.ring_core.specs.Words.{maker}
use Rattle.tied_lists.specs.Own.{own}
use Rattle.joint_history.specs.declared.joint.RingLog.{RingLog}
use Rattle.joint_history.specs.JointLaws.{IsLegalRingLog}
use Rattle.joint_history.specs.Nets.{entries_of_rings, entries_on, own_ring}
use Rattle.net_laws.proofs.On.{IsOn}
use Rattle.net_laws.proofs.Rings.{own-on}
use Rattle.live_run.specs.Closing.{AllClosed}
use Rattle.live_run.specs.Homes.{Purse, RingGate}
use Rattle.live_run.specs.Runs.{IsBrought}
use Rattle.live_run.proofs.Closed.{ClosedAt, closed-at}

-- a node is a member of a network, so its address is low
pub low-node : (plant : Plant) (network node : ℕ) → IsOn plant network node → node < addresses
low-node plant network node on =
    let it = All-contains IsNode on.net.members node on.sound.members.each on.member in
    let to = it.to in
    omega (arith, to)

-- what a pass brought back is all that its node noted
owned : (p : PassFacts RingEntry) (entries seen : List RingEntry) (n : ℕ) → Owns maker p entries
    → p.gate.opening ≡ [] → Contains p.joined (n, made_by maker n seen)
    → own n seen ≡ own n entries
owned p entries seen n owns unused there =
    let made : owns.made ≡ entries =
    sym (owns.all_is ∙ ap (λ (l : List RingEntry). l ++ owns.made) unused) in
    All-contains (λ (q : ℕ × List RingEntry). q.1 ≡ made_by maker q.0 owns.made) p.joined
    (n, made_by maker n seen) owns.joined_are there ∙ ap (own n) made

-- as a pass came back its node had seen all that it noted on its ring
own-seen : (gates : List RingGate) (purses : List Purse) (rings : List RingLog)
    (network node : ℕ) (Holds : List RingEntry → Type 0)
    (b : IsBrought gates purses network node Holds)
    (c : ClosedAt gates purses rings network b.side.gate)
    → own node b.side.seen ≡ own node (entries_on network rings)
own-seen gates purses rings network node Holds b c =
    let kept : Some c.purse ≡ Some (Some b.pass) = sym c.kept ∙ b.kept in
    let was : c.purse ≡ Some c.closed.pass = c.closed.kept in
    let same : c.closed.pass ≡ b.pass = cc in
    subst (λ (n : ℕ). own n b.side.seen ≡ own n (entries_on network rings)) b.number
    (owned b.pass c.ring.entries b.side.seen b.side.number
    (subst (λ (p : PassFacts RingEntry). Owns maker p c.ring.entries) same c.closed.own)
    b.unused b.brought.own_is
    ∙ ap (own b.side.number) (sym c.entries))

-- what a node had seen has all that it noted: on any ring, and on that of its own network
pub record HasAllOwn (plant : Plant) (rings : List RingLog) (node : ℕ) (seen : List RingEntry)
    : Type 0 where
  pub on_rings : own node seen ≡ own node (entries_of_rings rings)
  pub on_own : own node seen ≡ own node (own_ring plant rings node)

pub noted-own : (plant : Plant) (gates : List RingGate) (purses : List Purse)
    (rings : List RingLog) → IsPlant plant → AllClosed gates purses rings
    → AllZip IsLegalRingLog plant.nets rings → (network node : ℕ)
    (Holds : List RingEntry → Type 0) → IsOn plant network node
    → (b : IsBrought gates purses network node Holds) → HasAllOwn plant rings node b.side.seen
noted-own plant gates purses rings sound all legal network node Holds on b =
    let there : own node b.side.seen ≡ own node (entries_on on.net.number rings) =
    own-seen gates purses rings network node Holds b
    (closed-at network b.side.gate gates purses rings all b.home)
    ∙ ap (λ (k : ℕ). own node (entries_on k rings)) (sym on.number) in
    record {
      on_rings = there ∙ sym (own-on plant rings sound legal on.net node on.there on.member);
      on_own = there
          ∙ ap (λ (net : NetPlan). own node (entries_on net.number rings)) (sym on.is);
    }

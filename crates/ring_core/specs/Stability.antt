-- What entries leave of a node as it was, who holds the token, and who takes what goes on. This
-- project's own.
use Rattle.std.specs.Prelude.{◌≡◌, ◌≢◌, ◌<◌, ◌⊎◌, ℕ, true, false, List, ◌++◌, All, Contains}
use Rattle.std.specs.List.{AllByRecursion}
use Rattle.ring_core.specs.Words.{NetPlan, RingEntry, Take, Leave, Join, Frame, Asking, maker}
use Rattle.ring_core.specs.Words.{is_onward}
use Rattle.ring_core.specs.Machine.{RingIs, addresses, ring_node, ring_after, is_here, is_held}
use Rattle.ring_core.specs.Machine.{is_bridge, only_bridges}
use Rattle.ring_core.specs.Refusals.{quiet_for}
use Rattle.ring_core.specs.Legal.{IsLegalRing, IsMember, IsRun}

-- No entry of a list is of this node.
abbrev pub NoneBy : ℕ → List RingEntry → Type 0
NoneBy n es = AllByRecursion (λ (e : RingEntry). maker e ≢ n) es

-- The entries of a node by which it leaves, or asks to come in again.
abbrev pub IsLeaveOrJoin : ℕ → RingEntry → Type 0
IsLeaveOrJoin n (Leave m cause) = m ≡ n
IsLeaveOrJoin n (Join m) = m ≡ n
IsLeaveOrJoin n _ = ⊥

-- A list has no such entry of this node.
abbrev pub NoLeaveOrJoin : ℕ → List RingEntry → Type 0
NoLeaveOrJoin n es = AllByRecursion (λ (e : RingEntry). IsLeaveOrJoin n e → ⊥) es

-- Where a node stands toward the ring changes by such an entry of its own alone, but for a node
-- that asks to come in.
abbrev pub MembershipStays : Type 0
MembershipStays = (net : NetPlan) (past more : List RingEntry) (n : ℕ) →
    (ring_node (ring_after net past) n).status ≢ Asking → NoLeaveOrJoin n more →
    (ring_node (ring_after net (past ++ more)) n).status
    ≡ (ring_node (ring_after net past) n).status

-- Who holds the token, a node's part, and for how long those whom it waits for have been done.
pub record Stays (net : NetPlan) (r s : RingIs) (n : ℕ) : Type 0 where
  pub holder : s.holder ≡ r.holder
  pub part : ring_node s n ≡ ring_node r n
  pub quiet : quiet_for net s n ≡ quiet_for net r n

-- While a member holds the token, the entries of others leave all of this.
abbrev pub HoldersKeep : Type 0
HoldersKeep = (net : NetPlan) (past more : List RingEntry) (n : ℕ) → IsRun net past more →
    is_here (ring_node (ring_after net past) n) ≡ true → (ring_after net past).holder ≡ n →
    NoneBy n more → Stays net (ring_after net past) (ring_after net (past ++ more)) n

-- The entries by which another node that is not the end of a bridge asks to come in.
abbrev pub IsNonBridgeJoin : NetPlan → ℕ → RingEntry → Type 0
IsNonBridgeJoin net n (Join m) = (m ≢ n) × (is_bridge net m ≡ false)
IsNonBridgeJoin net n _ = ⊥

-- Where every other node on a ring, or that asks to be, is the end of a bridge, such an entry alone
-- ends it.
abbrev pub OnlyBridgesStays : Type 0
OnlyBridgesStays = (net : NetPlan) (past more : List RingEntry) (n : ℕ) →
    only_bridges net (ring_after net past).nodes n ≡ true →
    AllByRecursion (λ e. IsNonBridgeJoin net n e → ⊥) more →
    only_bridges net (ring_after net (past ++ more)).nodes n ≡ true

-- While a node is no member, from the one moment to the other, the entries of others leave its
-- part.
abbrev pub OutsidersKeep : Type 0
OutsidersKeep = (net : NetPlan) (past more : List RingEntry) (n : ℕ) →
    is_here (ring_node (ring_after net past) n) ≡ false →
    is_here (ring_node (ring_after net (past ++ more)) n) ≡ false → NoneBy n more →
    ring_node (ring_after net (past ++ more)) n ≡ ring_node (ring_after net past) n

-- Who takes a frame that is to go on from its target is the end of a bridge.
abbrev pub OnwardToBridges : Type 0
OnwardToBridges = (net : NetPlan) (history : List RingEntry) (n : ℕ) (f : Frame) →
    IsLegalRing net history → Contains history (Take n f) → is_onward f ≡ true →
    is_bridge net n ≡ true

-- Who holds the token is a member, and one of the plan's; where there is no member the holder is 0.
abbrev pub HolderIsMember : Type 0
HolderIsMember = (net : NetPlan) (history : List RingEntry) →
    All (λ m. m < addresses) net.members → IsLegalRing net history →
    let r = ring_after net history in
    ((is_held r ≡ true) × IsMember net r.holder)
    ⊎ ((r.holder ≡ 0) × ((n : ℕ) → is_here (ring_node r n) ≡ false))

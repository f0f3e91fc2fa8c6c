-- What a part of a turn stands on and does at the ring, by the side of it that the part is lent.
-- This project's own.
use Rattle.std.specs.Prelude.{◌≡◌, ℕ, ◌<◌, ◌≤◌, Bool, false, List, [], ◌∷◌, Option, None, is_none}
use Rattle.mstr_block.specs.declared.call.CallId.{CallId}
use Rattle.ring_core.specs.Machine.{RingIs, NodeIs, ring_after}
use Rattle.ring_core.specs.Refusals.{give_up_no}
use Rattle.ring_core.specs.Scratch.{words_put}
use Rattle.ring_core.specs.declared.frame.Frame.{Frame}
use Rattle.ring_core.specs.declared.entry.Heard.{Heard}
use Rattle.ring_core.specs.declared.entry.LeaveCause.{LeaveCause}
use Rattle.ring_core.specs.declared.entry.RingEntry.{RingEntry}
use Rattle.ring_core.specs.declared.entry.RingEntry.TheVariants.{Pass}
use Rattle.tied_lists.specs.Own.{is_of, own, WentOn, Grew, Adds}
use Rattle.tied_lists.specs.Items.{latest_down}
use Rattle.ring_core.specs.declared.status.NodeStatus.TheVariants.{Away}
use Rattle.tied_lists.specs.Waits.{Holds, HasLeft, status_at}
use Rattle.comm_port.specs.declared.ring_side.RingSide as ring_sides
use Rattle.comm_port.specs.Giving.{part_at, part_no, IsAtRest, MaySend, GivesOnPath, GivesWhere}
use Rattle.comm_port.specs.Failing.{IsAway}
use Rattle.comm_port.specs.Leaving.{cause_due, is_due, IsHere, LeftOrStood, LeftRing, HandedOn}
use Rattle.comm_port.specs.Parts.{calls_waiting}
use Rattle.comm_port.specs.Replies.{TellsStatistics}
use Rattle.comm_port.specs.Sending.{sends_left, SentOrAll, GaveUp}
use Rattle.comm_port.specs.Sides.{KeepsForOne}
use Rattle.comm_port.specs.Stands.{RingStands}
use Rattle.comm_port.specs.Turns.{IsOwnTurn, IsNoBridge, KeepsInbox}
use Rattle.comm_port.specs.Visiting.{GivesCall}

module _ {R Q : Type 0} (r : ring_sides.Ghosts R Q) where
  -- ---- What is known.

  -- The ring, as far as it is known.
  abbrev pub ring_at : R → RingIs
  ring_at s = ring_after (r.side s).net (r.known s)

  -- A node's part, as far as it is known.
  abbrev pub node_at : ℕ → R → NodeIs
  node_at n s = part_at (r.side s).net n (r.known s)

  -- A node's part after a step, on the plan before it.
  abbrev pub node_after : ℕ → R → R → NodeIs
  node_after n old new = part_at (r.side old).net n (r.known new)

  -- The frames in a node's inbox after a step, and those in its outbox.
  abbrev pub inbox_after : ℕ → R → R → List Frame
  inbox_after n old new = (node_after n old new).inbox

  abbrev pub outbox_after : ℕ → R → R → List Frame
  outbox_after n old new = (node_after n old new).outbox

  -- Whether a node has had a cause to leave for as long as it needs.
  abbrev pub is_due_at : ℕ → LeaveCause → R → Bool
  is_due_at n cause s = is_due (r.side s).net (ring_at s) n cause

  -- Why a node leaves at the end of its turn, if it does.
  abbrev pub cause_at : ℕ → Bool → Bool → R → Option LeaveCause
  cause_at n done budget s = cause_due (r.side s).net (ring_at s) n done budget

  -- The number of a node's latest Leave because power failed; 0 for none.
  abbrev pub down_at : ℕ → R → ℕ
  down_at n s = latest_down (own n (r.known s))

  -- ---- What a part stands on.

  -- The side serves a node of its plan, whose boxes and paths nobody else changes.
  abbrev pub OwnTurnAt : ℕ → R → Type 0
  OwnTurnAt n s = IsOwnTurn (r.side s) (r.known s) n

  -- A node is not the end of a bridge.
  abbrev pub IsNoBridgeAt : ℕ → R → Type 0
  IsNoBridgeAt n s = IsNoBridge (r.side s).net n

  -- A node holds the token.
  abbrev pub HoldsAt : ℕ → R → Type 0
  HoldsAt n s = Holds (r.side s).net (r.known s) n

  -- A node has left the ring.
  abbrev pub HasLeftAt : ℕ → R → Type 0
  HasLeftAt n s = HasLeft (r.side s).net (r.known s) n

  -- A node is away, and none of its calls waits.
  abbrev pub IsAwayAt : ℕ → R → Type 0
  IsAwayAt n s = IsAway (r.side s).net (r.known s) n

  -- A node has not left the ring.
  abbrev pub IsHereAt : ℕ → R → Type 0
  IsHereAt n s = IsHere (r.side s).net (r.known s) n

  -- Nothing of a node is to be sent, and none of its calls has failed.
  abbrev pub RestsAt : ℕ → R → Type 0
  RestsAt n s = IsAtRest (r.side s).net n (r.known s)

  -- A node may send: no call has failed, and what it sends was posted in this turn, on these paths.
  abbrev pub MaySendAt : ℕ → List Bool → R → Type 0
  MaySendAt n posted s = MaySend (r.side s).net n posted (node_at n s)

  -- The ring lets a call be given up.
  abbrev pub MayGiveUpAt : CallId → R → Type 0
  MayGiveUpAt id s = part_no (r.side s).net (node_at id.node s) id ≡ None

  -- ---- What holds after a step, on the plan before it.

  -- A node holds the token.
  abbrev pub HoldsAfter : ℕ → R → R → Type 0
  HoldsAfter n old new = Holds (r.side old).net (r.known new) n

  -- A node has left the ring.
  abbrev pub HasLeftAfter : ℕ → R → R → Type 0
  HasLeftAfter n old new = HasLeft (r.side old).net (r.known new) n

  -- A node left as its power failed, and has not asked to come in since.
  abbrev pub AwayAfter : ℕ → R → R → Type 0
  AwayAfter n old new = status_at (r.side old).net (r.known new) n ≡ Away

  -- A node has not left the ring.
  abbrev pub IsHereAfter : ℕ → R → R → Type 0
  IsHereAfter n old new = IsHere (r.side old).net (r.known new) n

  -- Nothing of a node is to be sent, and none of its calls has failed.
  abbrev pub RestsAfter : ℕ → R → R → Type 0
  RestsAfter n old new = IsAtRest (r.side old).net n (r.known new)

  -- The ring does not let a call be given up.
  abbrev pub RefusesGiveUp : CallId → R → R → Type 0
  RefusesGiveUp id old new =
      is_none (give_up_no (r.side old).net (ring_after (r.side old).net (r.known new)) id) ≡ false

  -- ---- What a step does.

  -- The ring's list went on by calls of this node, and is legal.
  abbrev pub RingStandsOver : ℕ → R → R → Type 0
  RingStandsOver n old new =
      RingStands r.alone (r.side old).net n (r.known old) (r.known new)

  -- A step at the ring, whatever it answers: the side stays, memory is asked for one entry at most,
  -- and the list went on by calls of this node, and is legal.
  pub record RingStep (n : ℕ) (old new : R) : Type 0 where
    pub same : r.side new ≡ r.side old
    pub kept : KeepsForOne r.alone (r.room old) (r.room new)
    pub stands : RingStandsOver n old new

  -- Entries of others came, and then these of the node.
  abbrev pub WentOnBy : ℕ → List RingEntry → R → R → Type 0
  WentOnBy n added old new = WentOn r.alone (is_of n) (r.known old) added (r.known new)

  -- The node added these entries, in this order.
  abbrev pub GrewBy : ℕ → List RingEntry → R → R → Type 0
  GrewBy n added old new = Grew r.alone (is_of n) (r.known old) added (r.known new)

  -- The node added entries of one sort.
  abbrev pub AddsOver : ℕ → (RingEntry → Type 0) → R → R → Type 0
  AddsOver n Sort old new = Adds r.alone (is_of n) Sort (r.known old) (r.known new)

  -- The inbox of a node is as it was, and the node holds the token if it did.
  abbrev pub KeepsInboxOver : ℕ → R → R → Type 0
  KeepsInboxOver n old new = KeepsInbox (r.side old).net n (r.known old) (r.known new)

  -- A node's outbox takes no more Sends than before.
  abbrev pub SendsNoMore : ℕ → R → R → Type 0
  SendsNoMore n old new =
      sends_left (r.side old).net (r.known new) n ≤ sends_left (r.side old).net (r.known old) n

  -- A node's outbox takes fewer Sends than before.
  abbrev pub SendsFewer : ℕ → R → R → Type 0
  SendsFewer n old new =
      sends_left (r.side old).net (r.known new) n < sends_left (r.side old).net (r.known old) n

  -- A node that had left has left.
  abbrev pub StaysAway : ℕ → R → R → Type 0
  StaysAway n old new = HasLeftAt n old → HasLeftAfter n old new

  -- A frame was sent, and this heard; or nothing is left to be sent.
  abbrev pub SentOrAllOver : ℕ → R → R → Option Heard → Type 0
  SentOrAllOver n old new heard =
      SentOrAll r.alone (r.side old).net n (r.known old) (r.known new) heard

  -- A call was given up with this word, exactly where the ring lets it.
  abbrev pub GaveUpOver : CallId → R → R → Option ℕ → Type 0
  GaveUpOver id old new word = GaveUp r.alone (r.side old).net id (r.known old) (r.known new) word

  -- A call was given up: the node's part is as that leaves it.
  abbrev pub GivesCallOver : ℕ → CallId → R → R → Type 0
  GivesCallOver n id old new = GivesCall (r.side old).net n id (r.known old) (r.known new)

  -- The call of a path was given up where that was due.
  abbrev pub GivesOnPathOver : ℕ → ℕ → R → R → Type 0
  GivesOnPathOver n path old new =
      GivesOnPath (r.side old).net n path (r.known old) (r.known new)

  -- On each chosen path the call was given up where that was due.
  abbrev pub GivesWhereOver : ℕ → List Bool → R → R → Type 0
  GivesWhereOver n chosen old new =
      GivesWhere (r.side old).net n chosen 5 (r.known old) (r.known new)

  -- The port answered this request for statistics.
  abbrev pub TellsOver : ℕ → Frame → R → R → Type 0
  TellsOver n request old new =
      TellsStatistics r.alone n request.id request.pdu (r.known old) (r.known new)

  -- A node left for a cause.
  abbrev pub LeftOver : ℕ → LeaveCause → R → R → Type 0
  LeftOver n cause old new = LeftRing r.alone (r.side old).net n cause (r.known old) (r.known new)

  -- A node left for a cause, or added nothing.
  abbrev pub LeftOrStoodOver : ℕ → LeaveCause → R → R → Bool → Type 0
  LeftOrStoodOver n cause old new left =
      LeftOrStood r.alone (r.side old).net n cause (r.known old) (r.known new) left

  -- A node passed the token on, and said this of its station.
  abbrev pub PassesOver : ℕ → Bool → R → R → Type 0
  PassesOver n done old new = WentOnBy n (Pass n done (words_put n (r.known old)) ∷ []) old new

  -- A turn ended as was due: the node left or passed the token on.
  abbrev pub HandedOnOver : ℕ → Bool → Bool → R → R → Type 0
  HandedOnOver n done budget old new = HandedOn r.alone (r.side old).net n done
      (words_put n (r.known old)) (cause_at n done budget old) (r.known old) (r.known new)

  -- The calls of a node that wait are those that did.
  abbrev pub WaitAsBefore : ℕ → R → R → Type 0
  WaitAsBefore n old new = calls_waiting n (r.known new) ≡ calls_waiting n (r.known old)

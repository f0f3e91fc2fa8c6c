-- What the worker of a bridge's end stands on at each part of a turn. This project's own.
use Rattle.std.specs.Prelude.{◌≡◌, ◌≢◌, ℕ, ◌<◌, Bool, if◌then◌else◌, List, [], ◌∷◌, ◌++◌}
use Rattle.std.specs.Prelude.{Option, Some, None, is_some}
use Rattle.bridge_relay.specs.declared.entry.BridgeEntry.{BridgeEntry}
use Rattle.bridge_relay.specs.Laws.{end_after}
use Rattle.bridge_relay.specs.Machine.{EndIs, RelayPath, relay_path}
use Rattle.bridge_relay.specs.Legal.{IsBridgeHistory, IsEnd, IsOpenEnd}
use Rattle.ring_core.specs.Legal.{IsPath}
use Rattle.ring_core.specs.declared.frame.FrameKind.TheVariants.{Request, Reply}
use Rattle.ring_core.specs.declared.frame.Frame.{Frame}
use Rattle.ring_core.specs.declared.entry.RingEntry.{RingEntry}
use Rattle.ring_core.specs.declared.entry.RingEntry.TheVariants.{Take}
use Rattle.tied_lists.specs.Own.{own}
use Rattle.tied_lists.specs.Tied.{TiedEnd}
use Rattle.tied_lists.specs.Waits.{waiting, last_number, IsAsk, IsOnRing}
use Rattle.comm_port.specs.Giving.{IsAtRest}
use Rattle.comm_port.specs.Sides.{RingSideIs, MayWrite}
use Rattle.comm_port.specs.Turns.{IsOwnTurn}
use Rattle.comm_port.specs.JointHistory.{backs_of, side_items}
use Rattle.bridge_port.specs.Sides.{BridgeSideIs}

-- The worker of a bridge's end: the end's address, and whether it keeps to a budget of Passes.
pub record BridgeWorkerIs : Type 0 where
  pub side : ℕ
  pub budget : Bool

-- The number of the call that a node's path waits for; none where it waits for none.
abbrev pub number_waited : Option Frame → Option ℕ
number_waited None = None
number_waited (Some f) = Some f.id.seq

-- The number of the call that is out on a path of an end; none where none is.
abbrev pub number_out : RelayPath → Option ℕ
number_out path = if is_some path.out then Some path.last else None

-- Each path of the node waits for the call that is out on the same path of the end, and the number
-- that was posted there last is the one that the end gave last.
pub record EndPathsAgree (end : EndIs) (b : List RingEntry) : Type 0 where
  pub waits : (p : ℕ) → IsPath p → number_waited (waiting p b) ≡ number_out (relay_path end p)
  pub numbers : (p : ℕ) → IsPath p → last_number p b ≡ (relay_path end p).last

-- A worker stands between an end that has not left and the ring: their lists are tied, and their
-- paths agree.
pub record EndTurning {P Q : Type 0} (n : ℕ) (bridge : BridgeSideIs P) (list : List BridgeEntry)
    (side : RingSideIs Q) (ring : List RingEntry) : Type 0 where
  pub serves : MayWrite bridge.writer n
  pub is_open : IsOpenEnd bridge.plan list n
  pub legal : IsBridgeHistory bridge.plan list
  pub own_turn : IsOwnTurn side ring n
  pub tied : TiedEnd (side_items n list) (backs_of n list) (own n ring)
  pub paths : EndPathsAgree (end_after bridge.plan list n) (own n ring)

-- A worker stands between an end that has not left and the ring, before the last entry of the node,
-- a Take of this frame.
pub record EndTaking {P Q : Type 0} (n : ℕ) (f : Frame) (bridge : BridgeSideIs P)
    (list : List BridgeEntry) (side : RingSideIs Q) (ring : List RingEntry) : Type 0 where
  pub before : List RingEntry
  pub own_is : own n ring ≡ before ++ Take n f ∷ []
  pub serves : MayWrite bridge.writer n
  pub is_open : IsOpenEnd bridge.plan list n
  pub legal : IsBridgeHistory bridge.plan list
  pub own_turn : IsOwnTurn side ring n
  pub tied : TiedEnd (side_items n list) (backs_of n list) before
  pub paths : EndPathsAgree (end_after bridge.plan list n) before
  pub request : f.kind ≡ Request → f.id.node ≢ n
  pub reply : f.kind ≡ Reply → (ask : Frame) × (waiting f.id.path before ≡ Some ask)
      × (ask.id ≡ f.id) × IsAsk n f.id.path ask

-- An end and the ring agree between two turns, whichever node holds the token; a call waits for its
-- answer for one Pass at least; and nothing of the node is to be sent or has failed.
pub record EndTies {P Q : Type 0} (n : ℕ) (bridge : BridgeSideIs P) (list : List BridgeEntry)
    (side : RingSideIs Q) (ring : List RingEntry) : Type 0 where
  pub serves_bridge : MayWrite bridge.writer n
  pub end : IsEnd bridge.plan n
  pub legal : IsBridgeHistory bridge.plan list
  pub serves_ring : MayWrite side.writer n
  pub on : IsOnRing side.net ring n
  pub answer : 0 < side.net.answer
  pub tied : TiedEnd (side_items n list) (backs_of n list) (own n ring)
  pub paths : EndPathsAgree (end_after bridge.plan list n) (own n ring)
  pub rest : IsAtRest side.net n ring

-- What a worker stands on at each part of a turn. This project's own.
use Rattle.std.specs.Prelude.{◌≡◌, ◌≢◌, ℕ, ◌<◌, false, List, [], ◌∷◌, ◌++◌, length, get_or}
use Rattle.std.specs.Prelude.{Option, Some, None}
use Rattle.plant_types.specs.declared.net.NetPlan.{NetPlan}
use Rattle.controller_core.specs.declared.entry.Entry.{Entry}
use Rattle.ring_core.specs.Machine.{path_places, ring_node, ring_after, is_bridge}
use Rattle.ring_core.specs.declared.frame.FrameKind.TheVariants.{Request, Reply}
use Rattle.ring_core.specs.declared.frame.Frame.{Frame}
use Rattle.ring_core.specs.declared.entry.RingEntry.{RingEntry}
use Rattle.ring_core.specs.declared.entry.RingEntry.TheVariants.{Take}
use Rattle.tied_lists.specs.Own.{own}
use Rattle.tied_lists.specs.Items.{AController, Called, Items, NetCall}
use Rattle.tied_lists.specs.Tied.{Tied, TiedBut}
use Rattle.tied_lists.specs.Calls.{IsOutAs}
use Rattle.tied_lists.specs.Waits.{waiting as waits_on, IsAsk, IsOnRing, Holds, IsFree}
use Rattle.comm_port.specs.Sides.{RingSideIs, RamSideIs, MayWrite}
use Rattle.joint_history.specs.Reading.{items_of}

-- A node is not the end of a bridge: it doesn't stand in the plan's list of those.
abbrev pub IsNoBridge : NetPlan → ℕ → Type 0
IsNoBridge net n = is_bridge net n ≡ false

-- The ring's side serves a node of its plan, whose boxes and paths nobody else changes.
pub record IsOwnTurn {Q : Type 0} (side : RingSideIs Q) (ring : List RingEntry) (n : ℕ)
    : Type 0 where
  pub serves : MayWrite side.writer n
  pub on : IsOnRing side.net ring n
  pub free : IsFree side.net ring n

-- A node's own entries left its inbox as it was, and it holds the token if it did; it posted
-- nothing while it asked to come in.
pub record KeepsInbox (net : NetPlan) (n : ℕ) (old new : List RingEntry) : Type 0 where
  pub on : IsOnRing net old n → IsOnRing net new n
  pub free : IsFree net new n
  pub holds : Holds net old n → Holds net new n
  pub inbox : (ring_node (ring_after net new) n).inbox ≡ (ring_node (ring_after net old) n).inbox

-- The Requests that a worker's paths wait for are those of its own list, and each is of a call that
-- was made and has not ended.
pub record AreWaiting (n : ℕ) (a : Items) (b : List RingEntry) (waiting : List (Option Frame))
    : Type 0 where
  pub size : length waiting ≡ path_places
  pub waits : (p : ℕ) → get_or waiting p None ≡ waits_on p b
  pub asks : (p : ℕ) (f : Frame) → get_or waiting p None ≡ Some f → IsAsk n p f
  pub outs : (p : ℕ) (f : Frame) → get_or waiting p None ≡ Some f → IsOutAs a f.id NetCall

-- A worker stands between its controller and the ring: their lists are tied, but for calls that
-- were not posted yet.
pub record Turning {P Q : Type 0} (n : ℕ) (rest : List Called) (ram : RamSideIs P)
    (known : List Entry) (side : RingSideIs Q) (ring : List RingEntry)
    (waiting : List (Option Frame)) : Type 0 where
  pub node : ram.fixed.plan.node ≡ n
  pub own_turn : IsOwnTurn side ring n
  pub tied : TiedBut AController rest (items_of known) (own n ring)
  pub waits : AreWaiting n (items_of known) (own n ring) waiting

-- A worker stands between its controller and the ring, before the last entry of the node, a Take of
-- this frame, which goes no further.
pub record Taking {P Q : Type 0} (n : ℕ) (f : Frame) (ram : RamSideIs P) (known : List Entry)
    (side : RingSideIs Q) (ring : List RingEntry) (waiting : List (Option Frame)) : Type 0 where
  pub before : List RingEntry
  pub own_is : own n ring ≡ before ++ Take n f ∷ []
  pub node : ram.fixed.plan.node ≡ n
  pub own_turn : IsOwnTurn side ring n
  pub tied : TiedBut AController [] (items_of known) before
  pub waits : AreWaiting n (items_of known) before waiting
  pub rest : f.rest ≡ []
  pub request : f.kind ≡ Request → f.id.node ≢ n
  pub reply : f.kind ≡ Reply
      → (ask : Frame) × (waits_on f.id.path before ≡ Some ask) × (ask.id ≡ f.id) × (f.id.path <
      path_places)

-- A worker stands between its controller and the ring, whichever node holds the token: their lists
-- are tied.
pub record Rested {P Q : Type 0} (n : ℕ) (ram : RamSideIs P) (known : List Entry)
    (side : RingSideIs Q) (ring : List RingEntry) (waiting : List (Option Frame)) : Type 0 where
  pub node : ram.fixed.plan.node ≡ n
  pub serves : MayWrite side.writer n
  pub on : IsOnRing side.net ring n
  pub tied : Tied AController (items_of known) (own n ring)
  pub waits : AreWaiting n (items_of known) (own n ring) waiting

-- The words of the ring: frames, entries, refusals and paths.
use Rattle.std.specs.Prelude.{ℕ, ◌&&◌, ◌==◌, Bool, true, false, not, List, ◌∷◌, length, drop}
use Rattle.std.specs.Prelude.{slice_index}
pub use Rattle.mstr_block.specs.declared.call.CallId.{CallId}
pub use Rattle.mstr_block.specs.Call.{is_same_call}
pub use Rattle.mstr_block.specs.declared.call.MstrResult.{MstrResult}
pub use Rattle.mstr_block.specs.declared.call.MstrResult.TheVariants.{Good, Bad}
pub use Rattle.plant_types.specs.declared.net.Fate.{Fate}
pub use Rattle.plant_types.specs.declared.net.Fate.TheVariants.{D, L, A}
pub use Rattle.plant_types.specs.declared.net.NetPlan.{NetPlan}
pub use Rattle.ring_core.specs.declared.frame.FrameKind.{FrameKind}
pub use Rattle.ring_core.specs.declared.frame.FrameKind.TheVariants.{Request, Reply}
pub use Rattle.ring_core.specs.declared.frame.Frame.{Frame}
pub use Rattle.ring_core.specs.declared.entry.LocalOp.{LocalOp}
pub use Rattle.ring_core.specs.declared.entry.LocalOp.TheVariants.{GetStats, ClearStats, PutGlobal}
pub use Rattle.ring_core.specs.declared.entry.LocalOp.TheVariants.{GetGlobal, RemoteGet}
pub use Rattle.ring_core.specs.declared.entry.LocalOp.TheVariants.{RemoteClear}
pub use Rattle.ring_core.specs.declared.entry.Heard.{Heard}
pub use Rattle.ring_core.specs.declared.entry.Heard.TheVariants.{Acked, Silent, Busy}
pub use Rattle.ring_core.specs.declared.entry.LeaveCause.{LeaveCause}
pub use Rattle.ring_core.specs.declared.entry.LeaveCause.TheVariants.{Ended, Spent, Down}
pub use Rattle.ring_core.specs.declared.status.NodeStatus.{NodeStatus}
pub use Rattle.ring_core.specs.declared.status.NodeStatus.TheVariants.{In, Away, Asking, Gone}
pub use Rattle.ring_core.specs.declared.entry.RingEntry.{RingEntry}
pub use Rattle.ring_core.specs.declared.entry.RingEntry.TheVariants.{Post, Send, Take, Local}
pub use Rattle.ring_core.specs.declared.entry.RingEntry.TheVariants.{GiveUp, Pass, Leave, Join}
pub use Rattle.ring_core.specs.declared.refusal.RingNo.{RingNo}
pub use Rattle.ring_core.specs.declared.refusal.RingNo.TheVariants.{NotMember, NotHolder, Unsent}
pub use Rattle.ring_core.specs.declared.refusal.RingNo.TheVariants.{Untaken, NotDue, NothingToSend}
pub use Rattle.ring_core.specs.declared.refusal.RingNo.TheVariants.{PathTaken, NotAwaited, NotAway}
pub use Rattle.ring_core.specs.declared.refusal.RingNo.TheVariants.{NoMemory}
pub use Rattle.ring_core.specs.declared.path.Await.{Await}
pub use Rattle.ring_core.specs.declared.path.Await.TheVariants.{Nothing, Out, Arrived, Failed}
pub use Rattle.ring_core.specs.declared.path.Path.{Path}
pub use Rattle.ring_core.specs.declared.path.LeaveDue.{LeaveDue}
pub use Rattle.ring_core.specs.declared.arrival.Fell.{Fell}
pub use Rattle.ring_core.specs.declared.arrival.Fell.TheVariants.{AcceptedRequest, RepeatedRequest}
pub use Rattle.ring_core.specs.declared.arrival.Fell.TheVariants.{CrowdedOut, AcceptedReply}
pub use Rattle.ring_core.specs.declared.arrival.Fell.TheVariants.{DroppedReply}

-- The node that an entry names.
abbrev pub maker : RingEntry → ℕ
maker (Post node frame) = node
maker (Send node heard) = node
maker (Take node frame) = node
maker (Local node id op result) = node
maker (GiveUp id word) = id.node
maker (Pass node done words) = node
maker (Leave node cause) = node
maker (Join node) = node

abbrev pub asks : FrameKind → Bool
asks Request = true
asks Reply = false

abbrev pub is_request : Frame → Bool
is_request frame = asks frame.kind

-- The Request of a call along a route: to its first address, with the others as its rest.
abbrev pub request_along : CallId → List ℕ → List ℕ → Frame
request_along id route pdu = record {
  kind = Request;
  to = slice_index route 0;
  rest = drop 1 route;
  id = id;
  pdu = pdu;
}

-- The route of a frame.
abbrev pub frame_route : Frame → List ℕ
frame_route frame = frame.to ∷ frame.rest

-- A frame is to go on from its target: it has a rest.
abbrev pub is_onward : Frame → Bool
is_onward frame = not (length frame.rest == 0)

-- A frame is the Request of this call.
abbrev pub asks_for : CallId → Frame → Bool
asks_for id frame = is_request frame && is_same_call frame.id id

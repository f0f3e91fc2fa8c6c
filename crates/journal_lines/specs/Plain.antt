-- Which entries a line tells all of. This project's own.
use Rattle.std.specs.Prelude.{◌≡◌, ◌≢◌, ℕ, []}
use Rattle.std.specs.List.{All}
use Rattle.ring_core.specs.declared.frame.FrameKind.{FrameKind}
use Rattle.ring_core.specs.declared.frame.FrameKind.TheVariants.{Request, Reply}
use Rattle.ring_core.specs.declared.frame.Frame.{Frame}
use Rattle.ring_core.specs.declared.entry.LocalOp.{LocalOp}
use Rattle.ring_core.specs.declared.entry.LocalOp.TheVariants.{RemoteGet, RemoteClear}
use Rattle.ring_core.specs.declared.entry.RingEntry.{RingEntry}
use Rattle.ring_core.specs.declared.entry.RingEntry.TheVariants.{Post, Take}
use Rattle.controller_core.specs.declared.call.Call.{Call}
use Rattle.controller_core.specs.declared.call.CallKind.{CallKind}
use Rattle.controller_core.specs.declared.call.CallKind.TheVariants.{Net, Local}
use Rattle.controller_core.specs.declared.entry.Entry.{Entry}
use Rattle.controller_core.specs.declared.entry.Entry.TheVariants.{Collect}
use Rattle.host_port.specs.declared.entry.HostEntry.{HostEntry}
use Rattle.host_port.specs.declared.entry.HostEntry.TheVariants.{Ask}
use Rattle.bridge_relay.specs.declared.entry.BridgeEntry.{BridgeEntry}
use Rattle.bridge_relay.specs.declared.entry.BridgeEntry.TheVariants.{Forward}

-- What a controller hands on to its own port asks nothing for another node.
abbrev pub IsOwnOp : LocalOp → Type 0
IsOwnOp RemoteGet = ⊥
IsOwnOp RemoteClear = ⊥
IsOwnOp _ = Unit {0}

-- A call to another node has a route with an address.
abbrev pub IsPlainKind : CallKind → Type 0
IsPlainKind (Net route pdu) = route ≢ []
IsPlainKind (Local op) = IsOwnOp op

abbrev pub IsPlainCall : Call → Type 0
IsPlainCall call = IsPlainKind call.kind

-- A controller hands on one call at least.
abbrev pub IsPlainEntry : Entry → Type 0
IsPlainEntry (Collect calls) = (calls ≢ []) × All IsPlainCall calls
IsPlainEntry _ = Unit {0}

-- The route of a host's request has an address at least.
abbrev pub IsPlainHostEntry : HostEntry → Type 0
IsPlainHostEntry (Ask id route pdu) = route ≢ []
IsPlainHostEntry _ = Unit {0}

-- The route of a request that a bridge sends on has an address at least.
abbrev pub IsPlainBridgeEntry : BridgeEntry → Type 0
IsPlainBridgeEntry (Forward side old id route request) = route ≢ []
IsPlainBridgeEntry _ = Unit {0}

-- A Reply goes to the node that asked, and no further.
abbrev pub IsPlainReply : Frame → Type 0
IsPlainReply frame = (frame.to ≡ frame.id.node) × (frame.rest ≡ [])

-- Of a frame that is posted, that is all.
abbrev pub IsPlainFrame : FrameKind → Frame → Type 0
IsPlainFrame Request frame = Unit {0}
IsPlainFrame Reply frame = IsPlainReply frame

-- A Request is taken by its target.
abbrev pub IsPlainGot : ℕ → FrameKind → Frame → Type 0
IsPlainGot node Request frame = frame.to ≡ node
IsPlainGot node Reply frame = IsPlainReply frame

abbrev pub IsPlainRing : RingEntry → Type 0
IsPlainRing (Post node frame) = IsPlainFrame frame.kind frame
IsPlainRing (Take node frame) = IsPlainGot node frame.kind frame
IsPlainRing _ = Unit {0}

-- What contracts see of a bridge, and what its calls add. This project's own.
use Rattle.std.specs.Prelude.{◌≡◌, ℕ, List, [], ◌∷◌, ◌++◌, Option, Some, None, Result, Ok, Err}
use Rattle.std.specs.Prelude.{option_to_list}
use Rattle.plant_types.specs.declared.net.BridgePlan.{BridgePlan}
use Rattle.ring_core.specs.MstrBlock.{CallId}
use Rattle.ring_core.specs.declared.frame.Frame.{Frame}
use Rattle.ring_core.specs.declared.frame.FrameKind.TheVariants as kinds
use Rattle.ring_core.specs.Words.{request_along, frame_route}
use Rattle.ring_core.specs.Legal.{IsFrom}
use Rattle.bridge_relay.specs.declared.entry.BridgeEntry.{BridgeEntry}
use Rattle.bridge_relay.specs.declared.entry.BridgeEntry.TheVariants.{Accept, Forward, Finish}
use Rattle.bridge_relay.specs.declared.entry.BridgeEntry.TheVariants.{Back, Gone}
use Rattle.bridge_relay.specs.Legal.{IsBridgeHistory, due_forward, due_back}

-- The plan and the history.
pub record BridgeIs : Type 0 where
  pub plan : BridgePlan
  pub history : List BridgeEntry

-- The frame that goes to the ring with an entry: the Request of a Forward along what is left of its
-- route, and the Reply of a Back to who asked.
abbrev pub frame_made : BridgeEntry → Option Frame
frame_made (Accept side id route request) = None
frame_made (Forward side old id route request) = Some (request_along id route request)
frame_made (Finish side id result) = None
frame_made (Back side id reply) =
    Some (record { kind = kinds.Reply; to = id.node; rest = []; id = id; pdu = reply })
frame_made (Gone side) = None

-- A Request is that of the Forward that is due at an end, which may post it: its first address is
-- another node's.
pub record IsForwarded (plan : BridgePlan) (history : List BridgeEntry) (side : ℕ)
    (request : Frame) : Type 0 where
  pub old : CallId
  pub due : due_forward plan history side
      ≡ Some (Forward side old request.id (frame_route request) request.pdu)
  pub kind : request.kind ≡ kinds.Request
  pub from : IsFrom side kinds.Request request

-- A Reply is that of the Back that is due at an end: it goes to who asked, and no further.
pub record IsGivenBack (plan : BridgePlan) (history : List BridgeEntry) (side : ℕ)
    (reply : Frame) : Type 0 where
  pub due : due_back plan history side ≡ Some (Back side reply.id reply.pdu)
  pub kind : reply.kind ≡ kinds.Reply
  pub to : reply.to ≡ reply.id.node
  pub rest : reply.rest ≡ []

-- The entries that a call adds, by what it answered: none where memory was refused.
abbrev pub entry_made : {T E : Type 0} → BridgeEntry → Result T E → List BridgeEntry
entry_made entry (Ok given) = entry ∷ []
entry_made entry (Err end) = []

abbrev pub entry_due : {T E : Type 0} → Option BridgeEntry → Result T E → List BridgeEntry
entry_due due (Ok given) = option_to_list due
entry_due due (Err end) = []

-- What each call that may change a bridge says of it, whatever it answers: the plan stays, the
-- history grows by what the call added, and it is legal.
pub record BridgeWentOn (added : List BridgeEntry) (old new : BridgeIs) : Type 0 where
  pub plan : new.plan ≡ old.plan
  pub history : new.history ≡ old.history ++ added
  pub legal : IsBridgeHistory new.plan new.history

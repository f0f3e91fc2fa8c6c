-- What contracts see of a host, and what its calls add. This project's own.
use Rattle.std.specs.Prelude.{◌≡◌, ℕ, ◌==◌, Bool, ◌&&◌, nat_le, if◌then◌else◌, List, [], ◌∷◌, ◌++◌}
use Rattle.std.specs.Prelude.{length, slice_get, Option, Some, None, Result, Ok, Err}
use Rattle.std.specs.Option.{option_map_or}
use Rattle.plant_types.specs.declared.net.HostAsk.{HostAsk}
use Rattle.plant_types.specs.declared.net.HostPlan.{HostPlan}
use Rattle.ring_core.specs.MstrBlock.{CallId}
use Rattle.ring_core.specs.declared.frame.Frame.{Frame}
use Rattle.ring_core.specs.Words.{request_along, frame_route}
use Rattle.host_port.specs.declared.entry.HostEntry.{HostEntry}
use Rattle.host_port.specs.declared.entry.HostEntry.TheVariants.{Ask, Served}
use Rattle.host_port.specs.Calls.{requests_in, unanswered_in, next_host_call}
use Rattle.host_port.specs.Legal.{IsHostHistory}

-- The plan and the history.
pub record HostIs : Type 0 where
  pub plan : HostPlan
  pub history : List HostEntry

-- The first request of the plan that was not made yet.
abbrev pub next_ask : HostIs → Option HostAsk
next_ask v = slice_get v.plan.requests (length (requests_in v.history))

-- The route of that request; none where each was made.
abbrev pub route_ahead : HostIs → List ℕ
route_ahead v = option_map_or (λ ask. ask.route) (next_ask v) []

-- A request whose hold has come.
abbrev pub if_due : ℕ → Option HostAsk → Option HostAsk
if_due hold None = None
if_due hold (Some ask) = if nat_le ask.hold hold then Some ask else None

abbrev pub due_ask : HostIs → ℕ → Option HostAsk
due_ask v hold = if_due hold (next_ask v)

-- The Request of a call; none where there is no free path for it, or nothing is due.
abbrev pub request_for : Option CallId → Option HostAsk → Option Frame
request_for (Some id) (Some ask) = Some (request_along id ask.route ask.pdu)
request_for _ _ = None

abbrev pub due_request : HostIs → ℕ → Option Frame
due_request v hold = request_for (next_host_call v.plan v.history) (due_ask v hold)

-- Each request of the plan was made, and each has an answer.
abbrev pub host_is_done : HostIs → Bool
host_is_done v =
    (length (requests_in v.history) == length v.plan.requests)
    && (length (unanswered_in v.history) == 0)

-- The entries that a call of a host adds, by what it answered: none where memory was refused.
abbrev pub entry_asked : {E : Type 0} → Result (Option Frame) E → List HostEntry
entry_asked (Ok (Some request)) = Ask request.id (frame_route request) request.pdu ∷ []
entry_asked (Ok None) = []
entry_asked (Err end) = []

abbrev pub entry_noted : {T E : Type 0} → HostEntry → Result T E → List HostEntry
entry_noted entry (Ok given) = entry ∷ []
entry_noted entry (Err end) = []

abbrev pub entry_served : {E : Type 0} → CallId → List ℕ → Result (List ℕ) E → List HostEntry
entry_served id request (Ok reply) = Served id request reply ∷ []
entry_served id request (Err end) = []

-- What each call that may change a host says of it, whatever it answers: the plan stays, the
-- history grows by what the call added, and it is legal.
pub record HostWentOn (added : List HostEntry) (old new : HostIs) : Type 0 where
  pub plan : new.plan ≡ old.plan
  pub history : new.history ≡ old.history ++ added
  pub legal : IsHostHistory new.plan new.history

-- What it is to follow a history entry by entry. This project's own.
use Rattle.std.specs.Prelude.{◌≡◌, Bool, true, false, [], ◌∷◌, ◌++◌, Some, option_map}
use Rattle.host_port.specs.declared.entry.HostEntry.{HostEntry}
use Rattle.host_port.specs.declared.entry.HostEntry.TheVariants.{Ask, Answer, Served}
use Rattle.host_port.specs.Calls.{is_unanswered, next_host_call}
use Rattle.host_port.specs.Legal.{IsHostHistory, question_due, refusal_to}
use Rattle.host_port.specs.Host.{HostIs, next_ask}

-- An entry may come next: the history with it is legal.
abbrev pub HostMayFollow : HostIs → HostEntry → Type 0
HostMayFollow v entry = IsHostHistory v.plan (v.history ++ entry ∷ [])

-- An entry may come next by what stands there: an Ask is the next call, and asks what the plan asks
-- next; an Answer names a call that is out; and what is served is refused.
abbrev pub MayComeNext : HostIs → HostEntry → Type 0
MayComeNext v (Ask id route pdu) =
    (next_host_call v.plan v.history ≡ Some id)
    × (option_map question_due (next_ask v) ≡ Some (record { route = route; pdu = pdu }))
MayComeNext v (Answer id result) = is_unanswered v.history id ≡ true
MayComeNext v (Served id request reply) = reply ≡ refusal_to request

-- A host after an entry, if that may come next.
abbrev pub host_followed : HostIs → HostEntry → Bool → HostIs
host_followed v entry true = record v { history = v.history ++ entry ∷ [] }
host_followed v entry false = v

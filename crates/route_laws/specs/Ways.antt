-- The names of a call on its way over bridges, and how often it took effect under them. This
-- project's own.
use Rattle.std.specs.Prelude.{ℕ, zero, suc, List, [], ◌∷◌, length, Option, Some, None}
use Rattle.std.specs.Prelude.{option_map, filter_map, flat_map, slice_get, filter, unwrap_or}
use Rattle.std.specs.List.{sum_by}
use Rattle.mstr_block.specs.Call.{is_same_call}
use Rattle.mstr_block.specs.declared.call.CallId.{CallId}
use Rattle.bridge_relay.specs.declared.entry.BridgeEntry.{BridgeEntry}
use Rattle.bridge_relay.specs.declared.entry.BridgeEntry.TheVariants.{Forward}
use Rattle.joint_history.specs.declared.joint.BridgeLog.{BridgeLog}
use Rattle.joint_history.specs.declared.joint.Joint.{Joint}
use Rattle.joint_history.specs.Effects.{effects}

-- A call that a bridge sent on: the name under which it came, and its new one.
pub record SentOn : Type 0 where
  pub old : CallId
  pub id : CallId

abbrev pub sent_of : BridgeEntry → Option SentOn
sent_of (Forward side old id route request) = Some (record { old = old; id = id })
sent_of _ = None

-- All that the bridges of a joint history sent on.
abbrev pub sent_on_in : Joint → List SentOn
sent_on_in joint = flat_map (λ (log : BridgeLog). filter_map sent_of log.entries) joint.bridges

-- The name under which a call was sent on first; none where it was not.
abbrev pub next_name : List SentOn → CallId → Option CallId
next_name sent id = option_map (λ (s : SentOn). s.id)
    (slice_get (filter (λ (s : SentOn). is_same_call s.old id) sent) 0)

-- The names of a call: its own, and as often as that, the one under which it was sent on.
abbrev pub names_from : ℕ → List SentOn → CallId → List CallId
names_from zero sent id = id ∷ []
names_from (suc more) sent id =
    id ∷ unwrap_or (option_map (names_from more sent) (next_name sent id)) []

-- All names of a call on its way: it is sent on no more often than all calls together.
abbrev pub names_on_way : Joint → CallId → List CallId
names_on_way joint id = names_from (length (sent_on_in joint)) (sent_on_in joint) id

-- How often a call took effect, under whatever name.
abbrev pub effects_on_way : Joint → CallId → ℕ
effects_on_way joint id = sum_by (effects joint) (names_on_way joint id)

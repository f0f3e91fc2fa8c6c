-- What stays true of the ends and the calls of a bridge. This project's own.
use Rattle.std.specs.Prelude.{◌≡◌, ◌≤◌, ℕ, ◌+◌, ◌==◌, ◌&&◌, Bool, true, false, List, ◌∷◌, ◌++◌}
use Rattle.std.specs.Prelude.{count_by}
use Rattle.std.specs.List.{filter}
use Rattle.plant_types.specs.declared.net.BridgePlan.{BridgePlan}
use Rattle.plant_types.specs.Plans.{IsBridgePlan}
use Rattle.ring_core.specs.MstrBlock.{is_same_call, CallId}
use Rattle.ring_core.specs.Legal.{IsPath}
use Rattle.bridge_relay.specs.declared.entry.BridgeEntry.{BridgeEntry}
use Rattle.bridge_relay.specs.declared.entry.BridgeEntry.TheVariants.{Accept, Forward, Finish}
use Rattle.bridge_relay.specs.declared.entry.BridgeEntry.TheVariants.{Back, Gone}
use Rattle.bridge_relay.specs.declared.entry.RelayResult.{RelayResult}
use Rattle.bridge_relay.specs.Machine.{EndIs, near_end, relay_after, relay_path, side_of}
use Rattle.bridge_relay.specs.Legal.{IsEnd, IsBridgeHistory, is_call_out}

-- The end of an address after entries.
abbrev pub end_after : BridgePlan → List BridgeEntry → ℕ → EndIs
end_after plan history side = near_end plan (relay_after plan history) side

-- An entry is one of this side.
abbrev pub is_by : ℕ → BridgeEntry → Bool
is_by side entry = side_of entry == side

-- The paths of an end, and whether it has left, are told by its own entries alone.
pub record OwnEntriesTell (plan : BridgePlan) (history : List BridgeEntry) (side : ℕ)
    : Type 0 where
  pub paths : (end_after plan history side).paths
      ≡ (end_after plan (filter (is_by side) history) side).paths
  pub gone : (end_after plan history side).gone
      ≡ (end_after plan (filter (is_by side) history) side).gone

abbrev pub OwnEntriesTellTheEnd : Type 0
OwnEntriesTellTheEnd = (plan : BridgePlan) (history : List BridgeEntry) (side : ℕ)
    → IsBridgePlan plan → IsBridgeHistory plan history → IsEnd plan side
    → OwnEntriesTell plan history side

-- An entry sends a call out on this path of this side.
abbrev pub sends_on_path : ℕ → ℕ → BridgeEntry → Bool
sends_on_path side path (Accept by id route request) = false
sends_on_path side path (Forward by old id route request) = (by == side) && (id.path == path)
sends_on_path side path (Finish by id outcome) = false
sends_on_path side path (Back by id reply) = false
sends_on_path side path (Gone by) = false

-- An entry sends this call out: it is the new name of a Forward.
abbrev pub sends_call : CallId → BridgeEntry → Bool
sends_call call (Accept by id route request) = false
sends_call call (Forward by old id route request) = is_same_call id call
sends_call call (Finish by id outcome) = false
sends_call call (Back by id reply) = false
sends_call call (Gone by) = false

-- An entry ends this call.
abbrev pub ends_call : CallId → BridgeEntry → Bool
ends_call call (Accept by id route request) = false
ends_call call (Forward by old id route request) = false
ends_call call (Finish by id outcome) = is_same_call id call
ends_call call (Back by id reply) = false
ends_call call (Gone by) = false

-- The number that a path gave last is how many calls went out on it.
abbrev pub NumbersCount : Type 0
NumbersCount = (plan : BridgePlan) (history : List BridgeEntry) (side path : ℕ)
    → IsBridgePlan plan → IsBridgeHistory plan history → IsEnd plan side → IsPath path
    → (relay_path (end_after plan history side) path).last
    ≡ count_by (sends_on_path side path) history

-- A call that goes out is named by its side, one of the four paths, and the next number there.
pub record IsNewForward (before : List BridgeEntry) (side : ℕ) (id : CallId) : Type 0 where
  pub node : id.node ≡ side
  pub path : IsPath id.path
  pub number : id.seq ≡ count_by (sends_on_path side id.path) before + 1

abbrev pub ForwardsMakeNewCalls : Type 0
ForwardsMakeNewCalls =
    (plan : BridgePlan) (history before after : List BridgeEntry) (side : ℕ) (old id : CallId)
    (route request : List ℕ)
    → IsBridgePlan plan → IsBridgeHistory plan history
    → history ≡ before ++ Forward side old id route request ∷ after
    → IsNewForward before side id

-- No call goes out twice, and none ends twice.
pub record IsCalledOnce (history : List BridgeEntry) (id : CallId) : Type 0 where
  pub sent : count_by (sends_call id) history ≤ 1
  pub ended : count_by (ends_call id) history ≤ 1

abbrev pub CallsAreMadeOnce : Type 0
CallsAreMadeOnce = (plan : BridgePlan) (history : List BridgeEntry) (id : CallId)
    → IsBridgePlan plan → IsBridgeHistory plan history → IsCalledOnce history id

-- A call that is out has its side as node and one of the four paths; it went out once and has not
-- ended.
pub record IsUnderWay (history : List BridgeEntry) (side : ℕ) (id : CallId) : Type 0 where
  pub node : id.node ≡ side
  pub path : IsPath id.path
  pub sent : count_by (sends_call id) history ≡ 1
  pub ended : count_by (ends_call id) history ≡ 0

abbrev pub CallsOutAreUnderWay : Type 0
CallsOutAreUnderWay = (plan : BridgePlan) (history : List BridgeEntry) (side : ℕ) (id : CallId)
    → IsBridgePlan plan → IsBridgeHistory plan history → IsEnd plan side
    → is_call_out plan history side id ≡ true → IsUnderWay history side id

-- A call ends behind its one Forward, and has not ended before.
abbrev pub FinishesEndCalls : Type 0
FinishesEndCalls =
    (plan : BridgePlan) (history before after : List BridgeEntry) (side : ℕ) (id : CallId)
    (outcome : RelayResult)
    → IsBridgePlan plan → IsBridgeHistory plan history
    → history ≡ before ++ Finish side id outcome ∷ after
    → IsUnderWay before side id

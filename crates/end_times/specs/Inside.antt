-- What stands after what inside a bridge's own list, as counts. This project's own.
use Rattle.std.specs.Prelude.{◌≡◌, ℕ, ◌+◌, ◌≤◌, List, ◌++◌}
use Rattle.plant_types.specs.declared.net.BridgePlan.{BridgePlan}
use Rattle.plant_types.specs.Plans.{IsBridgePlan}
use Rattle.bridge_relay.specs.declared.entry.BridgeEntry.{BridgeEntry}
use Rattle.bridge_relay.specs.Legal.{IsBridgeHistory, IsEnd}
use Rattle.bridge_relay.specs.Machine.{far_side}
use Rattle.bridge_port.specs.CommPort.{made_at_end}
use Rattle.one_order.specs.Merges.{tally}
use Rattle.end_times.specs.EndCauses.{EndNoted, no_end_notes, end_note}

-- What a bridge noted at an end.
abbrev pub noted_at_end : ℕ → List BridgeEntry → EndNoted
noted_at_end side list = tally end_note no_end_notes (made_at_end side list)

-- By what the bridge noted at an end and at the one across, nothing came before its cause: across,
-- no Request was sent on before this end accepted it; here, no call ended before its Request was
-- sent on; and of the Requests that this end accepted, no reply was given back before the call
-- ended by which it was sent on across.
pub record IsOrderedInside (near far : EndNoted) : Type 0 where
  pub sends : far.sent_on ≤ near.accepted
  pub ends : near.ended ≤ near.sent_on
  pub gives : near.given_back + far.sent_on ≤ near.accepted + far.ended

-- In each front of a legal list of a bridge, for either end, nothing came before its cause.
abbrev pub BridgesKeepOrder : Type 0
BridgesKeepOrder = (plan : BridgePlan) (list before after : List BridgeEntry) (side : ℕ)
    → IsBridgePlan plan → IsBridgeHistory plan list → IsEnd plan side → list ≡ before ++ after
    → IsOrderedInside (noted_at_end side before) (noted_at_end (far_side plan side) before)

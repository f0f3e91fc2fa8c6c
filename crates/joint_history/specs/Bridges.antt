-- What the laws read of a bridge's list for one of its ends. This project's own.
use Rattle.std.specs.Prelude.{ℕ, List, [], ◌∷◌, filter, filter_map, Option, Some, None}
use Rattle.bridge_relay.specs.declared.entry.BridgeEntry.{BridgeEntry}
use Rattle.bridge_relay.specs.declared.entry.BridgeEntry.TheVariants.{Accept, Forward, Finish}
use Rattle.bridge_relay.specs.declared.entry.BridgeEntry.TheVariants.{Back}
use Rattle.bridge_relay.specs.Laws.{is_by}
use Rattle.bridge_relay.specs.declared.entry.RelayResult.{RelayResult}
use Rattle.bridge_relay.specs.declared.entry.RelayResult.TheVariants.{Reply, Bad}
use Rattle.tied_lists.specs.Items.{OverNet, Outcome, Replied, Lacked, Items, Item, no_items}
use Rattle.tied_lists.specs.Items.{with_calls, with_answer, with_end}

-- The entries that an end made, in order.
abbrev pub made_at_end : ℕ → List BridgeEntry → List BridgeEntry
made_at_end side list = filter (is_by side) list

-- What a call of an end came to.
abbrev pub relay_outcome : RelayResult → Outcome
relay_outcome (Reply pdu) = Replied pdu
relay_outcome (Bad word) = Lacked word

-- What an entry of an end adds to the items: a request that it sent on is a call, one that it
-- accepted is answered, by whatever it gives back later, and a call that it finished has ended.
abbrev pub side_item_next : Items → BridgeEntry → Items
side_item_next a (Accept side id route request) = with_answer a
    (record { id = id; rest = route; request = Some request; reply = None })
side_item_next a (Forward side old id route request) =
    with_calls a (record { id = id; sort = OverNet route request } ∷ [])
side_item_next a (Finish side id result) = with_end a id (relay_outcome result)
side_item_next a _ = a

abbrev pub side_items_after : Items → List BridgeEntry → Items
side_items_after a [] = a
side_items_after a (e ∷ es) = side_items_after (side_item_next a e) es

-- The items of a bridge's list for one of its ends.
abbrev pub side_items : ℕ → List BridgeEntry → Items
side_items side list = side_items_after no_items (made_at_end side list)

-- A reply that was given back.
abbrev pub back_of : BridgeEntry → Option Item
back_of (Back side id reply) = Some (id, Some reply)
back_of _ = None

-- The replies that an end gave back, in order.
abbrev pub backs_of : ℕ → List BridgeEntry → List Item
backs_of side list = filter_map back_of (made_at_end side list)

-- What the fields of a bridge keep. This project's own.
use Rattle.std.specs.Prelude.{◌≡◌, ℕ, ◌==◌, ◌||◌, true, nat_le, if◌then◌else◌, List, [], ◌∷◌}
use Rattle.std.specs.Prelude.{length, map, Option, Some, None}
use Rattle.plant_types.specs.declared.net.BridgePlan.{BridgePlan}
use Rattle.plant_types.specs.Plans.{IsBridgePlan}
use Rattle.modbus_pdu.specs.Exceptions.{illegal_function}
use Rattle.ring_core.specs.Legal.{IsPath}
use Rattle.bridge_relay.specs.declared.entry.BridgeEntry.{BridgeEntry}
use Rattle.bridge_relay.specs.declared.entry.BridgeEntry.TheVariants.{Accept, Forward, Finish}
use Rattle.bridge_relay.specs.declared.entry.BridgeEntry.TheVariants.{Back, Gone}
use Rattle.bridge_relay.specs.Machine.{EndIs, RelayIs, Waiting, Returned, waiting_limit}
use Rattle.bridge_relay.specs.Machine.{no_path_code, busy_code, exception_to, queues, gives}
use Rattle.bridge_relay.specs.Machine.{out_call, sent_on, freed, returned, relay_path}
use Rattle.bridge_relay.specs.Machine.{given_back, unsent, left_for_good, relay_after}
use Rattle.bridge_relay.specs.Machine.{is_free_relay_path}
use Rattle.bridge_relay.specs.Legal.{IsBridgeHistory}

-- The path of a call that an entry makes or ends is one of the four.
abbrev pub HasRelayPath : BridgeEntry → Type 0
HasRelayPath (Accept side id route request) = Unit {0}
HasRelayPath (Forward side old id route request) = IsPath id.path
HasRelayPath (Finish side id result) = IsPath id.path
HasRelayPath (Back side id reply) = Unit {0}
HasRelayPath (Gone side) = Unit {0}

-- A path, one of the four, that is free.
pub record IsFreePath (end : EndIs) (path : ℕ) : Type 0 where
  pub is_path : IsPath path
  pub free : is_free_relay_path end path ≡ true

-- The Back of a reply that waits.
abbrev pub returned_by : ℕ → Returned → BridgeEntry
returned_by side item = Back side item.id item.reply

-- The code at once, by the end across and its address.
abbrev pub code_between : ℕ → EndIs → List ℕ → Option ℕ
code_between across far [] = Some illegal_function
code_between across far (next ∷ rest) =
    if far.gone || (next == across) then Some no_path_code
    else if nat_le waiting_limit (length far.to_send) then Some busy_code
    else None

-- What an Accept makes of the end that makes it, and of the one across.
abbrev pub near_accepted : EndIs → Waiting → Option ℕ → EndIs
near_accepted near item None = near
near_accepted near item (Some code) =
    gives near (record { id = item.id; reply = exception_to item.request code } ∷ [])

abbrev pub far_accepted : EndIs → Waiting → Option ℕ → EndIs
far_accepted far item None = queues far item
far_accepted far item (Some code) = far

-- What an entry makes of the end that makes it, given the address across and both ends.
abbrev pub near_after : ℕ → EndIs → EndIs → BridgeEntry → EndIs
near_after across near far (Accept side id route request) =
    near_accepted near (record { id = id; route = route; request = request })
    (code_between across far route)
near_after across near far (Forward side old id route request) =
    sent_on near id (out_call old request)
near_after across near far (Finish side id result) = freed near id.path
near_after across near far (Back side id reply) = given_back near
near_after across near far (Gone side) = left_for_good near

-- What it makes of the end across.
abbrev pub far_after : ℕ → EndIs → EndIs → BridgeEntry → EndIs
far_after across near far (Accept side id route request) =
    far_accepted far (record { id = id; route = route; request = request })
    (code_between across far route)
far_after across near far (Forward side old id route request) = far
far_after across near far (Finish side id result) =
    gives far (returned (relay_path near id.path).out result)
far_after across near far (Back side id reply) = far
far_after across near far (Gone side) = gives far (map unsent near.to_send)

-- The fields are those of a legal history by a plan that a bridge can have.
pub record IsBridge (plan : BridgePlan) (relay : RelayIs) (history : List BridgeEntry)
    : Type 0 where
  pub sound : IsBridgePlan plan
  pub legal : IsBridgeHistory plan history
  pub state : relay ≡ relay_after plan history

-- Legal histories of a bridge. This project's own.
use Rattle.std.specs.Prelude.{◌≡◌, ◌⊎◌, ℕ, ◌+◌, ◌==◌, Bool, true, false, ◌&&◌, List, ◌∷◌, ◌++◌}
use Rattle.std.specs.Prelude.{Option, Some, None, slice_get, option_map}
use Rattle.plant_types.specs.declared.net.BridgePlan.{BridgePlan}
use Rattle.std.specs.List.{list_any}
use Rattle.ring_core.specs.MstrBlock.{network_paths, CallId}
use Rattle.bridge_relay.specs.declared.entry.BridgeEntry.{BridgeEntry}
use Rattle.bridge_relay.specs.declared.entry.BridgeEntry.TheVariants.{Accept, Forward, Finish}
use Rattle.bridge_relay.specs.declared.entry.BridgeEntry.TheVariants.{Back, Gone}
use Rattle.bridge_relay.specs.Machine.{EndIs, Waiting, Returned, near_end, free_relay_path}
use Rattle.bridge_relay.specs.Machine.{relay_path, is_out_on, none_out, relay_after, side_of}

-- One of the two addresses of a bridge.
abbrev pub IsEnd : BridgePlan → ℕ → Type 0
IsEnd plan side = (side ≡ plan.left) ⊎ (side ≡ plan.right)

-- An end that has not left for good.
pub record IsOpenEnd (plan : BridgePlan) (history : List BridgeEntry) (side : ℕ) : Type 0 where
  pub end : IsEnd plan side
  pub here : (near_end plan (relay_after plan history) side).gone ≡ false

-- A path is one of the four.
abbrev pub is_network_path : ℕ → Bool
is_network_path path = list_any (λ known. known == path) network_paths

-- The call of this name is out at an end.
abbrev pub is_call_out : BridgePlan → List BridgeEntry → ℕ → CallId → Bool
is_call_out plan history side id = ((id.node == side) && is_network_path id.path)
    && is_out_on (relay_path (near_end plan (relay_after plan history) side) id.path) id

-- The name of the next call on a path of an end.
abbrev pub forward_id : ℕ → EndIs → ℕ → CallId
forward_id side end path =
    record { node = side; path = path; seq = (relay_path end path).last + 1 }

-- The Forward that is due at an end: of the first request that waits, on the least free path; none
-- where nothing waits or no path is free.
abbrev pub forward_by : ℕ → EndIs → Option Waiting → Option ℕ → Option BridgeEntry
forward_by side end (Some item) (Some path) =
    Some (Forward side item.id (forward_id side end path) item.route item.request)
forward_by side end _ _ = None

abbrev pub due_forward : BridgePlan → List BridgeEntry → ℕ → Option BridgeEntry
due_forward plan history side =
    let end = near_end plan (relay_after plan history) side in
    forward_by side end (slice_get end.to_send 0) (free_relay_path end)

-- The Back that is due at an end: of the first reply that waits; none where none does.
abbrev pub due_back : BridgePlan → List BridgeEntry → ℕ → Option BridgeEntry
due_back plan history side =
    option_map (λ (item : Returned). Back side item.id item.reply)
    (slice_get (near_end plan (relay_after plan history) side).to_give 0)

-- What an entry owes to those before it.
abbrev pub FitsBridge : BridgePlan → List BridgeEntry → BridgeEntry → Type 0
FitsBridge plan past (Accept side id route request) = Unit {0}
FitsBridge plan past (Forward side old id route request) =
    due_forward plan past side ≡ Some (Forward side old id route request)
FitsBridge plan past (Finish side id result) = is_call_out plan past side id ≡ true
FitsBridge plan past (Back side id reply) = due_back plan past side ≡ Some (Back side id reply)
FitsBridge plan past (Gone side) = none_out (near_end plan (relay_after plan past) side) ≡ true

-- An entry is a step after a history: it is one of an end that has not left, and fits.
pub record IsBridgeStep (plan : BridgePlan) (past : List BridgeEntry) (entry : BridgeEntry)
    : Type 0 where
  pub side : IsOpenEnd plan past (side_of entry)
  pub fits : FitsBridge plan past entry

-- A legal history: each entry is a step after those before it.
abbrev pub IsBridgeHistory : BridgePlan → List BridgeEntry → Type 0
IsBridgeHistory plan history = (before after : List BridgeEntry) (entry : BridgeEntry)
    → history ≡ before ++ entry ∷ after → IsBridgeStep plan before entry

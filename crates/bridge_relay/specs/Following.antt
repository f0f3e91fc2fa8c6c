-- What it is to follow a history entry by entry. This project's own.
use Rattle.std.specs.Prelude.{Bool, true, false, [], ◌∷◌, ◌++◌}
use Rattle.bridge_relay.specs.declared.entry.BridgeEntry.{BridgeEntry}
use Rattle.bridge_relay.specs.Legal.{IsBridgeHistory}
use Rattle.bridge_relay.specs.Bridge.{BridgeIs}

-- An entry may come next: the history with it is legal.
abbrev pub BridgeMayFollow : BridgeIs → BridgeEntry → Type 0
BridgeMayFollow v entry = IsBridgeHistory v.plan (v.history ++ entry ∷ [])

-- A bridge after an entry, if that may come next.
abbrev pub bridge_followed : BridgeIs → BridgeEntry → Bool → BridgeIs
bridge_followed v entry true = record v { history = v.history ++ entry ∷ [] }
bridge_followed v entry false = v

-- What stands behind what inside a bridge's own list, by the names of calls. This project's own.
use Rattle.std.specs.Prelude.{◌≡◌, ℕ, List, ◌∷◌, ◌++◌, Some, Contains}
use Rattle.plant_types.specs.declared.net.BridgePlan.{BridgePlan}
use Rattle.plant_types.specs.Plans.{IsBridgePlan}
use Rattle.mstr_block.specs.declared.call.CallId.{CallId}
use Rattle.bridge_relay.specs.declared.entry.BridgeEntry.{BridgeEntry}
use Rattle.bridge_relay.specs.declared.entry.BridgeEntry.TheVariants.{Accept, Forward, Finish}
use Rattle.bridge_relay.specs.declared.entry.BridgeEntry.TheVariants.{Back, Gone}
use Rattle.bridge_relay.specs.declared.entry.RelayResult.TheVariants.{Reply, Bad}
use Rattle.bridge_relay.specs.Kept.{code_between}
use Rattle.bridge_relay.specs.Laws.{end_after}
use Rattle.bridge_relay.specs.Legal.{IsBridgeHistory}
use Rattle.bridge_relay.specs.Machine.{code_of_word, exception_to, far_side, no_path_code}

-- A Request that an end accepted was sent on across, as it came, and the call ended with this
-- reply.
pub record IsFromCall (before : List BridgeEntry) (side across : ℕ) (id : CallId)
    (reply : List ℕ) : Type 0 where
  pub onward : CallId
  pub route : List ℕ
  pub request : List ℕ
  pub accepted : Contains before (Accept side id route request)
  pub sent : Contains before (Forward across id onward route request)
  pub ended : Contains before (Finish across onward (Reply reply))

-- A Request was refused with this code as soon as an end accepted it: it goes no further, the end
-- across is gone or is whom it asks for, or there is no room.
pub record IsRefusedAtOnce (plan : BridgePlan) (before : List BridgeEntry) (side across : ℕ)
    (id : CallId) (route request : List ℕ) (code : ℕ) : Type 0 where
  pub past : List BridgeEntry
  pub rest : List BridgeEntry
  pub accepted : before ≡ past ++ Accept side id route request ∷ rest
  pub code_is : code_between across (end_after plan past across) route ≡ Some code

-- A Request that an end accepted still waited to be sent on when the end across left for good.
pub record IsLeftUnsent (plan : BridgePlan) (before : List BridgeEntry) (side across : ℕ)
    (id : CallId) (route request : List ℕ) (code : ℕ) : Type 0 where
  pub past : List BridgeEntry
  pub rest : List BridgeEntry
  pub accepted : Contains past (Accept side id route request)
  pub waits : Contains (end_after plan past across).to_send
      (record { id = id; route = route; request = request })
  pub gone : before ≡ past ++ Gone across ∷ rest
  pub code_is : code ≡ no_path_code

-- A Request that an end accepted was sent on across, and the call ended without a reply.
pub record EndsWithoutReply (before : List BridgeEntry) (side across : ℕ) (id : CallId)
    (route request : List ℕ) (code : ℕ) : Type 0 where
  pub onward : CallId
  pub word : ℕ
  pub accepted : Contains before (Accept side id route request)
  pub sent : Contains before (Forward across id onward route request)
  pub ended : Contains before (Finish across onward (Bad word))
  pub code_is : code ≡ code_of_word word

-- Why a bridge answers a Request itself, which one of its ends accepted, with the exception of this
-- code.
pub data RefusalCause (plan : BridgePlan) (before : List BridgeEntry) (side across : ℕ)
    (id : CallId) (route request : List ℕ) (code : ℕ) : Type 0 where
  AtOnce : (from : IsRefusedAtOnce plan before side across id route request code)
      → RefusalCause plan before side across id route request code
  Unsent : (from : IsLeftUnsent plan before side across id route request code)
      → RefusalCause plan before side across id route request code
  WithoutReply : (from : EndsWithoutReply before side across id route request code)
      → RefusalCause plan before side across id route request code

-- A reply is the exception that the bridge made of a Request that an end accepted.
pub record IsRefusal (plan : BridgePlan) (before : List BridgeEntry) (side across : ℕ)
    (id : CallId) (reply : List ℕ) : Type 0 where
  pub route : List ℕ
  pub request : List ℕ
  pub code : ℕ
  pub cause : RefusalCause plan before side across id route request code
  pub reply_is : reply ≡ exception_to request code

-- What is behind a reply that an end gives back.
pub data BackCause (plan : BridgePlan) (before : List BridgeEntry) (side across : ℕ)
    (id : CallId) (reply : List ℕ) : Type 0 where
  OfCall : (from : IsFromCall before side across id reply)
      → BackCause plan before side across id reply
  OfRefusal : (from : IsRefusal plan before side across id reply)
      → BackCause plan before side across id reply

-- A Request is sent on behind the entry by which it was accepted across.
abbrev pub ForwardsFollowAccepts : Type 0
ForwardsFollowAccepts =
    (plan : BridgePlan) (list before after : List BridgeEntry) (side : ℕ) (old id : CallId)
    (route request : List ℕ) → IsBridgePlan plan → IsBridgeHistory plan list
    → list ≡ before ++ Forward side old id route request ∷ after
    → Contains before (Accept (far_side plan side) old route request)

-- A reply is given back behind what it came from.
abbrev pub BacksFollowCauses : Type 0
BacksFollowCauses =
    (plan : BridgePlan) (list before after : List BridgeEntry) (side : ℕ) (id : CallId)
    (reply : List ℕ) → IsBridgePlan plan → IsBridgeHistory plan list
    → list ≡ before ++ Back side id reply ∷ after
    → BackCause plan before side (far_side plan side) id reply

-- An effect is the call's own: all that is noted of its request is the request that was made, and
-- what ends it is the result of that request and of the very reply that was made to it. This
-- project's own.
use Rattle.std.specs.Prelude.{◌≡◌, ◌⊎◌, ℕ, List, [], ◌∷◌, ◌++◌, Contains}
use Rattle.mstr_block.specs.declared.call.CallId.{CallId}
use Rattle.mstr_block.specs.declared.call.MstrResult.{MstrResult}
use Rattle.mstr_block.specs.declared.call.MstrResult.TheVariants.{Bad}
use Rattle.ring_core.specs.declared.entry.LocalOp.{LocalOp}
use Rattle.ring_core.specs.declared.entry.RingEntry.TheVariants as deeds
use Rattle.controller_core.specs.declared.call.Call.{Call}
use Rattle.controller_core.specs.declared.call.CallKind.{CallKind}
use Rattle.controller_core.specs.declared.call.CallKind.TheVariants.{Local, Net}
use Rattle.controller_core.specs.declared.entry.Entry.TheVariants as entries
use Rattle.host_port.specs.declared.entry.HostEntry.TheVariants as host_entries
use Rattle.host_port.specs.declared.entry.HostResult.{HostResult}
use Rattle.bridge_relay.specs.declared.entry.BridgeEntry.TheVariants as bridge_entries
use Rattle.bridge_relay.specs.declared.entry.RelayResult.{RelayResult}
use Rattle.reply_laws.specs.Result.{exception_result, result_of}
use Rattle.tied_lists.specs.Items.{Came, Lacked, Outcome, Replied}
use Rattle.joint_history.specs.declared.joint.BridgeLog.{BridgeLog}
use Rattle.joint_history.specs.declared.joint.ControllerLog.{ControllerLog}
use Rattle.joint_history.specs.declared.joint.HostLog.{HostLog}
use Rattle.joint_history.specs.declared.joint.Joint.{Joint}
use Rattle.joint_history.specs.Bridges.{relay_outcome}
use Rattle.joint_history.specs.Nets.{noted_on_rings}
use Rattle.joint_history.specs.Reading.{outcome_of}
use Rattle.effect_laws.specs.Answers.{NodeAnswers}
use Rattle.route_laws.specs.Ends.{AnsweredAtEnd, AsksBy, AsksOwnPort, RefusedOnWay}
use Rattle.route_laws.specs.Ways.{names_on_way}

-- ---- the request

-- A call asks another node: one that a controller or a host made, or one that a bridge sent on.
abbrev pub BridgeAsks : Joint → CallId → List ℕ → List ℕ → Type 0
BridgeAsks joint id route request =
    (log : BridgeLog) × Contains joint.bridges log × (side : ℕ) × (old : CallId)
    × Contains log.entries (bridge_entries.Forward side old id route request)

abbrev pub Asks : Joint → CallId → List ℕ → List ℕ → Type 0
Asks joint id route request = AsksBy joint id route request ⊎ BridgeAsks joint id route request

-- An end of a bridge accepted the request of a call, which was still to go along these addresses.
abbrev pub BridgeAccepts : Joint → ℕ → CallId → List ℕ → List ℕ → Type 0
BridgeAccepts joint side id rest request =
    (log : BridgeLog) × Contains joint.bridges log
    × Contains log.entries (bridge_entries.Accept side id rest request)

-- The request of a call came to a controller that had no power: it noted it, and answered nothing.
abbrev pub NodeMisses : Joint → ℕ → CallId → List ℕ → Type 0
NodeMisses joint n id request =
    (log : ControllerLog) × Contains joint.controllers log
    × (log.node ≡ n) × Contains log.entries (entries.Off id request)

-- What is noted of the request of a call under one name, by the addresses that were left then: it
-- was asked, an end of a bridge accepted it, a node answered it, or one had no power.
pub data IsNoted (joint : Joint) (name : CallId) (left noted : List ℕ) : Type 0 where
  AsAsked : (asks : Asks joint name left noted) → IsNoted joint name left noted
  AsAccepted : (side : ℕ) (rest : List ℕ) (accepts : BridgeAccepts joint side name rest noted)
      (left_is : left ≡ side ∷ rest) → IsNoted joint name left noted
  AsAnswered : (n : ℕ) (reply : List ℕ) (answers : NodeAnswers joint n name noted reply)
      (left_is : left ≡ n ∷ []) → IsNoted joint name left noted
  AsMissed : (n : ℕ) (misses : NodeMisses joint n name noted)
      (left_is : left ≡ n ∷ []) → IsNoted joint name left noted

-- What was noted is the request of the call, no byte of which was changed, and what was left of its
-- route.
pub record IsOfRequest (route request left noted : List ℕ) : Type 0 where
  pub way : List ℕ
  pub route_is : route ≡ way ++ left
  pub request_is : noted ≡ request

-- All that is noted of the request of a call, under whatever of its names, is of that request.
abbrev pub RequestsAreOwn : Joint → Type 0
RequestsAreOwn joint =
    (id : CallId) (route request : List ℕ) → Asks joint id route request
    → (name : CallId) → Contains (names_on_way joint id) name
    → (left noted : List ℕ) → IsNoted joint name left noted
    → IsOfRequest route request left noted

-- What a port does for a call to it, it does at the call's own node, and that is what was asked.
abbrev pub PortsDoTheirCalls : Joint → Type 0
PortsDoTheirCalls joint =
    (id : CallId) (op : LocalOp) → AsksOwnPort joint id op
    → (n : ℕ) (done : LocalOp) (result : MstrResult)
    → Contains (noted_on_rings joint) (deeds.Local n id done result)
    → (n ≡ id.node) × (done ≡ op)

-- ---- what ends a call

-- A reply to a call was made by the node at the end of its route, of its very request, or it is the
-- exception that a bridge on its way made of that request.
abbrev pub IsReplyTo : Joint → CallId → List ℕ → List ℕ → List ℕ → Type 0
IsReplyTo joint id route request reply =
    AnsweredAtEnd joint (names_on_way joint id) route request reply
    ⊎ RefusedOnWay joint (names_on_way joint id) route request reply

-- The node of a call gave it up, with this word.
abbrev pub IsGivenUp : Joint → CallId → ℕ → Type 0
IsGivenUp joint id word = Contains (noted_on_rings joint) (deeds.GiveUp id word)

-- The result of a controller's call to another node: that of its request and of the very reply that
-- the node at the end made, that of a bridge's exception, or the word with which it was given up.
pub data IsResultOf (joint : Joint) (id : CallId) (route request : List ℕ) (result : MstrResult)
    : Type 0 where
  OfReply : (reply : List ℕ)
      (answered : AnsweredAtEnd joint (names_on_way joint id) route request reply)
      (result_is : result ≡ result_of request reply)
      → IsResultOf joint id route request result
  OfException : (reply : List ℕ)
      (refused : RefusedOnWay joint (names_on_way joint id) route request reply)
      (result_is : result ≡ exception_result refused.code)
      → IsResultOf joint id route request result
  OfWord : (word : ℕ) (given_up : IsGivenUp joint id word) (result_is : result ≡ Bad word)
      → IsResultOf joint id route request result

-- What a call to another node came to: a controller's to a result, one of a host or of a bridge to
-- the reply as it was made, or to the word with which it was given up.
abbrev pub CameTo : Joint → CallId → List ℕ → List ℕ → Outcome → Type 0
CameTo joint id route request (Came result) = IsResultOf joint id route request result
CameTo joint id route request (Replied reply) = IsReplyTo joint id route request reply
CameTo joint id route request (Lacked word) = IsGivenUp joint id word

-- What a call of a controller came to; one to the own port to what the port noted.
abbrev pub CameBy : Joint → CallId → CallKind → MstrResult → Type 0
CameBy joint id (Net route request) result = CameTo joint id route request (Came result)
CameBy joint id (Local op) result =
    Contains (noted_on_rings joint) (deeds.Local id.node id op result)

-- A result that a controller noted is what its own call came to.
pub record IsOwnFinish (joint : Joint) (log : ControllerLog) (id : CallId) (result : MstrResult)
    : Type 0 where
  pub calls : List Call
  pub collected : Contains log.entries (entries.Collect calls)
  pub call : Call
  pub among : Contains calls call
  pub named : call.id ≡ id
  pub came : CameBy joint id call.kind result

-- A result that a host noted is what its own request came to.
pub record IsOwnAnswer (joint : Joint) (log : HostLog) (id : CallId) (result : HostResult)
    : Type 0 where
  pub route : List ℕ
  pub request : List ℕ
  pub asked : Contains log.entries (host_entries.Ask id route request)
  pub came : CameTo joint id route request (outcome_of result)

-- A result that an end of a bridge noted is what the request came to that it sent on.
pub record IsOwnRelay (joint : Joint) (log : BridgeLog) (side : ℕ) (id : CallId)
    (result : RelayResult) : Type 0 where
  pub old : CallId
  pub route : List ℕ
  pub request : List ℕ
  pub sent : Contains log.entries (bridge_entries.Forward side old id route request)
  pub came : CameTo joint id route request (relay_outcome result)

abbrev pub FinishesAreOwn : Joint → Type 0
FinishesAreOwn joint = (log : ControllerLog) (id : CallId) (result : MstrResult)
    → Contains joint.controllers log → Contains log.entries (entries.Finish id result)
    → IsOwnFinish joint log id result

abbrev pub AnswersAreOwn : Joint → Type 0
AnswersAreOwn joint = (log : HostLog) (id : CallId) (result : HostResult)
    → Contains joint.hosts log → Contains log.entries (host_entries.Answer id result)
    → IsOwnAnswer joint log id result

abbrev pub RelaysAreOwn : Joint → Type 0
RelaysAreOwn joint = (log : BridgeLog) (side : ℕ) (id : CallId) (result : RelayResult)
    → Contains joint.bridges log → Contains log.entries (bridge_entries.Finish side id result)
    → IsOwnRelay joint log side id result

-- For each call, own or sent on: its request, what its node's port did, and what ended it are its
-- own.
pub record EffectsAreOwn (joint : Joint) : Type 0 where
  pub requests : RequestsAreOwn joint
  pub ports : PortsDoTheirCalls joint
  pub finishes : FinishesAreOwn joint
  pub answers : AnswersAreOwn joint
  pub relays : RelaysAreOwn joint

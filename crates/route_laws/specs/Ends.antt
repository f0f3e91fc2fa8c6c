-- Where calls that go over bridges end, and by whom they are answered. This project's own.
use Rattle.std.specs.Prelude.{◌≡◌, ◌⊎◌, ℕ, List, [], ◌∷◌, ◌++◌, Contains, None}
use Rattle.plant_types.specs.declared.net.BridgePlan.{BridgePlan}
use Rattle.mstr_block.specs.declared.call.CallId.{CallId}
use Rattle.ring_core.specs.declared.entry.LocalOp.{LocalOp}
use Rattle.controller_core.specs.declared.call.Call.{Call}
use Rattle.controller_core.specs.declared.call.CallKind.TheVariants.{Local, Net}
use Rattle.controller_core.specs.declared.entry.Entry.TheVariants.{Collect}
use Rattle.host_port.specs.declared.entry.HostEntry.TheVariants.{Ask}
use Rattle.bridge_relay.specs.declared.entry.BridgeEntry.{BridgeEntry}
use Rattle.bridge_relay.specs.declared.entry.BridgeEntry.TheVariants.{Back}
use Rattle.bridge_relay.specs.Machine.{exception_to, far_side}
use Rattle.bridge_causes.specs.Causes.{RefusalCause}
use Rattle.joint_history.specs.declared.joint.BridgeLog.{BridgeLog}
use Rattle.joint_history.specs.declared.joint.ControllerLog.{ControllerLog}
use Rattle.joint_history.specs.declared.joint.HostLog.{HostLog}
use Rattle.joint_history.specs.declared.joint.Joint.{Joint}
use Rattle.joint_history.specs.JointLaws.{IsLegalBridgeLog}
use Rattle.effect_laws.specs.Answers.{NodeAnswers}
use Rattle.effect_laws.specs.Success.{ReportsSuccess}
use Rattle.effect_laws.specs.Places.{TakesEffectAt}
use Rattle.route_laws.specs.Ways.{names_on_way, next_name, sent_on_in}

-- A route ends at a node.
abbrev pub EndsAt : List ℕ → ℕ → Type 0
EndsAt route n = (way : List ℕ) × (route ≡ way ++ n ∷ [])

-- The node at the end of a call's route gave this reply, to the very request of the call, under the
-- last of its names.
pub record AnsweredAtEnd (joint : Joint) (names : List CallId) (route request reply : List ℕ)
    : Type 0 where
  pub name : CallId
  pub named : Contains names name
  pub last : next_name (sent_on_in joint) name ≡ None
  pub to : ℕ
  pub end : EndsAt route to
  pub given : NodeAnswers joint to name request reply

-- An end of a bridge on the route accepted the very request of a call, under one of its names, and
-- gave back the exception that the bridge made of it, for a cause that its list tells.
pub record RefusedOnWay (joint : Joint) (names : List CallId) (route request reply : List ℕ)
    : Type 0 where
  pub name : CallId
  pub named : Contains names name
  pub plan : BridgePlan
  pub log : BridgeLog
  pub there : Contains joint.bridges log
  pub legal : IsLegalBridgeLog plan log
  pub side : ℕ
  pub way : List ℕ
  pub rest : List ℕ
  pub on_way : route ≡ way ++ side ∷ rest
  pub before : List BridgeEntry
  pub after : List BridgeEntry
  pub returned : log.entries ≡ before ++ Back side name reply ∷ after
  pub code : ℕ
  pub cause : RefusalCause plan before side (far_side plan side) name rest request code
  pub is : reply ≡ exception_to request code

-- A call asks another node, by a route, with a request: a controller made it, or a host.
abbrev pub ControllerAsks : Joint → CallId → List ℕ → List ℕ → Type 0
ControllerAsks joint id route request =
    (log : ControllerLog) × Contains joint.controllers log
    × (calls : List Call) × Contains log.entries (Collect calls)
    × (call : Call) × Contains calls call × (call.id ≡ id) × (call.kind ≡ Net route request)

abbrev pub HostAsks : Joint → CallId → List ℕ → List ℕ → Type 0
HostAsks joint id route request =
    (log : HostLog) × Contains joint.hosts log × Contains log.entries (Ask id route request)

abbrev pub AsksBy : Joint → CallId → List ℕ → List ℕ → Type 0
AsksBy joint id route request =
    ControllerAsks joint id route request ⊎ HostAsks joint id route request

-- A call asks the port of its own node, a controller's, for this.
abbrev pub AsksOwnPort : Joint → CallId → LocalOp → Type 0
AsksOwnPort joint id op =
    (log : ControllerLog) × Contains joint.controllers log
    × (calls : List Call) × Contains log.entries (Collect calls)
    × (call : Call) × Contains calls call × (call.id ≡ id) × (call.kind ≡ Local op)

-- A controller or a host made a call.
abbrev pub WasMade : Joint → CallId → Type 0
WasMade joint id =
    ((route : List ℕ) × (request : List ℕ) × AsksBy joint id route request)
    ⊎ ((op : LocalOp) × AsksOwnPort joint id op)

-- All effects of a call, under whatever of its names, are at the node at which its route ends;
-- those of a call to the own port are at the own node; one that reports success has an effect; and
-- each effect is that of a call that was made, under one of its names.
pub record EffectsAreAtEnd (joint : Joint) : Type 0 where
  pub ends : (id : CallId) (route request : List ℕ) → AsksBy joint id route request
      → (name : CallId) → Contains (names_on_way joint id) name
      → (n : ℕ) → TakesEffectAt joint name n → EndsAt route n
  pub home : (id : CallId) (op : LocalOp) → AsksOwnPort joint id op
      → (name : CallId) → Contains (names_on_way joint id) name
      → (n : ℕ) → TakesEffectAt joint name n → n ≡ id.node
  pub success : (id : CallId) → ReportsSuccess joint id
      → (name : CallId) × Contains (names_on_way joint id) name
      × (n : ℕ) × TakesEffectAt joint name n
  pub made : (name : CallId) (n : ℕ) → TakesEffectAt joint name n
      → (id : CallId) × WasMade joint id × Contains (names_on_way joint id) name

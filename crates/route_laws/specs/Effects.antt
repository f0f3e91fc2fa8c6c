-- What is promised of the effects of calls. This project's own.
use Rattle.std.specs.Prelude.{◌≡◌, ℕ, List, ◌≤◌, Bool, false, Contains}
use Rattle.std.specs.List.{count_by, sum_by}
use Rattle.mstr_block.specs.Call.{is_same_call}
use Rattle.mstr_block.specs.declared.call.CallId.{CallId}
use Rattle.bridge_relay.specs.declared.entry.BridgeEntry.{BridgeEntry}
use Rattle.bridge_relay.specs.declared.entry.BridgeEntry.TheVariants.{Accept}
use Rattle.joint_history.specs.declared.joint.BridgeLog.{BridgeLog}
use Rattle.joint_history.specs.declared.joint.Joint.{Joint}
use Rattle.effect_laws.specs.Fits.{RepliesFit}
use Rattle.effect_laws.specs.Success.{ReportsSuccess}
use Rattle.route_laws.specs.Ends.{EffectsAreAtEnd}
use Rattle.route_laws.specs.Own.{EffectsAreOwn, NodeMisses}
use Rattle.route_laws.specs.Ways.{SentOn, sent_on_in, effects_on_way, names_on_way}

-- No call takes effect twice, under whatever names it goes.
abbrev pub EffectsAtMostOnce : Joint → Type 0
EffectsAtMostOnce joint = (id : CallId) → effects_on_way joint id ≤ 1

-- Each call that reports success took effect, once.
abbrev pub SuccessIsOneEffect : Joint → Type 0
SuccessIsOneEffect joint = (id : CallId) → ReportsSuccess joint id → effects_on_way joint id ≡ 1

-- The request of a call came to a controller that had no power.
abbrev pub CameWithoutPower : Joint → CallId → Type 0
CameWithoutPower joint name = (n : ℕ) × (request : List ℕ) × NodeMisses joint n name request

-- A call whose request came without power, under whatever of its names, took no effect.
abbrev pub OffsAreNoEffects : Joint → Type 0
OffsAreNoEffects joint = (id name : CallId) → Contains (names_on_way joint id) name
    → CameWithoutPower joint name → effects_on_way joint id ≡ 0

-- An end of a bridge accepted the request of a call.
abbrev pub accepts_call : CallId → BridgeEntry → Bool
accepts_call call (Accept side id route request) = is_same_call id call
accepts_call call _ = false

-- How often bridges accepted the request of a call, and how often they sent it on.
abbrev pub accepts_of : Joint → CallId → ℕ
accepts_of joint id =
    sum_by (λ (log : BridgeLog). count_by (accepts_call id) log.entries) joint.bridges

abbrev pub forwards_of : Joint → CallId → ℕ
forwards_of joint id = count_by (λ (s : SentOn). is_same_call s.old id) (sent_on_in joint)

-- Bridges accept a request at most once, and send it on at most once.
pub record IsTakenOnOnce (joint : Joint) (id : CallId) : Type 0 where
  pub accepted : accepts_of joint id ≤ 1
  pub forwarded : forwards_of joint id ≤ 1

-- Bridges accept each request at most once, and send it on at most once.
abbrev pub AreTakenOnOnce : Joint → Type 0
AreTakenOnOnce joint = (id : CallId) → IsTakenOnOnce joint id

-- All that is promised of the effects of calls. A call goes by its own name, and by one more on
-- each network to which a bridge sent it on; its effects are those under all of these. In a plant
-- of one network there is no bridge: each call has its own name alone, so its effects are those
-- under that one, and no bridge refuses it; and where that network has no number, the route of a
-- call is the one address of the node that it asks.
pub record EffectsAreRight (joint : Joint) : Type 0 where
  pub at_most_once : EffectsAtMostOnce joint
  pub taken_on : AreTakenOnOnce joint
  pub success : SuccessIsOneEffect joint
  pub at_end : EffectsAreAtEnd joint
  pub replies : RepliesFit joint
  pub own : EffectsAreOwn joint
  pub without_power : OffsAreNoEffects joint

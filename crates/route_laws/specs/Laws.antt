-- What every joint history of a plant says of the effects of calls. This project's own.
use Rattle.std.specs.Prelude.{◌≡◌, ℕ, [], ◌∷◌, length}
use Rattle.plant_types.specs.declared.plan.Plant.{Plant}
use Rattle.plant_types.specs.Plans.{IsPlant}
use Rattle.mstr_block.specs.declared.call.CallId.{CallId}
use Rattle.joint_history.specs.declared.joint.Joint.{Joint}
use Rattle.joint_history.specs.Effects.{effects}
use Rattle.joint_history.specs.JointLaws.{IsJoint, IsLegalJoint}
use Rattle.effect_laws.specs.Fits.{RepliesFit}
use Rattle.route_laws.specs.Effects.{AreTakenOnOnce, EffectsAreRight, EffectsAtMostOnce}
use Rattle.route_laws.specs.Effects.{OffsAreNoEffects, SuccessIsOneEffect}
use Rattle.route_laws.specs.Ends.{EffectsAreAtEnd}
use Rattle.route_laws.specs.Own.{EffectsAreOwn}
use Rattle.route_laws.specs.Ways.{effects_on_way, names_on_way}

-- Something is so of every joint history whose lists are legal ones of a plant's stations, bridges
-- and rings, for any number of scans, and keep the laws between them.
abbrev pub InEachJoint : (Joint → Type 0) → Type 0
InEachJoint Says = (plant : Plant) (scans : ℕ) (joint : Joint) → IsPlant plant
    → IsLegalJoint plant scans joint → IsJoint joint → Says joint

-- In each joint history bridges accept each request at most once, and send it on at most once.
abbrev pub RequestsAreTakenOnOnce : Type 0
RequestsAreTakenOnOnce = InEachJoint AreTakenOnOnce

-- In each joint history no call takes effect twice, under whatever names it goes.
abbrev pub WaysHaveOneEffect : Type 0
WaysHaveOneEffect = InEachJoint EffectsAtMostOnce

-- In each joint history a call that reports success took effect, once.
abbrev pub SuccessIsOneEffectOnWay : Type 0
SuccessIsOneEffectOnWay = InEachJoint SuccessIsOneEffect

-- In each joint history no call of a controller ends with the word for a reply that doesn't fit
-- its request.
abbrev pub FinishesHaveResults : Type 0
FinishesHaveResults = InEachJoint RepliesFit

-- In each joint history each effect of a call is at the node at which the route of the call ends.
abbrev pub AllEffectsAreAtTheirEnd : Type 0
AllEffectsAreAtTheirEnd = InEachJoint EffectsAreAtEnd

-- In each joint history the effects of a call, own or sent on by bridges, are its own.
abbrev pub AllEffectsAreOwn : Type 0
AllEffectsAreOwn = InEachJoint EffectsAreOwn

-- In each joint history a call whose request came without power took no effect.
abbrev pub OffsHaveNoEffect : Type 0
OffsHaveNoEffect = InEachJoint OffsAreNoEffects

-- In each joint history all that is promised of the effects of calls is so.
abbrev pub AllEffectsAreRight : Type 0
AllEffectsAreRight = InEachJoint EffectsAreRight

-- No bridge is there, and each call has its own name alone: its effects are those under that name.
pub record HaveOwnNamesAlone (joint : Joint) : Type 0 where
  pub no_bridge : joint.bridges ≡ []
  pub one_name : (id : CallId) → names_on_way joint id ≡ id ∷ []
  pub same_effects : (id : CallId) → effects_on_way joint id ≡ effects joint id

-- In a plant of one network there is no bridge, and each call has its own name alone.
abbrev pub WaysOfOneNetwork : Type 0
WaysOfOneNetwork = (plant : Plant) (scans : ℕ) (joint : Joint) → IsPlant plant
    → length plant.nets ≡ 1 → IsLegalJoint plant scans joint → HaveOwnNamesAlone joint

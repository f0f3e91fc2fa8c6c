-- What the wires of a plant send at a moment. All of it is this project's own.
use Rattle.std.specs.Prelude.{ℕ, List, [], map, Option, Some}
use Rattle.plant_types.specs.declared.drops.IoDrop.{IoDrop}
use Rattle.plant_types.specs.declared.plan.ControllerPlan.{ControllerPlan}
use Rattle.plant_types.specs.declared.plan.Plant.{Plant}
use Rattle.joint_history.specs.declared.joint.Joint.{Joint}
use Rattle.peer_cop.specs.declared.wire.Wire.{Wire}
use Rattle.peer_cop.specs.Plants.{drop_of, plan_of}
use Rattle.word_exchange.specs.declared.sending.Sending.{Sending}
use Rattle.word_exchange.specs.Words.{words_latest, words_sent}

-- Some words of a wire's from drop; none where the plant has no such drop.
abbrev pub words_if : (ControllerPlan → IoDrop → List Joint → List ℕ) → Option ControllerPlan
    → Option IoDrop → List Joint → List ℕ
words_if words (Some plan) (Some drop) moments = words plan drop moments
words_if words _ _ moments = []

abbrev pub words_from : (ControllerPlan → IoDrop → List Joint → List ℕ) → Plant → Wire
    → List Joint → List ℕ
words_from words plant wire moments =
    words_if words (plan_of plant wire.from) (drop_of plant wire.from wire.from_drop) moments

-- What a wire's from drop sends at a moment, by the joint histories at the start and after each
-- repetition so far.
abbrev pub sending_of : Plant → List Joint → Wire → Sending
sending_of plant moments wire = record {
  wire = wire;
  latest = words_from words_latest plant wire moments;
  sent = words_from words_sent plant wire moments;
}

abbrev pub sendings_at : Plant → List Wire → List Joint → List Sending
sendings_at plant wires moments = map (sending_of plant moments) wires

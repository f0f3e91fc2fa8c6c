-- How what a drop sends goes on with the joint history. All of it is this project's own.
use Rattle.std.specs.Prelude.{◌≡◌, if◌then◌else◌, List, [], ◌∷◌, ◌++◌, Some}
use Rattle.std.specs.List.{list_any}
use Rattle.std.specs.Option.{unwrap_or}
use Rattle.plant_types.specs.declared.drops.IoDrop.{IoDrop}
use Rattle.plant_types.specs.declared.plan.ControllerPlan.{ControllerPlan}
use Rattle.plant_types.specs.declared.plan.Plant.{Plant}
use Rattle.ring_core.specs.declared.entry.RingEntry.{RingEntry}
use Rattle.controller_core.specs.declared.entry.Entry.{Entry}
use Rattle.joint_history.specs.declared.joint.Joint.{Joint}
use Rattle.joint_history.specs.Nets.{noted_on}
use Rattle.peer_cop.specs.declared.wire.Wire.{Wire}
use Rattle.peer_cop.specs.Plants.{drop_of, plan_of}
use Rattle.word_exchange.specs.declared.sending.Sending.{Sending}
use Rattle.word_exchange.specs.Sendings.{sending_of}
use Rattle.word_exchange.specs.Words.{entries_of, is_pass_of, last_output}

-- What a wire's from drop sends went on by what a repetition added to the history of its controller
-- and to its ring: the words of the last Output there are the latest, and they are sent from now on
-- where the node passed the token.
pub record Refreshed (plan : ControllerPlan) (entries : List Entry) (ring : List RingEntry)
    (old new : Sending) : Type 0 where
  pub wire : new.wire ≡ old.wire
  pub latest : new.latest ≡ unwrap_or (last_output plan old.wire.from_drop entries) old.latest
  pub sent : new.sent
      ≡ (if list_any (is_pass_of plan.node) ring then new.latest else old.sent)

-- A joint history goes on from another one: these entries came to the history of a controller, and
-- these to its ring.
pub record JointGoesOnBy (plan : ControllerPlan) (entries : List Entry) (ring : List RingEntry)
    (old new : Joint) : Type 0 where
  pub entries_are : entries_of plan.node new ≡ entries_of plan.node old ++ entries
  pub ring_is : noted_on plan.network new ≡ noted_on plan.network old ++ ring

-- What a wire's from drop sends follows the moments of a run: refreshed by what a repetition added,
-- it is what the drop sends at the next moment.
abbrev pub SendingsFollow : Type 0
SendingsFollow =
    (plant : Plant) (before : List Joint) (old new : Joint) (plan : ControllerPlan) (drop : IoDrop)
    (wire : Wire) (entries : List Entry) (ring : List RingEntry) (sending : Sending)
    → plan_of plant wire.from ≡ Some plan → drop_of plant wire.from wire.from_drop ≡ Some drop
    → JointGoesOnBy plan entries ring old new
    → Refreshed plan entries ring (sending_of plant (before ++ old ∷ []) wire) sending
    → sending ≡ sending_of plant (before ++ old ∷ new ∷ []) wire

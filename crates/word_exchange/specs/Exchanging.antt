-- A word exchange between two of its repetitions. All of it is this project's own.
use Rattle.std.specs.Prelude.{◌≡◌, ◌≤◌, ◌<◌, ℕ, Bool, true, not, List, ◌∷◌, length, map}
use Rattle.std.specs.List.{All, AllPairs, list_any, sum_by}
use Rattle.plant_types.specs.declared.drops.IoDrop.{IoDrop}
use Rattle.plant_types.specs.declared.plan.ControllerPlan.{ControllerPlan}
use Rattle.plant_types.specs.declared.plan.Plant.{Plant}
use Rattle.traffic_cop.specs.Exchange.{input_total}
use Rattle.controller_core.specs.Controller.{left_of}
use Rattle.joint_history.specs.declared.joint.Joint.{Joint}
use Rattle.joint_history.specs.JointLaws.{fixed_of}
use Rattle.joint_history.specs.Runnable.{CanRunPlant}
use Rattle.serial_feed.specs.SerialRuns.{nothing_made}
use Rattle.serial_feed.specs.Standing.{are_gone, made_by, SerialIs}
use Rattle.peer_cop.specs.declared.wire.Wire.{Wire}
use Rattle.word_exchange.specs.declared.feeding.WiredDrop.{WiredDrop}
use Rattle.word_exchange.specs.declared.running.WireReader.{WireReader}
use Rattle.word_exchange.specs.Exchange.{before_each, exchanges_in, plant_exchanged, row_total}
use Rattle.word_exchange.specs.Exchange.{rows_before, script_due}
use Rattle.word_exchange.specs.Feeding.{AreOtherDrops, StandsBy}
use Rattle.word_exchange.specs.Rows.{inputs_a_scan, is_wired}
use Rattle.word_exchange.specs.Running.{HasReadAll}
use Rattle.word_exchange.specs.Sendings.{sending_of}
use Rattle.word_exchange.specs.Sources.{sources_due, AreFroms}
use Rattle.word_exchange.specs.Starting.{is_drop_of, IsDropAt}
use Rattle.word_exchange.specs.Wired.{AreWiresOf, HasTestedDrops}
use Rattle.word_exchange.specs.Words.{entries_of}

-- A plant with wires that can exchange words.
pub record CanExchangeWords (plant : Plant) (wires : List Wire) : Type 0 where
  pub runs : CanRunPlant plant
  pub tested : HasTestedDrops plant
  pub wires_are : AreWiresOf plant wires

-- The reader of a from drop at a moment: it has read all, and has what the drop sends then.
pub record IsReaderNow (plant : Plant) (serial : SerialIs) (moments : List Joint)
    (reader : WireReader) : Type 0 where
  pub drop : IoDrop
  pub at : IsDropAt plant reader.sending.wire.from reader.sending.wire.from_drop reader.plan.now drop
  pub sending : reader.sending ≡ sending_of plant moments reader.sending.wire
  pub read : HasReadAll serial reader

-- The wires by which the readers know their from drops.
abbrev pub froms_read : List WireReader → List Wire
froms_read readers = map (λ (reader : WireReader). reader.sending.wire) readers

-- What of a wired drop stays: it is a drop of the plant at which a wire ends, with the sources of
-- its words, and how often a full scan reads it.
pub record IsWiredDrop (plant : Plant) (wires froms : List Wire) (one : WiredDrop) : Type 0 where
  pub at : IsDropAt plant one.plan.now.node one.drop.now.number one.plan.now one.drop.now
  pub wired : is_wired wires one.plan.now.node one.drop.now.number ≡ true
  pub sources : one.sources.items ≡ sources_due froms wires one.plan.now.node one.drop.now.number
      (input_total one.drop.now.modules)
  pub inputs : one.inputs ≡ inputs_a_scan one.plan.now one.drop.now.number

-- How a drop's input exchanges stand in a joint history, behind these moments: its script has rows
-- for all of them, and there are none where no row of the order of solve reads it.
pub record AreExchanges (plan : ControllerPlan) (number : ℕ) (moments : List Joint) (joint : Joint)
    : Type 0 where
  pub few : exchanges_in plan number joint ≤ row_total plan number moments
  pub unread : inputs_a_scan plan number ≡ 0 → exchanges_in plan number joint ≡ 0

-- A wired drop behind these moments: it has the script that is due, and its exchanges are counted.
pub record IsWiredNow (plant : Plant) (wires : List Wire) (moments : List Joint) (joint : Joint)
    (one : WiredDrop) : Type 0 where
  pub script : one.script ≡ script_due plant wires one.plan.now one.drop.now moments
  pub entries : one.entries ≡ length (entries_of one.plan.now.node joint)
  pub exchanges : one.exchanges ≡ exchanges_in one.plan.now one.drop.now.number joint
  pub needed : one.needed ≡ rows_before one.plan.now one.drop.now.number joint
  pub made : AreExchanges one.plan.now one.drop.now.number moments joint

-- The wired drops of a plant, each once.
pub record AreWiredDrops (plant : Plant) (wires froms : List Wire) (wired : List WiredDrop)
    : Type 0 where
  pub each : All (IsWiredDrop plant wires froms) wired
  pub there : All (λ (wire : Wire). list_any (is_drop_of wire.node wire.drop) wired ≡ true) wires
  pub apart : AllPairs AreOtherDrops wired

-- A word exchange stands behind some of its repetitions, after each of which came a joint history:
-- the serial run stands for the plant with the scripts that are due before each of them, the readers
-- have read all, and the wired drops have those scripts.
pub record IsExchanging (plant : Plant) (wires : List Wire) (scans : ℕ) (readers : List WireReader)
    (wired : List WiredDrop) (serial : SerialIs) : Type 0 where
  pub can : CanExchangeWords plant wires
  pub after_each : List Joint
  pub stands : StandsBy
      (plant_exchanged plant wires (before_each (nothing_made plant) after_each)) scans after_each
      serial
  pub froms : AreFroms wires (froms_read readers)
  pub readers_are : All (IsReaderNow plant serial (nothing_made plant ∷ after_each)) readers
  pub drops : AreWiredDrops plant wires (froms_read readers) wired
  pub wired_are : All (IsWiredNow plant wires (before_each (nothing_made plant) after_each)
      (made_by serial)) wired

-- How many steps are left to all controllers of a plant.
abbrev pub steps_of : Plant → ℕ → Joint → ControllerPlan → ℕ
steps_of plant scans joint plan =
    length (left_of (fixed_of plant scans plan) (entries_of plan.node joint))

abbrev pub steps_left : Plant → ℕ → Joint → ℕ
steps_left plant scans joint = sum_by (steps_of plant scans joint) plant.controllers

-- One more repetition of a word exchange was made: fewer steps are left, and the flag says whether
-- scans are.
pub record ExchangesOnce (plant : Plant) (wires : List Wire) (scans : ℕ) (readers : List WireReader)
    (wired : List WiredDrop) (old new : SerialIs) (goes_on : Bool) : Type 0 where
  pub now : IsExchanging plant wires scans readers wired new
  pub goes_on_is : goes_on ≡ not (are_gone new)
  pub less : steps_left plant scans (made_by new) < steps_left plant scans (made_by old)

-- A word exchange stands between two repetitions, and this flag says whether scans are left.
pub record IsGoingOn (plant : Plant) (wires : List Wire) (scans : ℕ) (readers : List WireReader)
    (wired : List WiredDrop) (serial : SerialIs) (goes_on : Bool) : Type 0 where
  pub now : IsExchanging plant wires scans readers wired serial
  pub goes_on_is : goes_on ≡ not (are_gone serial)

-- All scans of a word exchange are gone.
pub record HasExchanged (plant : Plant) (wires : List Wire) (scans : ℕ) (readers : List WireReader)
    (wired : List WiredDrop) (serial : SerialIs) : Type 0 where
  pub now : IsExchanging plant wires scans readers wired serial
  pub gone : are_gone serial ≡ true

-- Rows that a wired drop is given at a moment of a run. All of it is this project's own.
use Rattle.std.specs.Prelude.{◌≡◌, ◌≢◌, ◌≤◌, ◌<◌, Some, ℕ, suc, ◌-◌, List, ◌++◌, fold, length, map}
use Rattle.std.specs.Prelude.{Option}
use Rattle.std.specs.List.{All, AllPairs, count_by, range_with_len}
use Rattle.plant_types.specs.declared.drops.IoDrop.{IoDrop}
use Rattle.plant_types.specs.declared.drops.ScriptRow.{ScriptRow}
use Rattle.plant_types.specs.declared.plan.ControllerPlan.{ControllerPlan}
use Rattle.plant_types.specs.declared.plan.Plant.{Plant}
use Rattle.traffic_cop.specs.Drops.{drop_named}
use Rattle.traffic_cop.specs.Exchange.{IsDrop}
use Rattle.joint_history.specs.declared.joint.ControllerLog.{ControllerLog}
use Rattle.joint_history.specs.declared.joint.Joint.{Joint}
use Rattle.serial_feed.specs.Feeding.{plant_fed}
use Rattle.serial_feed.specs.SerialRuns.{IsChain, IsRepetition}
use Rattle.serial_feed.specs.SerialRuns.{nothing_made}
use Rattle.serial_feed.specs.Standing.{are_gone, made_by, SerialIs, StandsFor}
use Rattle.word_exchange.specs.declared.feeding.WiredDrop.{WiredDrop}
use Rattle.word_exchange.specs.declared.running.WireReader.{WireReader}
use Rattle.word_exchange.specs.declared.sources.Source.{Source}
use Rattle.word_exchange.specs.Rows.{inputs_a_scan, own_row}
use Rattle.word_exchange.specs.Sources.{row_brought}
use Rattle.word_exchange.specs.Words.{is_input_of}

-- The plant with these rows last in the script of a drop of a node's controller, in their order.
abbrev pub plant_with_rows : Plant → ℕ → ℕ → List ScriptRow → Plant
plant_with_rows plant node number rows =
    fold (λ (fed : Plant) (row : ScriptRow). plant_fed fed node number row) plant rows

-- A drop with another script.
abbrev pub with_script : IoDrop → List ScriptRow → IoDrop
with_script drop script = record drop { script = script }

-- A plan has the orders of another one, and this drop of it with this script.
pub record HasScriptIn (plan : ControllerPlan) (drop : IoDrop) (script : List ScriptRow)
    (fed : ControllerPlan) : Type 0 where
  pub orders : fed.orders ≡ plan.orders
  pub drop_is : drop_named fed.drops drop.number ≡ Some (with_script drop script)

-- The controller of the plan's node has the plan's orders, and this drop with this script.
abbrev pub HasScript : ControllerPlan → IoDrop → List ScriptRow → Plant → Type 0
HasScript plan drop script plant =
    All (λ (fed : ControllerPlan). fed.node ≡ plan.node → HasScriptIn plan drop script fed)
    plant.controllers

-- A drop has made at most so many input exchanges in a joint history.
abbrev pub HasMadeAtMost : ControllerPlan → ℕ → ℕ → Joint → Type 0
HasMadeAtMost plan number most joint =
    All (λ (log : ControllerLog). log.node ≡ plan.node
    → count_by (is_input_of plan number) log.entries ≤ most) joint.controllers

-- A serial run can take rows for a drop that has this script: it stands for a plant with the
-- script, some row of the order of solve reads the drop, and it has made at most as many input
-- exchanges as the script has rows.
pub record CanTakeRows (plan : ControllerPlan) (drop : IoDrop) (script : List ScriptRow)
    (serial : SerialIs) : Type 0 where
  pub plant : Plant
  pub scans : ℕ
  pub stands : StandsFor plant scans serial
  pub has : HasScript plan drop script plant
  pub own : IsDrop drop
  pub read : 1 ≤ inputs_a_scan plan drop.number
  pub made : HasMadeAtMost plan drop.number (length script) (made_by serial)

-- A serial run stands for a plant, by these joint histories, one after each repetition so far.
pub record StandsBy (plant : Plant) (scans : ℕ) (after_each : List Joint) (serial : SerialIs)
    : Type 0 where
  pub stands : StandsFor plant scans serial
  pub repetitions : IsChain (IsRepetition plant scans) (nothing_made plant) after_each
      (made_by serial)

-- A serial run was fed these rows, in their order: it made nothing, no scans are gone by that, and
-- it stands for each plant with the rows for which it stood without them, by the same repetitions.
pub record FedRows (node number : ℕ) (rows : List ScriptRow) (old new : SerialIs) : Type 0 where
  pub made : made_by new ≡ made_by old
  pub gone : are_gone new ≡ are_gone old
  pub stands : (plant : Plant) (scans : ℕ) (after_each : List Joint)
      → StandsBy plant scans after_each old
      → StandsBy (plant_with_rows plant node number rows) scans after_each new

-- These rows came last to the script of a drop, and the serial run was fed them.
pub record TakesRows (plan : ControllerPlan) (drop : IoDrop)
    (rows script new_script : List ScriptRow) (old new : SerialIs) : Type 0 where
  pub script_is : new_script ≡ script ++ rows
  pub fed : FedRows plan.node drop.number rows old new

-- The rows of a drop after so many, up to as many as are needed: its own, with the words that its
-- sources bring.
abbrev pub rows_from : List WireReader → List (Option Source) → IoDrop → ℕ → ℕ → List ScriptRow
rows_from readers sources drop there needed =
    map (λ (row : ℕ). row_brought readers sources (own_row drop row))
    (range_with_len (suc there) (needed - there))

-- The rows that a wired drop is given, so that as many are there as it needs.
abbrev pub rows_wanted : List WireReader → WiredDrop → List ScriptRow
rows_wanted readers wired =
    rows_from readers wired.sources.items wired.drop.now (length wired.script) wired.needed

-- A wired drop with the rows that it needs.
abbrev pub with_rows : List WireReader → WiredDrop → WiredDrop
with_rows readers wired =
    record wired { script = wired.script ++ rows_wanted readers wired }

-- A wired drop of a serial run was given the rows that it needs.
pub record IsGivenRows (readers : List WireReader) (wired new_wired : WiredDrop) (old new : SerialIs)
    : Type 0 where
  pub wired_is : new_wired ≡ with_rows readers wired
  pub fed : FedRows wired.plan.now.node wired.drop.now.number (rows_wanted readers wired) old new

-- A serial run can take rows for a wired drop, where that has fewer than it needs.
abbrev pub CanTakeIf : WiredDrop → SerialIs → Type 0
CanTakeIf wired serial =
    length wired.script < wired.needed
    → CanTakeRows wired.plan.now wired.drop.now wired.script serial

-- Two wired drops are not the same drop of the same controller.
abbrev pub AreOtherDrops : WiredDrop → WiredDrop → Type 0
AreOtherDrops one other =
    one.plan.now.node ≡ other.plan.now.node → one.drop.now.number ≢ other.drop.now.number

-- A plant with the rows that wired drops need.
abbrev pub plant_with_all : List WireReader → Plant → List WiredDrop → Plant
plant_with_all readers plant wired =
    fold (λ (fed : Plant) (one : WiredDrop). plant_with_rows fed one.plan.now.node
    one.drop.now.number (rows_wanted readers one)) plant wired

-- What a wired drop needs to be given rows in a plant that has made so much: the plant has its
-- script, some row of the order of solve reads it, and it has made at most as many input exchanges
-- as its script has rows.
pub record CanBeGiven (plant : Plant) (joint : Joint) (wired : WiredDrop) : Type 0 where
  pub has : HasScript wired.plan.now wired.drop.now wired.script plant
  pub own : IsDrop wired.drop.now
  pub read : 1 ≤ inputs_a_scan wired.plan.now wired.drop.now.number
  pub made : HasMadeAtMost wired.plan.now wired.drop.now.number (length wired.script) joint

-- A serial run can take the rows of these wired drops: it stands for a plant of which each that has
-- fewer than it needs can be given rows, and no drop is there twice.
pub record CanTakeAll (wired : List WiredDrop) (serial : SerialIs) : Type 0 where
  pub plant : Plant
  pub scans : ℕ
  pub stands : StandsFor plant scans serial
  pub each : All (λ (one : WiredDrop). length one.script < one.needed
      → CanBeGiven plant (made_by serial) one) wired
  pub apart : AllPairs AreOtherDrops wired

-- All wired drops of a serial run were given the rows that they need: it made nothing, no scans are
-- gone by that, and it stands for each plant with all these rows for which it stood without them, by
-- the same repetitions.
pub record AreGivenRows (readers : List WireReader) (wired new_wired : List WiredDrop)
    (old new : SerialIs) : Type 0 where
  pub wired_are : new_wired ≡ map (with_rows readers) wired
  pub made : made_by new ≡ made_by old
  pub gone : are_gone new ≡ are_gone old
  pub stands : (plant : Plant) (scans : ℕ) (after_each : List Joint)
      → StandsBy plant scans after_each old
      → StandsBy (plant_with_all readers plant wired) scans after_each new

-- The plant of a word exchange, and its run. All of it is this project's own.
use Rattle.std.specs.Prelude.{◌≡◌, ◌≤◌, Some, ℕ, suc, ◌+◌, max, true, if◌then◌else◌, nat_le, List}
use Rattle.std.specs.Prelude.{[], ◌∷◌}
use Rattle.std.specs.Prelude.{◌-◌, ◌++◌, fold, map, length, take}
use Rattle.std.specs.List.{count_by, position_or_len, range_with_len}
use Rattle.plant_types.specs.declared.drops.IoDrop.{IoDrop}
use Rattle.plant_types.specs.declared.drops.ScriptRow.{ScriptRow}
use Rattle.plant_types.specs.declared.plan.ControllerPlan.{ControllerPlan}
use Rattle.plant_types.specs.declared.plan.Plant.{Plant}
use Rattle.plant_types.specs.Plans.{controller_nodes}
use Rattle.plant_types.specs.PlanTests.{drop_limit}
use Rattle.traffic_cop.specs.Rows.{IsRunnablePlan}
use Rattle.controller_core.specs.declared.entry.Entry.{Entry}
use Rattle.controller_core.specs.declared.fixed.Fixed.{Fixed}
use Rattle.controller_core.specs.Feeding.{exchanges_made}
use Rattle.controller_core.specs.Replay.{replay}
use Rattle.joint_history.specs.declared.joint.Joint.{Joint}
use Rattle.serial_feed.specs.SerialRuns.{all_have_ended, Finishes, IsChain, IsRepetition}
use Rattle.serial_feed.specs.SerialRuns.{nothing_made}
use Rattle.peer_cop.specs.declared.wire.Wire.{Wire}
use Rattle.peer_cop.specs.Plants.{plan_of}
use Rattle.word_exchange.specs.Moments.{node_of_log}
use Rattle.word_exchange.specs.Sendings.{sendings_at}
use Rattle.word_exchange.specs.Rows.{inputs_a_scan, is_wired, own_row, row_made}
use Rattle.word_exchange.specs.Words.{entries_of, is_input_of}

-- The input exchanges that a drop has made.
abbrev pub exchanges_in : ControllerPlan → ℕ → Joint → ℕ
exchanges_in plan number joint =
    count_by (is_input_of plan number) (entries_of plan.node joint)

-- The input exchanges of a drop in a history are those that its controller has counted.
abbrev pub ExchangesAreCounted : Type 0
ExchangesAreCounted =
    (fixed : Fixed) (history : List Entry) (number : ℕ) → 1 ≤ number → number ≤ drop_limit
    → IsRunnablePlan fixed.plan
    → exchanges_made (replay fixed history) number
    ≡ count_by (is_input_of fixed.plan number) history

-- A repetition makes at most as many input exchanges of a drop as a full scan has.
abbrev pub RepetitionsExchange : Type 0
RepetitionsExchange =
    (plant : Plant) (scans : ℕ) (plan : ControllerPlan) (number : ℕ) (old new : Joint)
    → plan_of plant plan.node ≡ Some plan
    → map node_of_log old.controllers ≡ controller_nodes plant → IsRepetition plant scans old new
    → exchanges_in plan number new ≤ exchanges_in plan number old + inputs_a_scan plan number

-- How many rows a wired drop has to have before the repetition after this joint history: those of
-- the exchanges that it has made, and those of a full scan; and the one with which it begins.
abbrev pub rows_before : ControllerPlan → ℕ → Joint → ℕ
rows_before plan number joint = max 1 (exchanges_in plan number joint + inputs_a_scan plan number)

-- The joint histories before each repetition: the one at the start, and those after each but the
-- last.
abbrev pub before_each : Joint → List Joint → List Joint
before_each start after_each = take (length after_each) (start ∷ after_each)

-- The first moment, counted from 0, at which a wired drop has to have so many rows.
abbrev pub made_at : ControllerPlan → ℕ → List Joint → ℕ → ℕ
made_at plan number moments row =
    position_or_len (λ (joint : Joint). nat_le row (rows_before plan number joint)) moments

-- The row of a number of a wired drop: its own row, with the words that its wires bring at the
-- moment at which it is made.
abbrev pub row_due : Plant → List Wire → ControllerPlan → IoDrop → List Joint → ℕ → ScriptRow
row_due plant wires plan drop moments row =
    row_made
    (sendings_at plant wires (take (suc (made_at plan drop.number moments row)) moments))
    plan.node drop.number (own_row drop row)

-- How many rows a wired drop has after these moments: one at first, and as many as it had to have
-- at any of them, since rows that are there stay.
abbrev pub row_total : ControllerPlan → ℕ → List Joint → ℕ
row_total plan number moments =
    fold (λ (most : ℕ) (joint : Joint). max most (rows_before plan number joint)) 1 moments

-- The script of a wired drop.
abbrev pub script_due : Plant → List Wire → ControllerPlan → IoDrop → List Joint → List ScriptRow
script_due plant wires plan drop moments =
    map (row_due plant wires plan drop moments)
    (range_with_len 1 (row_total plan drop.number moments))

-- A row that is made at the last of these moments.
abbrev pub row_now : Plant → List Wire → ControllerPlan → IoDrop → List Joint → ℕ → ScriptRow
row_now plant wires plan drop moments row =
    row_made (sendings_at plant wires moments) plan.node drop.number (own_row drop row)

-- Rows that are there stay: at one moment more come those that the drop has to have then, each with
-- the words of that moment.
abbrev pub RowsStay : Type 0
RowsStay =
    (plant : Plant) (wires : List Wire) (plan : ControllerPlan) (drop : IoDrop)
    (moments : List Joint) (joint : Joint)
    → script_due plant wires plan drop (moments ++ joint ∷ [])
    ≡ script_due plant wires plan drop moments
    ++ map (row_now plant wires plan drop (moments ++ joint ∷ []))
    (range_with_len (suc (row_total plan drop.number moments))
    (row_total plan drop.number (moments ++ joint ∷ []) - row_total plan drop.number moments))

-- The plant of a word exchange, by the joint histories before each repetition: each wired drop has
-- the script that is due, and all else is as in the plant.
abbrev pub drop_exchanged : Plant → List Wire → List Joint → ControllerPlan → IoDrop → IoDrop
drop_exchanged plant wires moments plan drop =
    if is_wired wires plan.node drop.number
    then record drop { script = script_due plant wires plan drop moments }
    else drop

abbrev pub plan_exchanged : Plant → List Wire → List Joint → ControllerPlan → ControllerPlan
plan_exchanged plant wires moments plan =
    record plan { drops = map (drop_exchanged plant wires moments plan) plan.drops }

abbrev pub plant_exchanged : Plant → List Wire → List Joint → Plant
plant_exchanged plant wires moments =
    record plant { controllers = map (plan_exchanged plant wires moments) plant.controllers }

-- A word exchange of so many scans: the plant has the rows that its own serial run brings about,
-- and the joint history is that of this run.
pub record IsExchange (plant : Plant) (wires : List Wire) (scans : ℕ) (fed : Plant)
    (joint : Joint) : Type 0 where
  pub after_each : List Joint
  pub last : Joint
  pub repetitions : IsChain (IsRepetition fed scans) (nothing_made fed) after_each last
  pub ended : all_have_ended fed scans last ≡ true
  pub fed_is : fed ≡ plant_exchanged plant wires (before_each (nothing_made fed) after_each)
  pub finishes : Finishes fed scans last joint

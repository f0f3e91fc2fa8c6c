-- The script rows of a drop whose input words are wired. All of it is this project's own.
use Rattle.std.specs.Prelude.{ℕ, ◌+◌, ◌-◌, ◌==◌, Bool, ◌&&◌, nat_le, nat_lt, List, map, replicate}
use Rattle.std.specs.Prelude.{Option, Some, None, slice_index}
use Rattle.std.specs.List.{count_by, enumerate_from, find, list_any}
use Rattle.plant_types.specs.declared.drops.IoDrop.{IoDrop}
use Rattle.plant_types.specs.declared.drops.ScriptRow.{ScriptRow}
use Rattle.plant_types.specs.declared.drops.ScriptRow.TheVariants.{Silent, Row}
use Rattle.plant_types.specs.declared.plan.ControllerPlan.{ControllerPlan}
use Rattle.traffic_cop.specs.Exchange.{input_total, row_at}
use Rattle.peer_cop.specs.declared.wire.Wire.{Wire}
use Rattle.word_exchange.specs.declared.sending.Sending.{Sending}
use Rattle.word_exchange.specs.Words.{names_drop}

-- A wire ends at a drop of a node, and at a word of it.
abbrev pub ends_at : ℕ → ℕ → Wire → Bool
ends_at node number wire = (wire.node == node) && (wire.drop == number)

abbrev pub feeds : ℕ → ℕ → ℕ → Wire → Bool
feeds node number word wire =
    ends_at node number wire && (nat_le wire.word word && nat_lt word (wire.word + wire.count))

-- A drop is wired: some wire ends at it.
abbrev pub is_wired : List Wire → ℕ → ℕ → Bool
is_wired wires node number = list_any (ends_at node number) wires

-- The word that a wire brings to a word of its drop, out of the words that its from drop sends.
abbrev pub word_by : ℕ → Sending → ℕ
word_by word sending =
    slice_index sending.sent (sending.wire.from_word + (word - sending.wire.word) - 1)

-- An input word of a drop, counted from 1: the word that a wire brings, or its own.
abbrev pub brought : ℕ → ℕ → Option Sending → ℕ
brought word own None = own
brought word own (Some sending) = word_by word sending

abbrev pub word_made : List Sending → ℕ → ℕ → ℕ × ℕ → ℕ
word_made sendings node number at =
    brought at.0 at.1 (find (λ sending. feeds node number at.0 sending.wire) sendings)

-- A row of a wired drop: its wired words are those that the wires bring; a silent row stays silent.
abbrev pub row_made : List Sending → ℕ → ℕ → ScriptRow → ScriptRow
row_made sendings node number Silent = Silent
row_made sendings node number (Row words) =
    Row (map (word_made sendings node number) (enumerate_from 1 words))

-- The row of a drop's own script at an exchange, or its last; zeros where the script is empty.
abbrev pub own_row_or : IoDrop → Option ScriptRow → ScriptRow
own_row_or drop None = Row (replicate (input_total drop.modules) 0)
own_row_or drop (Some row) = row

abbrev pub own_row : IoDrop → ℕ → ScriptRow
own_row drop exchange = own_row_or drop (row_at drop.script exchange)

-- How many input exchanges a drop has in a full scan.
abbrev pub inputs_a_scan : ControllerPlan → ℕ → ℕ
inputs_a_scan plan number = count_by (λ row. names_drop number row.input) plan.orders

-- What each block that moves or searches the registers of a table does when it is solved.
use Rattle.std.specs.Prelude.{ℕ, ◌+◌, ◌-◌, Bool, false, not, ◌&&◌, ◌||◌, ◌==◌, nat_lt, nat_le}
use Rattle.std.specs.Prelude.{if◌then◌else◌, List, drop, Option, is_some, option_map, unwrap_or}
use Rattle.std.specs.List.{position_from}
use Rattle.std.specs.FinMap.{insert}
use Rattle.plant_types.specs.declared.reference.Ref.{Ref}
use Rattle.plant_types.specs.declared.power.NodePower.{NodePower}
use Rattle.plant_types.specs.Reference.{ref_from}
use Rattle.plant_types.specs.Store.{Contents, word_at, words_from, with_words}
use Rattle.plant_types.specs.Effect.{Effect}

-- The contents after so many registers are copied; all are read before any is stored. This
-- project's own.
abbrev pub moved : Contents → Ref → Ref → ℕ → Contents
moved m source target count = with_words m target (words_from m source count)

-- The registers behind a pointer. Modicon Ladder Logic Block Library User Guide.
abbrev pub table_behind : Ref → Ref
table_behind pointer = ref_from pointer 1

-- The place where a move begins: the first with power at the bottom node, else that of the
-- pointer. Modicon Ladder Logic Block Library User Guide; the exact inputs are this project's
-- own.
abbrev pub start_place : NodePower → ℕ → ℕ
start_place inputs pointer = if inputs.bottom then 0 else pointer

-- A move goes on with power at the top node, as long as its place is in the table. Modicon
-- Ladder Logic Block Library User Guide; the exact inputs are this project's own.
abbrev pub moves_on : NodePower → ℕ → ℕ → Bool
moves_on inputs length place = inputs.top && nat_lt place length

-- The place after a move: the next one, or the same with power at the middle node. Modicon
-- Ladder Logic Block Library User Guide; the exact inputs are this project's own.
abbrev pub next_place : NodePower → ℕ → ℕ → ℕ
next_place inputs length place =
    if moves_on inputs length place && not inputs.middle then place + 1 else place

-- The outputs of a move that began at a place: power passed on, and the table's end. Modicon Ladder
-- Logic Block Library User Guide; the exact outputs are this project's own.
abbrev pub move_outputs : NodePower → ℕ → ℕ → NodePower
move_outputs inputs length place =
    let next = next_place inputs length place in
    record { top = inputs.top; middle = nat_le length next; bottom = false }

-- The contents after the pointer of a move that began at a place is stored. This project's own.
abbrev pub with_next_place : NodePower → Ref → ℕ → ℕ → Contents → Contents
with_next_place inputs pointer length place m =
    if moves_on inputs length place || inputs.bottom
    then insert m pointer (next_place inputs length place)
    else m

-- R>T, T>R and T>T: one word moves by its place in the table, and the pointer is stored last.
-- Modicon Ladder Logic Block Library User Guide; the exact inputs and outputs are this
-- project's own.
abbrev pub table_move : (ℕ → Contents) → Ref → ℕ → NodePower → Contents → Effect
table_move moved_at pointer length inputs m =
    let place = start_place inputs (word_at m pointer) in
    let next = next_place inputs length place in
    record {
      outputs = move_outputs inputs length place;
      stored =
          if moves_on inputs length place then insert (moved_at place) pointer next
          else (if inputs.bottom then insert m pointer 0 else m);
    }

-- R>T: a register into the table behind the pointer. Modicon Ladder Logic Block Library User
-- Guide; the exact inputs and outputs are this project's own.
abbrev pub reg_to_table_effect : Ref → Ref → ℕ → NodePower → Contents → Effect
reg_to_table_effect top mid length inputs m =
    table_move (λ place. moved m top (ref_from (table_behind mid) place) 1) mid length inputs m

-- T>R: a word of the table into the register behind the pointer. Modicon Ladder Logic Block
-- Library User Guide; the exact inputs and outputs are this project's own.
abbrev pub table_to_reg_effect : Ref → Ref → ℕ → NodePower → Contents → Effect
table_to_reg_effect top mid length inputs m =
    table_move (λ place. moved m (ref_from top place) (table_behind mid) 1) mid length inputs m

-- T>T: a word of one table into the same place of the table behind the pointer. Modicon Ladder
-- Logic Block Library User Guide; the exact inputs and outputs are this project's own.
abbrev pub table_to_table_effect : Ref → Ref → ℕ → NodePower → Contents → Effect
table_to_table_effect top mid length inputs m =
    table_move (λ place. moved m (ref_from top place) (ref_from (table_behind mid) place) 1)
    mid length inputs m

-- BLKM: a whole table into another. Modicon Ladder Logic Block Library User Guide; the exact
-- inputs and outputs are this project's own.
abbrev pub block_move_effect : Ref → Ref → ℕ → NodePower → Contents → Effect
block_move_effect top mid length inputs m = record {
  outputs = record { top = inputs.top; middle = false; bottom = false };
  stored = if inputs.top then moved m top mid length else m;
}

-- The outputs of FIN and FOUT: power passed on, queue full, queue empty. Modicon Ladder Logic
-- Block Library User Guide; the exact outputs are this project's own.
abbrev pub queue_outputs : NodePower → ℕ → ℕ → NodePower
queue_outputs inputs length count =
    record { top = inputs.top; middle = nat_le length count; bottom = count == 0 }

-- FIN: the words of the queue move one place on, and a register becomes the first. Modicon
-- Ladder Logic Block Library User Guide; the exact inputs and outputs are this project's own.
abbrev pub first_in_effect : Ref → Ref → ℕ → NodePower → Contents → Effect
first_in_effect top mid length inputs m =
    let count = word_at m mid in
    let takes = inputs.top && nat_lt count length in
    let next = if takes then count + 1 else count in
    let shifted = moved m (table_behind mid) (ref_from (table_behind mid) 1) count in
    record {
      outputs = queue_outputs inputs length next;
      stored =
          if takes then insert (insert shifted (table_behind mid) (word_at m top)) mid next else m;
    }

-- FOUT: the last word of the queue, which came first, leaves it for a register. Modicon Ladder
-- Logic Block Library User Guide; the exact inputs and outputs are this project's own.
abbrev pub first_out_effect : Ref → Ref → ℕ → NodePower → Contents → Effect
first_out_effect top mid length inputs m =
    let count = word_at m top in
    let gives = inputs.top && nat_lt 0 count && nat_le count length in
    let next = if gives then count - 1 else count in
    record {
      outputs = queue_outputs inputs length next;
      stored = if gives then insert (moved m (ref_from top count) mid 1) top next else m;
    }

-- The first place from one on that holds a number. This project's own.
abbrev pub first_place : ℕ → ℕ → List ℕ → Option ℕ
first_place start value words = position_from (λ word. word == value) start (drop start words)

-- SRCH: the pointer is left one behind the first place that holds the number behind it, or at
-- 0. Modicon Ladder Logic Block Library User Guide; the exact inputs and outputs are this
-- project's own.
abbrev pub search_effect : Ref → Ref → ℕ → NodePower → Contents → Effect
search_effect top mid length inputs m =
    let start = if inputs.middle then word_at m mid else 0 in
    let found = first_place start (word_at m (table_behind mid)) (words_from m top length) in
    let pointer = unwrap_or (option_map (λ place. place + 1) found) 0 in
    record {
      outputs = record { top = inputs.top; middle = inputs.top && is_some found; bottom = false };
      stored = if inputs.top then insert m mid pointer else m;
    }

-- What an MSTR block does when it is solved. Modicon Ladder Logic Block Library User Guide; the
-- states and their exact outputs are this project's own.
use Rattle.std.specs.Prelude.{◌≡◌, ℕ, min, not, ◌&&◌, if◌then◌else◌, List, [], set}
use Rattle.std.specs.Prelude.{take, drop, Option, Some, None, Result, Ok, Err}
use Rattle.std.specs.FinMap.{insert}
use Rattle.plant_types.specs.declared.power.NodePower.{NodePower}
use Rattle.plant_types.specs.Power.{bits_of, no_output, top_output, middle_output}
use Rattle.plant_types.specs.Power.{bottom_output}
use Rattle.plant_types.specs.Store.{Contents, Keeps, words_from, with_words}
use Rattle.mstr_block.specs.declared.call.MstrResult.{MstrResult}
use Rattle.mstr_block.specs.declared.call.MstrResult.TheVariants.{Good, Bad}
use Rattle.mstr_block.specs.declared.control.Control.{Control}
use Rattle.mstr_block.specs.declared.operation.Operation.{Operation}
use Rattle.mstr_block.specs.declared.operation.Operation.TheVariants.{ReadData, LocalStatistics}
use Rattle.mstr_block.specs.declared.operation.Operation.TheVariants.{ReadGlobal, RemoteStatistics}
use Rattle.mstr_block.specs.declared.state.Kept.{Kept}
use Rattle.mstr_block.specs.declared.state.BlockState.{BlockState}
use Rattle.mstr_block.specs.declared.state.BlockState.TheVariants.{Idle, Waiting, Active, Aborted}
use Rattle.mstr_block.specs.declared.state.BlockState.TheVariants.{Ready}
use Rattle.mstr_block.specs.declared.site.Site.{Site}
use Rattle.mstr_block.specs.Control.{control_block_of, status_register, start_register, start_of}
use Rattle.mstr_block.specs.Control.{ask_of, user_abort}
use Rattle.mstr_block.specs.Table.{BlockTable, block_state, with_state, given_up, path_for}
use Rattle.mstr_block.specs.Table.{next_call}

-- What a solve leaves and gives: the table, the power of the block's nodes, the contents.
pub record Solved : Type 0 where
  pub table : BlockTable
  pub outputs : NodePower
  pub stored : Contents

-- A call has done what is said: the table that it leaves, the power that it answers as bits, the
-- contents that it leaves; and no reference of the store goes.
pub record SolvesBlock (solved : Solved) (left : BlockTable) (answer : ℕ) (old new : Contents)
    : Type 0 where
  pub table : left ≡ solved.table
  pub outputs : answer ≡ bits_of solved.outputs
  pub stored : new ≡ solved.stored
  pub keeps : Keeps old new

-- The outputs: active at the top, ended with an error in the middle, with success at the bottom.
abbrev pub active : NodePower
active = top_output

abbrev pub error : NodePower
error = middle_output

abbrev pub success : NodePower
success = bottom_output

-- Nothing changes.
abbrev pub unchanged : BlockTable → NodePower → Contents → Solved
unchanged table outputs m = record { table = table; outputs = outputs; stored = m }

-- The block ends with an error word in its status, in this state.
abbrev pub ended_with : ℕ → BlockState → BlockTable → ℕ → Site → Contents → Solved
ended_with word state table block site m = record {
  table = with_state table block state;
  outputs = error;
  stored = insert m (status_register site.control) word;
}

-- What a call keeps of the control block for its answer.
abbrev pub kept_of : Operation → Control → Kept
kept_of operation control =
    record { operation = operation; start = control.start; length = control.length }

-- The block runs the next call of a path, with these words.
abbrev pub launched : BlockTable → ℕ → Operation → Control → List ℕ → Option ℕ → BlockTable
launched table block operation control words None = with_state table block Waiting
launched table block operation control words (Some path) =
    let id = next_call table path in
    record (with_state table block (Active (record {
      id = id;
      ask = Some (ask_of operation control words);
      kept = kept_of operation control;
    }))) { numbers = set table.numbers path id.seq }

-- The block runs the next call of the path of an operation, with the words of its area.
abbrev pub launched_at : BlockTable → ℕ → Site → Operation → Control → Contents → BlockTable
launched_at table block site operation control m =
    launched table block operation control (words_from m site.area control.length)
    (path_for table operation)

-- A start with the registers as they are: the error word of the first test that fails, else a call
-- on the least free path, or the block waits for one.
abbrev pub start_by : BlockTable → ℕ → Site → Contents → Result Operation ℕ → Solved
start_by table block site m (Err word) = ended_with word Idle table block site m
start_by table block site m (Ok operation) =
    record {
      table = launched_at table block site operation (control_block_of m site.control) m;
      outputs = active;
      stored = insert m (status_register site.control) 0;
    }

abbrev pub started : BlockTable → ℕ → Site → Contents → Solved
started table block site m =
    start_by table block site m
    (start_of table.routed table.node site.room (control_block_of m site.control))

-- The words that an operation answers, of those of a good result: statistics from the first that
-- was asked for on, and global words behind the number of words available.
abbrev pub words_answered : Operation → ℕ → List ℕ → List ℕ
words_answered ReadData start words = words
words_answered LocalStatistics start words = drop start words
words_answered RemoteStatistics start words = drop start words
words_answered ReadGlobal start words = drop 1 words
words_answered _ start words = []

-- The number of words available, where an operation answers it and the result has it.
abbrev pub available : Operation → List ℕ → List ℕ
available ReadGlobal words = take 1 words
available _ words = []

-- The words that are stored in the data area: at most as many as were asked for and have room.
abbrev pub area_words : Kept → ℕ → List ℕ → List ℕ
area_words kept room words =
    take (min kept.length room) (words_answered kept.operation kept.start words)

-- The contents after an answer: the status first, then the number of words available, then the
-- area; a register that no word is for keeps its number.
abbrev pub after_answer : Kept → List ℕ → Site → Contents → Contents
after_answer kept words site m =
    let cleared = insert m (status_register site.control) 0 in
    let told =
    with_words cleared (start_register site.control) (available kept.operation words) in
    with_words told site.area (area_words kept site.room words)

-- What a result leaves in the registers, and the outputs as the block ends by it.
abbrev pub with_outcome : Kept → MstrResult → Site → Contents → Contents
with_outcome kept (Good words) site m = after_answer kept words site m
with_outcome kept (Bad word) site m = insert m (status_register site.control) word

abbrev pub power_of : MstrResult → NodePower
power_of (Good words) = success
power_of (Bad word) = error

-- The block ends by the result of its call.
abbrev pub block_ended : Kept → MstrResult → BlockTable → ℕ → Site → Contents → Solved
block_ended kept result table block site m = record {
  table = with_state table block Idle;
  outputs = power_of result;
  stored = with_outcome kept result site m;
}

-- A block in a state: the top node enables it, the middle one aborts it.
abbrev pub solved_in : BlockState → BlockTable → ℕ → Site → NodePower → Contents → Solved
solved_in Idle table block site inputs m =
    if inputs.top && not inputs.middle then started table block site m
    else unchanged table no_output m
solved_in Waiting table block site inputs m =
    if inputs.middle then ended_with user_abort Idle table block site m
    else started table block site m
solved_in (Active running) table block site inputs m =
    if inputs.middle then ended_with user_abort (given_up (Active running)) table block site m
    else unchanged table active m
solved_in (Aborted running) table block site inputs m = unchanged table no_output m
solved_in (Ready kept result) table block site inputs m = block_ended kept result table block site m

-- A block is solved.
unfoldable pub block_solved : BlockTable → ℕ → Site → NodePower → Contents → Solved
block_solved table block site inputs m =
    solved_in (block_state table block) table block site inputs m

-- A call has started a block, has ended it with an error word, has given its call up, or has solved
-- it.
abbrev pub StartsBlock : ℕ → Site → BlockTable → BlockTable → ℕ → Contents → Contents → Type 0
StartsBlock block site table left answer old new =
    SolvesBlock (started table block site old) left answer old new

abbrev pub EndsBlock : ℕ → BlockState → ℕ → Site → BlockTable → BlockTable → ℕ → Contents
    → Contents → Type 0
EndsBlock word state block site table left answer old new =
    SolvesBlock (ended_with word state table block site old) left answer old new

abbrev pub AbortsBlock : ℕ → Site → BlockTable → BlockTable → ℕ → Contents → Contents → Type 0
AbortsBlock block site table left answer old new =
    EndsBlock user_abort (given_up (block_state table block)) block site table left answer old new

abbrev pub SolvesWith : ℕ → Site → NodePower → BlockTable → BlockTable → ℕ → Contents → Contents
    → Type 0
SolvesWith block site nodes table left answer old new =
    SolvesBlock (block_solved table block site nodes old) left answer old new

-- The table of MSTR blocks: what each block is in the middle of, and the calls of each path. This
-- project's own.
use Rattle.std.specs.Prelude.{ℕ, ◌+◌, ◌-◌, ◌<◌, ◌≤◌, nat_le, Bool, false, ◌==◌, not, ◌&&◌}
use Rattle.std.specs.Prelude.{if◌then◌else◌, List, [], ◌∷◌, length, get_or, set, map, replicate}
use Rattle.std.specs.Prelude.{Option, Some, None, is_some, option_map, option_and_then}
use Rattle.std.specs.Option.{is_none}
use Rattle.std.specs.List.{list_any, filter_map, find, position}
use Rattle.plant_types.specs.Limits.{path_places}
use Rattle.mstr_block.specs.declared.call.CallId.{CallId}
use Rattle.mstr_block.specs.declared.call.MstrCall.{MstrCall}
use Rattle.mstr_block.specs.declared.call.MstrResult.{MstrResult}
use Rattle.mstr_block.specs.declared.operation.Operation.{Operation}
use Rattle.mstr_block.specs.declared.state.Running.{Running}
use Rattle.mstr_block.specs.declared.state.BlockState.{BlockState}
use Rattle.mstr_block.specs.declared.state.BlockState.TheVariants.{Idle, Waiting, Active, Aborted}
use Rattle.mstr_block.specs.declared.state.BlockState.TheVariants.{Ready}
use Rattle.mstr_block.specs.Call.{is_same_call}
use Rattle.mstr_block.specs.Operations.{uses_network}

-- The own address, whether routes may lead over bridges, the blocks by their numbers, and the last
-- number that each path gave a call, with path 0 first.
pub record BlockTable : Type 0 where
  pub node : ℕ
  pub routed : Bool
  pub blocks : List BlockState
  pub numbers : List ℕ

-- The paths of a node, 1 to 4, and path 0 for calls of the own station.
abbrev pub network_paths : List ℕ
network_paths = 1 ∷ 2 ∷ 3 ∷ 4 ∷ []

abbrev pub own_path : ℕ
own_path = 0

-- The last number of a path.
abbrev pub last_call_number : ℕ
last_call_number = 4294967295

-- All blocks are idle, and the paths have given these numbers.
abbrev pub resting_table : ℕ → Bool → ℕ → List ℕ → BlockTable
resting_table node routed count numbers =
    record { node = node; routed = routed; blocks = replicate count Idle; numbers = numbers }

-- At first all blocks are idle, and no path has given a number.
abbrev pub idle_table : ℕ → Bool → ℕ → BlockTable
idle_table node routed count = resting_table node routed count (replicate path_places 0)

-- The state of a block, which is found by its number, from 1 on.
abbrev pub block_state : BlockTable → ℕ → BlockState
block_state table block = get_or table.blocks (block - 1) Idle

abbrev pub with_state : BlockTable → ℕ → BlockState → BlockTable
with_state table block state = record table { blocks = set table.blocks (block - 1) state }

-- The call of a block that has no result: the block awaits it, or gave it up.
abbrev pub running_in : BlockState → Option Running
running_in (Active running) = Some running
running_in (Aborted running) = Some running
running_in _ = None

-- A test of the call that a block runs.
abbrev pub runs_such : (Running → Bool) → BlockState → Bool
runs_such test Idle = false
runs_such test Waiting = false
runs_such test (Active running) = test running
runs_such test (Aborted running) = test running
runs_such test (Ready kept result) = false

-- The call that a block started and that was not taken yet; whether the block awaits it does not
-- count.
abbrev pub untaken_call : Running → Option MstrCall
untaken_call running = option_map (λ ask. record { id = running.id; ask = ask }) running.ask

abbrev pub untaken : BlockState → Option MstrCall
untaken state = option_and_then untaken_call (running_in state)

abbrev pub is_untaken : BlockState → Bool
is_untaken state = is_some (untaken state)

-- The calls that were started and not taken yet, in block order.
abbrev pub started_calls : BlockTable → List MstrCall
started_calls table = filter_map untaken table.blocks

abbrev pub has_untaken : BlockTable → Bool
has_untaken table = list_any is_untaken table.blocks

-- The call of this name was taken and has no result.
abbrev pub is_awaited : CallId → BlockState → Bool
is_awaited id state =
    runs_such (λ running. is_none running.ask && is_same_call running.id id) state

abbrev pub is_taken_out : BlockTable → CallId → Bool
is_taken_out table id = list_any (is_awaited id) table.blocks

-- A block whose call is taken.
abbrev pub call_taken : BlockState → BlockState
call_taken (Active running) = Active (record running { ask = None })
call_taken (Aborted running) = Aborted (record running { ask = None })
call_taken state = state

-- The table after the first of the started calls is taken, if there is one.
abbrev pub taken_at : BlockTable → Option ℕ → BlockTable
taken_at table None = table
taken_at table (Some place) =
    record table { blocks = set table.blocks place (call_taken (get_or table.blocks place Idle)) }

abbrev pub first_taken : BlockTable → BlockTable
first_taken table = taken_at table (position is_untaken table.blocks)

-- A block that gives its call up: the call goes on.
abbrev pub given_up : BlockState → BlockState
given_up (Active running) = Aborted running
given_up state = state

-- A block whose call ends: it is ready where it awaits the call, and idle where it gave it up.
abbrev pub call_ended : MstrResult → BlockState → BlockState
call_ended result (Active running) = Ready running.kept result
call_ended result (Aborted running) = Idle
call_ended result state = state

-- A block after the taken call of this name ends with a result; other blocks stay as they are.
abbrev pub with_result : CallId → MstrResult → BlockState → BlockState
with_result id result state = if is_awaited id state then call_ended result state else state

abbrev pub finished : CallId → MstrResult → BlockTable → BlockTable
finished id result table =
    record table { blocks = map (with_result id result) table.blocks }

-- A block as its controller loses power: one that waits for a path, or has a result that it was not
-- solved with, is idle; one that awaits its call gives it up, whether or not the call was taken.
abbrev pub power_lost : BlockState → BlockState
power_lost Idle = Idle
power_lost Waiting = Idle
power_lost (Active running) = Aborted running
power_lost (Aborted running) = Aborted running
power_lost (Ready kept result) = Idle

-- The table after a power failure: the paths keep their numbers.
abbrev pub power_failed : BlockTable → BlockTable
power_failed table = record table { blocks = map power_lost table.blocks }

-- A path has given its last number.
abbrev pub is_spent : BlockTable → ℕ → Bool
is_spent table path = nat_le last_call_number (get_or table.numbers path 0)

-- A path is busy while a call runs on it, whether or not its block awaits it, and once it is spent.
abbrev pub runs_on : ℕ → BlockState → Bool
runs_on path state = runs_such (λ running. running.id.path == path) state

abbrev pub is_free : BlockTable → ℕ → Bool
is_free table path = not (is_spent table path) && not (list_any (runs_on path) table.blocks)

-- The path of a call: the least free one for a call by the network, else path 0.
abbrev pub path_for : BlockTable → Operation → Option ℕ
path_for table operation =
    if uses_network operation then find (is_free table) network_paths
    else (if is_spent table own_path then None else Some own_path)

-- The name of the next call of a path.
abbrev pub next_call : BlockTable → ℕ → CallId
next_call table path =
    record { node = table.node; path = path; seq = get_or table.numbers path 0 + 1 }

-- The path has a number left.
pub record CanGive (table : BlockTable) (at : ℕ) : Type 0 where
  pub path : at < path_places
  pub number : get_or table.numbers at 0 < last_call_number

-- Blocks are numbered from 1 on.
abbrev pub IsBlock : BlockTable → ℕ → Type 0
IsBlock table block = (1 ≤ block) × (block ≤ length table.blocks)

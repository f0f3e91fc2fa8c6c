-- What stays true of the calls of a table. This project's own.
use Rattle.std.specs.Prelude.{◌≡◌, ◌⊎◌, ℕ, ◌≤◌, ◌<◌, Bool, ◌||◌, true, false, [], length, get_or}
use Rattle.std.specs.Prelude.{map, drop, is_some}
use Rattle.std.specs.List.{list_any, slice_get}
use Rattle.plant_types.specs.declared.power.NodePower.{NodePower}
use Rattle.plant_types.specs.Store.{Contents}
use Rattle.mstr_block.specs.declared.call.CallId.{CallId}
use Rattle.mstr_block.specs.declared.call.MstrResult.{MstrResult}
use Rattle.mstr_block.specs.declared.site.Site.{Site}
use Rattle.mstr_block.specs.declared.state.Running.{Running}
use Rattle.mstr_block.specs.Call.{is_same_call}
use Rattle.mstr_block.specs.Table.{BlockTable, idle_table, call_taken, is_taken_out, has_untaken}
use Rattle.mstr_block.specs.Table.{started_calls, first_taken, finished, power_failed}
use Rattle.mstr_block.specs.Running.{RunsAt, IsTable}
use Rattle.mstr_block.specs.Solve.{block_solved}

-- A table of the same station and as many blocks: where a call was started and not taken, there
-- still is one; and a call that is out is still out.
pub record KeepsCalls (before after : BlockTable) : Type 0 where
  pub node : after.node ≡ before.node
  pub routed : after.routed ≡ before.routed
  pub count : length after.blocks ≡ length before.blocks
  pub started : has_untaken before ≡ true → has_untaken after ≡ true
  pub out : (id : CallId) → is_taken_out before id ≡ true → is_taken_out after id ≡ true

-- A solve keeps these.
abbrev pub SolvesKeepCalls : Type 0
SolvesKeepCalls = (table : BlockTable) (block : ℕ) (site : Site) (inputs : NodePower) (m : Contents)
    → KeepsCalls table (block_solved table block site inputs m).table

-- A call that ends is out no more; every other call is still out, and so is what was not taken.
pub record EndsOneCall (before after : BlockTable) (id : CallId) : Type 0 where
  pub started : has_untaken after ≡ has_untaken before
  pub gone : is_taken_out after id ≡ false
  pub out : (other : CallId) → is_same_call other id ≡ false
      → is_taken_out after other ≡ is_taken_out before other

abbrev pub FinishesEndOneCall : Type 0
FinishesEndOneCall = (table : BlockTable) (id : CallId) (result : MstrResult)
    → EndsOneCall table (finished id result table) id

-- The table after all of the started calls are taken.
abbrev pub collected : BlockTable → BlockTable
collected table = record table { blocks = map call_taken table.blocks }

-- The started calls are taken in block order, until all are; then they are out too.
pub record TakesInOrder (table : BlockTable) : Type 0 where
  pub any : has_untaken table ≡ is_some (slice_get (started_calls table) 0)
  pub rest : started_calls (first_taken table) ≡ drop 1 (started_calls table)
  pub same : collected (first_taken table) ≡ collected table
  pub all : started_calls table ≡ [] → collected table ≡ table
  pub out : (id : CallId) → is_taken_out (collected table) id
      ≡ (is_taken_out table id || list_any (λ call. is_same_call call.id id) (started_calls table))

abbrev pub CallsAreTakenInOrder : Type 0
CallsAreTakenInOrder = (table : BlockTable) → TakesInOrder table

-- No path's number falls; and a block runs the very call that it ran before, or a call that was not
-- taken yet, whose number is above all that its path gave before.
pub record GivesNewNumbers (before after : BlockTable) : Type 0 where
  pub rises : (path : ℕ) → get_or before.numbers path 0 ≤ get_or after.numbers path 0
  pub new : (place : ℕ) (running : Running) → RunsAt after place running
      → RunsAt before place running
      ⊎ ((get_or before.numbers running.id.path 0 < running.id.seq) × (is_some running.ask ≡ true))

abbrev pub SolvesGiveNewNumbers : Type 0
SolvesGiveNewNumbers =
    (table : BlockTable) (block : ℕ) (site : Site) (inputs : NodePower) (m : Contents)
    → GivesNewNumbers table (block_solved table block site inputs m).table

-- A power failure starts, takes and ends no call: those that were not taken are the same in the same
-- order, those that are out are the same, and no path gives a number.
pub record PowerFailuresKeepCalls : Type 0 where
  pub keeps : (table : BlockTable) → KeepsCalls table (power_failed table)
  pub started : (table : BlockTable) → started_calls (power_failed table) ≡ started_calls table
  pub out : (table : BlockTable) (id : CallId)
      → is_taken_out (power_failed table) id ≡ is_taken_out table id
  pub new : (table : BlockTable) → GivesNewNumbers table (power_failed table)

-- A bank begins with such a table, and each of its calls leaves such a table.
pub record StaysTable : Type 0 where
  pub idle : (node : ℕ) (routed : Bool) (count : ℕ) → IsTable (idle_table node routed count)
  pub solved : (table : BlockTable) (block : ℕ) (site : Site) (inputs : NodePower) (m : Contents)
      → IsTable table → IsTable (block_solved table block site inputs m).table
  pub taken : (table : BlockTable) → IsTable table → IsTable (first_taken table)
  pub finished : (table : BlockTable) (id : CallId) (result : MstrResult) → IsTable table
      → IsTable (finished id result table)
  pub failed : (table : BlockTable) → IsTable table → IsTable (power_failed table)

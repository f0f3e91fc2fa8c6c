-- What a solve does to a table: the four ways in which it may change.
use Rattle.std.proofs.Common.{◌≡◌, ℕ, Bool, true, false, Option, Some, None, List, length, Result}
use Rattle.std.proofs.Common.{Ok, Err, refl, ap}
use Rattle.std.specs.Prelude.{if◌then◌else◌, ◌&&◌, not}
use Rattle.plant_types.specs.declared.power.NodePower.{NodePower}
use Rattle.plant_types.specs.Store.{Contents, words_from}
use Rattle.plant_types.proofs.RunLemmas.{length-words_from}
use Rattle.mstr_block.specs.declared.control.Control.{Control}
use Rattle.mstr_block.specs.declared.operation.Operation.{Operation}
use Rattle.mstr_block.specs.declared.site.Site.{Site}
use Rattle.mstr_block.specs.declared.state.Running.{Running}
use Rattle.mstr_block.specs.declared.state.BlockState.{BlockState}
use Rattle.mstr_block.specs.declared.state.BlockState.TheVariants.{Idle, Waiting, Active, Aborted}
use Rattle.mstr_block.specs.declared.state.BlockState.TheVariants.{Ready}
use Rattle.mstr_block.specs.Control.{control_block_of, start_of}
use Rattle.mstr_block.specs.Table.{BlockTable, block_state, with_state, running_in, path_for}
use Rattle.mstr_block.specs.Solve.{Solved, launched, start_by, solved_in, block_solved}
use Rattle.mstr_block.proofs.Passing.{Passes, passes}

-- a state that follows any that runs no call: no call runs in it, and nothing is kept
pub data IsResting : BlockState → Type 0 where
  idle : IsResting Idle
  waiting : IsResting Waiting

pub data Step (table : BlockTable) (block : ℕ) : BlockTable → Type 0 where
  stays : Step table block table
  rests : (s : BlockState) → running_in (block_state table block) ≡ None → IsResting s
      → Step table block (with_state table block s)
  gives_up : (r : Running) → block_state table block ≡ Active r
      → Step table block (with_state table block (Aborted r))
  launches : (op : Operation) (control : Control) (words : List ℕ) (path : ℕ)
      → running_in (block_state table block) ≡ None → path_for table op ≡ Some path
      → Passes table.routed table.node op control → length words ≡ control.length
      → Step table block (launched table block op control words (Some path))

module _ (table : BlockTable) (block : ℕ) (site : Site) (m : Contents) where
  at_if : (b : Bool) (x y : Solved) → Step table block x.table → Step table block y.table
      → Step table block (if b then x else y).table
  at_if true x y one other = one
  at_if false x y one other = other

  at_launch : (op : Operation) (control : Control) (words : List ℕ) (o : Option ℕ)
      → running_in (block_state table block) ≡ None → path_for table op ≡ o
      → Passes table.routed table.node op control → length words ≡ control.length
      → Step table block (launched table block op control words o)
  at_launch op control words None none e passed long = rests Waiting none waiting
  at_launch op control words (Some path) none e passed long =
      launches op control words path none e passed long

  at_start : (o : Result Operation ℕ)
      → start_of table.routed table.node site.room (control_block_of m site.control) ≡ o
      → running_in (block_state table block) ≡ None
      → Step table block (start_by table block site m o).table
  at_start (Err word) e none = rests Idle none idle
  at_start (Ok op) e none =
      let control = control_block_of m site.control in
      at_launch op control (words_from m site.area control.length) (path_for table op) none refl
      (passes table.routed table.node site.room control op e)
      (length-words_from m site.area control.length)

  at_state : (inputs : NodePower) (s : BlockState) → block_state table block ≡ s
      → Step table block (solved_in s table block site inputs m).table
  at_state inputs Idle e =
      at_if (inputs.top && not inputs.middle) _ _ (at_start (start_of table.routed table.node
      site.room (control_block_of m site.control)) refl (ap running_in e)) stays
  at_state inputs Waiting e =
      at_if inputs.middle _ _ (rests Idle (ap running_in e) idle)
      (at_start (start_of table.routed table.node site.room
      (control_block_of m site.control)) refl (ap running_in e))
  at_state inputs (Active r) e = at_if inputs.middle _ _ (gives_up r e) stays
  at_state inputs (Aborted r) e = stays
  at_state inputs (Ready kept result) e = rests Idle (ap running_in e) idle

pub step_of : (table : BlockTable) (block : ℕ) (site : Site) (inputs : NodePower) (m : Contents)
    → Step table block (block_solved
    table block site inputs m).table
unfolding block_solved
step_of table block site inputs m =
    at_state table block site m inputs (block_state table block) refl

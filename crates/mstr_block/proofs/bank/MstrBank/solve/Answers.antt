use Rattle.std.proofs.Common.{subst, sym}
use Rattle.mstr_block.specs.Running.{IsTable}
use Rattle.mstr_block.proofs.Launching.{stays-table}
use Rattle.mstr_block.proofs.bank.MstrBank.solve.Goals as goal

pub invariant_of-self : goal.invariant_of-self
invariant_of-self g c =
    subst IsTable (sym c.solve.ensures.table) (stays-table.solved _ _ _ _ _ c.self.invariant)

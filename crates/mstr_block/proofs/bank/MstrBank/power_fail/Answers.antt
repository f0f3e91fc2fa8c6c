use Rattle.std.proofs.Common.{subst, sym}
use Rattle.mstr_block.specs.Running.{IsTable}
use Rattle.mstr_block.proofs.Names.{failed-stays}
use Rattle.mstr_block.proofs.bank.MstrBank.power_fail.Goals as goal

pub invariant_of-self : goal.invariant_of-self
invariant_of-self c =
    subst IsTable (sym c.power_fail.ensures) (failed-stays _ c.self.invariant)

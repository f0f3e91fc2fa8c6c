use Rattle.std.proofs.Common.{subst, sym}
use Rattle.mstr_block.specs.Running.{IsTable}
use Rattle.mstr_block.proofs.Names.{finished-stays}
use Rattle.mstr_block.proofs.bank.MstrBank.finish.Goals as goal

pub invariant_of-self : goal.invariant_of-self
invariant_of-self c = subst IsTable (sym c.finish.ensures)
    (finished-stays _ c.args.id c.args.outcome c.self.invariant)

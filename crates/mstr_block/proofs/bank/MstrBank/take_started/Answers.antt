use Rattle.std.proofs.Common.{subst, sym}
use Rattle.std.specs.Prelude.{IfSome}
use Rattle.mstr_block.specs.Table.{BlockTable}
use Rattle.mstr_block.specs.Running.{IsCall, IsTable}
use Rattle.mstr_block.proofs.Calling.{calls-first}
use Rattle.mstr_block.proofs.Launching.{stays-table}
use Rattle.mstr_block.proofs.bank.MstrBank.take_started.Goals as goal

pub invariant_of-self : goal.invariant_of-self
invariant_of-self c =
    subst IsTable (sym c.take_started.ensures.taken) (stays-table.taken _ c.self.invariant)

pub returns-clause-table : goal.returns-clause-table
returns-clause-table c =
    subst IsTable (sym c.take_started.ensures.taken) (stays-table.taken _ c.self.invariant)

pub returns-clause-named : goal.returns-clause-named
returns-clause-named c =
    subst (λ (table : BlockTable). IfSome c.take_started.result (IsCall table.routed table.node))
    c.self.view_is
    (calls-first _ c.self.invariant 0 _ c.take_started.ensures.call)

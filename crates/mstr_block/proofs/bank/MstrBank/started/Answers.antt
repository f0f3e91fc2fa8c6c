use Rattle.std.proofs.Common.{subst}
use Rattle.std.specs.Prelude.{◌==◌, ◌-◌, IfSome}
use Rattle.mstr_block.specs.Table.{BlockTable}
use Rattle.mstr_block.specs.Running.{IsCall}
use Rattle.mstr_block.proofs.Calling.{calls-kth}
use Rattle.mstr_block.proofs.bank.MstrBank.started.Goals as goal

pub returns-clause-named : goal.returns-clause-named
returns-clause-named c =
    subst (λ (table : BlockTable). IfSome c.started.result (IsCall table.routed table.node))
    c.self.view_is
    (calls-kth _ c.self.invariant (c.args.k - 1) (c.args.k == 0) _ c.started.ensures)

use Rattle.std.proofs.Common.{get_or, Some, None, sym, ap, ◌∙◌}
use Rattle.mstr_block.specs.declared.state.BlockState.TheVariants.{Idle}
use Rattle.mstr_block.specs.Table.{BlockTable, untaken}
use Rattle.mstr_block.proofs.Untaken.{first_started}
use Rattle.mstr_block.proofs.blocks.Blocks.take_started.Goals as goal

pub returns-in-None-clause-call : goal.returns-in-None-clause-call
returns-in-None-clause-call c =
    sym (first_started c.args.self.now Idle None (sym c.in-None.is ∙ c.next_untaken.ensures))

pub returns-in-Some-clause-call : goal.returns-in-Some-clause-call
returns-in-Some-clause-call c =
    let block = c.index_mut.result.now in
    let place = c.in-Some.place in
    c.take.ensures.call ∙ ap untaken (c.index_mut.ensures.value
    ∙ ap (λ (table : BlockTable). get_or table.blocks place block) c.self.view_is)
    ∙ sym (first_started c.args.self.now block (Some place)
    (sym c.in-Some.is ∙ c.next_untaken.ensures))

use Rattle.std.proofs.Common.{◌≡◌, ◌++◌, map, take, drop}
use Rattle.mstr_block.specs.Table.{with_result}
use Rattle.mstr_block.proofs.blocks.Blocks.finish.Given as goal

abbrev pub invariant-loop-block : goal.invariant-loop-block
invariant-loop-block l =
    l.block-items ≡ map (with_result l.id l.outcome) (take l.block-index l.initial.block-items)
    ++ drop l.block-index l.initial.block-items

use Rattle.std.proofs.Common.{◌≡◌, ◌++◌, map, take, drop}
use Rattle.mstr_block.specs.Table.{power_lost}
use Rattle.mstr_block.proofs.blocks.Blocks.power_fail.Given as goal

abbrev pub invariant-loop-block : goal.invariant-loop-block
invariant-loop-block l =
    l.block-items ≡ map power_lost (take l.block-index l.initial.block-items)
    ++ drop l.block-index l.initial.block-items

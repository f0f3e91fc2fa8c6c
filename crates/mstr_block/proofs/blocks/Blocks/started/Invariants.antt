use Rattle.std.proofs.Common.{◌≡◌, ◌-◌, drop}
use Rattle.std.specs.List.{filter_map, slice_get}
use Rattle.mstr_block.specs.Table.{untaken}
use Rattle.mstr_block.proofs.blocks.Blocks.started.Given as goal

abbrev pub invariant-loop-block : goal.invariant-loop-block
invariant-loop-block l =
    slice_get (filter_map untaken l.block-items) (l.k - 1)
    ≡ slice_get (filter_map untaken (drop l.block-index l.block-items)) l.left

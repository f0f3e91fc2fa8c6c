use Rattle.std.proofs.Common.{◌≡◌, replicate}
use Rattle.mstr_block.specs.declared.state.BlockState.TheVariants.{Idle}
use Rattle.mstr_block.proofs.blocks.idle_blocks.Given as goal

abbrev pub invariant-loop : goal.invariant-loop
invariant-loop l = l.blocks.items ≡ replicate l.counter Idle

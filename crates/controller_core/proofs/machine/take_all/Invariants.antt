use Rattle.std.proofs.Common.{◌≡◌, length}
use Rattle.mstr_block.specs.Laws.{collected}
use Rattle.mstr_block.specs.Table.{started_calls}
use Rattle.controller_core.proofs.machine.take_all.Given as goal

abbrev pub invariant-loop : goal.invariant-loop
invariant-loop l = collected l.bank ≡ collected l.initial.bank

abbrev pub decreases-loop : goal.decreases-loop
decreases-loop l = length (started_calls l.bank)

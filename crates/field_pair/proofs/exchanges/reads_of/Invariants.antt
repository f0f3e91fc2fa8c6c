use Rattle.std.proofs.Common.{◌≡◌, map, take}
use Rattle.field_pair.specs.Choices.{read_at}
use Rattle.field_pair.proofs.exchanges.reads_of.Given as goal

abbrev pub invariant-loop-row : goal.invariant-loop-row
invariant-loop-row l =
    l.reads.items ≡ map (read_at l.plan.drops) (take l.row-index l.plan.orders)

use Rattle.std.proofs.Common.{◌≡◌, ◌++◌, drop}
use Rattle.std.specs.List.{filter_map}
use Rattle.cone_of.specs.Growing.{forced_by}
use Rattle.cone_of.proofs.growing.put_forced.Given as goal

abbrev pub invariant-loop-row : goal.invariant-loop-row
invariant-loop-row l =
    l.refs.items ++ filter_map (λ row. row.control) (drop l.row-index l.orders)
    ≡ forced_by l.fn.of l.orders

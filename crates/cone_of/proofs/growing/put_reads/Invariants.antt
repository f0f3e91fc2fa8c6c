use Rattle.std.proofs.Common.{◌≡◌, ◌++◌, drop}
use Rattle.std.specs.List.{flat_map}
use Rattle.cone_of.specs.Uses.{read_by}
use Rattle.cone_of.proofs.growing.put_reads.Given as goal

abbrev pub invariant-loop-cell : goal.invariant-loop-cell
invariant-loop-cell l =
    l.refs.items ++ flat_map (λ cell. read_by cell.element) (drop l.cell-index l.cell-items)
    ≡ flat_map (λ cell. read_by cell.element) l.cell-items

use Rattle.std.proofs.Common.{◌≡◌, drop}
use Rattle.std.specs.List.{list_any}
use Rattle.cone_of.specs.Uses.{matters_to}
use Rattle.cone_of.proofs.cone.Cone.network_matters.Given as goal

abbrev pub invariant-loop-cell : goal.invariant-loop-cell
invariant-loop-cell l =
    list_any (λ cell. matters_to l.self cell.element) (drop l.cell-index l.cell-items)
    ≡ list_any (λ cell. matters_to l.self cell.element) l.cell-items

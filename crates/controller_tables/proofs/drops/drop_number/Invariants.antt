use Rattle.std.proofs.Common.{◌≡◌, drop}
use Rattle.controller_tables.specs.Orders.{drop_number}
use Rattle.controller_tables.proofs.drops.drop_number.Given as goal

-- the first of the drops left that has the number is the first of all
abbrev pub invariant-loop-found : goal.invariant-loop-found
invariant-loop-found l =
    drop_number (drop l.found-index l.drops) l.number ≡ drop_number l.drops l.number

use Rattle.std.proofs.Common.{◌≡◌, drop}
use Rattle.std.specs.Prelude.{is_some}
use Rattle.traffic_cop.specs.Drops.{drop_named}
use Rattle.traffic_cop.proofs.checking.is_named.Given as goal

-- whether one of the drops left has the number
abbrev pub invariant-loop-found : goal.invariant-loop-found
invariant-loop-found l = is_some (drop_named (drop l.found-index l.drops) l.number)
    ≡ is_some (drop_named l.drops l.number)

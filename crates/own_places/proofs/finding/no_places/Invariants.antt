use Rattle.std.proofs.Common.{◌≡◌, [], replicate}
use Rattle.own_places.proofs.finding.no_places.Given as goal

abbrev pub invariant-loop : goal.invariant-loop
invariant-loop l =
    l.lists.items ≡ replicate l.counter []

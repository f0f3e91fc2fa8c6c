use Rattle.std.proofs.Common.{take}
use Rattle.own_places.specs.Places.{ArePlaces}
use Rattle.own_places.proofs.finding.all_places.Given as goal

abbrev pub invariant-loop-place : goal.invariant-loop-place
invariant-loop-place l = ArePlaces (take l.place l.ring) l.lists.items

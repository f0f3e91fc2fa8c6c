use Rattle.std.proofs.Common.{◌≡◌, ◌++◌, drop}
use Rattle.std.specs.Prelude.{filter}
use Rattle.field_machine.specs.Narrow.{does_not_matter}
use Rattle.field_machine.proofs.narrow.apart_of.Given as goal

abbrev pub invariant-loop-place : goal.invariant-loop-place
invariant-loop-place l =
    l.apart.items ++ filter (does_not_matter l.cone l.segments) (drop l.place-index l.places)
    ≡ filter (does_not_matter l.cone l.segments) l.places

use Rattle.std.proofs.Common.{◌≡◌, ◌==◌, drop}
use Rattle.std.specs.List.{position_from}
use Rattle.plant_types.specs.Store.{words_from}
use Rattle.table_ops.specs.Tables.{first_place}
use Rattle.table_ops.proofs.searching.place_of.Given as goal

abbrev pub invariant-loop-place : goal.invariant-loop-place
invariant-loop-place g l =
    position_from (λ word. word == l.value) l.place
    (drop l.place (words_from (g.R.RefStore.contents l.ram) l.table l.length))
    ≡ first_place l.start l.value (words_from (g.R.RefStore.contents l.ram) l.table l.length)

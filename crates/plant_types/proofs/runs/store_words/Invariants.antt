use Rattle.std.proofs.Common.{◌≡◌, take}
use Rattle.plant_types.specs.Store.{with_words}
use Rattle.plant_types.proofs.runs.store_words.Given as goal

abbrev pub invariant-loop-i : goal.invariant-loop-i
invariant-loop-i g l = g.R.RefStore.contents l.ram
    ≡ with_words (g.R.RefStore.contents l.initial.ram) l.at (take l.i l.words)

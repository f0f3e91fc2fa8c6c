use Rattle.std.proofs.Common.{◌≡◌, ℕ, ◌<◌, get_or}
use Rattle.plant_types.specs.Reference.{ref_from}
use Rattle.plant_types.specs.Store.{word_at}
use Rattle.plant_types.proofs.runs.load_words.Given as goal

abbrev pub invariant-loop-i : goal.invariant-loop-i
invariant-loop-i g l = (k : ℕ) → k < l.i
    → get_or l.words k 0 ≡ word_at (g.R.RefStore.contents l.ram) (ref_from l.at k)

use Rattle.std.proofs.Common.{◌≡◌, ℕ, ◌<◌, ◌≤◌, get_or}
use Rattle.std.specs.Int.{bit_not, w16}
use Rattle.matrix_ops.proofs.combining.invert_words.Given as goal

abbrev pub invariant-loop-word : goal.invariant-loop-word
invariant-loop-word l =
    ((k : ℕ) → k < l.word-index → get_or l.words k 0 ≡ bit_not w16 (get_or l.initial.words k 0))
    × ((k : ℕ) → l.word-index ≤ k → get_or l.words k 0 ≡ get_or l.initial.words k 0)

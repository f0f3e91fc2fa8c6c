use Rattle.std.proofs.Common.{◌≡◌, ℕ, ◌<◌, ◌≤◌, get_or}
use Rattle.matrix_ops.specs.Rule.{rule_of}
use Rattle.matrix_ops.proofs.combining.combine_words.Given as goal

abbrev pub invariant-loop-i : goal.invariant-loop-i
invariant-loop-i l =
    ((k : ℕ) → k < l.i
    → get_or l.words k 0 ≡ rule_of l.rule (get_or l.initial.words k 0) (get_or l.others k 0))
    × ((k : ℕ) → l.i ≤ k → get_or l.words k 0 ≡ get_or l.initial.words k 0)

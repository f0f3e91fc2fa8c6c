-- What is counted of rings one after another.
use Rattle.std.proofs.Common.{◌≡◌, ◌+◌, ℕ, cond, List, [], ◌∷◌, refl, sym, ap, ◌∙◌, arith}
use Rattle.std.specs.List.{count_by, sum_by}
use Rattle.std.proofs.lemmas.List.Sums.{sum_by-append, sum_by-cons}
use Rattle.ring_core.specs.declared.entry.RingEntry.{RingEntry}
use Rattle.joint_history.specs.declared.joint.RingLog.{RingLog}
use Rattle.joint_history.specs.Complete.{is_pass}
use Rattle.joint_history.specs.Nets.{entries_of_rings}

-- how often the token of each ring was passed on
abbrev pub passes_by_ring : List RingLog → ℕ
passes_by_ring rings = sum_by (λ ring. count_by is_pass ring.entries) rings

-- that is how many such entries all rings have
pub passes_are : (rings : List RingLog)
    → passes_by_ring rings ≡ count_by is_pass (entries_of_rings rings)
passes_are [] = refl
passes_are (ring ∷ []) = omega arith
passes_are (ring ∷ next ∷ rings) =
    sum_by-cons (λ (r : RingLog). count_by is_pass r.entries) ring (next ∷ rings)
    ∙ ap (λ n. count_by is_pass ring.entries + n) (passes_are (next ∷ rings))
    ∙ sym (sum_by-append (λ (e : RingEntry). cond (is_pass e) 1 0) ring.entries
    (entries_of_rings (next ∷ rings)))

-- The entries of rings, ring by ring.
use Rattle.std.proofs.Common.{◌≡◌, ℕ, suc, ◌<◌, ◌+◌, List, [], ◌∷◌, ◌++◌, length, get_or, take}
use Rattle.std.proofs.Common.{refl, sym, ap, ◌∙◌, append_assoc, arith}
use Rattle.std.proofs.Math.Seq.{take-suc}
use Rattle.ring_core.specs.declared.entry.RingEntry.{RingEntry}
use Rattle.joint_history.specs.declared.joint.RingLog.{RingLog}
use Rattle.joint_history.specs.Nets.{entries_of_rings}

entries-push : (rings : List RingLog) (ring : RingLog)
    → entries_of_rings (rings ++ ring ∷ []) ≡ entries_of_rings rings ++ ring.entries
entries-push [] ring = refl
entries-push (one ∷ []) ring = refl
entries-push (one ∷ next ∷ rings) ring =
    ap (λ l. one.entries ++ l) (entries-push (next ∷ rings) ring)
    ∙ sym (append_assoc one.entries (entries_of_rings (next ∷ rings)) ring.entries)

-- those of so many rings, and then of the next one
pub entries-next : (rings : List RingLog) (k : ℕ) (ring : RingLog)
    (noted before entries : List RingEntry) → k < length rings → ring ≡ get_or rings k ring
    → before ≡ entries_of_rings (take k rings) → entries ≡ ring.entries
    → noted ≡ before ++ entries → noted ≡ entries_of_rings (take (k + 1) rings)
entries-next rings k ring noted before entries low is was are now =
    let one_more : suc k ≡ k + 1 = omega arith in
    now ∙ (λ i. was i ++ are i) ∙ sym (entries-push (take k rings) ring)
    ∙ ap (λ r. entries_of_rings (take k rings ++ r ∷ [])) is
    ∙ ap entries_of_rings (sym (take-suc rings k ring low))
    ∙ ap (λ n. entries_of_rings (take n rings)) one_more

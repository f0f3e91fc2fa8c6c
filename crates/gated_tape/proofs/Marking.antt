-- Marks that a put adds, and what is legal then.
use Rattle.std.proofs.Common.{◌≡◌, ℕ, zero, suc, ◌+◌, ◌<◌, ◌==◌, eqb, cond, Bool, true, false, List}
use Rattle.std.proofs.Common.{[], ◌∷◌, ◌++◌, All, length, Result, Ok, Err, refl, sym, ap, ◌∙◌}
use Rattle.std.proofs.Common.{arith, eqb-true, length-append, add-one}
use Rattle.std.proofs.lemmas.List.{append-nil}
use Rattle.std.proofs.lemmas.List.Elements.{filter-append}
use Rattle.turn_gate.specs.Known.{made_by}
use Rattle.gated_tape.specs.declared.tapes.Mark.{Mark}
use Rattle.gated_tape.specs.Marks.{mark, node_of, added_on, mark_count, marks_up_to, IsNext}
use Rattle.gated_tape.specs.Marks.{IsLegalTape}

-- the own entries of two lists together
pub own-append : {E : Type 0} (maker : E → ℕ) (n : ℕ) (xs ys : List E)
    → made_by maker n (xs ++ ys) ≡ made_by maker n xs ++ made_by maker n ys
own-append maker n xs ys = filter-append (λ e. maker e == n) xs ys

-- what a put adds names the node of its mark
pub all_added : {T X : Type 0} (r : Result T X) (node word : ℕ)
    → All (λ e. node_of e ≡ node) (added_on r (mark node word))
all_added (Ok x) node word zero d low = refl
all_added (Ok x) node word (suc k) d low = absurd (omega arith)
all_added (Err x) node word k d low = absurd (omega arith)

-- no mark is legal
pub legal-nil : (limit : ℕ) → IsLegalTape limit []
unfolding marks_up_to
legal-nil limit = record { fits = omega arith; counts_up = λ node. refl }

-- one mark more, whose word is the next
pub legal-put : (limit node word : ℕ) (marks : List Mark) → length marks < limit
    → IsNext node word marks → IsLegalTape limit marks
    → IsLegalTape limit (marks ++ mark node word ∷ [])
unfolding marks_up_to
legal-put limit node word marks low next legal = record {
  fits = let longer : length (marks ++ mark node word ∷ []) ≡ length marks + 1 =
      length-append marks (mark node word ∷ []) in omega arith;
  counts_up = λ n. up n (eqb node n) refl;
}
  where
    up : (n : ℕ) (b : Bool) → eqb node n ≡ b → made_by node_of n (marks ++ mark node word ∷ [])
        ≡ marks_up_to n (mark_count n (marks ++ mark node word ∷ []))
    up n true is =
        let same : node ≡ n = eqb-true node n is in
        let grown : made_by node_of n (marks ++ mark node word ∷ [])
        ≡ made_by node_of n marks ++ mark node word ∷ [] =
        own-append node_of n marks (mark node word ∷ [])
        ∙ ap (λ b. made_by node_of n marks ++ cond b (mark node word ∷ []) []) is in
        let count : mark_count n (marks ++ mark node word ∷ []) ≡ suc (mark_count n marks) =
        ap length grown ∙ (length-append (made_by node_of n marks) (mark node word ∷ [])
        ∙ add-one (mark_count n marks)) in
        let word_is : word ≡ mark_count n marks = sym next ∙ ap (λ m. mark_count m marks) same in
        grown ∙ ((λ i. legal.counts_up n i ++ mark (same i) (word_is i) ∷ [])
        ∙ ap (marks_up_to n) (sym count))
    up n false is =
        let still : made_by node_of n (marks ++ mark node word ∷ []) ≡ made_by node_of n marks =
        own-append node_of n marks (mark node word ∷ []) ∙ (ap
        (λ b. made_by node_of n marks ++ cond b (mark node word ∷ []) []) is ∙ append-nil _) in
        still ∙ (legal.counts_up n ∙ ap (λ l. marks_up_to n (length l)) (sym still))

-- Values that are read one after the other, as a loop does.
use Rattle.std.proofs.Common.{◌≡◌, ℕ, true, false, inl, inr, List, [], ◌∷◌, ◌++◌, Option, Some}
use Rattle.std.proofs.Common.{None, refl, sym, ap, subst, ◌∙◌, append_assoc}
use Rattle.std.specs.Prelude.{◌==◌}
use Rattle.std.specs.List.{slice_split}
use Rattle.journal_reading.specs.declared.cutting.LineFault.{LineFault}
use Rattle.journal_reading.specs.declared.cutting.LineFault.TheVariants as faults
use Rattle.journal_reading.specs.Reading.{◌>>=◌, Refuses, cut, read_parts}
use Rattle.journal_reading.proofs.Ranges.{chosen}
use Rattle.journal_reading.proofs.Cuts.{some_is, bind_some, bind_none, none_some}

abbrev pieces : ℕ → List ℕ → List (List ℕ)
pieces at text = slice_split (λ byte. byte == at) text

-- a first such byte parts off the first piece; without one there is one piece
split_first : (at b : ℕ) (bs : List ℕ) (parts : List ℕ × List ℕ) → (b == at) ≡ true
    → ([], bs) ≡ parts → pieces at (b ∷ bs) ≡ parts.0 ∷ pieces at parts.1
split_first at b bs parts is e =
    subst (λ (p : List ℕ × List ℕ). pieces at (b ∷ bs) ≡ p.0 ∷ pieces at p.1) e (rw is refl)

split_later : (at b : ℕ) (bs : List ℕ) (r parts : List ℕ × List ℕ) → (b == at) ≡ false
    → pieces at bs ≡ r.0 ∷ pieces at r.1 → (b ∷ r.0, r.1) ≡ parts
    → pieces at (b ∷ bs) ≡ parts.0 ∷ pieces at parts.1
split_later at b bs r parts is more e =
    subst (λ (p : List ℕ × List ℕ). pieces at (b ∷ bs) ≡ p.0 ∷ pieces at p.1) e
    (rw (is, more) refl)

split_cut : (at : ℕ) (text : List ℕ) (parts : List ℕ × List ℕ) → cut at text ≡ Some parts
    → pieces at text ≡ parts.0 ∷ pieces at parts.1
unfolding cut
split_cut at [] parts e = none_some (pieces at [] ≡ parts.0 ∷ pieces at parts.1) parts e
split_cut at (b ∷ bs) parts e =
    elim (chosen (b == at) (Some ([], bs)) (cut at bs >>= λ p. Some (b ∷ p.0, p.1))
    (Some parts) e) [
      | inl first ↦ split_first at b bs parts first.0 (some_is ([], bs) parts first.1)
      | inr later ↦
          let r = bind_some (cut at bs) (λ p. Some (b ∷ p.0, p.1)) parts later.1 in
          split_later at b bs r.0 parts later.0 (split_cut at bs r.0 r.1)
          (some_is (b ∷ r.0.0, r.0.1) parts r.2)
    ]

split_uncut : (at : ℕ) (text : List ℕ) → cut at text ≡ None → pieces at text ≡ text ∷ []
unfolding cut
split_uncut at [] e = refl
split_uncut at (b ∷ bs) e =
    elim (chosen (b == at) (Some ([], bs)) (cut at bs >>= λ p. Some (b ∷ p.0, p.1)) None e) [
      | inl first ↦ absurd cc
      | inr later ↦
          rw (later.0, split_uncut at bs (bind_none (cut at bs) (λ p. (b ∷ p.0, p.1)) later.1))
          refl
    ]

-- what was read before, and what is still read
abbrev pub with_front : {V : Type 0} → List V → Option (List V) → Option (List V)
with_front front read = read >>= λ values. Some (front ++ values)

regroup : {V : Type 0} (front : List V) (value : V) (read : Option (List V)) → with_front front
    (read >>= λ values. Some (value ∷ values)) ≡ with_front (front ++ value ∷ []) read
regroup front value (Some values) =
    ap (λ (vs : List _). Some vs) (sym (append_assoc front (value ∷ []) values))
regroup front value None = refl

module _ {V : Type 0} (read : List ℕ → Option V) (at : ℕ) (front : List V) (text : List ℕ)
    (total : Option (List V)) (so_far : with_front front (read_parts read at text) ≡ total) where
  pub goes_on : (parts : List ℕ × List ℕ) (value : V) → cut at text ≡ Some parts
      → read parts.0 ≡ Some value
      → with_front (front ++ value ∷ []) (read_parts read at parts.1) ≡ total
  goes_on parts value is value_is =
      let one : with_front front (read_parts read at text)
      ≡ with_front (front ++ value ∷ []) (read_parts read at parts.1) =
      rw (split_cut at text parts is, value_is)
      (regroup front value (read_parts read at parts.1)) in
      sym one ∙ so_far

  pub stops : (fault : LineFault) (parts : List ℕ × List ℕ) → cut at text ≡ Some parts
      → Refuses fault (read parts.0) → Refuses fault total
  stops faults.NoMemory parts is refused = tt
  stops faults.Wrong parts is refused =
      let one : with_front front (read_parts read at text) ≡ None =
      rw (split_cut at text parts is, refused) refl in
      sym so_far ∙ one

  pub last_stops : (fault : LineFault) → cut at text ≡ None → Refuses fault (read text)
      → Refuses fault total
  last_stops faults.NoMemory is refused = tt
  last_stops faults.Wrong is refused =
      let one : with_front front (read_parts read at text) ≡ None =
      rw (split_uncut at text is, refused) refl in
      sym so_far ∙ one

  pub is_done : (value : V) → cut at text ≡ None → read text ≡ Some value
      → total ≡ Some (front ++ value ∷ [])
  is_done value is value_is =
      let one : with_front front (read_parts read at text) ≡ Some (front ++ value ∷ []) =
      rw (split_uncut at text is, value_is) refl in
      sym so_far ∙ one

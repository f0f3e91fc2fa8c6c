-- Where an input is cut.
use Rattle.std.proofs.Common.{◌≡◌, ◌≢◌, ◌<◌, ◌≤◌, ◌↔◌, ℕ, List, [], ◌∷◌, ◌++◌, length, Bor}
use Rattle.std.proofs.Common.{nat_eq, slice_index_or, inl, inr, refl, sym, ap, ◌∙◌, arith, ⊎_elim}
use Rattle.std.specs.Prelude.{IsTrue, Option}
use Rattle.std.specs.Option.{MatchOption}
use Rattle.std.proofs.lemmas.Bool.{eq-eqb, eqb-true}
use Rattle.std.proofs.lemmas.List.{append_cancel_left}
use Rattle.input_cuts.specs.Cut.{CanCut, HasMark}

-- an input cannot be cut before a place
abbrev pub NoneBefore : List ℕ → List ℕ → ℕ → Type 0
NoneBefore mark input at = (front back : List ℕ) → front ++ back ≡ input → length front < at
    → ¬ (CanCut mark front back)

-- what stands behind a mark, or that it is not there
abbrev pub Strips : List ℕ → List ℕ → Option (Bor (List ℕ)) → Type 0
Strips mark back found = MatchOption found ((rest : List ℕ) → back ≢ mark ++ rest)
    (λ rest. back ≡ mark ++ rest.now)

-- a mark with nothing behind it
pub mark-alone : (mark back rest : List ℕ) → back ≡ mark ++ rest → length rest < 1
    → HasMark mark back
mark-alone mark back [] line few = record { rest = []; line = line; ends = inl refl }
mark-alone mark back (byte ∷ bytes) line few = absurd (omega (arith, few))

-- a mark with something behind it is a line where that is a line feed
pub mark-line : (mark back rest : List ℕ) → back ≡ mark ++ rest → 1 ≤ length rest
    → IsTrue (nat_eq (slice_index_or rest 0 0) 10) ↔ HasMark mark back
mark-line mark back [] line some = absurd (omega (arith, some))
mark-line mark back (byte ∷ bytes) line some = (
  λ is. record {
    rest = byte ∷ bytes;
    line = line;
    ends = inr (bytes, ap (λ b. b ∷ bytes) (eqb-true byte 10 is));
  },
  λ has.
      let same = append_cancel_left mark (byte ∷ bytes) has.rest (sym line ∙ has.line) in
      ⊎_elim (λ (none : has.rest ≡ []). absurd (empty (same ∙ none)))
      (λ (more : (bytes' : List ℕ) × (has.rest ≡ 10 ∷ bytes')).
      eq-eqb byte 10 (first (same ∙ more.1))) has.ends,
)
  where
    empty : byte ∷ bytes ≡ [] → ⊥
    empty e = cc

    first : {bytes' : List ℕ} → byte ∷ bytes ≡ 10 ∷ bytes' → byte ≡ 10
    first e = cc

-- Where an input is cut into a plant file and what stands after it. This project's own.
use Rattle.std.specs.Prelude.{◌≡◌, ◌⊎◌, ◌<◌, ◌+◌, ℕ, List, [], ◌∷◌, ◌++◌, drop, length}

-- After these bytes a line begins.
abbrev pub StartsLine : List ℕ → Type 0
StartsLine front = (front ≡ []) ⊎ ((before : List ℕ) × (front ≡ before ++ 10 ∷ []))

-- The first line of these bytes is exactly this mark.
pub record HasMark (mark back : List ℕ) : Type 0 where
  pub rest : List ℕ
  pub line : back ≡ mark ++ rest
  pub ends : (rest ≡ []) ⊎ ((more : List ℕ) × (rest ≡ 10 ∷ more))

-- An input may be cut here, before a line that is exactly this mark.
abbrev pub CanCut : List ℕ → List ℕ → List ℕ → Type 0
CanCut mark front back = StartsLine front × HasMark mark back

-- An input is a plant file, and after it what begins with the first line that is exactly this
-- mark; nothing stands there where there is no such line.
pub record IsCutBefore (mark input file back : List ℕ) : Type 0 where
  pub whole : file ++ back ≡ input
  pub begins : (back ≡ []) ⊎ CanCut mark file back
  pub first : (front rest : List ℕ) → front ++ rest ≡ input → length front < length file
      → ¬ (CanCut mark front rest)

-- An input is a plant file, and what stands after the first line that is exactly this mark and its
-- line feed; nothing stands there where one of the two is missing.
pub record IsCutAfter (mark input file rest : List ℕ) : Type 0 where
  pub back : List ℕ
  pub cut : IsCutBefore mark input file back
  pub bytes : rest ≡ drop (length mark + 1) back

-- A flag that is only raised. This project's own.
use Rattle.std.specs.Prelude.{◌≡◌, ◌≤◌, ℕ, [], ◌∷◌}
use mathlib.Core.Option.{some}
use lib.ListN.{get_elem?}
use Rattle.atomic_table.specs.Table.{State, Me, Step}

-- The one word is 0 or 1, and at least what each watch has seen.
pub record NeverLowered (s : State ℕ ℕ) : Type 0 where
  pub word : ℕ
  pub words_are : s.words ≡ word ∷ []
  pub low : word ≤ 1
  pub seen : (j v : ℕ) → get_elem? s.views j ≡ some v → v ≤ word

-- A watch sees the word, which is at least what it saw before.
abbrev pub WatchLooked : Step ℕ → Me ℕ ℕ → ℕ → Me ℕ ℕ → Type 0
WatchLooked st m r m' = (m.0 ≤ r) × (m'.0 ≡ r)

-- A watch knows that the flag is raised.
abbrev pub Raised : Step ℕ → Me ℕ ℕ → ℕ → Me ℕ ℕ → Type 0
Raised st m r m' = m'.0 ≡ 1

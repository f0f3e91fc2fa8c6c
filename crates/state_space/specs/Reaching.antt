-- What the moves of a machine lead to. All of it is this project's own.
use Rattle.std.specs.Prelude.{◌≡◌, ◌<◌, ℕ, suc, List, [], ◌∷◌, Option, Some, None}

-- A number is less than a bound, if there is one.
abbrev pub IsBelow : Option ℕ → ℕ → Type 0
IsBelow None n = Unit {0}
IsBelow (Some bound) n = n < bound

-- The bound of what is at most this limit, if there is one.
abbrev pub up_to : Option ℕ → Option ℕ
up_to None = None
up_to (Some limit) = Some (suc limit)

-- These moves, one after another, lead from a key to another.
abbrev pub LeadBy : ℕ → (List ℕ → ℕ → List ℕ → Type 0) → List ℕ → List ℕ → List ℕ → Type 0
LeadBy count leads from [] to = from ≡ to
LeadBy count leads from (by ∷ path) to =
    (by < count) × ((next : List ℕ) × (leads from by next × LeadBy count leads next path to))

-- These moves lead from a key of the first state to a key.
pub record Reaches (starts : List ℕ → Type 0) (count : ℕ) (leads : List ℕ → ℕ → List ℕ → Type 0)
    (path to : List ℕ) : Type 0 where
  pub first : List ℕ
  pub is_first : starts first
  pub leads_on : LeadBy count leads first path to

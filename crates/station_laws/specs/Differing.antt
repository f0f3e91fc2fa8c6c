-- Where lists break off. This project's own.
use Rattle.std.specs.Prelude.{◌≡◌, ◌≢◌, ℕ, ◌-◌, List, take}

-- The first place, counted from 1, at which two lists differ; also where one of them has ended.
pub record DifferAt {A : Type 0} (xs ys : List A) (place : ℕ) : Type 0 where
  pub before : take (place - 1) xs ≡ take (place - 1) ys
  pub here : take place xs ≢ take place ys

-- The first entry, counted from 1, with which a list is no legal one.
pub record BreaksAt {E : Type 0} (Legal : List E → Type 0) (entries : List E) (place : ℕ)
    : Type 0 where
  pub before : Legal (take (place - 1) entries)
  pub here : Legal (take place entries) → ⊥

-- How a controller's turn ends. This project's own.
use Rattle.std.specs.Prelude.{◌≡◌, ◌↔◌, ℕ, nat_le, Bool, true, false, not, List, [], ◌∷◌}
use Rattle.controller_core.specs.declared.fixed.Fixed.{Fixed}
use Rattle.controller_core.specs.declared.entry.Entry.{Entry}
use Rattle.tied_lists.specs.Own.{WentOn}
use Rattle.joint_history.specs.Reading.{is_ours, failures_at, has_ended_at, has_started_at}

-- What a turn asks of a controller's list to know whether it is done, in this order: whether the
-- scans are gone, whether no failure is unnoticed after this number of them, and whether no call is
-- uncollected.
abbrev pub questions : Fixed → ℕ → List (List Entry → Bool)
questions fixed noticed =
    has_ended_at fixed ∷ (λ (list : List Entry). nat_le (failures_at fixed list) noticed)
    ∷ (λ (list : List Entry). not (has_started_at fixed list)) ∷ []

-- A question was asked of a list as it stood then. Where the answer was no, nothing more was asked.
pub record AskedFirst (alone : Bool) (question : List Entry → Bool)
    (AskedLater : List Entry → Type 0) (old new : List Entry) (all : Bool) : Type 0 where
  pub at : List Entry
  pub went : WentOn alone is_ours old [] at
  pub yes : question at ≡ true → AskedLater at
  pub no : question at ≡ false → (new ≡ at) × (all ≡ false)

-- Questions were asked of a list one after another, as far as each was answered by yes; and that
-- is whether all were.
abbrev pub AskedInOrder : Bool → List (List Entry → Bool) → List Entry → List Entry → Bool → Type 0
AskedInOrder alone [] old new all = (new ≡ old) × (all ≡ true)
AskedInOrder alone (question ∷ later) old new all =
    AskedFirst alone question (λ at. AskedInOrder alone later at new all) old new all

-- A turn asked whether the controller is done: it is exactly where each question is answered by yes
-- and its paths are idle.
pub record AsksIfDone (alone : Bool) (fixed : Fixed) (noticed : ℕ) (Idle : Type 0)
    (old new : List Entry) (done : Bool) : Type 0 where
  pub all_yes : Bool
  pub asked : AskedInOrder alone (questions fixed noticed) old new all_yes
  pub done_is : (done ≡ true) ↔ ((all_yes ≡ true) × Idle)

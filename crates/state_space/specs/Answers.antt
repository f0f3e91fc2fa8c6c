-- What the answers of the search say. All of it is this project's own.
use Rattle.std.specs.Prelude.{◌≡◌, ◌≤◌, ◌<◌, ℕ, ◌+◌, Bool, true, false, List, length, slice_get}
use Rattle.std.specs.Prelude.{Option, Some}
use Rattle.state_space.specs.Reaching.{IsBelow, up_to, Reaches}
use Rattle.state_space.specs.declared.exploring.Answer.{Answer}
use Rattle.state_space.specs.declared.exploring.Answer.TheVariants.{Holds, Fails}

-- A key stands in a list, at a place for which so many moves suffice.
pub record IsAmong (keys : List (List ℕ)) (depth : ℕ → ℕ) (moves : ℕ) (key : List ℕ) : Type 0 where
  pub place : ℕ
  pub is_there : slice_get keys place ≡ Some key
  pub suffices : depth place ≤ moves

-- The keys of a list cover what fewer moves than a bound lead to, and none of that is bad: a key of
-- the first state is among them, and each move of one of them leads to another, for which one move
-- more suffices.
pub record Covers (starts : List ℕ → Type 0) (count : ℕ) (leads : List ℕ → ℕ → List ℕ → Type 0)
    (bad : List ℕ → Bool) (bound : Option ℕ) (keys : List (List ℕ)) (depth : ℕ → ℕ) : Type 0 where
  pub first : List ℕ
  pub is_first : starts first
  pub first_among : IsAmong keys depth 0 first
  pub closed : (moves by : ℕ) (key : List ℕ) → IsAmong keys depth moves key → by < count
      → IsBelow bound (moves + 1)
      → (next : List ℕ) × (leads key by next × IsAmong keys depth (moves + 1) next)
  pub good : (moves : ℕ) (key : List ℕ) → IsAmong keys depth moves key → IsBelow bound moves
      → bad key ≡ false

-- So many keys, no two of them equal, each of which some moves within the limit reach, cover all
-- that moves within the limit lead to, and none is bad.
pub record HoldsWith (starts : List ℕ → Type 0) (count : ℕ) (leads : List ℕ → ℕ → List ℕ → Type 0)
    (bad : List ℕ → Bool) (limit : Option ℕ) (states : ℕ) : Type 0 where
  pub keys : List (List ℕ)
  pub depth : ℕ → ℕ
  pub as_many : length keys ≡ states
  pub apart : (i j : ℕ) (key : List ℕ) → slice_get keys i ≡ Some key → slice_get keys j ≡ Some key
      → i ≡ j
  pub reached : (place : ℕ) (key : List ℕ) → slice_get keys place ≡ Some key
      → (path : List ℕ) × (Reaches starts count leads path key × IsBelow (up_to limit) (length path))
  pub covers : Covers starts count leads bad (up_to limit) keys depth

-- These moves, within the limit, reach a bad key, and keys that cover what fewer moves lead to are
-- not bad.
pub record FailsBy (starts : List ℕ → Type 0) (count : ℕ) (leads : List ℕ → ℕ → List ℕ → Type 0)
    (bad : List ℕ → Bool) (limit : Option ℕ) (path : List ℕ) : Type 0 where
  pub key : List ℕ
  pub reaches : Reaches starts count leads path key
  pub is_bad : bad key ≡ true
  pub within : IsBelow (up_to limit) (length path)
  pub keys : List (List ℕ)
  pub depth : ℕ → ℕ
  pub covers : Covers starts count leads bad (Some (length path)) keys depth

abbrev pub IsAnswer : (List ℕ → Type 0) → ℕ → (List ℕ → ℕ → List ℕ → Type 0) → (List ℕ → Bool)
    → Option ℕ → Answer → Type 0
IsAnswer starts count leads bad limit (Holds states) =
    HoldsWith starts count leads bad limit states
IsAnswer starts count leads bad limit (Fails path) =
    FailsBy starts count leads bad limit path.items

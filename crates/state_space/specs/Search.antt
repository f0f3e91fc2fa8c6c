-- What the search keeps while it goes on. All of it is this project's own.
use Rattle.std.specs.Prelude.{◌≡◌, ◌≤◌, ◌<◌, ◌⊎◌, ℕ, ◌+◌, Bool, false, List, length, slice_get, Some}
use Rattle.std.specs.Prelude.{Option}
use Rattle.state_space.specs.Reaching.{IsBelow, up_to, Reaches}
use Rattle.state_space.specs.Found.{Entry, key_in, depth_in, AreLinked}

-- A move of an entry leads to an entry, at most one move further.
pub record HasNext (leads : List ℕ → ℕ → List ℕ → Type 0) (es : List Entry) (e : Entry) (by : ℕ)
    : Type 0 where
  pub index : ℕ
  pub entry : Entry
  pub is_there : slice_get es index ≡ Some entry
  pub leads_there : leads (key_in e) by (key_in entry)
  pub depth : depth_in entry ≤ depth_in e + 1

-- A move of the entry at a place has been looked at: all of those before the head, and so many of
-- the head's.
abbrev pub IsDone : ℕ → ℕ → ℕ → ℕ → Type 0
IsDone i by head did = (i < head) ⊎ ((i ≡ head) × (by < did))

-- The entries are linked, reached and apart; they stand by how far they are; the first so many are
-- not bad; and each move that was looked at leads to one of them.
pub record IsExplored (starts : List ℕ → Type 0) (count : ℕ)
    (leads : List ℕ → ℕ → List ℕ → Type 0) (bad : List ℕ → Bool) (limit : Option ℕ)
    (es : List Entry) (head did looked : ℕ) : Type 0 where
  pub links : AreLinked starts count leads es
  pub within : head ≤ length es
  pub looked_within : looked ≤ length es
  pub some : 0 < length es
  pub shallow : (i : ℕ) (e : Entry) → slice_get es i ≡ Some e → depth_in e ≤ i
  pub limited : (i : ℕ) (e : Entry) → slice_get es i ≡ Some e → IsBelow (up_to limit) (depth_in e)
  pub reached : (i : ℕ) (e : Entry) → slice_get es i ≡ Some e
      → (path : List ℕ) × (Reaches starts count leads path (key_in e) × (length path ≡ depth_in e))
  pub apart : (i j : ℕ) (e f : Entry) → slice_get es i ≡ Some e → slice_get es j ≡ Some f
      → key_in e ≡ key_in f → i ≡ j
  pub rising : (i j : ℕ) (e f : Entry) → slice_get es i ≡ Some e → slice_get es j ≡ Some f
      → i ≤ j → depth_in e ≤ depth_in f
  pub near : (i : ℕ) (e f : Entry) → slice_get es head ≡ Some e → slice_get es i ≡ Some f
      → depth_in f ≤ depth_in e + 1
  pub good : (i : ℕ) (e : Entry) → slice_get es i ≡ Some e → i < looked → bad (key_in e) ≡ false
  pub done : (i by : ℕ) (e : Entry) → slice_get es i ≡ Some e → by < count
      → IsDone i by head did → IsBelow limit (depth_in e) → HasNext leads es e by

-- This key and this number of moves are those of the entry at a place.
pub record IsTakenUp (es : List Entry) (head : ℕ) (key : List ℕ) (depth : ℕ) : Type 0 where
  pub entry : Entry
  pub is_there : slice_get es head ≡ Some entry
  pub key_is : key ≡ key_in entry
  pub depth_is : depth ≡ depth_in entry

-- The list of the keys that were found, with their links. All of it is this project's own.
use Rattle.std.specs.Prelude.{◌≡◌, ◌<◌, ℕ, ◌+◌, List, length, slice_get, Some, Vec}
use Rattle.std.specs.declared.alloc.Global.{Global}
use Rattle.state_space.specs.Reaching.{Reaches}
use Rattle.state_space.specs.declared.exploring.Link.{Link}

-- A key with its link.
abbrev pub Entry : Type 0
Entry = Vec ℕ Global × Link

-- The key of an entry, and how many moves it is behind the first.
abbrev pub key_in : Entry → List ℕ
key_in e = e.0.items

abbrev pub depth_in : Entry → ℕ
depth_in e = e.1.depth

-- An entry comes by a move from one that stands before it.
pub record IsLinked (count : ℕ) (leads : List ℕ → ℕ → List ℕ → Type 0) (es : List Entry) (i : ℕ)
    (e : Entry) : Type 0 where
  pub parent : Entry
  pub is_there : slice_get es e.1.from ≡ Some parent
  pub before : e.1.from < i
  pub move : e.1.by < count
  pub leads_here : leads (key_in parent) e.1.by (key_in e)
  pub depth : depth_in e ≡ depth_in parent + 1

-- The first entry is a key of the first state, and each other one comes from an earlier one.
pub record AreLinked (starts : List ℕ → Type 0) (count : ℕ) (leads : List ℕ → ℕ → List ℕ → Type 0)
    (es : List Entry) : Type 0 where
  pub first : (e : Entry) → slice_get es 0 ≡ Some e → starts (key_in e) × (depth_in e ≡ 0)
  pub linked : (i : ℕ) (e : Entry) → slice_get es i ≡ Some e → 0 < i → IsLinked count leads es i e

-- The moves that lead from the first state to an entry.
pub record IsPathTo (starts : List ℕ → Type 0) (count : ℕ) (leads : List ℕ → ℕ → List ℕ → Type 0)
    (es : List Entry) (end : ℕ) (path : List ℕ) : Type 0 where
  pub entry : Entry
  pub is_there : slice_get es end ≡ Some entry
  pub reaches : Reaches starts count leads path (key_in entry)
  pub as_deep : length path ≡ depth_in entry

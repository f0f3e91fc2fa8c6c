-- The entries of one maker, and lists that go on. This project's own.
use Rattle.std.specs.Prelude.{◌≡◌, ℕ, ◌==◌, Bool, true, List, [], ◌++◌, filter, Result, Ok, Err}
use Rattle.std.specs.List.{AllByRecursion}
use Rattle.ring_core.specs.Words.{maker}
use Rattle.tied_lists.specs.Words.{RingEntry}

-- An entry of the ring that names a node.
abbrev pub is_of : ℕ → RingEntry → Bool
is_of n e = maker e == n

-- The entries of the ring that name a node, in order.
abbrev pub own : ℕ → List RingEntry → List RingEntry
own n entries = filter (is_of n) entries

-- What a call has added: nothing where it was refused.
abbrev pub added_if : {T X E : Type 0} → Result T X → (T → List E) → List E
added_if (Ok x) f = f x
added_if (Err why) f = []

-- A list went on with entries that are not ours, none where nobody else writes, and then with what
-- a call of ours added.
pub record WentOn {E : Type 0} (alone : Bool) (ours : E → Bool) (before added after : List E)
    : Type 0 where
  pub between : List E
  pub others : filter ours between ≡ []
  pub none_alone : alone ≡ true → between ≡ []
  pub after_is : after ≡ (before ++ between) ++ added

-- A list went on by calls of ours, which added these entries in order; by nothing else where
-- nobody else writes.
pub record Grew {E : Type 0} (alone : Bool) (ours : E → Bool) (before added after : List E)
    : Type 0 where
  pub more : List E
  pub after_is : after ≡ before ++ more
  pub ours_are : filter ours more ≡ added
  pub all_alone : alone ≡ true → more ≡ added

-- A list went on by calls of ours, which added entries of one sort; by nothing else where nobody
-- else writes.
pub record Adds {E : Type 0} (alone : Bool) (ours : E → Bool) (Sort : E → Type 0)
    (before after : List E) : Type 0 where
  pub added : List E
  pub sort : AllByRecursion Sort added
  pub grew : Grew alone ours before added after

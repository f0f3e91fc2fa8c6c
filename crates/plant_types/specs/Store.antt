-- What a store of references stands for: a finite map from reference to number.
use Rattle.std.specs.Prelude.{◌≡◌, ℕ, zero, suc, ◌+◌, ◌≤◌, ◌<◌, Bool, true, false, nat_lt}
use Rattle.std.specs.Prelude.{unwrap_or, if◌then◌else◌, List, [], ◌∷◌}
use Rattle.std.specs.FinMap.{FinMap, get, insert, contains_key, retain_keys}
use Rattle.plant_types.specs.declared.reference.Ref.{Ref}
use Rattle.plant_types.specs.Reference.{ref_cmp, is_discrete, ref_from, most_references}

-- Each reference that is there, with its number. This project's own.
abbrev pub Contents : Type 0
Contents = FinMap ref_cmp ℕ

-- The number at a reference. This project's own.
abbrev pub word_at : Contents → Ref → ℕ
word_at m at = unwrap_or (get m at) 0

-- Whether a coil or an input is on. This project's own.
abbrev pub is_on : Contents → Ref → Bool
is_on m at = nat_lt 0 (word_at m at)

-- The contents after one coil or input is set, on as 1 and off as 0. This project's own.
abbrev pub with_bit : Contents → Ref → Bool → Contents
with_bit m at on = insert m at (if on then 1 else 0)

-- The value that a panel shows: 0 or 1 for a discrete, the number of a register. This project's
-- own.
abbrev pub value_at : Contents → Ref → ℕ
value_at m at = if is_discrete at.kind then (if is_on m at then 1 else 0) else word_at m at

-- A discrete that the store has. This project's own.
abbrev pub HasDiscrete : Contents → Ref → Type 0
HasDiscrete m at = (contains_key m at ≡ true) × (is_discrete at.kind ≡ true)

-- Each reference that stood before still stands. This project's own.
abbrev pub Keeps : Contents → Contents → Type 0
Keeps old new = (at : Ref) → contains_key old at ≡ true → contains_key new at ≡ true

-- The part of a store that stands at the references of another. This project's own.
abbrev pub part_within : Contents → Contents → Contents
part_within other m = retain_keys m (contains_key other)

-- So many registers from one on are there, within the most that a kind has. This project's own.
pub record HasRegisters (m : Contents) (at : Ref) (count : ℕ) : Type 0 where
  pub kind : is_discrete at.kind ≡ false
  pub range : at.number + count ≤ most_references + 1
  pub held : (i : ℕ) → i < count → contains_key m (ref_from at i) ≡ true

-- The numbers of so many registers from one on. This project's own.
unfoldable pub words_from : Contents → Ref → ℕ → List ℕ
words_from m at zero = []
words_from m at (suc count) = word_at m at ∷ words_from m (ref_from at 1) count

-- The contents after words are stored from one register on. This project's own.
unfoldable pub with_words : Contents → Ref → List ℕ → Contents
with_words m at [] = m
with_words m at (word ∷ words) = with_words (insert m at word) (ref_from at 1) words

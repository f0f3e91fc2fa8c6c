-- The discretes of a store that are on, discretes one after another, and the bits of words.
use Rattle.std.specs.Prelude.{◌≡◌, ℕ, zero, suc, ◌+◌, ◌*◌, Bool, ◌&&◌, ◌==◌, nat_lt, if◌then◌else◌}
use Rattle.std.specs.Prelude.{List, [], ◌∷◌, filter, map, fold}
use Rattle.std.specs.Int.{bit_at}
use Rattle.std.specs.FinMap.{keys}
use Rattle.std.specs.FinSet.{FinSet, contains, empty, from_list}
use Rattle.plant_types.specs.declared.reference.Ref.{Ref}
use Rattle.plant_types.specs.Power.{bit_of}
use Rattle.plant_types.specs.Reference.{ref_cmp, is_discrete}
use Rattle.plant_types.specs.Sizes.{Sizes, cleared}
use Rattle.plant_types.specs.Store.{Contents, is_on, words_from, with_words}

-- A set of references. This project's own.
abbrev pub Refs : Type 0
Refs = FinSet ref_cmp

-- The discretes of a store that are on. This project's own.
unfoldable pub discretes_on : Contents → Refs
discretes_on m = from_list (filter (λ at. is_discrete at.kind && is_on m at) (keys m))

-- A discrete is in the set of those that are on exactly where it is on, a register never; in a
-- store when it starts none is on. This project's own.
pub record DiscretesAreOn : Type 0 where
  pub each : (m : Contents) (at : Ref) → contains (discretes_on m) at
      ≡ is_discrete at.kind && is_on m at
  pub fresh : (sizes : Sizes) → discretes_on (cleared sizes) ≡ empty

-- Whether so many discretes from one on are on. This project's own.
abbrev pub bits_from : Contents → Ref → ℕ → List Bool
bits_from m at count = map (λ word. nat_lt 0 word) (words_from m at count)

-- The numbers that are stored for discretes: 1 for on, 0 for off. This project's own.
abbrev pub bit_words : List Bool → List ℕ
bit_words bits = map (λ bit. if bit then 1 else 0) bits

-- The contents after discretes are set from one on. This project's own.
abbrev pub with_bits : Contents → Ref → List Bool → Contents
with_bits m at bits = with_words m at (bit_words bits)

-- So many bits of a number, from the highest of them down to the lowest. This project's own.
unfoldable pub bits_high_first : ℕ → ℕ → List Bool
bits_high_first zero n = []
bits_high_first (suc count) n = (bit_at n count == 1) ∷ bits_high_first count n

-- The 16 bits of a word, the highest first. This project's own.
abbrev pub word_bits : ℕ → List Bool
word_bits word = bits_high_first 16 word

-- The number that has these bits, the highest first. This project's own.
abbrev pub number_of_bits : List Bool → ℕ
number_of_bits bits = fold (λ n on. 2 * n + bit_of on) 0 bits

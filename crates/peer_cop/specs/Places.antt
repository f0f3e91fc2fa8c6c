-- Where the flags of input words stand, one for each word of each drop of each node. This project's
-- own.
use Rattle.std.specs.Prelude.{◌≡◌, ℕ, ◌+◌, ◌-◌, ◌*◌, Bool, true, false, ◌&&◌, nat_le, nat_lt}
use Rattle.std.specs.Prelude.{List, ◌++◌, take, drop, replicate, slice_index_or}
use Rattle.plant_types.specs.Limits.{drop_words, most_address}
use Rattle.plant_types.specs.PlanTests.{drop_limit}
use Rattle.plant_types.specs.Plans.{IsFromTo, IsNode}
use Rattle.peer_cop.specs.declared.wire.Wire.{Wire}
use Rattle.peer_cop.specs.Words.{HasWords}

-- How many input words there can be.
abbrev pub place_count : ℕ
place_count = most_address * drop_limit * drop_words

-- A wire whose input words have flags.
pub record HasPlaces (wire : Wire) : Type 0 where
  pub node : IsNode wire.node
  pub drop : IsFromTo 1 drop_limit wire.drop
  pub words : HasWords wire.word wire.count drop_words

-- The place of the first input word of a wire.
unfoldable pub first_place : Wire → ℕ
first_place wire =
    ((wire.node - 1) * drop_limit + (wire.drop - 1)) * drop_words + (wire.word - 1)

-- A place is that of an input word of a wire.
abbrev pub covers : ℕ → Wire → Bool
covers place wire =
    nat_le (first_place wire) place && nat_lt place (first_place wire + wire.count)

-- None of the input words of a wire is flagged.
abbrev pub IsFree : List Bool → Wire → Type 0
IsFree flags wire =
    (place : ℕ) → covers place wire ≡ true → slice_index_or flags place false ≡ false

-- The flags after the input words of a wire were flagged too.
abbrev pub flagged : List Bool → Wire → List Bool
flagged flags wire =
    take (first_place wire) flags ++ replicate wire.count true
    ++ drop (first_place wire + wire.count) flags

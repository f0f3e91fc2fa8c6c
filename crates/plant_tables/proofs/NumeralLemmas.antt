-- Numbers that are told up to a most, or are in their range.
use Rattle.std.proofs.Common.{◌≡◌, ℕ, ◌+◌, ◌*◌, ◌-◌, ◌≤◌, Bool, true, false, ◌&&◌, List, [], ◌∷◌}
use Rattle.std.proofs.Common.{Some, refl, ap, arith}
use Rattle.std.specs.Prelude.{fold, min, nat_le}
use Rattle.std.proofs.lemmas.Bool.{and_parts, leb-true}
use Rattle.std.proofs.lemmas.Bool.Decides.{nat_tests}
use Rattle.plant_types.specs.Numerals.{is_numeral, value_of}
use Rattle.plant_types.specs.Plans.{IsFromTo}
use Rattle.cell_text.proofs.StepLemmas.{some-guard}
use Rattle.plant_tables.specs.Numerals.{is_numeral_within, numeral_within}
use Rattle.plant_tables.proofs.Common.{some_value}

-- one digit more
abbrev pub more : ℕ → ℕ → ℕ
more value digit = value * 10 + (digit - 48)

-- a number grows by its digits
grows : (digits : List ℕ) (value : ℕ) → value ≤ fold more value digits
grows [] value = omega arith
grows (d ∷ digits) value = omega (arith, grows digits (more value d))

-- two numbers of at least the most are told as the same
both-most : (most a b : ℕ) → most ≤ a → most ≤ b → min a most ≡ min b most
both-most most a b p q = grind (arith, nat_tests)

least : (most value : ℕ) → nat_le most value ≡ true → (min value most ≡ most) × (most ≤ value)
least most value h = (grind (arith, nat_tests), grind (arith, nat_tests))

least-not : (most value : ℕ) → nat_le most value ≡ false → min value most ≡ value
least-not most value h = grind (arith, nat_tests)

told-either : (most : ℕ) (digits : List ℕ) (value : ℕ) (b : Bool) → nat_le most value ≡ b
    → min (fold more (min value most) digits) most ≡ min (fold more value digits) most
told-either most digits value true h =
    let high = least most value h in
    both-most most (fold more (min value most) digits) (fold more value digits)
    (omega (arith, grows digits (min value most), high.0))
    (omega (arith, grows digits value, high.1))
told-either most digits value false h =
    ap (λ v. min (fold more v digits) most) (least-not most value h)

-- digits behind a number that is told up to a most
pub told-more : (most : ℕ) (digits : List ℕ) (value : ℕ)
    → min (fold more (min value most) digits) most ≡ min (fold more value digits) most
told-more most digits value = told-either most digits value (nat_le most value) refl

-- what is told is at most the most
pub min-low : (a b : ℕ) → min a b ≤ b
min-low a b = grind (arith, nat_tests)

-- a number that a word reads as is in its range
pub numeral-within : (low high : ℕ) (word : List ℕ) (n : ℕ) → numeral_within low high word ≡ Some n
    → IsFromTo low high n
numeral-within low high word n h =
    let found = some-guard (is_numeral_within low high word) (Some (value_of word)) n h in
    let same : value_of word ≡ n = some_value (value_of word) n found.1 in
    let tests = and_parts (is_numeral word)
    (nat_le low (value_of word) && nat_le (value_of word) high) found.0 in
    let ranges = and_parts (nat_le low (value_of word)) (nat_le (value_of word) high) tests.1 in
    let within : IsFromTo low high (value_of word) = record {
      from = leb-true low (value_of word) ranges.0;
      to = leb-true (value_of word) high ranges.1;
    } in
    rw (← same) within

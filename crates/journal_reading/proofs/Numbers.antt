-- Numbers and names of calls are read as they are written.
use Rattle.std.proofs.Common.{◌≡◌, ℕ, zero, suc, ◌+◌, ◌-◌, ◌*◌, ◌^◌, ◌<◌, ◌≤◌, true, ◌&&◌, ◌⊎◌, inl}
use Rattle.std.proofs.Common.{inr, List, length, get_or, Some, None, refl, sym, subst, append_assoc}
use Rattle.std.proofs.Common.{arith, rules}
use Rattle.std.specs.Prelude.{Bool, nat_le, nat_lt, fold}
use Rattle.std.specs.Fmt.{decimal}
use Rattle.std.specs.List.{list_all}
use Rattle.std.proofs.lemmas.Bool.{and_parts}
use Rattle.std.proofs.lemmas.Bool.Decides.{nat_tests}
use Rattle.std.proofs.lemmas.Fmt.{decimal_digit, length-decimal-le, decimal_nonempty, first_decimal}
use Rattle.std.proofs.lemmas.Fmt.{digits_decimal, digits_value-decimal, decimal-digits_value}
use Rattle.std.proofs.lemmas.Str.Parse.{IsNumeralModel, numerals_by_fold}
use Rattle.plant_types.specs.Numerals.{is_digit, value_of, has_no_leading_zero, is_numeral_up_to}
use Rattle.journal_lines.specs.Fields.{id_text}
use Rattle.journal_lines.specs.Sizes.{IsSmall, IsWord, IsLong, IsId}
use Rattle.journal_reading.specs.Reading.{read_number, read_small, read_word, read_long, read_id}
use Rattle.journal_reading.specs.Reading.{id_from}
use Rattle.journal_reading.proofs.Ranges.{chosen, all_lie}
use Rattle.journal_reading.proofs.Cuts.{some_is, none_some}
use Rattle.journal_reading.proofs.ReadLaws.{IsField, two_fields, made_field}

-- decimal digits are those of std
numerals : IsNumeralModel (λ ds. list_all is_digit ds ≡ true) value_of
numerals = numerals_by_fold (λ ds. list_all is_digit ds ≡ true) (search rules)
    (λ n ds. fold (λ value digit. value * 10 + (digit - 48)) n ds) (search rules)

-- one to ten bytes
abbrev has_some_digits : List ℕ → Bool
has_some_digits text = nat_le 1 (length text) && nat_le (length text) 10

-- the form of a number
front_of : (text : List ℕ) → has_no_leading_zero text ≡ true → get_or text 0 0 ≡ 48
    → length text ≡ 1
front_of text front zero_first = grind (arith, nat_tests)

some_of : (text : List ℕ) → has_some_digits text ≡ true → 0 < length text
some_of text some = grind (arith, nat_tests)

below_of : (n limit : ℕ) → nat_lt n limit ≡ true → n < limit
below_of n limit below = grind (arith, nat_tests)

below_test : (n limit : ℕ) → n < limit → nat_lt n limit ≡ true
below_test n limit below = grind (arith, nat_tests)

-- what is read as a number is its text
numeral_text : (limit : ℕ) (text : List ℕ) → limit ≤ 2 ^ 32
    → (is_numeral_up_to 10 text && nat_lt (value_of text) limit) ≡ true
    → (text ≡ decimal (value_of text)) × (value_of text < limit)
numeral_text limit text most all =
    let (numeral, less) = and_parts (is_numeral_up_to 10 text) (nat_lt (value_of text) limit) all in
    let (digits, form) = and_parts (list_all is_digit text)
    (has_some_digits text && has_no_leading_zero text) numeral in
    let (some, front) = and_parts (has_some_digits text) (has_no_leading_zero text) form in
    let below = below_of (value_of text) limit less in (
      sym (decimal-digits_value numerals text digits (some_of text some) (front_of text front)
          (omega arith)),
      below,
    )

pub number_takes : (limit : ℕ) (text : List ℕ) (n : ℕ) → limit ≤ 2 ^ 32
    → read_number limit text ≡ Some n → (text ≡ decimal n) × (n < limit)
number_takes limit text n most e =
    elim (chosen (is_numeral_up_to 10 text && nat_lt (value_of text) limit)
    (Some (value_of text)) None (Some n) e) [
      | inl passed ↦
          subst (λ (k : ℕ). (text ≡ decimal k) × (k < limit)) (some_is (value_of text) n passed.1)
          (numeral_text limit text most passed.0)
      | inr apart ↦ none_some ((text ≡ decimal n) × (n < limit)) n apart.1
    ]

-- what is written of a number is read as the number
form_test : (text : List ℕ) → 0 < length text → length text ≤ 10
    → (48 < get_or text 0 0 ⊎ (length text ≡ 1))
    → (has_some_digits text && has_no_leading_zero text) ≡ true
form_test text some few front = grind (arith, nat_tests)

is_numeral-decimal : (n : ℕ) → n < 2 ^ 32 → is_numeral_up_to 10 (decimal n) ≡ true
is_numeral-decimal zero few = rw (decimal_digit 0 (omega arith)) refl
is_numeral-decimal (suc n) few =
    let small : suc n < 2 ^ 64 = omega arith in
    let below : suc n < 10 ^ 10 = omega arith in
    let read : list_all is_digit (decimal (suc n)) ≡ true = digits_decimal numerals (suc n) small in
    let front = form_test (decimal (suc n)) (decimal_nonempty (suc n) small)
    (length-decimal-le 10 (suc n) (omega arith) below small)
    (inl (first_decimal (suc n) (omega arith) small)) in
    rw (read, front) refl

pub number_again : (limit n : ℕ) → limit ≤ 2 ^ 32 → n < limit
    → read_number limit (decimal n) ≡ Some n
number_again limit n most less =
    let value : value_of (decimal n) ≡ n = digits_value-decimal numerals n (omega arith) in
    rw (is_numeral-decimal n (omega arith), value, below_test n limit less) refl

pub decimal_lies : (n : ℕ) → n < 2 ^ 32 → all_lie 48 57 (decimal n) ≡ true
decimal_lies n few = digits_decimal numerals n (omega arith)

-- so it is with each kind of number
pub small_field : IsField read_small decimal IsSmall 48 57
unfolding read_small
small_field = record {
  takes = λ text n e. number_takes (2 ^ 8) text n (omega arith) e;
  again = λ n less. number_again (2 ^ 8) n (omega arith) less;
  lie = λ n less. decimal_lies n (omega arith);
}

pub word_number_field : IsField read_word decimal IsWord 48 57
unfolding read_word
word_number_field = record {
  takes = λ text n e. number_takes (2 ^ 16) text n (omega arith) e;
  again = λ n less. number_again (2 ^ 16) n (omega arith) less;
  lie = λ n less. decimal_lies n (omega arith);
}

pub long_field : IsField read_long decimal IsLong 48 57
unfolding read_long
long_field = record {
  takes = λ text n e. number_takes (2 ^ 32) text n (omega arith) e;
  again = λ n less. number_again (2 ^ 32) n (omega arith) less;
  lie = λ n less. decimal_lies n less;
}

-- the name of a call
pub id_field : IsField read_id id_text IsId 46 57
unfolding read_id
id_field =
    let last = two_fields 46 46 57 small_field long_field refl refl refl refl in
    let all = two_fields 46 46 57 small_field last refl refl refl refl in
    made_field all id_from (λ id. (id.node, (id.path, id.seq))) id_text IsId
    (λ parts. simp append_assoc)
    (λ parts fits. record { node = fits.0; path = fits.1.0; seq = fits.1.1 })
    (λ id is. (is.node, (is.path, is.seq))) (λ id. refl)

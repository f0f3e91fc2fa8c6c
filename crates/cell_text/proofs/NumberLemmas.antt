-- The texts of numbers, positions and references read back.
use Rattle.std.proofs.Common.{◌≡◌, ℕ, zero, suc, ◌+◌, ◌-◌, ◌*◌, ◌/◌, ◌%◌, ◌^◌, ◌<◌, ◌≤◌, true}
use Rattle.std.proofs.Common.{false, not, ◌&&◌, ◌||◌, List, [], ◌∷◌, ◌++◌, length, drop, get_or}
use Rattle.std.proofs.Common.{Some, refl, ap, ◌∙◌, append_assoc, arith, rules, length-append, inl}
use Rattle.std.proofs.Common.{◌⊎◌}
use Rattle.std.specs.Prelude.{codes, nat_le, nat_lt, ◌==◌, fold, slice_index}
use Rattle.std.specs.Fmt.{decimal}
use Rattle.std.specs.List.{list_all, before_first, after_first}
use Rattle.std.proofs.lemmas.Bool.{and_parts}
use Rattle.std.proofs.lemmas.Bool.Decides.{nat_tests}
use Rattle.std.proofs.lemmas.Fmt.{decimal_digit, length-decimal-le, decimal_nonempty, first_decimal}
use Rattle.std.proofs.lemmas.Fmt.{digits_decimal, digits_value-decimal}
use Rattle.std.proofs.lemmas.Str.Parse.{IsNumeralModel, numerals_by_fold}
use Rattle.plant_types.specs.declared.reference.RefKind.{RefKind}
use Rattle.plant_types.specs.declared.reference.RefKind.TheVariants as kinds
use Rattle.plant_types.specs.declared.reference.Ref.{Ref}
use Rattle.plant_types.specs.Reference.{leading_digit, four_digits, reference_text}
use Rattle.plant_types.specs.Network.{is_row, is_column}
use Rattle.cell_text.specs.Words.{is_blank}
use Rattle.plant_types.specs.Numerals.{is_digit, value_of}
use Rattle.cell_text.specs.Numbers.{is_spelled_number, spelled_number}
use Rattle.cell_text.specs.Numbers.{position_of, is_reference_word, kind_by_digit, reference_of}
use Rattle.cell_text.specs.Texts.{has_number, position_text}
use Rattle.cell_text.proofs.WordLemmas.{take-front, drop-front}
use Rattle.cell_text.proofs.JoinLemmas.{is_solid, is_word}

-- a digit is no blank
digit_solid : (b : ℕ) → is_digit b ≡ true → not (is_blank b) ≡ true
digit_solid b h = grind (arith, nat_tests)

-- so it is with all digits of a word
digits_solid : (word : List ℕ) → list_all is_digit word ≡ true → is_solid word ≡ true
digits_solid [] h = refl
digits_solid (b ∷ bs) h =
    let (here, more) = and_parts (is_digit b) (list_all is_digit bs) h in
    rw (digit_solid b here, digits_solid bs more) refl

-- words without blanks, one behind the other
solid-append : (xs ys : List ℕ) → is_solid xs ≡ true → is_solid ys ≡ true
    → is_solid (xs ++ ys) ≡ true
solid-append [] ys h k = k
solid-append (x ∷ xs) ys h k =
    let (here, more) = and_parts (not (is_blank x)) (is_solid xs) h in
    rw (here, solid-append xs ys more k) refl

-- the digits of this crate are those of std
numerals : IsNumeralModel (λ ds. list_all is_digit ds ≡ true) value_of
numerals = numerals_by_fold (λ ds. list_all is_digit ds ≡ true) (search rules)
    (λ n ds. fold (λ value digit. value * 10 + (digit - 48)) n ds) (search rules)

-- one to four bytes without a zero in front have the form of a number
number_front : (word : List ℕ) → 0 < length word → length word ≤ 4
    → (48 < get_or word 0 0 ⊎ (length word ≡ 1))
    → (nat_le 1 (length word) && nat_le (length word) 4)
    && ((length word == 1) || not (slice_index word 0 == 48)) ≡ true
number_front word some few front = grind (arith, nat_tests)

-- a number below 10,000 is written in the form of one
pub is_spelled_number-decimal : (n : ℕ) → n ≤ 9999 → is_spelled_number (decimal n) ≡ true
is_spelled_number-decimal zero few = rw (decimal_digit 0 (omega arith)) refl
is_spelled_number-decimal (suc n) few =
    let small : suc n < 2 ^ 64 = omega arith in
    let below : suc n < 10 ^ 4 = omega arith in
    let read : list_all is_digit (decimal (suc n)) ≡ true = digits_decimal numerals (suc n) small in
    let front = number_front (decimal (suc n)) (decimal_nonempty (suc n) small)
    (length-decimal-le 4 (suc n) (omega arith) below small)
    (inl (first_decimal (suc n) (omega arith) small)) in
    rw (read, front) refl

-- what is written of a number reads as the number
pub spelled_number-decimal : (n : ℕ) → n ≤ 9999 → spelled_number (decimal n) ≡ Some n
spelled_number-decimal n few =
    rw (is_spelled_number-decimal n few, digits_value-decimal numerals n (omega arith)) refl

-- the parts of digits before a comma and behind it
comma_no : (b : ℕ) → is_digit b ≡ true → (b == 44) ≡ false
comma_no b h = grind (arith, nat_tests)

-- digits before a comma are what stands before the first one
before-comma : (word rest : List ℕ) → list_all is_digit word ≡ true
    → before_first (λ byte. byte == 44) (word ++ 44 ∷ rest) ≡ word
before-comma [] rest h = refl
before-comma (b ∷ bs) rest h =
    let (here, more) = and_parts (is_digit b) (list_all is_digit bs) h in
    rw (comma_no b here, take-front) (ap (λ xs. b ∷ xs) (before-comma bs rest more))

-- one byte more, and the comma
suc_front : (n : ℕ) → 1 + n + 1 ≡ 1 + (n + 1)
suc_front n = omega arith

-- what stands behind the comma behind digits
after-comma : (word rest : List ℕ) → list_all is_digit word ≡ true
    → after_first (λ byte. byte == 44) (word ++ 44 ∷ rest) ≡ rest
after-comma [] rest h = refl
after-comma (b ∷ bs) rest h =
    let (here, more) = and_parts (is_digit b) (list_all is_digit bs) h in
    rw (comma_no b here, suc_front, drop-front) (after-comma bs rest more)

-- a row is below 10,000
from_row : (row : ℕ) → is_row row ≡ true → row ≤ 9999
from_row row h = grind (arith, nat_tests)

-- so is a column
from_column : (column : ℕ) → is_column column ≡ true → column ≤ 9999
from_column column h = grind (arith, nat_tests)

-- what is written of a number are digits
decimal_digits : (n : ℕ) → n ≤ 9999 → list_all is_digit (decimal n) ≡ true
decimal_digits n h = digits_decimal numerals n (omega arith)

-- the row, a comma and the column
position_parts : (place : ℕ × ℕ) → position_text place ≡ decimal place.0 ++ 44 ∷ decimal place.1
position_parts place = append_assoc (decimal place.0) (44 ∷ []) (decimal place.1)

-- the text of a position reads as the position
pub position_of-text : (place : ℕ × ℕ) → is_row place.0 ≡ true → is_column place.1 ≡ true
    → position_of (position_text place) ≡ Some place
position_of-text place r k =
    let row = from_row place.0 r in
    let column = from_column place.1 k in
    let digits = decimal_digits place.0 row in
    rw (
      position_parts place,
      before-comma (decimal place.0) (decimal place.1) digits,
      after-comma (decimal place.0) (decimal place.1) digits,
      spelled_number-decimal place.0 row,
      spelled_number-decimal place.1 column,
      r,
      k,
    ) refl

-- a length above 0, as a test
some_byte : (n : ℕ) → 0 < n → nat_lt 0 n ≡ true
some_byte n h = grind (arith, nat_tests)

-- the text of a position is a word
pub position_word : (place : ℕ × ℕ) → is_row place.0 ≡ true → is_column place.1 ≡ true
    → is_word (position_text place) ≡ true
position_word place r k =
    let row = digits_solid (decimal place.0) (decimal_digits place.0 (from_row place.0 r)) in
    let column = digits_solid (decimal place.1) (decimal_digits place.1 (from_column place.1 k)) in
    let solid = solid-append (decimal place.0 ++ codes ",") (decimal place.1)
    (solid-append (decimal place.0) (codes ",") row refl) column in
    let some = some_byte (length (position_text place))
    (omega (
      arith,
      ap length (position_parts place),
      length-append (decimal place.0) (44 ∷ decimal place.1),
    )) in
    rw (some, solid) refl

-- so is that of a constant
pub decimal_word : (n : ℕ) → n ≤ 9999 → is_word (decimal n) ≡ true
decimal_word n h = rw (
  some_byte (length (decimal n)) (decimal_nonempty n (omega arith)),
  digits_solid (decimal n) (decimal_digits n h),
) refl

-- at most four is not five
not_five : (n : ℕ) → n ≤ 4 → (n == 5) ≡ false
not_five n h = grind (arith, nat_tests)

-- a constant has fewer digits than a reference
pub decimal_no_reference : (n : ℕ) → n ≤ 9999 → is_reference_word (decimal n) ≡ false
decimal_no_reference n h =
    let below : n < 10 ^ 4 = omega arith in
    rw (
      decimal_digits n h,
      not_five (length (decimal n)) (length-decimal-le 4 n (omega arith) below (omega arith)),
    ) refl

-- five digits of a reference
five : (k n : ℕ) → k ≤ 9 → n ≤ 9999 → decimal k ++ four_digits n
    ≡ (48 + k) ∷ (48 + n / 1000) ∷ (48 + n / 100 % 10) ∷ (48 + n / 10 % 10) ∷ (48 + n % 10) ∷ []
five k n small few =
    rw (
      decimal_digit k (omega arith),
      decimal_digit (n / 1000) (omega arith),
      decimal_digit (n / 100 % 10) (omega arith),
      decimal_digit (n / 10 % 10) (omega arith),
      decimal_digit (n % 10) (omega arith),
    ) refl

-- the code of a digit is a digit
digit_up : (d : ℕ) → d ≤ 9 → is_digit (48 + d) ≡ true
digit_up d h = grind (arith, nat_tests)

-- the number of four digits
four_value : (a b c d : ℕ) → value_of ((48 + a) ∷ (48 + b) ∷ (48 + c) ∷ (48 + d) ∷ [])
    ≡ 1000 * a + (100 * b + (10 * c + d))
four_value a b c d = omega arith

-- a number is made of its four digits
four_parts : (n : ℕ)
    → 1000 * (n / 1000) + (100 * (n / 100 % 10) + (10 * (n / 10 % 10) + n % 10)) ≡ n
four_parts n =
    let tens : n / 10 / 10 ≡ n / 100 = omega arith in
    let hundreds : n / 100 / 10 ≡ n / 1000 = omega arith in
    omega (arith, tens, hundreds)

-- the text of a reference has five digits
record Five (at : Ref) : Type 0 where
  text : reference_text at ≡ (48 + leading_digit at.kind) ∷ (48 + at.number / 1000)
      ∷ (48 + at.number / 100 % 10) ∷ (48 + at.number / 10 % 10) ∷ (48 + at.number % 10) ∷ []
  digits : list_all is_digit (reference_text at) ≡ true
  count : length (reference_text at) ≡ 5

-- the digit of a kind is a digit
small_digit : (kind : RefKind) → leading_digit kind ≤ 9
small_digit kinds.Coil = omega arith
small_digit kinds.Input = omega arith
small_digit kinds.InputRegister = omega arith
small_digit kinds.Register = omega arith

-- the number of a reference is below 10,000
from_number : (at : Ref) → has_number at ≡ true → at.number ≤ 9999
from_number at h = let (low, high) = and_parts (nat_le 1 at.number)
    (nat_le at.number 9984) h in grind (arith, nat_tests)

-- so it is with each reference
five_of : (at : Ref) → has_number at ≡ true → Five at
five_of at h =
    let few = from_number at h in
    let text = five (leading_digit at.kind) at.number (small_digit at.kind) few in
    record {
      text = text;
      digits = rw (
        text,
        digit_up (leading_digit at.kind) (small_digit at.kind),
        digit_up (at.number / 1000) (omega arith),
        digit_up (at.number / 100 % 10) (omega arith),
        digit_up (at.number / 10 % 10) (omega arith),
        digit_up (at.number % 10) (omega arith),
      ) refl;
      count = rw text refl;
    }

-- the digit of a kind tells the kind
kind_back : (kind : RefKind) → kind_by_digit (48 + leading_digit kind) ≡ Some kind
kind_back kinds.Coil = refl
kind_back kinds.Input = refl
kind_back kinds.InputRegister = refl
kind_back kinds.Register = refl

-- the text of a reference is five digits
pub reference_word : (at : Ref) → has_number at ≡ true
    → is_reference_word (reference_text at) ≡ true
reference_word at h = let f = five_of at h in rw (f.digits, f.count) refl

-- the text of a reference reads as the reference
pub reference_of-text : (at : Ref) → has_number at ≡ true
    → reference_of (reference_text at) ≡ Some at
reference_of-text at h =
    let f = five_of at h in
    let first : slice_index (reference_text at) 0 ≡ 48 + leading_digit at.kind = rw f.text refl in
    let value : value_of (drop 1 (reference_text at)) ≡ at.number =
    rw f.text (four_value (at.number / 1000) (at.number / 100 % 10) (at.number / 10 % 10)
    (at.number % 10) ∙ four_parts at.number) in
    rw (reference_word at h, first, kind_back at.kind, value, h) refl

-- the text of a reference is a word
pub reference_text_word : (at : Ref) → has_number at ≡ true → is_word (reference_text at) ≡ true
reference_text_word at h =
    let f = five_of at h in rw (f.count, digits_solid (reference_text at) f.digits) refl

-- Numbers at the front of a text, in decimal digits.
use Rattle.std.proofs.Common.{◌≡◌, ◌≢◌, ℕ, zero, suc, ◌+◌, ◌-◌, ◌*◌, ◌^◌, ◌<◌, ◌≤◌, Bool, true, false}
use Rattle.std.proofs.Common.{◌&&◌, ◌⊎◌, inl, List, ◌∷◌, ◌++◌, length, get_or}
use Rattle.std.proofs.Common.{refl, sym, ap, ◌∙◌, arith, rules}
use Rattle.std.specs.Prelude.{nat_le, fold}
use Rattle.std.specs.Fmt.{decimal}
use Rattle.std.specs.List.{list_all}
use Rattle.std.proofs.lemmas.Bool.{and_parts, false≢true}
use Rattle.std.proofs.lemmas.Bool.Decides.{nat_tests}
use Rattle.std.proofs.lemmas.Fmt.{decimal_digit, length-decimal-le, decimal_nonempty, first_decimal}
use Rattle.std.proofs.lemmas.Fmt.{digits_decimal, digits_value-decimal, decimal-digits_value}
use Rattle.std.proofs.lemmas.Fmt.{decimal_injective}
use Rattle.std.proofs.lemmas.Str.Parse.{IsNumeralModel, numerals_by_fold}
use Rattle.plant_types.specs.Numerals.{is_digit, value_of, has_no_leading_zero, is_numeral_up_to}
use Rattle.peer_cop.specs.Lines.{BeginsWithNumber}
use Rattle.peer_cop.proofs.Parts.{IsCutAt, all_differ, differs, differs_self, same_parts}

-- decimal digits are those of std
pub numerals : IsNumeralModel (λ ds. list_all is_digit ds ≡ true) value_of
numerals = numerals_by_fold (λ ds. list_all is_digit ds ≡ true) (search rules)
    (λ n ds. fold (λ value digit. value * 10 + (digit - 48)) n ds) (search rules)

-- a number has digits alone
pub decimal_digits : (n : ℕ) → n < 2 ^ 16 → list_all is_digit (decimal n) ≡ true
decimal_digits n few = digits_decimal numerals n (omega arith)

-- one to five bytes
abbrev has_some_digits : List ℕ → Bool
has_some_digits text = nat_le 1 (length text) && nat_le (length text) 5

-- the form of a number
front_of : (text : List ℕ) → has_no_leading_zero text ≡ true → get_or text 0 0 ≡ 48
    → length text ≡ 1
front_of text front zero_first = grind (arith, nat_tests)

some_of : (text : List ℕ) → has_some_digits text ≡ true → 0 < length text
some_of text some = grind (arith, nat_tests)

few_of : (text : List ℕ) → has_some_digits text ≡ true → length text ≤ 5
few_of text some = grind (arith, nat_tests)

-- digits of a number are its text
pub numeral_text : (text : List ℕ) → is_numeral_up_to 5 text ≡ true → value_of text < 2 ^ 16
    → text ≡ decimal (value_of text)
numeral_text text numeral below =
    let (digits, form) = and_parts (list_all is_digit text)
    (has_some_digits text && has_no_leading_zero text) numeral in
    let (some, front) = and_parts (has_some_digits text) (has_no_leading_zero text) form in
    sym (decimal-digits_value numerals text digits (some_of text some) (front_of text front)
    (omega arith))

pub numeral_digits : (text : List ℕ) → is_numeral_up_to 5 text ≡ true
    → (list_all is_digit text ≡ true) × (length text ≤ 5)
numeral_digits text numeral =
    let (digits, form) = and_parts (list_all is_digit text)
    (has_some_digits text && has_no_leading_zero text) numeral in
    let (some, front) = and_parts (has_some_digits text) (has_no_leading_zero text) form in
    (digits, few_of text some)

-- the text of a number is digits of it
form_test : (text : List ℕ) → 0 < length text → length text ≤ 5
    → (48 < get_or text 0 0 ⊎ (length text ≡ 1))
    → (has_some_digits text && has_no_leading_zero text) ≡ true
form_test text some few front = grind (arith, nat_tests)

pub numeral-decimal : (n : ℕ) → n < 2 ^ 16 → is_numeral_up_to 5 (decimal n) ≡ true
numeral-decimal zero few = rw (decimal_digit 0 (omega arith)) refl
numeral-decimal (suc n) few =
    let small : suc n < 2 ^ 64 = omega arith in
    let below : suc n < 10 ^ 5 = omega arith in
    let read : list_all is_digit (decimal (suc n)) ≡ true = digits_decimal numerals (suc n) small in
    let front = form_test (decimal (suc n)) (decimal_nonempty (suc n) small)
    (length-decimal-le 5 (suc n) (omega arith) below small)
    (inl (first_decimal (suc n) (omega arith) small)) in
    rw (read, front) refl

pub value-decimal : (n : ℕ) → n < 2 ^ 16 → value_of (decimal n) ≡ n
value-decimal n few = digits_value-decimal numerals n (omega arith)

-- a text that is no numeral is no number, and one whose number is too large is none below
pub no_numeral : (text : List ℕ) (n : ℕ) → is_numeral_up_to 5 text ≡ false → n < 2 ^ 16
    → text ≢ decimal n
no_numeral text n none few is =
    false≢true (sym none ∙ ap (is_numeral_up_to 5) is ∙ numeral-decimal n few)

pub not_below : (text : List ℕ) (n value : ℕ) → value ≡ value_of text → n < value → n < 2 ^ 16
    → text ≢ decimal n
not_below text n value is less few same =
    let own : value_of text ≡ n = ap value_of same ∙ value-decimal n few in
    omega arith

-- a text begins with one number alone
pub same_number : (limit end : ℕ) (text : List ℕ) (m n : ℕ) (more rest : List ℕ)
    → limit ≤ 2 ^ 16 → is_digit end ≡ false → BeginsWithNumber limit end text m more
    → BeginsWithNumber limit end text n rest → (m ≡ n) × (more ≡ rest)
same_number limit end text m n more rest few apart one other =
    let m_few : m < 2 ^ 16 = omega (arith, one.below) in
    let n_few : n < 2 ^ 16 = omega (arith, other.below) in
    let (front, back) = same_parts is_digit end apart (decimal m) (decimal n) more rest
    (decimal_digits m m_few) (decimal_digits n n_few) (sym one.whole ∙ other.whole) in
    (decimal_injective m n (omega arith) (omega arith) front, back)

-- the number at a front ends at the first such byte
pub number_front : (limit end : ℕ) (text front back : List ℕ) (n : ℕ) (rest : List ℕ)
    → limit ≤ 2 ^ 16 → is_digit end ≡ false → IsCutAt end text front back
    → BeginsWithNumber limit end text n rest → front ≡ decimal n
number_front limit end text front back n rest few apart cut is =
    let n_few : n < 2 ^ 16 = omega (arith, is.below) in
    let digits = all_differ is_digit end apart (decimal n) (decimal_digits n n_few) in
    (same_parts (differs end) end (differs_self end) front (decimal n) back rest cut.differ digits
    (sym cut.whole ∙ is.whole)).0

-- a front that is a number is the number at the front
pub front_number : (limit end : ℕ) (text front back : List ℕ) (n : ℕ)
    → IsCutAt end text front back → n < limit → front ≡ decimal n
    → BeginsWithNumber limit end text n back
front_number limit end text front back n cut below is =
    record { below = below; whole = cut.whole ∙ ap (λ (bs : List ℕ). bs ++ end ∷ back) is }

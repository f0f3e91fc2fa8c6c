-- The frame that a piece begins with.
use Rattle.std.proofs.Common.{eqb-true, ◌≡◌, ◌≢◌, ℕ, ◌%◌, ◌<◌, true, false, ◌==◌, nat_le, List, [], ◌∷◌, ◌++◌, length, refl, sym, ap, ◌∙◌, subst, append-nil, length-append, arith, Option, Some, None, inl, inr}
use Rattle.std.specs.Prelude.{option_and_then, option_map, unwrap_or}
use Rattle.std.specs.List.{list_all, list_any}
use Rattle.std.proofs.lemmas.Bool.{and_left, and_parts, and_right, cases_Bool, cond-false, lt-leb, ne_eqb, or_from}
use Rattle.std.proofs.lemmas.List.Folds.{list_all-append}
use Rattle.ascii_port.specs.Frames.{before_line_end, begins_line_end, byte_values, frame_in, frame_in_digits, frame_of, is_colon, is_frame_digit, is_frame_digits, is_frame_length}

abbrev pub AreDigits : List ℕ → Type 0
AreDigits digits = list_all is_frame_digit digits ≡ true

-- A digit is no colon.
pub no_colon : (digit : ℕ) → is_frame_digit digit ≡ true → is_colon digit ≡ false
no_colon digit is = grind (arith)

-- Digits are no line end.
begins_no_line : (digit : ℕ) (rest : List ℕ) → is_frame_digit digit ≡ true
    → begins_line_end (digit ∷ rest) ≡ false
begins_no_line digit [] is = refl
begins_no_line digit (second ∷ rest) is = grind (arith)

-- Nor is another byte than a carriage return.
pub no_return : (byte : ℕ) (rest : List ℕ) → byte ≢ 13 → begins_line_end (byte ∷ rest) ≡ false
no_return byte [] ne = refl
no_return byte (second ∷ rest) ne = and_left (byte == 13) (second == 10) (ne_eqb byte 13 ne)

-- A byte that begins no line end stands before the first one.
before_line_end-cons : (byte : ℕ) (rest : List ℕ) → begins_line_end (byte ∷ rest) ≡ false
    → before_line_end (byte ∷ rest) ≡ option_map (λ text. byte ∷ text) (before_line_end rest)
unfolding before_line_end
before_line_end-cons byte rest none =
    cond-false (begins_line_end (byte ∷ rest)) (Some [])
    (option_map (λ text. byte ∷ text) (before_line_end rest)) none

-- Nothing is put before what was found.
option_map-same : (found : Option (List ℕ)) → option_map (λ text. text) found ≡ found
option_map-same None = refl
option_map-same (Some text) = refl

-- What is put before it in two steps is put before it at once.
option_map-cons : (byte : ℕ) (bytes : List ℕ) (found : Option (List ℕ))
    → option_map (λ text. byte ∷ text) (option_map (λ text. bytes ++ text) found)
    ≡ option_map (λ text. byte ∷ bytes ++ text) found
option_map-cons byte bytes None = refl
option_map-cons byte bytes (Some text) = refl

-- Digits stand before the first line end behind them.
before_line_end-digits : (digits rest : List ℕ) → AreDigits digits
    → before_line_end (digits ++ rest)
    ≡ option_map (λ text. digits ++ text) (before_line_end rest)
before_line_end-digits [] rest are = sym (option_map-same (before_line_end rest))
before_line_end-digits (digit ∷ digits) rest are =
    let parts = and_parts (is_frame_digit digit) (list_all is_frame_digit digits) are in
    before_line_end-cons digit (digits ++ rest) (begins_no_line digit (digits ++ rest) parts.0)
    ∙ ap (option_map (λ text. digit ∷ text)) (before_line_end-digits digits rest parts.1)
    ∙ option_map-cons digit digits (before_line_end rest)

-- A text that does not pass is no frame.
pub no_frame : (text : List ℕ) → is_frame_digits text ≡ false → frame_in_digits text ≡ None
no_frame text fails =
    cond-false (is_frame_digits text) (Some (frame_of (byte_values text))) None fails

-- Nothing is found where no text that may be found is a frame.
spoilt_by : (digits : List ℕ) (found : Option (List ℕ))
    → ((text : List ℕ) → found ≡ Some text → is_frame_digits (digits ++ text) ≡ false)
    → option_and_then frame_in_digits (option_map (λ text. digits ++ text) found) ≡ None
spoilt_by digits None each = refl
spoilt_by digits (Some text) each = no_frame (digits ++ text) (each text refl)

-- The piece has no frame where no text up to a line end is one.
spoilt : (digits rest : List ℕ) → AreDigits digits
    → ((text : List ℕ) → before_line_end rest ≡ Some text
    → is_frame_digits (digits ++ text) ≡ false)
    → frame_in (digits ++ rest) ≡ None
spoilt digits rest are each =
    ap (option_and_then frame_in_digits) (before_line_end-digits digits rest are)
    ∙ spoilt_by digits (before_line_end rest) each

-- Another byte than a digit makes no frame.
no_digits : (digits : List ℕ) (byte : ℕ) (rest : List ℕ) → is_frame_digit byte ≡ false
    → list_all is_frame_digit (digits ++ byte ∷ rest) ≡ false
no_digits digits byte rest other =
    list_all-append is_frame_digit digits (byte ∷ rest)
    ∙ and_right (list_all is_frame_digit digits) _
    (and_left (is_frame_digit byte) (list_all is_frame_digit rest) other)

-- A text with another byte than a digit is no frame.
foreign_by : (digits : List ℕ) (byte : ℕ) (found : Option (List ℕ)) (text : List ℕ)
    → is_frame_digit byte ≡ false → option_map (λ rest. byte ∷ rest) found ≡ Some text
    → is_frame_digits (digits ++ text) ≡ false
foreign_by digits byte None text other same = cc same
foreign_by digits byte (Some rest) text other same =
    let is : byte ∷ rest ≡ text = ap (λ found. unwrap_or found []) same in
    let P : List ℕ → Type 0 = λ text. is_frame_digits (digits ++ text) ≡ false in
    subst P is (and_left (list_all is_frame_digit (digits ++ byte ∷ rest)) _
    (no_digits digits byte rest other))

-- A piece has no frame where another byte comes behind digits, and no line end.
pub foreign : (digits : List ℕ) (byte : ℕ) (more : List ℕ) → AreDigits digits
    → is_frame_digit byte ≡ false → begins_line_end (byte ∷ more) ≡ false
    → frame_in (digits ++ byte ∷ more) ≡ None
foreign digits byte more are other goes_on =
    spoilt digits (byte ∷ more) are
    (λ text found. foreign_by digits byte (before_line_end more) text other
    (sym (before_line_end-cons byte more goes_on) ∙ found))

-- Digits alone have no frame yet.
pub unended : (digits : List ℕ) → AreDigits digits → frame_in digits ≡ None
unfolding before_line_end
unended digits are =
    ap frame_in (sym (append-nil digits)) ∙ spoilt digits [] are (λ text found. cc found)

-- Digits and a line end are what the digits are.
pub at_line_end : (digits more : List ℕ) → AreDigits digits
    → frame_in (digits ++ 13 ∷ 10 ∷ more) ≡ frame_in_digits digits
unfolding before_line_end
at_line_end digits more are =
    ap (option_and_then frame_in_digits) (before_line_end-digits digits (13 ∷ 10 ∷ more) are)
    ∙ ap frame_in_digits (append-nil digits)

-- A text of another length is no frame.
no_length : (text : List ℕ) → is_frame_length (length text) ≡ false → is_frame_digits text ≡ false
no_length text fails =
    and_right (list_all is_frame_digit text) _ (and_left (is_frame_length (length text)) _ fails)

-- An odd number of digits is no frame.
pub odd : (text : List ℕ) → length text % 2 ≡ 1 → is_frame_digits text ≡ false
odd text half =
    no_length text (and_left (length text % 2 == 0) _
    (ne_eqb (length text % 2) 0 (λ even. absurd (omega arith))))

-- Half a pair before a line end is no frame.
half_ended : (digits : List ℕ) (byte : ℕ) (more : List ℕ) → AreDigits digits
    → length digits % 2 ≡ 1 → begins_line_end (byte ∷ more) ≡ true
    → frame_in (digits ++ byte ∷ more) ≡ None
half_ended digits byte [] are half ends = cc ends
half_ended digits byte (second ∷ more) are half ends =
    let parts = and_parts (byte == 13) (second == 10) ends in
    ap (λ byte. frame_in (digits ++ byte ∷ second ∷ more)) (eqb-true byte 13 parts.0)
    ∙ ap (λ second. frame_in (digits ++ 13 ∷ second ∷ more)) (eqb-true second 10 parts.1)
    ∙ at_line_end digits more are
    ∙ no_frame digits (odd digits half)

-- A piece has no frame where another byte comes behind half a pair.
pub half_lost : (digits : List ℕ) (byte : ℕ) (more : List ℕ) → AreDigits digits
    → length digits % 2 ≡ 1 → is_frame_digit byte ≡ false
    → frame_in (digits ++ byte ∷ more) ≡ None
half_lost digits byte more are half other =
    elim (cases_Bool (begins_line_end (byte ∷ more))) [
      | inl ends ↦ half_ended digits byte more are half ends
      | inr goes_on ↦ foreign digits byte more are other goes_on
    ]

-- Nor are more than 510 digits.
too_many : (text : List ℕ) → 510 < length text → is_frame_digits text ≡ false
too_many text many =
    no_length text (and_right (length text % 2 == 0) _
    (and_right (nat_le 6 (length text)) _ (lt-leb (length text) 510 many)))

-- More than 510 digits are no frame, whatever follows them.
pub overlong : (digits more : List ℕ) → AreDigits digits → 510 < length digits
    → frame_in (digits ++ more) ≡ None
overlong digits more are many =
    spoilt digits more are
    (λ text found. too_many (digits ++ text) (omega (arith, length-append digits text)))

-- Digits are no colon.
pub digits_are_no_colon : (digits : List ℕ) → AreDigits digits → list_any is_colon digits ≡ false
digits_are_no_colon [] are = refl
digits_are_no_colon (digit ∷ digits) are =
    let parts = and_parts (is_frame_digit digit) (list_all is_frame_digit digits) are in
    or_from (is_colon digit) (list_any is_colon digits) (no_colon digit parts.0)
    (digits_are_no_colon digits parts.1)

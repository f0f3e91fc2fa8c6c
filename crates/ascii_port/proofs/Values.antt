-- What digits stand for.
use Rattle.std.proofs.Common.{◌≡◌, ◌≢◌, ℕ, ◌+◌, ◌-◌, ◌*◌, ◌%◌, ◌≤◌, true, false, ◌&&◌, ◌==◌, nat_le, List, [], ◌∷◌, ◌++◌, length, refl, sym, ap, ◌∙◌, arith, Some, None}
use Rattle.std.specs.Prelude.{is_some, sum, unwrap_or}
use Rattle.ascii_port.specs.Frames.{byte_values, digits_value, frame_digit, is_frame_digit, is_frame_digits, is_frame_length}
use Rattle.ascii_port.proofs.Pieces.{AreDigits}

-- Two digits more are one byte more.
pub byte_values-more : (digits : List ℕ) (count high low : ℕ) → length digits ≡ 2 * count
    → byte_values (digits ++ high ∷ low ∷ []) ≡ byte_values digits ++ digits_value high low ∷ []
unfolding byte_values
byte_values-more [] count high low twice = refl
byte_values-more (digit ∷ []) count high low twice = absurd (omega arith)
byte_values-more (first ∷ second ∷ digits) count high low twice =
    ap (λ bytes. digits_value first second ∷ bytes)
    (byte_values-more digits (count - 1) high low (omega arith))

-- A digit that counts is one.
pub is_digit : (byte value : ℕ) → frame_digit byte ≡ Some value → is_frame_digit byte ≡ true
is_digit byte value counts = ap is_some counts

-- What counts nothing is none.
pub is_no_digit : (byte : ℕ) → frame_digit byte ≡ None → is_frame_digit byte ≡ false
is_no_digit byte none = ap is_some none

-- A digit is no line feed.
pub not_line_feed : (byte value : ℕ) → frame_digit byte ≡ Some value → byte ≢ 10
not_line_feed byte value counts line_feed =
    cc (ap frame_digit (sym line_feed) ∙ counts)

-- What two digits stand for.
pub digits_value-of : (high low h l : ℕ) → frame_digit high ≡ Some h → frame_digit low ≡ Some l
    → digits_value high low ≡ 16 * h + l
digits_value-of high low h l first second =
    ap (λ found. 16 * unwrap_or found 0 + unwrap_or (frame_digit low) 0) first
    ∙ ap (λ found. 16 * h + unwrap_or found 0) second

-- Twice as many digits as bytes are as many as a frame has exactly where the bytes are three.
length_of : (count : ℕ) → count ≤ 255 → is_frame_length (2 * count) ≡ nat_le 3 count
length_of count fits = grind (arith)

-- Digits of at most 255 bytes are a frame exactly where the bytes are.
pub is_frame_digits-of : (digits bytes : List ℕ) → AreDigits digits
    → length digits ≡ 2 * length bytes → byte_values digits ≡ bytes → length bytes ≤ 255
    → is_frame_digits digits ≡ (nat_le 3 (length bytes) && (sum bytes % 256 == 0))
is_frame_digits-of digits bytes are twice values fits =
    let counted : is_frame_length (length digits) ≡ nat_le 3 (length bytes) =
    rw twice (length_of (length bytes) fits) in
    ap (λ b. b && (is_frame_length (length digits) && (sum (byte_values digits) % 256 == 0))) are
    ∙ ap (λ b. b && (sum (byte_values digits) % 256 == 0)) counted
    ∙ ap (λ values. nat_le 3 (length bytes) && (sum values % 256 == 0)) values

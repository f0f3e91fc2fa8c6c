-- The text of a frame is one frame.
use Rattle.std.proofs.Common.{◌≡◌, ℕ, zero, suc, ◌+◌, ◌-◌, ◌*◌, ◌/◌, ◌%◌, ◌<◌, Bool, true, false, ◌==◌, nat_le, List, [], ◌∷◌, ◌++◌, length, slice_index, take, refl, ap, ◌∙◌, length-append, arith, Option, Some, None, eq-eqb, eqb-true}
use Rattle.std.specs.Prelude.{sum, unwrap_or}
use Rattle.std.specs.List.{cons_option, list_any}
use Rattle.std.proofs.lemmas.Bool.{agree_below_at, and_from, cond-true, le-leb, or_from}
use Rattle.std.proofs.Math.Seq.{take-append_seam}
use Rattle.std.proofs.lemmas.List.Sums.{sum_by_push}
use Rattle.std.proofs.lemmas.List.Folds.{list_any-append}
use Rattle.hex.specs.Hex.{IsBytes, encode_upper, encode_with, upper_digits}
use Rattle.hex.proofs.HexLemmas.{length-encode_with}
use Rattle.plant_types.specs.Words.{IsPduLength}
use Rattle.ascii_port.specs.Frames.{AsciiFrame, byte_values, check_of, frame_digit, frame_in_digits, frame_of, frame_text, frames, is_colon, is_frame_digit, is_frame_digits}
use Rattle.ascii_port.proofs.Cutting.{frames-behind}
use Rattle.ascii_port.proofs.Pieces.{AreDigits, at_line_end, digits_are_no_colon}
use Rattle.ascii_port.proofs.Values.{digits_value-of, is_digit, is_frame_digits-of}

-- A digit that is written counts what it stands for: the test of one, which computes.
abbrev counts_back : ℕ → Bool
counts_back digit = unwrap_or (frame_digit (slice_index upper_digits digit)) 99 == digit

-- A value that is not the default was found.
some_from : (found : Option ℕ) (digit : ℕ) → digit < 16 → unwrap_or found 99 ≡ digit
    → found ≡ Some digit
some_from (Some value) digit small is = ap Some is
some_from None digit small is = absurd (omega arith)

-- Each digit that is written counts what it stands for.
frame_digit-written : (digit : ℕ) → digit < 16
    → frame_digit (slice_index upper_digits digit) ≡ Some digit
frame_digit-written digit small =
    some_from (frame_digit (slice_index upper_digits digit)) digit small
    (eqb-true (unwrap_or (frame_digit (slice_index upper_digits digit)) 99) digit
    (agree_below_at counts_back (λ _. true) 16 digit refl small))

-- What is written is digits.
written_digits : (bytes : List ℕ) → IsBytes bytes → AreDigits (encode_upper bytes)
unfolding encode_with
written_digits [] are = refl
written_digits (byte ∷ bytes) are =
    let fits : byte < 256 = are 0 in
    let high : byte / 16 < 16 = omega arith in
    let low : byte % 16 < 16 = omega arith in
    and_from (is_frame_digit (slice_index upper_digits (byte / 16))) _
    (is_digit (slice_index upper_digits (byte / 16)) (byte / 16)
    (frame_digit-written (byte / 16) high))
    (and_from (is_frame_digit (slice_index upper_digits (byte % 16))) _
    (is_digit (slice_index upper_digits (byte % 16)) (byte % 16)
    (frame_digit-written (byte % 16) low))
    (written_digits bytes (λ place. are (suc place))))

-- It stands for the bytes.
written_values : (bytes : List ℕ) → IsBytes bytes → byte_values (encode_upper bytes) ≡ bytes
unfolding encode_with byte_values
written_values [] are = refl
written_values (byte ∷ bytes) are =
    let fits : byte < 256 = are 0 in
    let high : byte / 16 < 16 = omega arith in
    let low : byte % 16 < 16 = omega arith in
    let whole : 16 * (byte / 16) + byte % 16 ≡ byte = omega arith in
    ap (λ value. value ∷ byte_values (encode_upper bytes))
    (digits_value-of (slice_index upper_digits (byte / 16)) (slice_index upper_digits (byte % 16))
    (byte / 16) (byte % 16) (frame_digit-written (byte / 16) high)
    (frame_digit-written (byte % 16) low) ∙ whole)
    ∙ ap (λ values. byte ∷ values) (written_values bytes (λ place. are (suc place)))

-- An address, a PDU and a check are bytes.
bytes_more : (bytes : List ℕ) (last : ℕ) → IsBytes bytes → last < 256 → IsBytes (bytes ++ last ∷ [])
bytes_more [] last are fits zero = fits
bytes_more [] last are fits (suc place) = omega arith
bytes_more (byte ∷ bytes) last are fits zero = are 0
bytes_more (byte ∷ bytes) last are fits (suc place) =
    bytes_more bytes last (λ place. are (suc place)) fits place

-- The same with a byte in front.
bytes_before : (byte : ℕ) (bytes : List ℕ) → byte < 256 → IsBytes bytes → IsBytes (byte ∷ bytes)
bytes_before byte bytes fits are zero = fits
bytes_before byte bytes fits are (suc place) = are place

-- With their check bytes sum to 0 modulo 256.
checked : (bytes : List ℕ) → sum (bytes ++ check_of bytes ∷ []) % 256 ≡ 0
checked bytes = omega (arith, sum_by_push (λ byte. byte) bytes (check_of bytes))

-- The frame of an address, a PDU and a check.
frame_of-parts : (address : ℕ) (pdu : List ℕ) (check : ℕ)
    → frame_of (address ∷ pdu ++ check ∷ []) ≡ record { address = address; pdu = pdu }
frame_of-parts address pdu check =
    let count : suc (length (pdu ++ check ∷ [])) - 2 ≡ length pdu =
    omega (arith, length-append pdu (check ∷ [])) in
    let between : take (suc (length (pdu ++ check ∷ [])) - 2) (pdu ++ check ∷ []) ≡ pdu =
    ap (λ count. take count (pdu ++ check ∷ [])) count ∙ take-append_seam pdu (check ∷ []) in
    let made : List ℕ → AsciiFrame = λ pdu. record { address = address; pdu = pdu } in
    ap made between

-- Behind any stream the text of a frame is one more frame.
pub frames-text : (stream : List ℕ) (address : ℕ) (pdu : List ℕ)
    → address < 256 → IsBytes pdu → IsPduLength pdu
    → frames (stream ++ frame_text address pdu)
    ≡ frames stream ++ record { address = address; pdu = pdu } ∷ []
unfolding frame_text
frames-text stream address pdu fits are sized =
    let check = check_of (address ∷ pdu) in
    let bytes = address ∷ pdu ++ check ∷ [] in
    let all : IsBytes bytes =
    bytes_more (address ∷ pdu) check (bytes_before address pdu fits are) (omega arith) in
    let digits = written_digits bytes all in
    let count : length bytes ≡ length pdu + 2 = omega (arith, length-append pdu (check ∷ [])) in
    let three : nat_le 3 (length bytes) ≡ true = le-leb 3 (length bytes) (omega arith) in
    let summed : (sum bytes % 256 == 0) ≡ true =
    eq-eqb (sum bytes % 256) 0 (checked (address ∷ pdu)) in
    let passes : is_frame_digits (encode_upper bytes) ≡ true =
    is_frame_digits-of (encode_upper bytes) bytes digits (length-encode_with upper_digits bytes)
    (written_values bytes all) (omega arith)
    ∙ and_from (nat_le 3 (length bytes)) (sum bytes % 256 == 0) three summed in
    let is : frame_in_digits (encode_upper bytes) ≡ Some (frame_of bytes) =
    cond-true (is_frame_digits (encode_upper bytes))
    (Some (frame_of (byte_values (encode_upper bytes)))) None passes
    ∙ ap (λ values. Some (frame_of values)) (written_values bytes all) in
    let uncut : list_any is_colon (encode_upper bytes ++ 13 ∷ 10 ∷ []) ≡ false =
    list_any-append is_colon (encode_upper bytes) (13 ∷ 10 ∷ [])
    ∙ or_from (list_any is_colon (encode_upper bytes)) (list_any is_colon (13 ∷ 10 ∷ []))
    (digits_are_no_colon (encode_upper bytes) digits) refl in
    frames-behind stream (encode_upper bytes ++ 13 ∷ 10 ∷ []) uncut
    ∙ ap (λ found. frames stream ++ cons_option found [])
    (at_line_end (encode_upper bytes) [] digits ∙ is)
    ∙ ap (λ frame. frames stream ++ frame ∷ []) (frame_of-parts address pdu check)

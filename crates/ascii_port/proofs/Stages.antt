-- What a stage says of a stream with one more byte.
use Rattle.std.proofs.Common.{◌≡◌, ◌≢◌, ℕ, ◌+◌, ◌*◌, ◌%◌, ◌<◌, ◌≤◌, true, false, ◌&&◌, ◌==◌, nat_le, List, [], ◌∷◌, ◌++◌, length, refl, sym, ap, ◌∙◌, append-nil, append_assoc, length-append, arith, Option, Some, None}
use Rattle.std.specs.Prelude.{sum}
use Rattle.std.specs.List.{cons_option, list_all, list_any}
use Rattle.std.proofs.lemmas.Bool.{and_from, cond-true, ne_eqb, or_from}
use Rattle.std.proofs.lemmas.List.Folds.{list_all-append, list_any-append}
use Rattle.ascii_port.specs.Frames.{AsciiFrame, before_line_end, byte_values, digits_value, frame_digit, frame_in, frame_in_digits, frame_of, frames, is_colon, is_frame_digit, is_frame_digits}
use Rattle.ascii_port.specs.declared.digits.Digit.{Digit}
use Rattle.ascii_port.specs.declared.port.Stage.TheVariants.{Outside, Pairs, High, Return, Whole}
use Rattle.ascii_port.specs.Hearing.{HasDigits, IsClosed, StandsBehind}
use Rattle.ascii_port.proofs.Cutting.{frames-behind}
use Rattle.ascii_port.proofs.Pieces.{AreDigits, at_line_end, digits_are_no_colon, foreign, half_lost, no_colon, no_frame, no_return, overlong, unended}
use Rattle.ascii_port.proofs.Values.{byte_values-more, digits_value-of, is_digit, is_frame_digits-of, is_no_digit}

-- A stream that goes on is cut where it was.
cut_on : (stream bytes rest more : List ℕ) (has : HasDigits stream bytes rest)
    → stream ++ more ≡ has.earlier ++ 58 ∷ (has.digits ++ (rest ++ more))
cut_on stream bytes rest more has =
    ap (λ stream. stream ++ more) has.cut
    ∙ append_assoc has.earlier (58 ∷ (has.digits ++ rest)) more
    ∙ ap (λ piece. has.earlier ++ 58 ∷ piece) (append_assoc has.digits rest more)

-- The frames of a stream that goes on without a colon.
frames_on : (stream bytes rest more : List ℕ) (has : HasDigits stream bytes rest)
    → list_any is_colon (rest ++ more) ≡ false
    → frames (stream ++ more)
    ≡ frames has.earlier ++ cons_option (frame_in (has.digits ++ (rest ++ more))) []
frames_on stream bytes rest more has none =
    ap frames (cut_on stream bytes rest more has)
    ∙ frames-behind has.earlier (has.digits ++ (rest ++ more))
    (list_any-append is_colon has.digits (rest ++ more)
    ∙ or_from (list_any is_colon has.digits) (list_any is_colon (rest ++ more))
    (digits_are_no_colon has.digits has.are_digits) none)

-- They are those before the last colon where the piece has none yet.
frames_as : (stream bytes rest : List ℕ) (has : HasDigits stream bytes rest)
    → list_any is_colon rest ≡ false → frame_in (has.digits ++ rest) ≡ None
    → frames stream ≡ frames has.earlier
frames_as stream bytes rest has none empty =
    ap frames has.cut
    ∙ frames-behind has.earlier (has.digits ++ rest)
    (list_any-append is_colon has.digits rest
    ∙ or_from (list_any is_colon has.digits) (list_any is_colon rest)
    (digits_are_no_colon has.digits has.are_digits) none)
    ∙ ap (λ found. frames has.earlier ++ cons_option found []) empty
    ∙ append-nil (frames has.earlier)

-- A byte that brings the piece no frame adds none to the stream.
adds : (stream bytes rest : List ℕ) (byte : ℕ) (found : Option AsciiFrame)
    (has : HasDigits stream bytes rest)
    → list_any is_colon rest ≡ false → is_colon byte ≡ false
    → frame_in (has.digits ++ rest) ≡ None
    → frame_in (has.digits ++ (rest ++ byte ∷ [])) ≡ found
    → frames (stream ++ byte ∷ []) ≡ frames stream ++ cons_option found []
adds stream bytes rest byte found has none other before after =
    frames_on stream bytes rest (byte ∷ []) has
    (list_any-append is_colon rest (byte ∷ [])
    ∙ or_from (list_any is_colon rest) (list_any is_colon (byte ∷ [])) none
    (or_from (is_colon byte) false other refl))
    ∙ ap (λ found. frames has.earlier ++ cons_option found []) after
    ∙ ap (λ frames. frames ++ cons_option found [])
    (sym (frames_as stream bytes rest has none before))

-- What a byte fixes, so that nothing behind it but a colon changes it.
fixed : (stream bytes rest : List ℕ) (byte : ℕ) (found : Option AsciiFrame)
    (has : HasDigits stream bytes rest)
    → list_any is_colon rest ≡ false → is_colon byte ≡ false
    → ((more : List ℕ) → frame_in (has.digits ++ (rest ++ byte ∷ more)) ≡ found)
    → (more : List ℕ) → list_any is_colon more ≡ false
    → frames (stream ++ byte ∷ more) ≡ frames has.earlier ++ cons_option found []
fixed stream bytes rest byte found has none other stays more uncut =
    frames_on stream bytes rest (byte ∷ more) has
    (list_any-append is_colon rest (byte ∷ more)
    ∙ or_from (list_any is_colon rest) (list_any is_colon (byte ∷ more)) none
    (or_from (is_colon byte) (list_any is_colon more) other uncut))
    ∙ ap (λ found. frames has.earlier ++ cons_option found []) (stays more)

-- So the byte closes the stream.
closed : (stream bytes rest : List ℕ) (byte : ℕ) (found : Option AsciiFrame)
    (has : HasDigits stream bytes rest)
    → list_any is_colon rest ≡ false → is_colon byte ≡ false
    → ((more : List ℕ) → frame_in (has.digits ++ (rest ++ byte ∷ more)) ≡ found)
    → IsClosed (stream ++ byte ∷ [])
closed stream bytes rest byte found has none other stays more uncut =
    ap frames (append_assoc stream (byte ∷ []) more)
    ∙ fixed stream bytes rest byte found has none other stays more uncut
    ∙ sym (fixed stream bytes rest byte found has none other stays [] refl)

-- One more byte of the rest.
grown : (stream bytes rest : List ℕ) (byte : ℕ) → HasDigits stream bytes rest
    → HasDigits (stream ++ byte ∷ []) bytes (rest ++ byte ∷ [])
grown stream bytes rest byte has = record {
  earlier = has.earlier;
  digits = has.digits;
  cut = cut_on stream bytes rest (byte ∷ []) has;
  are_digits = has.are_digits;
  twice = has.twice;
  values = has.values;
}

-- Digits and one more are digits.
digits_more : (digits : List ℕ) (digit : ℕ) → AreDigits digits → is_frame_digit digit ≡ true
    → AreDigits (digits ++ digit ∷ [])
digits_more digits digit are is =
    list_all-append is_frame_digit digits (digit ∷ [])
    ∙ and_from (list_all is_frame_digit digits) (list_all is_frame_digit (digit ∷ [])) are
    (and_from (is_frame_digit digit) true is refl)

-- A colon begins a piece.
pub at_colon : (stream : List ℕ) → StandsBehind Pairs [] stream 58
unfolding before_line_end byte_values
at_colon stream = record {
  stands = record {
    earlier = stream;
    digits = [];
    cut = refl;
    are_digits = refl;
    twice = refl;
    values = refl;
  };
  grows = frames-behind stream [] refl;
}

-- Behind pairs of digits comes another digit.
pub at_high : (stream bytes : List ℕ) (byte : ℕ) (digit : Digit)
    → frame_digit byte ≡ Some digit.value
    → HasDigits stream bytes [] → StandsBehind (High digit) bytes stream byte
at_high stream bytes byte digit counts has = record {
  stands = (byte, counts, grown stream bytes [] byte has);
  grows =
      adds stream bytes [] byte None has refl (no_colon byte (is_digit byte digit.value counts))
      (ap frame_in (append-nil has.digits) ∙ unended has.digits has.are_digits)
      (unended (has.digits ++ byte ∷ [])
      (digits_more has.digits byte has.are_digits (is_digit byte digit.value counts)));
}

-- Behind pairs of digits comes a carriage return.
pub at_return : (stream bytes : List ℕ) → HasDigits stream bytes []
    → StandsBehind Return bytes stream 13
at_return stream bytes has = record {
  stands = grown stream bytes [] 13 has;
  grows =
      adds stream bytes [] 13 None has refl refl
      (ap frame_in (append-nil has.digits) ∙ unended has.digits has.are_digits)
      (foreign has.digits 13 [] has.are_digits refl refl);
}

-- The low digit makes a pair.
pub at_low : (stream bytes : List ℕ) (byte first high low : ℕ)
    → frame_digit first ≡ Some high → frame_digit byte ≡ Some low
    → HasDigits stream bytes (first ∷ [])
    → StandsBehind Pairs (bytes ++ (16 * high + low) ∷ []) stream byte
at_low stream bytes byte first high low counts counted has =
    let one = is_digit first high counts in
    let other = is_digit byte low counted in
    let begun = digits_more has.digits first has.are_digits one in
    let paired : AreDigits (has.digits ++ first ∷ byte ∷ []) =
    ap (list_all is_frame_digit) (sym (append_assoc has.digits (first ∷ []) (byte ∷ [])))
    ∙ digits_more (has.digits ++ first ∷ []) byte begun other in
    record {
      stands = record {
        earlier = has.earlier;
        digits = has.digits ++ first ∷ byte ∷ [];
        cut = cut_on stream bytes (first ∷ []) (byte ∷ []) has
            ∙ ap (λ piece. has.earlier ++ 58 ∷ piece)
            (sym (append-nil (has.digits ++ first ∷ byte ∷ [])));
        are_digits = paired;
        twice = omega (
          arith,
          has.twice,
          length-append has.digits (first ∷ byte ∷ []),
          length-append bytes ((16 * high + low) ∷ []),
        );
        values = byte_values-more has.digits (length bytes) first byte has.twice
            ∙ ap (λ values. values ++ digits_value first byte ∷ []) has.values
            ∙ ap (λ value. bytes ++ value ∷ [])
            (digits_value-of first byte high low counts counted);
      };
      grows =
          adds stream bytes (first ∷ []) byte None has
          (or_from (is_colon first) false (no_colon first one) refl)
          (no_colon byte other) (unended (has.digits ++ first ∷ []) begun)
          (unended (has.digits ++ first ∷ byte ∷ []) paired);
    }

-- A byte behind which the piece is no frame, whatever follows, closes the stream.
lost : (stream bytes rest : List ℕ) (byte : ℕ) (has : HasDigits stream bytes rest)
    → list_any is_colon rest ≡ false → is_colon byte ≡ false
    → frame_in (has.digits ++ rest) ≡ None
    → ((more : List ℕ) → frame_in (has.digits ++ (rest ++ byte ∷ more)) ≡ None)
    → StandsBehind Outside bytes stream byte
lost stream bytes rest byte has none other before stays = record {
  stands = closed stream bytes rest byte None has none other stays;
  grows = adds stream bytes rest byte None has none other before (stays []);
}

-- Behind pairs of digits comes a byte that goes with no frame.
pub past_pairs : (stream bytes : List ℕ) (byte : ℕ) → is_colon byte ≡ false
    → frame_digit byte ≡ None → byte ≢ 13 → HasDigits stream bytes []
    → StandsBehind Outside bytes stream byte
past_pairs stream bytes byte other none ne has =
    lost stream bytes [] byte has refl other
    (ap frame_in (append-nil has.digits) ∙ unended has.digits has.are_digits)
    (λ more. foreign has.digits byte more has.are_digits (is_no_digit byte none)
    (no_return byte more ne))

-- Behind 510 digits come two more.
pub past_full : (stream bytes : List ℕ) (byte first : ℕ) (high low : ℕ)
    → frame_digit first ≡ Some high → frame_digit byte ≡ Some low → length bytes ≡ 255
    → HasDigits stream bytes (first ∷ []) → StandsBehind Outside bytes stream byte
past_full stream bytes byte first high low counts counted full has =
    let one = is_digit first high counts in
    let begun = digits_more has.digits first has.are_digits one in
    let many : 510 < length (has.digits ++ first ∷ []) =
    omega (arith, has.twice, length-append has.digits (first ∷ [])) in
    lost stream bytes (first ∷ []) byte has
    (or_from (is_colon first) false (no_colon first one) refl)
    (no_colon byte (is_digit byte low counted)) (unended (has.digits ++ first ∷ []) begun)
    (λ more. ap frame_in (sym (append_assoc has.digits (first ∷ []) (byte ∷ more)))
    ∙ overlong (has.digits ++ first ∷ []) (byte ∷ more) begun many)

-- Behind the high digit of a pair comes another byte than a digit.
pub past_high : (stream bytes : List ℕ) (byte first high : ℕ) → is_colon byte ≡ false
    → frame_digit first ≡ Some high → frame_digit byte ≡ None
    → HasDigits stream bytes (first ∷ []) → StandsBehind Outside bytes stream byte
past_high stream bytes byte first high other counts none has =
    let one = is_digit first high counts in
    let begun = digits_more has.digits first has.are_digits one in
    let half : length (has.digits ++ first ∷ []) % 2 ≡ 1 =
    omega (arith, has.twice, length-append has.digits (first ∷ [])) in
    lost stream bytes (first ∷ []) byte has
    (or_from (is_colon first) false (no_colon first one) refl)
    other (unended (has.digits ++ first ∷ []) begun)
    (λ more. ap frame_in (sym (append_assoc has.digits (first ∷ []) (byte ∷ more)))
    ∙ half_lost (has.digits ++ first ∷ []) byte more begun half (is_no_digit byte none))

-- Behind a carriage return comes another byte than a line feed.
pub past_return : (stream bytes : List ℕ) (byte : ℕ) → is_colon byte ≡ false → byte ≢ 10
    → HasDigits stream bytes (13 ∷ []) → StandsBehind Outside bytes stream byte
past_return stream bytes byte other ne has =
    lost stream bytes (13 ∷ []) byte has refl other
    (foreign has.digits 13 [] has.are_digits refl refl)
    (λ more. foreign has.digits 13 (byte ∷ more) has.are_digits refl (ne_eqb byte 10 ne))

-- A line feed behind a carriage return ends what is a frame.
pub at_line_feed : (stream bytes : List ℕ) → length bytes ≤ 255
    → (nat_le 3 (length bytes) && (sum bytes % 256 == 0)) ≡ true
    → HasDigits stream bytes (13 ∷ []) → StandsBehind Whole bytes stream 10
at_line_feed stream bytes fits passes has =
    let is : frame_in_digits has.digits ≡ Some (frame_of bytes) =
    cond-true (is_frame_digits has.digits) (Some (frame_of (byte_values has.digits))) None
    (is_frame_digits-of has.digits bytes has.are_digits has.twice has.values fits ∙ passes)
    ∙ ap (λ values. Some (frame_of values)) has.values in
    let stays = λ (more : List ℕ). at_line_end has.digits more has.are_digits ∙ is in
    record {
      stands = closed stream bytes (13 ∷ []) 10 (Some (frame_of bytes)) has refl refl stays;
      grows = adds stream bytes (13 ∷ []) 10 (Some (frame_of bytes)) has refl refl
          (foreign has.digits 13 [] has.are_digits refl refl) (stays []);
    }

-- What is no frame ends with a line feed too.
pub past_line_feed : (stream bytes : List ℕ) → length bytes ≤ 255
    → (nat_le 3 (length bytes) && (sum bytes % 256 == 0)) ≡ false
    → HasDigits stream bytes (13 ∷ []) → StandsBehind Outside bytes stream 10
past_line_feed stream bytes fits fails has =
    lost stream bytes (13 ∷ []) 10 has refl refl
    (foreign has.digits 13 [] has.are_digits refl refl)
    (λ more. at_line_end has.digits more has.are_digits
    ∙ no_frame has.digits
    (is_frame_digits-of has.digits bytes has.are_digits has.twice has.values fits ∙ fails))

-- Modbus frames in ASCII on a stream of bytes. Modicon Modbus Protocol Reference Guide (PI-MBUS-300);
-- how many digits a frame has, and what else stands on a stream, is this project's own.
use Rattle.std.specs.Prelude.{ℕ, ◌+◌, ◌-◌, ◌*◌, ◌%◌, Bool, false, ◌&&◌, ◌==◌, nat_le}
use Rattle.std.specs.Prelude.{if◌then◌else◌, List, [], ◌∷◌, ◌++◌, codes, drop, filter_map, length}
use Rattle.std.specs.Prelude.{slice_index, sum, take, Option, Some, None, is_some, option_map}
use Rattle.std.specs.Prelude.{option_and_then, unwrap_or}
use Rattle.std.specs.List.{list_all, slice_split}
use Rattle.hex.specs.Hex.{encode_upper}

-- A frame: the address of the device, and the PDU.
pub record AsciiFrame : Type 0 where
  pub address : ℕ
  pub pdu : List ℕ

-- What a digit counts: 0 to 9, or a capital A to F. Nothing else is one.
abbrev pub frame_digit : ℕ → Option ℕ
frame_digit byte =
    if nat_le 48 byte && nat_le byte 57 then Some (byte - 48)
    else if nat_le 65 byte && nat_le byte 70 then Some (byte - 55)
    else None

-- Whether a byte is a digit.
abbrev pub is_frame_digit : ℕ → Bool
is_frame_digit byte = is_some (frame_digit byte)

-- The byte that two digits stand for, the high one first.
abbrev pub digits_value : ℕ → ℕ → ℕ
digits_value high low = 16 * unwrap_or (frame_digit high) 0 + unwrap_or (frame_digit low) 0

-- The bytes that digits stand for, two digits each.
unfoldable pub byte_values : List ℕ → List ℕ
byte_values (high ∷ low ∷ rest) = digits_value high low ∷ byte_values rest
byte_values _ = []

-- The most bytes of a frame, two digits each.
abbrev pub most_frame_bytes : ℕ
most_frame_bytes = 255

-- A frame has an even number of digits, 6 to 510.
abbrev pub is_frame_length : ℕ → Bool
is_frame_length count = (count % 2 == 0) && (nat_le 6 count && nat_le count 510)

-- The digits of a frame: as many as a frame has, with bytes that sum to 0 modulo 256.
abbrev pub is_frame_digits : List ℕ → Bool
is_frame_digits text =
    list_all is_frame_digit text
    && (is_frame_length (length text) && (sum (byte_values text) % 256 == 0))

-- The frame of bytes: the first is the address, the last the check, and the PDU is between them.
abbrev pub frame_of : List ℕ → AsciiFrame
frame_of bytes =
    record { address = slice_index bytes 0; pdu = take (length bytes - 2) (drop 1 bytes) }

-- The frame that a text is, if it is one.
abbrev pub frame_in_digits : List ℕ → Option AsciiFrame
frame_in_digits text = if is_frame_digits text then Some (frame_of (byte_values text)) else None

-- A line end is a carriage return with a line feed.
abbrev pub begins_line_end : List ℕ → Bool
begins_line_end (first ∷ second ∷ _) = (first == 13) && (second == 10)
begins_line_end _ = false

-- What stands before the first line end, where there is one.
unfoldable pub before_line_end : List ℕ → Option (List ℕ)
before_line_end [] = None
before_line_end (byte ∷ rest) =
    if begins_line_end (byte ∷ rest) then Some []
    else option_map (λ text. byte ∷ text) (before_line_end rest)

-- The frame that a piece between colons is up to its line end, if it is one.
abbrev pub frame_in : List ℕ → Option AsciiFrame
frame_in piece = option_and_then frame_in_digits (before_line_end piece)

-- A colon cuts a stream.
abbrev pub is_colon : ℕ → Bool
is_colon byte = byte == 58

-- The frames on a stream: it is cut at each colon, and what stands before the first is dropped.
unfoldable pub frames : List ℕ → List AsciiFrame
frames stream = filter_map frame_in (drop 1 (slice_split is_colon stream))

-- The check of bytes makes their sum 0 modulo 256.
abbrev pub check_of : List ℕ → ℕ
check_of bytes = (256 - sum bytes % 256) % 256

-- A frame as it is written: a colon, two digits a byte, and a carriage return with a line feed.
unfoldable pub frame_text : ℕ → List ℕ → List ℕ
frame_text address pdu =
    codes ":" ++ encode_upper (address ∷ pdu ++ check_of (address ∷ pdu) ∷ []) ++ codes "\r\n"

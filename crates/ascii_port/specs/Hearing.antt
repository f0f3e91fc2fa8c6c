-- How far a port has come on a stream. This project's own.
use Rattle.std.specs.Prelude.{◌≡◌, ℕ, ◌*◌, ◌≤◌, false, true, List, [], ◌∷◌, ◌++◌, length, Some}
use Rattle.std.specs.List.{list_all, list_any}
use Rattle.ascii_port.specs.Frames.{AsciiFrame, byte_values, frame_digit, frame_of, frames}
use Rattle.ascii_port.specs.Frames.{is_colon, is_frame_digit}
use Rattle.ascii_port.specs.declared.port.Fed.{Fed}
use Rattle.ascii_port.specs.declared.port.Fed.TheVariants.{More, Frame}
use Rattle.ascii_port.specs.declared.port.Port.{Port}
use Rattle.ascii_port.specs.declared.port.Stage.{Stage}
use Rattle.ascii_port.specs.declared.port.Stage.TheVariants.{Outside, Pairs, High, Return, Whole}

-- However a stream goes on until the next colon, it has no more frames.
abbrev pub IsClosed : List ℕ → Type 0
IsClosed stream =
    (more : List ℕ) → list_any is_colon more ≡ false → frames (stream ++ more) ≡ frames stream

-- Behind its last colon a stream has two digits for each of these bytes, and then this rest.
pub record HasDigits (stream bytes rest : List ℕ) : Type 0 where
  pub earlier : List ℕ
  pub digits : List ℕ
  pub cut : stream ≡ earlier ++ 58 ∷ (digits ++ rest)
  pub are_digits : list_all is_frame_digit digits ≡ true
  pub twice : length digits ≡ 2 * length bytes
  pub values : byte_values digits ≡ bytes

-- What a stage says of the stream.
abbrev pub HasCome : Stage → List ℕ → List ℕ → Type 0
HasCome Outside bytes stream = IsClosed stream
HasCome Pairs bytes stream = HasDigits stream bytes []
HasCome (High high) bytes stream =
    (digit : ℕ) × (frame_digit digit ≡ Some high.value) × HasDigits stream bytes (digit ∷ [])
HasCome Return bytes stream = HasDigits stream bytes (13 ∷ [])
HasCome Whole bytes stream = IsClosed stream

-- The frame that ends with the last byte, where a stage says so.
abbrev pub ended : Stage → List ℕ → List AsciiFrame
ended Whole bytes = frame_of bytes ∷ []
ended _ bytes = []

-- What a stage says of the stream with one more byte, and the frame that the byte ended.
pub record StandsBehind (stage : Stage) (bytes stream : List ℕ) (byte : ℕ) : Type 0 where
  pub stands : HasCome stage bytes (stream ++ byte ∷ [])
  pub grows : frames (stream ++ byte ∷ []) ≡ frames stream ++ ended stage bytes

-- The bytes that a port has taken are this stream.
abbrev pub HasHeard : Port → List ℕ → Type 0
HasHeard port stream = HasCome port.stage port.bytes stream

-- The last byte that a port has taken ended a frame.
pub record HasFrame (port : Port) : Type 0 where
  pub whole : port.stage ≡ Whole
  pub fits : 3 ≤ length port.bytes

-- The frame that a port answers with, if it does.
abbrev pub frame_told : Port → Fed → List AsciiFrame
frame_told port More = []
frame_told port Frame = frame_of port.bytes ∷ []

-- A port takes the next byte of a stream: the stream gets the frame that the port answers with,
-- and none where it answers More.
pub record HearsByte (port : Port) (stream : List ℕ) (byte : ℕ) (fed : Fed) : Type 0 where
  pub heard : HasHeard port (stream ++ byte ∷ [])
  pub grows : frames (stream ++ byte ∷ []) ≡ frames stream ++ frame_told port fed

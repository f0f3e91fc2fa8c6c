-- What the fields of a journal are read as. This project's own.
use Rattle.std.specs.Prelude.{◌≡◌, ℕ, ◌+◌, ◌*◌, ◌==◌, ◌^◌, ◌&&◌, Bool, not, nat_le, nat_lt}
use Rattle.std.specs.Prelude.{if◌then◌else◌, codes, List, [], ◌∷◌, length, Option, Some, None}
use Rattle.std.specs.Prelude.{Result, Ok, Err}
use Rattle.std.specs.List.{list_all, slice_split}
use Rattle.std.specs.Str.{bytes_eq}
use Rattle.hex.specs.Hex.{decode_of}
use Rattle.plant_types.specs.Numerals.{value_of, is_numeral_up_to}
use Rattle.plant_types.specs.Routes.{route_limit}
use Rattle.plant_types.specs.Words.{pdu_of, most_block_words}
use Rattle.mstr_block.specs.declared.call.CallId.{CallId}
use Rattle.journal_reading.specs.declared.cutting.LineFault.{LineFault}
use Rattle.journal_reading.specs.declared.cutting.LineFault.TheVariants as faults

-- One part after another, while each is read.
infixl 10 ◌>>=◌
abbrev pub ◌>>=◌ : {A B : Type 0} → Option A → (A → Option B) → Option B
(Some value) >>= more = more value
None >>= more = None

-- What a reader answered, unless memory ran out.
abbrev pub Refuses : {V : Type 0} → LineFault → Option V → Type 0
Refuses faults.NoMemory read = Unit {0}
Refuses faults.Wrong read = read ≡ None

abbrev pub Reads : {A V : Type 0} → (A → V) → Result A LineFault → Option V → Type 0
Reads view (Ok value) read = read ≡ Some (view value)
Reads view (Err fault) read = Refuses fault read

-- What stands before the first byte of its kind, and after it.
unfoldable pub cut : ℕ → List ℕ → Option (List ℕ × List ℕ)
cut at [] = None
cut at (byte ∷ bytes) =
    if byte == at then Some ([], bytes)
    else (cut at bytes >>= λ parts. Some (byte ∷ parts.0, parts.1))

-- What stands after a prefix.
unfoldable pub behind : List ℕ → List ℕ → Option (List ℕ)
behind [] text = Some text
behind (byte ∷ front) [] = None
behind (byte ∷ front) (first ∷ text) = if first == byte then behind front text else None

-- What is read of a value, or else otherwise; and after the first prefix of a table.
abbrev pub read_or : {A V : Type 0} → Option A → (A → Option V) → Option V → Option V
read_or (Some value) read other = read value
read_or None read other = other

abbrev pub Form : Type 0 → Type 0
Form V = List ℕ × (List ℕ → Option V)

abbrev pub read_first : {V : Type 0} → List (Form V) → Option V → List ℕ → Option V
read_first [] other text = other
read_first (form ∷ forms) other text =
    read_or (behind form.0 text) form.1 (read_first forms other text)

-- What is made of what is read, and two parts with a byte between them.
abbrev pub read_as : {A V : Type 0} → (A → V) → (List ℕ → Option A) → List ℕ → Option V
read_as make read text = read text >>= λ value. Some (make value)

abbrev pub read_pair : {A B : Type 0} → (List ℕ → Option A) → (List ℕ → Option B) → ℕ → List ℕ
    → Option (A × B)
read_pair first second at text =
    cut at text >>= λ parts. first parts.0 >>= λ one. second parts.1 >>= λ other.
    Some (one, other)

-- Values with a byte between each two.
abbrev pub read_each : {V : Type 0} → (List ℕ → Option V) → List (List ℕ) → Option (List V)
read_each read [] = Some []
read_each read (text ∷ texts) =
    read text >>= λ value. read_each read texts >>= λ values. Some (value ∷ values)

abbrev pub read_parts : {V : Type 0} → (List ℕ → Option V) → ℕ → List ℕ → Option (List V)
read_parts read at text = read_each read (slice_split (λ byte. byte == at) text)

-- A number in decimal digits, at most ten, without a leading zero.
abbrev pub read_number : ℕ → List ℕ → Option ℕ
read_number limit text =
    if is_numeral_up_to 10 text && nat_lt (value_of text) limit then Some (value_of text) else None

unfoldable pub read_small : List ℕ → Option ℕ
read_small text = read_number (2 ^ 8) text

unfoldable pub read_word : List ℕ → Option ℕ
read_word text = read_number (2 ^ 16) text

unfoldable pub read_long : List ℕ → Option ℕ
read_long text = read_number (2 ^ 32) text

-- The name of a call.
abbrev pub id_from : ℕ × (ℕ × ℕ) → CallId
id_from parts = record { node = parts.0; path = parts.1.0; seq = parts.1.1 }

unfoldable pub read_id : List ℕ → Option CallId
read_id text = read_as id_from (read_pair read_small (read_pair read_small read_long 46) 46) text

-- Addresses with points between them, and how many of them a route can have.
unfoldable pub read_addresses : List ℕ → Option (List ℕ)
read_addresses text = read_parts read_small 46 text

abbrev pub if_route : List ℕ → Option (List ℕ)
if_route addresses = if nat_le (length addresses) route_limit then Some addresses else None

unfoldable pub read_route : List ℕ → Option (List ℕ)
read_route text = read_addresses text >>= if_route

-- A route, where a dash stands for none.
unfoldable pub read_route_or_dash : List ℕ → Option (List ℕ)
read_route_or_dash text = if bytes_eq text (codes "-") then Some [] else read_route text

-- Where a frame goes, and a route from there on.
abbrev pub way_from : List ℕ → Option (ℕ × List ℕ)
way_from [] = None
way_from (to ∷ rest) = if_route rest >>= λ route. Some (to, route)

unfoldable pub read_way : List ℕ → Option (ℕ × List ℕ)
read_way text = read_addresses text >>= way_from

-- Bytes in hexadecimal digits, of which none is a capital.
abbrev pub is_capital : ℕ → Bool
is_capital byte = nat_le 65 byte && nat_le byte 90

abbrev pub decoded : {E : Type 0} → Result (List ℕ) E → Option (List ℕ)
decoded (Ok bytes) = Some bytes
decoded (Err fault) = None

unfoldable pub read_hex_bytes : List ℕ → Option (List ℕ)
read_hex_bytes text =
    if list_all (λ byte. not (is_capital byte)) text then decoded (decode_of text) else None

unfoldable pub read_pdu : List ℕ → Option (List ℕ)
read_pdu text = do
  bytes ← read_hex_bytes text
  pdu_of bytes

-- The words that bytes are, two of them each.
abbrev pub words_joined : List ℕ → Option (List ℕ)
words_joined [] = Some []
words_joined (high ∷ []) = None
words_joined (high ∷ low ∷ bytes) =
    words_joined bytes >>= λ words. Some ((high * 256 + low) ∷ words)

abbrev pub one_word : List ℕ → Option ℕ
one_word (word ∷ []) = Some word
one_word _ = None

abbrev pub some_words : List ℕ → Option (List ℕ)
some_words [] = None
some_words words = Some words

-- Some words one after another; words, where a dash stands for none; and one word.
unfoldable pub read_joined : List ℕ → Option (List ℕ)
read_joined text = do
  bytes ← read_hex_bytes text
  words ← words_joined bytes
  some_words words

unfoldable pub read_hex_words : List ℕ → Option (List ℕ)
read_hex_words text = if bytes_eq text (codes "-") then Some [] else read_joined text

unfoldable pub read_hex_word : List ℕ → Option ℕ
read_hex_word text = do
  words ← read_joined text
  one_word words

unfoldable pub read_block : List ℕ → Option (List ℕ)
read_block text = do
  words ← read_hex_words text
  if nat_le (length words) most_block_words then Some words else None

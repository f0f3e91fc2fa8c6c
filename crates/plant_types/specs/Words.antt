-- The sizes of the lists that requests and replies carry.
use Rattle.std.specs.Prelude.{◌≤◌, ℕ, ◌&&◌, nat_le, if◌then◌else◌, List, length, Option, Some, None}

-- The most bytes of a PDU, and the most words of a block. This project's own.
abbrev pub most_pdu_bytes : ℕ
most_pdu_bytes = 253

abbrev pub most_block_words : ℕ
most_block_words = 100

-- The words of the statistics of a station, of which some are read at a time. This project's own.
abbrev pub statistics_words : ℕ
statistics_words = 20

-- The most words of global data that go with a token. Modbus Plus Network Planning and Installation
-- Guide.
abbrev pub global_limit : ℕ
global_limit = 32

-- A PDU has 1 to 253 bytes. This project's own bounds.
abbrev pub IsPduLength : List ℕ → Type 0
IsPduLength bytes = (1 ≤ length bytes) × (length bytes ≤ most_pdu_bytes)

-- The PDU that bytes make, where they are as many as a PDU has. This project's own.
abbrev pub pdu_of : List ℕ → Option (List ℕ)
pdu_of bytes =
    if nat_le 1 (length bytes) && nat_le (length bytes) most_pdu_bytes then Some bytes else None

-- The words of a block are at most as many as it holds. This project's own.
abbrev pub FitsBlock : List ℕ → Type 0
FitsBlock words = length words ≤ most_block_words

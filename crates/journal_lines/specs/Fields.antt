-- Numbers, names, words and bytes as a journal has them. This project's own.
use Rattle.std.specs.Prelude.{codes, false, ℕ, ◌/◌, ◌%◌, List, [], ◌∷◌, ◌++◌, map}
use Rattle.std.specs.Fmt.{decimal, digits}
use Rattle.std.specs.List.{flat_map, join_with_byte}
use Rattle.mstr_block.specs.declared.call.CallId.{CallId}
use Rattle.mstr_block.specs.declared.call.MstrResult.{MstrResult}
use Rattle.mstr_block.specs.declared.call.MstrResult.TheVariants.{Good, Bad}
use Rattle.ring_core.specs.declared.entry.LocalOp.{LocalOp}
use Rattle.ring_core.specs.declared.entry.LocalOp.TheVariants as ops

-- A digit from 0 to f.
abbrev pub small_digit : ℕ → List ℕ
small_digit digit = digits 16 false digit

-- A byte has two hexadecimal digits, a word four.
abbrev pub hex_byte : ℕ → List ℕ
hex_byte byte = small_digit (byte / 16) ++ small_digit (byte % 16)

abbrev pub hex_word : ℕ → List ℕ
hex_word word =
    small_digit (word / 4096) ++ small_digit (word / 256 % 16)
    ++ small_digit (word / 16 % 16) ++ small_digit (word % 16)

-- Bytes are joined, and so are words; where there are no words stands a dash.
abbrev pub hex_bytes : List ℕ → List ℕ
hex_bytes bytes = flat_map hex_byte bytes

abbrev pub hex_words : List ℕ → List ℕ
hex_words [] = codes "-"
hex_words (word ∷ words) = flat_map hex_word (word ∷ words)

-- The name of a call: who calls, the path, and the number there.
abbrev pub id_text : CallId → List ℕ
id_text id = decimal id.node ++ codes "." ++ decimal id.path ++ codes "." ++ decimal id.seq

-- A route: its addresses, with points between them.
abbrev pub route_text : List ℕ → List ℕ
route_text route = join_with_byte 46 (map decimal route)

-- A route, or the dash that stands for none.
abbrev pub route_or_dash : List ℕ → List ℕ
route_or_dash [] = codes "-"
route_or_dash (to ∷ rest) = route_text (to ∷ rest)

-- An address after a point.
abbrev pub behind_point : ℕ → List ℕ
behind_point address = codes "." ++ decimal address

-- What is asked of a node's own port.
abbrev pub op_text : LocalOp → List ℕ
op_text ops.GetStats = codes "GS"
op_text ops.ClearStats = codes "CS"
op_text (ops.PutGlobal words) = codes "PG:" ++ hex_words words
op_text (ops.GetGlobal node count) =
    codes "GG:" ++ decimal node ++ codes ":" ++ decimal count
op_text ops.RemoteGet = codes "RG"
op_text ops.RemoteClear = codes "RC"

-- What a call came to: words, or an error word.
abbrev pub call_result_text : MstrResult → List ℕ
call_result_text (Good words) = codes "G " ++ hex_words words
call_result_text (Bad word) = codes "B " ++ hex_word word

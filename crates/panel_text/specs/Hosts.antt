-- The lines of hosts. All of it is this project's own.
use Rattle.std.specs.Prelude.{codes, ℕ, ◌+◌, ◌/◌, ◌%◌, if◌then◌else◌, List, [], ◌∷◌, ◌++◌}
use Rattle.std.specs.Prelude.{Option, Some, None, slice_get}
use Rattle.std.specs.Fmt.{decimal}
use Rattle.std.specs.List.{enumerate_from, filter_map, flat_map}
use Rattle.hex.specs.Hex.{encode_lower}
use Rattle.mstr_block.specs.declared.call.CallId.{CallId}
use Rattle.mstr_block.specs.Call.{is_same_call}
use Rattle.host_port.specs.declared.entry.HostEntry.{HostEntry}
use Rattle.host_port.specs.declared.entry.HostEntry.TheVariants.{Ask, Answer, Served}
use Rattle.host_port.specs.declared.entry.HostResult.{HostResult}
use Rattle.host_port.specs.declared.entry.HostResult.TheVariants.{Reply, Bad}
use Rattle.host_port.specs.Calls.{requests_in}

-- What an entry says that a call came to.
abbrev pub outcome_by : CallId → HostEntry → Option HostResult
outcome_by id (Ask other route pdu) = None
outcome_by id (Answer other result) = if is_same_call id other then Some result else None
outcome_by id (Served other request reply) = None

-- What a call came to, by the entries of a host.
abbrev pub result_in : List HostEntry → CallId → Option HostResult
result_in entries id = slice_get (filter_map (outcome_by id) entries) 0

-- A word in four hexadecimal digits, with small letters.
abbrev pub hex_word_text : ℕ → List ℕ
hex_word_text word = encode_lower (word / 256 ∷ word % 256 ∷ [])

-- A result: the bytes of the reply, or the error word.
abbrev pub host_result_text : HostResult → List ℕ
host_result_text (Reply pdu) = encode_lower pdu
host_result_text (Bad word) = codes "ERR " ++ hex_word_text word

-- The line of a host's request, with its number, once it came to something.
abbrev pub ask_line : ℕ → ℕ → Option HostResult → List ℕ
ask_line node number None = []
ask_line node number (Some result) =
    codes "H " ++ decimal node ++ codes " " ++ decimal number ++ codes " "
    ++ host_result_text result ++ codes "\n"

-- The line of an entry, if it is a request, where so many were made before it, by the entries
-- after it.
abbrev pub entry_lines : ℕ → ℕ → List HostEntry → HostEntry → List ℕ
entry_lines node number behind entry =
    flat_map (λ ask. ask_line node ask.0 (result_in behind ask.1.id))
    (enumerate_from (number + 1) (requests_in (entry ∷ [])))

-- The lines of a host: one for each of its requests, numbered from 1 in the order in which they
-- were made.
abbrev pub host_lines : ℕ → List HostEntry → List ℕ
host_lines node entries =
    flat_map (λ ask. ask_line node ask.0 (result_in entries ask.1.id))
    (enumerate_from 1 (requests_in entries))

-- What a call of another node came to, by its request and the reply.
use Rattle.std.specs.Prelude.{◌≡◌, ℕ, ◌+◌, ◌*◌, ◌-◌, ◌/◌, ◌^◌, ◌==◌, ◌&&◌, ◌||◌, Bool}
use Rattle.std.specs.Prelude.{nat_le, if◌then◌else◌, List, [], ◌∷◌, length, take, drop, slice_index}
use Rattle.std.specs.Prelude.{Option, Some, None}
use Rattle.std.specs.Str.{bytes_eq}
use Rattle.ring_core.specs.MstrBlock.{Bad, Good, MstrResult}
use Rattle.modbus_pdu.specs.Bytes.{word_in, words_in, bytes_for, spare_count}
use Rattle.modbus_pdu.specs.Quantities.{is_up_to, most_discretes_read, most_registers_read}
use Rattle.modbus_pdu.specs.Quantities.{most_coils_written, most_registers_written}
use Rattle.modbus_pdu.specs.Quantities.{most_registers_exchanged}
use Rattle.modbus_pdu.specs.Spelling.{exception_code}
use Rattle.ring_core.specs.Statistics.{get_statistics, clear_statistics}

-- The function code of a PDU. Modicon Modbus Protocol Reference Guide.
abbrev pub function_in : List ℕ → ℕ
function_in pdu = slice_index pdu 0

-- A request that reads, with an address and a quantity. Modicon Modbus Protocol Reference Guide.
abbrev pub reads : ℕ → List ℕ → Bool
reads most ask = length ask == 5 && is_up_to most (word_in ask 3)

abbrev pub reads_discretes : List ℕ → Bool
reads_discretes ask =
    (function_in ask == 1 || function_in ask == 2) && reads most_discretes_read ask

abbrev pub reads_registers : List ℕ → Bool
reads_registers ask =
    (function_in ask == 3 || function_in ask == 4) && reads most_registers_read ask

-- The request that writes registers and reads others. Modicon Modbus Protocol Reference Guide.
abbrev pub exchanges_registers : List ℕ → Bool
exchanges_registers ask =
    function_in ask == 23
    && nat_le 10 (length ask)
    && is_up_to most_registers_read (word_in ask 3)
    && is_up_to most_registers_exchanged (word_in ask 7)
    && slice_index ask 9 == 2 * word_in ask 7
    && length ask == 10 + 2 * word_in ask 7

-- Requests that write many, with an address, a quantity and a count of bytes. Modicon Modbus
-- Protocol Reference Guide.
abbrev pub has_byte_count : ℕ → List ℕ → Bool
has_byte_count size ask = slice_index ask 5 == size && length ask == 6 + size

abbrev pub writes_coils : List ℕ → Bool
writes_coils ask =
    function_in ask == 15
    && nat_le 6 (length ask)
    && is_up_to most_coils_written (word_in ask 3)
    && has_byte_count (bytes_for (word_in ask 3)) ask

abbrev pub writes_registers : List ℕ → Bool
writes_registers ask =
    function_in ask == 16
    && nat_le 6 (length ask)
    && is_up_to most_registers_written (word_in ask 3)
    && has_byte_count (2 * word_in ask 3) ask

-- Requests whose reply is the request again: a coil, a register, an echo, a mask, and a clear of
-- the statistics. Modicon Modbus Protocol Reference Guide.
abbrev pub writes_coil : List ℕ → Bool
writes_coil ask =
    function_in ask == 5 && length ask == 5 && (word_in ask 3 == 0xff00 || word_in ask 3 == 0)

abbrev pub echoes : List ℕ → Bool
echoes ask = function_in ask == 8 && length ask == 5 && word_in ask 1 == 0

abbrev pub is_echoed : List ℕ → Bool
is_echoed ask =
    writes_coil ask
    || (function_in ask == 6 && length ask == 5)
    || echoes ask
    || (function_in ask == 22 && length ask == 7)
    || bytes_eq ask clear_statistics

-- A reply of the request's function with so many bytes behind their count. Modicon Modbus
-- Protocol Reference Guide.
abbrev pub tells_bytes : ℕ → List ℕ → List ℕ → Bool
tells_bytes size ask reply =
    length reply == 2 + size && function_in reply == function_in ask && slice_index reply 1 == size

-- The spare bits of the last byte are 0. Modicon Modbus Protocol Reference Guide.
abbrev pub has_clear_spare : ℕ → List ℕ → Bool
has_clear_spare quantity reply =
    slice_index reply (bytes_for quantity + 1) / 2 ^ (8 - spare_count quantity) == 0

abbrev pub tells_bits : ℕ → List ℕ → List ℕ → Bool
tells_bits quantity ask reply =
    tells_bytes (bytes_for quantity) ask reply && has_clear_spare quantity reply

-- A reply with the twenty words of statistics. Modicon Modbus Protocol Reference Guide.
abbrev pub tells_statistics : List ℕ → Bool
tells_statistics reply = length reply == 45 && bytes_eq (take 5 reply) get_statistics

-- A reply that fits a request, and is no exception. Modicon Modbus Protocol Reference Guide.
abbrev pub fits_words : List ℕ → List ℕ → Bool
fits_words ask reply =
    (reads_registers ask || exchanges_registers ask) && tells_bytes (2 * word_in ask 3) ask reply

abbrev pub fits_statistics : List ℕ → List ℕ → Bool
fits_statistics ask reply = bytes_eq ask get_statistics && tells_statistics reply

abbrev pub fits_plainly : List ℕ → List ℕ → Bool
fits_plainly ask reply =
    (reads_discretes ask && tells_bits (word_in ask 3) ask reply)
    || (is_echoed ask && bytes_eq reply ask)
    || ((writes_coils ask || writes_registers ask) && bytes_eq reply (take 5 ask))

-- The bytes of the words that a fitting reply tells; none where it doesn't fit.
abbrev pub told_bytes : List ℕ → List ℕ → Option (List ℕ)
told_bytes ask reply =
    if fits_words ask reply then Some (drop 2 reply)
    else if fits_statistics ask reply then Some (drop 5 reply)
    else if fits_plainly ask reply then Some []
    else None

-- What a reply tells: these bytes, or none.
abbrev pub IsTold : List ℕ → List ℕ → List ℕ → Type 0
IsTold ask reply bytes = told_bytes ask reply ≡ Some bytes

abbrev pub TellsNone : List ℕ → List ℕ → Type 0
TellsNone ask reply = told_bytes ask reply ≡ None

-- The code of an exception reply to a request, whatever it is. Modicon Modbus Protocol Reference
-- Guide.
abbrev pub exception_told : ℕ → List ℕ → Option ℕ
exception_told function (first ∷ code ∷ []) =
    if first == exception_code function then Some code else None
exception_told function _ = None

-- The error word of a reply that tells no result, and the first of those of exceptions, each of
-- which is that word and the exception's code. This project's own.
abbrev pub no_result_word : ℕ
no_result_word = 0x3000

-- What a reply comes to that gives no result.
abbrev pub no_result : MstrResult
no_result = Bad no_result_word

-- What an exception with a code comes to.
abbrev pub exception_result : ℕ → MstrResult
exception_result code = Bad (no_result_word + code)

-- The result that words make; none where they are more than a block has. This project's own.
abbrev pub good : Option (List ℕ) → MstrResult
good None = no_result
good (Some bytes) = if nat_le (length bytes) 200 then Good (words_in bytes) else no_result

abbrev pub or_good : Option ℕ → Option (List ℕ) → MstrResult
or_good (Some code) told = exception_result code
or_good None told = good told

-- The result of a reply. This project's own.
abbrev pub result_of : List ℕ → List ℕ → MstrResult
result_of ask reply = or_good (exception_told (function_in ask) reply) (told_bytes ask reply)

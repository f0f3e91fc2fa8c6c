-- What is answered by the grammar of requests.
use Rattle.std.specs.Prelude.{◌≡◌, ℕ, List, slice_index}
use Rattle.plant_types.specs.Store.{Contents}
use Rattle.modbus_pdu.specs.declared.request.Request.{Request}
use Rattle.modbus_pdu.specs.Decoding.{IsUnlisted, IsMisformed}
use Rattle.modbus_pdu.specs.Exceptions.{illegal_function, illegal_value}
use Rattle.modbus_pdu.specs.Spelling.{Spells, function_of}
use Rattle.modbus_exec.specs.Answer.{answer_of, answer_with, execution_of, refusal}

-- Bytes whose function is not served are answered exception 1. This project's own.
abbrev pub UnlistedAreRefused : Type 0
UnlistedAreRefused = (bytes : List ℕ) (m : Contents) → IsUnlisted bytes
    → answer_of bytes m ≡ refusal (slice_index bytes 0) illegal_function m

-- Bytes whose function is served and that spell no request are answered exception 3. This
-- project's own.
abbrev pub MisformedAreRefused : Type 0
MisformedAreRefused = (bytes : List ℕ) (m : Contents) → IsMisformed bytes
    → answer_of bytes m ≡ refusal (slice_index bytes 0) illegal_value m

-- Bytes that spell a request are answered what it comes to. This project's own.
abbrev pub SpelledAreExecuted : Type 0
SpelledAreExecuted = (bytes : List ℕ) (m : Contents) (request : Request) → Spells bytes request
    → answer_of bytes m ≡ answer_with (function_of request) (execution_of request m) m

-- Which bytes are requests and replies, and why others are none. This project's own order: the
-- function first, then all of the form.
use Rattle.std.specs.Prelude.{◌≡◌, ℕ, true, false, List, slice_index, ◌⊎◌, ⊤}
use Rattle.modbus_pdu.specs.Exceptions.{illegal_function, illegal_value}
use Rattle.modbus_pdu.specs.Spelling.{Spells, is_listed, SpellsReply, IsReplyTo}
use Rattle.modbus_pdu.specs.declared.end.DecodeEnd.{DecodeEnd}
use Rattle.modbus_pdu.specs.declared.end.DecodeEnd.TheVariants as ends
use Rattle.modbus_pdu.specs.declared.reply.Reply.{Reply}
use Rattle.modbus_pdu.specs.declared.request.Request.{Request}

-- The bytes begin with a function that is not served.
abbrev pub IsUnlisted : List ℕ → Type 0
IsUnlisted bytes = is_listed (slice_index bytes 0) ≡ false

-- The bytes are a spelling of a request.
abbrev pub IsSpelled : List ℕ → Type 0
IsSpelled bytes = (request : Request) × Spells bytes request

-- The bytes are a spelling of no other request.
abbrev pub IsOnlyRequest : List ℕ → Request → Type 0
IsOnlyRequest bytes request = (other : Request) → Spells bytes other → other ≡ request

-- The bytes are a spelling of no request.
abbrev pub IsUnspelled : List ℕ → Type 0
IsUnspelled bytes = (request : Request) → ¬ Spells bytes request

-- The bytes begin with a function that is served, and are a spelling of no request.
abbrev pub IsMisformed : List ℕ → Type 0
IsMisformed bytes = (is_listed (slice_index bytes 0) ≡ true) × IsUnspelled bytes

-- The ends that decoding has.
abbrev pub IsDecodeEnd : DecodeEnd → Type 0
IsDecodeEnd (ends.Exception code) = (code ≡ illegal_function) ⊎ (code ≡ illegal_value)
IsDecodeEnd ends.NoMemory = ⊤

-- A reply has one spelling at most.
abbrev pub HasOneSpelling : Reply → Type 0
HasOneSpelling reply =
    (one other : List ℕ) → SpellsReply one reply → SpellsReply other reply → one ≡ other

-- The bytes are the spelling of a reply to the request.
abbrev pub IsSpelledReply : Request → List ℕ → Reply → Type 0
IsSpelledReply request bytes reply = IsReplyTo request reply × SpellsReply bytes reply

-- The bytes are the spelling of no other reply to the request.
abbrev pub IsOnlyReply : Request → List ℕ → Reply → Type 0
IsOnlyReply request bytes reply =
    (other : Reply) → IsSpelledReply request bytes other → other ≡ reply

-- The bytes are the spelling of a reply to the request.
abbrev pub HasReply : Request → List ℕ → Type 0
HasReply request bytes = (reply : Reply) × IsSpelledReply request bytes reply

-- The bytes are the spelling of no reply to the request.
abbrev pub HasNoReply : Request → List ℕ → Type 0
HasNoReply request bytes = (reply : Reply) → ¬ IsSpelledReply request bytes reply

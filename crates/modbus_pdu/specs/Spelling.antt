-- How requests and replies are spelled as bytes: the function code, then the fields of its form.
use Rattle.std.specs.Prelude.{◌≡◌, ℕ, ◌+◌, Bool, ◌||◌, ◌&&◌, ◌==◌, nat_le, nat_lt}
use Rattle.std.specs.Prelude.{if◌then◌else◌, List, [], ◌∷◌, ◌++◌, length, ⊤, ◌⊎◌}
use Rattle.modbus_pdu.specs.Bytes.{word_bytes, words_bytes, spare_count, clear_spare}
use Rattle.modbus_pdu.specs.Bytes.{counted_bits, counted_words}
use Rattle.modbus_pdu.specs.Quantities.{EachUpTo, IsUpTo, Quantity, at_most}
use Rattle.modbus_pdu.specs.Quantities.{most_discretes_read, most_registers_read}
use Rattle.modbus_pdu.specs.Quantities.{most_coils_written, most_registers_written}
use Rattle.plant_types.specs.Words.{statistics_words}
use Rattle.modbus_pdu.specs.Quantities.{most_registers_exchanged}
use Rattle.modbus_pdu.specs.declared.request.Request.{Request}
use Rattle.modbus_pdu.specs.declared.request.Request.TheVariants as requests
use Rattle.modbus_pdu.specs.declared.reply.Reply.{Reply}
use Rattle.modbus_pdu.specs.declared.reply.Reply.TheVariants as replies

-- The functions that are served. This project's own choice of the guide's.
abbrev pub is_listed : ℕ → Bool
is_listed function =
    (nat_le 1 function && nat_le function 6)
    || function == 8
    || function == 15
    || function == 16
    || function == 22
    || function == 23

-- The function code of a request. Modicon Modbus Protocol Reference Guide.
abbrev pub function_of : Request → ℕ
function_of (requests.ReadCoils address quantity) = 1
function_of (requests.ReadInputs address quantity) = 2
function_of (requests.ReadRegisters address quantity) = 3
function_of (requests.ReadInputRegisters address quantity) = 4
function_of (requests.WriteCoil address on) = 5
function_of (requests.WriteRegister address value) = 6
function_of (requests.Echo word) = 8
function_of (requests.Stats clear) = 8
function_of (requests.WriteCoils address bits) = 15
function_of (requests.WriteRegisters address words) = 16
function_of (requests.Mask address and_mask or_mask) = 22
function_of (requests.ReadWrite read quantity write words) = 23

-- The quantities that a request tells, each with its bound. This project's own.
abbrev pub quantities_of : Request → List Quantity
quantities_of (requests.ReadCoils address quantity) = at_most most_discretes_read quantity ∷ []
quantities_of (requests.ReadInputs address quantity) = at_most most_discretes_read quantity ∷ []
quantities_of (requests.ReadRegisters address quantity) = at_most most_registers_read quantity ∷ []
quantities_of (requests.ReadInputRegisters address quantity) =
    at_most most_registers_read quantity ∷ []
quantities_of (requests.WriteCoils address bits) = at_most most_coils_written (length bits) ∷ []
quantities_of (requests.WriteRegisters address words) =
    at_most most_registers_written (length words) ∷ []
quantities_of (requests.ReadWrite read quantity write words) =
    at_most most_registers_read quantity ∷ at_most most_registers_exchanged (length words) ∷ []
quantities_of _ = []

-- Each quantity of a request is at least 1 and within its bound. This project's own.
abbrev pub IsRequestInRange : Request → Type 0
IsRequestInRange request = EachUpTo (quantities_of request)

-- The bytes behind the function code of a request, with these spare bits behind its coils.
-- Modicon Modbus Protocol Reference Guide.
abbrev pub fields_of : List Bool → Request → List ℕ
fields_of spare (requests.ReadCoils address quantity) = word_bytes address ++ word_bytes quantity
fields_of spare (requests.ReadInputs address quantity) = word_bytes address ++ word_bytes quantity
fields_of spare (requests.ReadRegisters address quantity) =
    word_bytes address ++ word_bytes quantity
fields_of spare (requests.ReadInputRegisters address quantity) =
    word_bytes address ++ word_bytes quantity
fields_of spare (requests.WriteCoil address on) =
    word_bytes address ++ word_bytes (if on then 0xff00 else 0)
fields_of spare (requests.WriteRegister address value) = word_bytes address ++ word_bytes value
fields_of spare (requests.Echo word) = word_bytes 0 ++ word_bytes word
fields_of spare (requests.Stats clear) = word_bytes 21 ++ word_bytes (if clear then 4 else 3)
fields_of spare (requests.WriteCoils address bits) =
    word_bytes address ++ word_bytes (length bits) ++ counted_bits bits spare
fields_of spare (requests.WriteRegisters address words) =
    word_bytes address ++ word_bytes (length words) ++ counted_words words
fields_of spare (requests.Mask address and_mask or_mask) =
    word_bytes address ++ word_bytes and_mask ++ word_bytes or_mask
fields_of spare (requests.ReadWrite read quantity write words) =
    word_bytes read
    ++ word_bytes quantity
    ++ word_bytes write
    ++ word_bytes (length words)
    ++ counted_words words

-- The bytes of a request. Modicon Modbus Protocol Reference Guide.
abbrev pub request_bytes : List Bool → Request → List ℕ
request_bytes spare request = function_of request ∷ fields_of spare request

-- The bytes have the form of a request; the spare bits behind its coils are any.
-- Modicon Modbus Protocol Reference Guide.
abbrev pub HasForm : List ℕ → Request → Type 0
HasForm bytes (requests.WriteCoils address bits) =
    (spare : List Bool)
    × (length spare ≡ spare_count (length bits))
    × (bytes ≡ request_bytes spare (requests.WriteCoils address bits))
HasForm bytes request = bytes ≡ request_bytes [] request

-- The bytes are a spelling of the request. Modicon Modbus Protocol Reference Guide.
pub record Spells (bytes : List ℕ) (request : Request) : Type 0 where
  pub range : IsRequestInRange request
  pub form : HasForm bytes request

-- The spelling with spare bits that are 0. This project's own choice of the spellings.
abbrev pub spelling_of : Request → List ℕ
spelling_of (requests.WriteCoils address bits) =
    request_bytes (clear_spare (length bits)) (requests.WriteCoils address bits)
spelling_of request = request_bytes [] request

-- Requests whose reply is the request again. Modicon Modbus Protocol Reference Guide.
abbrev pub IsEchoed : Request → Type 0
IsEchoed (requests.WriteCoil address on) = ⊤
IsEchoed (requests.WriteRegister address value) = ⊤
IsEchoed (requests.Echo word) = ⊤
IsEchoed (requests.Mask address and_mask or_mask) = ⊤
IsEchoed _ = ⊥

-- A function code with its highest bit set. Modicon Modbus Protocol Reference Guide.
abbrev pub exception_code : ℕ → ℕ
exception_code function = if nat_lt function 128 then function + 128 else function

-- The functions of a reply, and how much it may tell. This project's own bounds.
abbrev pub IsReplyInRange : Reply → Type 0
IsReplyInRange (replies.Bits function bits) =
    ((function ≡ 1) ⊎ (function ≡ 2)) × IsUpTo most_discretes_read (length bits)
IsReplyInRange (replies.Words function words) =
    ((function ≡ 3) ⊎ (function ≡ 4) ⊎ (function ≡ 23))
    × IsUpTo most_registers_read (length words)
IsReplyInRange (replies.Same request) = IsEchoed request
IsReplyInRange (replies.Written function address quantity) =
    ((function ≡ 15) × IsUpTo most_coils_written quantity)
    ⊎ ((function ≡ 16) × IsUpTo most_registers_written quantity)
IsReplyInRange (replies.Stats words) = (length words ≡ 0) ⊎ (length words ≡ statistics_words)
IsReplyInRange (replies.Exception function code) = ⊤

-- The operation of the reply with so many words of statistics: 4 clears them, 3 gives them.
-- Modicon Modbus Protocol Reference Guide.
abbrev pub operation_for : ℕ → ℕ
operation_for quantity = if quantity == 0 then 4 else 3

-- The bytes of a reply; its spare bits are 0. Modicon Modbus Protocol Reference Guide.
abbrev pub reply_bytes : Reply → List ℕ
reply_bytes (replies.Bits function bits) =
    function ∷ counted_bits bits (clear_spare (length bits))
reply_bytes (replies.Words function words) = function ∷ counted_words words
reply_bytes (replies.Same request) = request_bytes [] request
reply_bytes (replies.Written function address quantity) =
    function ∷ word_bytes address ++ word_bytes quantity
reply_bytes (replies.Stats words) =
    8 ∷ word_bytes 21 ++ word_bytes (operation_for (length words)) ++ words_bytes words
reply_bytes (replies.Exception function code) = exception_code function ∷ code ∷ []

-- The bytes are the spelling of the reply. Modicon Modbus Protocol Reference Guide.
pub record SpellsReply (bytes : List ℕ) (reply : Reply) : Type 0 where
  pub range : IsReplyInRange reply
  pub form : bytes ≡ reply_bytes reply

-- What a normal reply to a request is, or an exception reply of its function.
-- Modicon Modbus Protocol Reference Guide.
abbrev pub IsReplyTo : Request → Reply → Type 0
IsReplyTo request (replies.Exception function code) = function ≡ function_of request
IsReplyTo (requests.ReadCoils address quantity) (replies.Bits function bits) =
    (function ≡ 1) × (length bits ≡ quantity)
IsReplyTo (requests.ReadInputs address quantity) (replies.Bits function bits) =
    (function ≡ 2) × (length bits ≡ quantity)
IsReplyTo (requests.ReadRegisters address quantity) (replies.Words function words) =
    (function ≡ 3) × (length words ≡ quantity)
IsReplyTo (requests.ReadInputRegisters address quantity) (replies.Words function words) =
    (function ≡ 4) × (length words ≡ quantity)
IsReplyTo (requests.ReadWrite read quantity write written) (replies.Words function words) =
    (function ≡ 23) × (length words ≡ quantity)
IsReplyTo (requests.WriteCoils address bits) (replies.Written function first quantity) =
    (function ≡ 15) × (first ≡ address) × (quantity ≡ length bits)
IsReplyTo (requests.WriteRegisters address words) (replies.Written function first quantity) =
    (function ≡ 16) × (first ≡ address) × (quantity ≡ length words)
IsReplyTo (requests.Stats clear) (replies.Stats words) =
    length words ≡ (if clear then 0 else statistics_words)
IsReplyTo request (replies.Same again) = again ≡ request
IsReplyTo _ _ = ⊥

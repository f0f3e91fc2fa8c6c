-- What a request does to a map, and its reply.
use Rattle.std.specs.Prelude.{◌≡◌, ◌≤◌, ◌<◌, ℕ, ◌+◌, ◌-◌, Bool, true, ◌&&◌, if◌then◌else◌}
use Rattle.std.specs.Prelude.{List, length, slice_index, Option, Some, None}
use Rattle.std.specs.Prelude.{Result, Ok, Err, bit_and, bit_or}
use Rattle.std.specs.FinMap.{insert}
use Rattle.plant_types.specs.declared.reference.Ref.{Ref}
use Rattle.plant_types.specs.declared.reference.RefKind.{RefKind}
use Rattle.plant_types.specs.declared.reference.RefKind.TheVariants as kinds
use Rattle.plant_types.specs.Store.{Contents, word_at, with_bit, words_from, with_words}
use Rattle.modbus_pdu.specs.declared.request.Request.{Request}
use Rattle.modbus_pdu.specs.declared.request.Request.TheVariants as requests
use Rattle.modbus_pdu.specs.declared.reply.Reply.{Reply}
use Rattle.modbus_pdu.specs.declared.reply.Reply.TheVariants as replies
use Rattle.modbus_pdu.specs.Exceptions.{illegal_function, illegal_address, illegal_value}
use Rattle.modbus_pdu.specs.Reading.{spelled_request}
use Rattle.modbus_pdu.specs.Spelling.{is_listed, reply_bytes}
use Rattle.plant_types.specs.Discretes.{bits_from, with_bits}
use Rattle.modbus_exec.specs.Runs.{reference_at, is_in_map, are_in_map}

-- What a request comes to: its reply, and the contents that it leaves. This project's own.
pub record Execution : Type 0 where
  pub reply : Reply
  pub stored : Contents

-- The value with the bits of a mask kept and the others taken from a second one.
-- Modicon Modbus Protocol Reference Guide.
abbrev pub masked : ℕ → ℕ → ℕ → ℕ
masked value and_mask or_mask =
    bit_or (bit_and value and_mask) (bit_and or_mask (65535 - and_mask))

-- Whether the map has every reference that a request names.
-- Modicon Modbus Protocol Reference Guide.
abbrev pub has_named_references : Contents → Request → Bool
has_named_references m (requests.ReadCoils address quantity) =
    are_in_map m (reference_at kinds.Coil address) quantity
has_named_references m (requests.ReadInputs address quantity) =
    are_in_map m (reference_at kinds.Input address) quantity
has_named_references m (requests.ReadRegisters address quantity) =
    are_in_map m (reference_at kinds.Register address) quantity
has_named_references m (requests.ReadInputRegisters address quantity) =
    are_in_map m (reference_at kinds.InputRegister address) quantity
has_named_references m (requests.WriteCoil address on) = is_in_map m (reference_at kinds.Coil
    address)
has_named_references m (requests.WriteRegister address value) =
    is_in_map m (reference_at kinds.Register address)
has_named_references m (requests.WriteCoils address bits) =
    are_in_map m (reference_at kinds.Coil address) (length bits)
has_named_references m (requests.WriteRegisters address words) =
    are_in_map m (reference_at kinds.Register address) (length words)
has_named_references m (requests.Mask address and_mask or_mask) =
    is_in_map m (reference_at kinds.Register address)
has_named_references m (requests.ReadWrite read quantity write words) =
    are_in_map m (reference_at kinds.Register read) quantity
    && are_in_map m (reference_at kinds.Register write) (length words)
has_named_references m _ = true

-- The contents after a request. Modicon Modbus Protocol Reference Guide.
abbrev pub stored_by : Request → Contents → Contents
stored_by (requests.WriteCoil address on) m = with_bit m (reference_at kinds.Coil address) on
stored_by (requests.WriteRegister address value) m =
    insert m (reference_at kinds.Register address) value
stored_by (requests.WriteCoils address bits) m = with_bits m (reference_at kinds.Coil address) bits
stored_by (requests.WriteRegisters address words) m =
    with_words m (reference_at kinds.Register address) words
stored_by (requests.Mask address and_mask or_mask) m =
    let at = reference_at kinds.Register address in
    insert m at (masked (word_at m at) and_mask or_mask)
stored_by (requests.ReadWrite read quantity write words) m =
    with_words m (reference_at kinds.Register write) words
stored_by _ m = m

-- The reply to a request of its references. Modicon Modbus Protocol Reference Guide.
-- That function 23 writes before it reads is this project's own.
abbrev pub reply_by : Request → Contents → Reply
reply_by (requests.ReadCoils address quantity) m =
    replies.Bits 1 (bits_from m (reference_at kinds.Coil address) quantity)
reply_by (requests.ReadInputs address quantity) m =
    replies.Bits 2 (bits_from m (reference_at kinds.Input address) quantity)
reply_by (requests.ReadRegisters address quantity) m =
    replies.Words 3 (words_from m (reference_at kinds.Register address) quantity)
reply_by (requests.ReadInputRegisters address quantity) m =
    replies.Words 4 (words_from m (reference_at kinds.InputRegister address) quantity)
reply_by (requests.WriteCoils address bits) m = replies.Written 15 address (length bits)
reply_by (requests.WriteRegisters address words) m = replies.Written 16 address (length words)
reply_by (requests.ReadWrite read quantity write words) m =
    let after = stored_by (requests.ReadWrite read quantity write words) m in
    replies.Words 23 (words_from after (reference_at kinds.Register read) quantity)
reply_by request m = replies.Same request

-- What a request comes to, or the code of the exception that is due. Exception 1 for statistics,
-- which are not asked of a map, is this project's own, and so is that it comes before exception 2.
abbrev pub execution_of : Request → Contents → Result Execution ℕ
execution_of (requests.Stats clear) m = Err illegal_function
execution_of request m =
    if has_named_references m request
    then Ok (record { reply = reply_by request m; stored = stored_by request m })
    else Err illegal_address

-- The bytes of a reply, and the contents that are left. This project's own.
pub record Answer : Type 0 where
  pub reply : List ℕ
  pub stored : Contents

-- An exception reply, and nothing changed. Modicon Modbus Protocol Reference Guide.
abbrev pub refusal : ℕ → ℕ → Contents → Answer
refusal function code m = record {
  reply = reply_bytes (replies.Exception function code);
  stored = m;
}

-- The answer with what a request came to. Modicon Modbus Protocol Reference Guide.
abbrev pub answer_with : ℕ → Result Execution ℕ → Contents → Answer
answer_with function (Ok outcome) m = record {
  reply = reply_bytes outcome.reply;
  stored = outcome.stored;
}
answer_with function (Err code) m = refusal function code m

-- The answer to a request, if the bytes spell one. Modicon Modbus Protocol Reference Guide.
abbrev pub answer_to : ℕ → Option Request → Contents → Answer
answer_to function (Some request) m = answer_with function (execution_of request m) m
answer_to function None m = refusal function illegal_value m

-- The answer to bytes: exception 1 where their function is not served, else exception 3 where they
-- spell no request, else what their request comes to. This project's own order of the exceptions.
abbrev pub answer_of : List ℕ → Contents → Answer
answer_of bytes m =
    let function = slice_index bytes 0 in
    if is_listed function
    then answer_to function (spelled_request bytes) m
    else refusal function illegal_function m

-- A reference is one of so many from an address on. This project's own.
abbrev pub IsOneOf : RefKind → ℕ → ℕ → Ref → Type 0
IsOneOf kind address count at =
    (at.kind ≡ kind) × (address + 1 ≤ at.number) × (at.number < address + 1 + count)

-- The references that a request writes. Modicon Modbus Protocol Reference Guide.
abbrev pub Writes : Request → Ref → Type 0
Writes (requests.WriteCoil address on) at = IsOneOf kinds.Coil address 1 at
Writes (requests.WriteRegister address value) at = IsOneOf kinds.Register address 1 at
Writes (requests.WriteCoils address bits) at = IsOneOf kinds.Coil address (length bits) at
Writes (requests.WriteRegisters address words) at =
    IsOneOf kinds.Register address (length words) at
Writes (requests.Mask address and_mask or_mask) at = IsOneOf kinds.Register address 1 at
Writes (requests.ReadWrite read quantity write words) at =
    IsOneOf kinds.Register write (length words) at
Writes _ at = ⊥

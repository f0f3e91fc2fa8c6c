-- Which replies answer a request.
use Rattle.std.proofs.Common.{◌≡◌, ℕ, ◌+◌, ◌<◌, Bool, List, [], ◌∷◌, length, Result, Ok, Err, refl}
use Rattle.std.proofs.Common.{ap, subst, sym, ◌∙◌, inl, inr, arith}
use Rattle.std.specs.Prelude.{if◌then◌else◌, IfOk, IsErrOf, ◌↔◌}
use Rattle.std.proofs.lemmas.Bool.Decides.{nat_tests}
use Rattle.plant_types.specs.Words.{statistics_words}
use Rattle.modbus_pdu.specs.Spelling.{SpellsReply, IsEchoed, function_of, exception_code}
use Rattle.modbus_pdu.specs.Decoding.{IsSpelledReply, IsOnlyReply, HasNoReply}
use Rattle.modbus_pdu.specs.Steps.{Finds, IsBits, IsWords, IsWritten, IsStats, IsSame, IsNormal}
use Rattle.modbus_pdu.specs.declared.end.BadReply.{BadReply}
use Rattle.modbus_pdu.specs.declared.end.BadReply.TheVariants.{Form, NoMemory}
use Rattle.modbus_pdu.specs.declared.reply.Reply.{Reply}
use Rattle.modbus_pdu.specs.declared.reply.Reply.TheVariants as replies
use Rattle.modbus_pdu.specs.declared.request.Request.{Request}
use Rattle.modbus_pdu.specs.declared.request.Request.TheVariants.{ReadCoils, ReadInputs}
use Rattle.modbus_pdu.specs.declared.request.Request.TheVariants.{ReadRegisters, ReadInputRegisters}
use Rattle.modbus_pdu.specs.declared.request.Request.TheVariants.{WriteCoil, WriteRegister, Echo}
use Rattle.modbus_pdu.specs.declared.request.Request.TheVariants.{Stats, WriteCoils, WriteRegisters}
use Rattle.modbus_pdu.specs.declared.request.Request.TheVariants.{Mask, ReadWrite}

-- What is found by one fact is found by another that holds of the same values.
Finds-same : {A : Type 0} (P Q : A → Type 0) (r : Result A BadReply) → ((x : A) → P x → Q x)
    → ((x : A) → Q x → P x) → Finds P r → Finds Q r
Finds-same P Q (Ok x) to from h = (to x h.0, λ y q. h.1 y (from y q))
Finds-same P Q (Err Form) to from h = λ x q. h x (from x q)
Finds-same P Q (Err NoMemory) to from h = (h.0, to h.0 h.1)

-- Only a request that is echoed is a reply.
same_echoed : (bytes : List ℕ) (again request : Request) → again ≡ request
    → SpellsReply bytes (replies.Same again) → IsEchoed request
same_echoed bytes again request e h = subst IsEchoed e h.range

-- A read of coils is answered by bits.
pub read_coils_reply : (address quantity : ℕ) (bytes : List ℕ) (r : Result Reply BadReply)
    → Finds (IsBits 1 quantity bytes) r → Finds (IsNormal (ReadCoils address quantity) bytes) r
read_coils_reply address quantity bytes r = Finds-same _ _ r to from
  where
    to : (x : Reply) → IsBits 1 quantity bytes x → IsNormal (ReadCoils address quantity) bytes x
    to (replies.Bits code bits) h = h
    to _ h = absurd h

    from : (x : Reply) → IsNormal (ReadCoils address quantity) bytes x → IsBits 1 quantity bytes x
    from (replies.Bits code bits) h = h
    from (replies.Same again) h =
        absurd (same_echoed bytes again (ReadCoils address quantity) h.0 h.1)
    from (replies.Exception function code) h = absurd h
    from _ h = absurd h.0

-- A read of inputs is answered by bits.
pub read_inputs_reply : (address quantity : ℕ) (bytes : List ℕ) (r : Result Reply BadReply)
    → Finds (IsBits 2 quantity bytes) r
    → Finds (IsNormal (ReadInputs address quantity) bytes) r
read_inputs_reply address quantity bytes r = Finds-same _ _ r to from
  where
    to : (x : Reply) → IsBits 2 quantity bytes x → IsNormal (ReadInputs address quantity) bytes x
    to (replies.Bits code bits) h = h
    to _ h = absurd h

    from : (x : Reply) → IsNormal (ReadInputs address quantity) bytes x → IsBits 2 quantity bytes x
    from (replies.Bits code bits) h = h
    from (replies.Same again) h =
        absurd (same_echoed bytes again (ReadInputs address quantity) h.0 h.1)
    from (replies.Exception function code) h = absurd h
    from _ h = absurd h.0

-- A read of registers is answered by words.
pub read_registers_reply : (address quantity : ℕ) (bytes : List ℕ) (r : Result Reply BadReply)
    → Finds (IsWords 3 quantity bytes) r
    → Finds (IsNormal (ReadRegisters address quantity) bytes) r
read_registers_reply address quantity bytes r = Finds-same _ _ r to from
  where
    to : (x : Reply) → IsWords 3 quantity bytes x
        → IsNormal (ReadRegisters address quantity) bytes x
    to (replies.Words code words) h = h
    to _ h = absurd h

    from : (x : Reply) → IsNormal (ReadRegisters address quantity) bytes x
        → IsWords 3 quantity bytes x
    from (replies.Words code words) h = h
    from (replies.Same again) h =
        absurd (same_echoed bytes again (ReadRegisters address quantity) h.0 h.1)
    from (replies.Exception function code) h = absurd h
    from _ h = absurd h.0

-- A read of input registers is answered by words.
pub read_input_registers_reply : (address quantity : ℕ) (bytes : List ℕ) (r : Result Reply BadReply)
    → Finds (IsWords 4 quantity bytes) r
    → Finds (IsNormal (ReadInputRegisters address quantity) bytes) r
read_input_registers_reply address quantity bytes r = Finds-same _ _ r to from
  where
    to : (x : Reply) → IsWords 4 quantity bytes x
        → IsNormal (ReadInputRegisters address quantity) bytes x
    to (replies.Words code words) h = h
    to _ h = absurd h

    from : (x : Reply) → IsNormal (ReadInputRegisters address quantity) bytes x
        → IsWords 4 quantity bytes x
    from (replies.Words code words) h = h
    from (replies.Same again) h =
        absurd (same_echoed bytes again (ReadInputRegisters address quantity) h.0 h.1)
    from (replies.Exception function code) h = absurd h
    from _ h = absurd h.0

-- A write and read of registers is answered by words.
pub read_write_reply : (read quantity write : ℕ) (written : List ℕ) (bytes : List ℕ)
    (r : Result Reply BadReply)
    → Finds (IsWords 23 quantity bytes) r
    → Finds (IsNormal (ReadWrite read quantity write written) bytes) r
read_write_reply read quantity write written bytes r = Finds-same _ _ r to from
  where
    to : (x : Reply) → IsWords 23 quantity bytes x
        → IsNormal (ReadWrite read quantity write written) bytes x
    to (replies.Words code words) h = h
    to _ h = absurd h

    from : (x : Reply) → IsNormal (ReadWrite read quantity write written) bytes x
        → IsWords 23 quantity bytes x
    from (replies.Words code words) h = h
    from (replies.Same again) h =
        absurd (same_echoed bytes again (ReadWrite read quantity write written) h.0 h.1)
    from (replies.Exception function code) h = absurd h
    from _ h = absurd h.0

-- A write of coils is answered by how many.
pub write_coils_reply : (address : ℕ) (bits : List Bool) (bytes : List ℕ)
    (r : Result Reply BadReply)
    → Finds (IsWritten 15 address (length bits) bytes) r
    → Finds (IsNormal (WriteCoils address bits) bytes) r
write_coils_reply address bits bytes r = Finds-same _ _ r to from
  where
    to : (x : Reply) → IsWritten 15 address (length bits) bytes x
        → IsNormal (WriteCoils address bits) bytes x
    to (replies.Written code first count) h = h
    to _ h = absurd h

    from : (x : Reply) → IsNormal (WriteCoils address bits) bytes x
        → IsWritten 15 address (length bits) bytes x
    from (replies.Written code first count) h = h
    from (replies.Same again) h = absurd (same_echoed bytes again (WriteCoils address bits) h.0 h.1)
    from (replies.Exception function code) h = absurd h
    from _ h = absurd h.0

-- A write of registers is answered by how many.
pub write_registers_reply : (address : ℕ) (words : List ℕ) (bytes : List ℕ)
    (r : Result Reply BadReply)
    → Finds (IsWritten 16 address (length words) bytes) r
    → Finds (IsNormal (WriteRegisters address words) bytes) r
write_registers_reply address words bytes r = Finds-same _ _ r to from
  where
    to : (x : Reply) → IsWritten 16 address (length words) bytes x
        → IsNormal (WriteRegisters address words) bytes x
    to (replies.Written code first count) h = h
    to _ h = absurd h

    from : (x : Reply) → IsNormal (WriteRegisters address words) bytes x
        → IsWritten 16 address (length words) bytes x
    from (replies.Written code first count) h = h
    from (replies.Same again) h =
        absurd (same_echoed bytes again (WriteRegisters address words) h.0 h.1)
    from (replies.Exception function code) h = absurd h
    from _ h = absurd h.0

-- A statistics request is answered by twenty words, or none after a clear.
pub stats_reply : (clear : Bool) (bytes : List ℕ) (r : Result Reply BadReply)
    → Finds (IsStats (if clear then 0 else statistics_words) bytes) r
    → Finds (IsNormal (Stats clear) bytes) r
stats_reply clear bytes r = Finds-same _ _ r to from
  where
    to : (x : Reply) → IsStats (if clear then 0 else statistics_words) bytes x
        → IsNormal (Stats clear) bytes x
    to (replies.Stats words) h = h
    to _ h = absurd h

    from : (x : Reply) → IsNormal (Stats clear) bytes x
        → IsStats (if clear then 0 else statistics_words) bytes x
    from (replies.Stats words) h = h
    from (replies.Same again) h = absurd (same_echoed bytes again (Stats clear) h.0 h.1)
    from (replies.Exception function code) h = absurd h
    from _ h = absurd h.0

-- A write of a coil is answered by the request.
pub write_coil_reply : (address : ℕ) (on : Bool) (bytes : List ℕ) (r : Result Reply BadReply)
    → Finds (IsSame (WriteCoil address on) bytes) r
    → Finds (IsNormal (WriteCoil address on) bytes) r
write_coil_reply address on bytes r = Finds-same _ _ r to from
  where
    to : (x : Reply) → IsSame (WriteCoil address on) bytes x
        → IsNormal (WriteCoil address on) bytes x
    to (replies.Same again) h = h
    to _ h = absurd h

    from : (x : Reply) → IsNormal (WriteCoil address on) bytes x
        → IsSame (WriteCoil address on) bytes x
    from (replies.Same again) h = h
    from (replies.Exception function code) h = absurd h
    from _ h = absurd h.0

-- A write of a register is answered by the request.
pub write_register_reply : (address value : ℕ) (bytes : List ℕ) (r : Result Reply BadReply)
    → Finds (IsSame (WriteRegister address value) bytes) r
    → Finds (IsNormal (WriteRegister address value) bytes) r
write_register_reply address value bytes r = Finds-same _ _ r to from
  where
    to : (x : Reply) → IsSame (WriteRegister address value) bytes x
        → IsNormal (WriteRegister address value) bytes x
    to (replies.Same again) h = h
    to _ h = absurd h

    from : (x : Reply) → IsNormal (WriteRegister address value) bytes x
        → IsSame (WriteRegister address value) bytes x
    from (replies.Same again) h = h
    from (replies.Exception function code) h = absurd h
    from _ h = absurd h.0

-- An echo is answered by the request.
pub echo_reply : (word : ℕ) (bytes : List ℕ) (r : Result Reply BadReply)
    → Finds (IsSame (Echo word) bytes) r → Finds (IsNormal (Echo word) bytes) r
echo_reply word bytes r = Finds-same _ _ r to from
  where
    to : (x : Reply) → IsSame (Echo word) bytes x → IsNormal (Echo word) bytes x
    to (replies.Same again) h = h
    to _ h = absurd h

    from : (x : Reply) → IsNormal (Echo word) bytes x → IsSame (Echo word) bytes x
    from (replies.Same again) h = h
    from (replies.Exception function code) h = absurd h
    from _ h = absurd h.0

-- A write by masks is answered by the request.
pub mask_reply : (address and_mask or_mask : ℕ) (bytes : List ℕ) (r : Result Reply BadReply)
    → Finds (IsSame (Mask address and_mask or_mask) bytes) r
    → Finds (IsNormal (Mask address and_mask or_mask) bytes) r
mask_reply address and_mask or_mask bytes r = Finds-same _ _ r to from
  where
    to : (x : Reply) → IsSame (Mask address and_mask or_mask) bytes x
        → IsNormal (Mask address and_mask or_mask) bytes x
    to (replies.Same again) h = h
    to _ h = absurd h

    from : (x : Reply) → IsNormal (Mask address and_mask or_mask) bytes x
        → IsSame (Mask address and_mask or_mask) bytes x
    from (replies.Same again) h = h
    from (replies.Exception function code) h = absurd h
    from _ h = absurd h.0

-- A request's function code is below 128.
pub function_small : (request : Request) → function_of request < 128
function_small (ReadCoils address quantity) = omega arith
function_small (ReadInputs address quantity) = omega arith
function_small (ReadRegisters address quantity) = omega arith
function_small (ReadInputRegisters address quantity) = omega arith
function_small (WriteCoil address on) = omega arith
function_small (WriteRegister address value) = omega arith
function_small (Echo word) = omega arith
function_small (Stats clear) = omega arith
function_small (WriteCoils address bits) = omega arith
function_small (WriteRegisters address words) = omega arith
function_small (Mask address and_mask or_mask) = omega arith
function_small (ReadWrite read quantity write words) = omega arith

-- The bytes are an exception reply of a request.
abbrev pub IsExceptionOf : Request → List ℕ → ℕ → Type 0
IsExceptionOf request bytes code = bytes ≡ exception_code (function_of request) ∷ code ∷ []

-- The code of an exception reply is the function code and 128.
pub exception_is : (request : Request)
    → exception_code (function_of request) ≡ function_of request + 128
exception_is request = let small = function_small request in grind (arith, nat_tests)

same_head : (head code : ℕ) (rest bytes : List ℕ) (request : Request) → bytes ≡ head ∷ rest
    → head < 128 → ¬ IsExceptionOf request bytes code
same_head head code rest bytes request e small h =
    let both : head ∷ rest ≡ exception_code (function_of request) ∷ code ∷ [] = sym e ∙ h in
    let heads : head ≡ exception_code (function_of request) = cc in
    let is = exception_is request in
    omega arith

-- No other reply is spelled by an exception reply.
pub not_normal : (code : ℕ) (bytes : List ℕ) (request : Request) (reply : Reply)
    → IsExceptionOf request bytes code → ¬ IsNormal request bytes reply
not_normal code bytes request (replies.Bits function bits) h n = elim n.1.range.0 [
  | inl e ↦ same_head function code _ bytes request n.1.form (omega (arith, e)) h
  | inr e ↦ same_head function code _ bytes request n.1.form (omega (arith, e)) h
]
not_normal code bytes request (replies.Words function words) h n = elim n.1.range.0 [
  | inl e ↦ same_head function code _ bytes request n.1.form (omega (arith, e)) h
  | inr more ↦ elim more [
    | inl e ↦ same_head function code _ bytes request n.1.form (omega (arith, e)) h
    | inr e ↦ same_head function code _ bytes request n.1.form (omega (arith, e)) h
  ]
]
not_normal code bytes request (replies.Same again) h n =
    same_head (function_of again) code _ bytes request n.1.form (function_small again) h
not_normal code bytes request (replies.Written function address quantity) h n = elim n.1.range [
  | inl e ↦ same_head function code _ bytes request n.1.form (omega (arith, e)) h
  | inr e ↦ same_head function code _ bytes request n.1.form (omega (arith, e)) h
]
not_normal code bytes request (replies.Stats words) h n =
    same_head 8 code _ bytes request n.1.form (omega arith) h
not_normal code bytes request (replies.Exception function other) h n = n

-- An exception reply of the request is the one reply that the bytes spell.
pub exception_found : (code : ℕ) (bytes : List ℕ) (request : Request)
    → IsExceptionOf request bytes code
    → Finds (IsSpelledReply request bytes) (Ok (replies.Exception (function_of request) code))
exception_found code bytes request e = ((refl, record { range = tt; form = e }), only)
  where
    only : (other : Reply) → IsSpelledReply request bytes other
        → other ≡ replies.Exception (function_of request) code
    only (replies.Exception function another) h =
        let first : function ≡ function_of request = h.0 in
        let form : bytes ≡ exception_code function ∷ another ∷ [] = h.1.form in
        let both : exception_code function ∷ another ∷ []
        ≡ exception_code (function_of request) ∷ code ∷ [] = sym form ∙ e in
        let second : another ≡ code = cc in
        cc
    only (replies.Bits function bits) h =
        absurd (not_normal code bytes request (replies.Bits function bits) e h)
    only (replies.Words function words) h =
        absurd (not_normal code bytes request (replies.Words function words) e h)
    only (replies.Same again) h = absurd (not_normal code bytes request (replies.Same again) e h)
    only (replies.Written function address quantity) h =
        absurd (not_normal code bytes request (replies.Written function address quantity) e h)
    only (replies.Stats words) h = absurd (not_normal code bytes request (replies.Stats words) e h)

-- Where the bytes are no exception reply of the request, a normal reply is all that they may spell.
pub normal_found : (bytes : List ℕ) (request : Request) (r : Result Reply BadReply)
    → ((code : ℕ) → ¬ IsExceptionOf request bytes code) → Finds (IsNormal request bytes) r
    → Finds (IsSpelledReply request bytes) r
normal_found bytes request r none = Finds-same _ _ r to from
  where
    to : (x : Reply) → IsNormal request bytes x → IsSpelledReply request bytes x
    to (replies.Exception function code) h = absurd h
    to (replies.Bits function bits) h = h
    to (replies.Words function words) h = h
    to (replies.Same again) h = h
    to (replies.Written function address quantity) h = h
    to (replies.Stats words) h = h

    from : (x : Reply) → IsSpelledReply request bytes x → IsNormal request bytes x
    from (replies.Exception function code) h =
        absurd (none code (h.1.form ∙ ap (λ (f : ℕ). exception_code f ∷ code ∷ []) h.0))
    from (replies.Bits function bits) h = h
    from (replies.Words function words) h = h
    from (replies.Same again) h = h
    from (replies.Written function address quantity) h = h
    from (replies.Stats words) h = h

-- The only reply that is found is the only one to the request that the bytes spell.
pub found_only : (bytes : List ℕ) (request : Request) (r : Result Reply BadReply)
    → Finds (IsSpelledReply request bytes) r
    → IfOk r (IsOnlyReply request bytes)
found_only bytes request (Ok reply) h = h.1
found_only bytes request (Err e) h = tt

-- Form is found exactly where the bytes spell no reply to the request.
pub found_form : (bytes : List ℕ) (request : Request) (r : Result Reply BadReply)
    → Finds (IsSpelledReply request bytes) r
    → IsErrOf r Form ↔ HasNoReply request bytes
found_form bytes request (Ok reply) h = (λ e. absurd cc, λ none. absurd (none reply h.0))
found_form bytes request (Err Form) h = (λ e. h, λ none. refl)
found_form bytes request (Err NoMemory) h = (λ e. absurd cc, λ none. absurd (none h.0 h.1))

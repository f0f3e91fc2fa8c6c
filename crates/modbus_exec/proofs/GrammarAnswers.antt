-- The answer to bytes follows their spelling.
use Rattle.std.proofs.Common.{◌≡◌, ℕ, true, List, slice_index}
use Rattle.std.proofs.Common.{Result, Ok, Err, refl, ap, sym, ◌∙◌, inl, inr}
use Rattle.plant_types.specs.Store.{Contents}
use Rattle.std.specs.Prelude.{IfErr, IsErrOf, ◌↔◌}
use Rattle.modbus_pdu.specs.Decoding.{IsUnlisted, IsMisformed, IsDecodeEnd}
use Rattle.modbus_pdu.specs.declared.end.DecodeEnd.{DecodeEnd}
use Rattle.modbus_pdu.specs.declared.end.DecodeEnd.TheVariants.{Exception, NoMemory}
use Rattle.modbus_pdu.specs.Exceptions.{illegal_function, illegal_value}
use Rattle.modbus_pdu.specs.Spelling.{Spells, is_listed, function_of, reply_bytes}
use Rattle.modbus_pdu.specs.declared.request.Request.{Request}
use Rattle.modbus_pdu.specs.declared.request.Request.TheVariants.{ReadCoils, ReadInputs}
use Rattle.modbus_pdu.specs.declared.request.Request.TheVariants.{ReadRegisters, ReadInputRegisters}
use Rattle.modbus_pdu.specs.declared.request.Request.TheVariants.{WriteCoil, WriteRegister, Echo}
use Rattle.modbus_pdu.specs.declared.request.Request.TheVariants.{Stats, WriteCoils, WriteRegisters}
use Rattle.modbus_pdu.specs.declared.request.Request.TheVariants.{Mask, ReadWrite}
use Rattle.modbus_pdu.specs.declared.reply.Reply.TheVariants as replies
use Rattle.modbus_pdu.proofs.Reading.{code_first, request_found, none_found}
use Rattle.modbus_exec.specs.Answer.{Execution, answer_of, answer_with, execution_of, refusal}
use Rattle.modbus_exec.specs.Executing.{Answers}

-- The function of each request is listed.
function_listed : (request : Request) → is_listed (function_of request) ≡ true
function_listed (ReadCoils address quantity) = refl
function_listed (ReadInputs address quantity) = refl
function_listed (ReadRegisters address quantity) = refl
function_listed (ReadInputRegisters address quantity) = refl
function_listed (WriteCoil address on) = refl
function_listed (WriteRegister address value) = refl
function_listed (Echo word) = refl
function_listed (Stats clear) = refl
function_listed (WriteCoils address bits) = refl
function_listed (WriteRegisters address words) = refl
function_listed (Mask address and_mask or_mask) = refl
function_listed (ReadWrite read quantity write words) = refl

-- The answer where a function is not served.
pub unlisted_answer : (bytes : List ℕ) (m : Contents) → IsUnlisted bytes
    → answer_of bytes m ≡ refusal (slice_index bytes 0) illegal_function m
unlisted_answer bytes m h = rw h refl

-- The answer where no request is spelled.
pub misformed_answer : (bytes : List ℕ) (m : Contents) → IsMisformed bytes
    → answer_of bytes m ≡ refusal (slice_index bytes 0) illegal_value m
misformed_answer bytes m h = rw (h.0, none_found bytes h.1) refl

-- The answer where a request is spelled.
pub spelled_answer : (bytes : List ℕ) (m : Contents) (request : Request) → Spells bytes request
    → answer_of bytes m ≡ answer_with (slice_index bytes 0) (execution_of request m) m
spelled_answer bytes m request s =
    let listed : is_listed (slice_index bytes 0) ≡ true =
    ap is_listed (code_first bytes request s) ∙ function_listed request in
    rw (listed, request_found bytes request s) refl

-- The same by the function of the request.
pub answer_by_function : (bytes : List ℕ) (m : Contents) (request : Request) → Spells bytes request
    → answer_of bytes m ≡ answer_with (function_of request) (execution_of request m) m
answer_by_function bytes m request s =
    spelled_answer bytes m request s
    ∙ ap (λ (function : ℕ). answer_with function (execution_of request m) m)
    (code_first bytes request s)

-- An exception reply in place of a request.
pub refused_answer : (bytes : List ℕ) (m : Contents) (pdu : List ℕ) (code : ℕ)
    → (result : Result Request DecodeEnd) → result ≡ Err (Exception code)
    → IfErr result IsDecodeEnd
    → (IsErrOf result (Exception illegal_function) ↔ IsUnlisted bytes)
    → (IsErrOf result (Exception illegal_value) ↔ IsMisformed bytes)
    → pdu ≡ reply_bytes (replies.Exception (slice_index bytes 0) code) → Answers bytes m m pdu
refused_answer bytes m pdu code (Ok request) e ends unlisted misformed is = absurd cc
refused_answer bytes m pdu code (Err NoMemory) e ends unlisted misformed is = absurd cc
refused_answer bytes m pdu code (Err (Exception other)) e ends unlisted misformed is =
    let same : other ≡ code = cc in
    let function = slice_index bytes 0 in
    elim ends [
      | inl one ↦
          unlisted_answer bytes m (unlisted.0 (ap (λ (c : ℕ). Err (Exception c)) one))
          ∙ ap (λ (c : ℕ). refusal function c m) (sym one ∙ same)
          ∙ (λ i. record { reply = sym is i; stored = m })
      | inr three ↦
          misformed_answer bytes m (misformed.0 (ap (λ (c : ℕ). Err (Exception c)) three))
          ∙ ap (λ (c : ℕ). refusal function c m) (sym three ∙ same)
          ∙ (λ i. record { reply = sym is i; stored = m })
    ]

-- An exception reply to a request.
pub failed_answer : (bytes : List ℕ) (m : Contents) (request : Request) (pdu : List ℕ) (code : ℕ)
    → Spells bytes request → execution_of request m ≡ Err code
    → pdu ≡ reply_bytes (replies.Exception (slice_index bytes 0) code) → Answers bytes m m pdu
failed_answer bytes m request pdu code s e is =
    spelled_answer bytes m request s
    ∙ ap (λ (result : Result Execution ℕ). answer_with (slice_index bytes 0) result m) e
    ∙ (λ i. record { reply = sym is i; stored = m })

-- The reply to a request.
pub done_answer : (bytes : List ℕ) (m after : Contents) (request : Request) (outcome : Execution)
    → (pdu : List ℕ) → Spells bytes request → execution_of request m ≡ Ok outcome
    → pdu ≡ reply_bytes outcome.reply → after ≡ outcome.stored → Answers bytes m after pdu
done_answer bytes m after request outcome pdu s e is stored =
    spelled_answer bytes m request s
    ∙ ap (λ (result : Result Execution ℕ). answer_with (slice_index bytes 0) result m) e
    ∙ (λ i. record { reply = sym is i; stored = sym stored i })

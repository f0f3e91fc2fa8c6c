-- What a reply comes to is what the grammar says.
use Rattle.std.proofs.Common.{◌≡◌, ℕ, List, [], ◌∷◌, Some, None}
use Rattle.std.proofs.Common.{Option, Ok, Err, ap, sym, ◌∙◌, inl, inr}
use Rattle.modbus_pdu.specs.Decoding.{HasNoReply, IsSpelledReply}
use Rattle.modbus_pdu.specs.Spelling.{Spells, exception_code, function_of}
use Rattle.modbus_pdu.specs.Steps.{Finds}
use Rattle.modbus_pdu.specs.declared.end.BadReply.TheVariants.{Form}
use Rattle.modbus_pdu.specs.declared.reply.Reply.{Reply}
use Rattle.modbus_pdu.specs.declared.reply.Reply.TheVariants as replies
use Rattle.modbus_pdu.specs.declared.request.Request.{Request}
use Rattle.modbus_pdu.specs.declared.request.Request.TheVariants as requests
use Rattle.modbus_pdu.proofs.Bytes.{IsBytes}
use Rattle.modbus_pdu.proofs.Matching.{IsExceptionOf, exception_found, normal_found}
use Rattle.reply_laws.specs.Result.{exception_told, function_in, good, or_good, result_of}
use Rattle.reply_laws.specs.Result.{no_result, told_bytes}
use Rattle.reply_laws.specs.Results.{AnswersGiveTheirResult, OthersGiveNone}
use Rattle.reply_laws.specs.Results.{result_by}
use Rattle.reply_laws.proofs.Sorts.{Comes, to_none, to_reply}
use Rattle.reply_laws.proofs.Tests.{bytes-are, code-told, exceptions}
use Rattle.reply_laws.proofs.Told.{came}

-- the function of a request's spelling
first-is : (request : Request) (ask : List ℕ) → Spells ask request
    → function_in ask ≡ function_of request
first-is (requests.ReadCoils a q) ask s = ap function_in s.form
first-is (requests.ReadInputs a q) ask s = ap function_in s.form
first-is (requests.ReadRegisters a q) ask s = ap function_in s.form
first-is (requests.ReadInputRegisters a q) ask s = ap function_in s.form
first-is (requests.WriteCoil a on) ask s = ap function_in s.form
first-is (requests.WriteRegister a value) ask s = ap function_in s.form
first-is (requests.Echo word) ask s = ap function_in s.form
first-is (requests.Stats clear) ask s = ap function_in s.form
first-is (requests.WriteCoils a bits) ask s = ap function_in s.form.2
first-is (requests.WriteRegisters a words) ask s = ap function_in s.form
first-is (requests.Mask a and_mask or_mask) ask s = ap function_in s.form
first-is (requests.ReadWrite read q write words) ask s = ap function_in s.form

-- The bytes spell one reply to the request, and come to its result; or none, and come to none.
data Settled (request : Request) (ask bytes : List ℕ) : Type 0 where
  by_reply : (x : Reply) → Finds (IsSpelledReply request bytes) (Ok x)
      → result_of ask bytes ≡ result_by x → Settled request ask bytes
  by_none : HasNoReply request bytes → result_of ask bytes ≡ no_result → Settled request ask bytes

settled : (request : Request) (ask bytes : List ℕ) → Spells ask request → IsBytes bytes
    → Settled request ask bytes
settled request ask bytes s fits = elim (exceptions (function_in ask) bytes) [
  | inl e ↦ by_reply (replies.Exception (function_of request) e.0)
      (exception_found e.0 bytes request
      (e.1 ∙ ap (λ (f : ℕ). exception_code f ∷ e.0 ∷ []) (first-is request ask s)))
      (ap (result_of ask) e.1
      ∙ ap (λ (o : Option ℕ). or_good o (told_bytes ask
      (exception_code (function_in ask) ∷ e.0 ∷ []))) (code-told (function_in ask) e.0))
  | inr none ↦ normal none (came request ask bytes s fits)
]
  where
    unlike : exception_told (function_in ask) bytes ≡ None → (code : ℕ)
        → ¬ IsExceptionOf request bytes code
    unlike none code e =
        let form : bytes ≡ exception_code (function_in ask) ∷ code ∷ [] =
        e ∙ ap (λ (f : ℕ). exception_code f ∷ code ∷ []) (sym (first-is request ask s)) in
        let told : exception_told (function_in ask) bytes ≡ Some code =
        ap (exception_told (function_in ask)) form ∙ code-told (function_in ask) code in
        absurd cc

    normal : exception_told (function_in ask) bytes ≡ None → Comes request ask bytes
        → Settled request ask bytes
    normal none (to_reply x found is) =
        by_reply x (normal_found bytes request (Ok x) (unlike none) found)
        (ap (λ (o : Option ℕ). or_good o (told_bytes ask bytes)) none ∙ is)
    normal none (to_none found is) =
        by_none (normal_found bytes request (Err Form) (unlike none) found)
        (ap (λ (o : Option ℕ). or_good o (told_bytes ask bytes)) none ∙ ap good is)

of-answer : (request : Request) (answer : Reply) (ask bytes : List ℕ) → Settled request ask bytes
    → IsSpelledReply request bytes answer → result_of ask bytes ≡ result_by answer
of-answer request answer ask bytes (by_reply x found is) h =
    is ∙ ap result_by (sym (found.1 answer h))
of-answer request answer ask bytes (by_none none is) h = absurd (none answer h)

of-none : (request : Request) (ask bytes : List ℕ) → Settled request ask bytes
    → HasNoReply request bytes
    → result_of ask bytes ≡ no_result
of-none request ask bytes (by_reply x found is) h = absurd (h x found.0)
of-none request ask bytes (by_none none is) h = is

pub answers : AnswersGiveTheirResult
answers request answer ask bytes s all h =
    of-answer request answer ask bytes (settled request ask bytes s (bytes-are bytes all)) h

pub others : OthersGiveNone
others request ask bytes s all h =
    of-none request ask bytes (settled request ask bytes s (bytes-are bytes all)) h

use Rattle.std.proofs.Common.{◌≡◌, ℕ, List, Option, None, Result, Ok, Err, refl, ap, subst, sym}
use Rattle.std.specs.Prelude.{IfOk, slice_index}
use Rattle.plant_types.specs.Store.{Contents}
use Rattle.modbus_pdu.specs.Spelling.{reply_bytes}
use Rattle.modbus_pdu.specs.declared.end.DecodeEnd.{DecodeEnd}
use Rattle.modbus_pdu.specs.declared.reply.Reply.TheVariants as replies
use Rattle.modbus_pdu.specs.declared.request.Request.{Request}
use Rattle.modbus_exec.specs.declared.answering.Prepared.{Prepared}
use Rattle.modbus_exec.specs.Executing.{Answers, IsPrepared}
use Rattle.modbus_exec.proofs.AnswerLemmas.{answer_fits, answer_keeps, answered_has}
use Rattle.modbus_exec.proofs.GrammarAnswers.{refused_answer, failed_answer, done_answer}
use Rattle.modbus_exec.proofs.answering.prepare.Goals as goal

-- with an exception nothing is left to be written
nothing_left : (bytes : List ℕ) (m : Contents) (reply : List ℕ) (request : Option Request)
    → request ≡ None → Answers bytes m m reply
    → IsPrepared bytes m reply request
nothing_left bytes m reply request none answers =
    subst (IsPrepared bytes m reply) (sym none)
    (record { answers = answers; has = tt; keeps = λ at there. there })

exception : {E : Type 0} (bytes : List ℕ) (m : Contents) (code : ℕ) (result : Result Prepared E)
    → IfOk result
    (λ prepared. prepared.reply ≡ reply_bytes (replies.Exception (slice_index bytes 0) code))
    → IfOk result (λ prepared. prepared.request ≡ None)
    → ((pdu : List ℕ) → pdu ≡ reply_bytes (replies.Exception (slice_index bytes 0) code)
    → Answers bytes m m pdu)
    → IfOk result (λ prepared. IsPrepared bytes m prepared.reply prepared.request)
exception bytes m code (Ok prepared) reply request answers =
    nothing_left bytes m prepared.reply prepared.request request (answers prepared.reply reply)
exception bytes m code (Err end) reply request answers = tt

pub encode_reply-requires : goal.encode_reply-requires
encode_reply-requires g c =
    let m = g.R.RefStore.contents c.args.ram.now in
    (answer_fits c.in-Ok.request m _ c.in-Ok.ensures.spelled.range c.in-Ok-reply_to.ensures).range

pub returns-in-Err-Exception : goal.returns-in-Err-Exception
returns-in-Err-Exception g c =
    let m = g.R.RefStore.contents c.args.ram.now in
    let bytes = c.args.bytes.now in
    let code = c.in-Err-Exception.code in
    let said = c.in-Err-Exception.ensures in
    let failed : DecodeEnd → Result Request DecodeEnd = λ end. Err end in
    let is_code = ap failed c.in-Err-Exception.field-0-is in
    exception bytes m code c.refused.result c.refused.ensures.reply c.refused.ensures.request
    (λ pdu is. refused_answer bytes m pdu code _ is_code said.ends said.unlisted said.misformed is)

pub returns-in-Err-Exception-reply_to : goal.returns-in-Err-Exception-reply_to
returns-in-Err-Exception-reply_to g c =
    let m = g.R.RefStore.contents c.args.ram.now in
    let bytes = c.args.bytes.now in
    let spelled = c.in-Ok.ensures.spelled in
    let code = c.in-Err-Exception-reply_to.code in
    let failed = rw c.in-Err-Exception-reply_to.field-0-is at c.in-Err-Exception-reply_to.ensures in
    let made = c.refused-in-Err-Exception-reply_to in
    exception bytes m code made.result made.ensures.reply made.ensures.request
    (λ pdu is. failed_answer bytes m c.in-Ok.request pdu code spelled failed is)

pub returns : goal.returns
returns g c =
    let m = g.R.RefStore.contents c.args.ram.now in
    let bytes = c.args.bytes.now in
    let found = c.in-Ok-reply_to.ensures in
    record {
      answers = done_answer bytes m _ c.in-Ok.request _ c.in_ok-reply.reply c.in-Ok.ensures.spelled
          found c.in_ok-reply.ensures.bytes refl;
      has = answered_has c.in-Ok.request m _ found;
      keeps = answer_keeps c.in-Ok.request m _ found;
    }

use Rattle.modbus_pdu.proofs.Matching.{exception_found, normal_found}
use Rattle.modbus_pdu.proofs.reply_decoding.reply_in.Goals as goal

pub returns-in-Some : goal.returns-in-Some
returns-in-Some c =
    rw c.function_of-function.ensures
    (exception_found c.in-Some.code c.args.bytes.now c.args.request.now
    (rw c.function_of-function.ensures at c.in-Some.ensures))

pub returns-in-None : goal.returns-in-None
returns-in-None c =
    normal_found c.args.bytes.now c.args.request.now c.normal_reply.result
    (rw c.function_of-function.ensures at c.in-None.ensures) c.normal_reply.ensures

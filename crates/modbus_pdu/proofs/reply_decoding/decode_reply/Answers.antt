use Rattle.modbus_pdu.proofs.Matching.{found_only, found_form}
use Rattle.modbus_pdu.proofs.reply_decoding.decode_reply.Goals as goal

pub returns-clause-only : goal.returns-clause-only
returns-clause-only c =
    found_only c.args.bytes.now c.args.request.now c.reply_in.result c.reply_in.ensures

pub returns-clause-form : goal.returns-clause-form
returns-clause-form c =
    found_form c.args.bytes.now c.args.request.now c.reply_in.result c.reply_in.ensures

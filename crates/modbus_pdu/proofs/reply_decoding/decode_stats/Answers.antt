use Rattle.std.proofs.Common.{sym, ◌∙◌, arith}
use Rattle.modbus_pdu.proofs.Bytes.{IsBytes}
use Rattle.std.proofs.lemmas.Result.{err_from_is_err_and}
use Rattle.modbus_pdu.proofs.Replies.{no_stats, stats_unfit, stats_found, stats_there}
use Rattle.modbus_pdu.proofs.reply_decoding.decode_stats.Goals as goal
use Rattle.modbus_pdu.proofs.reply_decoding.decode_stats.Goals.{then-operation-stats_operation-via-then-operation-stats_operation}
use Rattle.modbus_pdu.proofs.reply_decoding.decode_stats.Goals.{then-operation-stats_operation-via-else-operation-stats_operation+then-rest-quantity}

pub returns-in_default : goal.returns-in_default
returns-in_default c = no_stats c.args.quantity c.args.bytes.now c.in_default.ensures

pub returns-in_err-words : goal.returns-in_err-words
returns-in_err-words c =
    let p = err_from_is_err_and c.from_residual.result c.from_residual.ensures.1 in
    let fits : IsBytes c.args.bytes.now = λ i. omega (arith, c.type_inv.bytes i) in
    let at = c.in-Some in
    let operation = c.if-operation-stats_operation.false ∙ c.stats_operation.ensures in
    rw (p.1, p.2)
    (stats_there c.args.quantity c.args.bytes.now at.operation at.rest.now c.requires fits
    at.ensures operation (omega arith))

pub returns : goal.returns
returns c =
    stats_found c.args.quantity c.args.bytes.now c.in-Some.operation c.in-Some.rest.now
    c.in_ok-words.words c.requires c.in-Some.ensures
    (c.if-operation-stats_operation.false ∙ c.stats_operation.ensures) (omega arith)
    c.in_ok-words.ensures

pub returns-then-operation-stats_operation : goal.returns-then-operation-stats_operation
returns-then-operation-stats_operation c =
    stats_unfit c.args.quantity c.args.bytes.now c.in-Some.operation c.in-Some.rest.now
    c.in-Some.ensures
    (λ operation count. elim c.then-operation-stats_operation.branch [
      | then-operation-stats_operation-via-then-operation-stats_operation w ↦
          w.if-operation-stats_operation.true
          (operation ∙ sym c.stats_operation.ensures)
      | then-operation-stats_operation-via-else-operation-stats_operation+then-rest-quantity w ↦
          w.if-rest-quantity.true count
    ])

use Rattle.std.proofs.Common.{sym, ◌∙◌, arith}
use Rattle.panel_session.proofs.Tables.{calls-have-names}
use Rattle.panel_session.proofs.GivingUp.{giving-begins, giving-goes-on, giving-stops, next-out}
use Rattle.panel_session.proofs.GivingUp.{on_err}
use Rattle.panel_session.proofs.calls.give_up_calls.Goals as goal

pub loop-call-init : goal.loop-call-init
loop-call-init c =
    giving-begins c.args.controller.now c.collect.new.self c.as_slice-call-items.result.now
    c.calls_follow.ensures (sym c.has_started.ensures ∙ c.if-not-has_started.false)
    (calls-have-names (record {
      segments = c.segments_keep_calls.ensures;
      order = c.calls_are_taken_in_order.ensures;
      tables = c.stays_table.ensures;
    }) c.args.controller.now)
    c.in_ok-calls.ensures.ok (c.as_slice-call-items.ensures ∙ c.in_ok-calls.ensures.calls)

pub finish-requires : goal.finish-requires
finish-requires c =
    next-out c.args.controller.now c.loop-call.controller _ c.loop-call.call-index
    c.call-item.result c.loop-call.invariant (omega arith) c.call-item.is

pub loop-call-preserved : goal.loop-call-preserved
loop-call-preserved c =
    giving-goes-on c.args.controller.now c.loop-call.controller c.finish.new.self _
    c.loop-call.call-index c.call-item.result c.calls_follow.ensures c.loop-call.invariant
    (omega arith) c.call-item.is c.in_ok-finish.ensures.ok

pub returns-in_err-finish-clause-err : goal.returns-in_err-finish-clause-err
returns-in_err-finish-clause-err c =
    on_err c.from_residual-in_err-finish.result _
    (giving-stops c.args.controller.now c.loop-call.controller c.finish.new.self _
    c.loop-call.call-index c.loop-call.invariant c.in_err-finish.ensures.err
    c.in_err-finish.ensures.went_on.legal)

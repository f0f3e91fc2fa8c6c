use Rattle.std.proofs.Common.{arith}
use Rattle.joint_history.specs.declared.joint.BridgeLog.{BridgeLog}
use Rattle.journal_text.proofs.Rising.{rises-more, rises-not}
use Rattle.journal_text.proofs.plain.bridges_rise.Goals as goal

pub loop-at-preserved : goal.loop-at-preserved
loop-at-preserved c =
    rises-more (λ (log : BridgeLog). log.left) c.args.logs.now c.loop-at.at c.index-logs-at.result
    c.index-logs-at-in-loop-at.result
    (let auto = c.loop-at.auto.at in omega arith) c.loop-at-test.true c.if-logs-at.false
    c.loop-at.invariant

pub returns-then-logs-at-clause-all : goal.returns-then-logs-at-clause-all
returns-then-logs-at-clause-all c =
    rises-not (λ (log : BridgeLog). log.left) c.args.logs.now c.loop-at.at c.index-logs-at.result
    c.index-logs-at-in-loop-at.result
    (let auto = c.loop-at.auto.at in omega arith) c.loop-at-test.true c.if-logs-at.true

use Rattle.std.proofs.Common.{List, All, subst}
use Rattle.std.proofs.lemmas.List.{take_all}
use Rattle.std.proofs.lemmas.List.Elements.{All-more}
use Rattle.joint_history.specs.declared.joint.BridgeLog.{BridgeLog}
use Rattle.journal_text.specs.Sizes.{FitsBridgeLog}
use Rattle.journal_text.proofs.sizes.bridge_logs.Goals as goal

pub loop-at-preserved : goal.loop-at-preserved
loop-at-preserved c =
    All-more FitsBridgeLog c.args.logs.now c.loop-at.at c.index-logs-at.result c.loop-at-test.true
    c.loop-at.invariant
    (subst FitsBridgeLog c.index-logs-at.is c.bridge_log.ensures)

pub returns : goal.returns
returns c = subst (λ (items : List BridgeLog). All FitsBridgeLog items)
    (take_all _ _ c.loop-at-test.false) c.loop-at.invariant

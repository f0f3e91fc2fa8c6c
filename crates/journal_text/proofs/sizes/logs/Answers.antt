use Rattle.std.proofs.Common.{List, All, subst}
use Rattle.std.proofs.lemmas.List.{take_all}
use Rattle.std.proofs.lemmas.List.Elements.{All-more}
use Rattle.joint_history.specs.declared.joint.ControllerLog.{ControllerLog}
use Rattle.journal_text.specs.Sizes.{FitsLog}
use Rattle.journal_text.proofs.sizes.logs.Goals as goal

pub loop-at-preserved : goal.loop-at-preserved
loop-at-preserved c =
    All-more FitsLog c.args.logs.now c.loop-at.at c.index-logs-at.result c.loop-at-test.true
    c.loop-at.invariant
    (subst FitsLog c.index-logs-at.is c.log.ensures)

pub returns : goal.returns
returns c = subst (λ (items : List ControllerLog). All FitsLog items)
    (take_all _ _ c.loop-at-test.false) c.loop-at.invariant

use Rattle.std.proofs.Common.{List, All, subst}
use Rattle.std.proofs.lemmas.List.{take_all}
use Rattle.std.proofs.lemmas.List.Elements.{All-more}
use Rattle.joint_history.specs.declared.joint.RingLog.{RingLog}
use Rattle.journal_text.specs.Sizes.{FitsRingLog}
use Rattle.journal_text.proofs.sizes.ring_logs.Goals as goal

pub loop-at-preserved : goal.loop-at-preserved
loop-at-preserved c =
    All-more FitsRingLog c.args.logs.now c.loop-at.at c.index-logs-at.result c.loop-at-test.true
    c.loop-at.invariant
    (subst FitsRingLog c.index-logs-at.is c.ring_log.ensures)

pub returns : goal.returns
returns c = subst (λ (items : List RingLog). All FitsRingLog items)
    (take_all _ _ c.loop-at-test.false) c.loop-at.invariant

use Rattle.std.proofs.Common.{refl}
use Rattle.std.proofs.lemmas.Result.{IfOk-weaker}
use Rattle.joint_law.specs.AllComplete.{own_entries}
use Rattle.joint_law.proofs.AtNodes.{controller-tested}
use Rattle.joint_law.proofs.complete.controller_is_done.Goals as goal

pub returns : goal.returns
returns c =
    IfOk-weaker c.node_is_done.result _ _
    (λ done tested. controller-tested c.args.scans c.args.on.node c.args.on.status
    c.args.log.now c.args.is_done done (own_entries c.args.on) c.as_slice-entries.result.now _ _
    c.as_slice-entries.ensures c.in_ok-given.ensures c.count_fails.ensures c.if-log-on.false
    c.if-not-is_done.false (c.if-not-is_out.ensures.0 refl) tested)
    c.node_is_done.ensures

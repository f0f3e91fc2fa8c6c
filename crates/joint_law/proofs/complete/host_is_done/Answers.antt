use Rattle.std.proofs.Common.{refl}
use Rattle.std.proofs.lemmas.Result.{IfOk-weaker}
use Rattle.joint_law.specs.AllComplete.{own_entries}
use Rattle.joint_law.proofs.AtNodes.{host-tested}
use Rattle.joint_law.proofs.complete.host_is_done.Goals as goal

pub returns : goal.returns
returns c =
    IfOk-weaker c.node_is_done.result _ _
    (λ done tested. host-tested c.args.on.node c.args.on.status c.args.plan.now c.args.log.now
    c.args.is_done done (own_entries c.args.on) c.as_slice.result.now _ c.as_slice.ensures
    c.in_ok-given.ensures c.if-log-on.false c.if-not-is_done.false
    (c.if-not-is_gone.ensures.0 refl) (c.if-not-all_fit_host.ensures.0 refl) tested)
    c.node_is_done.ensures

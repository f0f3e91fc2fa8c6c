use Rattle.std.proofs.Common.{refl}
use Rattle.std.proofs.lemmas.Result.{IfOk-weaker}
use Rattle.joint_law.specs.AllComplete.{own_entries}
use Rattle.joint_law.proofs.AtNodes.{end-tested}
use Rattle.joint_law.proofs.complete.end_is_done.Goals as goal

pub returns : goal.returns
returns c =
    IfOk-weaker c.side_ends_each_call.result _ _
    (λ done tested. end-tested c.args.on.node c.args.side c.args.on.status c.args.entries.now
    (own_entries c.args.on) done (c.if-not-is_gone.ensures.0 refl)
    (c.if-not-has_gone.ensures.0 refl) (c.if-not-leaves_quietly.ensures.0 refl)
    c.if-side-on.false tested)
    c.side_ends_each_call.ensures

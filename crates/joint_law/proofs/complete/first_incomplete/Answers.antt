use Rattle.std.proofs.Common.{◌≡◌, ◌<◌, ◌≤◌, subst, ⊎_elim, arith}
use Rattle.std.proofs.lemmas.Bool.{cases_lt}
use Rattle.joint_law.specs.Spots.{IsCompleteAt}
use Rattle.joint_law.proofs.complete.first_incomplete.Goals as goal

pub loop-node-preserved : goal.loop-node-preserved
loop-node-preserved c = λ n low.
    ⊎_elim (λ (l : n < c.loop-node.node). c.loop-node.invariant n l)
    (λ (l : c.loop-node.node ≤ n). let e : c.loop-node.node ≡ n = omega arith in
    subst (IsCompleteAt c.args.plant.now c.args.scans c.args.joint.now) e
    (c.in_ok-are_done.ensures.0 c.if-not-branch.false))
    (cases_lt n c.loop-node.node)

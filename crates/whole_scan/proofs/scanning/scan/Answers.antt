use Rattle.std.proofs.Common.{sym, ◌∙◌, []}
use Rattle.whole_scan.proofs.ScanSteps.{scanning-begins, scanning-goes-on, scanning-lessens}
use Rattle.whole_scan.proofs.ScanSteps.{scanning-between, scanning-made}
use Rattle.whole_scan.proofs.ScanSteps.{scanning-shorter}
use Rattle.whole_scan.proofs.scanning.scan.Goals as goal

pub loop-controller-init : goal.loop-controller-init
loop-controller-init c =
    scanning-begins c.args.controller.now c.reserve_scan.new.self []
    (sym c.has_ended.ensures ∙ c.if-has_ended.false) c.requires
    c.in_ok-reserve_scan.ensures.ok c.in_ok-reserve_scan.ensures.went_on

pub loop-controller-preserved : goal.loop-controller-preserved
loop-controller-preserved c =
    scanning-goes-on c.args.controller.now c.loop-controller.controller c.step.new.self _
    c.loop-controller.invariant
    (sym c.is_reserved.ensures ∙ c.loop-controller-test.true) c.step.ensures.grows
    c.step.ensures.went_on

pub loop-controller-smaller : goal.loop-controller-smaller
loop-controller-smaller c =
    scanning-shorter c.args.controller.now c.loop-controller.controller c.step.new.self
    c.loop-controller.invariant
    (sym c.is_reserved.ensures ∙ c.loop-controller-test.true) c.step.ensures.grows

pub returns-clause-made : goal.returns-clause-made
returns-clause-made c =
    scanning-made c.args.controller.now c.loop-controller.controller c.loop-controller.invariant
    (sym c.is_reserved.ensures ∙ c.loop-controller-test.false)

pub returns-clause-between : goal.returns-clause-between
returns-clause-between c =
    scanning-between c.args.controller.now c.loop-controller.controller c.loop-controller.invariant
    (sym c.is_reserved.ensures ∙ c.loop-controller-test.false)

pub returns-clause-less : goal.returns-clause-less
returns-clause-less c =
    scanning-lessens c.args.controller.now c.loop-controller.controller c.loop-controller.invariant
    (sym c.is_reserved.ensures ∙ c.loop-controller-test.false)

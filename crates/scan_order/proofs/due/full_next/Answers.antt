use Rattle.std.proofs.Common.{refl, sym, subst}
use Rattle.scan_order.specs.declared.due.ScanPlace.{ScanPlace}
use Rattle.scan_order.specs.declared.due.ScanPlace.TheVariants as places
use Rattle.scan_order.specs.declared.due.ScanStep.TheVariants as steps
use Rattle.scan_order.specs.Due.{full_scan, IsNextOf}
use Rattle.scan_order.proofs.Powers.{full-next}
use Rattle.scan_order.proofs.due.full_next.Goals as goal

pub returns-in-Start-clause-next : goal.returns-in-Start-clause-next
returns-in-Start-clause-next c =
    subst (λ (at : ScanPlace). IsNextOf (full_scan c.args.plan.now) at steps.Begin)
    (sym c.in-Start.is) (full-next c.args.plan.now places.Start steps.Begin (_, refl))

pub returns-in-Began-clause-next : goal.returns-in-Began-clause-next
returns-in-Began-clause-next c =
    subst (λ (at : ScanPlace). IsNextOf (full_scan c.args.plan.now) at c.first_from.result)
    (sym c.in-Began.is) (full-next c.args.plan.now places.Began _ c.first_from.ensures.first)

pub returns-in-DidIn-clause-next : goal.returns-in-DidIn-clause-next
returns-in-DidIn-clause-next c =
    let row = c.in-DidIn.row in
    subst (λ (at : ScanPlace). IsNextOf (full_scan c.args.plan.now) at (steps.Solve row))
    (sym c.in-DidIn.is)
    (full-next c.args.plan.now (places.DidIn row) (steps.Solve row) (_, refl))

pub returns-in-DidSolve-clause-next : goal.returns-in-DidSolve-clause-next
returns-in-DidSolve-clause-next c =
    subst (λ (at : ScanPlace). IsNextOf (full_scan c.args.plan.now) at c.first_behind.result)
    (sym c.in-DidSolve.is) (full-next c.args.plan.now (places.DidSolve c.in-DidSolve.row) _
    c.first_behind.ensures.first)

pub returns-in-DidOut-clause-next : goal.returns-in-DidOut-clause-next
returns-in-DidOut-clause-next c =
    subst (λ (at : ScanPlace). IsNextOf (full_scan c.args.plan.now) at
    c.first_from-in-DidOut.result) (sym c.in-DidOut.is)
    (full-next c.args.plan.now (places.DidOut c.in-DidOut.row) _
    c.first_from-in-DidOut.ensures.first)

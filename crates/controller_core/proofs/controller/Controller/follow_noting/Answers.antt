use Rattle.std.proofs.Common.{◌≡◌, IfOk, subst, sym}
use Rattle.controller_core.specs.declared.entry.Entry.{Entry}
use Rattle.controller_core.specs.Following.{followed}
use Rattle.controller_core.proofs.NextEntry.{takes_ok}
use Rattle.controller_core.proofs.controller.Controller.follow_noting.Goals as goal

pub returns-in-Solve-clause-takes : goal.returns-in-Solve-clause-takes
returns-in-Solve-clause-takes c =
    let told = c.follow_step_noting.ensures in
    let v = c.args.self.now in
    let w = c.follow_step_noting.new.self in
    let done = c.follow_step_noting.result in
    let P : Entry → Type 0 = λ e. IfOk done (λ same. w ≡ followed v e same) in
    takes_ok v w c.args.entry.now done (subst P (sym c.in-Solve.is) told.state) told.legal

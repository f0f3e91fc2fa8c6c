use Rattle.std.proofs.Common.{List, ◌++◌, ◌+◌, ◌≤◌, ap, drop, length, subst, sym, ◌∙◌}
use Rattle.turn_gate.specs.Known.{PassFacts}
use Rattle.controller_core.specs.Controller.{ControllerIs}
use Rattle.controller_core.specs.declared.entry.Entry.{Entry}
use Rattle.gated_sides.specs.Cells.{controller_in}
use Rattle.live_workers.proofs.Scans.{step-adds, stay-adds-one}
use Rattle.live_workers.proofs.scanning.step_in.Goals as goal

pub leave-requires-clause-added : goal.leave-requires-clause-added
leave-requires-clause-added g c =
    let found = c.get_mut.ensures.value ∙ ap controller_in c.value.ensures.value in
    step-adds c.step_reserved-answer.result c.get_mut.result.now
    c.step_reserved-answer.new.controller c.enter-held.new.pass _
    (ap (λ (p : PassFacts Entry). p.number) c.enter-held.ensures.pass ∙ c.requires.ready.number_is)
    (ap (λ (p : PassFacts Entry). p.seen) c.enter-held.ensures.pass)
    (ap (λ (v : ControllerIs). v.history) found)
    c.step_reserved-answer.ensures.went c.step_reserved-answer.ensures.err

pub returns-clause-one : goal.returns-clause-one
returns-clause-one g c =
    let found = c.get_mut.ensures.value ∙ ap controller_in c.value.ensures.value in
    let q = c.enter-held.new.pass in
    let made = c.step_reserved-answer.new.controller.history in
    let entered = ap (λ (p : PassFacts Entry). p.seen) c.enter-held.ensures.pass in
    let one = stay-adds-one c.step_reserved-answer.result c.get_mut.result.now
    c.step_reserved-answer.new.controller c.args.pass.now.mine q.seen
    (ap (λ (v : ControllerIs). v.history) found ∙ sym entered) c.step_reserved-answer.ensures.went
    c.step_reserved-answer.ensures.err in
    let mine = ap (λ (p : PassFacts Entry). p.mine) c.leave.ensures.pass
    ∙ ap (λ (m : List Entry). m ++ drop (length q.seen) made)
    (ap (λ (p : PassFacts Entry). p.mine) c.enter-held.ensures.pass) in
    subst (λ (m : List Entry). length m ≤ length c.args.pass.now.mine + 1) (sym mine) one

use Rattle.std.proofs.Common.{false, ◌∙◌, ◌+◌, ap, Some, arith}
use Rattle.std.specs.Prelude.{option_map}
use Rattle.host_port.specs.declared.host.Path.{Path}
use Rattle.host_port.specs.Calls.{call_on}
use Rattle.host_port.specs.Host.{HostIs}
use Rattle.host_port.proofs.Due.{asked_few}
use Rattle.host_port.proofs.Reading.{path_read}
use Rattle.host_port.proofs.host.Host.next_call.Goals as goal

pub returns : goal.returns
returns c =
    let i = c.self.inside in
    let h = i.history.items in
    let p = c.in-Some.path in
    let read = path_read h i.paths p c.from.result _ c.self.invariant.kept.state
    c.in-Some.ensures.path c.from.ensures in
    let named = λ (q : Path). Some (record { node = i.plan.node; path = p; seq = q.asked + 1 }) in
    let here = ap (λ (v : HostIs). Some (call_on v.plan v.history p)) c.self.view_is in
    ap named read ∙ here
    ∙ ap (option_map (call_on c.args.self.now.plan c.args.self.now.history)) c.in-Some.ensures.free

pub overflow_add-result : goal.overflow_add-result
overflow_add-result c =
    let i = c.self.inside in
    let h = i.history.items in
    let p = c.in-Some.path in
    let unused : Path = record { asked = 0; is_open = false } in
    let read = ap (λ (q : Path). q.asked) (path_read h i.paths p c.from.result unused
    c.self.invariant.kept.state c.in-Some.ensures.path c.from.ensures) in
    let few = asked_few i.plan h p c.self.invariant.kept.legal c.self.invariant.sound in
    omega (arith, read, few)

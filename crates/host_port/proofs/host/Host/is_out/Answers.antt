use Rattle.std.proofs.Common.{◌∙◌, ap, sym, inl, inr, arith}
use Rattle.std.proofs.lemmas.Bool.{both_ways, cases_Bool}
use Rattle.ring_core.specs.MstrBlock.{CallId}
use Rattle.host_port.specs.Calls.{is_unanswered, unanswered_in}
use Rattle.host_port.specs.Host.{HostIs}
use Rattle.host_port.proofs.Reading.{out_nowhere, out_where, path_read}
use Rattle.host_port.proofs.Unanswered.{out_last}
use Rattle.host_port.proofs.host.Host.is_out.Goals as goal
use Rattle.host_port.proofs.host.Host.is_out.Goals.{then-id-self-via-then-id-self}
use Rattle.host_port.proofs.host.Host.is_out.Goals.{then-id-self-via-else-id-self+then-not-is_path}

pub returns-then-id-self : goal.returns-then-id-self
returns-then-id-self c =
    let h = c.self.inside.history.items in
    let here = ap (λ (v : HostIs). is_unanswered v.history c.args.id) c.self.view_is in
    elim (cases_Bool (is_unanswered h c.args.id)) [
      | inl out ↦
          let last = out_last c.self.inside.plan h
          (unanswered_in h) c.args.id c.self.invariant.kept.unanswered out in
          let node = ap (λ (i : CallId). i.node) last.name in
          elim c.then-id-self.branch [
            | then-id-self-via-then-id-self w ↦ absurd (omega (arith, node))
            | then-id-self-via-else-id-self+then-not-is_path w ↦ absurd
                (both_ways _ w.if-not-is_path.true (w.is_path.ensures.all last.path))
          ]
      | inr other ↦ sym other ∙ here
    ]

pub returns-then-path : goal.returns-then-path
returns-then-path c =
    let i = c.self.inside in
    let h = i.history.items in
    let path = c.is_path.ensures.only c.if-not-is_path.false in
    let read = path_read h i.paths c.args.id.path c.from.result _ c.self.invariant.kept.state path
    c.from.ensures in
    out_where i.plan h c.args.id _ c.self.invariant.kept.unanswered c.if-id-self.false read
    c.if-path.true
    ∙ ap (λ (v : HostIs). is_unanswered v.history c.args.id) c.self.view_is

pub returns-else-path : goal.returns-else-path
returns-else-path c =
    let i = c.self.inside in
    let h = i.history.items in
    let path = c.is_path.ensures.only c.if-not-is_path.false in
    let read = path_read h i.paths c.args.id.path c.from.result _ c.self.invariant.kept.state path
    c.from.ensures in
    out_nowhere i.plan h c.args.id _ c.self.invariant.kept.unanswered c.if-id-self.false read
    c.if-path.false
    ∙ ap (λ (v : HostIs). is_unanswered v.history c.args.id) c.self.view_is

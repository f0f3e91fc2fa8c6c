use Rattle.std.proofs.Common.{◌∙◌, sym}
use Rattle.bridge_relay.proofs.Keeping.{forward_answer, forward_due, forward_fits}
use Rattle.bridge_relay.proofs.bridge.Bridge.forward.Goals as goal

pub send-requires : goal.send-requires
send-requires c =
    let i = c.self.inside in
    let v = c.args.self.now in
    let due = sym (forward_due v i.plan i.relay i.history.items c.args.side c.near-end.result.now
    c.self.view_is c.self.invariant.state c.near-end.ensures)
    ∙ sym c.in_ok-entry.ensures ∙ c.in-Some.is in
    forward_fits v.plan v.history c.args.side c.in-Some.entry c.requires due

pub returns-clause-due : goal.returns-clause-due
returns-clause-due c =
    let i = c.self.inside in
    let v = c.args.self.now in
    let due = sym (forward_due v i.plan i.relay i.history.items c.args.side c.near-end.result.now
    c.self.view_is c.self.invariant.state c.near-end.ensures)
    ∙ sym c.in_ok-entry.ensures ∙ c.in-Some.is in
    forward_answer v.plan v.history c.args.side c.in-Some.entry c.send.result c.requires.end due
    c.send.ensures.frame

use Rattle.std.proofs.Common.{ap, ◌∙◌}
use Rattle.turn_gate.specs.Known.{PassFacts}
use Rattle.bridge_relay.specs.Bridge.{BridgeIs}
use Rattle.bridge_relay.specs.declared.entry.BridgeEntry.{BridgeEntry}
use Rattle.bridge_relay.specs.Bridge.{IsForwarded}
use Rattle.bridge_relay.specs.Legal.{due_forward}
use Rattle.bridge_relay.specs.Laws.{is_by}
use Rattle.bridge_relay.specs.Machine.{side_of}
use Rattle.gated_sides.specs.Cells.{bridge_in}
use Rattle.gated_sides.specs.Sides.{GatedBridgeIs}
use Rattle.gated_sides.proofs.EndStays.{due-adds, forward-went, none-end, of-due-forward}
use Rattle.gated_sides.proofs.EndStays.{open-found}
use Rattle.gated_sides.proofs.Stays.{found-went}
use Rattle.gated_sides.proofs.gated_bridge.GatedBridgeBridgeSide.forward.Goals as goal

pub forward-answer-requires-clause-is_open : goal.forward-answer-requires-clause-is_open
forward-answer-requires-clause-is_open g c =
    let is = c.get_mut-bridge.ensures.value ∙ ap bridge_in c.value.ensures.value in
    let number = ap (λ (s : GatedBridgeIs). s.number) c.self.view_is ∙ c.requires.serves in
    let found = found-went side_of (is_by c.args.side) c.args.side (none-end c.args.side)
    c.self.inside.pass c.args.self.now.seen _ c.get_mut-bridge.result.now.history number
    c.enter-held.ensures.found
    (ap (λ (s : GatedBridgeIs). s.seen) c.self.view_is) (ap (λ (v : BridgeIs). v.history) is) in
    open-found c.args.self.now.gate.fixed c.get_mut-bridge.result.now.plan c.args.side
    c.args.self.now.seen c.get_mut-bridge.result.now.history
    (ap (λ (v : BridgeIs). v.plan) is
    ∙ (c.enter-held.ensures.fixed ∙ ap (λ (s : GatedBridgeIs). s.gate.fixed) c.self.view_is))
    c.history.ensures.legal found c.requires.is_open

pub leave-requires-clause-added : goal.leave-requires-clause-added
leave-requires-clause-added g c =
    let is = c.get_mut-bridge.ensures.value ∙ ap bridge_in c.value.ensures.value in
    let number = ap (λ (s : GatedBridgeIs). s.number) c.self.view_is ∙ c.requires.serves in
    let plan = c.get_mut-bridge.result.now.plan in
    due-adds c.args.side (λ past. due_forward plan past c.args.side)
    (λ past f. IsForwarded plan past c.args.side f) c.enter-held.new.pass _ _ _
    c.forward-answer.result
    (ap (λ (p : PassFacts BridgeEntry). p.number) c.enter-held.ensures.pass ∙ number)
    (ap (λ (p : PassFacts BridgeEntry). p.seen) c.enter-held.ensures.pass)
    (ap (λ (v : BridgeIs). v.history) is) c.forward-answer.ensures.went
    (of-due-forward plan c.args.side)

pub returns-clause-went : goal.returns-clause-went
returns-clause-went g c =
    let is = c.get_mut-bridge.ensures.value ∙ ap bridge_in c.value.ensures.value in
    let number = ap (λ (s : GatedBridgeIs). s.number) c.self.view_is ∙ c.requires.serves in
    let found = found-went side_of (is_by c.args.side) c.args.side (none-end c.args.side)
    c.self.inside.pass c.args.self.now.seen _ c.get_mut-bridge.result.now.history number
    c.enter-held.ensures.found
    (ap (λ (s : GatedBridgeIs). s.seen) c.self.view_is) (ap (λ (v : BridgeIs). v.history) is) in
    forward-went c.args.self.now.gate.fixed c.get_mut-bridge.result.now.plan c.args.side
    c.args.self.now.seen c.get_mut-bridge.result.now.history _ _ c.forward-answer.result
    (ap (λ (v : BridgeIs). v.plan) is
    ∙ (c.enter-held.ensures.fixed ∙ ap (λ (s : GatedBridgeIs). s.gate.fixed) c.self.view_is))
    found c.forward-answer.ensures.went
    (ap (λ (p : PassFacts BridgeEntry). p.seen) c.leave.ensures.pass)

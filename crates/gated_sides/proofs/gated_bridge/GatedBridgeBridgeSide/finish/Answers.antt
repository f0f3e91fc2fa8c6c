use Rattle.std.proofs.Common.{ap, ◌∙◌, refl}
use Rattle.turn_gate.specs.Known.{PassFacts}
use Rattle.bridge_relay.specs.Bridge.{BridgeIs}
use Rattle.bridge_relay.specs.declared.entry.BridgeEntry.{BridgeEntry}
use Rattle.bridge_relay.specs.declared.entry.BridgeEntry.TheVariants.{Finish}
use Rattle.bridge_relay.specs.Laws.{is_by}
use Rattle.bridge_relay.specs.Machine.{side_of}
use Rattle.gated_sides.specs.Cells.{bridge_in}
use Rattle.gated_sides.specs.Sides.{GatedBridgeIs}
use Rattle.gated_sides.proofs.EndStays.{none-end, open-found, out-found}
use Rattle.gated_sides.proofs.Stays.{all_if, found-went, stay-adds, stay-went}
use Rattle.gated_sides.proofs.gated_bridge.GatedBridgeBridgeSide.finish.Goals as goal

pub finish-answer-requires-clause-is_open : goal.finish-answer-requires-clause-is_open
finish-answer-requires-clause-is_open g c =
    let is = c.get_mut-bridge.ensures.value ∙ ap bridge_in c.value.ensures.value in
    let number = ap (λ (s : GatedBridgeIs). s.number) c.self.view_is ∙ c.requires.serves in
    let found = found-went side_of (is_by c.args.side) c.args.side (none-end c.args.side)
    c.self.inside.pass c.args.self.now.seen _ c.get_mut-bridge.result.now.history number
    c.enter-held.ensures.found
    (ap (λ (s : GatedBridgeIs). s.seen) c.self.view_is) (ap (λ (v : BridgeIs). v.history) is) in
    open-found c.args.self.now.gate.fixed c.get_mut-bridge.result.now.plan c.args.side
    c.args.self.now.seen c.get_mut-bridge.result.now.history
    (ap (λ (v : BridgeIs). v.plan) is
    ∙ (c.enter-held.ensures.fixed ∙ ap (λ (s : GatedBridgeIs). s.gate.fixed) c.self.view_is))
    c.history.ensures.legal found c.requires.is_open

pub finish-answer-requires-clause-out : goal.finish-answer-requires-clause-out
finish-answer-requires-clause-out g c =
    let is = c.get_mut-bridge.ensures.value ∙ ap bridge_in c.value.ensures.value in
    let number = ap (λ (s : GatedBridgeIs). s.number) c.self.view_is ∙ c.requires.serves in
    let found = found-went side_of (is_by c.args.side) c.args.side (none-end c.args.side)
    c.self.inside.pass c.args.self.now.seen _ c.get_mut-bridge.result.now.history number
    c.enter-held.ensures.found
    (ap (λ (s : GatedBridgeIs). s.seen) c.self.view_is) (ap (λ (v : BridgeIs). v.history) is) in
    out-found c.args.self.now.gate.fixed c.get_mut-bridge.result.now.plan c.args.side
    c.args.id c.args.self.now.seen c.get_mut-bridge.result.now.history
    (ap (λ (v : BridgeIs). v.plan) is
    ∙ (c.enter-held.ensures.fixed ∙ ap (λ (s : GatedBridgeIs). s.gate.fixed) c.self.view_is))
    c.history.ensures.legal found c.requires.is_open.end c.requires.out

pub leave-requires-clause-added : goal.leave-requires-clause-added
leave-requires-clause-added g c =
    let is = c.get_mut-bridge.ensures.value ∙ ap bridge_in c.value.ensures.value in
    let number = ap (λ (s : GatedBridgeIs). s.number) c.self.view_is ∙ c.requires.serves in
    stay-adds side_of (is_by c.args.side) c.enter-held.new.pass c.args.side _ _ _ _
    (ap (λ (p : PassFacts BridgeEntry). p.number) c.enter-held.ensures.pass ∙ number)
    (ap (λ (p : PassFacts BridgeEntry). p.seen) c.enter-held.ensures.pass)
    (ap (λ (v : BridgeIs). v.history) is) c.finish-answer.ensures.went
    (all_if side_of c.args.side c.finish-answer.result
    (λ _. Finish c.args.side c.args.id c.args.outcome) (λ _. refl))

pub returns-clause-went : goal.returns-clause-went
returns-clause-went g c =
    let is = c.get_mut-bridge.ensures.value ∙ ap bridge_in c.value.ensures.value in
    let number = ap (λ (s : GatedBridgeIs). s.number) c.self.view_is ∙ c.requires.serves in
    stay-went side_of (is_by c.args.side) c.args.side (none-end c.args.side) c.self.inside.pass
    _ _ _ _ _ _ number c.enter-held.ensures.found
    (ap (λ (s : GatedBridgeIs). s.seen) c.self.view_is) (ap (λ (v : BridgeIs). v.history) is)
    c.finish-answer.ensures.went
    (ap (λ (p : PassFacts BridgeEntry). p.seen) c.leave.ensures.pass)

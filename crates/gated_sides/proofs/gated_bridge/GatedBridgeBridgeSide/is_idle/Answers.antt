use Rattle.std.proofs.Common.{ap, ◌∙◌}
use Rattle.turn_gate.specs.Known.{PassFacts}
use Rattle.bridge_relay.specs.Bridge.{BridgeIs}
use Rattle.bridge_relay.specs.declared.entry.BridgeEntry.{BridgeEntry}
use Rattle.bridge_relay.specs.Laws.{is_by}
use Rattle.bridge_relay.specs.Machine.{side_of}
use Rattle.gated_sides.specs.Cells.{bridge_in}
use Rattle.gated_sides.specs.Sides.{GatedBridgeIs}
use Rattle.gated_sides.proofs.EndStays.{none-end}
use Rattle.gated_sides.proofs.Stays.{all_none, stay-adds, stay-went}
use Rattle.gated_sides.proofs.gated_bridge.GatedBridgeBridgeSide.is_idle.Goals as goal

pub leave-requires-clause-added : goal.leave-requires-clause-added
leave-requires-clause-added g c =
    let is = c.get_mut-bridge.ensures.value ∙ ap bridge_in c.value.ensures.value in
    let number = ap (λ (s : GatedBridgeIs). s.number) c.self.view_is ∙ c.requires.serves in
    stay-adds side_of (is_by c.args.side) c.enter-held.new.pass c.args.side _ _ _ _
    (ap (λ (p : PassFacts BridgeEntry). p.number) c.enter-held.ensures.pass ∙ number)
    (ap (λ (p : PassFacts BridgeEntry). p.seen) c.enter-held.ensures.pass)
    (ap (λ (v : BridgeIs). v.history) is) c.is_idle-answer.ensures.went
    (all_none side_of c.args.side)

pub returns-clause-went : goal.returns-clause-went
returns-clause-went g c =
    let is = c.get_mut-bridge.ensures.value ∙ ap bridge_in c.value.ensures.value in
    let number = ap (λ (s : GatedBridgeIs). s.number) c.self.view_is ∙ c.requires.serves in
    stay-went side_of (is_by c.args.side) c.args.side (none-end c.args.side) c.self.inside.pass
    _ _ _ _ _ _ number c.enter-held.ensures.found
    (ap (λ (s : GatedBridgeIs). s.seen) c.self.view_is) (ap (λ (v : BridgeIs). v.history) is)
    c.is_idle-answer.ensures.went
    (ap (λ (p : PassFacts BridgeEntry). p.seen) c.leave.ensures.pass)

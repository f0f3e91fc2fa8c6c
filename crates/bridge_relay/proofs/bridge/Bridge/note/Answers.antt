use Rattle.std.proofs.Common.{◌++◌, ◌∷◌, [], sym, subst, ap, ◌∙◌}
use Rattle.bridge_relay.specs.Legal.{IsBridgeStep}
use Rattle.bridge_relay.specs.Bridge.{BridgeIs}
use Rattle.bridge_relay.proofs.Keeping.{kept_more, went_more}
use Rattle.bridge_relay.proofs.bridge.Bridge.note.Goals as goal

pub invariant_of-self-2 : goal.invariant_of-self-2
invariant_of-self-2 c =
    let i = c.self.inside in
    let fits = subst (λ (v : BridgeIs). IsBridgeStep v.plan v.history c.args.entry)
    (sym c.self.view_is) c.requires in
    let grown = c.put.ensures ∙ ap (λ l. l ++ c.args.entry ∷ []) c.in_ok-make_room.ensures.items in
    kept_more i.plan i.relay c.step.new.self i.history.items c.put.new.history.items c.args.entry
    c.self.invariant fits c.in_ok-step.ensures.ok grown

pub returns-clause-went_on : goal.returns-clause-went_on
returns-clause-went_on c =
    let i = c.self.inside in
    let fits = subst (λ (v : BridgeIs). IsBridgeStep v.plan v.history c.args.entry)
    (sym c.self.view_is) c.requires in
    let grown = c.put.ensures ∙ ap (λ l. l ++ c.args.entry ∷ []) c.in_ok-make_room.ensures.items in
    let kept = kept_more i.plan i.relay c.step.new.self i.history.items c.put.new.history.items
    c.args.entry c.self.invariant fits c.in_ok-step.ensures.ok grown in
    went_more c.args.self.now i.plan i.history.items c.put.new.history.items c.args.entry
    c.self.view_is grown kept.legal

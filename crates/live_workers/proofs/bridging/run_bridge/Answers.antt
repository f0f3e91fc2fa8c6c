use Rattle.std.proofs.Common.{◌≡◌, All, sym, ap, subst, ◌∙◌}
use Rattle.turn_gate.specs.Known.{Owns, StartsWith}
use Rattle.bridge_relay.specs.Bridge.{BridgeIs}
use Rattle.bridge_relay.specs.Legal.{IsBridgeHistory}
use Rattle.bridge_relay.specs.Machine.{side_of}
use Rattle.gated_sides.specs.Cells.{bridge_in}
use Rattle.live_workers.specs.Bridging.{AreBothBack}
use Rattle.live_workers.proofs.Crossed.{bridge-came}
use Rattle.live_workers.proofs.bridging.run_bridge.Goals as goal

pub returns-clause-ended : goal.returns-clause-ended
returns-clause-ended g c =
    let gate = c.in_ok-gate.gate in
    let plan = c.args.plan.now in
    let made = c.new-2.ensures ∙ c.in_ok-bridge.ensures in
    let fixed : gate.fixed ≡ plan =
    c.in_ok-gate.ensures.fixed ∙ ap (λ (v : BridgeIs). v.plan) made in
    let t = c.through_gate-zero in
    let p = t.result.0 in
    let inner : c.into_inner-bridge.result ≡ bridge_in c.close.result =
    c.into_inner-bridge.ensures in
    let log = c.into_history in
    let history : log.result ≡ (bridge_in c.close.result).history =
    log.ensures.history ∙ ap (λ (v : BridgeIs). v.history) inner in
    let kept : c.into_inner-bridge.result.plan ≡ plan =
    ap (λ (v : BridgeIs). v.plan) inner ∙ (c.close.ensures.fixed ∙ fixed) in
    bridge-came g.G.RingSide c.args.run.now.plant.now plan gate t.new.ends p log.result
    (c.in_ok-gate.ensures.opening ∙ ap (λ (v : BridgeIs). v.history) made) fixed
    (ap (λ s. s.0.net) t.ensures.sides ∙ c.requires.left.net)
    (ap (λ s. s.1.net) t.ensures.sides ∙ c.requires.right.net)
    (subst (AreBothBack g.G.RingSide gate plan t.new.ends p) c.if-not-done.false t.ensures.back)
    (subst (λ l. All (StartsWith l) p.heard) (sym history) c.close.ensures.heard)
    (subst (Owns side_of p) (sym history) c.close.ensures.own)
    (subst (λ q. IsBridgeHistory q log.result) kept
    (subst (IsBridgeHistory c.into_inner-bridge.result.plan) (sym log.ensures.history)
    log.ensures.legal))

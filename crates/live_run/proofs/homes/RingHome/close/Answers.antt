use Rattle.std.proofs.Common.{◌≡◌, List, sym, ap, ◌∙◌, subst, subst₂}
use Rattle.plant_types.specs.declared.net.NetPlan.{NetPlan}
use Rattle.ring_core.specs.declared.entry.RingEntry.{RingEntry}
use Rattle.ring_core.specs.Kept.{KeptRing}
use Rattle.ring_core.specs.Legal.{IsLegalRing}
use Rattle.ring_core.specs.Words.{maker}
use Rattle.turn_gate.specs.Known.{GateFacts, Owns, StartsWith}
use Rattle.std.specs.List.{All}
use Rattle.live_run.proofs.homes.RingHome.close.Goals as goal

pub returns : goal.returns
returns c =
    let pass = c.passed_out-pass.result in
    let gate : c.self.inside.gate ≡ c.args.self = c.self.view_is in
    let net : c.into_inner.result.net ≡ c.args.self.fixed =
    ap (λ (ring : KeptRing). ring.net) c.into_inner.ensures ∙ c.close.ensures.fixed
    ∙ ap (λ (home : GateFacts RingEntry NetPlan). home.fixed) gate in
    let same : c.into_history.result ≡ c.close.result.ring.history =
    c.into_history.ensures.history ∙ ap (λ (ring : KeptRing). ring.history) c.into_inner.ensures in
    record {
      pass = pass;
      kept = c.passed_out-pass.ensures;
      network = c.self.invariant
          ∙ ap (λ (home : GateFacts RingEntry NetPlan). home.fixed.number) gate;
      legal = subst₂ IsLegalRing net (sym c.into_history.ensures.history)
          c.into_history.ensures.legal;
      own = subst (Owns maker pass) (sym same) c.close.ensures.own;
      heard = subst (λ (es : List RingEntry). All (StartsWith es) pass.heard) (sym same)
          c.close.ensures.heard;
    }

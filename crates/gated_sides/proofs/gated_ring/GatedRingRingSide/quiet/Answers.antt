use Rattle.std.proofs.Common.{ap, ◌∙◌}
use Rattle.turn_gate.specs.Known.{PassFacts}
use Rattle.ring_core.specs.Kept.{KeptRing}
use Rattle.ring_core.specs.Words.{maker}
use Rattle.ring_core.specs.declared.entry.RingEntry.{RingEntry}
use Rattle.tied_lists.specs.Own.{is_of}
use Rattle.gated_sides.specs.Cells.{ring_in}
use Rattle.gated_sides.specs.Sides.{GatedRingIs}
use Rattle.gated_sides.proofs.Stays.{stay-went, none-own}
use Rattle.gated_sides.proofs.gated_ring.GatedRingRingSide.quiet.Goals as goal

pub returns-clause-went : goal.returns-clause-went
returns-clause-went g c =
    let found = c.get_mut-ring.ensures.value ∙ ap ring_in c.value.ensures.value in
    record {
      list = stay-went maker (is_of c.args.node) c.args.node
          (none-own c.args.node) c.self.inside.pass _ _ _ _ _ _
          (ap (λ (s : GatedRingIs). s.number) c.self.view_is
          ∙ c.requires.serves) c.enter-held.ensures.found
          (ap (λ (s : GatedRingIs). s.seen) c.self.view_is)
          (ap (λ (v : KeptRing). v.history) found) (c.quiet-answer.ensures.went.list)
          (ap (λ (p : PassFacts RingEntry). p.seen) c.leave.ensures.pass);
      kept = tt;
    }

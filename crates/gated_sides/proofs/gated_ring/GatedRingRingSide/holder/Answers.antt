use Rattle.std.proofs.Common.{[], ap, ◌∙◌}
use Rattle.turn_gate.specs.Known.{PassFacts}
use Rattle.ring_core.specs.Kept.{KeptRing}
use Rattle.ring_core.specs.Words.{maker}
use Rattle.ring_core.specs.declared.entry.RingEntry.{RingEntry}
use Rattle.tied_lists.specs.Own.{is_of}
use Rattle.gated_sides.specs.Cells.{ring_in}
use Rattle.gated_sides.specs.Sides.{GatedRingIs}
use Rattle.gated_sides.proofs.Stays.{stay-adds, stay-went, none-own, all_none}
use Rattle.gated_sides.proofs.gated_ring.GatedRingRingSide.holder.Goals as goal

pub returns-clause-went : goal.returns-clause-went
returns-clause-went g c node serves =
    let found = c.get_mut-ring.ensures.value ∙ ap ring_in c.value.ensures.value in
    record {
      list = stay-went maker (is_of node) node (none-own node) c.self.inside.pass _ _ _ _ _ _
          (ap (λ (s : GatedRingIs). s.number) c.self.view_is ∙ serves) c.enter-held.ensures.found
          (ap (λ (s : GatedRingIs). s.seen) c.self.view_is)
          (ap (λ (v : KeptRing). v.history) found) (c.holder-answer.ensures.went node tt).list
          (ap (λ (p : PassFacts RingEntry). p.seen) c.leave.ensures.pass);
      kept = tt;
    }

pub leave-requires-clause-added : goal.leave-requires-clause-added
leave-requires-clause-added g c =
    let found = c.get_mut-ring.ensures.value ∙ ap ring_in c.value.ensures.value in
    let n = c.self.inside.pass.number in
    stay-adds maker (is_of n) c.enter-held.new.pass n _ _ [] _
    (ap (λ (p : PassFacts RingEntry). p.number) c.enter-held.ensures.pass)
    (ap (λ (p : PassFacts RingEntry). p.seen) c.enter-held.ensures.pass)
    (ap (λ (v : KeptRing). v.history) found) (c.holder-answer.ensures.went n tt).list
    (all_none maker n)

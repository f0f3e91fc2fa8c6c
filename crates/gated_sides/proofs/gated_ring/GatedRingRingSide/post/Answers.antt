use Rattle.std.proofs.Common.{ap, ◌∙◌, refl}
use Rattle.turn_gate.specs.Known.{PassFacts}
use Rattle.ring_core.specs.Kept.{KeptRing}
use Rattle.ring_core.specs.Words.{maker}
use Rattle.ring_core.specs.declared.entry.RingEntry.{RingEntry}
use Rattle.tied_lists.specs.Own.{is_of}
use Rattle.gated_sides.specs.Cells.{ring_in}
use Rattle.gated_sides.specs.Sides.{GatedRingIs}
use Rattle.ring_core.specs.declared.entry.RingEntry.TheVariants.{Post}
use Rattle.gated_sides.proofs.Stays.{stay-adds, stay-went, all_if, none-own, next-in}
use Rattle.gated_sides.proofs.gated_ring.GatedRingRingSide.post.Goals as goal

pub leave-requires-clause-added : goal.leave-requires-clause-added
leave-requires-clause-added g c =
    let found = c.get_mut-ring.ensures.value ∙ ap ring_in c.value.ensures.value in
    stay-adds maker (is_of c.args.node) c.enter-held.new.pass c.args.node _ _ _ _
    (ap (λ (p : PassFacts RingEntry). p.number) c.enter-held.ensures.pass
    ∙ (ap (λ (s : GatedRingIs). s.number) c.self.view_is ∙ c.requires.serves))
    (ap (λ (p : PassFacts RingEntry). p.seen) c.enter-held.ensures.pass)
    (ap (λ (v : KeptRing). v.history) found) c.post-answer.ensures.went.list
    (all_if maker c.args.node c.post-answer.result (λ _. Post c.args.node c.args.frame) (λ _. refl))

pub returns-clause-went : goal.returns-clause-went
returns-clause-went g c =
    let found = c.get_mut-ring.ensures.value ∙ ap ring_in c.value.ensures.value in
    record {
      list = stay-went maker (is_of c.args.node) c.args.node
          (none-own c.args.node) c.self.inside.pass _ _ _ _ _ _
          (ap (λ (s : GatedRingIs). s.number) c.self.view_is
          ∙ c.requires.serves) c.enter-held.ensures.found
          (ap (λ (s : GatedRingIs). s.seen) c.self.view_is)
          (ap (λ (v : KeptRing). v.history) found) (c.post-answer.ensures.went.list)
          (ap (λ (p : PassFacts RingEntry). p.seen) c.leave.ensures.pass);
      kept = tt;
    }

pub post-answer-requires-clause-next : goal.post-answer-requires-clause-next
post-answer-requires-clause-next g c =
    let found = c.get_mut-ring.ensures.value ∙ ap ring_in c.value.ensures.value in
    next-in c.args.self.now.gate.fixed c.get_mut-ring.result.now.net c.args.node c.args.frame
    c.self.inside.pass c.args.self.now.seen _ c.get_mut-ring.result.now.history
    (ap (λ (v : KeptRing). v.net) found
    ∙ (c.enter-held.ensures.fixed ∙ ap (λ (s : GatedRingIs). s.gate.fixed) c.self.view_is))
    (ap (λ (s : GatedRingIs). s.number) c.self.view_is ∙ c.requires.serves)
    c.enter-held.ensures.found (ap (λ (s : GatedRingIs). s.seen) c.self.view_is)
    (ap (λ (v : KeptRing). v.history) found) c.requires.next

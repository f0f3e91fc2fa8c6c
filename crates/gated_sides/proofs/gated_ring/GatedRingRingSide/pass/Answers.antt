use Rattle.std.proofs.Common.{ℕ, true, List, [], ◌∷◌, ap, subst, ◌∙◌, refl}
use Rattle.turn_gate.specs.Known.{PassFacts}
use Rattle.ring_core.specs.Kept.{KeptRing}
use Rattle.ring_core.specs.Words.{maker}
use Rattle.ring_core.specs.declared.entry.RingEntry.{RingEntry}
use Rattle.tied_lists.specs.Own.{is_of}
use Rattle.gated_sides.specs.Cells.{ring_in}
use Rattle.gated_sides.specs.Sides.{GatedRingIs}
use Rattle.ring_core.specs.declared.entry.RingEntry.TheVariants.{Pass}
use Rattle.ring_core.specs.Scratch.{words_put}
use Rattle.tied_lists.specs.Own.{added_if, WentOn}
use Rattle.gated_sides.proofs.Stays.{stay-adds, stay-went, all_if, none-own, words-in}
use Rattle.gated_sides.proofs.gated_ring.GatedRingRingSide.pass.Goals as goal

pub leave-requires-clause-added : goal.leave-requires-clause-added
leave-requires-clause-added g c =
    let found = c.get_mut-ring.ensures.value ∙ ap ring_in c.value.ensures.value in
    stay-adds maker (is_of c.args.node) c.enter-held.new.pass c.args.node _ _ _ _
    (ap (λ (p : PassFacts RingEntry). p.number) c.enter-held.ensures.pass
    ∙ (ap (λ (s : GatedRingIs). s.number) c.self.view_is ∙ c.requires.serves))
    (ap (λ (p : PassFacts RingEntry). p.seen) c.enter-held.ensures.pass)
    (ap (λ (v : KeptRing). v.history) found) c.pass-answer.ensures.went.list
    (all_if maker c.args.node c.pass-answer.result (λ _. Pass c.args.node c.args.done
    (words_put c.args.node c.get_mut-ring.result.now.history)) (λ _. refl))

pub returns-clause-went : goal.returns-clause-went
returns-clause-went g c =
    let found = c.get_mut-ring.ensures.value ∙ ap ring_in c.value.ensures.value in
    record {
      list = stay-went maker (is_of c.args.node) c.args.node
          (none-own c.args.node) c.self.inside.pass _ _ _ _ _ _
          (ap (λ (s : GatedRingIs). s.number) c.self.view_is
          ∙ c.requires.serves) c.enter-held.ensures.found
          (ap (λ (s : GatedRingIs). s.seen) c.self.view_is)
          (ap (λ (v : KeptRing). v.history) found) (subst
          (λ (words : List ℕ). WentOn true (is_of c.args.node) c.get_mut-ring.result.now.history
          (added_if c.pass-answer.result (λ _. Pass c.args.node c.args.done words ∷ []))
          c.pass-answer.new.self.history)
          (words-in c.args.node c.self.inside.pass c.args.self.now.seen _
          c.get_mut-ring.result.now.history
          (ap (λ (s : GatedRingIs). s.number) c.self.view_is
          ∙ c.requires.serves) c.enter-held.ensures.found
          (ap (λ (s : GatedRingIs). s.seen) c.self.view_is)
          (ap (λ (v : KeptRing). v.history) found))
          c.pass-answer.ensures.went.list)
          (ap (λ (p : PassFacts RingEntry). p.seen) c.leave.ensures.pass);
      kept = tt;
    }

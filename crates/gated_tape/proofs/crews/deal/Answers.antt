use Rattle.std.proofs.Common.{◌≡◌, ◌+◌, ◌∷◌, ℕ, refl, sym, ap, ◌∙◌, subst, add-one, arith, rules}
use Rattle.turn_gate.specs.Known.{PassFacts, is_among}
use Rattle.gated_tape.specs.declared.tapes.Mark.{Mark}
use Rattle.gated_tape.specs.Crews.{count_down, AreDealt}
use Rattle.gated_tape.proofs.Dealing.{first_given, dealt_none, fresh_above, next_given, dealt_next}
use Rattle.gated_tape.proofs.crews.deal.Goals as goal

pub loop-index-init : goal.loop-index-init
loop-index-init g c =
    let one = c.args.one.now in
    let two = c.args.two.now in
    record {
      one_is = c.requires.one ∙ first_given one.name;
      two_is = c.requires.two ∙ first_given two.name;
      filled = c.requires.room.1;
      capacity = c.requires.room.2;
      dealt = subst (AreDealt one two (count_down 0)) (sym c.requires.room.0) (dealt_none one two);
    }

pub split-giver-requires-clause-fresh : goal.split-giver-requires-clause-fresh
split-giver-requires-clause-fresh g c =
    let index : ℕ = c.loop-index.index in (
      (λ e. omega arith),
      ap (λ (p : PassFacts Mark). is_among (index + 1) p.given) c.loop-index.invariant.one_is
          ∙ fresh_above (index + 1) index (omega arith),
    )

pub split-second_giver-requires-clause-fresh : goal.split-second_giver-requires-clause-fresh
split-second_giver-requires-clause-fresh g c =
    let index : ℕ = c.loop-index.index in (
      (λ e. omega arith),
      ap (λ (p : PassFacts Mark). is_among (index + 1) p.given) c.loop-index.invariant.two_is
          ∙ fresh_above (index + 1) index (omega arith),
    )

pub loop-index-preserved : goal.loop-index-preserved
loop-index-preserved g c =
    let one = c.args.one.now in
    let two = c.args.two.now in
    let index : ℕ = c.loop-index.index in
    let i = c.loop-index.invariant in
    let first : c.new.result ≡ record { gate = one; number = index + 1; seen = one.name.opening } =
    c.new.ensures ∙ (ap (λ (q : PassFacts Mark).
    record { gate = one; number = q.number; seen = q.seen }) c.split-giver.ensures.other
    ∙ ap (λ (p : PassFacts Mark). record { gate = one; number = index + 1; seen = p.seen })
    i.one_is) in
    let second : c.new-in-loop-index.result
    ≡ record { gate = two; number = index + 1; seen = two.name.opening } =
    c.new-in-loop-index.ensures ∙ (ap (λ (q : PassFacts Mark).
    record { gate = two; number = q.number; seen = q.seen }) c.split-second_giver.ensures.other
    ∙ ap (λ (p : PassFacts Mark). record { gate = two; number = index + 1; seen = p.seen })
    i.two_is) in
    record {
      one_is = c.split-giver.ensures.zero
          ∙ (ap (λ (p : PassFacts Mark). record p { given = (index + 1) ∷ p.given }) i.one_is
          ∙ next_given one.name index (index + 1) (add-one index));
      two_is = c.split-second_giver.ensures.zero
          ∙ (ap (λ (p : PassFacts Mark). record p { given = (index + 1) ∷ p.given }) i.two_is
          ∙ next_given two.name index (index + 1) (add-one index));
      filled = search rules;
      capacity = search rules;
      dealt = subst (AreDealt one two (count_down (index + 1))) (sym c.push_reserved.ensures.items)
          (dealt_next one two index (index + 1) c.loop-index.room.items _ c.requires.opening.0
          c.requires.opening.1
          (add-one index) i.dealt refl first second);
    }

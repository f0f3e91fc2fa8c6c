use Rattle.std.proofs.Common.{◌≡◌, OnOk, sym, ap, ◌∙◌, subst}
use Rattle.turn_gate.specs.Known.{PassFacts, GateFacts, with_pass, is_among}
use Rattle.gated_tape.specs.declared.tapes.Mark.{Mark}
use Rattle.gated_tape.specs.Marks.{mark_count}
use Rattle.gated_tape.specs.Crews.{first_refusal, AreGathering}
use Rattle.gated_tape.proofs.Gathering.{not_zero, side_at, ready_at, popped, full_at, gather_next}
use Rattle.gated_tape.proofs.crews.gather.Goals as goal

pub join-zero-requires-clause-other : goal.join-zero-requires-clause-other
join-zero-requires-clause-other g c is =
    let one = c.args.one.now in
    let two = c.args.two.now in
    let l = c.loop-writer in
    let i = l.invariant in
    let w = c.in-Some.writer in
    let rest = c.pop.new.self.items in
    let k = popped one two c.args.count l.ended l.writers.items rest w l.zero l.second_zero
    c.in-Some.ensures.items i.ended_each i.at i.gathering in
    let ready = ready_at one w.one w.node c.into_pass.result k.at_is.0 c.into_pass.ensures.ready in
    not_zero one.name c.args.count l.ended rest w l.zero k.so_far.in_one
    (ap (is_among 0) i.given_one ∙ c.requires.positive)
    (sym ready.number_is ∙ is)

pub join-zero-requires-clause-gate : goal.join-zero-requires-clause-gate
join-zero-requires-clause-gate g c =
    let one = c.args.one.now in
    let two = c.args.two.now in
    let l = c.loop-writer in
    let i = l.invariant in
    let w = c.in-Some.writer in
    let rest = c.pop.new.self.items in
    let k = popped one two c.args.count l.ended l.writers.items rest w l.zero l.second_zero
    c.in-Some.ensures.items i.ended_each i.at i.gathering in (
      i.gathering.in_one.gate_is,
      c.into_pass.ensures.ready.gate_is
          ∙ ap (λ (f : GateFacts Mark _). f.name) (side_at one w.one w.node k.at_is.0).0,
    )

pub join-second_zero-requires-clause-other : goal.join-second_zero-requires-clause-other
join-second_zero-requires-clause-other g c is =
    let one = c.args.one.now in
    let two = c.args.two.now in
    let l = c.loop-writer in
    let i = l.invariant in
    let w = c.in-Some.writer in
    let rest = c.pop.new.self.items in
    let k = popped one two c.args.count l.ended l.writers.items rest w l.zero l.second_zero
    c.in-Some.ensures.items i.ended_each i.at i.gathering in
    let ready = ready_at two w.two w.node c.into_pass-in-Some.result k.at_is.1
    c.into_pass-in-Some.ensures.ready in
    not_zero one.name c.args.count l.ended rest w l.zero k.so_far.in_one
    (ap (is_among 0) i.given_one ∙ c.requires.positive)
    (sym ready.number_is ∙ is)

pub join-second_zero-requires-clause-gate : goal.join-second_zero-requires-clause-gate
join-second_zero-requires-clause-gate g c =
    let one = c.args.one.now in
    let two = c.args.two.now in
    let l = c.loop-writer in
    let i = l.invariant in
    let w = c.in-Some.writer in
    let rest = c.pop.new.self.items in
    let k = popped one two c.args.count l.ended l.writers.items rest w l.zero l.second_zero
    c.in-Some.ensures.items i.ended_each i.at i.gathering in (
      i.gathering.in_two.gate_is,
      c.into_pass-in-Some.ensures.ready.gate_is
          ∙ ap (λ (f : GateFacts Mark _). f.name) (side_at two w.two w.node k.at_is.1).0,
    )

pub loop-writer-preserved : goal.loop-writer-preserved
loop-writer-preserved g c =
    let one = c.args.one.now in
    let two = c.args.two.now in
    let l = c.loop-writer in
    let i = l.invariant in
    let w = c.in-Some.writer in
    let rest = c.pop.new.self.items in
    let k = popped one two c.args.count l.ended l.writers.items rest w l.zero l.second_zero
    c.in-Some.ensures.items i.ended_each i.at i.gathering in
    let first = c.into_pass.result in
    let second = c.into_pass-in-Some.result in
    let next =
    gather_next one two l.zero l.second_zero first second c.args.count l.ended rest w w.ended
    c.requires.opening.0 c.requires.opening.1 k.so_far
    (ready_at one w.one w.node first k.at_is.0 c.into_pass.ensures.ready)
    (ready_at two w.two w.node second k.at_is.1 c.into_pass-in-Some.ensures.ready)
    (subst (λ s. OnOk w.ended (mark_count w.node s ≡ c.args.count))
    (sym c.into_pass.ensures.seen) k.ended_is.done_one)
    (subst (λ s. OnOk w.ended (mark_count w.node s ≡ c.args.count))
    (sym c.into_pass-in-Some.ensures.seen) k.ended_is.done_two)
    (full_at one two c.args.count w.ended w.node w.one w.two first second k.at_is.0 k.at_is.1
    c.into_pass.ensures.seen
    c.into_pass-in-Some.ensures.seen k.ended_is) in
    record {
      ended_each = k.rest_ended;
      at = k.rest_at;
      gathering = subst (λ e. AreGathering one two c.args.count e rest c.join-zero.result
          c.join-second_zero.result) (sym c.sooner-ended.ensures)
          (subst (λ p. AreGathering one two c.args.count (first_refusal l.ended w.ended) rest p
          c.join-second_zero.result) (sym c.join-zero.ensures)
          (subst (λ p. AreGathering one two c.args.count (first_refusal l.ended w.ended) rest
          (with_pass l.zero first) p)
          (sym c.join-second_zero.ensures) next));
      given_one = ap (λ (p : PassFacts Mark). p.given) c.join-zero.ensures ∙ i.given_one;
      given_two = ap (λ (p : PassFacts Mark). p.given) c.join-second_zero.ensures ∙ i.given_two;
    }

use Rattle.std.proofs.Common.{ap, ◌∙◌, inl, inr, refl}
use Rattle.turn_gate.specs.Known.{PassFacts}
use Rattle.bridge_relay.specs.declared.entry.BridgeEntry.{BridgeEntry}
use Rattle.live_workers.proofs.Crossed.{both-back, came-back, given-as, tends-first}
use Rattle.live_workers.proofs.bridging.through_gate.Goals as goal

pub run_ends-left_done-requires-clause-members :
    goal.run_ends-left_done-requires-clause-members
run_ends-left_done-requires-clause-members g c κs within =
    (c.requires.left.member, c.requires.right.member)

pub run_ends-left_done-requires-clause-left : goal.run_ends-left_done-requires-clause-left
run_ends-left_done-requires-clause-left g c κs within =
    let plan = c.args.plan.now in
    let split = c.split-zero in
    tends-first c.args.run.now.plant.now plan plan.left c.args.gate.now c.new-left.result
    split.result.1 (g.G.RingSide.side c.args.ends.now.left)
    (g.G.RingSide.known c.args.ends.now.left) c.requires.plan (inl refl) c.requires.fixed
    (ap (λ (p : PassFacts BridgeEntry). p.seen) split.ensures.other
    ∙ ap (λ (p : PassFacts BridgeEntry). p.seen) c.requires.zero ∙ c.requires.unused)
    (ap (λ (p : PassFacts BridgeEntry). p.number) split.ensures.other ∙ c.from.ensures)
    c.new-left.ensures c.requires.left

pub run_ends-left_done-requires-clause-right : goal.run_ends-left_done-requires-clause-right
run_ends-left_done-requires-clause-right g c κs within =
    let plan = c.args.plan.now in
    let split = c.split-zero-2 in
    tends-first c.args.run.now.plant.now plan plan.right c.args.gate.now c.new-right.result
    split.result.1 (g.G.RingSide.side c.args.ends.now.right)
    (g.G.RingSide.known c.args.ends.now.right) c.requires.plan (inr refl) c.requires.fixed
    (ap (λ (p : PassFacts BridgeEntry). p.seen) split.ensures.other
    ∙ ap (λ (p : PassFacts BridgeEntry). p.seen) c.split-zero.ensures.zero
    ∙ ap (λ (p : PassFacts BridgeEntry). p.seen) c.requires.zero ∙ c.requires.unused)
    (ap (λ (p : PassFacts BridgeEntry). p.number) split.ensures.other ∙ c.from-2.ensures)
    c.new-right.ensures c.requires.right

pub returns-clause-back : goal.returns-clause-back
returns-clause-back g c =
    let gate = c.args.gate.now in
    let plan = c.args.plan.now in
    let ran = c.run_ends-left_done in
    let one = c.split-zero in
    let two = c.split-zero-2 in
    let near = c.into_pass in
    let far = c.into_pass-2 in
    both-back g.G.RingSide gate plan _ c.args.zero one.result.0 two.result.0 c.join-zero.result
    c.join-zero-2.result near.result far.result ran.new.left ran.new.right ran.result.0
    ran.result.1 c.requires.unused c.requires.zero
    (given-as c.args.zero one.result.0 c.from.result plan.left one.ensures.zero c.from.ensures)
    (given-as one.result.0 two.result.0 c.from-2.result plan.right two.ensures.zero
    c.from-2.ensures)
    (came-back gate plan.left c.new-left.result ran.new.left one.result.1 near.result
    c.new-left.ensures
    (ap (λ (p : PassFacts BridgeEntry). p.number) one.ensures.other ∙ c.from.ensures)
    ran.ensures.left_same near.ensures.ready near.ensures.seen)
    (came-back gate plan.right c.new-right.result ran.new.right two.result.1 far.result
    c.new-right.ensures
    (ap (λ (p : PassFacts BridgeEntry). p.number) two.ensures.other ∙ c.from-2.ensures)
    ran.ensures.right_same far.ensures.ready far.ensures.seen)
    c.join-zero.ensures c.join-zero-2.ensures ran.ensures.left ran.ensures.right

pub returns-clause-sides : goal.returns-clause-sides
returns-clause-sides g c =
    let ran = c.run_ends-left_done in
    λ i. (ran.ensures.near i, ran.ensures.far i)

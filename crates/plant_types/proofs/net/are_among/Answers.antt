use Rattle.std.proofs.Common.{ℕ, List, All, subst}
use Rattle.std.specs.List.{Contains}
use Rattle.std.proofs.lemmas.List.{take_all}
use Rattle.std.proofs.lemmas.List.Elements.{All-more}
use Rattle.plant_types.proofs.net.are_among.Goals as goal

pub loop-at-preserved : goal.loop-at-preserved
loop-at-preserved c =
    All-more (Contains c.args.members.now) c.args.nodes.now c.loop-at.at 0 c.loop-at-test.true
    c.loop-at.invariant (c.is_among.ensures.only c.if-not-is_among.false)

pub returns-clause-only : goal.returns-clause-only
returns-clause-only c = λ _. subst (λ (l : List ℕ). All (Contains c.args.members.now) l)
    (take_all _ _ c.loop-at-test.false) c.loop-at.invariant

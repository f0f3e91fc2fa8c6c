use Rattle.std.proofs.Common.{ℕ, ◌<◌, List, All, subst, arith}
use Rattle.std.proofs.lemmas.List.{take_all}
use Rattle.std.proofs.lemmas.List.Elements.{All-more}
use Rattle.ring_core.specs.Machine.{addresses}
use Rattle.ring_core.proofs.conditions.are_low.Goals as goal

pub loop-at-preserved : goal.loop-at-preserved
loop-at-preserved c = All-more (λ m. m < addresses) c.args.members.now c.loop-at.at 0
    c.loop-at-test.true c.loop-at.invariant
    (omega (arith, c.if-members-at-ge-ADDRESSES.false))

pub returns-clause-only : goal.returns-clause-only
returns-clause-only c = λ e. subst (λ (l : List ℕ). All (λ m. m < addresses) l)
    (take_all _ _ c.loop-at-test.false) c.loop-at.invariant

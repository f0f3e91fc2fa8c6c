use Rattle.std.proofs.Common.{◌≡◌, ◌+◌, ◌*◌, get_or, drop, List, ℕ, sym, ap, ◌∙◌}
use Rattle.std.proofs.Math.Nat.{mul_assoc}
use Rattle.field_machine.specs.Choices.{product}
use Rattle.field_machine.proofs.Items.{next-get}
use Rattle.field_machine.proofs.choices.product.Goals as goal

pub loop-many-preserved : goal.loop-many-preserved
loop-many-preserved c =
    let choices = c.args.choices.now in
    let i = c.loop-many.many-index in
    let n = get_or choices i 0 in
    let rest = drop (i + 1) choices in
    let more : c.in-Some.more ≡ c.loop-many.ways * n = c.in-Some.ensures.1 in
    ap (λ k. k * product rest) more
    ∙ (mul_assoc c.loop-many.ways n (product rest)
    ∙ (ap (λ (l : List ℕ). c.loop-many.ways * product l)
    (sym (next-get choices i 0 c.loop-many-test.true)) ∙ c.loop-many.invariant))

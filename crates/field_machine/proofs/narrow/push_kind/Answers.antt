use Rattle.std.proofs.Common.{◌+◌, ◌++◌, List, sym, ap, ◌∙◌, append_assoc}
use Rattle.plant_types.specs.declared.reference.Ref.{Ref}
use Rattle.cone_of.proofs.Runs.{nothing_more}
use Rattle.field_machine.specs.Narrow.{kind_outside, one_outside}
use Rattle.field_machine.proofs.Narrowing.{outside_more, outside_none}
use Rattle.field_machine.proofs.narrow.push_kind.Goals as goal

pub loop-number-init : goal.loop-number-init
loop-number-init c =
    sym (ap (λ (l : List Ref). c.args.refs.now.items ++ l) (outside_none c.args.cone.now c.args.kind)
    ∙ nothing_more c.args.refs.now.items)

pub loop-number-preserved : goal.loop-number-preserved
loop-number-preserved c =
    let old = c.args.refs.now.items in
    let set = c.args.cone.now in
    let n = c.loop-number.number in
    let one = one_outside set (record { kind = c.args.kind; number = n + 1 }) in
    c.in_ok-push_outside.ensures
    ∙ (ap (λ (l : List Ref). l ++ one) c.loop-number.invariant
    ∙ (append_assoc old (kind_outside set c.args.kind n) one
    ∙ ap (λ (l : List Ref). old ++ l) (sym (outside_more set c.args.kind n))))

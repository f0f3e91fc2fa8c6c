use Rattle.std.proofs.Common.{◌++◌, List, drop, sym, ap, ◌∙◌, append_assoc, arith}
use Rattle.std.specs.List.{flat_map}
use Rattle.plant_types.specs.declared.reference.Ref.{Ref}
use Rattle.plant_types.specs.Operands.{Named, named_at, named_by}
use Rattle.cone_of.specs.Uses.{run_where}
use Rattle.cone_of.specs.Wanted.{such_of}
use Rattle.cone_of.proofs.Runs.{flat-append, named_next, no_operands, nothing_more}
use Rattle.cone_of.proofs.uses.push_all.Goals as goal

pub returns-then-index-operands : goal.returns-then-index-operands
returns-then-index-operands c =
    let items = c.loop-index.refs.items in
    let none = no_operands c.args.length c.args.slots.now c.args.operands.now c.loop-index.index
    c.if-index-operands.true in
    sym (nothing_more items)
    ∙ (ap (λ (l : List Named). items ++ flat_map (run_where (such_of c.args.wanted)) l) (sym none)
    ∙ c.loop-index.invariant)

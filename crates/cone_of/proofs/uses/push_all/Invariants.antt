use Rattle.std.proofs.Common.{◌≡◌, ◌++◌, drop}
use Rattle.std.specs.List.{flat_map}
use Rattle.plant_types.specs.Operands.{named_by}
use Rattle.cone_of.specs.Uses.{run_where}
use Rattle.cone_of.specs.Wanted.{such_of}
use Rattle.cone_of.proofs.uses.push_all.Given as goal

abbrev pub invariant-loop-index : goal.invariant-loop-index
invariant-loop-index l =
    l.refs.items ++ flat_map (run_where (such_of l.wanted))
    (named_by l.length (drop l.index l.slots) (drop l.index l.operands))
    ≡ l.fn.refs.items ++ flat_map (run_where (such_of l.wanted))
    (named_by l.length l.slots l.operands)

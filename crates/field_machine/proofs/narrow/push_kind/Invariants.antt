use Rattle.std.proofs.Common.{◌≡◌, ◌++◌}
use Rattle.field_machine.specs.Narrow.{kind_outside}
use Rattle.field_machine.proofs.narrow.push_kind.Given as goal

abbrev pub invariant-loop-number : goal.invariant-loop-number
invariant-loop-number l =
    l.refs.items ≡ l.fn.refs.items ++ kind_outside l.cone l.kind l.number

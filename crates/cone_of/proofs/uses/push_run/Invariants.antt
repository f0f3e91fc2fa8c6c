use Rattle.std.proofs.Common.{◌≡◌, ◌++◌}
use Rattle.cone_of.specs.Uses.{run_from}
use Rattle.cone_of.proofs.uses.push_run.Given as goal

abbrev pub invariant-loop-i : goal.invariant-loop-i
invariant-loop-i l = l.refs.items ≡ l.fn.refs.items ++ run_from l.at l.i

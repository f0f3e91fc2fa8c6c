use Rattle.std.proofs.Common.{◌≡◌, Bool, List, drop, map}
use Rattle.one_order.specs.Merges.{tally}
use Rattle.entry_causes.specs.Causes.{noted_next, asking_of}
use Rattle.time_judge.specs.Counts.{noted_is}
use Rattle.time_judge.proofs.counts.calls_counted.Given as goal

abbrev pub invariant-loop-call : goal.invariant-loop-call
invariant-loop-call l =
    (answers : List Bool)
    → tally noted_next (noted_is l.next answers) (map asking_of (drop l.call-index l.calls))
    ≡ tally noted_next (noted_is l.fn.counts answers) (map asking_of l.calls)

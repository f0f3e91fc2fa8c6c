use Rattle.std.proofs.Common.{◌≡◌, ◌≤◌, ◌+◌, ◌*◌, ◌^◌, drop}
use Rattle.summary_text.specs.Summary.{entries_that, is_counted}
use Rattle.summary_text.proofs.counts.entries_that.Given as goal

abbrev pub invariant-loop-log : goal.invariant-loop-log
invariant-loop-log l = record {
  total : l.total + entries_that (is_counted l.counted) (drop l.log-index l.logs)
      ≡ entries_that (is_counted l.counted) l.logs;
  small : l.total ≤ l.log-index * 2 ^ 64;
}

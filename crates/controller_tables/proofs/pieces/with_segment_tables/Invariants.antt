use Rattle.std.proofs.Common.{◌≡◌, ◌+◌, map, drop, length}
use Rattle.toml.specs.View.{table_view}
use Rattle.controller_tables.specs.Program.{IsBetweenSegments, with_segment_tables}
use Rattle.controller_tables.proofs.pieces.with_segment_tables.Given as goal

-- what was read, with the segments left behind it; one segment more for each, and nothing of the
-- next
abbrev pub invariant-loop-table : goal.invariant-loop-table
invariant-loop-table l = record {
  read : with_segment_tables l.owner l.program
      (map (λ t. table_view t.now) (drop l.table-index l.tables))
      ≡ with_segment_tables l.owner l.initial.program (map (λ t. table_view t.now) l.tables);
  count : length l.program.segments ≡ length l.initial.program.segments + l.table-index;
  between : IsBetweenSegments l.program;
}

use Rattle.std.proofs.Common.{arith}
use Rattle.std.proofs.lemmas.Grind.{common_steps}
use Rattle.controller_tables.specs.Program.{with_segment_tables}
use Rattle.controller_tables.proofs.Checked.{with_segment_table-more}
use Rattle.controller_tables.proofs.pieces.with_segment_tables.Goals as goal

pub loop-table-preserved : goal.loop-table-preserved
unfolding with_segment_tables
loop-table-preserved c =
    let more = with_segment_table-more
    c.args.owner _ c.loop-table.program c.in_ok-program.program c.in_ok-program.ensures
    c.loop-table.invariant.between.cells in
    record {
      read = grind (arith, common_steps);
      count = omega (arith, more.count);
      between = record { networks = more.networks; cells = more.cells };
    }

use Rattle.std.proofs.Common.{arith}
use Rattle.std.proofs.lemmas.Grind.{common_steps}
use Rattle.controller_tables.specs.Program.{with_texts}
use Rattle.controller_tables.proofs.Checked.{with_text-more}
use Rattle.controller_tables.proofs.pieces.with_texts.Goals as goal

pub loop-text-preserved : goal.loop-text-preserved
unfolding with_texts
loop-text-preserved c = record {
  read = grind (arith, common_steps);
  count = let more = with_text-more c.args.owner _ c.loop-text.program c.in_ok-program.program
      c.in_ok-program.ensures in omega (arith, more.count);
}

use Rattle.std.proofs.Common.{arith}
use Rattle.std.proofs.lemmas.Grind.{common_steps}
use Rattle.summary_text.proofs.RingCounts.{passes_are}
use Rattle.summary_text.proofs.counts.passes_of.Goals as goal

pub returns : goal.returns
returns c = grind (arith, common_steps, passes_are c.args.rings.now)

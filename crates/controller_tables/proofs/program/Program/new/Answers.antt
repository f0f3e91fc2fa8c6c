use Rattle.controller_tables.proofs.KeptLemmas.{KeepsProgram-none}
use Rattle.controller_tables.proofs.program.Program.new.Goals as goal

pub invariant_of-result : goal.invariant_of-result
invariant_of-result c = rw (c.new.ensures, c.new-2.ensures, c.new-3.ensures, c.new-4.ensures)
    (KeepsProgram-none c.args.count c.new-5.result.keys c.new-6.result.keys c.new-5.ensures.empty
    c.new-6.ensures.empty)

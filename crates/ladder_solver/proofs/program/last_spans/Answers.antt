use Rattle.std.proofs.Common.{◌∙◌, sym}
use Rattle.std.proofs.lemmas.Bool.{eqb-true}
use Rattle.ladder_solver.proofs.Subroutines.{no_segments}
use Rattle.ladder_solver.proofs.program.last_spans.Goals as goal

pub returns-then-is_empty : goal.returns-then-is_empty
returns-then-is_empty c = c.new.ensures.items
    ∙ no_segments c.args.segments.now (eqb-true _ _ (sym c.is_empty.ensures ∙ c.if-is_empty.true))

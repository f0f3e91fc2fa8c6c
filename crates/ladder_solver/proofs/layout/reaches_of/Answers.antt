use Rattle.std.proofs.Common.{◌∷◌, []}
use Rattle.ladder_solver.proofs.RowMasks.{reach-is}
use Rattle.ladder_solver.proofs.layout.reaches_of.Goals as goal

pub returns : goal.returns
returns c = λ i.
    reach-is c.args.shorts 1 c.column_join.result c.column_join.ensures.rows
    c.column_join.ensures.live i
    ∷ reach-is c.args.shorts 2 c.column_join-2.result c.column_join-2.ensures.rows
    c.column_join-2.ensures.live i
    ∷ reach-is c.args.shorts 3 c.column_join-3.result c.column_join-3.ensures.rows
    c.column_join-3.ensures.live i
    ∷ reach-is c.args.shorts 4 c.column_join-4.result c.column_join-4.ensures.rows
    c.column_join-4.ensures.live i
    ∷ reach-is c.args.shorts 5 c.column_join-5.result c.column_join-5.ensures.rows
    c.column_join-5.ensures.live i
    ∷ reach-is c.args.shorts 6 c.column_join-6.result c.column_join-6.ensures.rows
    c.column_join-6.ensures.live i
    ∷ reach-is c.args.shorts 7 c.column_join-7.result c.column_join-7.ensures.rows
    c.column_join-7.ensures.live i
    ∷ 0 ∷ 0 ∷ []

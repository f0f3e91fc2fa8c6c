use Rattle.std.proofs.Common.{ap, subst, sym, ◌∙◌}
use Rattle.ladder_solver.specs.Edges.{EdgeBits, HasEdgeBit, network_counts}
use Rattle.ladder_solver.specs.State.{LadderState}
use Rattle.ladder_solver.proofs.ladder.Ladder.set_edge.Goals as goal

pub set-requires : goal.set-requires
set-requires c =
    subst (λ counts. HasEdgeBit counts c.args.place)
    (sym (c.self.invariant.edges
    ∙ ap (λ (l : LadderState). network_counts l.grids) c.self.view_is)) c.requires

use Rattle.std.proofs.Common.{ap, subst, sym, ◌∙◌}
use Rattle.std.specs.FinSet.{contains}
use Rattle.ladder_solver.specs.Edges.{HasEdgeBit, network_counts}
use Rattle.ladder_solver.specs.State.{LadderState}
use Rattle.ladder_solver.proofs.ladder.Ladder.edge.Goals as goal

pub is_on-requires : goal.is_on-requires
is_on-requires c =
    subst (λ counts. HasEdgeBit counts c.args.place)
    (sym (c.self.invariant.edges
    ∙ ap (λ (l : LadderState). network_counts l.grids) c.self.view_is)) c.requires

pub returns : goal.returns
returns c =
    c.is_on.ensures ∙ ap (λ (l : LadderState). contains l.edges c.args.place) c.self.view_is

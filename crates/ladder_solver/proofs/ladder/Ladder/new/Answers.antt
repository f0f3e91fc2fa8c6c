use Rattle.std.proofs.Common.{◌≡◌, ap, subst, ◌∙◌, sym}
use Rattle.ladder_solver.specs.Edges.{EdgeBits, network_counts, no_bits}
use Rattle.ladder_solver.specs.Program.{CanLay}
use Rattle.ladder_solver.proofs.ladder.Ladder.new.Goals as goal

pub invariant_of-result : goal.invariant_of-result
invariant_of-result c =
    let edges : c.in_ok-edges.edges ≡ no_bits c.args.segments = c.in_ok-edges.ensures
    ∙ ap no_bits c.as_slice.ensures in
    record {
      can_lay = subst CanLay (sym c.in_ok-program.ensures) c.requires;
      edges = ap (λ (e : EdgeBits). e.counts) edges
          ∙ ap network_counts (sym c.in_ok-program.ensures);
    }

pub returns : goal.returns
returns c =
    let edges : c.in_ok-edges.edges ≡ no_bits c.args.segments = c.in_ok-edges.ensures
    ∙ ap no_bits c.as_slice.ensures in
    λ i. record { grids = c.in_ok-program.ensures i; edges = (edges i).on }

use Rattle.std.proofs.Common.{◌≡◌, ap, ◌∙◌, length}
use Rattle.std.specs.Prelude.{map}
use Rattle.std.proofs.lemmas.List.{take_all}
use Rattle.ladder_solver.specs.Edges.{edges_of}
use Rattle.ladder_solver.proofs.EdgeBits.{cleared_bits, counts-cleared, edges_of-cleared}
use Rattle.ladder_solver.proofs.edges.Edges.cleared.Goals as goal

pub returns : goal.returns
returns c =
    let bits : map (λ networks. networks.items) c.loop-segment.edges.items
    ≡ cleared_bits c.args.segments.now =
    c.loop-segment.invariant ∙ ap cleared_bits
    (take_all c.loop-segment.segment-index c.args.segments.now c.loop-segment-test.false) in
    λ i. record {
      counts = (ap (map length) bits ∙ counts-cleared c.args.segments.now) i;
      on = (ap edges_of bits ∙ edges_of-cleared c.args.segments.now) i;
    }

use Rattle.std.proofs.Common.{ap, ◌∙◌, sym, subst, length, arith}
use Rattle.std.specs.FinSet.{contains}
use Rattle.std.proofs.lemmas.List.{length-map}
use Rattle.ladder_solver.specs.Edges.{EdgeBits, HasEdgeBit}
use Rattle.ladder_solver.specs.Kept.{bits_in}
use Rattle.ladder_solver.proofs.EdgeSets.{networks_within, kept_bit}
use Rattle.ladder_solver.proofs.edges.Edges.is_on.Goals as goal

pub index-networks-requires : goal.index-networks-requires
index-networks-requires c =
    let counted = ap (λ (e : EdgeBits). length e.counts) c.self.view_is in
    let many = length-map (bits_in c.self.inside) length in
    let long = length-map c.self.inside.segments.items (λ networks. networks.items) in
    omega (
      arith,
      counted,
      many,
      long,
      c.requires.networks.first,
      c.requires.networks.last,
      c.self.inside.segments.ok.0,
    )

pub index-columns-requires : goal.index-columns-requires
index-columns-requires c =
    let place = subst (λ (e : EdgeBits). HasEdgeBit e.counts c.args.place)
    (sym c.self.view_is) c.requires in
    let within = networks_within c.self.inside c.index-networks.result.now c.args.place.segment
    c.args.place.network place.networks c.index-networks.ensures in
    omega (arith, within, c.requires.network, c.index-networks.result.now.ok.0)

pub returns : goal.returns
returns c =
    let place = subst (λ (e : EdgeBits). HasEdgeBit e.counts c.args.place)
    (sym c.self.view_is) c.requires in
    kept_bit c.self.inside c.index-networks.result.now c.args.place c.index-columns.result.now place
    c.index-networks.ensures c.index-columns.ensures
    ∙ ap (λ (e : EdgeBits). contains e.on c.args.place) c.self.view_is

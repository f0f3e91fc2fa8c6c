use Rattle.std.proofs.Common.{ap, ◌-◌, ◌∙◌, sym, subst, length, arith}
use Rattle.std.proofs.lemmas.List.{length-map}
use Rattle.ladder_solver.specs.State.{with_place}
use Rattle.ladder_solver.specs.Edges.{EdgeBits, HasEdgeBit}
use Rattle.std.specs.Vec.{with_item}
use Rattle.ladder_solver.specs.Kept.{bits_in, edge_bits_of}
use Rattle.ladder_solver.proofs.EdgeSets.{networks_within, set_view}
use Rattle.ladder_solver.proofs.edges.Edges.set.Goals as goal

pub index_mut-networks-requires : goal.index_mut-networks-requires
index_mut-networks-requires c =
    let counted = ap (λ (e : EdgeBits). length e.counts) c.self.view_is in
    let many = length-map (bits_in c.self.inside) length in
    let long = length-map c.self.inside.segments.items (λ networks. networks.items) in
    omega (
      arith,
      counted,
      many,
      long,
      c.requires.networks.first,
      c.requires.networks.last,
      c.self.inside.segments.ok.0,
    )

pub index_mut-requires : goal.index_mut-requires
index_mut-requires c =
    let place = subst (λ (e : EdgeBits). HasEdgeBit e.counts c.args.place)
    (sym c.self.view_is) c.requires in
    let within = networks_within c.self.inside c.index_mut-networks.result.now c.args.place.segment
    c.args.place.network place.networks
    c.index_mut-networks.ensures.value in
    omega (arith, within, c.requires.network, c.index_mut-networks.result.now.ok.0)

pub returns : goal.returns
returns c =
    let place = subst (λ (e : EdgeBits). HasEdgeBit e.counts c.args.place)
    (sym c.self.view_is) c.requires in
    let segment = c.args.place.segment - 1 in
    let network = c.args.place.network - 1 in
    (λ i. edge_bits_of (record {
      segments = with_item c.self.inside.segments segment
          (with_item c.index_mut-networks.result.now network (c.set_bit.ensures.value i));
    }))
    ∙ set_view c.self.inside c.index_mut-networks.result.now c.args.place c.index_mut.result.now
    place c.index_mut-networks.ensures.value
    c.index_mut.ensures.value c.args.on c.set_bit.ensures.eleven c.set_bit.ensures.seven
    ∙ (λ i. record {
      counts = (c.self.view_is i).counts;
      on = with_place (c.self.view_is i).on c.args.place c.args.on;
    })

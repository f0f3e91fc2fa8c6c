use Rattle.std.proofs.Common.{◌+◌, ◌++◌, List, drop, sym, ap, ◌∙◌, append_assoc, append-nil, arith, ℕ}
use Rattle.plant_types.specs.declared.network.Network.{Network}
use Rattle.plant_types.specs.declared.network.Segment.{Segment}
use Rattle.ladder_solver.specs.declared.places.BlockPlace.{BlockPlace}
use Rattle.ladder_solver.specs.Edges.{places_by}
use Rattle.field_machine.specs.Counters.{counters_in}
use Rattle.field_machine.proofs.Items.{next-in, none-left}
use Rattle.field_machine.proofs.counters.counters_of.Goals as goal

-- the places of the counters of a numbered segment
abbrev in-segment : ℕ → Segment → List BlockPlace
in-segment segment of_segment =
    places_by (λ number network. counters_in segment number network.cells) 1 of_segment.networks

pub loop-index-preserved : goal.loop-index-preserved
unfolding places_by
loop-index-preserved c =
    let segments = c.args.segments.now in
    let i = c.loop-index.index in
    let item = c.index-segments-index.result in
    let places = c.loop-index.places.items in
    let rest = places_by in-segment (i + 1 + 1) (drop (i + 1) segments) in
    let next = next-in segments i item c.loop-index-test.true c.index-segments-index.is in
    ap (λ (l : List BlockPlace). l ++ rest) (c.in_ok-add_segment.ensures
    ∙ ap (λ (networks : List Network). places
    ++ places_by (λ number network. counters_in (i + 1) number network.cells) 1 networks)
    c.as_slice.ensures)
    ∙ (append_assoc places (in-segment (i + 1) item) rest
    ∙ (ap (λ (l : List BlockPlace). places ++ l) (sym (ap (places_by in-segment (i + 1)) next))
    ∙ c.loop-index.invariant))

pub returns : goal.returns
unfolding places_by
returns c =
    let segments = c.args.segments.now in
    let i = c.loop-index.index in
    let places = c.loop-index.places.items in
    sym (append-nil places)
    ∙ (ap (λ (l : List BlockPlace). places ++ l)
    (sym (ap (places_by in-segment (i + 1)) (none-left segments i (omega arith))))
    ∙ c.loop-index.invariant)

use Rattle.std.proofs.Common.{◌+◌, ◌++◌, List, drop, sym, ap, ◌∙◌, append_assoc, append-nil, arith, ℕ}
use Rattle.plant_types.specs.declared.network.Cell.{Cell}
use Rattle.plant_types.specs.declared.network.Network.{Network}
use Rattle.ladder_solver.specs.declared.places.BlockPlace.{BlockPlace}
use Rattle.ladder_solver.specs.Edges.{places_by}
use Rattle.field_machine.specs.Counters.{counters_in}
use Rattle.field_machine.proofs.Items.{next-in, none-left}
use Rattle.field_machine.proofs.counters.add_segment.Goals as goal

pub loop-index-preserved : goal.loop-index-preserved
unfolding places_by
loop-index-preserved c =
    let segment = c.args.segment in
    let f = λ (number : ℕ) (network : Network). counters_in segment number network.cells in
    let networks = c.args.networks.now in
    let i = c.loop-index.index in
    let item = c.index-networks-index.result in
    let places = c.loop-index.places.items in
    let rest = places_by f (i + 1 + 1) (drop (i + 1) networks) in
    let next = next-in networks i item c.loop-index-test.true c.index-networks-index.is in
    ap (λ (l : List BlockPlace). l ++ rest) (c.in_ok-add_counters.ensures
    ∙ ap (λ (cells : List Cell). places ++ counters_in segment (i + 1) cells) c.as_slice.ensures)
    ∙ (append_assoc places (f (i + 1) item) rest
    ∙ (ap (λ (l : List BlockPlace). places ++ l) (sym (ap (places_by f (i + 1)) next))
    ∙ c.loop-index.invariant))

pub returns : goal.returns
unfolding places_by
returns c =
    let f = λ (number : ℕ) (network : Network). counters_in c.args.segment number network.cells in
    let networks = c.args.networks.now in
    let i = c.loop-index.index in
    let places = c.loop-index.places.items in
    sym (append-nil places)
    ∙ (ap (λ (l : List BlockPlace). places ++ l)
    (sym (ap (places_by f (i + 1)) (none-left networks i (omega arith))))
    ∙ c.loop-index.invariant)

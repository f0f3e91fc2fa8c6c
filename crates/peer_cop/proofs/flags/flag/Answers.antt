use Rattle.std.proofs.Common.{arith}
use Rattle.peer_cop.proofs.PlaceLemmas.{first_within}
use Rattle.peer_cop.proofs.flags.flag.Goals as goal

pub overflow_add-first : goal.overflow_add-first
overflow_add-first c =
    let least = first_within c.args.wire c.requires.places in
    omega (arith, c.first_place-first.ensures, c.from.ensures)

pub slice_bounds-fill-end : goal.slice_bounds-fill-end
slice_bounds-fill-end c =
    let least = first_within c.args.wire c.requires.places in
    omega (arith, c.first_place-first.ensures, c.from.ensures, c.requires.size)

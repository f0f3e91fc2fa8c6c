use Rattle.std.proofs.Common.{Some, None, length, sym, ap, ◌∙◌, cond, lt-ltb}
use Rattle.live_run.specs.Homes.{place_of_ring}
use Rattle.live_run.proofs.Places.{has-place}
use Rattle.live_run.proofs.homes.place_of.Goals as goal

pub unreachable-requires : goal.unreachable-requires
unreachable-requires c =
    let homes = c.args.homes.now in
    let place = place_of_ring homes c.args.network in
    let within = lt-ltb place (length homes) (has-place homes c.args.network c.requires) in
    let found = ap (λ b. cond b (Some place) None) within in
    let none = sym c.in-None.is ∙ c.first_of.ensures in
    cc

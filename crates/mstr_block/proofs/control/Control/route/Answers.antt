use Rattle.std.proofs.Common.{◌≤◌, ◌+◌, ◌∷◌, ◌++◌, [], get_or, sym, ap}
use Rattle.std.proofs.Common.{◌∙◌, arith}
use Rattle.std.specs.List.{before_first}
use Rattle.std.proofs.lemmas.List.{length-set, take_more, take_more_set}
use Rattle.std.proofs.lemmas.List.Elements.{All-head, All-tail}
use Rattle.plant_types.specs.Limits.{most_address}
use Rattle.mstr_block.specs.Control.{is_no_hop}
use Rattle.mstr_block.proofs.Hops.{low-at}
use Rattle.mstr_block.proofs.control.Control.route.Goals as goal

pub overflow_cast-addresses : goal.overflow_cast-addresses
overflow_cast-addresses c =
    let control = c.args.self.now in
    let low : control.node ≤ most_address = All-head (λ n. n ≤ most_address) control.node
    (before_first is_no_hop control.hops) c.requires in
    omega arith

pub overflow_cast-addresses-in-loop-place : goal.overflow_cast-addresses-in-loop-place
overflow_cast-addresses-in-loop-place c =
    let control = c.args.self.now in
    let count = c.hop_count-count.ensures.count in
    let low = low-at control.hops c.loop-place.place 0 (All-tail (λ n. n ≤ most_address)
    control.node (before_first is_no_hop control.hops) c.requires) (omega arith) in
    omega arith

pub loop-place-preserved : goal.loop-place-preserved
loop-place-preserved c =
    let control = c.args.self.now in
    let at = c.loop-place.place in
    let hop = get_or control.hops at 0 in
    let addresses = c.loop-place.addresses in (
      length-set addresses (at + 1) hop ∙ c.loop-place.invariant.0,
      take_more_set addresses (at + 1) hop (omega arith)
          ∙ ap (λ l. l ++ hop ∷ []) c.loop-place.invariant.1
          ∙ sym (ap (λ l. control.node ∷ l) (take_more control.hops at 0 (omega arith))),
    )

use Rattle.std.proofs.Common.{rules, ◌≡◌, List, ap, arith, refl, ◌∙◌}
use Rattle.std.specs.Prelude.{replicate}
use Rattle.plant_types.specs.declared.drops.Module.{Module}
use Rattle.traffic_cop.specs.Exchange.{output_total}
use Rattle.peer_cop.proofs.PlantLemmas.{at_drop}
use Rattle.word_exchange.proofs.StartLemmas.{sending-zeros}
use Rattle.word_exchange.proofs.starting.reader_of.Goals as goal

pub output_total-requires : goal.output_total-requires
output_total-requires c =
    let from = c.args.from in
    let same = ap output_total c.as_slice.ensures in
    let small = (at_drop c.args.plant.now from.from from.from_drop c.drop_at-found.result.drop.now
    c.requires.wired c.drop_at-found.ensures.drop_is).small.outputs in
    omega (arith, same, small)

pub returns : goal.returns
returns c =
    let made : c.in_ok-zeros.zeros.items ≡ replicate c.output_total.result 0 = search rules in
    let zeros = made
    ∙ ap (λ n. replicate n 0)
    (c.output_total.ensures ∙ ap (λ (l : List Module). output_total l) c.as_slice.ensures) in
    record {
      drop = c.drop_at-found.result.drop.now;
      at = c.drop_at-found.ensures;
      sending = sending-zeros c.args.plant.now c.args.from c.drop_at-found.result.plan.now
          c.drop_at-found.result.drop.now _ _ c.drop_at-found.ensures
          (c.in_ok-of.ensures ∙ c.as_slice-2.ensures.value ∙ zeros)
          (c.in_ok-of-2.ensures ∙ c.as_slice-3.ensures.value ∙ zeros);
      entries = refl;
      ring = refl;
    }

use Rattle.std.proofs.Common.{Bor, Option, ap, sym, ◌∙◌}
use Rattle.std.specs.Prelude.{option_map}
use Rattle.plant_types.specs.declared.drops.IoDrop.{IoDrop}
use Rattle.peer_cop.proofs.PlantLemmas.{at_drop}
use Rattle.peer_cop.proofs.fitting.fits_plant.Goals as goal

pub joins-requires-clause-into : goal.joins-requires-clause-into
joins-requires-clause-into c =
    (at_drop c.args.plant.now c.args.wire.node c.args.wire.drop c.in-Some-Some.into.now c.requires
    (sym c.drop_of-into.ensures
    ∙ ap (λ (o : Option (Bor IoDrop)). option_map (λ d. d.now) o) c.in-Some-Some.is-0)).small

pub joins-requires-clause-source : goal.joins-requires-clause-source
joins-requires-clause-source c =
    (at_drop c.args.plant.now c.args.wire.from c.args.wire.from_drop c.in-Some-Some.source.now
    c.requires (sym c.drop_of-source.ensures
    ∙ ap (λ (o : Option (Bor IoDrop)). option_map (λ d. d.now) o) c.in-Some-Some.is-1)).small

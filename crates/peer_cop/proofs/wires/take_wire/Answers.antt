use Rattle.std.proofs.Common.{◌≡◌, sym, ◌∙◌, subst}
use Rattle.std.proofs.lemmas.Bool.{false≢true}
use Rattle.peer_cop.specs.Plants.{FitsPlant}
use Rattle.peer_cop.specs.Places.{IsFree}
use Rattle.peer_cop.proofs.LineLemmas.{same_wire}
use Rattle.peer_cop.proofs.PlantLemmas.{wire_places}
use Rattle.peer_cop.proofs.wires.take_wire.Goals as goal
use Rattle.peer_cop.proofs.wires.take_wire.Goals.{then-not-fits_plant-via-then-not-fits_plant, then-not-fits_plant-via-else-not-fits_plant+then-not-is_free}

pub is_free-requires-clause-places : goal.is_free-requires-clause-places
is_free-requires-clause-places c =
    wire_places c.args.plant.now c.in_ok-wire.wire c.requires.plant
    (c.fits_plant.ensures.0 c.if-not-fits_plant.false)

pub flag-requires-clause-places : goal.flag-requires-clause-places
flag-requires-clause-places c =
    wire_places c.args.plant.now c.in_ok-wire.wire c.requires.plant
    (c.fits_plant.ensures.0 c.if-not-fits_plant.false)

pub returns-then-not-fits_plant : goal.returns-then-not-fits_plant
returns-then-not-fits_plant c = λ wire rest begins fits free.
    let same : c.in_ok-wire.wire ≡ wire =
    same_wire c.args.text.now c.in_ok-wire.wire wire c.in_ok-wire.rest.now rest
    c.in_ok-wire.ensures begins in
    elim c.then-not-fits_plant.branch [
      | then-not-fits_plant-via-then-not-fits_plant w ↦
          false≢true (sym w.if-not-fits_plant.true ∙ c.fits_plant.ensures.1
          (subst (FitsPlant c.args.plant.now) (sym same) fits))
      | then-not-fits_plant-via-else-not-fits_plant+then-not-is_free w ↦
          false≢true (sym w.if-not-is_free.true ∙ w.is_free.ensures.1
          (subst (IsFree c.args.flags.now) (sym same) free))
    ]

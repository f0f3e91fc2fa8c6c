use Rattle.std.proofs.Common.{◌∙◌, sym, ap}
use Rattle.plant_types.specs.Standing.{coils_in, is_driven}
use Rattle.plant_types.proofs.StandingLemmas.{driven_in}
use Rattle.plant_types.proofs.standing.Earlier.has_coil.Goals as goal

pub returns-in-Some : goal.returns-in-Some
returns-in-Some c = c.has_claim.ensures ∙ driven_in c.in-Some.coil c.args.self.now
    ∙ ap (is_driven (coils_in c.args.self.now)) (sym c.in-Some.is ∙ c.driven_by.ensures)

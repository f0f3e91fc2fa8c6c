-- Which states no scan tells apart at the references of a set. All of it is this project's own.
use Rattle.std.specs.Prelude.{◌≡◌, ℕ, ◌%◌, true, List}
use Rattle.std.specs.FinSet.{contains}
use Rattle.plant_types.specs.declared.plan.ControllerPlan.{ControllerPlan}
use Rattle.plant_types.specs.Discretes.{Refs}
use Rattle.ladder_solver.specs.declared.places.BlockPlace.{BlockPlace}
use Rattle.field_runs.specs.AlikeStates.{HasNoMessages}
use Rattle.controller_core.specs.declared.fixed.Fixed.{Fixed}
use Rattle.controller_core.specs.Replay.{ControllerState}
use Rattle.field_runs.specs.Alike.{IsSettled}
use Rattle.field_runs.specs.Scan.{scanned}
use Rattle.cone_of.specs.Cone.{IsClosed}
use Rattle.cone_laws.specs.Agree.{SameIn, place_matters}

-- Two states are alike on a set of references: their numbers there are equal, and so are the edge
-- bits of the networks that matter to it, the stop codes, and the clocks but for whole seconds,
-- which are 100 ticks.
pub record IsAlikeIn (plan : ControllerPlan) (set : Refs) (s t : ControllerState) : Type 0 where
  pub references : SameIn set s.solving.map t.solving.map
  pub edges : (place : BlockPlace) → place_matters set plan.segments place ≡ true
      → contains s.solving.edges place ≡ contains t.solving.edges place
  pub stop : s.stop ≡ t.stop
  pub clock : s.solving.clock.now % 100 ≡ t.solving.clock.now % 100

-- States of a controller without message blocks that are alike on a closed set and have settled stay
-- alike on it under each scan in which the field brings both the same rows.
abbrev pub AlikeInStay : Type 0
AlikeInStay =
    (fixed : Fixed) (set : Refs) (rows : List ℕ) (s t : ControllerState)
    → HasNoMessages fixed.plan.segments → IsClosed fixed.plan set → IsSettled fixed.plan s
    → IsSettled fixed.plan t → s.stop ≡ 0 → IsAlikeIn fixed.plan set s t
    → IsAlikeIn fixed.plan set (scanned fixed rows s) (scanned fixed rows t)

-- That no two answers are due where it is asked whether two controllers do the same. All of it is
-- this project's own.
use Rattle.std.specs.Prelude.{◌≡◌, ℕ, Option}
use Rattle.plant_types.specs.declared.plan.ControllerPlan.{ControllerPlan}
use Rattle.controller_core.specs.declared.fixed.Fixed.{Fixed}
use Rattle.field_pair.specs.Alike.{IsFirstDifference}
use Rattle.field_pair.specs.Same.{ApartRuns, IsFirstApart, IsSameFor}
use Rattle.field_pair.specs.declared.alike.Difference.{Difference}

-- Two controllers that do the same have one number of pairs, and are not told apart; and the first
-- thing in which two differ is one.
pub record OneAnswerSame : Type 0 where
  pub count : (old new : Fixed) (limit : Option ℕ) (one other : ℕ) → IsSameFor old new limit one
      → IsSameFor old new limit other → one ≡ other
  pub apart : (old new : Fixed) (limit : Option ℕ) (pairs : ℕ) (runs : ApartRuns)
      → IsSameFor old new limit pairs → IsFirstApart old new limit runs → ⊥
  pub difference : (old new : ControllerPlan) (old_time new_time : ℕ)
      (one other : Option Difference) → IsFirstDifference old new old_time new_time one
      → IsFirstDifference old new old_time new_time other → one ≡ other

-- The value of a step that went well, and tests that hold one after another.
use Rattle.std.proofs.Common.{◌≡◌, List, ◌++◌, Some, Result, Ok, Err, ap, sym, ◌∙◌}
use Rattle.plant_types.specs.declared.fault.PlantFault.{PlantFault}
use Rattle.plant_types.specs.declared.fault.Place.{Place}
use Rattle.plant_types.specs.Fault.{at_place}
use Rattle.plant_types.specs.FirstFault.{Test, first_failed}
use Rattle.plant_types.specs.PlanTests.{placed}
use Rattle.plant_types.proofs.FaultLemmas.{first_failed-held}
use Rattle.plant_types.proofs.PlanLemmas.{placed-first}

-- the value of a step that went well
pub ok_value : {A E : Type 0} (x y : A) → ◌≡◌ {A = Result A E} (Ok x) (Ok y) → x ≡ y
ok_value x y h = cc

-- the value that is there
pub some_value : {A : Type 0} (x y : A) → Some x ≡ Some y → x ≡ y
some_value x y h = cc

-- what went well at a place went well without it
pub at_place-ok : {A : Type 0} (place : Place) (r : Result A PlantFault) (y : A)
    → at_place place r ≡ Ok y → r ≡ Ok y
at_place-ok place (Ok x) y h = cc
at_place-ok place (Err e) y h = cc

-- tests that hold, and others behind them
pub both-hold : {F : Type 0} (xs ys : List (Test F)) → first_failed xs ≡ Ok tt
    → first_failed ys ≡ Ok tt → first_failed (xs ++ ys) ≡ Ok tt
both-hold xs ys h k = first_failed-held xs ys h ∙ k

-- tests that hold do so at a place
pub placed-hold : (place : Place) (tests : List (Test PlantFault)) → first_failed tests ≡ Ok tt
    → first_failed (placed place tests) ≡ Ok tt
placed-hold place tests h = sym (placed-first place tests) ∙ ap (at_place place) h

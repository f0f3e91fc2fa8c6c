-- The first thing in which two controllers differ is one.
use Rattle.std.proofs.Common.{◌≡◌, ◌<◌, ◌⊎◌, inl, inr, ℕ, Option, Some, None, refl, ap, arith}
use Rattle.std.proofs.lemmas.Bool.{cases_order}
use Rattle.plant_types.specs.declared.plan.ControllerPlan.{ControllerPlan}
use Rattle.field_pair.specs.Alike.{DifferInDrop, IsFirstDifference}
use Rattle.field_pair.specs.declared.alike.Difference.{Difference}
use Rattle.field_pair.specs.declared.alike.Difference.TheVariants.{Drop, Panel, ScanTime}

module _ (old new : ControllerPlan) (old_time new_time : ℕ) where
  one-drop : (k n : ℕ) → DifferInDrop old new old_time new_time k
      → DifferInDrop old new old_time new_time n → k ≡ n
  one-drop k n one other = by (cases_order k n)
    where
      by : (k ≡ n) ⊎ ((k < n) ⊎ (n < k)) → k ≡ n
      by (inl same) = same
      by (inr (inl less)) = absurd (one.differ (other.least k less))
      by (inr (inr more)) = absurd (other.differ (one.least n more))

  pub one-difference : (one other : Option Difference)
      → IsFirstDifference old new old_time new_time one
      → IsFirstDifference old new old_time new_time other → one ≡ other
  one-difference None None is is' = refl
  one-difference None (Some Panel) is is' = absurd (is' is.panels)
  one-difference None (Some ScanTime) is is' = absurd (is'.differ is.scan_times)
  one-difference None (Some (Drop n)) is is' = absurd (is'.differ (is.drops n))
  one-difference (Some Panel) None is is' = absurd (is is'.panels)
  one-difference (Some Panel) (Some Panel) is is' = refl
  one-difference (Some Panel) (Some ScanTime) is is' = absurd (is is'.panels)
  one-difference (Some Panel) (Some (Drop n)) is is' = absurd (is is'.panels)
  one-difference (Some ScanTime) None is is' = absurd (is.differ is'.scan_times)
  one-difference (Some ScanTime) (Some Panel) is is' = absurd (is' is.panels)
  one-difference (Some ScanTime) (Some ScanTime) is is' = refl
  one-difference (Some ScanTime) (Some (Drop n)) is is' = absurd (is.differ is'.scan_times)
  one-difference (Some (Drop k)) None is is' = absurd (is.differ (is'.drops k))
  one-difference (Some (Drop k)) (Some Panel) is is' = absurd (is' is.panels)
  one-difference (Some (Drop k)) (Some ScanTime) is is' = absurd (is'.differ is.scan_times)
  one-difference (Some (Drop k)) (Some (Drop n)) is is' =
      ap (λ m. Some (Drop m)) (one-drop k n is is')

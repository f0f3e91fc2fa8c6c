-- What is due in all scans, and what of it is left.
use Rattle.std.specs.Prelude.{◌≡◌, ℕ, ◌+◌, ◌==◌, Bool, true, false, not, if◌then◌else◌, List, ◌∷◌}
use Rattle.std.specs.Prelude.{◌++◌, drop, length}
use Rattle.std.specs.List.{flat_map, range_with_len}
use Rattle.scan_order.specs.declared.due.ScanPlace.{ScanPlace}
use Rattle.scan_order.specs.declared.due.ScanPlace.TheVariants as places
use Rattle.scan_order.specs.declared.due.ScanStep.{ScanStep}
use Rattle.scan_order.specs.declared.due.ScanStep.TheVariants as steps
use Rattle.scan_order.specs.Due.{due, ends_scan, place_behind}
use Rattle.controller_core.specs.declared.fixed.Fixed.{Fixed}

-- What is due in so many scans from one on. This project's own.
abbrev pub scans_from : Fixed → ℕ → ℕ → List ScanStep
scans_from fixed scan count = flat_map (due fixed.plan) (range_with_len scan count)

-- What is due in all scans. This project's own.
abbrev pub all_due : Fixed → List ScanStep
all_due fixed = scans_from fixed 1 fixed.scans

-- Steps are those of all scans that are gone, and the first ones of the next scan, which lead to
-- this place; some of that scan are left. This project's own.
pub record IsPlaced (fixed : Fixed) (made : List ScanStep) (gone : ℕ) (at : ScanPlace)
    : Type 0 where
  pub before : List ScanStep
  pub next : ScanStep
  pub after : List ScanStep
  pub scan : before ++ next ∷ after ≡ due fixed.plan (gone + 1)
  pub place : place_behind before ≡ at
  pub steps : made ≡ scans_from fixed 1 gone ++ before

-- What is left of the scan after those that are gone, where these steps were made in all. This
-- project's own.
abbrev pub left_in_scan : Fixed → ℕ → List ScanStep → List ScanStep
left_in_scan fixed gone made = drop (length made) (scans_from fixed 1 (gone + 1))

-- The scans that have begun. This project's own.
abbrev pub scans_at : ScanPlace → ℕ → ℕ
scans_at places.Start gone = gone
scans_at _ gone = gone + 1

-- No scan runs, and all are gone. This project's own.
abbrev pub is_done : ℕ → ScanPlace → ℕ → Bool
is_done scans places.Start gone = gone == scans
is_done scans _ gone = false

-- Nothing is due any more: the controller has stopped, or all scans are done. This project's own.
abbrev pub is_over : ℕ → ℕ → ScanPlace → ℕ → Bool
is_over stop scans at gone = if stop == 0 then is_done scans at gone else true

-- A step after which its scan is over, by the stop code after it: its last one, or a solve that
-- stopped the controller. This project's own.
abbrev pub closes_scan : ScanStep → ℕ → Bool
closes_scan (steps.Solve row) stop = not (stop == 0)
closes_scan step stop = ends_scan step

-- How many scans are gone after a step. This project's own.
abbrev pub gone_after : ScanStep → ℕ → ℕ
gone_after step gone = if ends_scan step then gone + 1 else gone

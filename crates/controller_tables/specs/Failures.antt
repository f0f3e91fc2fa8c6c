-- The power rows of a controller. This project's own.
use Rattle.std.specs.Prelude.{ℕ, ◌-◌, List, [], ◌∷◌, length, Option, Some, None, Result, Ok}
use Rattle.std.specs.List.{slice_get}
use Rattle.plant_types.specs.declared.plan.PowerRow.{PowerRow}
use Rattle.plant_types.specs.declared.fault.PlantFault.TheVariants.{BadPower}
use Rattle.plant_types.specs.Fault.{power_place}
use Rattle.plant_types.specs.Limits.{most_scans, dark_limit}
use Rattle.plant_types.specs.PlanTests.{is_behind_dark}
use Rattle.cell_text.specs.Steps.{◌>>=◌, or_fault, unless}
use Rattle.cell_text.specs.Words.{text_words}
use Rattle.controller_tables.specs.declared.owner.Owner.{Owner}
use Rattle.controller_tables.specs.declared.failures.PowerWords.{PowerWords as FoundWords}
use Rattle.plant_tables.specs.Refusals.{Refusal}
use Rattle.plant_tables.specs.Numerals.{numeral_within}
use Rattle.plant_tables.specs.InOrder.{with_positions, each_behind}

-- The three words of a power row: the scan in which power fails, the order row behind whose solve
-- it fails, and how many scans after it are dark.
pub record PowerWords : Type 0 where
  pub scan : List ℕ
  pub row : List ℕ
  pub dark : List ℕ

abbrev pub power_words_from : List ℕ → List ℕ → List ℕ → PowerWords
power_words_from scan row dark = record { scan = scan; row = row; dark = dark }

abbrev pub power_words_in : FoundWords → PowerWords
power_words_in found = power_words_from found.scan.now found.row.now found.dark.now

abbrev pub power_words : List (List ℕ) → Option PowerWords
power_words (scan ∷ row ∷ dark ∷ []) = Some (power_words_from scan row dark)
power_words _ = None

-- A power row from its parts.
abbrev pub power_from : ℕ → ℕ → ℕ → PowerRow
power_from scan row dark = record { scan = scan; row = row; dark = dark }

-- The row right before those to come, where there is one.
abbrev pub last_row : List PowerRow → Option PowerRow
last_row rows = slice_get rows (length rows - 1)

-- The power row of a text of a controller with so many order rows, behind the rows before it: each
-- number is in its range, and its scan is above the last dark scan of the row right before it.
unfoldable pub power_row : Owner → ℕ → List PowerRow → ℕ × List ℕ → Result PowerRow Refusal
power_row owner orders earlier text = do
  place ← Ok (power_place owner.position text.0)
  words ← or_fault (BadPower, place) (power_words (text_words text.1))
  scan ← or_fault (BadPower, place) (numeral_within 1 most_scans words.scan)
  row ← or_fault (BadPower, place) (numeral_within 0 orders words.row)
  dark ← or_fault (BadPower, place) (numeral_within 0 dark_limit words.dark)
  behind ← unless (is_behind_dark (last_row earlier) (power_from scan row dark)) (BadPower, place)
  Ok (power_from scan row dark)

-- The power rows of a controller with so many order rows.
abbrev pub power_rows_of : Owner → ℕ → List (List ℕ) → Result (List PowerRow) Refusal
power_rows_of owner orders texts = each_behind (power_row owner orders) [] (with_positions texts)

use Rattle.std.proofs.Common.{◌≡◌, ◌≤◌, drop}
use Rattle.std.specs.Prelude.{fold, min}
use Rattle.plant_types.specs.Numerals.{value_of}
use Rattle.plant_tables.specs.Numerals.{most_told}
use Rattle.plant_tables.proofs.NumeralLemmas.{more}
use Rattle.plant_tables.proofs.numerals.told_value.Given as goal

-- what is told so far, before the digits left
abbrev pub invariant-loop-digit : goal.invariant-loop-digit
invariant-loop-digit l = record {
  told : min (fold more l.value (drop l.digit-index l.digits)) most_told
      ≡ min (value_of l.digits) most_told;
  low : l.value ≤ most_told;
}

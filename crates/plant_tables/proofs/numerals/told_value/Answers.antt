use Rattle.std.proofs.Common.{◌≡◌, ◌+◌, ◌*◌, ◌∷◌, drop, get_or, sym, ap, ◌∙◌}
use Rattle.std.specs.Prelude.{fold, min}
use Rattle.plant_tables.specs.Numerals.{most_told}
use Rattle.plant_tables.proofs.NumeralLemmas.{more, told-more, min-low}
use Rattle.std.proofs.lemmas.List.{drop_more}
use Rattle.plant_tables.proofs.numerals.told_value.Goals as goal

pub loop-digit-preserved : goal.loop-digit-preserved
loop-digit-preserved c =
    let digits = c.args.digits.now in
    let n = c.loop-digit.digit-index in
    let value = c.loop-digit.value in
    let digit = get_or digits n 0 in
    let left = drop (n + 1) digits in
    let next : c.min-value.result ≡ min (more value digit) most_told = c.min-value.ensures
    ∙ ap (λ d. min (value * 10 + d) most_told) c.from.ensures in
    let front : drop n digits ≡ digit ∷ left = drop_more digits n 0 c.loop-digit-test.true in
    record {
      told = ap (λ v. min (fold more v left) most_told) next
          ∙ told-more most_told left (more value digit)
          ∙ sym (ap (λ ds. min (fold more value ds) most_told) front) ∙ c.loop-digit.invariant.told;
      low = rw next (min-low (more value digit) most_told);
    }

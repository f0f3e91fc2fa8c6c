use Rattle.std.proofs.Common.{◌<◌, ◌^◌, sym, ap, ◌∙◌, arith}
use Rattle.std.specs.Fmt.{decimal}
use Rattle.plant_types.specs.Numerals.{value_of}
use Rattle.peer_cop.proofs.Numbers.{no_numeral, not_below, numeral_text}
use Rattle.peer_cop.proofs.reading.number_of.Goals as goal

pub returns-then-not-is_numeral : goal.returns-then-not-is_numeral
returns-then-not-is_numeral c = λ n below.
    no_numeral c.args.text.now n (sym c.is_numeral.ensures ∙ c.if-not-is_numeral.true) (omega arith)

pub returns-then-value-limit : goal.returns-then-value-limit
returns-then-value-limit c =
    let less : value_of c.args.text.now < 2 ^ 16 =
    omega (arith, c.value_of-value.ensures, c.if-value-limit.true) in (
      c.if-value-limit.true,
      numeral_text c.args.text.now (sym c.is_numeral.ensures ∙ c.if-not-is_numeral.false) less
          ∙ ap decimal (sym c.value_of-value.ensures),
    )

pub returns-else-value-limit : goal.returns-else-value-limit
returns-else-value-limit c = λ n below.
    not_below c.args.text.now n c.value_of-value.result c.value_of-value.ensures
    (omega (arith, below, c.if-value-limit.false)) (omega arith)

use Rattle.std.proofs.Common.{◌∙◌, sym, arith}
use Rattle.controller_tables.proofs.ScriptLemmas.{word_spelled-four}
use Rattle.controller_tables.proofs.scripts.word_spelled.Goals as goal

pub returns : goal.returns
returns c =
    let digits = c.if-not-are_hex_digits.false in
    sym (word_spelled-four c.args.place c.args.word.now c.hex_digit.result c.hex_digit-2.result
    c.hex_digit-3.result c.hex_digit-4.result
    (sym c.are_hex_digits.ensures ∙ digits) (omega arith) (omega arith)
    (record {
      first = c.hex_digit.ensures.value;
      second = c.hex_digit-2.ensures.value;
      third = c.hex_digit-3.ensures.value;
      fourth = c.hex_digit-4.ensures.value;
    }))

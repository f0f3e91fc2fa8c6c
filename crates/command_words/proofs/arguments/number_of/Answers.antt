use Rattle.std.proofs.Common.{arith}
use Rattle.std.proofs.lemmas.Fmt.{parse-decimal}
use Rattle.command_words.proofs.arguments.number_of.Goals as goal

pub returns-in-Ok : goal.returns-in-Ok
returns-in-Ok c = λ number small.
    let printed = c.is_decimal.ensures.0 c.if-is_decimal.true in (
      λ e. cc,
      λ e.
          let read = parse-decimal 32 number c.args.word.now c.parse.result small
          (omega arith) e c.parse.ensures.value.0 in
          cc,
    )

pub returns-in_default : goal.returns-in_default
returns-in_default c = λ number small. (
  λ e. cc,
  λ e.
      let read = parse-decimal 32 number c.args.word.now c.parse.result small
      (omega arith) e c.parse.ensures.value.0 in
      let same = c.is_decimal.ensures.1 (cc) in
      cc,
)

pub returns-in_default-2 : goal.returns-in_default-2
returns-in_default-2 c = λ number small. (
  λ e. cc,
  λ e.
      let read = parse-decimal 32 number c.args.word.now c.parse.result small
      (omega arith) e c.parse.ensures.value.0 in
      cc,
)

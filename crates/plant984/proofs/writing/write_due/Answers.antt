use Rattle.std.proofs.Common.{◌≡◌, IsOkAnd, refl, rules}
use Rattle.command_answers.specs.Due.{Due, as_due}
use Rattle.plant984.specs.Promise.{side}
use Rattle.plant984.proofs.DueLemmas.{told-self, wrote-whole}
use Rattle.plant984.proofs.writing.write_due.Goals as goal

pub returns-in-Ok-write_all-clause-answers : goal.returns-in-Ok-write_all-clause-answers
returns-in-Ok-write_all-clause-answers g c =
    let answer = c.in-Ok.field-0 in
    let had = side (g.K.Sink.taken c.args.sink.now) (g.K.Sink.faults c.args.sink.now) in
    let has = side (g.K.Sink.taken c.write_all.new.sink) (g.K.Sink.faults c.write_all.new.sink) in
    let IsTold : Due → Type 0 =
    λ what. IsOkAnd c.args.answered (λ other. what ≡ as_due other) in
    wrote-whole IsTold answer.status had has answer.with_text
    (record {
      what = as_due answer;
      due = told-self c.args.answered answer c.in-Ok.is;
      ended = refl;
      took = search rules;
    })

pub returns-in-Ok-clause-answers : goal.returns-in-Ok-clause-answers
returns-in-Ok-clause-answers g c =
    let answer = c.in-Ok.field-0 in (
      search rules,
      record {
        what = as_due answer;
        due = told-self c.args.answered answer c.in-Ok.is;
        took = search rules;
      },
    )

use Rattle.std.proofs.Common.{◌≡◌, [], true, false, map, string_bytes, rules, arith}
use Rattle.command_words.specs.Words.{SpellsCommand}
use Rattle.command_answers.specs.Due.{IsDue, reads_input}
use Rattle.plant984.specs.Promise.{side}
use Rattle.plant984.proofs.DueLemmas.{Found, Keeps-found, answered-due, in_range}
use Rattle.plant984.proofs.DueLemmas.{nothing_read, one-command, whole_read}
use Rattle.plant984.proofs.serial.plant_serial.Goals as goal

pub answer_to-requires-clause-command : goal.answer_to-requires-clause-command
answer_to-requires-clause-command g c =
    in_range (map string_bytes c.args.words.now) c.in-Some.command
    ((c.in-Ok.ensures c.in-Some.command).0 c.in-Some.is)

pub answer_to-requires-in-Ok-read_all-clause-command :
    goal.answer_to-requires-in-Ok-read_all-clause-command
answer_to-requires-in-Ok-read_all-clause-command g c =
    in_range (map string_bytes c.args.words.now) c.in-Some.command
    ((c.in-Ok.ensures c.in-Some.command).0 c.in-Some.is)

pub returns-then-not-reads_input-clause-promised : goal.returns-then-not-reads_input-clause-promised
returns-then-not-reads_input-clause-promised g c =
    let words = map string_bytes c.args.words.now in
    let command = c.in-Some.command in
    let source = side (g.S.Source.left c.args.source.now) (g.S.Source.faults c.args.source.now) in
    let off : reads_input command ≡ false = search rules in
    let found : Found SpellsCommand reads_input words source source command [] = record {
      spelled = (c.in-Ok.ensures command).0 c.in-Some.is;
      only = one-command SpellsCommand words c.in-Ok.asked command c.in-Ok.ensures c.in-Some.is;
      read = nothing_read (reads_input command) source.bytes off;
      later = omega arith;
    } in
    let had = side (g.K.Sink.taken c.args.sink.now) (g.K.Sink.faults c.args.sink.now) in
    let has = side (g.K.Sink.taken c.write_due.new.sink) (g.K.Sink.faults c.write_due.new.sink) in
    Keeps-found SpellsCommand reads_input IsDue words source source command [] found had has
    c.write_due.result c.write_due.ensures.later
    (answered-due (IsDue command []) c.answer_to.result c.answer_to.ensures had has
    c.write_due.result c.write_due.ensures.answers)

pub returns-in-Ok-read_all-clause-promised : goal.returns-in-Ok-read_all-clause-promised
returns-in-Ok-read_all-clause-promised g c =
    let words = map string_bytes c.args.words.now in
    let command = c.in-Some.command in
    let source = side (g.S.Source.left c.args.source.now) (g.S.Source.faults c.args.source.now) in
    let source_now = side (g.S.Source.left c.read_all.new.source)
    (g.S.Source.faults c.read_all.new.source) in
    let on : reads_input command ≡ true = search rules in
    let input = c.in-Ok-read_all.input.items in
    let found : Found SpellsCommand reads_input words source source_now command input = record {
      spelled = (c.in-Ok.ensures command).0 c.in-Some.is;
      only = one-command SpellsCommand words c.in-Ok.asked command c.in-Ok.ensures c.in-Some.is;
      read = whole_read (reads_input command) source.bytes source_now.bytes input on
          c.in-Ok-read_all.ensures.whole
          c.in-Ok-read_all.ensures.within;
      later = c.read_all.ensures.later;
    } in
    let wrote = c.write_due-in-Ok-read_all in
    let had = side (g.K.Sink.taken c.args.sink.now) (g.K.Sink.faults c.args.sink.now) in
    let has = side (g.K.Sink.taken wrote.new.sink) (g.K.Sink.faults wrote.new.sink) in
    Keeps-found SpellsCommand reads_input IsDue words source source_now command input found had has
    wrote.result wrote.ensures.later
    (answered-due (IsDue command input) c.answer_to-in-Ok-read_all.result (search rules) had has
    wrote.result wrote.ensures.answers)

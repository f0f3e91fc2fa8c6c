use Rattle.std.proofs.Common.{map, string_bytes, rules}
use Rattle.command_words.specs.Words.{SpellsLive}
use Rattle.command_answers.specs.Due.{IsLiveDue}
use Rattle.plant984.specs.Promise.{always, side}
use Rattle.plant984.proofs.DueLemmas.{Found, Keeps-found, answered-due, live_in_range}
use Rattle.plant984.proofs.DueLemmas.{one-command}
use Rattle.plant984.proofs.live.plant_live.Goals as goal

pub answer_live-requires-after_bounds : goal.answer_live-requires-after_bounds
answer_live-requires-after_bounds g c = λ κs bounds.
    live_in_range (map string_bytes c.args.words.now) c.in-Some.scans
    ((c.in-Ok.ensures c.in-Some.scans).0 c.in-Some.is)

pub returns-in-Ok-read_all-clause-promised : goal.returns-in-Ok-read_all-clause-promised
returns-in-Ok-read_all-clause-promised g c =
    let words = map string_bytes c.args.words.now in
    let scans = c.in-Some.scans in
    let source = side (g.S.Source.left c.args.source.now) (g.S.Source.faults c.args.source.now) in
    let source_now = side (g.S.Source.left c.read_all.new.source)
    (g.S.Source.faults c.read_all.new.source) in
    let input = c.in-Ok-read_all.input.items in
    let found : Found SpellsLive always words source source_now scans input = record {
      spelled = (c.in-Ok.ensures scans).0 c.in-Some.is;
      only = one-command SpellsLive words c.in-Ok.asked scans c.in-Ok.ensures c.in-Some.is;
      read = (c.in-Ok-read_all.ensures.whole, c.in-Ok-read_all.ensures.within);
      later = c.read_all.ensures.later;
    } in
    let had = side (g.K.Sink.taken c.args.sink.now) (g.K.Sink.faults c.args.sink.now) in
    let has = side (g.K.Sink.taken c.write_due.new.sink) (g.K.Sink.faults c.write_due.new.sink) in
    Keeps-found SpellsLive always IsLiveDue words source source_now scans input found had has
    c.write_due.result c.write_due.ensures.later
    (answered-due (IsLiveDue scans input) c.answer_live.result (search rules) had has
    c.write_due.result c.write_due.ensures.answers)

use Rattle.std.proofs.Common.{◌≡◌, take, drop, [], sym, ap, ◌∙◌, arith}
use Rattle.std.proofs.lemmas.List.{drop_all}
use Rattle.traffic_cop.specs.Exchange.{put_all}
use Rattle.traffic_cop.proofs.ModuleLemmas.{put_next}
use Rattle.traffic_cop.proofs.modules.put_all.Goals as goal

pub loop-io_module-preserved : goal.loop-io_module-preserved
loop-io_module-preserved g c =
    let so_far = c.loop-io_module.invariant in
    let next = put_next c.args.modules.now c.loop-io_module.io_module-index _
    c.loop-io_module.rest.now c.split_at.result.0.now c.split_at.result.1.now
    (g.R.RefStore.contents c.loop-io_module.ram) (g.R.RefStore.contents c.put_words.new.ram)
    c.loop-io_module-test.true
    (c.split_at.ensures.front ∙ ap (λ n. take n c.loop-io_module.rest.now) c.input_count.ensures)
    (c.split_at.ensures.back ∙ ap (λ n. drop n c.loop-io_module.rest.now) c.input_count.ensures)
    c.put_words.ensures.stored so_far.room so_far.words c.put_words.ensures.keeps in
    record {
      stored = so_far.stored ∙ next.stored;
      room = next.room;
      words = next.words;
      keeps = λ at h. c.put_words.ensures.keeps at (so_far.keeps at h);
    }

pub returns-clause-stored : goal.returns-clause-stored
unfolding put_all
returns-clause-stored g c =
    let none : drop c.loop-io_module.io_module-index c.args.modules.now ≡ [] =
    drop_all c.loop-io_module.io_module-index c.args.modules.now (omega arith) in
    sym (c.loop-io_module.invariant.stored ∙ ap
    (λ l. put_all l c.loop-io_module.rest.now (g.R.RefStore.contents c.loop-io_module.ram)) none)

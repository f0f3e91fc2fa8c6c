use Rattle.std.proofs.Common.{◌≡◌, ◌≤◌, ◌+◌, ◌-◌, ℕ, List, [], ◌++◌, length, take, drop, sym, ap}
use Rattle.std.proofs.Common.{subst, ◌∙◌, arith}
use Rattle.std.proofs.lemmas.List.{append-nil, drop_all, length-drop}
use Rattle.traffic_cop.specs.Exchange.{output_words}
use Rattle.traffic_cop.proofs.ModuleLemmas.{take_next}
use Rattle.traffic_cop.proofs.modules.take_all.Goals as goal

pub loop-io_module-preserved : goal.loop-io_module-preserved
loop-io_module-preserved g c =
    let m = g.R.RefStore.contents c.args.ram.now in
    let modules = c.args.modules.now in
    let i = c.loop-io_module.io_module-index in
    let count = c.loop-io_module.count in
    let words = c.loop-io_module.words in
    let part = c.take_words-count.new.words in
    let got = c.take_words-count.result in
    let so_far = c.loop-io_module.invariant in
    let fits : count ≤ length words = omega arith in
    let next = take_next m modules i _ count got words part c.loop-io_module-test.true fits
    c.take_words-count.ensures.count c.take_words-count.ensures.taken so_far.count so_far.taken
    so_far.room in
    let behind : drop (length words - count) (drop count words) ≡ [] =
    drop_all (length words - count) (drop count words) (omega
    (arith, length-drop count words)) in
    let whole : take count words ++ (part ++ drop (length words - count) (drop count words))
    ≡ take count words ++ part =
    ap (λ (l : List ℕ). take count words ++ (part ++ l)) behind
    ∙ ap (λ (l : List ℕ). take count words ++ l) (append-nil part) in
    record {
      count = next.count;
      taken = subst (λ (w : List ℕ). take (count + got) w ++ output_words m (drop (i + 1) modules)
          ≡ output_words m modules) (sym whole) next.taken;
      room = next.room;
    }

use Rattle.std.proofs.Common.{◌<◌, length, arith}
use Rattle.plant_types.proofs.RunLemmas.{words_from-by_place}
use Rattle.plant_types.proofs.runs.load_words.Goals as goal

pub returns : goal.returns
returns g c =
    words_from-by_place (g.R.RefStore.contents c.args.ram.now) c.args.at
    (length c.args.words.now) c.loop-i.words (omega arith)
    (λ k l. let b : k < c.loop-i.i = omega arith in c.loop-i.invariant k b)

use Rattle.std.proofs.Common.{◌<◌, length, arith}
use Rattle.plant_types.proofs.RunLemmas.{words_from-by_place}
use Rattle.modbus_exec.specs.Runs.{reference_at}
use Rattle.modbus_exec.proofs.runs.read_words.Goals as goal

pub returns : goal.returns
returns g c =
    words_from-by_place (g.R.RefStore.contents c.args.ram.now)
    (reference_at c.args.kind c.args.address) (length c.args.words.now) c.loop-place.words
    (omega arith)
    (λ k l. let b : k < c.loop-place.place = omega arith in c.loop-place.invariant k b)

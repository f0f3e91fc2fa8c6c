use Rattle.std.proofs.Common.{◌<◌, length, arith}
use Rattle.plant_types.specs.declared.reference.RefKind.TheVariants as kinds
use Rattle.plant_types.specs.Store.{with_words}
use Rattle.plant_types.proofs.RunLemmas.{words_from-by_place}
use Rattle.modbus_exec.specs.Runs.{reference_at}
use Rattle.modbus_exec.proofs.writing.words_after.Goals as goal

pub returns : goal.returns
returns g c =
    words_from-by_place (with_words (g.R.RefStore.contents c.args.ram.now)
    (reference_at kinds.Register c.args.write) c.args.words.now)
    (reference_at kinds.Register c.args.read) (length c.args.found.now)
    c.loop-place.found (omega arith)
    (λ k l. let b : k < c.loop-place.place = omega arith in c.loop-place.invariant k b)

use Rattle.std.proofs.Common.{◌≡◌, ◌++◌, ◌∷◌, [], ap, ◌∙◌, arith}
use Rattle.std.proofs.lemmas.Grind.{common_steps}
use Rattle.std.proofs.lemmas.List.{take_all}
use Rattle.plant_types.specs.Reference.{ref_from}
use Rattle.plant_types.specs.Store.{is_on}
use Rattle.plant_types.specs.Discretes.{bits_from}
use Rattle.modbus_exec.specs.Runs.{reference_at}
use Rattle.plant_types.proofs.DiscretesLemmas.{length-bits_from}
use Rattle.modbus_exec.proofs.RunLemmas.{bits_from-more}
use Rattle.modbus_exec.proofs.runs.read_bits.Goals as goal

pub loop-place-preserved : goal.loop-place-preserved
loop-place-preserved g c =
    let m = g.R.RefStore.contents c.args.ram.now in
    let at = reference_at c.args.kind c.args.address in
    let more = bits_from-more m at c.args.count c.loop-place.place (omega arith) in
    let here : c.bit.result ≡ is_on m (ref_from at c.loop-place.place) = c.bit.ensures
    ∙ ap (is_on m) c.reference_behind.ensures in
    let pushed : c.push.new.self.items ≡ c.loop-place.bits.items ++ c.bit.result ∷ [] =
    grind (arith, common_steps) in
    rw (more, ← here, ← c.loop-place.invariant) pushed

pub returns : goal.returns
returns g c =
    let m = g.R.RefStore.contents c.args.ram.now in
    let at = reference_at c.args.kind c.args.address in
    c.from_vec.ensures
    ∙ c.loop-place.invariant
    ∙ take_all c.loop-place.place (bits_from m at c.args.count)
    (omega (arith, length-bits_from m at c.args.count))

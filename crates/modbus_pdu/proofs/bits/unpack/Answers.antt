use Rattle.std.proofs.Common.{◌≡◌, ◌++◌, ◌+◌, ◌∷◌, [], false, take, get_or, arith}
use Rattle.std.proofs.lemmas.Grind.{common_steps}
use Rattle.std.proofs.lemmas.List.{take_more}
use Rattle.modbus_pdu.specs.Bytes.{unpacked}
use Rattle.modbus_pdu.proofs.Packing.{length-unpacked}
use Rattle.modbus_pdu.proofs.bits.unpack.Goals as goal

pub loop-place-preserved : goal.loop-place-preserved
loop-place-preserved c =
    let all = unpacked c.args.packed.now in
    let place = c.loop-place.place in
    let more : take (place + 1) all ≡ take place all ++ get_or all place false ∷ [] =
    take_more all place false (omega (arith, length-unpacked c.args.packed.now)) in
    grind (arith, common_steps)

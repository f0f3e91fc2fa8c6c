use Rattle.std.proofs.Common.{refl}
use Rattle.modbus_pdu.proofs.Requests.{reading_there, no_reading}
use Rattle.modbus_pdu.proofs.decoding.read.Goals as goal

pub returns-in-Some : goal.returns-in-Some
returns-in-Some c =
    let found = rw c.most_read.ensures at c.in-Some.ensures in
    rw c.read_request.ensures (reading_there c.args.kind c.args.fields.now c.in-Some.address
    c.in-Some.quantity found.0 found.1)

pub returns-in-None : goal.returns-in-None
returns-in-None c =
    (refl, no_reading c.args.kind c.args.fields.now (rw c.most_read.ensures at c.in-None.ensures))

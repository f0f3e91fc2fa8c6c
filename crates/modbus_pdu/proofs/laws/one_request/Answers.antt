use Rattle.modbus_pdu.proofs.Reading.{one_spelled}
use Rattle.modbus_pdu.proofs.laws.one_request.Goals as goal

pub returns : goal.returns
returns c = one_spelled

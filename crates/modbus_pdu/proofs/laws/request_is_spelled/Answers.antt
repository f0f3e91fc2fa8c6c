use Rattle.modbus_pdu.proofs.Reading.{request_found, found_spelled}
use Rattle.modbus_pdu.proofs.laws.request_is_spelled.Goals as goal

pub returns : goal.returns
returns c = λ bytes request. (found_spelled bytes request, request_found bytes request)

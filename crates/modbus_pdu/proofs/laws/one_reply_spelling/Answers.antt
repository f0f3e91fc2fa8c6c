use Rattle.std.proofs.Common.{sym, ◌∙◌}
use Rattle.modbus_pdu.proofs.laws.one_reply_spelling.Goals as goal

pub returns : goal.returns
returns c = λ reply one other s t. s.form ∙ sym t.form

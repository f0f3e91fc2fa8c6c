use Rattle.mstr_block.proofs.Failing.{power_failures-keep_calls}
use Rattle.mstr_block.proofs.laws.power_failures_keep_calls.Goals as goal

pub returns : goal.returns
returns c = power_failures-keep_calls

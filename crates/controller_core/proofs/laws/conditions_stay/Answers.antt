use Rattle.controller_core.proofs.CallLaws.{conditions}
use Rattle.controller_core.proofs.laws.conditions_stay.Goals as goal

pub returns : goal.returns
returns c =
    conditions c.segments_keep_calls.ensures c.power_failures_keep_calls.ensures

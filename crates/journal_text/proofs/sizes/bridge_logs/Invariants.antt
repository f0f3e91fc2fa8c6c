use Rattle.std.proofs.Common.{take, All}
use Rattle.journal_text.specs.Sizes.{FitsBridgeLog}
use Rattle.journal_text.proofs.sizes.bridge_logs.Given as goal

abbrev pub invariant-loop-at : goal.invariant-loop-at
invariant-loop-at l = All FitsBridgeLog (take l.at l.logs)

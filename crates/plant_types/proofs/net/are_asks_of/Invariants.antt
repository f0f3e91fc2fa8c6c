use Rattle.std.proofs.Common.{take, All}
use Rattle.plant_types.specs.Plans.{IsAskOf}
use Rattle.plant_types.proofs.net.are_asks_of.Given as goal

abbrev pub invariant-loop-at : goal.invariant-loop-at
invariant-loop-at l = All (IsAskOf l.host) (take l.at l.asks)

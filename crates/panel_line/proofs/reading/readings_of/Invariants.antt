use Rattle.std.proofs.Common.{◌≡◌, take}
use Rattle.panel_line.proofs.reading.readings_of.Given as goal

abbrev pub invariant-loop-at : goal.invariant-loop-at
invariant-loop-at l = l.readings.items ≡ take l.at-index l.panel

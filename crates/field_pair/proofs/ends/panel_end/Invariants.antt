use Rattle.std.proofs.Common.{◌≡◌, length, take}
use Rattle.controller_core.specs.Notes.{values_of}
use Rattle.field_machine.specs.Keys.{map_in}
use Rattle.field_pair.proofs.ends.panel_end.Given as goal

abbrev pub invariant-loop-at : goal.invariant-loop-at
invariant-loop-at l =
    l.values.items
    ≡ values_of (map_in l.field.fixed.plan (length l.field.counters.items) l.key)
    (take l.at-index l.panel)

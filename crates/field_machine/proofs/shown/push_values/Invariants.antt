use Rattle.std.proofs.Common.{◌≡◌, ◌++◌, drop}
use Rattle.plant_types.specs.Checks.{HasPanel}
use Rattle.state_ram.specs.Packed.{packed_contents}
use Rattle.controller_core.specs.Notes.{values_of}
use Rattle.field_machine.proofs.shown.push_values.Given as goal

abbrev pub invariant-loop-at : goal.invariant-loop-at
invariant-loop-at l = record {
  values : l.values.items ++ values_of (packed_contents l.ram) (drop l.at-index l.panel)
      ≡ l.fn.values.items ++ values_of (packed_contents l.ram) l.panel;
  there : HasPanel (packed_contents l.ram) (drop l.at-index l.panel);
}

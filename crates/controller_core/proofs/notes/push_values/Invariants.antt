use Rattle.std.proofs.Common.{◌≡◌, ◌≤◌, ◌+◌, ◌++◌, drop, length}
use Rattle.std.specs.Prelude.{vec_capacity, vec_len}
use Rattle.plant_types.specs.Checks.{HasPanel}
use Rattle.controller_core.specs.Notes.{values_of}
use Rattle.controller_core.proofs.notes.push_values.Given as goal

abbrev pub invariant-loop-at : goal.invariant-loop-at
invariant-loop-at l = record {
  values : l.values.items ++ values_of l.ram (drop l.at-index l.panel)
      ≡ l.fn.values.items ++ values_of l.ram l.panel;
  there : HasPanel l.ram (drop l.at-index l.panel);
  room : vec_len l.values + length (drop l.at-index l.panel) ≤ vec_capacity l.values;
  capacity : vec_capacity l.fn.values ≤ vec_capacity l.values;
}

use Rattle.std.proofs.Common.{◌≡◌, drop}
use Rattle.plant_types.specs.Store.{Keeps}
use Rattle.state_ram.specs.Packed.{packed_contents}
use Rattle.field_machine.specs.Narrow.{zeroed}
use Rattle.field_machine.proofs.narrow.zero_all.Given as goal

abbrev pub invariant-loop-at : goal.invariant-loop-at
invariant-loop-at l = record {
  keeps : Keeps (packed_contents l.fn.ram) (packed_contents l.ram);
  stored : zeroed (packed_contents l.ram) (drop l.at-index l.refs)
      ≡ zeroed (packed_contents l.fn.ram) l.refs;
}

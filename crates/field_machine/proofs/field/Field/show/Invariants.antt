use Rattle.field_machine.specs.Work.{IsWorkOf}
use Rattle.field_machine.proofs.Showing.{HasShown}
use Rattle.field_machine.proofs.field.Field.show.Given as goal

abbrev pub invariant-loop-way : goal.invariant-loop-way
invariant-loop-way l = record {
  work : IsWorkOf l.self.fixed.plan l.work;
  shown : HasShown l.self.fixed l.self.counters.items l.ways l.way-index l.key.items
      l.values.items;
}

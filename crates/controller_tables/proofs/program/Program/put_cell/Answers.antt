use Rattle.std.proofs.Common.{◌≡◌, Ok, subst, sym}
use Rattle.plant_types.specs.FirstFault.{first_failed}
use Rattle.plant_types.specs.PlanTests.{site_cell_tests}
use Rattle.controller_tables.specs.Program.{ReadProgram, site_of}
use Rattle.controller_tables.proofs.KeptLemmas.{KeepsProgram-cell}
use Rattle.controller_tables.proofs.program.Program.put_cell.Goals as goal

pub invariant_of-result : goal.invariant_of-result
invariant_of-result c =
    let read : ReadProgram = record {
      count = c.self.inside.count;
      segments = c.self.inside.segments;
      networks = c.self.inside.networks;
      cells = c.self.inside.cells;
      shorts = c.self.inside.shorts;
    } in
    let passes = subst (λ (r : ReadProgram).
    first_failed (site_cell_tests (site_of c.args.sizes r) r.cells c.args.cell) ≡ Ok tt)
    (sym c.self.view_is) c.requires in
    rw c.in_ok-push.ensures.ok
    (KeepsProgram-cell c.self.inside.driven.keys c.in_ok-driven.driven.keys
    c.self.inside.labels.keys c.in_ok-labels.labels.keys c.self.inside.messages
    c.messages_with-messages.result
    c.args.sizes read c.args.cell c.driven_by.result
    passes c.driven_by.ensures c.messages_with-messages.ensures c.self.invariant
    c.in_ok-driven.ensures c.in_ok-labels.ensures)

pub messages_with-messages-requires : goal.messages_with-messages-requires
messages_with-messages-requires c = c.self.invariant.few_messages

use Rattle.std.proofs.Common.{◌≡◌, Ok, subst, sym}
use Rattle.plant_types.specs.FirstFault.{first_failed, short_tests}
use Rattle.controller_tables.specs.Program.{ReadProgram}
use Rattle.controller_tables.proofs.KeptLemmas.{KeepsProgram-short}
use Rattle.controller_tables.proofs.program.Program.put_short.Goals as goal

pub invariant_of-result : goal.invariant_of-result
invariant_of-result c =
    let read : ReadProgram = record {
      count = c.self.inside.count;
      segments = c.self.inside.segments;
      networks = c.self.inside.networks;
      cells = c.self.inside.cells;
      shorts = c.self.inside.shorts;
    } in
    let passes = subst (λ (r : ReadProgram). first_failed (short_tests r.shorts c.args.short)
    ≡ Ok tt) (sym c.self.view_is) c.requires in
    rw c.in_ok-push.ensures.ok (KeepsProgram-short c.self.inside.driven.keys
    c.self.inside.labels.keys c.self.inside.messages read c.args.short passes c.self.invariant)

use Rattle.std.proofs.Common.{◌<◌, length, subst, sym}
use Rattle.controller_tables.specs.Program.{ReadProgram}
use Rattle.controller_tables.proofs.KeptLemmas.{KeepsProgram-segment}
use Rattle.controller_tables.proofs.program.Program.with_segment.Goals as goal

pub invariant_of-result : goal.invariant_of-result
invariant_of-result c =
    let read : ReadProgram = record {
      count = c.self.inside.count;
      segments = c.self.inside.segments;
      networks = c.self.inside.networks;
      cells = c.self.inside.cells;
      shorts = c.self.inside.shorts;
    } in
    let few = subst (λ (r : ReadProgram). length r.segments < 32) (sym c.self.view_is) c.requires in
    rw (c.new.ensures, c.in_ok-push.ensures.ok) (KeepsProgram-segment c.self.inside.driven.keys
    c.self.inside.labels.keys c.self.inside.messages read few c.self.invariant)

use Rattle.std.proofs.Common.{length, ap, arith}
use Rattle.controller_tables.specs.Program.{ReadProgram}
use Rattle.controller_tables.proofs.KeptLemmas.{KeepsProgram-few}
use Rattle.controller_tables.proofs.program.Program.piece_number.Goals as goal

pub overflow_cast-result : goal.overflow_cast-result
overflow_cast-result c =
    let read : ReadProgram = record {
      count = c.self.inside.count;
      segments = c.self.inside.segments;
      networks = c.self.inside.networks;
      cells = c.self.inside.cells;
      shorts = c.self.inside.shorts;
    } in
    omega (
      arith,
      ap length c.as_slice.ensures,
      ap length c.as_slice-2.ensures,
      KeepsProgram-few c.self.inside.driven.keys c.self.inside.labels.keys
          c.self.inside.messages read c.self.invariant,
    )

pub overflow_add-result : goal.overflow_add-result
overflow_add-result c =
    let read : ReadProgram = record {
      count = c.self.inside.count;
      segments = c.self.inside.segments;
      networks = c.self.inside.networks;
      cells = c.self.inside.cells;
      shorts = c.self.inside.shorts;
    } in
    omega (
      arith,
      ap length c.as_slice.ensures,
      ap length c.as_slice-2.ensures,
      KeepsProgram-few c.self.inside.driven.keys c.self.inside.labels.keys
          c.self.inside.messages read c.self.invariant,
    )

use Rattle.std.proofs.Common.{◌∙◌, sym, ap}
use Rattle.std.proofs.lemmas.Result.{err_from_is_err_and}
use Rattle.plant_types.specs.FirstFault.{cell_tests, first_failed}
use Rattle.plant_types.specs.Standing.{standing_of, standing_tests}
use Rattle.plant_types.proofs.FaultLemmas.{parts-failed, parts-held}
use Rattle.controller_tables.specs.Program.{ReadProgram, cells_read, site_of}
use Rattle.controller_tables.proofs.program.Program.test_cell.Goals as goal

pub returns-in_err-check : goal.returns-in_err-check
returns-in_err-check c =
    let p = err_from_is_err_and c.from_residual.result c.from_residual.ensures.1 in
    let read : ReadProgram = record {
      count = c.self.inside.count;
      segments = c.self.inside.segments;
      networks = c.self.inside.networks;
      cells = c.self.inside.cells;
      shorts = c.self.inside.shorts;
    } in
    let tests = cell_tests c.args.sizes read.cells c.args.cell in
    let standing = standing_tests (standing_of (site_of c.args.sizes read).is_last
    (cells_read read) c.args.cell.element) in
    rw (p.1, p.2, ← c.self.view_is)
    (parts-failed tests standing c.in_err-check.field-0.0 (sym c.in_err-check.was ∙ c.check.ensures
    ∙ ap (λ cells. first_failed (cell_tests c.args.sizes cells c.args.cell)) c.as_slice.ensures))

pub returns : goal.returns
returns c =
    let v = c.args.self.now in
    let tests = cell_tests c.args.sizes v.cells c.args.cell in
    let standing = standing_of (site_of c.args.sizes v).is_last
    (cells_read v) c.args.cell.element in
    let cells = c.as_slice.ensures ∙ ap (λ (r : ReadProgram). r.cells) c.self.view_is in
    c.check-2.ensures ∙ ap (λ s. first_failed (standing_tests s)) c.standing.ensures
    ∙ parts-held tests (standing_tests standing)
    (sym c.in_ok-check.was ∙ c.check.ensures ∙ ap (λ cells. first_failed
    (cell_tests c.args.sizes cells c.args.cell)) cells)

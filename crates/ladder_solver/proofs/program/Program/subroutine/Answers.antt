use Rattle.std.proofs.Common.{None, ◌≤◌, ◌<◌, ◌∙◌, length, sym, arith}
use Rattle.ladder_solver.specs.Program.{last_grids}
use Rattle.ladder_solver.proofs.Subroutines.{item_at, span_found, none_found, is_span_of, is_within}
use Rattle.ladder_solver.proofs.program.Program.subroutine.Goals as goal

pub returns-then-number-len-clause-span : goal.returns-then-number-len-clause-span
returns-then-number-len-clause-span c =
    let behind : length c.self.inside.spans.items ≤ c.from-number.result =
    omega (arith, c.if-number-len.true, c.len.ensures, c.self.inside.spans.ok.0) in
    rw (sym c.self.view_is)
    (is_span_of c.self.inside.grids c.args.label None
    (none_found (last_grids c.self.inside.grids) c.self.inside.spans.items c.from-number.result
    c.args.label c.self.invariant.spans
    c.from-number.ensures behind))

pub returns-clause-span : goal.returns-clause-span
returns-clause-span c =
    let within : c.from-number.result < length c.self.inside.spans.items =
    omega (arith, c.if-number-len.false, c.len.ensures, c.self.inside.spans.ok.0) in
    rw (sym c.self.view_is)
    (is_span_of c.self.inside.grids c.args.label c.index.result.now
    (item_at c.self.inside.spans.items c.from-number.result c.index.result.now None within
    c.index.ensures
    ∙ span_found (last_grids c.self.inside.grids) c.self.inside.spans.items c.from-number.result
    c.args.label c.self.invariant.spans
    c.from-number.ensures))

pub returns-clause-within : goal.returns-clause-within
returns-clause-within c =
    let within : c.from-number.result < length c.self.inside.spans.items =
    omega (arith, c.if-number-len.false, c.len.ensures, c.self.inside.spans.ok.0) in
    rw (sym c.self.view_is)
    (is_within (last_grids c.self.inside.grids) c.args.label c.index.result.now
    (item_at c.self.inside.spans.items c.from-number.result c.index.result.now None within
    c.index.ensures
    ∙ span_found (last_grids c.self.inside.grids) c.self.inside.spans.items c.from-number.result
    c.args.label c.self.invariant.spans
    c.from-number.ensures))

use Rattle.controller_tables.proofs.pieces.with_lines.Goals as goal
use Rattle.std.proofs.Common.{length, sym, ◌∙◌}
use Rattle.std.specs.Str.Lines.{lines}
use Rattle.std.proofs.lemmas.List.{length_push}
use Rattle.std.proofs.lemmas.Result.{err_from_is_err_and}
use Rattle.std.proofs.lemmas.Iterator.Splits.{YieldsList-from_lines}
use Rattle.std.proofs.lemmas.Iterator.Consumers.{YieldsList-turn, YieldsList-end}
use Rattle.controller_tables.proofs.PieceSteps.{stops_along, line-read, line-stops, lines-end}

pub returns-in_err-program : goal.returns-in_err-program
returns-in_err-program c =
    let t = YieldsList-turn
    (YieldsList-from_lines c.args.text.now cc) c.loop-line.yielded _ c.loop-line.yielded_by _ _
    c.in-Some.line c.in-Some.is c.next.ensures.steps in
    let p = err_from_is_err_and c.from_residual.result c.from_residual.ensures.1 in
    rw (p.1, p.2) (stops_along c.in_err-program.field-0.0 _ _ c.loop-line.invariant
    (line-stops c.args.owner c.loop-line.program (lines c.args.text.now)
    (length c.loop-line.yielded) c.in-Some.line.now c.in_err-program.field-0.0 t.0 t.1
    c.in_err-program.ensures))

pub loop-line-preserved : goal.loop-line-preserved
loop-line-preserved c =
    let t = YieldsList-turn
    (YieldsList-from_lines c.args.text.now cc) c.loop-line.yielded _ c.loop-line.yielded_by _ _
    c.in-Some.line c.in-Some.is c.next.ensures.steps in
    rw (length_push c.loop-line.yielded c.in-Some.line)
    (line-read c.args.owner c.loop-line.program c.in_ok-program.program
    (lines c.args.text.now) (length c.loop-line.yielded) c.in-Some.line.now t.0 t.1
    c.in_ok-program.ensures ∙ c.loop-line.invariant)

pub returns : goal.returns
returns c =
    let t = YieldsList-end (YieldsList-from_lines c.args.text.now cc) c.loop-line.yielded _
    c.loop-line.yielded_by _ _ c.in-None.is c.next.ensures.steps in
    sym c.loop-line.invariant ∙ lines-end c.args.owner c.loop-line.program (lines c.args.text.now)
    (length c.loop-line.yielded) t.1

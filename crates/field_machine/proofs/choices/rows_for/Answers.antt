use Rattle.std.proofs.Common.{◌≡◌, sym, ap, ◌∙◌, subst, arith}
use Rattle.std.specs.Prelude.{IfOk}
use Rattle.traffic_cop.proofs.DropLemmas.{named_here, named_later, named_none}
use Rattle.field_runs.specs.Told.{rows_for, rows_in}
use Rattle.field_machine.proofs.choices.rows_for.Goals as goal

pub returns-then-drop-number : goal.returns-then-drop-number
returns-then-drop-number c =
    let drops = c.args.drops.now in
    let found = c.loop-drop.invariant
    ∙ named_here drops c.loop-drop.drop-index c.drop-item.result c.args.number c.loop-drop-test.true
    c.drop-item.is c.if-drop-number.true in
    subst (λ k. IfOk c.rows_in.result (λ many. many ≡ k))
    (ap rows_in c.as_slice.ensures ∙ sym (ap rows_for found)) c.rows_in.ensures

pub loop-drop-preserved : goal.loop-drop-preserved
loop-drop-preserved c =
    c.loop-drop.invariant
    ∙ named_later c.args.drops.now c.loop-drop.drop-index c.drop-item.result c.args.number
    c.loop-drop-test.true c.drop-item.is c.if-drop-number.false

pub returns : goal.returns
returns c =
    sym (ap rows_for (c.loop-drop.invariant
    ∙ named_none c.args.drops.now c.loop-drop.drop-index c.args.number (omega arith)))

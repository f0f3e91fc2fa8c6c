use Rattle.std.proofs.Common.{sym, ◌∙◌, arith}
use Rattle.traffic_cop.proofs.DropLemmas.{named_here, named_later, named_none}
use Rattle.field_pair.proofs.alike.named.Goals as goal

pub returns-then-drop-number : goal.returns-then-drop-number
returns-then-drop-number c =
    sym (c.loop-drop.invariant
    ∙ named_here c.args.drops.now c.loop-drop.drop-index c.drop-item.result c.args.number
    c.loop-drop-test.true c.drop-item.is c.if-drop-number.true)

pub loop-drop-preserved : goal.loop-drop-preserved
loop-drop-preserved c =
    c.loop-drop.invariant
    ∙ named_later c.args.drops.now c.loop-drop.drop-index c.drop-item.result c.args.number
    c.loop-drop-test.true c.drop-item.is c.if-drop-number.false

pub returns : goal.returns
returns c =
    sym (c.loop-drop.invariant
    ∙ named_none c.args.drops.now c.loop-drop.drop-index c.args.number (omega arith))

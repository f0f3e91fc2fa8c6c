use Rattle.std.proofs.Common.{arith}
use Rattle.traffic_cop.proofs.FeedingLemmas.{place-here, place-later, place-within}
use Rattle.traffic_cop.proofs.feeding.place_named.Goals as goal

pub returns-then-drop-number : goal.returns-then-drop-number
returns-then-drop-number c =
    place-here c.args.drops.now c.loop-i.i c.index-drops-i.result c.args.number c.loop-i-test.true
    c.index-drops-i.is c.if-drop-number.true c.loop-i.invariant

pub loop-i-preserved : goal.loop-i-preserved
loop-i-preserved c =
    place-later c.args.drops.now c.loop-i.i c.index-drops-i.result c.args.number c.loop-i-test.true
    c.index-drops-i.is c.if-drop-number.false c.loop-i.invariant

pub unreachable-requires : goal.unreachable-requires
unreachable-requires c =
    let within = place-within c.args.drops.now c.args.number c.requires in
    absurd (omega (arith, within, c.loop-i.invariant, c.loop-i-test.false))

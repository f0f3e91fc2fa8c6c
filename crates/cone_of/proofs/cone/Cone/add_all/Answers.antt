use Rattle.cone_of.proofs.Forced.{adds-more}
use Rattle.cone_of.proofs.cone.Cone.add_all.Goals as goal

pub loop-at-preserved : goal.loop-at-preserved
loop-at-preserved c =
    adds-more c.args.refs.now c.loop-at.at-index _ c.args.self.now c.loop-at.self c.add.new.self
    c.loop-at-test.true c.in_ok-add.ensures c.loop-at.invariant

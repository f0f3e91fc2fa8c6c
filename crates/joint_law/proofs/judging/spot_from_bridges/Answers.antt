use Rattle.std.proofs.Common.{subst}
use Rattle.joint_law.specs.AllCourses.{BridgesEnd}
use Rattle.joint_law.proofs.Verdicts.{bridge-found}
use Rattle.joint_law.proofs.judging.spot_from_bridges.Goals as goal

pub returns-in_ok-spot-in-Breaks : goal.returns-in_ok-spot-in-Breaks
returns-in_ok-spot-in-Breaks c =
    bridge-found c.args.plant.now c.args.scans c.args.joint.now c.in-Breaks.left c.in-Breaks.place
    c.in_ok-spot-in-Breaks.spot
    (subst (BridgesEnd c.args.plant.now c.args.scans c.args.joint.now) c.in-Breaks.is
    c.in_ok-left.ensures) c.in_ok-spot-in-Breaks.ensures

pub spot_from_rings-requires-clause-bridges_legal :
    goal.spot_from_rings-requires-clause-bridges_legal
spot_from_rings-requires-clause-bridges_legal c =
    subst (BridgesEnd c.args.plant.now c.args.scans c.args.joint.now) c.in-Whole.is
    c.in_ok-left.ensures

pub returns-in-Whole : goal.returns-in-Whole
returns-in-Whole c = c.spot_from_rings.ensures

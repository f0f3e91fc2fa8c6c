use Rattle.std.proofs.Common.{sym, subst}
use Rattle.joint_law.specs.AllCourses.{AreDone, AreHostsDone, RingsEnd}
use Rattle.joint_law.proofs.Verdicts.{ring-found}
use Rattle.joint_law.proofs.judging.spot_from_rings.Goals as goal

pub spot_from_laws-requires-clause-legal : goal.spot_from_laws-requires-clause-legal
spot_from_laws-requires-clause-legal c = record {
  controllers = c.requires.legal;
  hosts = c.requires.hosts_legal;
  bridges = c.requires.bridges_legal;
  rings = subst (RingsEnd c.args.plant.now c.args.scans c.args.joint.now) c.in-Whole.is
      c.in_ok-network.ensures;
}

pub spot_from_laws-requires-clause-followed : goal.spot_from_laws-requires-clause-followed
spot_from_laws-requires-clause-followed c = record {
  done = subst (AreDone c.args.plant.now c.args.scans c.args.joint.now) (sym c.as_slice.ensures)
      c.requires.done;
  hosts = subst (AreHostsDone c.args.plant.now c.args.joint.now)
      (sym c.as_slice-in-Whole.ensures) c.requires.hosts;
}

pub returns-in_ok-spot-in-Breaks : goal.returns-in_ok-spot-in-Breaks
returns-in_ok-spot-in-Breaks c =
    ring-found c.args.plant.now c.args.scans c.args.joint.now c.in-Breaks.network c.in-Breaks.place
    c.in_ok-spot-in-Breaks.spot
    (subst (RingsEnd c.args.plant.now c.args.scans c.args.joint.now) c.in-Breaks.is
    c.in_ok-network.ensures) c.in_ok-spot-in-Breaks.ensures

use Rattle.joint_law.proofs.judging.spot_from_hosts.Goals as goal

pub returns-in-Whole : goal.returns-in-Whole
returns-in-Whole c = c.spot_from_bridges.ensures

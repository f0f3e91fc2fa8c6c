use Rattle.joint_law.proofs.Agreeing.{agree}
use Rattle.joint_law.proofs.laws.verdicts_agree.Goals as goal

pub returns : goal.returns
returns c = agree c.fronts_are_legal.ensures

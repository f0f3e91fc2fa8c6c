use Rattle.joint_law.proofs.CourseEnds.{BridgesLegal}
use Rattle.joint_law.proofs.courses.bridges_course.Given as goal

abbrev pub invariant-loop-at : goal.invariant-loop-at
invariant-loop-at l = BridgesLegal l.plans l.logs l.at

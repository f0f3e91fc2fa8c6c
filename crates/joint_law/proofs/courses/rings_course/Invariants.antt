use Rattle.joint_law.proofs.CourseEnds.{RingsLegal}
use Rattle.joint_law.proofs.courses.rings_course.Given as goal

abbrev pub invariant-loop-at : goal.invariant-loop-at
invariant-loop-at l = RingsLegal l.plans l.logs l.at

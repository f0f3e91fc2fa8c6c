-- The joint history of a task is legal for the most scans.
use Rattle.std.proofs.Common.{ℕ, Bool, true, false, List}
use Rattle.plant_types.specs.declared.plan.Plant.{Plant}
use Rattle.joint_history.specs.declared.joint.Joint.{Joint}
use Rattle.joint_history.specs.declared.noted.Noted.{Noted}
use Rattle.joint_history.specs.JointLaws.{IsLegalJoint, most_scans}
use Rattle.command_answers.specs.declared.judging.Judged.TheVariants.{Whole}
use Rattle.command_words.specs.Words.{IsNumberOfScans}
use Rattle.command_answers.specs.Due.{IsFound, IsHistory}
use Rattle.command_answers.proofs.MoreScans.{joint_more}

-- what a task is about is legal
found-whole : (reads : Bool) (plant : Plant) (scans : ℕ) (behind : List ℕ) (joint : Joint)
    → IsHistory reads plant scans behind joint
    → IsLegalJoint plant scans joint
found-whole true plant scans behind joint found = found.whole.legal
found-whole false plant scans behind joint found = found.whole.legal

-- also for the most scans
pub found_legal : (reads : Bool) (plant : Plant) (scans : ℕ) (behind : List ℕ) (noted : Noted)
    → IsNumberOfScans scans → IsFound reads plant scans behind (Whole noted)
    → IsLegalJoint plant most_scans noted.joint
found_legal reads plant scans behind noted within found =
    joint_more plant scans most_scans noted.joint within.to
    (found-whole reads plant scans behind noted.joint found.0)

-- That a joint history has one verdict. This project's own.
use Rattle.std.specs.Prelude.{◌≡◌, ℕ}
use Rattle.plant_types.specs.declared.plan.Plant.{Plant}
use Rattle.plant_types.specs.Plans.{IsPlant}
use Rattle.joint_history.specs.declared.joint.Joint.{Joint}
use Rattle.joint_law.specs.Spots.{IsVerdict}
use Rattle.joint_law.specs.declared.verdict.Verdict.{Verdict}

-- Two verdicts on one joint history are one: its spot is the only one.
abbrev pub VerdictsAgree : Type 0
VerdictsAgree = (plant : Plant) (scans : ℕ) (joint : Joint) (one other : Verdict) → IsPlant plant
    → IsVerdict plant scans joint one → IsVerdict plant scans joint other → one ≡ other

-- What a judge says with the notes of the controllers. This project's own.
use Rattle.std.specs.Prelude.{◌≡◌, ℕ}
use Rattle.plant_types.specs.declared.plan.Plant.{Plant}
use Rattle.joint_history.specs.declared.joint.Joint.{Joint}
use Rattle.joint_history.specs.Noted.{notes_in}
use Rattle.joint_law.specs.Spots.{IsVerdict}
use Rattle.joint_law.specs.declared.verdict.Judgement.{Judgement}
use Rattle.joint_law.specs.declared.verdict.Judgement.TheVariants as judged
use Rattle.joint_law.specs.declared.verdict.Verdict.{Verdict}
use Rattle.joint_law.specs.declared.verdict.Verdict.TheVariants.{Legal, Illegal}

-- The verdict of a judgement.
abbrev pub verdict_of : Judgement → Verdict
verdict_of (judged.Legal notes) = Legal
verdict_of (judged.Illegal spot) = Illegal spot

-- Where it is Legal it has what each controller noted of its panel.
abbrev pub HasNotes : Plant → Joint → Judgement → Type 0
HasNotes plant joint (judged.Legal notes) = notes ≡ notes_in plant joint
HasNotes plant joint (judged.Illegal spot) = Unit {0}

-- A judgement says what its verdict says, and has the notes where that is Legal.
pub record IsJudgement (plant : Plant) (scans : ℕ) (joint : Joint) (made : Judgement) : Type 0
  where
    pub verdict : IsVerdict plant scans joint (verdict_of made)
    pub notes : HasNotes plant joint made

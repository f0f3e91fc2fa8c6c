-- Which joint histories have a journal. This project's own.
use Rattle.std.specs.Prelude.{◌≡◌, ℕ, List, ◌++◌}
use Rattle.plant_types.specs.declared.plan.Plant.{Plant}
use Rattle.plant_types.specs.Plans.{IsPlant}
use Rattle.joint_history.specs.declared.joint.Joint.{Joint}
use Rattle.joint_history.specs.JointLaws.{IsLegalJoint}
use Rattle.journal_text.specs.Journal.{IsPlain}
use Rattle.journal_text.specs.Fronts.{IsJournalOf}

-- The legal ones of a plant are plain.
abbrev pub LegalIsPlain : Type 0
LegalIsPlain = (plant : Plant) (scans : ℕ) (joint : Joint) → IsPlant plant
    → IsLegalJoint plant scans joint → IsPlain joint

-- One text is the journal of one plain joint history.
abbrev pub OneHistoryOfAText : Type 0
OneHistoryOfAText =
    (one other : Joint) (bytes : List ℕ) → IsJournalOf one bytes → IsJournalOf other bytes
    → one ≡ other

-- Bytes have one journal in front: where two journals begin the same bytes, they tell one joint
-- history, and the same stands after them.
abbrev pub OneJournalInFront : Type 0
OneJournalInFront =
    (one other : Joint) (front other_front behind other_behind : List ℕ)
    → IsJournalOf one front → IsJournalOf other other_front
    → front ++ behind ≡ other_front ++ other_behind
    → (one ≡ other) × (behind ≡ other_behind)

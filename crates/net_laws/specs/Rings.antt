-- What a node noted, and the ring of its network. This project's own.
use Rattle.std.specs.Prelude.{◌≡◌, ℕ}
use Rattle.plant_types.specs.declared.plan.Plant.{Plant}
use Rattle.plant_types.specs.Plans.{IsPlant, net_of}
use Rattle.joint_history.specs.TiedLists.{own}
use Rattle.joint_history.specs.declared.joint.Joint.{Joint}
use Rattle.joint_history.specs.JointLaws.{IsLegalJoint}
use Rattle.joint_history.specs.Nets.{noted_on, noted_on_rings}

-- All that a node noted on any ring of a plant's joint history it noted on its network's ring.
abbrev pub OwnEntriesAreOnOwnRing : Type 0
OwnEntriesAreOnOwnRing = (plant : Plant) (scans : ℕ) (joint : Joint) (node : ℕ) → IsPlant plant
    → IsLegalJoint plant scans joint
    → own node (noted_on_rings joint) ≡ own node (noted_on (net_of plant node).number joint)

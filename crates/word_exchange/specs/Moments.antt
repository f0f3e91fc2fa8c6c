-- How joint histories go on from moment to moment. All of it is this project's own.
use Rattle.std.specs.Prelude.{◌≡◌, ℕ, List, ◌++◌, map}
use Rattle.plant_types.specs.declared.plan.Plant.{Plant}
use Rattle.plant_types.specs.Plans.{controller_nodes}
use Rattle.ring_core.specs.declared.entry.RingEntry.{RingEntry}
use Rattle.controller_core.specs.declared.entry.Entry.{Entry}
use Rattle.joint_history.specs.declared.joint.ControllerLog.{ControllerLog}
use Rattle.joint_history.specs.declared.joint.Joint.{Joint}
use Rattle.joint_history.specs.Nets.{noted_on}
use Rattle.serial_feed.specs.SerialRuns.{IsRepetition}
use Rattle.word_exchange.specs.Words.{entries_of}

-- The node of a log.
abbrev pub node_of_log : ControllerLog → ℕ
node_of_log log = log.node

-- A joint history goes on from another one: the list of each controller and that of each ring are
-- there, and more may have come to them.
pub record JointGoesOn (old new : Joint) : Type 0 where
  pub nodes : map node_of_log new.controllers ≡ map node_of_log old.controllers
  pub entries : (node : ℕ)
      → (more : List Entry) × (entries_of node new ≡ entries_of node old ++ more)
  pub rings : (network : ℕ)
      → (more : List RingEntry) × (noted_on network new ≡ noted_on network old ++ more)

-- Repetitions go on: of a joint history that has a list for each controller of the plant, each
-- makes one that goes on from it.
abbrev pub RepetitionsGoOn : Type 0
RepetitionsGoOn =
    (plant : Plant) (scans : ℕ) (old new : Joint)
    → map node_of_log old.controllers ≡ controller_nodes plant → IsRepetition plant scans old new
    → JointGoesOn old new

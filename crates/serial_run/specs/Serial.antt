-- The serial run of a plant. This project's own.
use Rattle.std.specs.Prelude.{◌≡◌, ℕ, Bool, true, false, ◌&&◌, List, [], ◌∷◌, length, map}
use Rattle.std.specs.Prelude.{replicate}
use Rattle.std.specs.List.{count_by, list_all}
use Rattle.plant_types.specs.declared.net.BridgePlan.{BridgePlan}
use Rattle.plant_types.specs.declared.net.HostPlan.{HostPlan}
use Rattle.plant_types.specs.declared.net.NetPlan.{NetPlan}
use Rattle.plant_types.specs.declared.plan.ControllerPlan.{ControllerPlan}
use Rattle.plant_types.specs.declared.plan.Plant.{Plant}
use Rattle.plant_types.specs.Plans.{first_net, net_of}
use Rattle.ring_core.specs.declared.entry.RingEntry.{RingEntry}
use Rattle.joint_history.specs.declared.joint.ControllerLog.{ControllerLog}
use Rattle.joint_history.specs.declared.joint.Joint.{Joint}
use Rattle.joint_history.specs.JointLaws.{fixed_of, logged}
use Rattle.joint_history.specs.Nets.{noted_on}
use Rattle.joint_history.specs.Reading.{controller_at, has_ended_at, is_off_at}
use Rattle.whole_scan.specs.Scans.{with_scan}
use Rattle.ring_core.specs.Machine.{is_in}
use Rattle.tied_lists.specs.Waits.{status_at}
use Rattle.bridge_station.specs.TurnLaws.{is_out_of_ring}
use Rattle.serial_run.specs.declared.order.Turn.{Turn}
use Rattle.serial_run.specs.declared.order.Turn.TheVariants.{Hold, Visit, Away}
use Rattle.serial_run.specs.Turns.{nothing_made, MakesTurns}

-- A controller's list after its next whole scan, or after the part of it up to a stop.
abbrev pub log_with_scan : Plant → ℕ → ControllerPlan × ControllerLog → ControllerLog
log_with_scan plant scans of = record {
  node = of.1.node;
  entries = with_scan (controller_at (fixed_of plant scans of.0) of.1.entries);
}

-- Each controller whose scans are not gone made one.
abbrev pub scanned : Plant → ℕ → Joint → Joint
scanned plant scans joint =
    record joint { controllers = map (log_with_scan plant scans) (logged plant joint) }

-- The scans of all controllers are gone, or they have stopped.
abbrev pub log_has_ended : Plant → ℕ → ControllerPlan × ControllerLog → Bool
log_has_ended plant scans of = has_ended_at (fixed_of plant scans of.0) of.1.entries

abbrev pub all_have_ended : Plant → ℕ → Joint → Bool
all_have_ended plant scans joint = list_all (log_has_ended plant scans) (logged plant joint)

-- How many members of a network are in its ring after these entries.
abbrev pub members_on : NetPlan → List RingEntry → ℕ
members_on net ring = count_by (λ node. is_in (status_at net ring node)) net.members

-- A node is gone from the ring of its network; or it is away, and this keeps it away.
abbrev pub node_is_out : Plant → Joint → Bool → ℕ → ℕ → Bool
node_is_out plant joint stays network node =
    is_out_of_ring stays (status_at (net_of plant node) (noted_on network joint) node)

-- Each node is gone; or it is away, and its controller has no power.
abbrev pub log_is_out : Plant → ℕ → Joint → ControllerPlan × ControllerLog → Bool
log_is_out plant scans joint of =
    node_is_out plant joint (is_off_at (fixed_of plant scans of.0) of.1.entries) of.0.network
    of.0.node

abbrev pub host_is_out : Plant → Joint → HostPlan → Bool
host_is_out plant joint plan = node_is_out plant joint false plan.network plan.node

abbrev pub bridge_is_out : Plant → Joint → BridgePlan → Bool
bridge_is_out plant joint plan =
    node_is_out plant joint false plan.left_net plan.left
    && node_is_out plant joint false plan.right_net plan.right

abbrev pub stations_are_out : Plant → ℕ → Joint → Bool
stations_are_out plant scans joint =
    list_all (log_is_out plant scans joint) (logged plant joint)
    && list_all (host_is_out plant joint) plant.hosts

abbrev pub bridges_are_out : Plant → Joint → Bool
bridges_are_out plant joint = list_all (bridge_is_out plant joint) plant.bridges

abbrev pub all_are_out : Plant → ℕ → Joint → Bool
all_are_out plant scans joint =
    stations_are_out plant scans joint && bridges_are_out plant joint

-- The away turns of all controllers, in rising address; those that are not away, or have no power,
-- do nothing.
abbrev pub away_turns_of : Plant → List Turn
away_turns_of plant = map (λ plan. Away plan.node) plant.controllers

-- The visits of all controllers, in rising address; those that are not due do nothing.
abbrev pub visits_of : Plant → List Turn
visits_of plant = map (λ plan. Visit plan.node) plant.controllers

-- A round of a network: as many hold turns as its ring has members at its beginning.
abbrev pub MakesRoundOn : Plant → ℕ → NetPlan → Joint → Joint → Type 0
MakesRoundOn plant scans net old new =
    MakesTurns plant scans
    (replicate (members_on net (noted_on net.number old)) (Hold net.number)) old new

-- Rounds of these networks, one after another.
abbrev pub MakesRoundOfEach : Plant → ℕ → List NetPlan → Joint → Joint → Type 0
MakesRoundOfEach plant scans [] old new = new ≡ old
MakesRoundOfEach plant scans (net ∷ nets) old new =
    (next : Joint) × MakesRoundOn plant scans net old next
    × MakesRoundOfEach plant scans nets next new

-- A round: one of each network, in rising number.
abbrev pub MakesRound : Plant → ℕ → Joint → Joint → Type 0
MakesRound plant scans old new = MakesRoundOfEach plant scans plant.nets old new

-- By way of these joint histories, each of which came of the one before, to the last.
abbrev pub IsChain : (Joint → Joint → Type 0) → Joint → List Joint → Joint → Type 0
IsChain came old [] new = new ≡ old
IsChain came old (next ∷ rest) new = came old next × IsChain came next rest new

-- A number of rounds, one after another.
pub record MakesRounds (plant : Plant) (scans count : ℕ) (old new : Joint) : Type 0 where
  pub behind_each : List Joint
  pub many : length behind_each ≡ count
  pub rounds : IsChain (MakesRound plant scans) old behind_each new

-- A repetition, as long as scans are left to a controller: the scans, the away turns, the visits,
-- and as many rounds as the first network has rotations.
pub record IsRepetition (plant : Plant) (scans : ℕ) (old new : Joint) : Type 0 where
  pub goes_on : all_have_ended plant scans old ≡ false
  pub came_back : Joint
  pub away_turns : MakesTurns plant scans (away_turns_of plant) (scanned plant scans old) came_back
  pub visited : Joint
  pub visits : MakesTurns plant scans (visits_of plant) came_back visited
  pub rounds : MakesRounds plant scans (first_net plant).rotations visited new

-- A round after the repetitions, as long as a node is not out of its ring.
pub record IsLateRound (plant : Plant) (scans : ℕ) (old new : Joint) : Type 0 where
  pub goes_on : all_are_out plant scans old ≡ false
  pub round : MakesRound plant scans old new

-- Repetitions until all controllers have ended.
pub record Repeats (plant : Plant) (scans : ℕ) (old new : Joint) : Type 0 where
  pub behind_each : List Joint
  pub repetitions : IsChain (IsRepetition plant scans) old behind_each new
  pub ended : all_have_ended plant scans new ≡ true

-- Rounds until every node is out of its ring.
pub record MakesLateRounds (plant : Plant) (scans : ℕ) (old new : Joint) : Type 0 where
  pub behind_each : List Joint
  pub rounds : IsChain (IsLateRound plant scans) old behind_each new
  pub out : all_are_out plant scans new ≡ true

-- The last part of the serial run: rounds until every node is out of its ring, and then the visits.
pub record Finishes (plant : Plant) (scans : ℕ) (old new : Joint) : Type 0 where
  pub emptied : Joint
  pub rounds : MakesLateRounds plant scans old emptied
  pub visits : MakesTurns plant scans (visits_of plant) emptied new

-- The serial run: repetitions until all scans are gone, rounds until every node is gone or away
-- without power, and the last visits.
pub record IsSerial (plant : Plant) (scans : ℕ) (joint : Joint) : Type 0 where
  pub ended_joint : Joint
  pub repeats : Repeats plant scans (nothing_made plant) ended_joint
  pub finishes : Finishes plant scans ended_joint joint

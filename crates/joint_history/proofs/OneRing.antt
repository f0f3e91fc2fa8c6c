-- Joint histories with one ring.
use Rattle.std.proofs.Common.{List, [], ◌∷◌}
use Rattle.plant_types.specs.declared.net.NetPlan.{NetPlan}
use Rattle.ring_core.specs.declared.entry.RingEntry.{RingEntry}
use Rattle.joint_history.specs.declared.joint.ControllerLog.{ControllerLog}
use Rattle.joint_history.specs.declared.joint.RingLog.{RingLog}
use Rattle.joint_history.specs.declared.joint.Joint.{Joint}

-- the ring of a network
abbrev pub ring_log : NetPlan → List RingEntry → RingLog
ring_log net ring = record { network = net.number; entries = ring }

-- controllers that one ring joins, whose network has no number
abbrev pub on_one_ring : List ControllerLog → List RingEntry → Joint
on_one_ring controllers ring = record {
  controllers = controllers;
  hosts = [];
  bridges = [];
  rings = record { network = 0; entries = ring } ∷ [];
}

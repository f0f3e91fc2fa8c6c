-- What numbers and lists a joint history can have: those of its types. This project's own.
use Rattle.std.specs.List.{All}
use Rattle.joint_history.specs.declared.joint.ControllerLog.{ControllerLog}
use Rattle.joint_history.specs.declared.joint.HostLog.{HostLog}
use Rattle.joint_history.specs.declared.joint.BridgeLog.{BridgeLog}
use Rattle.joint_history.specs.declared.joint.RingLog.{RingLog}
use Rattle.joint_history.specs.declared.joint.Joint.{Joint}
use Rattle.journal_lines.specs.Sizes.{IsSmall, FitsEntry, FitsHostEntry, FitsBridgeEntry}
use Rattle.journal_lines.specs.Sizes.{FitsRingEntry}

-- A joint history with numbers and lists of its types.
abbrev pub FitsLog : ControllerLog → Type 0
FitsLog log = IsSmall log.node × All FitsEntry log.entries

abbrev pub FitsHostLog : HostLog → Type 0
FitsHostLog log = IsSmall log.node × All FitsHostEntry log.entries

abbrev pub FitsBridgeLog : BridgeLog → Type 0
FitsBridgeLog log = IsSmall log.left × IsSmall log.right × All FitsBridgeEntry log.entries

abbrev pub FitsRingLog : RingLog → Type 0
FitsRingLog log = IsSmall log.network × All FitsRingEntry log.entries

pub record FitsJoint (joint : Joint) : Type 0 where
  pub controllers : All FitsLog joint.controllers
  pub hosts : All FitsHostLog joint.hosts
  pub bridges : All FitsBridgeLog joint.bridges
  pub rings : All FitsRingLog joint.rings

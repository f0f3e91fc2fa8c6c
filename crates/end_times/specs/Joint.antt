-- Bridges of a joint history in time with the nodes of their ends. This project's own.
use Rattle.std.specs.Prelude.{List}
use Rattle.std.specs.List.{All}
use Rattle.ring_core.specs.declared.entry.RingEntry.{RingEntry}
use Rattle.bridge_port.specs.CommPort.{noted_on_rings, BridgeLog, Joint}
use Rattle.end_times.specs.EndTimes.{IsEndInTime}

-- A bridge's list is in time, for each of its two ends, with what that end's node did.
pub record IsBridgeInTime (ring : List RingEntry) (log : BridgeLog) : Type 0 where
  pub left : IsEndInTime log.left log.entries ring
  pub right : IsEndInTime log.right log.entries ring

-- Each bridge of a joint history is in time with the nodes of its ends, on all rings.
abbrev pub AreBridgesInTime : Joint → Type 0
AreBridgesInTime joint = All (IsBridgeInTime (noted_on_rings joint)) joint.bridges

-- How often the request of another node was served. This project's own.
use Rattle.std.specs.Prelude.{ℕ, ◌+◌, ◌==◌, ◌&&◌, not, Bool, false}
use Rattle.std.specs.List.{count_by, sum_by}
use Rattle.mstr_block.specs.Call.{is_same_call}
use Rattle.mstr_block.specs.declared.call.CallId.{CallId}
use Rattle.ring_core.specs.declared.entry.RingEntry.{RingEntry}
use Rattle.ring_core.specs.declared.entry.RingEntry.TheVariants.{Local}
use Rattle.joint_history.specs.declared.joint.ControllerLog.{ControllerLog}
use Rattle.joint_history.specs.declared.joint.HostLog.{HostLog}
use Rattle.joint_history.specs.declared.joint.Joint.{Joint}
use Rattle.joint_history.specs.Effects.{answers_to}
use Rattle.joint_history.specs.Reading.{items_of, host_items_of}
use Rattle.joint_history.specs.Nets.{noted_on_rings}

-- A node's own port did what a call of another node asks.
abbrev pub serves_another : CallId → RingEntry → Bool
serves_another id (Local n name op result) = is_same_call name id && not (name.node == n)
serves_another id _ = false

-- How often the request of a call was served: by controllers, by hosts, and by own ports.
abbrev pub services : Joint → CallId → ℕ
services joint id =
    (sum_by (λ (log : ControllerLog). answers_to id (items_of log.entries)) joint.controllers
    + sum_by (λ (log : HostLog). answers_to id (host_items_of log.entries)) joint.hosts)
    + count_by (serves_another id) (noted_on_rings joint)

-- How often a call took effect. This project's own.
use Rattle.std.specs.Prelude.{ℕ, ◌+◌, Bool, true, false, ◌&&◌, List, Option, Some, None}
use Rattle.std.specs.List.{count_by, sum_by}
use Rattle.mstr_block.specs.Call.{is_same_call}
use Rattle.mstr_block.specs.declared.call.CallId.{CallId}
use Rattle.ring_core.specs.declared.entry.RingEntry.{RingEntry}
use Rattle.ring_core.specs.declared.entry.RingEntry.TheVariants.{Local}
use Rattle.tied_lists.specs.Items.{Answered, Items}
use Rattle.joint_history.specs.declared.joint.ControllerLog.{ControllerLog}
use Rattle.joint_history.specs.declared.joint.HostLog.{HostLog}
use Rattle.joint_history.specs.declared.joint.Joint.{Joint}
use Rattle.joint_history.specs.Nets.{noted_on_rings}
use Rattle.joint_history.specs.Reading.{items_of, host_items_of}

-- What was answered with a reply; a request that came without power was not, and had no effect.
abbrev pub has_reply : Option (List ℕ) → Bool
has_reply None = false
has_reply (Some reply) = true

-- A station answered the request of a call, with a reply.
abbrev pub answers : CallId → Answered → Bool
answers id answer = is_same_call answer.id id && has_reply answer.reply

-- How often a station answered a call.
abbrev pub answers_to : CallId → Items → ℕ
answers_to id items = count_by (answers id) items.answers

-- An entry of the ring by which a node's own port did what a call asks.
abbrev pub does_locally : CallId → RingEntry → Bool
does_locally id (Local n name op result) = is_same_call name id
does_locally id _ = false

-- How often a call took effect: at a controller, at a host, or at a node's own port.
abbrev pub effects : Joint → CallId → ℕ
effects joint id =
    sum_by (λ (log : ControllerLog). answers_to id (items_of log.entries)) joint.controllers
    + sum_by (λ (log : HostLog). answers_to id (host_items_of log.entries)) joint.hosts
    + count_by (does_locally id) (noted_on_rings joint)

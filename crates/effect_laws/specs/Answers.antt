-- Which node answers a call, and with what. This project's own.
use Rattle.std.specs.Prelude.{◌≡◌, ◌⊎◌, ℕ, List, Some, Contains}
use Rattle.mstr_block.specs.declared.call.CallId.{CallId}
use Rattle.mstr_block.specs.declared.call.MstrResult.{MstrResult}
use Rattle.ring_core.specs.declared.entry.LocalOp.{LocalOp}
use Rattle.ring_core.specs.declared.entry.RingEntry.TheVariants.{Local}
use Rattle.controller_core.specs.declared.entry.Entry.TheVariants.{Peer}
use Rattle.host_port.specs.declared.entry.HostEntry.TheVariants.{Served}
use Rattle.tied_lists.specs.Items.{request_of, reply_of}
use Rattle.joint_history.specs.declared.joint.ControllerLog.{ControllerLog}
use Rattle.joint_history.specs.declared.joint.HostLog.{HostLog}
use Rattle.joint_history.specs.declared.joint.Joint.{Joint}
use Rattle.joint_history.specs.Nets.{noted_on_rings}

-- A node answered the request of a call with this reply: its controller or its host did, or its own
-- port, which was asked for statistics or to clear them.
abbrev pub ControllerAnswers : Joint → ℕ → CallId → List ℕ → List ℕ → Type 0
ControllerAnswers joint n id request reply =
    (log : ControllerLog) × Contains joint.controllers log
    × (log.node ≡ n) × Contains log.entries (Peer id request reply)

abbrev pub HostAnswers : Joint → ℕ → CallId → List ℕ → List ℕ → Type 0
HostAnswers joint n id request reply =
    (log : HostLog) × Contains joint.hosts log
    × (log.node ≡ n) × Contains log.entries (Served id request reply)

abbrev pub PortAnswers : Joint → ℕ → CallId → List ℕ → List ℕ → Type 0
PortAnswers joint n id request reply =
    (op : LocalOp) × (result : MstrResult) × Contains (noted_on_rings joint) (Local n id op result)
    × (request_of op ≡ Some request) × (reply_of result ≡ reply)

abbrev pub NodeAnswers : Joint → ℕ → CallId → List ℕ → List ℕ → Type 0
NodeAnswers joint n id request reply =
    ControllerAnswers joint n id request reply
    ⊎ (HostAnswers joint n id request reply ⊎ PortAnswers joint n id request reply)

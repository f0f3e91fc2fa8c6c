-- At which nodes a call takes effect. This project's own.
use Rattle.std.specs.Prelude.{◌≡◌, ℕ, ◌≤◌, ◌⊎◌, Contains}
use Rattle.mstr_block.specs.declared.call.CallId.{CallId}
use Rattle.mstr_block.specs.declared.call.MstrResult.{MstrResult}
use Rattle.ring_core.specs.declared.entry.LocalOp.{LocalOp}
use Rattle.ring_core.specs.declared.entry.RingEntry.TheVariants.{Local}
use Rattle.joint_history.specs.declared.joint.ControllerLog.{ControllerLog}
use Rattle.joint_history.specs.declared.joint.HostLog.{HostLog}
use Rattle.joint_history.specs.declared.joint.Joint.{Joint}
use Rattle.joint_history.specs.Effects.{answers_to}
use Rattle.joint_history.specs.Reading.{items_of, host_items_of}
use Rattle.joint_history.specs.Nets.{noted_on_rings}

-- A call took effect at a node: the controller or the host there answered its request, or the
-- node's own port did what it asks.
abbrev pub ControllerServes : Joint → CallId → ℕ → Type 0
ControllerServes joint id n =
    (log : ControllerLog) × Contains joint.controllers log
    × (log.node ≡ n) × (1 ≤ answers_to id (items_of log.entries))

abbrev pub HostServes : Joint → CallId → ℕ → Type 0
HostServes joint id n =
    (log : HostLog) × Contains joint.hosts log
    × (log.node ≡ n) × (1 ≤ answers_to id (host_items_of log.entries))

abbrev pub PortActs : Joint → CallId → ℕ → Type 0
PortActs joint id n =
    (op : LocalOp) × (result : MstrResult) × Contains (noted_on_rings joint) (Local n id op result)

abbrev pub TakesEffectAt : Joint → CallId → ℕ → Type 0
TakesEffectAt joint id n =
    ControllerServes joint id n ⊎ (HostServes joint id n ⊎ PortActs joint id n)

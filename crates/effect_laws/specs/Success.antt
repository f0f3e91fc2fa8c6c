-- What it is that a call reports success. This project's own, but for the form of an exception
-- reply.
use Rattle.std.specs.Prelude.{◌≡◌, ◌⊎◌, ℕ, nat_le, Bool, false, List, Contains}
use Rattle.mstr_block.specs.declared.call.CallId.{CallId}
use Rattle.mstr_block.specs.declared.call.MstrResult.TheVariants.{Good}
use Rattle.controller_core.specs.declared.entry.Entry.{Entry}
use Rattle.controller_core.specs.declared.entry.Entry.TheVariants.{Finish}
use Rattle.host_port.specs.declared.entry.HostEntry.{HostEntry}
use Rattle.host_port.specs.declared.entry.HostEntry.TheVariants.{Answer}
use Rattle.host_port.specs.declared.entry.HostResult.TheVariants.{Reply}
use Rattle.reply_laws.specs.Result.{function_in}
use Rattle.joint_history.specs.declared.joint.ControllerLog.{ControllerLog}
use Rattle.joint_history.specs.declared.joint.HostLog.{HostLog}
use Rattle.joint_history.specs.declared.joint.Joint.{Joint}

-- A controller's list tells that a call came to a good result, whatever the words.
abbrev pub FinishesGood : List Entry → CallId → Type 0
FinishesGood entries id = (words : List ℕ) × Contains entries (Finish id (Good words))

-- An exception reply: the highest bit of its function code is set. Modicon Modbus Protocol
-- Reference Guide.
abbrev pub is_exception_reply : List ℕ → Bool
is_exception_reply pdu = nat_le 128 (function_in pdu)

-- A host's list tells that a call was answered with a reply, and that is no exception reply.
abbrev pub AnswersGood : List HostEntry → CallId → Type 0
AnswersGood entries id =
    (pdu : List ℕ) × Contains entries (Answer id (Reply pdu)) × (is_exception_reply pdu ≡ false)

-- One of the controllers tells it.
abbrev pub SucceedsAtController : Joint → CallId → Type 0
SucceedsAtController joint id =
    (log : ControllerLog) × Contains joint.controllers log × FinishesGood log.entries id

-- One of the hosts tells it.
abbrev pub SucceedsAtHost : Joint → CallId → Type 0
SucceedsAtHost joint id = (log : HostLog) × Contains joint.hosts log × AnswersGood log.entries id

-- A call reports success.
abbrev pub ReportsSuccess : Joint → CallId → Type 0
ReportsSuccess joint id = SucceedsAtController joint id ⊎ SucceedsAtHost joint id

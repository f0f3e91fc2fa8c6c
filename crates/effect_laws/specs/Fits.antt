-- What it is that replies fit the requests of controllers. This project's own.
use Rattle.std.specs.Prelude.{◌≢◌, Contains}
use Rattle.mstr_block.specs.declared.call.CallId.{CallId}
use Rattle.mstr_block.specs.declared.call.MstrResult.{MstrResult}
use Rattle.controller_core.specs.declared.entry.Entry.TheVariants.{Finish}
use Rattle.joint_history.specs.declared.joint.ControllerLog.{ControllerLog}
use Rattle.joint_history.specs.declared.joint.Joint.{Joint}
use Rattle.reply_laws.specs.Result.{no_result}

-- No call of a controller ends with the word for a reply that doesn't fit its request.
abbrev pub RepliesFit : Joint → Type 0
RepliesFit joint = (log : ControllerLog) (id : CallId) (result : MstrResult)
    → Contains joint.controllers log → Contains log.entries (Finish id result)
    → result ≢ no_result

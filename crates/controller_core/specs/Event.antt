-- The entries that steps make, and the steps that entries are.
use Rattle.std.specs.Prelude.{ℕ, if◌then◌else◌, List, [], Option, Some, None}
use Rattle.std.specs.List.{filter_map}
use Rattle.plant_types.specs.declared.drops.IoDrop.{IoDrop}
use Rattle.plant_types.specs.Store.{Contents}
use Rattle.scan_order.specs.declared.due.ScanStep.{ScanStep}
use Rattle.scan_order.specs.declared.due.ScanStep.TheVariants as steps
use Rattle.scan_order.specs.Due.{row_of, output_of}
use Rattle.mstr_block.specs.declared.call.CallId.{CallId}
use Rattle.modbus_exec.specs.Answer.{answer_of}
use Rattle.traffic_cop.specs.Drops.{outputs_of}
use Rattle.controller_core.specs.declared.fixed.Fixed.{Fixed}
use Rattle.controller_core.specs.declared.entry.Entry.{Entry}
use Rattle.controller_core.specs.declared.entry.Entry.TheVariants as entries
use Rattle.controller_core.specs.declared.entry.Maker.{Maker}
use Rattle.controller_core.specs.declared.entry.Maker.TheVariants as makers
use Rattle.controller_core.specs.Replay.{ControllerState}

-- The output words of the drop that a row names; none where it names no drop. This project's own.
abbrev pub outputs_to : List IoDrop → Option ℕ → Contents → List ℕ
outputs_to drops None m = []
outputs_to drops (Some drop) m = outputs_of drops drop m

abbrev pub outputs_at : Fixed → ControllerState → ℕ → List ℕ
outputs_at fixed s row =
    outputs_to fixed.plan.drops (output_of (row_of fixed.plan row)) s.solving.map

-- The entry of a step that is made in a state. This project's own.
abbrev pub entry_of : Fixed → ControllerState → ScanStep → Entry
entry_of fixed s steps.Begin = entries.Begin
entry_of fixed s (steps.In row) = entries.Input row
entry_of fixed s (steps.Solve row) = entries.Solve row
entry_of fixed s (steps.Out row) = entries.Output row (outputs_at fixed s row)
entry_of fixed s steps.End = entries.End
entry_of fixed s steps.Fail = entries.Fail
entry_of fixed s steps.Dark = entries.Dark

-- The reply to a request that comes in a state; none where there is no power. This project's own.
abbrev pub reply_in : ControllerState → List ℕ → Option (List ℕ)
reply_in s request =
    if s.powered then Some (answer_of request s.solving.map).reply else None

-- The entry of a request that has this reply or none. This project's own.
abbrev pub peer_entry : CallId → List ℕ → Option (List ℕ) → Entry
peer_entry id request (Some reply) = entries.Peer id request reply
peer_entry id request None = entries.Off id request

-- The step of the scan that an entry is; none of what the communication does. This project's own.
abbrev pub step_of : Entry → Option ScanStep
step_of entries.Begin = Some steps.Begin
step_of (entries.Input row) = Some (steps.In row)
step_of (entries.Solve row) = Some (steps.Solve row)
step_of (entries.Output row words) = Some (steps.Out row)
step_of entries.End = Some steps.End
step_of entries.Fail = Some steps.Fail
step_of entries.Dark = Some steps.Dark
step_of (entries.Collect calls) = None
step_of (entries.Peer id request reply) = None
step_of (entries.Off id request) = None
step_of (entries.Finish id result) = None

-- The steps of the scans in a history. This project's own.
abbrev pub scan_steps : List Entry → List ScanStep
scan_steps history = filter_map step_of history

-- Who makes an entry. This project's own.
abbrev pub maker_of : Entry → Maker
maker_of (entries.Collect calls) = makers.Communication
maker_of (entries.Peer id request reply) = makers.Communication
maker_of (entries.Off id request) = makers.Communication
maker_of (entries.Finish id result) = makers.Communication
maker_of _ = makers.Scan

-- What conducts as the events of a controller are made. This project's own.
use Rattle.std.specs.Prelude.{if◌then◌else◌, Bool, List, [], Option, Some, None}
use Rattle.plant_types.specs.declared.network.Segment.{Segment}
use Rattle.plant_types.specs.declared.plan.OrderRow.{OrderRow}
use Rattle.ladder_solver.specs.declared.note.NetworkFlow.{NetworkFlow}
use Rattle.ladder_solver.specs.Noted.{segment_notes}
use Rattle.scan_order.specs.Due.{row_of}
use Rattle.controller_core.specs.declared.fixed.Fixed.{Fixed}
use Rattle.controller_core.specs.declared.entry.Entry.{Entry}
use Rattle.controller_core.specs.declared.entry.Entry.TheVariants as entries
use Rattle.controller_core.specs.Replay.{ControllerState, control_is_on}
use Rattle.controller_core.specs.Controller.{ControllerIs, due_entry, state_of}

-- What conducts as a row is solved in a state: a note of each network of its segment that is solved,
-- in the order in which they end; none where the row's control is off.
abbrev pub conducted_by_row : List Segment → Option OrderRow → ControllerState → List NetworkFlow
conducted_by_row segments None s = []
conducted_by_row segments (Some row) s =
    if control_is_on s.solving.map row.control
    then segment_notes segments row.segment s.solving
    else []

-- What conducts at an event that is made in a state: a Solve solves its row, and no other event
-- solves.
abbrev pub conducted_at : Fixed → ControllerState → Entry → List NetworkFlow
conducted_at fixed s (entries.Solve row) =
    conducted_by_row fixed.plan.segments (row_of fixed.plan row) s
conducted_at fixed s _ = []

-- What conducts as a controller makes an event, if it makes one.
abbrev pub conducted_if : ControllerIs → Option Entry → List NetworkFlow
conducted_if v None = []
conducted_if v (Some entry) = conducted_at v.fixed (state_of v) entry

-- What conducts as it makes the step that is due.
abbrev pub step_conducts : ControllerIs → List NetworkFlow
step_conducts v = conducted_if v (due_entry v)

-- What conducts as it follows an entry that may come next; nothing does at one that may not.
abbrev pub following_conducts : ControllerIs → Entry → Bool → List NetworkFlow
following_conducts v entry same = if same then conducted_at v.fixed (state_of v) entry else []

-- The state of a controller, what each event does to it, and the state after a history.
use Rattle.std.specs.Prelude.{ℕ, ◌+◌, ◌-◌, ◌==◌, Bool, true, false, List, replicate, Option, Some}
use Rattle.std.specs.Prelude.{None, if◌then◌else◌, fold, slice_index, slice_set}
use Rattle.std.specs.FinSet.{empty}
use Rattle.std.specs.List.{filter_map}
use Rattle.plant_types.specs.declared.reference.Ref.{Ref}
use Rattle.plant_types.specs.declared.element.Element.{Element}
use Rattle.plant_types.specs.declared.element.Element.TheVariants.{Coil}
use Rattle.plant_types.specs.declared.network.Cell.{Cell}
use Rattle.plant_types.specs.declared.network.Segment.{Segment}
use Rattle.plant_types.specs.declared.drops.IoDrop.{IoDrop}
use Rattle.plant_types.specs.declared.plan.OrderRow.{OrderRow}
use Rattle.plant_types.specs.declared.plan.ControllerPlan.{ControllerPlan}
use Rattle.plant_types.specs.Checks.{sizes_of}
use Rattle.plant_types.specs.declared.sizes.Sizes.{Sizes}
use Rattle.plant_types.specs.Discretes.{discretes_on}
use Rattle.plant_types.specs.Plans.{is_routed}
use Rattle.plant_types.specs.Sizes.{cleared, discretes}
use Rattle.plant_types.specs.Standing.{cells_of_segments}
use Rattle.plant_types.specs.Store.{Contents, is_on, with_bit}
use Rattle.ladder_solver.specs.State.{SolveState}
use Rattle.ladder_solver.specs.Numbers.{mstr_blocks}
use Rattle.ladder_solver.specs.Segment.{segment_after}
use Rattle.scan_order.specs.Due.{row_of, input_of}
use Rattle.traffic_cop.specs.Drops.{input_after}
use Rattle.modbus_exec.specs.Answer.{answer_of}
use Rattle.mstr_block.specs.Table.{BlockTable, finished, idle_table, power_failed}
use Rattle.mstr_block.specs.Laws.{collected}
use Rattle.controller_core.specs.declared.fixed.Fixed.{Fixed}
use Rattle.controller_core.specs.declared.entry.Entry.{Entry}
use Rattle.controller_core.specs.declared.entry.Entry.TheVariants as entries

-- The state of a controller: what a solve reads and changes, how many input exchanges each drop
-- had, by its number from 1, how many scans are gone, the code with which it stopped, which is 0
-- while it goes on, whether it has power, and how often that failed. A scan is gone that ended,
-- that failed or that was dark. This project's own.
pub record ControllerState : Type 0 where
  pub solving : SolveState
  pub exchanges : List ℕ
  pub gone : ℕ
  pub stop : ℕ
  pub powered : Bool
  pub failures : ℕ

-- A controller when it starts: each reference is 0 and no discrete was on before, no edge bit is
-- on, all MSTR blocks are idle, with routes over bridges on a network that has a number, the clock
-- stands at 0, nothing was exchanged, it goes on, and it has power. This project's own.
abbrev pub start : ControllerPlan → ControllerState
start plan = record {
  solving = record {
    map = cleared (sizes_of plan);
    past = empty;
    edges = empty;
    table = idle_table plan.node (is_routed plan.network) (mstr_blocks plan.segments);
    clock = record { before = 0; now = 0 };
    left = 0;
  };
  exchanges = replicate 32 0;
  gone = 0;
  stop = 0;
  powered = true;
  failures = 0;
}

-- Begin: the clock goes on by the scan time, and keeps when the scan before began; the watchdog
-- has all its networks. This project's own.
abbrev pub begun : Fixed → SolveState → SolveState
begun fixed s =
    record s {
      clock = record { before = s.clock.now; now = s.clock.now + fixed.scan_time };
      left = fixed.watchdog;
    }

-- Input: the next exchange of the drop that the row names. This project's own.
abbrev pub exchanged : List IoDrop → ℕ → ControllerState → ControllerState
exchanged drops drop s =
    let k = slice_index s.exchanges (drop - 1) + 1 in
    record s {
      solving = record s.solving { map = input_after drops drop k s.solving.map };
      exchanges = slice_set s.exchanges (drop - 1) k;
    }

abbrev pub read_in : List IoDrop → Option ℕ → ControllerState → ControllerState
read_in drops None s = s
read_in drops (Some drop) s = exchanged drops drop s

-- The control of a row is on; a row without one is always solved. Modicon Ladder Logic Block
-- Library User Guide.
abbrev pub control_is_on : Contents → Option Ref → Bool
control_is_on m None = true
control_is_on m (Some at) = is_on m at

-- The code with which the watchdog stops a controller. This project's own.
abbrev pub watchdog_stop : ℕ
watchdog_stop = 1

-- A segment is solved, once as a whole. Where no network is left to the watchdog then, the
-- controller has stopped. This project's own.
abbrev pub segment_solved : List Segment → ℕ → ControllerState → ControllerState
segment_solved segments number s =
    let after = segment_after segments number s.solving in
    record s { solving = after; stop = if after.left == 0 then watchdog_stop else s.stop }

-- Solve: the row's segment where its control is on. This project's own.
abbrev pub solved : List Segment → Option OrderRow → ControllerState → ControllerState
solved segments None s = s
solved segments (Some row) s =
    if control_is_on s.solving.map row.control then segment_solved segments row.segment s else s

-- End: which coils and inputs are on is kept, and transitional contacts of the next scan compare
-- with them. This project's own.
abbrev pub discretes_kept : Sizes → SolveState → SolveState
discretes_kept sizes s = record s { past = discretes_on (discretes sizes s.map) }

-- The coil of a CO, which goes off as power fails; the coil of a CL holds. Modicon Ladder Logic
-- Block Library User Guide.
abbrev pub unlatched_coil : Element → Option Ref
unlatched_coil (Coil at) = Some at
unlatched_coil _ = None

abbrev pub unlatched_coils : List Cell → List Ref
unlatched_coils cells = filter_map (λ cell. unlatched_coil cell.element) cells

-- A store after these coils went off. This project's own.
abbrev pub coils_off : List Ref → Contents → Contents
coils_off coils m = fold (λ n at. with_bit n at false) m coils

-- Fail: the coils of all COs go off, solved or not; then the discretes that are on are kept, as at
-- End; the MSTR blocks give up what they were in the middle of. This project's own.
abbrev pub unpowered : ControllerPlan → SolveState → SolveState
unpowered plan s =
    discretes_kept (sizes_of plan) (record s {
      map = coils_off (unlatched_coils (cells_of_segments plan.segments)) s.map;
      table = power_failed s.table;
    })

-- Peer: the store that the answer to the request leaves. This project's own.
abbrev pub served : List ℕ → ControllerState → ControllerState
served request s =
    record s {
      solving = record s.solving { map = (answer_of request s.solving.map).stored };
    }

-- The table of the MSTR blocks. This project's own.
abbrev pub table_of : ControllerState → BlockTable
table_of s = s.solving.table

abbrev pub with_table : BlockTable → ControllerState → ControllerState
with_table table s = record s { solving = record s.solving { table = table } }

-- What an event does; calls that are collected count as such from then on, and a request that
-- comes where there is no power does nothing. This project's own.
abbrev pub apply : Fixed → ControllerState → Entry → ControllerState
apply fixed s entries.Begin = record s { solving = begun fixed s.solving; powered = true }
apply fixed s (entries.Input row) =
    read_in fixed.plan.drops (input_of (row_of fixed.plan row)) s
apply fixed s (entries.Solve row) = solved fixed.plan.segments (row_of fixed.plan row) s
apply fixed s (entries.Output row words) = s
apply fixed s entries.End = record s {
  solving = discretes_kept (sizes_of fixed.plan) s.solving;
  gone = s.gone + 1;
}
apply fixed s entries.Fail = record s {
  solving = unpowered fixed.plan s.solving;
  gone = s.gone + 1;
  powered = false;
  failures = s.failures + 1;
}
apply fixed s entries.Dark = record s { gone = s.gone + 1 }
apply fixed s (entries.Collect calls) = with_table (collected (table_of s)) s
apply fixed s (entries.Peer id request reply) = served request s
apply fixed s (entries.Off id request) = s
apply fixed s (entries.Finish id result) = with_table (finished id result (table_of s)) s

-- The state after a history: that of all its events, one after another, from the start. This
-- project's own.
abbrev pub replay : Fixed → List Entry → ControllerState
replay fixed history = fold (apply fixed) (start fixed.plan) history

-- What the fields of a machine stand for, and what they keep.
use Rattle.std.specs.Prelude.{◌≡◌, ◌≤◌, ◌<◌, ℕ, ◌+◌, ◌*◌, List, length, slice_index}
use Rattle.std.specs.List.{AllByRecursion}
use Rattle.plant_types.specs.declared.reference.Ref.{Ref}
use Rattle.plant_types.specs.Checks.{sizes_of}
use Rattle.plant_types.specs.Discretes.{discretes_on}
use Rattle.plant_types.specs.Limits.{most_scans, scan_time_limit}
use Rattle.plant_types.specs.PlanTests.{drop_limit}
use Rattle.plant_types.specs.Plans.{is_routed}
use Rattle.plant_types.specs.Standing.{message_limit}
use Rattle.plant_types.specs.declared.sizes.Sizes.{Sizes}
use Rattle.plant_types.specs.Sizes.{cleared, discretes}
use Rattle.plant_types.specs.Store.{Contents, HasDiscrete, Keeps}
use Rattle.ladder_solver.specs.GridCompile.{grids_of}
use Rattle.ladder_solver.specs.Numbers.{mstr_blocks}
use Rattle.ladder_solver.specs.State.{solve_state}
use Rattle.ladder_solver.specs.declared.watch.SolveEnd.{SolveEnd}
use Rattle.ladder_solver.specs.declared.watch.SolveEnd.TheVariants as ends
use Rattle.scan_order.specs.declared.due.ScanStep.{ScanStep}
use Rattle.scan_order.specs.declared.due.ScanStep.TheVariants as steps
use Rattle.traffic_cop.specs.Rows.{IsRunnablePlan}
use Rattle.mstr_block.specs.declared.call.CallId.{CallId}
use Rattle.controller_core.specs.declared.entry.Entry.{Entry}
use Rattle.controller_core.specs.declared.entry.Entry.TheVariants as entries
use Rattle.controller_core.specs.declared.fixed.Fixed.{Fixed}
use Rattle.controller_core.specs.declared.machine.Machine.{Machine}
use Rattle.controller_core.specs.Replay.{ControllerState, apply, exchanged, segment_solved}
use Rattle.controller_core.specs.Replay.{watchdog_stop}

-- A fixed part that can be run: its plan, its scan time, its watchdog and its number of scans.
-- This project's own limits.
pub record IsRunnable (fixed : Fixed) : Type 0 where
  pub plan : IsRunnablePlan fixed.plan
  pub scan_time : fixed.scan_time ≤ scan_time_limit
  pub watchdog : 1 ≤ fixed.watchdog
  pub scans : fixed.scans ≤ most_scans

-- The state that a machine's fields stand for. This project's own.
abbrev pub state_is : Machine → ControllerState
state_is machine = record {
  solving =
      solve_state machine.ram (discretes_on machine.past) machine.ladder.edges machine.bank
      machine.clock machine.watch.left;
  exchanges = machine.exchanges.items;
  gone = machine.gone;
  stop = machine.stop;
  powered = machine.powered;
  failures = machine.failures;
}

-- The discretes of some store with the references of these sizes. This project's own.
pub record IsPast (sizes : Sizes) (past : Contents) : Type 0 where
  pub store : Contents
  pub keeps : Keeps (cleared sizes) store
  pub is : past ≡ discretes sizes store

-- What a machine's fields keep: they are those of its plan, and its stores have all references
-- of it. This project's own.
pub record IsSound (machine : Machine) : Type 0 where
  pub runs : IsRunnable machine.fixed
  pub grids : grids_of machine.fixed.plan.segments ≡ machine.ladder.grids
  pub drops : machine.cop ≡ machine.fixed.plan.drops
  pub keeps : Keeps (cleared (sizes_of machine.fixed.plan)) machine.ram
  pub past : IsPast (sizes_of machine.fixed.plan) machine.past
  pub node : machine.bank.node ≡ machine.fixed.plan.node
  pub routed : machine.bank.routed ≡ is_routed machine.fixed.plan.network
  pub blocks : length machine.bank.blocks ≡ mstr_blocks machine.fixed.plan.segments
  pub few : length machine.bank.blocks ≤ message_limit
  pub exchanges : length machine.exchanges.items ≡ drop_limit

-- A store has each of these coils. This project's own.
abbrev pub HasCoils : Contents → List Ref → Type 0
HasCoils m coils = AllByRecursion (HasDiscrete m) coils

-- The most steps that scans make: 98 in each of 2000. This project's own.
abbrev pub most_steps : ℕ
most_steps = 196000

-- After so many steps the clock and the counts are no further than these can bring them. This
-- project's own.
pub record IsTimely (machine : Machine) (steps : ℕ) : Type 0 where
  pub clock : machine.clock.now ≤ scan_time_limit * steps
  pub exchanges : (i : ℕ) → slice_index machine.exchanges.items i ≤ steps
  pub gone : machine.gone ≤ steps
  pub failures : machine.failures ≤ steps

-- A call does what an event does, once, and keeps what a machine's fields keep. This project's own.
pub record DoesEntry (entry : Entry) (old new : Machine) : Type 0 where
  pub fixed : new.fixed ≡ old.fixed
  pub state : state_is new ≡ apply old.fixed (state_is old) entry
  pub sound : IsSound new
  pub timely : (steps : ℕ) → IsTimely old steps → IsTimely new (steps + 1)

-- A call makes the next exchange of a drop. This project's own.
pub record Exchanges (drop : ℕ) (old new : Machine) : Type 0 where
  pub fixed : new.fixed ≡ old.fixed
  pub state : state_is new ≡ exchanged old.fixed.plan.drops drop (state_is old)
  pub sound : IsSound new
  pub timely : (steps : ℕ) → IsTimely old steps → IsTimely new (steps + 1)

-- A call solves a segment. This project's own.
pub record Solves (segment : ℕ) (old new : Machine) : Type 0 where
  pub fixed : new.fixed ≡ old.fixed
  pub state : state_is new ≡ segment_solved old.fixed.plan.segments segment (state_is old)
  pub clock : new.clock ≡ old.clock
  pub sound : IsSound new

-- The stop code after the solve of a segment. This project's own.
abbrev pub stop_by : SolveEnd → ℕ → ℕ
stop_by ends.Done stop = stop
stop_by ends.Watchdog stop = watchdog_stop

-- A step that solves has networks left to the watchdog. This project's own.
abbrev pub CanSolve : ScanStep → Machine → Type 0
CanSolve (steps.Solve row) machine = 0 < machine.watch.left
CanSolve _ machine = Unit {0}

-- A call does what an event of the communication does, once, and keeps what a machine's fields
-- keep; no step of a scan goes by. This project's own.
pub record Tells (entry : Entry) (old new : Machine) : Type 0 where
  pub fixed : new.fixed ≡ old.fixed
  pub state : state_is new ≡ apply old.fixed (state_is old) entry
  pub sound : IsSound new
  pub timely : (steps : ℕ) → IsTimely old steps → IsTimely new steps

-- A call answers a request, whoever asked, and whatever is told as its reply. This project's own.
abbrev pub AnswersRequest : List ℕ → Machine → Machine → Type 0
AnswersRequest request old new =
    (id : CallId) (reply : List ℕ) → Tells (entries.Peer id request reply) old new

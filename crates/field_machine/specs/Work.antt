-- A controller that makes scan after scan, each from the state of a key. All of it is this
-- project's own.
use Rattle.std.specs.Prelude.{◌≡◌, ℕ, true, List, replicate}
use Rattle.std.specs.FinSet.{contains}
use Rattle.plant_types.specs.declared.drops.IoDrop.{IoDrop}
use Rattle.plant_types.specs.declared.plan.ControllerPlan.{ControllerPlan}
use Rattle.plant_types.specs.Checks.{sizes_of}
use Rattle.plant_types.specs.Discretes.{discretes_on}
use Rattle.plant_types.specs.Plans.{is_routed}
use Rattle.plant_types.specs.Sizes.{cleared, discretes_of}
use Rattle.plant_types.specs.Store.{Keeps}
use Rattle.state_ram.specs.Packed.{packed_contents}
use Rattle.mstr_block.specs.Table.{idle_table}
use Rattle.grid_compile.specs.Layout.{grids_of}
use Rattle.ladder_solver.specs.Numbers.{mstr_blocks}
use Rattle.ladder_solver.specs.declared.places.BlockPlace.{BlockPlace}
use Rattle.ladder_solver.specs.State.{solve_state}
use Rattle.controller_core.specs.declared.fixed.Fixed.{Fixed}
use Rattle.controller_core.specs.Machine.{IsRunnable}
use Rattle.controller_core.specs.Replay.{ControllerState, segment_solved}
use Rattle.field_search.specs.Covered.{IsAlone}
use Rattle.field_machine.specs.declared.asked.Asked.{Asked}
use Rattle.field_machine.specs.declared.work.Work.{Work}
use Rattle.field_machine.specs.Asked.{CanBeAsked}
use Rattle.field_machine.specs.Choices.{choices_of, product}
use Rattle.field_machine.specs.Counters.{Among, counters_of}

-- The state that a work is in.
abbrev pub work_state : Work → ControllerState
work_state work = record {
  solving =
      solve_state (packed_contents work.ram) (discretes_on (packed_contents work.past))
      work.ladder.edges work.bank work.clock work.watch.left;
  exchanges = replicate 32 0;
  gone = 0;
  stop = work.stop;
  powered = true;
  failures = 0;
}

-- A work has the ladder of a plan without message blocks, with edge bits at its counters alone.
pub record IsWorkOf (plan : ControllerPlan) (work : Work) : Type 0 where
  pub grids : grids_of plan.segments ≡ work.ladder.grids
  pub bank : work.bank ≡ idle_table plan.node (is_routed plan.network) (mstr_blocks plan.segments)
  pub edges : (place : BlockPlace) → contains work.ladder.edges place ≡ true
      → Among (counters_of plan.segments) place

-- A work stands between two scans: it has all references of the plan.
pub record IsReadyWork (plan : ControllerPlan) (work : Work) : Type 0 where
  pub sound : IsWorkOf plan work
  pub keeps : Keeps (cleared (sizes_of plan)) (packed_contents work.ram)
  pub past : Keeps (cleared (discretes_of (sizes_of plan))) (packed_contents work.past)

-- A call solves a segment, and the work is ready as before.
pub record SolvesSegment (plan : ControllerPlan) (segment : ℕ) (old new : Work) : Type 0 where
  pub state : work_state new ≡ segment_solved plan.segments segment (work_state old)
  pub ready : IsReadyWork plan new

-- What a field consists of: a controller that is alone, its drops, how many rows the field has for
-- each row of its order of solve and how many ways there are in a scan, the places of its counters,
-- and what it is asked.
pub record AreFieldParts (fixed : Fixed) (drops : List IoDrop) (choices : List ℕ) (moves : ℕ)
    (counters : List BlockPlace) (asked : Asked) : Type 0 where
  pub runs : IsRunnable fixed
  pub alone : IsAlone fixed.plan
  pub drops_are : drops ≡ fixed.plan.drops
  pub choices_are : choices ≡ choices_of fixed.plan
  pub moves_are : moves ≡ product choices
  pub counters_are : counters ≡ counters_of fixed.plan.segments
  pub may_ask : CanBeAsked (sizes_of fixed.plan) asked

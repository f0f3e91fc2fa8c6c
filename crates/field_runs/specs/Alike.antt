-- Which states no scan tells apart. All of it is this project's own.
use Rattle.std.specs.Prelude.{◌≡◌, ℕ, ◌%◌, List}
use Rattle.plant_types.specs.declared.plan.ControllerPlan.{ControllerPlan}
use Rattle.plant_types.specs.Checks.{sizes_of}
use Rattle.plant_types.specs.Discretes.{discretes_on}
use Rattle.plant_types.specs.Sizes.{discretes}
use Rattle.traffic_cop.specs.Rows.{IsRunnablePlan}
use Rattle.alike_states.specs.Alone.{HasNoMessages}
use Rattle.controller_core.specs.declared.fixed.Fixed.{Fixed}
use Rattle.controller_core.specs.Replay.{ControllerState, start, table_of}
use Rattle.field_runs.specs.Scan.{scanned}

-- Two states are alike: their references, edge bits and stop codes are equal, and so are their
-- clocks but for whole seconds, which are 100 ticks.
pub record IsAlike (s t : ControllerState) : Type 0 where
  pub references : s.solving.map ≡ t.solving.map
  pub edges : s.solving.edges ≡ t.solving.edges
  pub stop : s.stop ≡ t.stop
  pub clock : s.solving.clock.now % 100 ≡ t.solving.clock.now % 100

-- A controller that is alone has settled between two scans: the discretes that it kept are those of
-- its references, and its message blocks are as it started.
pub record IsSettled (plan : ControllerPlan) (s : ControllerState) : Type 0 where
  pub kept : s.solving.past ≡ discretes_on (discretes (sizes_of plan) s.solving.map)
  pub blocks : table_of s ≡ table_of (start plan)

-- Alike states that have settled stay alike under each scan in which the field brings both the same
-- rows.
abbrev pub AlikeStatesStay : Type 0
AlikeStatesStay =
    (fixed : Fixed) (rows : List ℕ) (s t : ControllerState) → IsSettled fixed.plan s
    → IsSettled fixed.plan t → s.stop ≡ 0 → IsAlike s t
    → IsAlike (scanned fixed rows s) (scanned fixed rows t)

-- A controller without message blocks starts settled, and has settled after each scan that did not
-- stop it.
pub record ScansSettle : Type 0 where
  pub starts : (plan : ControllerPlan) → IsSettled plan (start plan)
  pub scans : (fixed : Fixed) (rows : List ℕ) (s : ControllerState) → IsRunnablePlan fixed.plan
      → HasNoMessages fixed.plan.segments → IsSettled fixed.plan s
      → (scanned fixed rows s).stop ≡ 0 → IsSettled fixed.plan (scanned fixed rows s)

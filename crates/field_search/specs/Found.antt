-- Moves that lead to a state, and the run that they are. All of it is this project's own.
use Rattle.std.specs.Prelude.{◌<◌, ℕ, List, length, map}
use Rattle.scan_order.specs.Due.{full_scan}
use Rattle.field_runs.specs.ControllerCore.{ControllerState, Fixed}
use Rattle.state_space.specs.Reaching.{Reaches}
use Rattle.plant_types.specs.Discretes.{Refs}
use Rattle.field_runs.specs.Field.{PlaysInField, state_after}
use Rattle.field_runs.specs.Played.{with_scripts}
use Rattle.field_runs.specs.Told.{AreTold}
use Rattle.cone_of.specs.Cone.{IsClosed}
use Rattle.cone_runs.specs.AlikeIn.{IsAlikeIn}
use Rattle.field_search.specs.Covered.{IsAlone, leads_to, starts_at}

-- Each of so many moves tells rows of the drops for a scan.
abbrev pub EachTells : Fixed → (ℕ → List ℕ) → ℕ → Type 0
EachTells fixed rows count =
    (by : ℕ) → by < count → AreTold fixed.plan (full_scan fixed.plan) (rows by)

-- The run of the field with scripts that bring what is told comes after as many scans to a state
-- that is alike another on a set.
pub record IsRunTo (fixed : Fixed) (set : Refs) (told : List (List ℕ)) (s : ControllerState)
    : Type 0 where
  pub plays : PlaysInField fixed.plan (with_scripts fixed.plan told)
  pub alike : IsAlikeIn fixed.plan set (state_after (with_scripts fixed.plan told)
      fixed.scan_time fixed.watchdog (length told)) s

-- What moves lead to on a closed set, the run of the field with their rows as scripts comes to.
abbrev pub PathsAreRuns : Type 0
PathsAreRuns =
    (fixed : Fixed) (set : Refs) (states : List ℕ → ControllerState) (rows : ℕ → List ℕ)
    (count : ℕ) (path key : List ℕ) → IsAlone fixed.plan → IsClosed fixed.plan set
    → EachTells fixed rows count
    → Reaches (starts_at fixed set states) count (leads_to fixed set states rows) path key
    → IsRunTo fixed set (map rows path) (states key)

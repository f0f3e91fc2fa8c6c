-- Fixed parts of a controller that agree on a history. All of it is this project's own.
use Rattle.std.specs.Prelude.{◌≡◌, ℕ, List, ◌++◌}
use Rattle.scan_order.specs.declared.due.ScanStep.{ScanStep}
use Rattle.scan_order.specs.Due.{due}
use Rattle.controller_core.specs.declared.entry.Entry.{Entry}
use Rattle.controller_core.specs.declared.fixed.Fixed.{Fixed}
use Rattle.controller_core.specs.Event.{entry_of}
use Rattle.controller_core.specs.Replay.{ControllerState, replay}

-- A history begins with another one, which is a front of it.
abbrev pub IsFront : List Entry → List Entry → Type 0
IsFront front history = (rest : List Entry) × (front ++ rest ≡ history)

-- Two fixed parts agree on a history: the same is due in as many scans, a step makes the same
-- entry of a state, and each front of the history is replayed to the same state.
pub record AgreeOn (fixed other : Fixed) (history : List Entry) : Type 0 where
  pub scans : other.scans ≡ fixed.scans
  pub steps : (scan : ℕ) → due other.plan scan ≡ due fixed.plan scan
  pub entries : (s : ControllerState) (step : ScanStep)
      → entry_of other s step ≡ entry_of fixed s step
  pub states : (front : List Entry) → IsFront front history
      → replay other front ≡ replay fixed front

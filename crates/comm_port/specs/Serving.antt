-- What the inner parts of serving do. This project's own.
use Rattle.std.specs.Prelude.{◌≡◌, ℕ, List, ◌∷◌, ◌++◌}
use Rattle.controller_core.specs.declared.entry.Entry.{Entry}
use Rattle.ring_core.specs.declared.frame.Frame.{Frame}
use Rattle.ring_core.specs.declared.entry.RingEntry.{RingEntry}
use Rattle.ring_core.specs.declared.entry.RingEntry.TheVariants.{Take}
use Rattle.comm_port.specs.HoldTurn.{IsServed}
use Rattle.comm_port.specs.Parts.{InOrder}

-- A frame that was taken already is served.
abbrev pub IsAnswered : ℕ → Frame → List Entry → List RingEntry → Type 0
IsAnswered n f noted done = IsServed n f noted (Take n f ∷ done)

-- Of the frames that lay in an inbox these are left; all before them were served.
abbrev pub ServesOn : ℕ → List Frame → List Frame → List Entry → List RingEntry → Type 0
ServesOn n start left noted done = (served : List Frame) × (start ≡ served ++ left)
    × InOrder (IsServed n) served noted done

-- How a turn ends: the token is passed on, or the node leaves. This project's own.
use Rattle.std.specs.Prelude.{◌≡◌, ℕ, nat_le, Bool, true, false, ◌&&◌, if◌then◌else◌, List, [], ◌∷◌}
use Rattle.std.specs.Prelude.{Option, Some, None}
use Rattle.plant_types.specs.declared.net.NetPlan.{NetPlan}
use Rattle.ring_core.specs.Machine.{RingIs, ring_after, ring_node, is_here}
use Rattle.ring_core.specs.Refusals.{leave_due, quiet_for}
use Rattle.ring_core.specs.declared.entry.LeaveCause.{LeaveCause}
use Rattle.ring_core.specs.declared.entry.LeaveCause.TheVariants.{Ended, Spent}
use Rattle.ring_core.specs.declared.entry.RingEntry.{RingEntry}
use Rattle.ring_core.specs.declared.entry.RingEntry.TheVariants.{Pass, Leave}
use Rattle.tied_lists.specs.Own.{is_of, Grew}
use Rattle.tied_lists.specs.Waits.{Holds, HasLeft}

-- A node has had a cause to leave for as long as it needs.
abbrev pub is_due : NetPlan → RingIs → ℕ → LeaveCause → Bool
is_due net r n cause =
    let due = leave_due net r n cause in
    nat_le due.needed due.held

-- Why a node leaves at the end of its turn, if it does: its Passes are spent, and it keeps to a
-- budget; or it is done, and it and all members that are not ends of bridges have been for long
-- enough.
abbrev pub cause_due : NetPlan → RingIs → ℕ → Bool → Bool → Option LeaveCause
cause_due net r n done budget =
    if budget && is_due net r n Spent then Some Spent
    else (if done && is_due net r n Ended then Some Ended else None)

-- The last entry of a turn.
abbrev pub last_entry : ℕ → Bool → List ℕ → Option LeaveCause → RingEntry
last_entry n done words None = Pass n done words
last_entry n done words (Some cause) = Leave n cause

-- A node that holds the token added nothing, and nothing changed for it.
pub record StoodStill (alone : Bool) (net : NetPlan) (n : ℕ) (old new : List RingEntry)
    : Type 0 where
  pub grew : Grew alone (is_of n) old [] new
  pub holds : Holds net new n
  pub part : ring_node (ring_after net new) n ≡ ring_node (ring_after net old) n
  pub quiet : quiet_for net (ring_after net new) n ≡ quiet_for net (ring_after net old) n

-- A node has not left.
abbrev pub IsHere : NetPlan → List RingEntry → ℕ → Type 0
IsHere net history n = is_here (ring_node (ring_after net history) n) ≡ true

-- A node left.
pub record LeftRing (alone : Bool) (net : NetPlan) (n : ℕ) (cause : LeaveCause)
    (old new : List RingEntry) : Type 0 where
  pub grew : Grew alone (is_of n) old (Leave n cause ∷ []) new
  pub gone : HasLeft net new n

abbrev pub LeftOrStood : Bool → NetPlan → ℕ → LeaveCause → List RingEntry → List RingEntry → Bool
    → Type 0
LeftOrStood alone net n cause old new true = LeftRing alone net n cause old new
LeftOrStood alone net n cause old new false = StoodStill alone net n old new

-- The turn ended as was due.
pub record HandedOn (alone : Bool) (net : NetPlan) (n : ℕ) (done : Bool) (words : List ℕ)
    (cause : Option LeaveCause) (old new : List RingEntry) : Type 0 where
  pub grew : Grew alone (is_of n) old (last_entry n done words cause ∷ []) new
  pub gone : (why : LeaveCause) → cause ≡ Some why → HasLeft net new n
  pub stays : cause ≡ None → IsHere net new n

-- A controller's turn as a whole. This project's own.
use Rattle.std.specs.Prelude.{◌≡◌, ℕ, nat_lt, Bool, true, false, if◌then◌else◌, List, []}
use Rattle.plant_types.specs.declared.net.NetPlan.{NetPlan}
use Rattle.controller_core.specs.declared.fixed.Fixed.{Fixed}
use Rattle.controller_core.specs.declared.entry.Entry.{Entry}
use Rattle.ring_core.specs.declared.entry.RingEntry.{RingEntry}
use Rattle.tied_lists.specs.Own.{own, WentOn}
use Rattle.tied_lists.specs.Items.{latest_down}
use Rattle.joint_history.specs.Reading.{is_ours, failures_at}
use Rattle.comm_port.specs.declared.turn_end.TurnEnd.{TurnEnd}
use Rattle.comm_port.specs.declared.turn_end.TurnEnd.TheVariants.{Passed, Left, Away, Asking}
use Rattle.comm_port.specs.Failing.{GoesDown}
use Rattle.comm_port.specs.HoldTurn.{WorksTurn}

-- A failure is unnoticed: there were more than the number of the node's latest Leave for one.
abbrev pub is_unnoticed : Fixed → ℕ → List Entry → List RingEntry → Bool
is_unnoticed fixed n known ring = nat_lt (latest_down (own n ring)) (failures_at fixed known)

-- How a turn ends whose node left or not, with no failure unnoticed, and how one ends in which the
-- node left because power had failed, and came back or not.
abbrev pub working_end : Bool → TurnEnd
working_end left = if left then Left else Passed

abbrev pub failing_end : Bool → TurnEnd
failing_end joined = if joined then Asking else Away

-- A turn, by whether a failure is unnoticed.
abbrev pub TurnsBy : Bool → Bool → Bool → Fixed → NetPlan → ℕ → Bool → List Entry → List Entry
    → List RingEntry → List RingEntry → TurnEnd → Type 0
TurnsBy true alone_ram alone_ring fixed net n budget known new_known ring new_ring end =
    (joined : Bool) × (end ≡ failing_end joined)
    × GoesDown alone_ram alone_ring fixed net n (failures_at fixed known) known new_known ring
    new_ring joined
TurnsBy false alone_ram alone_ring fixed net n budget known new_known ring new_ring end =
    (left : Bool) × (end ≡ working_end left)
    × WorksTurn alone_ram alone_ring fixed net n budget known new_known ring new_ring left

-- A turn: the controller is asked how often power failed; where that is unnoticed the node goes
-- down, else the five parts follow.
pub record HoldsTurn (alone_ram alone_ring : Bool) (fixed : Fixed) (net : NetPlan) (n : ℕ)
    (budget : Bool) (known new_known : List Entry) (ring new_ring : List RingEntry)
    (end : TurnEnd) : Type 0 where
  pub asked : List Entry
  pub asks : WentOn alone_ram is_ours known [] asked
  pub goes : TurnsBy (is_unnoticed fixed n asked ring) alone_ram alone_ring fixed net n budget
      asked new_known ring new_ring end

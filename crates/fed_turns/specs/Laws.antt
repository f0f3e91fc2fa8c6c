-- What a controller does with the token, and its scans, where its drop was fed a row. All of it is
-- this project's own.
use Rattle.std.specs.Prelude.{◌≡◌, ℕ, Bool, true, List}
use Rattle.plant_types.specs.declared.drops.ScriptRow.{ScriptRow}
use Rattle.plant_types.specs.declared.net.NetPlan.{NetPlan}
use Rattle.ring_core.specs.declared.entry.RingEntry.{RingEntry}
use Rattle.controller_core.specs.declared.entry.Entry.{Entry}
use Rattle.controller_core.specs.declared.fixed.Fixed.{Fixed}
use Rattle.controller_core.specs.Feeding.{fixed_fed, CanFeedAfter}
use Rattle.joint_history.specs.Reading.{controller_at}
use Rattle.comm_port.specs.declared.turn_end.TurnEnd.{TurnEnd}
use Rattle.comm_port.specs.HoldTurn.{VisitsEnd}
use Rattle.comm_port.specs.WholeTurn.{HoldsTurn}
use Rattle.whole_scan.specs.Scans.{with_scan}
use Rattle.fed_turns.specs.Agreeing.{AgreeOn}

-- A fixed part and the one with a row more agree on each history after which the row can be added.
abbrev pub RowsAgree : Type 0
RowsAgree =
    (fixed : Fixed) (history : List Entry) (drop : ℕ) (row : ScriptRow)
    → CanFeedAfter fixed history drop row → AgreeOn fixed (fixed_fed fixed drop row) history

-- A hold of the token, where nobody else writes, is one of each fixed part that agrees on the
-- history that it leaves.
abbrev pub HoldsAgree : Type 0
HoldsAgree =
    (fixed other : Fixed) (net : NetPlan) (n : ℕ) (budget alone : Bool)
    (known new_known : List Entry) (ring new_ring : List RingEntry) (end : TurnEnd)
    → AgreeOn fixed other new_known
    → HoldsTurn true alone fixed net n budget known new_known ring new_ring end
    → HoldsTurn true alone other net n budget known new_known ring new_ring end

-- A visit of a controller whose node has left is one of each fixed part that agrees on the history
-- that it leaves.
abbrev pub VisitsAgree : Type 0
VisitsAgree =
    (fixed other : Fixed) (net : NetPlan) (n : ℕ) (alone : Bool) (known new_known : List Entry)
    (ring new_ring : List RingEntry) → AgreeOn fixed other new_known
    → VisitsEnd true alone fixed net n known new_known ring new_ring
    → VisitsEnd true alone other net n known new_known ring new_ring

-- A whole scan is that of each fixed part that agrees on the history that it leaves.
abbrev pub ScansAgree : Type 0
ScansAgree =
    (fixed other : Fixed) (history : List Entry)
    → AgreeOn fixed other (with_scan (controller_at fixed history))
    → with_scan (controller_at other history) ≡ with_scan (controller_at fixed history)

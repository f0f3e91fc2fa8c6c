-- Where a joint history is not in time. This project's own.
use Rattle.std.specs.Prelude.{◌≡◌, List, ◌∷◌, ◌++◌, Option, MatchOption}
use Rattle.std.specs.List.{AllByRecursion as Each}
use Rattle.ring_core.specs.declared.entry.RingEntry.{RingEntry}
use Rattle.joint_history.specs.declared.joint.Joint.{Joint}
use Rattle.one_order.specs.Orders.{Log}
use Rattle.entry_causes.specs.Causes.{StationEntry}
use Rattle.entry_causes.specs.InTime.{IsInTime}
use Rattle.entry_causes.specs.Joint.{logs_of}
use Rattle.time_judge.specs.declared.judging.Standstill.{Standstill}
use Rattle.time_judge.specs.Reaching.{AreInTimeUpTo}
use Rattle.joint_history.specs.Nets.{noted_on_rings}

-- A station is not in time, and goes so far.
pub record StandsStill (ring : List RingEntry) (log : Log StationEntry) (at : Standstill) : Type 0
  where
    pub late : IsInTime ring log → ⊥
    pub node : at.node ≡ log.node
    pub up_to : AreInTimeUpTo log.node log.entries ring at.entries at.place

-- A station is the first of some that is not in time.
pub record StandsStillFirst (ring : List RingEntry) (logs : List (Log StationEntry))
    (at : Standstill) : Type 0 where
  pub before : List (Log StationEntry)
  pub log : Log StationEntry
  pub after : List (Log StationEntry)
  pub logs_are : logs ≡ before ++ log ∷ after
  pub in_time : Each (IsInTime ring) before
  pub here : StandsStill ring log at

-- A station is in time, or stands still.
abbrev pub IsStandstill : List RingEntry → Log StationEntry → Option Standstill → Type 0
IsStandstill ring log found = MatchOption found (IsInTime ring log) (StandsStill ring log)

-- Each of these stations is in time, or this is where the first that is not stands still.
abbrev pub IsFirstStandstill : List RingEntry → List (Log StationEntry) → Option Standstill
    → Type 0
IsFirstStandstill ring logs found =
    MatchOption found (Each (IsInTime ring) logs) (StandsStillFirst ring logs)

-- A joint history has one such standstill at most.
abbrev pub OneStandstill : Type 0
OneStandstill = (joint : Joint) (one other : Standstill)
    → StandsStillFirst (noted_on_rings joint) (logs_of joint) one
    → StandsStillFirst (noted_on_rings joint) (logs_of joint) other → one ≡ other

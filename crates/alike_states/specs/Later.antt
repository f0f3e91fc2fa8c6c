-- States whose clocks are a whole number of seconds apart.
use Rattle.std.specs.Prelude.{◌≡◌, ℕ, ◌+◌, ◌*◌, List}
use Rattle.plant_types.specs.declared.network.Segment.{Segment}
use Rattle.timer_ops.specs.declared.Clock.{Clock}
use Rattle.ladder_solver.specs.State.{SolveState}
use Rattle.ladder_solver.specs.Segment.{segment_after}

-- The ticks of so many seconds: 100 to each, the least in which each of the three units of time
-- goes by a whole number of times. This project's own.
abbrev pub ticks_of : ℕ → ℕ
ticks_of seconds = 100 * seconds

-- A clock so many seconds later, and a state with such a clock and all else as it was. This
-- project's own.
abbrev pub clock_later : ℕ → Clock → Clock
clock_later seconds clock = record {
  before = clock.before + ticks_of seconds;
  now = clock.now + ticks_of seconds;
}

abbrev pub later : ℕ → SolveState → SolveState
later seconds s = record s { clock = clock_later seconds s.clock }

-- The solve of a segment does the same some seconds later. This project's own.
abbrev pub SolvesAskNoHour : Type 0
SolvesAskNoHour =
    (segments : List Segment) (number seconds : ℕ) (s : SolveState)
    → segment_after segments number (later seconds s)
    ≡ later seconds (segment_after segments number s)

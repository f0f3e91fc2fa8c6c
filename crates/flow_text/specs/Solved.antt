-- The networks that a controller solved, by its history. All of it is this project's own.
use Rattle.std.specs.Prelude.{ℕ, ◌+◌, List, [], ◌∷◌, ◌++◌, map}
use Rattle.ladder_solver.specs.declared.note.NetworkFlow.{NetworkFlow}
use Rattle.controller_core.specs.declared.fixed.Fixed.{Fixed}
use Rattle.controller_core.specs.declared.entry.Entry.{Entry}
use Rattle.controller_core.specs.declared.entry.Entry.TheVariants as entries
use Rattle.controller_core.specs.Replay.{ControllerState, apply, start}
use Rattle.controller_core.specs.Conducted.{conducted_at}
use Rattle.controller_core.specs.Controller.{ControllerIs, state_of}

-- A network that was solved: in which scan, for which row of the order of solve, and what conducted.
pub record SolvedNetwork : Type 0 where
  pub scan : ℕ
  pub row : ℕ
  pub flow : NetworkFlow

abbrev pub solved_in : ℕ → ℕ → NetworkFlow → SolvedNetwork
solved_in scan row flow = record { scan = scan; row = row; flow = flow }

-- The networks that an event solves that is made in a state, in the order in which they end: a Solve
-- those of its row, in the scan after those that are gone.
abbrev pub solved_at : Fixed → ControllerState → Entry → List SolvedNetwork
solved_at fixed s (entries.Solve row) =
    map (solved_in (s.gone + 1) row) (conducted_at fixed s (entries.Solve row))
solved_at fixed s _ = []

-- The networks that a controller solves where it makes an event next.
abbrev pub solved_next : ControllerIs → Entry → List SolvedNetwork
solved_next v entry = solved_at v.fixed (state_of v) entry

-- The networks that events solve from a state on, each event in the state that those before it
-- leave.
unfoldable pub solved_from : Fixed → ControllerState → List Entry → List SolvedNetwork
solved_from fixed s [] = []
solved_from fixed s (entry ∷ entries) =
    solved_at fixed s entry ++ solved_from fixed (apply fixed s entry) entries

-- The networks that a controller with a history solved.
abbrev pub networks_solved : Fixed → List Entry → List SolvedNetwork
networks_solved fixed history = solved_from fixed (start fixed.plan) history

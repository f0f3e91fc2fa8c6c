-- Downs of a node, and the power failures of its station. This project's own.
use Rattle.std.specs.Prelude.{◌+◌, ◌≤◌, ℕ, Bool, true, false, List, Option, Some, None}
use Rattle.std.specs.List.{AllByRecursion}
use Rattle.controller_core.specs.declared.entry.Entry.{Entry}
use Rattle.controller_core.specs.declared.entry.Entry.TheVariants.{Fail}
use Rattle.tied_lists.specs.Tied.{RiseAbove}
use Rattle.station_laws.specs.Differing.{BreaksAt}

-- A power failure.
abbrev pub is_fail : Entry → Bool
is_fail Fail = true
is_fail _ = false

-- The numbers of Downs rise from 1 on, and none is above the number of power failures.
abbrev pub AreFounded : ℕ → List ℕ → Type 0
AreFounded fails downs = RiseAbove 0 downs × AllByRecursion (λ (k : ℕ). k ≤ fails) downs

-- All Downs do so, or this one, counted from 0, is the first that does not.
abbrev pub GoUpTo : ℕ → List ℕ → Option ℕ → Type 0
GoUpTo fails downs None = AreFounded fails downs
GoUpTo fails downs (Some place) = BreaksAt (AreFounded fails) downs (place + 1)

-- When a fault may be answered.
use Rattle.std.specs.Prelude.{ℕ, ◌+◌, ◌-◌, ◌^◌, ◌≤◌, min, Result, OnErr}

-- One more, in a count that stands still at its type's end. This project's own.
abbrev pub raised : ℕ → ℕ
raised before = min (before + 1) (2 ^ 64 - 1)

-- The count rose, or stands at its type's end. This project's own.
abbrev pub Rose : ℕ → ℕ → Type 0
Rose before now = raised before ≤ now

-- The count of faults never falls, and where the call failed it rose. This project's own.
pub record HasCause {T E : Type 0} (before now : ℕ) (result : Result T E) : Type 0 where
  pub later : before ≤ now
  pub failed : OnErr result (Rose before now)

-- Reading in steps, of which the first that fails ends it.
use Rattle.std.specs.Prelude.{Bool, true, false, Option, Some, None, Result, Ok, Err}

-- A step, and the steps behind it where it did not fail. This project's own.
infixl 10 ◌>>=◌
abbrev pub ◌>>=◌ : {A B E : Type 0} → Result A E → (A → Result B E) → Result B E
(Ok x) >>= f = f x
(Err e) >>= f = Err e

-- A value that has to be there, else a fault. This project's own.
abbrev pub or_fault : {A E : Type 0} → E → Option A → Result A E
or_fault fault None = Err fault
or_fault fault (Some x) = Ok x

-- A test that has to hold, else a fault. This project's own.
abbrev pub unless : {E : Type 0} → Bool → E → Result (Unit {0}) E
unless true fault = Ok tt
unless false fault = Err fault

-- What a side says of the tape behind it. All of it is this project's own.
use Rattle.std.specs.Prelude.{◌≡◌, ℕ, Bool, true, List, ◌++◌, Option, Some, None}
use Rattle.turn_gate.specs.Known.{GateFacts, made_by}
use Rattle.gated_tape.specs.declared.tapes.Mark.{Mark}

-- the list went on by a suffix, of which the entries that name n are the added ones; all of it
-- where the side is alone
pub record GoesOnBy {E : Type 0} (alone : Bool) (maker : E → ℕ) (n : ℕ)
    (before added after : List E) : Type 0 where
  pub suffix : List E
  pub after_is : after ≡ before ++ suffix
  pub own_is : made_by maker n suffix ≡ added
  pub all_alone : alone ≡ true → suffix ≡ added

-- a side may write in this node's name: it writes in anyone's, or in this one's
abbrev pub MayWriteFor : Option ℕ → ℕ → Type 0
MayWriteFor None node = Unit {0}
MayWriteFor (Some n) node = n ≡ node

-- what no call changes of a side: the limit of its tape, the one node in whose name it may write,
-- or none where it writes for each, and where the tape is
pub record Frame (P : Type 0) : Type 0 where
  pub limit : ℕ
  pub writer : Option ℕ
  pub place : P

-- what a contract sees of a side over a gate: the gate, the number of its pass, and the marks
-- that it has seen
pub record SideFacts : Type 0 where
  pub gate : GateFacts Mark ℕ
  pub number : ℕ
  pub seen : List Mark

-- what no call changes of a side over a gate
abbrev pub gated_frame : SideFacts → Frame (GateFacts Mark ℕ)
gated_frame s = record { limit = s.gate.fixed; writer = Some s.number; place = s.gate }

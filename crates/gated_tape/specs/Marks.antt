-- Marks and tapes. All of it is this project's own.
use Rattle.std.specs.Prelude.{◌≡◌, ℕ, zero, suc, ◌<◌, ◌≤◌, List, [], ◌∷◌, ◌++◌, length, Result, Ok}
use Rattle.std.specs.Prelude.{Err}
use Rattle.turn_gate.specs.Known.{made_by}
use Rattle.gated_tape.specs.declared.tapes.Mark.{Mark}
use Rattle.gated_tape.specs.declared.refusals.PutNo.{PutNo}
use Rattle.gated_tape.specs.declared.refusals.PutNo.TheVariants.{Full, NoMemory}

-- a mark of these parts
abbrev pub mark : ℕ → ℕ → Mark
mark node word = record { node = node; word = word }

-- what a contract sees of a tape
pub record TapeFacts : Type 0 where
  pub limit : ℕ
  pub marks : List Mark

-- the node that made a mark
abbrev pub node_of : Mark → ℕ
node_of m = m.node

-- what a call that puts m has added: m, or nothing where it was refused
abbrev pub added_on : {T X : Type 0} → Result T X → Mark → List Mark
added_on (Ok x) m = m ∷ []
added_on (Err x) m = []

-- how many of the marks are the node's
abbrev pub mark_count : ℕ → List Mark → ℕ
mark_count node marks = length (made_by node_of node marks)

-- the marks of a node whose words count up from 0 to below count
unfoldable pub marks_up_to : ℕ → ℕ → List Mark
marks_up_to node zero = []
marks_up_to node (suc count) = marks_up_to node count ++ mark node count ∷ []

-- the word is the one that the node puts next: the number of its marks so far
abbrev pub IsNext : ℕ → ℕ → List Mark → Type 0
IsNext node word marks = mark_count node marks ≡ word

-- the marks are no more than the limit, and the words of each node count up from 0, in order
pub record IsLegalTape (limit : ℕ) (marks : List Mark) : Type 0 where
  pub fits : length marks ≤ limit
  pub counts_up : (node : ℕ) → made_by node_of node marks ≡ marks_up_to node (mark_count node marks)

-- a put tells of the marks afterwards: that they are as many as the limit, or how memory failed
-- below it
abbrev pub TellsRoom : {T : Type 0} → ℕ → Result T PutNo → List Mark → Type 0
TellsRoom limit (Ok x) marks = Unit {0}
TellsRoom limit (Err Full) marks = length marks ≡ limit
TellsRoom limit (Err NoMemory) marks = length marks < limit

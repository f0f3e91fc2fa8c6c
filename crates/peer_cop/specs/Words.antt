-- The words of drops, and those that wires feed. This project's own.
use Rattle.std.specs.Prelude.{◌≡◌, ◌<◌, ◌≤◌, ℕ, ◌+◌}
use Rattle.peer_cop.specs.declared.wire.Wire.{Wire}

-- So many words from one on are among those of a drop. Words count from 1.
pub record HasWords (first count total : ℕ) : Type 0 where
  pub from : 1 ≤ first
  pub to : first + count ≤ total + 1

-- A wire feeds an input word of a drop of a node.
pub record Feeds (wire : Wire) (node number word : ℕ) : Type 0 where
  pub at_node : wire.node ≡ node
  pub at_drop : wire.drop ≡ number
  pub from : wire.word ≤ word
  pub to : word < wire.word + wire.count

-- No input word is fed by both of two wires.
abbrev pub AreApart : Wire → Wire → Type 0
AreApart one other =
    (node number word : ℕ) → Feeds one node number word → ¬ (Feeds other node number word)

-- A ring that keeps no list of what happened on it. This project's own.
use Rattle.std.specs.Prelude.{◌≡◌, ◌+◌, ◌≤◌, ℕ, List, [], ◌∷◌, ◌++◌, length}
use Rattle.ring_core.specs.Words.{NetPlan, RingEntry}
use Rattle.ring_core.specs.Machine.{RingIs}
use Rattle.ring_core.specs.Kept.{IsRingKept}
use Rattle.ring_core.specs.declared.bare.BareRing.{BareRing}

-- The net that a bare ring was made for.
abbrev pub bare_net : BareRing → NetPlan
bare_net bare = bare.plan

-- What a bare ring is as a ring: its holder and its nodes.
abbrev pub bare_ring : BareRing → RingIs
bare_ring bare = record { holder = bare.holder; sent = bare.sent; nodes = bare.nodes.items }

-- A bare ring is behind a list: it is the ring that this legal history leads to.
abbrev pub IsBehind : List RingEntry → BareRing → Type 0
IsBehind past bare = IsRingKept bare.plan past (bare_ring bare) bare.stats.items bare.book

-- A bare ring was behind a history, and is behind that with one entry more.
pub record BareMade (past : List RingEntry) (entry : RingEntry) (old new : BareRing) : Type 0 where
  pub net : bare_net new ≡ bare_net old
  pub behind : IsBehind (past ++ entry ∷ []) new

-- A bare ring was behind a history, and still is.
pub record BareStayed (past : List RingEntry) (old new : BareRing) : Type 0 where
  pub net : bare_net new ≡ bare_net old
  pub behind : IsBehind past new

-- A ring with its list is behind that list, with room for its spare.
pub record IsWholeRing (bare : BareRing) (history : List RingEntry) (spare capacity : ℕ)
    : Type 0 where
  pub kept : IsBehind history bare
  pub room : length history + spare ≤ capacity

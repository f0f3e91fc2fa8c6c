-- What stands of the two lists after a call, also where memory ran out. This project's own.
use Rattle.std.specs.Prelude.{ℕ, Bool, List}
use Rattle.plant_types.specs.declared.net.NetPlan.{NetPlan}
use Rattle.controller_core.specs.declared.fixed.Fixed.{Fixed}
use Rattle.controller_core.specs.declared.entry.Entry.{Entry}
use Rattle.controller_core.specs.Controller.{IsLegal}
use Rattle.ring_core.specs.declared.entry.RingEntry.{RingEntry}
use Rattle.ring_core.specs.Legal.{IsLegalRing}
use Rattle.tied_lists.specs.Own.{is_of, Grew}
use Rattle.joint_history.specs.Reading.{is_ours}

-- A list went on by calls of ours; by nothing else where nobody else writes.
pub record HasGrown {E : Type 0} (alone : Bool) (ours : E → Bool) (before after : List E)
    : Type 0 where
  pub added : List E
  pub grew : Grew alone ours before added after

-- The ring's list went on by calls of this node, and is legal.
pub record RingStands (alone : Bool) (net : NetPlan) (n : ℕ) (before after : List RingEntry)
    : Type 0 where
  pub grown : HasGrown alone (is_of n) before after
  pub legal : IsLegalRing net after

-- The controller's list went on by calls of its worker, and is legal if it was.
pub record RamStands (alone : Bool) (fixed : Fixed) (before after : List Entry) : Type 0 where
  pub grown : HasGrown alone is_ours before after
  pub legal : IsLegal fixed before → IsLegal fixed after

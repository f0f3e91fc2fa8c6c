-- What a controller's node does where power failed. This project's own.
use Rattle.std.specs.Prelude.{◌≡◌, ℕ, Bool, true, false, not, List, [], ◌∷◌}
use Rattle.plant_types.specs.declared.net.NetPlan.{NetPlan}
use Rattle.controller_core.specs.declared.fixed.Fixed.{Fixed}
use Rattle.controller_core.specs.declared.entry.Entry.{Entry}
use Rattle.ring_core.specs.declared.entry.LeaveCause.TheVariants.{Down}
use Rattle.ring_core.specs.declared.entry.RingEntry.{RingEntry}
use Rattle.ring_core.specs.declared.entry.RingEntry.TheVariants.{Join}
use Rattle.ring_core.specs.declared.status.NodeStatus.TheVariants.{Away}
use Rattle.tied_lists.specs.Own.{is_of, WentOn, Grew}
use Rattle.tied_lists.specs.Waits.{status_at}
use Rattle.joint_history.specs.Reading.{is_ours, is_off_at}
use Rattle.comm_port.specs.HoldTurn.{IsGivenUp}
use Rattle.comm_port.specs.Leaving.{LeftRing}
use Rattle.comm_port.specs.Parts.{InOrder, PartOf, calls_waiting}

-- A node left as its power failed, and has not asked to come in since; none of its calls waits.
pub record IsAway (net : NetPlan) (ring : List RingEntry) (n : ℕ) : Type 0 where
  pub away : status_at net ring n ≡ Away
  pub idle : calls_waiting n ring ≡ []

-- The entry by which a node asks to come in, if it does.
abbrev pub join_entries : ℕ → Bool → List RingEntry
join_entries n true = Join n ∷ []
join_entries n false = []

-- A node that is away asks to come in again, exactly where the controller is asked and has power.
pub record ComesBack (alone_ram alone_ring : Bool) (fixed : Fixed) (n : ℕ)
    (known new_known : List Entry) (ring new_ring : List RingEntry) (joined : Bool) : Type 0 where
  pub asks : WentOn alone_ram is_ours known [] new_known
  pub joined_is : joined ≡ not (is_off_at fixed new_known)
  pub grew : Grew alone_ring (is_of n) ring (join_entries n joined) new_ring
  pub stays : joined ≡ false → new_ring ≡ ring

-- Power failed, for this number of times by now: the node leaves for that, gives up each call that
-- waits, and asks to come in again where there is power.
pub record GoesDown (alone_ram alone_ring : Bool) (fixed : Fixed) (net : NetPlan) (n failures : ℕ)
    (known new_known : List Entry) (ring new_ring : List RingEntry) (joined : Bool) : Type 0 where
  pub left_ring : List RingEntry
  pub leaves : LeftRing alone_ring net n (Down failures) ring left_ring
  pub given_known : List Entry
  pub given_ring : List RingEntry
  pub gives_up : PartOf alone_ram alone_ring is_ours n (InOrder IsGivenUp (calls_waiting n ring))
      known given_known left_ring given_ring
  pub away : IsAway net given_ring n
  pub comes : ComesBack alone_ram alone_ring fixed n given_known new_known given_ring new_ring
      joined

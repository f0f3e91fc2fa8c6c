-- What a contract sees of a controller's worker. This project's own.
use Rattle.std.specs.Prelude.{◌≡◌, ℕ, ◌<◌, Bool, List, [], All, Option, None, replicate}
use Rattle.plant_types.specs.declared.net.NetPlan.{NetPlan}
use Rattle.controller_core.specs.declared.entry.Entry.{Entry}
use Rattle.ring_core.specs.Machine.{addresses, path_places}
use Rattle.ring_core.specs.Legal.{IsMember, IsLegalRing}
use Rattle.ring_core.specs.declared.frame.Frame.{Frame}
use Rattle.ring_core.specs.declared.entry.RingEntry.{RingEntry}
use Rattle.tied_lists.specs.Own.{own}
use Rattle.tied_lists.specs.Items.{AController, latest_down}
use Rattle.tied_lists.specs.Tied.{Tied}
use Rattle.tied_lists.specs.Waits.{ArePatient}
use Rattle.comm_port.specs.Giving.{IsAtRest}
use Rattle.comm_port.specs.Sides.{RingSideIs, RamSideIs, MayWrite}
use Rattle.joint_history.specs.Reading.{items_of}
use Rattle.comm_port.specs.Turns.{AreWaiting}

-- A controller's worker: its node, whether it keeps to a budget of Passes, how many failures it has
-- noticed, and the Requests that its paths wait for.
pub record WorkerIs : Type 0 where
  pub node : ℕ
  pub budget : Bool
  pub noticed : ℕ
  pub waiting : List (Option Frame)

-- A worker that has noticed no failure, and none of whose calls waits.
abbrev pub new_worker : ℕ → Bool → WorkerIs
new_worker node budget = record {
  node = node;
  budget = budget;
  noticed = 0;
  waiting = replicate path_places None;
}

-- A worker between two turns is that of before, but for the failures that it has noticed and the
-- Requests that its paths wait for.
abbrev pub IsSameWorker : WorkerIs → WorkerIs → Type 0
IsSameWorker old new =
    new ≡ record old { noticed = new.noticed; waiting = new.waiting }

-- The node is one of the net's members, whose addresses are those of a ring; a call waits for its
-- answer for one Pass at least.
pub record IsMemberWorker (net : NetPlan) (n : ℕ) : Type 0 where
  pub members : All (λ m. m < addresses) net.members
  pub member : IsMember net n
  pub answer : 0 < net.answer

-- A worker stands between two turns: its node is that of the controller and a member of the ring,
-- the lists of both are tied, the failures that it has noticed are those of its node's latest Leave
-- for one, its Requests are those of its node's own list, nothing of the node is to be sent or has
-- failed, and it posted nothing while it asked to come in.
pub record Standing {P Q : Type 0} (w : WorkerIs) (ram : RamSideIs P) (known : List Entry)
    (side : RingSideIs Q) (ring : List RingEntry) : Type 0 where
  pub node : ram.fixed.plan.node ≡ w.node
  pub member : IsMemberWorker side.net w.node
  pub serves : MayWrite side.writer w.node
  pub legal : IsLegalRing side.net ring
  pub patient : ArePatient side.net w.node [] ring
  pub tied : Tied AController (items_of known) (own w.node ring)
  pub noticed : w.noticed ≡ latest_down (own w.node ring)
  pub waits : AreWaiting w.node (items_of known) (own w.node ring) w.waiting
  pub rest : IsAtRest side.net w.node ring

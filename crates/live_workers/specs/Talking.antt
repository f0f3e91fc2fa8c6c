-- What workers in threads keep from turn to turn. This project's own.
use Rattle.std.specs.Prelude.{◌≡◌, ℕ, Bool, true, false, List}
use Rattle.plant_types.specs.declared.net.NetPlan.{NetPlan}
use Rattle.ring_core.specs.declared.entry.RingEntry.{RingEntry}
use Rattle.controller_core.specs.declared.entry.Entry.{Entry}
use Rattle.controller_core.specs.declared.fixed.Fixed.{Fixed}
use Rattle.controller_core.specs.Controller.{IsLegal}
use Rattle.host_port.specs.Host.{HostIs}
use Rattle.tied_lists.specs.Own.{own}
use Rattle.tied_lists.specs.Waits.{has_left, status_at}
use Rattle.comm_port.specs.declared.ram_side.RamSide as ram_sides
use Rattle.comm_port.specs.declared.ring_side.RingSide as ring_sides
use Rattle.comm_port.specs.declared.turn_end.TurnEnd.{TurnEnd}
use Rattle.comm_port.specs.declared.turn_end.TurnEnd.TheVariants as ends
use Rattle.comm_port.specs.Failing.{IsAway}
use Rattle.comm_port.specs.Sides.{RamSideIs, RingSideIs}
use Rattle.comm_port.specs.HostTurns.{CountsPasses, HostTies, HostWorkerIs}
use Rattle.comm_port.specs.Turns.{IsNoBridge}
use Rattle.comm_port.specs.Leaving.{IsHere}
use Rattle.joint_history.specs.Reading.{has_ended_at, has_started_at, is_off_at}
use Rattle.comm_port.specs.Worker.{IsMemberWorker, Standing, WorkerIs}
use Rattle.turn_laws.specs.KeepsOn.{HostKeepsOn, KeepsOn, NoneSpent, StandsTied, is_out_of_ring}
use Rattle.live_workers.specs.declared.talking.Stage.{Stage}
use Rattle.live_workers.specs.declared.talking.Stage.TheVariants.{There, Away, Over}

-- How far a worker has come with a turn that ended so.
abbrev pub stage_of : TurnEnd → Stage
stage_of ends.Passed = There
stage_of ends.Asking = There
stage_of ends.Away = Away
stage_of ends.Left = Over

-- At this stage the node is out of the ring.
abbrev pub is_out_at : Stage → Bool
is_out_at There = false
is_out_at Away = true
is_out_at Over = true

-- Where a node stands at a stage.
abbrev pub StandsAt : Stage → NetPlan → List RingEntry → ℕ → Type 0
StandsAt There net ring n = has_left (status_at net ring n) ≡ false
StandsAt Away net ring n = IsAway net ring n
StandsAt Over net ring n = has_left (status_at net ring n) ≡ true

-- The scans have ended, all calls were collected, and the node is gone, or away without power.
pub record IsOver (fixed : Fixed) (net : NetPlan) (n : ℕ) (known : List Entry)
    (ring : List RingEntry) : Type 0 where
  pub ended : has_ended_at fixed known ≡ true
  pub collected : has_started_at fixed known ≡ false
  pub out : is_out_of_ring (is_off_at fixed known) (status_at net ring n) ≡ true

-- What holds of a controller's list as its communication knows it, and of its node's list, where
-- the controller's is legal.
pub record SoFar {P Q : Type 0} (w : WorkerIs) (ram : RamSideIs P) (known : List Entry)
    (side : RingSideIs Q) (ring : List RingEntry) (stage : Stage) : Type 0 where
  pub stands : StandsTied ram.fixed side.net w.node known ring
  pub keeps : KeepsOn ram.fixed side.net w.node known ring (is_out_at stage)
  pub over : stage ≡ Over → IsOver ram.fixed side.net w.node known ring

-- A controller's worker without a budget stands between two turns, and is not the end of a bridge.
pub record TalksOn {P Q : Type 0} (w : WorkerIs) (ram : RamSideIs P) (known : List Entry)
    (side : RingSideIs Q) (ring : List RingEntry) (stage : Stage) : Type 0 where
  pub member : IsMemberWorker side.net w.node
  pub no_bridge : IsNoBridge side.net w.node
  pub budget : w.budget ≡ false
  pub standing : Standing w ram known side ring
  pub stands_at : StandsAt stage side.net ring w.node
  pub unspent : NoneSpent (own w.node ring)
  pub so_far : IsLegal ram.fixed known → SoFar w ram known side ring stage

module _ {M P R Q : Type 0} (m : ram_sides.Ghosts M P) (r : ring_sides.Ghosts R Q) where
  -- A controller's worker without a budget stands between two turns, at these two sides.
  abbrev pub TalksOver : WorkerIs → M → R → Stage → Type 0
  TalksOver w ram ring stage =
      TalksOn w (m.side ram) (m.known ram) (r.side ring) (r.known ring) stage

-- A host's worker without a budget stands between two turns, and is not the end of a bridge.
pub record AttendsOn {Q : Type 0} (w : HostWorkerIs) (host : HostIs) (side : RingSideIs Q)
    (ring : List RingEntry) (left : Bool) : Type 0 where
  pub node : host.plan.node ≡ w.node
  pub no_bridge : IsNoBridge side.net w.node
  pub budget : w.budget ≡ false
  pub ties : HostTies w.node host side ring
  pub counts : CountsPasses w ring
  pub here : left ≡ false → IsHere side.net ring w.node
  pub unspent : NoneSpent (own w.node ring)
  pub keeps : HostKeepsOn host.plan side.net host.history ring left

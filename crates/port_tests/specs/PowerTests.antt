-- Words of the tests of power failures. This project's own.
use Rattle.std.specs.Prelude.{◌≡◌, ℕ, Bool, true, List}
use Rattle.plant_types.specs.declared.net.NetPlan.{NetPlan}
use Rattle.controller_core.specs.Controller.{ControllerIs}
use Rattle.ring_core.specs.declared.entry.RingEntry.{RingEntry}
use Rattle.tied_lists.specs.Waits.{IsOnRing}
use Rattle.comm_port.specs.Failing.{IsAway}
use Rattle.comm_port.specs.HostStands.{own_side}
use Rattle.comm_port.specs.Turns.{IsNoBridge}
use Rattle.comm_port.specs.Worker.{WorkerIs, Standing}

-- The controller of a node can begin a turn: it stands on the ring between two turns, by itself as
-- its worker has it; a node that is told to be away is, and it is not the end of a bridge.
pub record CanTurn (node : ℕ) (controller : ControllerIs) (worker : WorkerIs) (away : Bool)
    (net : NetPlan) (ring : List RingEntry) : Type 0 where
  pub worker_node : worker.node ≡ node
  pub standing : Standing worker (record { fixed = controller.fixed; place = tt {0} })
      controller.history (own_side net) ring
  pub on : IsOnRing net ring node
  pub no_bridge : IsNoBridge net node
  pub is_away : away ≡ true → IsAway net ring node

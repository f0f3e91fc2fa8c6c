-- A host with its worker, at a ring that they reach by themselves. This project's own.
use Rattle.std.specs.Prelude.{◌≡◌, ℕ, Bool, false, List, None}
use Rattle.plant_types.specs.declared.net.NetPlan.{NetPlan}
use Rattle.ring_core.specs.declared.entry.RingEntry.{RingEntry}
use Rattle.host_port.specs.Host.{HostIs}
use Rattle.comm_port.specs.Leaving.{IsHere}
use Rattle.comm_port.specs.Sides.{RingSideIs}
use Rattle.comm_port.specs.Turns.{IsNoBridge}
use Rattle.comm_port.specs.HostTurns.{CountsPasses, HostTies, HostWorkerIs}

-- What the ring itself says as a side: anybody may write there.
abbrev pub own_side : NetPlan → RingSideIs (Unit {0})
own_side net = record { net = net; writer = None; place = tt }

-- The host of a node stands on the ring between two turns: it is tied to its node's entries, its
-- worker counts its node's Passes, and the node is there unless it left, and is not the end of a
-- bridge.
pub record HostIsReady (node : ℕ) (host : HostIs) (worker : HostWorkerIs) (left : Bool)
    (net : NetPlan) (ring : List RingEntry) : Type 0 where
  pub worker_node : worker.node ≡ node
  pub ties : HostTies node host (own_side net) ring
  pub counts : CountsPasses worker ring
  pub here : left ≡ false → IsHere net ring node
  pub no_bridge : IsNoBridge net node

-- Laws of lists in time, whoever else writes between their entries. This project's own.
use Rattle.std.specs.Prelude.{◌≡◌, ℕ, Bool, List, [], ◌++◌, filter}
use Rattle.plant_types.specs.declared.net.HostPlan.{HostPlan}
use Rattle.plant_types.specs.declared.net.NetPlan.{NetPlan}
use Rattle.controller_core.specs.Controller.{IsLegal}
use Rattle.controller_core.specs.declared.entry.Entry.{Entry}
use Rattle.controller_core.specs.declared.fixed.Fixed.{Fixed}
use Rattle.host_port.specs.declared.entry.HostEntry.{HostEntry}
use Rattle.ring_core.specs.declared.entry.RingEntry.{RingEntry}
use Rattle.tied_lists.specs.Own.{own}
use Rattle.tied_lists.specs.Waits.{IsOnRing}
use Rattle.comm_port.specs.declared.turn_end.TurnEnd.{TurnEnd}
use Rattle.comm_port.specs.Failing.{ComesBack}
use Rattle.comm_port.specs.HoldTurn.{VisitsEnd}
use Rattle.comm_port.specs.WholeTurn.{HoldsTurn}
use Rattle.comm_port.specs.HostTurns.{HoldsHostTurn}
use Rattle.comm_port.specs.JointHistory.{is_ours}
use Rattle.time_laws.specs.InTime.{StaysInTime, HostStaysInTime}

-- A hold of the token keeps a controller's list in time with its node.
abbrev pub TurnsStayInTime : Type 0
TurnsStayInTime =
    (alone_ram alone_ring : Bool) (fixed : Fixed) (net : NetPlan) (n : ℕ) (budget : Bool)
    (end : TurnEnd) (known new_known : List Entry) (ring new_ring : List RingEntry)
    → fixed.plan.node ≡ n → IsOnRing net ring n → IsLegal fixed new_known
    → HoldsTurn alone_ram alone_ring fixed net n budget known new_known ring new_ring end
    → StaysInTime n known ring → StaysInTime n new_known new_ring

-- The turn of a node that is away keeps a controller's list in time with its node.
abbrev pub AwayTurnsStayInTime : Type 0
AwayTurnsStayInTime =
    (alone_ram alone_ring : Bool) (fixed : Fixed) (n : ℕ) (joined : Bool)
    (known new_known : List Entry) (ring new_ring : List RingEntry)
    → ComesBack alone_ram alone_ring fixed n known new_known ring new_ring joined
    → StaysInTime n known ring → StaysInTime n new_known new_ring

-- A visit of a controller whose node has left keeps its list in time with its node.
abbrev pub VisitsStayInTime : Type 0
VisitsStayInTime =
    (alone_ram alone_ring : Bool) (fixed : Fixed) (net : NetPlan) (n : ℕ)
    (known new_known : List Entry) (ring new_ring : List RingEntry)
    → fixed.plan.node ≡ n → IsLegal fixed new_known
    → VisitsEnd alone_ram alone_ring fixed net n known new_known ring new_ring
    → StaysInTime n known ring → StaysInTime n new_known new_ring

-- A hold of the token keeps a host's list in time with its node.
abbrev pub HostTurnsStayInTime : Type 0
HostTurnsStayInTime =
    (alone : Bool) (net : NetPlan) (n : ℕ) (plan : HostPlan) (budget left : Bool)
    (list new_list : List HostEntry) (ring new_ring : List RingEntry)
    → IsOnRing net ring n
    → HoldsHostTurn alone net n plan budget list new_list ring new_ring left
    → HostStaysInTime n list ring → HostStaysInTime n new_list new_ring

-- Events of the scan, and entries of other nodes, keep a controller in time.
abbrev pub OthersStayInTime : Type 0
OthersStayInTime =
    (n : ℕ) (known more : List Entry) (ring others : List RingEntry)
    → filter is_ours more ≡ [] → own n others ≡ []
    → StaysInTime n known ring → StaysInTime n (known ++ more) (ring ++ others)

-- Entries of other nodes keep a host in time.
abbrev pub HostOthersStayInTime : Type 0
HostOthersStayInTime =
    (n : ℕ) (list : List HostEntry) (ring others : List RingEntry) → own n others ≡ []
    → HostStaysInTime n list ring → HostStaysInTime n list (ring ++ others)

-- A controller begins in time, and so does a host.
abbrev pub StartsInTime : Type 0
StartsInTime = (n : ℕ) (ring : List RingEntry) → own n ring ≡ [] → StaysInTime n [] ring

abbrev pub HostStartsInTime : Type 0
HostStartsInTime = (n : ℕ) (ring : List RingEntry) → own n ring ≡ [] → HostStaysInTime n [] ring

-- Where a node stands toward its ring, by its own entries. This project's own.
use Rattle.std.specs.Prelude.{List, [], ◌∷◌}
use Rattle.ring_core.specs.declared.entry.LeaveCause.{LeaveCause}
use Rattle.ring_core.specs.declared.entry.LeaveCause.TheVariants.{Ended, Spent, Down}
use Rattle.ring_core.specs.declared.entry.RingEntry.{RingEntry}
use Rattle.ring_core.specs.declared.entry.RingEntry.TheVariants.{Leave, Join}
use Rattle.ring_core.specs.declared.status.NodeStatus.{NodeStatus}
use Rattle.ring_core.specs.declared.status.NodeStatus.TheVariants.{In, Away, Gone}

-- Where a node stands that left, by why it did.
abbrev pub status_left : LeaveCause → NodeStatus
status_left Ended = Gone
status_left Spent = Gone
status_left (Down number) = Away

-- Where a node stands after one entry more of its own; one that asks to come in counts as in.
abbrev pub status_next : NodeStatus → RingEntry → NodeStatus
status_next status (Leave n cause) = status_left cause
status_next status (Join n) = In
status_next status _ = status

-- Where a node stands after these entries, from where it stood.
abbrev pub status_from : NodeStatus → List RingEntry → NodeStatus
status_from status [] = status
status_from status (e ∷ es) = status_from (status_next status e) es

-- Where a member stands after all its entries.
abbrev pub status_by : List RingEntry → NodeStatus
status_by entries = status_from In entries

-- The rings of the networks of a plant. This project's own.
use Rattle.std.specs.Prelude.{ℕ, ◌==◌, List, [], ◌∷◌, ◌++◌, Option, Some, None}
use Rattle.std.specs.List.{find}
use Rattle.plant_types.specs.declared.plan.Plant.{Plant}
use Rattle.plant_types.specs.Plans.{net_of}
use Rattle.ring_core.specs.declared.entry.RingEntry.{RingEntry}
use Rattle.joint_history.specs.declared.joint.RingLog.{RingLog}
use Rattle.joint_history.specs.declared.joint.Joint.{Joint}

-- The entries of all rings, one ring after the other. Each address stands once in a plant, so what a
-- node noted on the ring of its network is what it noted among these.
abbrev pub entries_of_rings : List RingLog → List RingEntry
entries_of_rings [] = []
entries_of_rings (ring ∷ []) = ring.entries
entries_of_rings (ring ∷ next ∷ rings) = ring.entries ++ entries_of_rings (next ∷ rings)

-- What all nodes of a joint history noted on their rings.
abbrev pub noted_on_rings : Joint → List RingEntry
noted_on_rings joint = entries_of_rings joint.rings

-- The entries of a ring, if there is one.
abbrev pub entries_if : Option RingLog → List RingEntry
entries_if None = []
entries_if (Some ring) = ring.entries

-- The entries of the ring of a network; none where it has no ring.
abbrev pub entries_on : ℕ → List RingLog → List RingEntry
entries_on network rings = entries_if (find (λ (ring : RingLog). ring.network == network) rings)

-- What the nodes of a network noted on their ring.
abbrev pub noted_on : ℕ → Joint → List RingEntry
noted_on network joint = entries_on network joint.rings

-- What the nodes of a node's own network noted on their ring.
abbrev pub own_ring : Plant → List RingLog → ℕ → List RingEntry
own_ring plant rings node = entries_on (net_of plant node).number rings

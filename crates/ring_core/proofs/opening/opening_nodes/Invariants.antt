use Rattle.std.proofs.Common.{◌≡◌, drop, replicate, length, false}
use Rattle.ring_core.specs.Machine.{fresh, with_members, addresses, opening_nodes}
use Rattle.ring_core.proofs.opening.opening_nodes.Given as goal

abbrev pub invariant-loop : goal.invariant-loop
invariant-loop l = l.nodes.items ≡ replicate l.counter (fresh false)

abbrev pub invariant-loop-member : goal.invariant-loop-member
invariant-loop-member l =
    (length l.nodes.items ≡ addresses)
    × (with_members l.nodes.items (drop l.member-index l.members) ≡ opening_nodes l.members)

use Rattle.std.proofs.Common.{◌≡◌, ◌==◌, ◌||◌, not, drop}
use Rattle.std.specs.List.{list_all}
use Rattle.ring_core.specs.Machine.{part_of, is_bridge, is_in_or_asking, only_bridges}
use Rattle.ring_core.proofs.members.only_bridges.Given as goal

abbrev pub invariant-loop-member : goal.invariant-loop-member
invariant-loop-member l =
    list_all (λ m. (m == l.node) || is_bridge l.net m
    || not (is_in_or_asking (part_of l.nodes m).status)) (drop l.member-index l.members)
    ≡ only_bridges l.net l.nodes l.node

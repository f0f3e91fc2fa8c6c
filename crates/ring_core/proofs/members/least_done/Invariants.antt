use Rattle.std.proofs.Common.{◌≡◌, ◌&&◌, not, min, map, filter, fold, drop}
use Rattle.ring_core.specs.Machine.{part_of, is_here, is_bridge}
use Rattle.ring_core.specs.Refusals.{least_done, dones_of}
use Rattle.ring_core.proofs.members.least_done.Given as goal

abbrev pub invariant-loop-member : goal.invariant-loop-member
invariant-loop-member l =
    fold min l.least (map (dones_of l.nodes)
    (filter (λ m. is_here (part_of l.nodes m) && not (is_bridge l.net m))
    (drop l.member-index l.members)))
    ≡ least_done l.net l.nodes l.own

use Rattle.std.proofs.Common.{◌-◌, ◌^◌}
use Rattle.state_space.specs.Search.{IsExplored}
use Rattle.state_space.proofs.exploring.explore.Given as goal

abbrev pub invariant-states : goal.invariant-states
invariant-states g l = record {
  fits : g.M.Machine.fits l.machine l.work;
  explored : IsExplored (g.M.Machine.starts l.machine) (g.M.Machine.count l.machine)
      (g.M.Machine.leads l.machine) (g.M.Machine.bad l.machine) l.limit l.search.found.entries
      l.head 0 l.head;
}

abbrev pub decreases-states : goal.decreases-states
decreases-states g l = 2 ^ 63 - l.head

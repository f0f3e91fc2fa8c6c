use Rattle.std.proofs.Common.{◌+◌}
use Rattle.state_space.specs.Search.{IsExplored, IsTakenUp}
use Rattle.state_space.proofs.exploring.Search.look_on.Given as goal

abbrev pub invariant-moves : goal.invariant-moves
invariant-moves g l = record {
  fits : g.M.Machine.fits l.machine l.work;
  explored : IsExplored (g.M.Machine.starts l.machine) (g.M.Machine.count l.machine)
      (g.M.Machine.leads l.machine) (g.M.Machine.bad l.machine) l.fn._limit l.self.found.entries
      l.head l.by (l.head + 1);
  taken : IsTakenUp l.self.found.entries l.head l.self.state.items l.depth;
}

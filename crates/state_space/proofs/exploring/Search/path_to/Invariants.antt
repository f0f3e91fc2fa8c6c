use Rattle.state_space.proofs.Trails.{IsTrail}
use Rattle.state_space.proofs.exploring.Search.path_to.Given as goal

abbrev pub invariant-back : goal.invariant-back
invariant-back g l =
    IsTrail (g.M.Machine.starts l._machine) (g.M.Machine.count l._machine)
    (g.M.Machine.leads l._machine) l.self.found.entries l.end l.at l.path.items

abbrev pub decreases-back : goal.decreases-back
decreases-back g l = l.at

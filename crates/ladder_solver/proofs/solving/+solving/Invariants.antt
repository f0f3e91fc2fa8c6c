use Rattle.std.proofs.Common.{◌≡◌, ◌+◌, ◌-◌, ◌*◌, take}
use Rattle.std.specs.List.{slice_range}
use Rattle.plant_types.specs.declared.network.Network.{Network}
use Rattle.plant_types.specs.Store.{Keeps}
use Rattle.ladder_solver.specs.Numbers.{networks_of}
use Rattle.ladder_solver.specs.Segment.{networks_after}
use Rattle.ladder_solver.specs.Flow.{GoesOn}
use Rattle.ladder_solver.specs.Layout.{network_spots}
use Rattle.ladder_solver.specs.Agreement.{KeepsScan, solving, spots_after, InProgram, AgreesSolved}
use Rattle.ladder_solver.proofs.Networks.{begun}
use Rattle.ladder_solver.proofs.solving.+solving.Given as goal

-- each call goes down one of six levels, and a subroutine's run down six
abbrev pub decreases-solve_call : goal.decreases-solve_call
decreases-solve_call g l = 6 * l.depth

abbrev pub decreases-solve_element : goal.decreases-solve_element
decreases-solve_element g l = 6 * l.depth + 1

abbrev pub decreases-solve_spot : goal.decreases-solve_spot
decreases-solve_spot g l = 6 * l.at.depth + 2

abbrev pub decreases-solve_network : goal.decreases-solve_network
decreases-solve_network g l = 6 * l.at.depth + 3

abbrev pub decreases-solve_turn : goal.decreases-solve_turn
decreases-solve_turn g l = 6 * l.at.depth + 4

abbrev pub decreases-solve_run : goal.decreases-solve_run
decreases-solve_run g l = 6 * l.run.depth + 5

-- the cells so far are solved, and the solve goes on, for each network whose they are
abbrev pub invariant-solve_network-loop-spot : goal.invariant-solve_network-loop-spot
invariant-solve_network-loop-spot g l =
    let contents = g.R.RefStore.contents in
    let past = g.P.RefStore.contents l.lent.past.now in
    record {
      keeps : Keeps (contents l.fn.ram) (contents l.ram);
      scan : KeepsScan l.fn.scan l.scan;
      solved : InProgram l.lent.program.now l.at.depth (λ segments setting. (network : Network)
          → l.spots ≡ network_spots setting.numbers l.at.site network
          → AgreesSolved network.shorts l.live (solving (contents l.ram) past l.scan) GoesOn
          (spots_after setting network.shorts l.at.site (take l.spot-index l.spots)
          (begun (solving (contents l.fn.ram) past l.fn.scan))));
    }

-- what is left of the run does what the whole run does
abbrev pub invariant-solve_run-loop-i : goal.invariant-solve_run-loop-i
invariant-solve_run-loop-i g l =
    let contents = g.R.RefStore.contents in
    let past = g.P.RefStore.contents l.lent.past.now in
    record {
      keeps : Keeps (contents l.fn.ram) (contents l.ram);
      scan : KeepsScan l.fn.scan l.scan;
      solved : InProgram l.lent.program.now l.run.depth (λ segments setting.
          networks_after setting l.run.segment (l.run.span.first + 1)
          (slice_range (networks_of segments l.run.segment) l.run.span.first l.run.span.end) 0
          (solving (contents l.fn.ram) past l.fn.scan)
          ≡ networks_after setting l.run.segment (l.i + 1)
          (slice_range (networks_of segments l.run.segment) l.i l.run.span.end) 0
          (solving (contents l.ram) past l.scan));
    }

abbrev pub decreases-solve_run-loop-i : goal.decreases-solve_run-loop-i
decreases-solve_run-loop-i g l = l.run.span.end - l.i

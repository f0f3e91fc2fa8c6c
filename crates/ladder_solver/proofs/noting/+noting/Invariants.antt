use Rattle.std.proofs.Common.{◌≡◌, ◌+◌, ◌-◌, ◌*◌, ◌++◌, take}
use Rattle.std.specs.List.{slice_range}
use Rattle.plant_types.specs.declared.network.Network.{Network}
use Rattle.plant_types.specs.Store.{Keeps}
use Rattle.ladder_solver.specs.Numbers.{networks_of}
use Rattle.ladder_solver.specs.Segment.{networks_after}
use Rattle.ladder_solver.specs.Flow.{GoesOn}
use Rattle.ladder_solver.specs.Layout.{network_spots}
use Rattle.ladder_solver.specs.Agreement.{KeepsScan, solving, spots_after, InProgram, AgreesSolved}
use Rattle.ladder_solver.specs.Noted.{networks_notes, notes_within}
use Rattle.ladder_solver.specs.Noting.{Spends}
use Rattle.ladder_solver.proofs.Networks.{begun}
use Rattle.ladder_solver.proofs.SpotNotes.{spots_notes}
use Rattle.ladder_solver.proofs.noting.+noting.Given as goal

-- each call goes down one of seven levels, and a subroutine's run down seven
abbrev pub decreases-note_call : goal.decreases-note_call
decreases-note_call g l = 7 * l.depth

abbrev pub decreases-note_element : goal.decreases-note_element
decreases-note_element g l = 7 * l.depth + 1

abbrev pub decreases-note_spot : goal.decreases-note_spot
decreases-note_spot g l = 7 * l.at.depth + 2

abbrev pub decreases-note_spots : goal.decreases-note_spots
decreases-note_spots g l = 7 * l.at.depth + 3

abbrev pub decreases-note_network : goal.decreases-note_network
decreases-note_network g l = 7 * l.at.depth + 4

abbrev pub decreases-note_turn : goal.decreases-note_turn
decreases-note_turn g l = 7 * l.at.depth + 5

abbrev pub decreases-note_run : goal.decreases-note_run
decreases-note_run g l = 7 * l.run.depth + 6

-- the cells so far are solved and noted, and the solve goes on, for each network whose they are
abbrev pub invariant-note_spots-loop-spot : goal.invariant-note_spots-loop-spot
invariant-note_spots-loop-spot g l =
    let contents = g.R.RefStore.contents in
    let past = g.P.RefStore.contents l.lent.past.now in
    record {
      keeps : Keeps (contents l.fn.ram) (contents l.ram);
      scan : KeepsScan l.fn.scan l.scan;
      solved : InProgram l.lent.program.now l.at.depth (λ segments setting. (network : Network)
          → l.spots ≡ network_spots setting.numbers l.at.site network
          → AgreesSolved network.shorts l.live (solving (contents l.ram) past l.scan) GoesOn
          (spots_after setting network.shorts l.at.site (take l.spot-index l.spots)
          (begun (solving (contents l.fn.ram) past l.fn.scan))));
      noted : InProgram l.lent.program.now l.at.depth (λ segments setting. (network : Network)
          → l.spots ≡ network_spots setting.numbers l.at.site network
          → l.notes.items ≡ l.fn.notes.items
          ++ spots_notes (notes_within l.at.depth segments) setting network.shorts l.at.site
          (take l.spot-index l.spots) (begun (solving (contents l.fn.ram) past l.fn.scan)));
      spends : Spends 0 l.fn.notes l.fn.scan.left l.notes l.scan.left;
    }

-- what is left of the run does and notes what the whole run does
abbrev pub invariant-note_run-loop-i : goal.invariant-note_run-loop-i
invariant-note_run-loop-i g l =
    let contents = g.R.RefStore.contents in
    let past = g.P.RefStore.contents l.lent.past.now in
    record {
      keeps : Keeps (contents l.fn.ram) (contents l.ram);
      scan : KeepsScan l.fn.scan l.scan;
      solved : InProgram l.lent.program.now l.run.depth (λ segments setting.
          networks_after setting l.run.segment (l.run.span.first + 1)
          (slice_range (networks_of segments l.run.segment) l.run.span.first l.run.span.end) 0
          (solving (contents l.fn.ram) past l.fn.scan)
          ≡ networks_after setting l.run.segment (l.i + 1)
          (slice_range (networks_of segments l.run.segment) l.i l.run.span.end) 0
          (solving (contents l.ram) past l.scan));
      noted : InProgram l.lent.program.now l.run.depth (λ segments setting.
          l.fn.notes.items
          ++ networks_notes (notes_within l.run.depth segments) setting l.run.segment
          (l.run.span.first + 1)
          (slice_range (networks_of segments l.run.segment) l.run.span.first l.run.span.end) 0
          (solving (contents l.fn.ram) past l.fn.scan)
          ≡ l.notes.items
          ++ networks_notes (notes_within l.run.depth segments) setting l.run.segment (l.i + 1)
          (slice_range (networks_of segments l.run.segment) l.i l.run.span.end) 0
          (solving (contents l.ram) past l.scan));
      spends : Spends 0 l.fn.notes l.fn.scan.left l.notes l.scan.left;
    }

abbrev pub decreases-note_run-loop-i : goal.decreases-note_run-loop-i
decreases-note_run-loop-i g l = l.run.span.end - l.i

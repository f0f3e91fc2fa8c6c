use Rattle.std.proofs.Common.{rules, ◌+◌, ◌-◌, ◌*◌, ◌<◌, ◌≤◌, ◌++◌, ◌∷◌, [], length, get_or, refl, sym}
use Rattle.std.proofs.Common.{ap, ◌∙◌, subst, take, Some, None, arith}
use Rattle.std.specs.Prelude.{map, bit_or, IfSome}
use Rattle.std.specs.List.{AllByRecursion}
use Rattle.std.proofs.lemmas.List.{append-nil, append_assoc, length-map, take_all}
use Rattle.grid_compile.specs.Layout.{grid_of}
use Rattle.ladder_solver.specs.Edges.{HasNetworks}
use Rattle.ladder_solver.specs.Flow.{Flow, GoesOn}
use Rattle.ladder_solver.specs.Noted.{element_notes, notes_within}
use Rattle.ladder_solver.specs.Noting.{border_at}
use Rattle.ladder_solver.specs.Numbers.{networks_of, block_number}
use Rattle.ladder_solver.specs.Segment.{setting_within}
use Rattle.ladder_solver.specs.Program.{spots_at}
use Rattle.ladder_solver.specs.Conditions.{CanSolveSpot, CanSolveNetwork}
use Rattle.ladder_solver.specs.Agreement.{AgreesSolved, solving, spots_after}
use Rattle.ladder_solver.proofs.Stored.{all_at, all_at_item, CanSolveNetwork-kept}
use Rattle.ladder_solver.proofs.Stored.{CanSolveSegment-kept}
use Rattle.ladder_solver.proofs.Simulation.{spot-done, inputs_at-flags}
use Rattle.ladder_solver.proofs.Networks.{begun, spots-more, spots-item, spots-on, network-done}
use Rattle.ladder_solver.proofs.Networks.{network-over}
use Rattle.ladder_solver.proofs.Runs.{run-ends, run-goes, run-over}
use Rattle.ladder_solver.proofs.LadderLemmas.{length-spots_at}
use Rattle.ladder_solver.proofs.NumberLemmas.{spots_at-of}
use Rattle.ladder_solver.proofs.Calls.{call-deep, call-missing, call-found, called-some}
use Rattle.ladder_solver.proofs.RunNotes.{adds_none, network-noted, not_called, notes-deep}
use Rattle.ladder_solver.proofs.RunNotes.{notes-end, notes-found, notes-go, notes-missing}
use Rattle.ladder_solver.proofs.RunNotes.{notes-over, skips_turned, turn_told}
use Rattle.ladder_solver.proofs.SpotNotes.{items_more, spots-done, spots-ended}
use Rattle.ladder_solver.proofs.noting.+noting.Goals as goal

pub note_call-returns-then-depth-eq0-clause-solved :
    goal.note_call-returns-then-depth-eq0-clause-solved
note_call-returns-then-depth-eq0-clause-solved g t c segments same =
    call-deep segments c.args.depth c.args.number _ c.with.result c.if-depth-eq0.true c.with.ensures

pub note_call-returns-then-depth-eq0-clause-noted :
    goal.note_call-returns-then-depth-eq0-clause-noted
note_call-returns-then-depth-eq0-clause-noted g t c segments same =
    adds_none _ _ (notes-deep segments c.args.depth c.args.number _ c.if-depth-eq0.true)

pub note_call-returns-in_default-clause-solved : goal.note_call-returns-in_default-clause-solved
note_call-returns-in_default-clause-solved g t c segments same =
    call-missing segments c.args.depth c.args.number _ c.subroutine.result c.with-in_default.result
    (c.subroutine.ensures.span segments same) c.in_default.is c.with-in_default.ensures

pub note_call-returns-in_default-clause-noted : goal.note_call-returns-in_default-clause-noted
note_call-returns-in_default-clause-noted g t c segments same =
    adds_none _ _
    (notes-missing segments c.args.depth c.args.number _ c.subroutine.result
    (c.subroutine.ensures.span segments same) c.in_default.is)

pub note_call-returns-clause-solved : goal.note_call-returns-clause-solved
note_call-returns-clause-solved g t c segments same =
    called-some _ _ _ _
    (call-found segments c.args.depth c.args.number c.last.result _ _ c.subroutine.result
    c.in-Some.span c.if-depth-eq0.false
    (c.subroutine.ensures.span segments same) c.in-Some.is
    (c.last.ensures ∙ ap length (sym same)
    ∙ length-map segments (λ segment. map grid_of segment.networks))
    (c.note_run.ensures.solved segments same)) c.behind.ensures

pub note_call-returns-clause-noted : goal.note_call-returns-clause-noted
note_call-returns-clause-noted g t c segments same =
    notes-found segments c.args.depth c.args.number c.last.result _ c.subroutine.result
    c.in-Some.span _ _ c.if-depth-eq0.false
    (c.subroutine.ensures.span segments same) c.in-Some.is
    (c.last.ensures ∙ ap length (sym same)
    ∙ length-map segments (λ segment. map grid_of segment.networks))
    (c.note_run.ensures.noted segments same)

pub note_element-returns-in_default-clause-noted : goal.note_element-returns-in_default-clause-noted
note_element-returns-in_default-clause-noted g t c segments same =
    adds_none _ _
    (not_called (notes_within c.args.depth segments) c.args.placed.element c.args.inputs _
    c.in_default.not-Call)

pub note_network-returns-clause-noted : goal.note_network-returns-clause-noted
note_network-returns-clause-noted g t c segments same network laid =
    let noted = c.note_spots-ended.ensures.noted segments same network laid in
    network-noted (notes_within c.args.at.depth segments)
    (setting_within c.args.at.depth segments) network c.args.at.site _
    (border_at c.note_spots-ended.new.live c.note_spots-ended.result.columns) _ _ _ _ noted.notes
    noted.borders c.conducted.ensures c.push_note.ensures.items

pub note_spot-returns-clause-solved : goal.note_spot-returns-clause-solved
note_spot-returns-clause-solved g t c segments same numbered =
    spot-done (setting_within c.args.at.depth segments) c.args.spot.now c.args.at.site _ _ _ _
    c.note_element-solved.result c.requires.can_solve.left
    (omega (arith, c.requires.can_solve.right)) c.requires.can_solve.first c.requires.can_solve.last
    (rw (c.inputs_at-inputs.ensures, c.place.ensures) at
    (c.note_element-solved.ensures.solved segments same (numbered ∙ ap
    (block_number segments) (sym c.place.ensures))))
    (ap (λ n. bit_or (get_or c.args.live.now c.args.spot.now.column 0) n) c.fed_rows.ensures)

pub note_spot-returns-clause-noted : goal.note_spot-returns-clause-noted
note_spot-returns-clause-noted g t c segments same shorts p agrees state =
    let spot = c.args.spot.now in
    let noting = notes_within c.args.at.depth segments in
    let inputs = c.inputs_at-inputs.ensures
    ∙ sym (inputs_at-flags shorts spot.column spot.row c.args.live.now p
    c.requires.can_solve.left c.requires.can_solve.first agrees) in
    c.note_element-solved.ensures.noted segments same
    ∙ (λ i. c.args.notes.now.items
    ++ element_notes noting spot.element (inputs i) (sym state i))

pub note_spots-note_spot-flow-requires : goal.note_spots-note_spot-flow-requires
note_spots-note_spot-flow-requires g t c κs within =
    let items = c.as_slice-spot-items.result.now in
    let can : AllByRecursion (CanSolveSpot (g.R.RefStore.contents c.args.ram.now)
    (g.P.RefStore.contents c.args.lent.now.past.now) c.args.scan.now) items =
    rw c.as_slice-spot-items.ensures c.requires.can_solve in
    let kept = c.loop-spot.invariant.scan.counts in (
      omega (arith, c.decreases),
      (
        within.0,
        (
          within.1,
          (
            CanSolveSegment-kept _ _ _ _ _ c.loop-spot.invariant.keeps c.loop-spot.invariant.scan _
                _ c.requires.calls,
            (
              all_at (CanSolveSpot _ _ _) items c.loop-spot.spot-index _ c.loop-spot-test.true
                  (CanSolveNetwork-kept _ _ _ _ _ c.loop-spot.invariant.keeps
                  c.loop-spot.invariant.scan items can),
              (
                subst (λ counts. HasNetworks counts c.args.at.site.segment c.args.at.site.network)
                    (sym kept) c.requires.networks,
                (
                  c.requires.number,
                  omega (
                    arith,
                    c.requires.room,
                    c.loop-spot.invariant.spends.many,
                    c.loop-spot.invariant.spends.room,
                  ),
                ),
              ),
            ),
          ),
        ),
      ),
    )

pub note_spots-returns-then-not-goes_on-clause-solved :
    goal.note_spots-returns-then-not-goes_on-clause-solved
note_spots-returns-then-not-goes_on-clause-solved g t c segments same network laid =
    let setting = setting_within c.args.at.depth segments in
    network-over setting network c.args.at.site c.args.spots.now (c.loop-spot.spot-index + 1) _ _ _
    _ laid (sym c.goes_on.ensures ∙ c.if-not-goes_on.true)
    (spots-item setting network c.args.at.site c.as_slice-spot-items.result.now c.args.spots.now
    c.loop-spot.spot-index _ _ _ _ _ _ _
    c.as_slice-spot-items.ensures laid c.loop-spot-test.true
    (c.loop-spot.invariant.solved segments same network laid)
    (c.note_spot-flow.ensures.solved segments same))

pub note_spots-returns-then-not-goes_on-clause-noted :
    goal.note_spots-returns-then-not-goes_on-clause-noted
note_spots-returns-then-not-goes_on-clause-noted g t c segments same network laid =
    let setting = setting_within c.args.at.depth segments in
    let items = c.as_slice-spot-items.result.now in
    let slice = c.as_slice-spot-items.ensures in
    let place = c.loop-spot.spot-index in
    let s = solving (g.R.RefStore.contents c.args.ram.now)
    (g.P.RefStore.contents c.args.lent.now.past.now) c.args.scan.now in
    let now = solving (g.R.RefStore.contents c.loop-spot.ram)
    (g.P.RefStore.contents c.args.lent.now.past.now) c.loop-spot.scan in
    let goes = subst (λ xs. AgreesSolved network.shorts c.loop-spot.live now GoesOn
    (spots_after setting network.shorts c.args.at.site (take place xs) (begun s))) (sym slice)
    (c.loop-spot.invariant.solved segments same network laid) in
    let ended = spots-ended (notes_within c.args.at.depth segments) setting network c.args.at.site s
    _ _ items place _ _ _ _ _ _ (slice ∙ laid) c.loop-spot-test.true goes
    (spots-more setting network c.args.at.site items place _ _ _ s _ _ _ (slice ∙ laid)
    c.loop-spot-test.true goes (c.note_spot-flow.ensures.solved segments same))
    (sym c.goes_on.ensures ∙ c.if-not-goes_on.true)
    (items_more (notes_within c.args.at.depth segments) setting network c.args.at.site s _ items
    items place _ _ _ _ _ refl c.loop-spot-test.true goes
    (rw (sym slice) at (c.loop-spot.invariant.noted segments same network laid))
    (c.note_spot-flow.ensures.noted segments same network.shorts)) in
    record { notes = ended.0; borders = ended.1 }

pub note_spots-loop-spot-preserved : goal.note_spots-loop-spot-preserved
note_spots-loop-spot-preserved g t c = record {
  keeps = λ at h. c.note_spot-flow.ensures.keeps at (c.loop-spot.invariant.keeps at h);
  scan = record {
    clock = c.note_spot-flow.ensures.scan.clock ∙ c.loop-spot.invariant.scan.clock;
    counts = c.note_spot-flow.ensures.scan.counts ∙ c.loop-spot.invariant.scan.counts;
    bank = c.note_spot-flow.ensures.scan.bank ∙ c.loop-spot.invariant.scan.bank;
  };
  solved = λ segments same network laid.
      let setting = setting_within c.args.at.depth segments in
      spots-on setting network c.args.at.site (take (c.loop-spot.spot-index + 1) c.args.spots.now) _
      _ _ c.note_spot-flow.result
      (sym c.goes_on.ensures ∙ c.if-not-goes_on.false)
      (spots-item setting network c.args.at.site c.as_slice-spot-items.result.now c.args.spots.now
      c.loop-spot.spot-index _ _ _ _ _ _ _
      c.as_slice-spot-items.ensures laid c.loop-spot-test.true
      (c.loop-spot.invariant.solved segments same network laid)
      (c.note_spot-flow.ensures.solved segments same));
  noted = λ segments same network laid.
      items_more (notes_within c.args.at.depth segments) (setting_within c.args.at.depth segments)
      network c.args.at.site _ _ c.as_slice-spot-items.result.now c.args.spots.now
      c.loop-spot.spot-index _ _ _ _ _ c.as_slice-spot-items.ensures c.loop-spot-test.true
      (c.loop-spot.invariant.solved segments same network laid)
      (c.loop-spot.invariant.noted segments same network laid)
      (c.note_spot-flow.ensures.noted segments same network.shorts);
  spends = record {
    many = omega
        (arith, c.note_spot-flow.ensures.spends.many, c.loop-spot.invariant.spends.many);
    room = omega
        (arith, c.note_spot-flow.ensures.spends.room, c.loop-spot.invariant.spends.room);
  };
}

pub note_spots-returns-clause-solved : goal.note_spots-returns-clause-solved
note_spots-returns-clause-solved g t c segments same network laid =
    let spots = c.args.spots.now in
    let over : length spots ≤ c.loop-spot.spot-index =
    rw c.as_slice-spot-items.ensures at c.loop-spot-test.false in
    network-done (setting_within c.args.at.depth segments) network c.args.at.site spots _ _ _ _ laid
    (rw (take_all c.loop-spot.spot-index spots over) at
    (c.loop-spot.invariant.solved segments same network laid))

pub note_spots-returns-clause-noted : goal.note_spots-returns-clause-noted
note_spots-returns-clause-noted g t c segments same network laid =
    let spots = c.args.spots.now in
    let over : length spots ≤ c.loop-spot.spot-index =
    rw c.as_slice-spot-items.ensures at c.loop-spot-test.false in
    let all = take_all c.loop-spot.spot-index spots over in
    let done = spots-done (notes_within c.args.at.depth segments)
    (setting_within c.args.at.depth segments) network c.args.at.site _ _ spots _ _ _ laid
    (rw all at (c.loop-spot.invariant.solved segments same network laid))
    (rw all at (c.loop-spot.invariant.noted segments same network laid)) in
    record { notes = done.0; borders = done.1 }

pub note_turn-returns-in-GoesOn-clause-noted : goal.note_turn-returns-in-GoesOn-clause-noted
note_turn-returns-in-GoesOn-clause-noted g t c segments same network laid rest =
    let after = solving (g.R.RefStore.contents c.note_network.new.ram)
    (g.P.RefStore.contents c.args.lent.now.past.now) c.note_network.new.scan in
    turn_told (notes_within c.args.at.depth segments) (setting_within c.args.at.depth segments)
    network c.args.at.site
    (solving (g.R.RefStore.contents c.args.ram.now)
    (g.P.RefStore.contents c.args.lent.now.past.now) c.args.scan.now) _
    c.saturating_sub-scan.result _ _ _ (Some 0) rest c.saturating_sub-scan.ensures
    c.if-scan-eq0.false
    (c.note_network.ensures.solved segments same network laid ∙ ap (λ (flow : Flow). (after, flow))
    c.in-GoesOn.is)
    (c.note_network.ensures.noted segments same network laid) refl

pub note_turn-returns-in-Skips-clause-noted : goal.note_turn-returns-in-Skips-clause-noted
note_turn-returns-in-Skips-clause-noted g t c segments same network laid rest =
    let after = solving (g.R.RefStore.contents c.note_network.new.ram)
    (g.P.RefStore.contents c.args.lent.now.past.now) c.note_network.new.scan in
    turn_told (notes_within c.args.at.depth segments) (setting_within c.args.at.depth segments)
    network c.args.at.site
    (solving (g.R.RefStore.contents c.args.ram.now)
    (g.P.RefStore.contents c.args.lent.now.past.now) c.args.scan.now) _
    c.saturating_sub-scan.result _ _ _ c.checked_sub.result rest c.saturating_sub-scan.ensures
    c.if-scan-eq0.false
    (c.note_network.ensures.solved segments same network laid ∙ ap (λ (flow : Flow). (after, flow))
    c.in-Skips.is)
    (c.note_network.ensures.noted segments same network laid) (skips_turned c.in-Skips.count c.checked_sub.result rest _ c.checked_sub.ensures)

pub note_turn-returns-in-Returns-clause-noted : goal.note_turn-returns-in-Returns-clause-noted
note_turn-returns-in-Returns-clause-noted g t c segments same network laid rest =
    let after = solving (g.R.RefStore.contents c.note_network.new.ram)
    (g.P.RefStore.contents c.args.lent.now.past.now) c.note_network.new.scan in
    turn_told (notes_within c.args.at.depth segments) (setting_within c.args.at.depth segments)
    network c.args.at.site
    (solving (g.R.RefStore.contents c.args.ram.now)
    (g.P.RefStore.contents c.args.lent.now.past.now) c.args.scan.now) _
    c.saturating_sub-scan.result _ _ _ None rest c.saturating_sub-scan.ensures
    c.if-scan-eq0.false
    (c.note_network.ensures.solved segments same network laid ∙ ap (λ (flow : Flow). (after, flow))
    c.in-Returns.is)
    (c.note_network.ensures.noted segments same network laid) refl

pub note_turn-returns-in-Stopped-clause-noted : goal.note_turn-returns-in-Stopped-clause-noted
note_turn-returns-in-Stopped-clause-noted g t c segments same network laid rest =
    let after = solving (g.R.RefStore.contents c.note_network.new.ram)
    (g.P.RefStore.contents c.args.lent.now.past.now) c.note_network.new.scan in
    turn_told (notes_within c.args.at.depth segments) (setting_within c.args.at.depth segments)
    network c.args.at.site
    (solving (g.R.RefStore.contents c.args.ram.now)
    (g.P.RefStore.contents c.args.lent.now.past.now) c.args.scan.now) _
    c.saturating_sub-scan.result _ _ _ None rest c.saturating_sub-scan.ensures
    c.if-scan-eq0.false
    (c.note_network.ensures.solved segments same network laid ∙ ap (λ (flow : Flow). (after, flow))
    c.in-Stopped.is)
    (c.note_network.ensures.noted segments same network laid) refl

pub note_run-note_turn-requires : goal.note_run-note_turn-requires
note_run-note_turn-requires g t c κs within =
    let kept = c.loop-i.invariant.scan.counts in
    let spots = spots_at c.args.lent.now.program.now c.args.run.segment in
    let many = length-spots_at c.args.lent.now.program.now c.args.run.segment in
    let here = CanSolveSegment-kept _ _ _ _ _ c.loop-i.invariant.keeps c.loop-i.invariant.scan _ _
    c.requires.here in (
      omega (arith, c.decreases),
      (
        within.0,
        (
          within.1,
          (
            CanSolveSegment-kept _ _ _ _ _ c.loop-i.invariant.keeps c.loop-i.invariant.scan _ _
                c.requires.calls,
            (
              all_at_item (CanSolveNetwork _ _ _) spots c.loop-i.i c.index-networks-i.result
                  (omega (arith, many, c.loop-i-test.true, c.requires.within))
                  (c.index-networks-i.is ∙ ap (λ xs. get_or xs c.loop-i.i c.index-networks-i.result)
                  c.networks-networks.ensures) here.networks,
              (
                record {
                  first = here.first;
                  last = here.kept.last;
                  many = omega (arith, here.kept.many, c.loop-i-test.true, c.requires.within);
                },
                (
                  omega arith,
                  omega (
                    arith,
                    c.requires.room,
                    c.loop-i.invariant.spends.many,
                    c.loop-i.invariant.spends.room,
                  ),
                ),
              ),
            ),
          ),
        ),
      ),
    )

pub note_run-offset_bounds-networks-i : goal.note_run-offset_bounds-networks-i
note_run-offset_bounds-networks-i g t c =
    let many = ap length c.networks-networks.ensures
    ∙ length-spots_at c.args.lent.now.program.now c.args.run.segment in
    omega (arith, many, c.loop-i-test.true, c.requires.within, c.networks-networks.type_inv.1)

pub note_run-bounds-networks-i : goal.note_run-bounds-networks-i
note_run-bounds-networks-i g t c =
    let many = ap length c.networks-networks.ensures
    ∙ length-spots_at c.args.lent.now.program.now c.args.run.segment in
    omega (arith, many, c.loop-i-test.true, c.requires.within)

pub note_run-overflow_add-i-in-loop-i : goal.note_run-overflow_add-i-in-loop-i
note_run-overflow_add-i-in-loop-i g t c =
    let many = ap length c.networks-networks.ensures
    ∙ length-spots_at c.args.lent.now.program.now c.args.run.segment in
    let small : c.loop-i.i * 24 < 9223372036854775808 =
    omega (arith, many, c.loop-i-test.true, c.requires.within, c.networks-networks.type_inv.1) in
    search rules

pub note_run-returns-in_default-clause-solved : goal.note_run-returns-in_default-clause-solved
note_run-returns-in_default-clause-solved g t c segments same =
    let networks = networks_of segments c.args.run.segment in
    let laid = c.networks-networks.ensures
    ∙ spots_at-of segments c.args.lent.now.program.now c.args.run.segment
    c.requires.here.first same in
    let many = ap length c.networks-networks.ensures
    ∙ length-spots_at c.args.lent.now.program.now c.args.run.segment in
    c.loop-i.invariant.solved segments same
    ∙ run-ends (setting_within c.args.run.depth segments) c.args.run.segment c.loop-i.i
    c.args.run.span.end networks c.networks-networks.result.now
    c.index-networks-i.result _ _ c.note_turn.result c.loop-i-test.true
    (omega (arith, many, c.requires.within)) laid c.index-networks-i.is
    (c.note_turn.ensures.solved segments same) c.in_default.is

pub note_run-returns-in_default-clause-noted : goal.note_run-returns-in_default-clause-noted
note_run-returns-in_default-clause-noted g t c segments same =
    let networks = networks_of segments c.args.run.segment in
    let laid = c.networks-networks.ensures
    ∙ spots_at-of segments c.args.lent.now.program.now c.args.run.segment
    c.requires.here.first same in
    let many = ap length c.networks-networks.ensures
    ∙ length-spots_at c.args.lent.now.program.now c.args.run.segment in
    sym (c.loop-i.invariant.noted segments same
    ∙ notes-end (notes_within c.args.run.depth segments)
    (setting_within c.args.run.depth segments) c.args.run.segment c.loop-i.i
    c.args.run.span.end networks c.networks-networks.result.now
    c.index-networks-i.result _ _ _ _ c.note_turn.result c.loop-i-test.true
    (omega (arith, many, c.requires.within)) laid c.index-networks-i.is
    (c.note_turn.ensures.noted segments same) c.in_default.is)

pub note_run-loop-i-preserved : goal.note_run-loop-i-preserved
note_run-loop-i-preserved g t c = record {
  keeps = λ at h. c.note_turn.ensures.keeps at (c.loop-i.invariant.keeps at h);
  scan = record {
    clock = c.note_turn.ensures.scan.clock ∙ c.loop-i.invariant.scan.clock;
    counts = c.note_turn.ensures.scan.counts ∙ c.loop-i.invariant.scan.counts;
    bank = c.note_turn.ensures.scan.bank ∙ c.loop-i.invariant.scan.bank;
  };
  solved = λ segments same.
      let networks = networks_of segments c.args.run.segment in
      let laid = c.networks-networks.ensures
      ∙ spots_at-of segments c.args.lent.now.program.now c.args.run.segment
      c.requires.here.first same in
      let many = ap length c.networks-networks.ensures
      ∙ length-spots_at c.args.lent.now.program.now c.args.run.segment in
      c.loop-i.invariant.solved segments same
      ∙ run-goes (setting_within c.args.run.depth segments) c.args.run.segment c.loop-i.i
      c.args.run.span.end networks c.networks-networks.result.now
      c.index-networks-i.result _ _ c.note_turn.result c.loop-i-test.true
      (omega (arith, many, c.requires.within)) laid c.index-networks-i.is
      (c.note_turn.ensures.solved segments same) c.in-Some.skipped c.from.result c.in-Some.is
      c.from.ensures;
  noted = λ segments same.
      let networks = networks_of segments c.args.run.segment in
      let laid = c.networks-networks.ensures
      ∙ spots_at-of segments c.args.lent.now.program.now c.args.run.segment
      c.requires.here.first same in
      let many = ap length c.networks-networks.ensures
      ∙ length-spots_at c.args.lent.now.program.now c.args.run.segment in
      c.loop-i.invariant.noted segments same
      ∙ notes-go (notes_within c.args.run.depth segments)
      (setting_within c.args.run.depth segments) c.args.run.segment c.loop-i.i
      c.args.run.span.end networks c.networks-networks.result.now
      c.index-networks-i.result _ _ _ _ c.note_turn.result c.loop-i-test.true
      (omega (arith, many, c.requires.within)) laid c.index-networks-i.is
      (c.note_turn.ensures.noted segments same) c.in-Some.skipped c.from.result c.in-Some.is
      c.from.ensures;
  spends = record {
    many = omega (arith, c.note_turn.ensures.spends.many, c.loop-i.invariant.spends.many);
    room = omega (arith, c.note_turn.ensures.spends.room, c.loop-i.invariant.spends.room);
  };
}

pub note_run-returns-clause-solved : goal.note_run-returns-clause-solved
note_run-returns-clause-solved g t c segments same =
    c.loop-i.invariant.solved segments same
    ∙ run-over (setting_within c.args.run.depth segments) c.args.run.segment c.loop-i.i
    c.args.run.span.end (networks_of segments c.args.run.segment) _
    c.loop-i-test.false

pub note_run-returns-clause-noted : goal.note_run-returns-clause-noted
note_run-returns-clause-noted g t c segments same =
    sym (c.loop-i.invariant.noted segments same
    ∙ ap (λ xs. c.loop-i.notes.items ++ xs)
    (notes-over (notes_within c.args.run.depth segments)
    (setting_within c.args.run.depth segments) c.args.run.segment c.loop-i.i
    c.args.run.span.end (networks_of segments c.args.run.segment) _ c.loop-i-test.false)
    ∙ append-nil c.loop-i.notes.items)

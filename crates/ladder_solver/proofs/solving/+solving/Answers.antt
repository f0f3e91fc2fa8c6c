use Rattle.std.proofs.Common.{rules, ◌+◌, ◌-◌, ◌*◌, ◌<◌, ◌≤◌, length, get_or, refl, sym, ap, ◌∙◌}
use Rattle.std.proofs.Common.{subst}
use Rattle.std.proofs.Common.{take, arith}
use Rattle.std.specs.Prelude.{map, bit_or, IfSome}
use Rattle.std.specs.List.{AllByRecursion}
use Rattle.std.proofs.lemmas.List.{length-map, take_all}
use Rattle.grid_compile.specs.Layout.{grid_of}
use Rattle.plant_types.specs.Operands.{HasOperands}
use Rattle.ladder_solver.specs.State.{BlockPlace}
use Rattle.ladder_solver.specs.declared.flow.Solved.{Solved}
use Rattle.ladder_solver.specs.Edges.{HasNetworks, HasEdgeBit}
use Rattle.ladder_solver.specs.Numbers.{networks_of, block_number}
use Rattle.ladder_solver.specs.Segment.{setting_within}
use Rattle.ladder_solver.specs.Program.{grids_at, spots_at, last_grids, IsWithinNetworks}
use Rattle.ladder_solver.specs.Conditions.{CanCall, CanSolveSpot, CanSolveNetwork}
use Rattle.ladder_solver.specs.Conditions.{CanSolveSegment}
use Rattle.ladder_solver.specs.Agreement.{KeepsScan, solving}
use Rattle.ladder_solver.proofs.Stored.{all_at, all_at_item, CanSolveNetwork-kept}
use Rattle.ladder_solver.proofs.Stored.{CanSolveSegment-kept}
use Rattle.ladder_solver.proofs.Simulation.{spot-done, relay-done}
use Rattle.ladder_solver.proofs.Networks.{spots-start, spots-item, spots-on, network-done}
use Rattle.ladder_solver.proofs.Networks.{network-over}
use Rattle.ladder_solver.proofs.Runs.{run-ends, run-goes, run-over}
use Rattle.ladder_solver.proofs.LadderLemmas.{length-spots_at}
use Rattle.ladder_solver.proofs.NumberLemmas.{spots_at-of}
use Rattle.ladder_solver.proofs.Calls.{call-deep, call-missing, call-found, called-some}
use Rattle.ladder_solver.proofs.solving.+solving.Goals as goal

pub solve_call-returns-then-depth-eq0-clause-solved :
    goal.solve_call-returns-then-depth-eq0-clause-solved
solve_call-returns-then-depth-eq0-clause-solved g t c segments same =
    call-deep segments c.args.depth c.args.number _ c.with.result c.if-depth-eq0.true c.with.ensures

pub solve_call-returns-in_default-clause-solved : goal.solve_call-returns-in_default-clause-solved
solve_call-returns-in_default-clause-solved g t c segments same =
    call-missing segments c.args.depth c.args.number _ c.subroutine.result c.with-in_default.result
    (c.subroutine.ensures.span segments same) c.in_default.is c.with-in_default.ensures

pub solve_call-solve_run-requires : goal.solve_call-solve_run-requires
solve_call-solve_run-requires g t c κs within =
    let span = subst
    (λ o. IfSome o (IsWithinNetworks (length (last_grids c.args.lent.now.program.now))))
    c.in-Some.is c.subroutine.ensures.within in (
      omega (arith, c.decreases, c.if-depth-eq0.false),
      (
        within.0,
        (
          within.1,
          (
            c.requires.calls,
            (
              subst (CanSolveSegment _ _ _ _) (sym c.last.ensures) c.requires.calls,
              subst (λ n. c.in-Some.span.end ≤ length (grids_at c.args.lent.now.program.now n))
                  (sym c.last.ensures) span.1,
            ),
          ),
        ),
      ),
    )

pub solve_call-returns-clause-solved : goal.solve_call-returns-clause-solved
solve_call-returns-clause-solved g t c segments same =
    called-some _ _ _ _
    (call-found segments c.args.depth c.args.number c.last.result _ _ c.subroutine.result
    c.in-Some.span c.if-depth-eq0.false
    (c.subroutine.ensures.span segments same) c.in-Some.is
    (c.last.ensures ∙ ap length (sym same)
    ∙ length-map segments (λ segment. map grid_of segment.networks))
    (c.solve_run.ensures.solved segments same)) c.behind.ensures

pub solve_element-returns-then-is_relay-clause-solved :
    goal.solve_element-returns-then-is_relay-clause-solved
solve_element-returns-then-is_relay-clause-solved g t c segments same numbered =
    c.relay_output-top.ensures.leaves (setting_within c.args.depth segments) c.args.placed.place
    c.args.inputs c.args.scan.now refl
    ∙ ap (λ (solved : Solved). (
      (
        solved.outputs,
        solving (g.R.RefStore.contents c.relay_output-top.new.ram)
            (g.P.RefStore.contents c.args.lent.now.past.now) c.args.scan.now,
      ),
      solved.flow,
    ))
    (sym c.with.ensures)

pub solve_element-solve_call-requires : goal.solve_element-solve_call-requires
solve_element-solve_call-requires g t c κs within =
    (omega (arith, c.decreases), (within.0, (within.1, c.requires.calls)))

pub solve_network-loop-spot-init : goal.solve_network-loop-spot-init
solve_network-loop-spot-init g t c = record {
  keeps = λ at h. h;
  scan = record { clock = refl; counts = refl; bank = refl };
  solved = λ segments same network laid. spots-start network _;
}

pub solve_network-solve_spot-flow-requires : goal.solve_network-solve_spot-flow-requires
solve_network-solve_spot-flow-requires g t c κs within =
    let items = c.as_slice-spot-items.result.now in
    let can : AllByRecursion (CanSolveSpot (g.R.RefStore.contents c.args.ram.now)
    (g.P.RefStore.contents c.args.lent.now.past.now) c.args.scan.now) items =
    rw c.as_slice-spot-items.ensures c.requires.can_solve in
    let kept = c.loop-spot.invariant.scan.counts in (
      omega (arith, c.decreases),
      (
        within.0,
        (
          within.1,
          (
            CanSolveSegment-kept _ _ _ _ _ c.loop-spot.invariant.keeps c.loop-spot.invariant.scan _
                _ c.requires.calls,
            (
              all_at (CanSolveSpot _ _ _) items c.loop-spot.spot-index _ c.loop-spot-test.true
                  (CanSolveNetwork-kept _ _ _ _ _ c.loop-spot.invariant.keeps
                  c.loop-spot.invariant.scan items can),
              (
                subst (λ counts. HasNetworks counts c.args.at.site.segment c.args.at.site.network)
                    (sym kept) c.requires.networks,
                c.requires.number,
              ),
            ),
          ),
        ),
      ),
    )

pub solve_network-returns-then-not-goes_on-clause-keeps :
    goal.solve_network-returns-then-not-goes_on-clause-keeps
solve_network-returns-then-not-goes_on-clause-keeps g t c at h =
    c.solve_spot-flow.ensures.keeps at (c.loop-spot.invariant.keeps at h)

pub solve_network-returns-then-not-goes_on-clause-scan :
    goal.solve_network-returns-then-not-goes_on-clause-scan
solve_network-returns-then-not-goes_on-clause-scan g t c = record {
  clock = c.solve_spot-flow.ensures.scan.clock ∙ c.loop-spot.invariant.scan.clock;
  counts = c.solve_spot-flow.ensures.scan.counts ∙ c.loop-spot.invariant.scan.counts;
  bank = c.solve_spot-flow.ensures.scan.bank ∙ c.loop-spot.invariant.scan.bank;
}

pub solve_network-returns-then-not-goes_on-clause-solved :
    goal.solve_network-returns-then-not-goes_on-clause-solved
solve_network-returns-then-not-goes_on-clause-solved g t c segments same network laid =
    let setting = setting_within c.args.at.depth segments in
    network-over setting network c.args.at.site c.args.spots.now (c.loop-spot.spot-index + 1) _ _ _
    _ laid (sym c.goes_on.ensures ∙ c.if-not-goes_on.true)
    (spots-item setting network c.args.at.site c.as_slice-spot-items.result.now c.args.spots.now
    c.loop-spot.spot-index _ _ _ _ _ _ _
    c.as_slice-spot-items.ensures laid c.loop-spot-test.true
    (c.loop-spot.invariant.solved segments same network laid)
    (c.solve_spot-flow.ensures.solved segments same))

pub solve_network-loop-spot-preserved : goal.solve_network-loop-spot-preserved
solve_network-loop-spot-preserved g t c = record {
  keeps = λ at h. c.solve_spot-flow.ensures.keeps at (c.loop-spot.invariant.keeps at h);
  scan = record {
    clock = c.solve_spot-flow.ensures.scan.clock ∙ c.loop-spot.invariant.scan.clock;
    counts = c.solve_spot-flow.ensures.scan.counts ∙ c.loop-spot.invariant.scan.counts;
    bank = c.solve_spot-flow.ensures.scan.bank ∙ c.loop-spot.invariant.scan.bank;
  };
  solved = λ segments same network laid.
      let setting = setting_within c.args.at.depth segments in
      spots-on setting network c.args.at.site (take (c.loop-spot.spot-index + 1) c.args.spots.now) _
      _ _ c.solve_spot-flow.result
      (sym c.goes_on.ensures ∙ c.if-not-goes_on.false)
      (spots-item setting network c.args.at.site c.as_slice-spot-items.result.now c.args.spots.now
      c.loop-spot.spot-index _ _ _ _ _ _ _
      c.as_slice-spot-items.ensures laid c.loop-spot-test.true
      (c.loop-spot.invariant.solved segments same network laid)
      (c.solve_spot-flow.ensures.solved segments same));
}

pub solve_network-returns-clause-keeps : goal.solve_network-returns-clause-keeps
solve_network-returns-clause-keeps g t c = c.loop-spot.invariant.keeps

pub solve_network-returns-clause-scan : goal.solve_network-returns-clause-scan
solve_network-returns-clause-scan g t c = c.loop-spot.invariant.scan

pub solve_network-returns-clause-solved : goal.solve_network-returns-clause-solved
solve_network-returns-clause-solved g t c segments same network laid =
    let spots = c.args.spots.now in
    let over : length spots ≤ c.loop-spot.spot-index =
    rw c.as_slice-spot-items.ensures at c.loop-spot-test.false in
    network-done (setting_within c.args.at.depth segments) network c.args.at.site spots _ _ _ _ laid
    (rw (take_all c.loop-spot.spot-index spots over) at
    (c.loop-spot.invariant.solved segments same network laid))

pub solve_run-loop-i-init : goal.solve_run-loop-i-init
solve_run-loop-i-init g t c = record {
  keeps = λ at h. h;
  scan = record { clock = refl; counts = refl; bank = refl };
  solved = λ segments same. refl;
}

pub solve_run-solve_turn-requires : goal.solve_run-solve_turn-requires
solve_run-solve_turn-requires g t c κs within =
    let kept = c.loop-i.invariant.scan.counts in
    let spots = spots_at c.args.lent.now.program.now c.args.run.segment in
    let many = length-spots_at c.args.lent.now.program.now c.args.run.segment in
    let here = CanSolveSegment-kept _ _ _ _ _ c.loop-i.invariant.keeps c.loop-i.invariant.scan _ _
    c.requires.here in (
      omega (arith, c.decreases),
      (
        within.0,
        (
          within.1,
          (
            CanSolveSegment-kept _ _ _ _ _ c.loop-i.invariant.keeps c.loop-i.invariant.scan _ _
                c.requires.calls,
            (
              all_at_item (CanSolveNetwork _ _ _) spots c.loop-i.i c.index-networks-i.result
                  (omega (arith, many, c.loop-i-test.true, c.requires.within))
                  (c.index-networks-i.is ∙ ap (λ xs. get_or xs c.loop-i.i c.index-networks-i.result)
                  c.networks-networks.ensures) here.networks,
              (
                record {
                  first = here.first;
                  last = here.kept.last;
                  many = omega (arith, here.kept.many, c.loop-i-test.true, c.requires.within);
                },
                omega arith,
              ),
            ),
          ),
        ),
      ),
    )

pub solve_run-offset_bounds-networks-i : goal.solve_run-offset_bounds-networks-i
solve_run-offset_bounds-networks-i g t c =
    let many = ap length c.networks-networks.ensures
    ∙ length-spots_at c.args.lent.now.program.now c.args.run.segment in
    omega (arith, many, c.loop-i-test.true, c.requires.within, c.networks-networks.type_inv.1)

pub solve_run-bounds-networks-i : goal.solve_run-bounds-networks-i
solve_run-bounds-networks-i g t c =
    let many = ap length c.networks-networks.ensures
    ∙ length-spots_at c.args.lent.now.program.now c.args.run.segment in
    omega (arith, many, c.loop-i-test.true, c.requires.within)

pub solve_run-overflow_add-i-in-loop-i : goal.solve_run-overflow_add-i-in-loop-i
solve_run-overflow_add-i-in-loop-i g t c =
    let many = ap length c.networks-networks.ensures
    ∙ length-spots_at c.args.lent.now.program.now c.args.run.segment in
    let small : c.loop-i.i * 24 < 9223372036854775808 =
    omega (arith, many, c.loop-i-test.true, c.requires.within, c.networks-networks.type_inv.1) in
    search rules

pub solve_run-returns-in_default-clause-keeps : goal.solve_run-returns-in_default-clause-keeps
solve_run-returns-in_default-clause-keeps g t c at h =
    c.solve_turn.ensures.keeps at (c.loop-i.invariant.keeps at h)

pub solve_run-returns-in_default-clause-scan : goal.solve_run-returns-in_default-clause-scan
solve_run-returns-in_default-clause-scan g t c = record {
  clock = c.solve_turn.ensures.scan.clock ∙ c.loop-i.invariant.scan.clock;
  counts = c.solve_turn.ensures.scan.counts ∙ c.loop-i.invariant.scan.counts;
  bank = c.solve_turn.ensures.scan.bank ∙ c.loop-i.invariant.scan.bank;
}

pub solve_run-returns-in_default-clause-solved : goal.solve_run-returns-in_default-clause-solved
solve_run-returns-in_default-clause-solved g t c segments same =
    let networks = networks_of segments c.args.run.segment in
    let laid = c.networks-networks.ensures
    ∙ spots_at-of segments c.args.lent.now.program.now c.args.run.segment
    c.requires.here.first same in
    let many = ap length c.networks-networks.ensures
    ∙ length-spots_at c.args.lent.now.program.now c.args.run.segment in
    c.loop-i.invariant.solved segments same
    ∙ run-ends (setting_within c.args.run.depth segments) c.args.run.segment c.loop-i.i
    c.args.run.span.end networks c.networks-networks.result.now
    c.index-networks-i.result _ _ c.solve_turn.result c.loop-i-test.true
    (omega (arith, many, c.requires.within)) laid c.index-networks-i.is
    (c.solve_turn.ensures.solved segments same) c.in_default.is

pub solve_run-loop-i-smaller : goal.solve_run-loop-i-smaller
solve_run-loop-i-smaller g t c = omega (arith, c.loop-i-test.true)

pub solve_run-loop-i-preserved : goal.solve_run-loop-i-preserved
solve_run-loop-i-preserved g t c = record {
  keeps = λ at h. c.solve_turn.ensures.keeps at (c.loop-i.invariant.keeps at h);
  scan = record {
    clock = c.solve_turn.ensures.scan.clock ∙ c.loop-i.invariant.scan.clock;
    counts = c.solve_turn.ensures.scan.counts ∙ c.loop-i.invariant.scan.counts;
    bank = c.solve_turn.ensures.scan.bank ∙ c.loop-i.invariant.scan.bank;
  };
  solved = λ segments same.
      let networks = networks_of segments c.args.run.segment in
      let laid = c.networks-networks.ensures
      ∙ spots_at-of segments c.args.lent.now.program.now c.args.run.segment
      c.requires.here.first same in
      let many = ap length c.networks-networks.ensures
      ∙ length-spots_at c.args.lent.now.program.now c.args.run.segment in
      c.loop-i.invariant.solved segments same
      ∙ run-goes (setting_within c.args.run.depth segments) c.args.run.segment c.loop-i.i
      c.args.run.span.end networks c.networks-networks.result.now
      c.index-networks-i.result _ _ c.solve_turn.result c.loop-i-test.true
      (omega (arith, many, c.requires.within)) laid c.index-networks-i.is
      (c.solve_turn.ensures.solved segments same) c.in-Some.skipped c.from.result c.in-Some.is
      c.from.ensures;
}

pub solve_run-returns-clause-keeps : goal.solve_run-returns-clause-keeps
solve_run-returns-clause-keeps g t c = c.loop-i.invariant.keeps

pub solve_run-returns-clause-scan : goal.solve_run-returns-clause-scan
solve_run-returns-clause-scan g t c = c.loop-i.invariant.scan

pub solve_run-returns-clause-solved : goal.solve_run-returns-clause-solved
solve_run-returns-clause-solved g t c segments same =
    c.loop-i.invariant.solved segments same
    ∙ run-over (setting_within c.args.run.depth segments) c.args.run.segment c.loop-i.i
    c.args.run.span.end (networks_of segments c.args.run.segment) _
    c.loop-i-test.false

pub solve_spot-solve_element-solved-requires : goal.solve_spot-solve_element-solved-requires
solve_spot-solve_element-solved-requires g t c κs within =
    let contents = g.R.RefStore.contents in
    let same = sym (c.spot_output.ensures.other c.in_default.is) in (
      omega (arith, c.decreases),
      (
        within.0,
        (
          within.1,
          (
            subst (λ ram. CanCall (contents ram) (g.P.RefStore.contents c.args.lent.now.past.now)
                c.args.scan.now c.args.lent.now.program.now) same c.requires.calls,
            (
              subst (λ ram. HasOperands (contents ram) c.args.spot.now.element) same
                  c.requires.can_solve.operands,
              (
                c.requires.can_solve.past,
                (
                  subst (λ (place : BlockPlace). HasEdgeBit c.args.scan.now.edges.counts place)
                      (sym c.place.ensures) (record {
                        networks = c.requires.networks;
                        network = c.requires.number;
                        left = c.requires.can_solve.left;
                        right = c.requires.can_solve.right;
                        top = c.requires.can_solve.first;
                        bottom = c.requires.can_solve.last;
                      }),
                  c.requires.can_solve.block,
                ),
              ),
            ),
          ),
        ),
      ),
    )

pub solve_spot-returns-in-Some-clause-solved : goal.solve_spot-returns-in-Some-clause-solved
solve_spot-returns-in-Some-clause-solved g t c segments same numbered =
    relay-done (setting_within c.args.at.depth segments) c.args.spot.now c.args.at.site
    c.args.live.now _ (g.P.RefStore.contents c.args.lent.now.past.now) _ _ c.args.scan.now
    c.spot_output.result c.has_power-power.result c.in-Some.output
    c.requires.can_solve.left (omega (arith, c.requires.can_solve.right)) c.requires.can_solve.first
    c.requires.can_solve.last c.spot_output.ensures.leaves c.in-Some.is
    (c.has_power-power.ensures c.args.spot.now.row c.requires.can_solve.mask) c.feed.ensures

pub solve_spot-returns-clause-keeps : goal.solve_spot-returns-clause-keeps
solve_spot-returns-clause-keeps g t c at h =
    c.solve_element-solved.ensures.keeps at (c.spot_output.ensures.keeps at h)

pub solve_spot-returns-clause-solved : goal.solve_spot-returns-clause-solved
solve_spot-returns-clause-solved g t c segments same numbered =
    spot-done (setting_within c.args.at.depth segments) c.args.spot.now c.args.at.site _ _ _ _
    c.solve_element-solved.result c.requires.can_solve.left
    (omega (arith, c.requires.can_solve.right)) c.requires.can_solve.first c.requires.can_solve.last
    (rw (
      c.inputs_at-inputs.ensures,
      c.place.ensures,
      c.spot_output.ensures.other c.in_default.is,
    ) at
    (c.solve_element-solved.ensures.solved segments same (numbered ∙ ap
    (block_number segments) (sym c.place.ensures))))
    (ap (λ n. bit_or (get_or c.args.live.now c.args.spot.now.column 0) n) c.fed_rows.ensures)

pub solve_turn-solve_network-requires : goal.solve_turn-solve_network-requires
solve_turn-solve_network-requires g t c κs within =
    let begun : KeepsScan c.args.scan.now
    (record c.args.scan.now { left = c.saturating_sub-scan.result }) =
    record { clock = refl; counts = refl; bank = refl } in (
      omega (arith, c.decreases),
      (
        within.0,
        (
          within.1,
          (
            CanSolveSegment-kept _ _ _ c.args.scan.now _ (λ at h. h) begun _ _ c.requires.calls,
            (
              CanSolveNetwork-kept _ _ _ c.args.scan.now _ (λ at h. h) begun _ c.requires.can_solve,
              (c.requires.networks, c.requires.number),
            ),
          ),
        ),
      ),
    )

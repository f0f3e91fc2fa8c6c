use Rattle.std.proofs.Common.{◌≡◌, ◌==◌, ◌↔◌, ℕ, false, length, replicate, true, refl, ap, sym, subst, ◌∙◌, arith}
use Rattle.std.specs.Prelude.{if◌then◌else◌}
use Rattle.std.proofs.lemmas.List.{length-map, length-replicate}
use Rattle.plant_types.specs.Checks.{sizes_of}
use Rattle.plant_types.specs.Discretes.{discretes_on}
use Rattle.plant_types.specs.Sizes.{cleared, discretes_of}
use Rattle.state_ram.specs.Packed.{packed_contents}
use Rattle.grid_compile.specs.Layout.{grids_of}
use Rattle.mstr_block.specs.declared.state.BlockState.TheVariants.{Idle}
use Rattle.mstr_block.specs.Table.{BlockTable}
use Rattle.ladder_solver.specs.Conditions.{HasGridOperands, HasGridPast}
use Rattle.ladder_solver.specs.Numbers.{mstr_blocks, mstr_count}
use Rattle.ladder_solver.specs.State.{solve_state, Places, SolveState}
use Rattle.ladder_solver.specs.Segment.{segment_after}
use Rattle.ladder_solver.specs.declared.watch.SolveEnd.{SolveEnd}
use Rattle.ladder_solver.specs.declared.watch.SolveEnd.TheVariants as ends
use Rattle.controller_core.specs.Machine.{stop_by}
use Rattle.controller_core.specs.Replay.{watchdog_stop}
use Rattle.field_machine.specs.Counters.{counters_of}
use Rattle.field_machine.specs.Work.{work_state}
use Rattle.field_machine.proofs.Edges.{Within}
use Rattle.field_machine.proofs.Solving.{solved-edges}
use Rattle.field_machine.proofs.field.Field.solve_segment.Goals as goal

pub solve-end-requires : goal.solve-end-requires
solve-end-requires c =
    let plan = c.args.self.now.fixed.plan in
    let work = c.args.work.now in
    let ready = c.requires.ready in
    let parts = c.requires.field in
    let law = c.grids_ask_no_more.ensures in
    let kept = c.kept_stores_find_all.ensures in
    let found = c.checked_plans_find_all.ensures plan parts.runs.plan.passes in
    let sizes = sizes_of plan in
    record {
      first = c.requires.first;
      last =
          let many = ap length ready.sound.grids in
          let count : length (grids_of plan.segments) ≡ length plan.segments = length-map _ _ in
          let most = c.requires.last in
          omega (arith, many, count, most);
      operands = subst (HasGridOperands (packed_contents work.ram)) ready.sound.grids
          (law.operands (packed_contents work.ram) plan.segments
          (kept.operands (cleared sizes) (packed_contents work.ram) plan.segments ready.keeps
          found.operands));
      past = subst (HasGridPast (packed_contents work.past)) ready.sound.grids
          (law.past (packed_contents work.past) plan.segments
          (kept.past (cleared (discretes_of sizes)) (packed_contents work.past) plan.segments
          ready.past found.past));
      blocks =
          let grids : mstr_count work.ladder.grids ≡ mstr_blocks plan.segments =
          ap mstr_count (sym ready.sound.grids) ∙ law.blocks plan.segments in
          let blocks : length work.bank.blocks ≡ mstr_blocks plan.segments =
          ap (λ (t : BlockTable). length t.blocks) ready.sound.bank
          ∙ length-replicate (mstr_blocks plan.segments) Idle in
          omega (arith, grids, blocks);
      left = c.requires.watch;
    }

-- a solve ends by the watchdog exactly where it has no network left
stop_is : (end : SolveEnd) (left stop : ℕ) → (end ≡ ends.Watchdog) ↔ (left ≡ 0)
    → stop_by end stop ≡ (if left == 0 then watchdog_stop else stop)
stop_is ends.Done left stop both =
    let some : (left == 0) ≡ false = grind (arith, both) in
    sym (ap (λ b. if b then watchdog_stop else stop) some)
stop_is ends.Watchdog left stop both =
    sym (ap (λ n. if n == 0 then watchdog_stop else stop) (both.0 refl))

pub returns : goal.returns
returns c =
    let plan = c.args.self.now.fixed.plan in
    let work = c.args.work.now in
    let ready = c.requires.ready in
    let segment = c.args.segment in
    let s : SolveState = (work_state work).solving in
    let after = segment_after plan.segments segment s in
    let done : solve_state (packed_contents c.solve-end.new.ram)
    (discretes_on (packed_contents work.past)) c.solve-end.new.self.edges
    c.solve-end.new.bank work.clock c.solve-end.new.watch.left ≡ after =
    c.solve-end.ensures.solved.solved plan.segments ready.sound.grids in
    let table : c.solve-end.new.bank ≡ work.bank =
    ap (λ (q : SolveState). q.table) done
    ∙ c.tables_stay_alone.ensures plan.segments segment s c.requires.field.alone.messages
    c.requires.first in
    let edges : c.solve-end.new.self.edges ≡ after.edges =
    ap (λ (q : SolveState). q.edges) done in
    let code : c.stop_behind-work.result ≡ (if after.left == 0 then watchdog_stop else work.stop) =
    c.stop_behind-work.ensures
    ∙ stop_is c.solve-end.result c.solve-end.new.watch.left work.stop
    c.solve-end.ensures.stopped
    ∙ ap (λ (q : SolveState). if q.left == 0 then watchdog_stop else work.stop) done in
    record {
      state = λ i. record {
        solving = done i;
        exchanges = replicate 32 0;
        gone = 0;
        stop = code i;
        powered = true;
        failures = 0;
      };
      ready = record {
        sound = record {
          grids = ready.sound.grids ∙ sym c.solve-end.ensures.solved.same;
          bank = table ∙ ready.sound.bank;
          edges = subst (λ (e : Places). Within e (counters_of plan.segments)) (sym edges)
              (solved-edges c.edges_stay_elsewhere.ensures plan segment s c.requires.first
              ready.sound.edges);
        };
        keeps = λ at h. c.solve-end.ensures.solved.keeps at (ready.keeps at h);
        past = ready.past;
      };
    }

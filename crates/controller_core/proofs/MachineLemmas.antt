-- What a machine keeps from event to event.
use Rattle.std.proofs.Common.{◌≡◌, ◌≤◌, ◌<◌, ◌==◌, ◌↔◌, ℕ, ◌+◌, ◌-◌, false, List, length, get_or}
use Rattle.std.proofs.Common.{set, Some}
use Rattle.std.proofs.Common.{inl, inr, refl, sym, ap, subst, ◌∙◌, arith}
use Rattle.std.specs.Prelude.{if◌then◌else◌}
use Rattle.std.proofs.lemmas.Bool.{cases_eq}
use Rattle.std.proofs.lemmas.List.{get_or-set_same, get_or-set_other, length-map}
use Rattle.std.proofs.lemmas.Option.{slice_get_within, slice_get-get_or}
use Rattle.plant_types.specs.declared.plan.OrderRow.{OrderRow}
use Rattle.plant_types.specs.declared.plan.ControllerPlan.{ControllerPlan}
use Rattle.plant_types.specs.Checks.{sizes_of, CheckedPlansFindAll, KeptStoresFindAll}
use Rattle.plant_types.specs.Checks.{HasSegmentPast}
use Rattle.plant_types.specs.Sizes.{cleared, discretes, discretes_of, DiscretesFollow}
use Rattle.plant_types.specs.Store.{Contents}
use Rattle.plant_types.specs.Discretes.{discretes_on}
use Rattle.ladder_solver.specs.GridCompile.{grids_of}
use Rattle.mstr_block.specs.Table.{BlockTable}
use Rattle.ladder_solver.specs.declared.watch.SolveEnd.{SolveEnd}
use Rattle.ladder_solver.specs.declared.watch.SolveEnd.TheVariants as ends
use Rattle.ladder_solver.specs.declared.watch.Watch.{Watch}
use Rattle.ladder_solver.specs.Conditions.{HasGridOperands, HasGridPast, GridsAskNoMore}
use Rattle.ladder_solver.specs.Laws.{SegmentsKeepCalls}
use Rattle.ladder_solver.specs.Numbers.{mstr_count}
use Rattle.ladder_solver.specs.Segment.{segment_after}
use Rattle.ladder_solver.specs.Solving.{IsSolvableSegment, IsSolved}
use Rattle.ladder_solver.specs.State.{LadderState, SolveState, solve_state}
use Rattle.ladder_solver.proofs.Stored.{all_at_item}
use Rattle.scan_order.specs.Due.{row_of}
use Rattle.controller_core.specs.declared.entry.Entry.{Entry}
use Rattle.controller_core.specs.declared.machine.Machine.{Machine}
use Rattle.controller_core.specs.Replay.{apply, watchdog_stop}
use Rattle.traffic_cop.specs.Rows.{FitsPlan, IsRunnablePlan}
use Rattle.controller_core.specs.Machine.{DoesEntry, IsSound, IsTimely, Solves, state_is, stop_by}

-- a row of a plan that can be run fits it
pub row_fits : (plan : ControllerPlan) (number : ℕ) (row : OrderRow) → IsRunnablePlan plan
    → row_of plan number ≡ Some row → FitsPlan plan row
row_fits plan number row runs is =
    let within = slice_get_within plan.orders (number - 1) row is in
    let got = slice_get-get_or plan.orders (number - 1) row within in
    let same : row ≡ get_or plan.orders (number - 1) row = cc (is, got) in
    all_at_item (FitsPlan plan) plan.orders (number - 1) row within same runs.rows

-- what a segment asks of the stores of a machine is there
pub operands_there : (machine : Machine) → GridsAskNoMore → CheckedPlansFindAll → KeptStoresFindAll
    → IsSound machine
    → HasGridOperands machine.ram machine.ladder.grids
operands_there machine law checked kept sound =
    let plan = machine.fixed.plan in
    let found = checked plan sound.runs.plan.passes in
    subst (HasGridOperands machine.ram) sound.grids
    (law.operands machine.ram plan.segments
    (kept.operands (cleared (sizes_of plan)) machine.ram plan.segments sound.keeps found.operands))

-- a block for each MSTR too
pub blocks_there : (machine : Machine) → GridsAskNoMore → IsSound machine
    → mstr_count machine.ladder.grids ≤ length machine.bank.blocks
blocks_there machine law sound =
    let grids = ap mstr_count (sym sound.grids) ∙ law.blocks machine.fixed.plan.segments in
    let blocks = sound.blocks in
    omega (arith, grids, blocks)

pub past_there : (machine : Machine) → GridsAskNoMore → CheckedPlansFindAll → KeptStoresFindAll
    → DiscretesFollow → IsSound machine
    → HasGridPast machine.past machine.ladder.grids
past_there machine law checked kept follow sound =
    let plan = machine.fixed.plan in
    let sizes = sizes_of plan in
    let found = checked plan sound.runs.plan.passes in
    let there = follow.kept sizes sound.past.store sound.past.keeps in
    subst (HasGridPast machine.past) sound.grids
    (law.past machine.past plan.segments
    (subst (λ (past : Contents). HasSegmentPast past plan.segments) (sym sound.past.is)
    (kept.past (cleared (discretes_of sizes)) (discretes sizes sound.past.store) plan.segments
    there found.past)))

-- so each segment can be solved
pub solvable_there : (machine : Machine) (segment : ℕ) → GridsAskNoMore → CheckedPlansFindAll
    → KeptStoresFindAll → DiscretesFollow → IsSound machine
    → 1 ≤ segment → segment ≤ length machine.fixed.plan.segments → 0 < machine.watch.left
    → IsSolvableSegment machine.ladder segment machine.ram machine.past machine.bank machine.watch
solvable_there machine segment law find kept follow sound first last left =
    let segments = machine.fixed.plan.segments in
    record {
      first = first;
      last =
          let many = ap length sound.grids in
          let count : length (grids_of segments) ≡ length segments = length-map _ _ in
          omega (arith, many, count, last);
      operands = operands_there machine law find kept sound;
      past = past_there machine law find kept follow sound;
      blocks = blocks_there machine law sound;
      left = left;
    }

-- a solve ends by the watchdog exactly where it has no network left
stop_is : (end : SolveEnd) (left stop : ℕ) → (end ≡ ends.Watchdog) ↔ (left ≡ 0)
    → stop_by end stop ≡ (if left == 0 then watchdog_stop else stop)
stop_is ends.Done left stop both =
    let some : (left == 0) ≡ false = grind (arith, both) in
    sym (ap (λ b. if b then watchdog_stop else stop) some)
stop_is ends.Watchdog left stop both =
    sym (ap (λ n. if n == 0 then watchdog_stop else stop) (both.0 refl))

-- what the ladder's solve of a segment makes of a machine
pub segment_solves : (machine : Machine) (segment : ℕ) (end : SolveEnd) (ladder : LadderState)
    (ram : Contents) (bank : BlockTable) (watch : Watch) (stop : ℕ)
    → IsSound machine → SegmentsKeepCalls
    → IsSolved segment machine.clock machine.past machine.ladder ladder machine.ram ram machine.bank
    bank machine.watch watch
    → (end ≡ ends.Watchdog) ↔ (watch.left ≡ 0) → stop ≡ stop_by end machine.stop
    → Solves segment machine (record machine {
      ladder = ladder;
      ram = ram;
      bank = bank;
      watch = watch;
      stop = stop;
    })
segment_solves machine segment end ladder ram bank watch stop sound laws solved stopped is =
    let segments = machine.fixed.plan.segments in
    let after = segment_after segments segment (state_is machine).solving in
    let done : solve_state ram (discretes_on machine.past) ladder.edges bank machine.clock
    watch.left ≡ after =
    solved.solved segments sound.grids in
    let calls = laws.calls segments segment (state_is machine).solving in
    let code : stop ≡ (if after.left == 0 then watchdog_stop else machine.stop) =
    is ∙ stop_is end watch.left machine.stop stopped
    ∙ ap (λ (s : SolveState). if s.left == 0 then watchdog_stop else machine.stop) done in
    record {
      fixed = refl;
      state = λ i. record {
        solving = done i;
        exchanges = machine.exchanges.items;
        gone = machine.gone;
        stop = code i;
        powered = machine.powered;
        failures = machine.failures;
      };
      clock = refl;
      sound = record {
        runs = sound.runs;
        grids = sound.grids ∙ sym solved.same;
        drops = sound.drops;
        keeps = λ at h. solved.keeps at (sound.keeps at h);
        past = sound.past;
        node = ap (λ (s : SolveState). s.table.node) done ∙ calls.node ∙ sound.node;
        routed = ap (λ (s : SolveState). s.table.routed) done ∙ calls.routed ∙ sound.routed;
        blocks = solved.blocks ∙ sound.blocks;
        few = let same = solved.blocks in let few = sound.few in omega (arith, same, few);
        exchanges = sound.exchanges;
      };
    }

-- a machine that is in time still is a step later
pub later : (machine : Machine) (steps : ℕ) → IsTimely machine steps → IsTimely machine (steps + 1)
later machine steps timely = record {
  clock = let h = timely.clock in omega arith;
  exchanges = λ i. let h = timely.exchanges i in omega arith;
  gone = let h = timely.gone in omega arith;
  failures = let h = timely.failures in omega arith;
}

-- a machine that stays as it is does an event that leaves the state as it is
pub does_nothing : (machine : Machine) (entry : Entry) → IsSound machine
    → apply machine.fixed (state_is machine) entry ≡ state_is machine
    → DoesEntry entry machine machine
does_nothing machine entry sound same =
    record { fixed = refl; state = sym same; sound = sound; timely = later machine }

-- one count more is at most one more
pub counted : (xs : List ℕ) (place most : ℕ) → ((i : ℕ) → get_or xs i 0 ≤ most) → place < length xs
    → (i : ℕ) → get_or (set xs place (get_or xs place 0 + 1)) i 0 ≤ most + 1
counted xs place most all within i =
    elim (cases_eq i place) [
      | inl same ↦ let e = ap (λ n. get_or (set xs place (get_or xs place 0 + 1)) n 0) same
          ∙ get_or-set_same xs place
          (get_or xs place 0 + 1) 0 within in let h = all place in omega arith
      | inr other ↦ let e = get_or-set_other xs place i (get_or xs place 0 + 1) 0 other in
          let h = all i in omega arith
    ]

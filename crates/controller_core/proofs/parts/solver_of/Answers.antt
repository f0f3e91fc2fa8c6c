use Rattle.std.proofs.Common.{◌≡◌, ◌≤◌, List, sym, ap, ap₂, subst, ◌∙◌, arith}
use Rattle.std.specs.FinSet.{empty}
use Rattle.plant_types.specs.Checks.{sizes_of}
use Rattle.plant_types.specs.Sizes.{cleared}
use Rattle.plant_types.specs.declared.network.Segment.{Segment}
use Rattle.plant_types.specs.Standing.{cells_of_segments, message_count, message_limit}
use Rattle.ladder_solver.specs.GridCompile.{grids_of}
use Rattle.ladder_solver.specs.Conditions.{GridsAskNoMore}
use Rattle.ladder_solver.specs.Numbers.{mstr_blocks, mstr_count}
use Rattle.ladder_solver.specs.Program.{CanLay}
use Rattle.ladder_solver.specs.State.{LadderState}
use Rattle.mstr_block.specs.Table.{idle_table}
use Rattle.controller_core.proofs.parts.solver_of.Goals as goal

few_blocks : (segments : List Segment) → GridsAskNoMore
    → message_count (cells_of_segments segments) ≤ message_limit
    → mstr_blocks segments ≤ message_limit
few_blocks segments law messages = let few = law.few segments in omega (arith, few, messages)

pub new-requires : goal.new-requires
new-requires c =
    let plan = c.args.plan.now in
    let laid : c.in_ok-grids.grids ≡ grids_of plan.segments = c.in_ok-grids.ensures
    ∙ ap grids_of c.as_slice.ensures in
    let found = c.checked_plans_find_all.ensures plan c.requires.passes in
    let law = c.grids_ask_no_more.ensures in
    subst CanLay (sym laid) (law.can_lay (cleared (sizes_of plan)) plan.segments
    (law.operands (cleared (sizes_of plan)) plan.segments found.operands)
    (few_blocks plan.segments law c.requires.messages))

pub returns : goal.returns
returns c =
    let plan = c.args.plan.now in
    let laid : c.in_ok-grids.grids ≡ grids_of plan.segments = c.in_ok-grids.ensures
    ∙ ap grids_of c.as_slice.ensures in
    let blocks : c.blocks-count.result ≡ mstr_blocks plan.segments =
    c.blocks-count.ensures ∙ ap (λ (l : LadderState). mstr_count l.grids) c.in_ok-ladder.ensures
    ∙ ap mstr_count laid ∙ c.grids_ask_no_more.ensures.blocks plan.segments in
    record {
      ladder = c.in_ok-ladder.ensures ∙ (λ i. record { grids = laid i; edges = empty });
      bank = c.in_ok-bank.ensures ∙ ap₂ (idle_table plan.node) c.is_routed.ensures blocks;
      few = few_blocks plan.segments c.grids_ask_no_more.ensures c.requires.messages;
    }

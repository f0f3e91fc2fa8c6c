use Rattle.std.proofs.Common.{◌≡◌, ◌≤◌, List, sym, ap, subst, ◌∙◌, arith}
use Rattle.plant_types.specs.Checks.{sizes_of}
use Rattle.plant_types.specs.Sizes.{cleared}
use Rattle.plant_types.specs.declared.network.Segment.{Segment}
use Rattle.plant_types.specs.Standing.{cells_of_segments, message_count, message_limit}
use Rattle.grid_compile.specs.Layout.{grids_of}
use Rattle.ladder_solver.specs.Conditions.{GridsAskNoMore}
use Rattle.ladder_solver.specs.Numbers.{mstr_blocks}
use Rattle.ladder_solver.specs.Program.{CanLay}
use Rattle.field_machine.proofs.work.ladder_of.Goals as goal

few-blocks : (segments : List Segment) → GridsAskNoMore
    → message_count (cells_of_segments segments) ≤ message_limit
    → mstr_blocks segments ≤ message_limit
few-blocks segments law messages = let few = law.few segments in omega (arith, few, messages)

pub new-requires : goal.new-requires
new-requires c =
    let plan = c.args.plan.now in
    let laid : c.in_ok-grids.grids ≡ grids_of plan.segments = c.in_ok-grids.ensures
    ∙ ap grids_of c.as_slice.ensures in
    let found = c.checked_plans_find_all.ensures plan c.requires.passes in
    let law = c.grids_ask_no_more.ensures in
    subst CanLay (sym laid) (law.can_lay (cleared (sizes_of plan)) plan.segments
    (law.operands (cleared (sizes_of plan)) plan.segments found.operands)
    (few-blocks plan.segments law c.requires.messages))

use Rattle.std.proofs.Common.{◌≡◌, length, sym, ap, subst, ◌∙◌, arith}
use Rattle.std.proofs.lemmas.List.{length-replicate}
use Rattle.plant_types.specs.Checks.{sizes_of}
use Rattle.plant_types.specs.Sizes.{cleared}
use Rattle.mstr_block.specs.declared.state.BlockState.TheVariants.{Idle}
use Rattle.mstr_block.specs.Table.{BlockTable}
use Rattle.grid_compile.specs.Layout.{grids_of}
use Rattle.ladder_solver.specs.Program.{CanLay}
use Rattle.ladder_solver.specs.State.{LadderState}
use Rattle.ladder_tests.proofs.segments.solver_of.Goals as goal

pub new-requires : goal.new-requires
new-requires c =
    let plan = c.args.plan.now in
    let law = c.grids_ask_no_more.ensures in
    let found = c.checked_plans_find_all.ensures plan c.requires.passes in
    let laid : c.in_ok-grids.grids ≡ grids_of plan.segments =
    c.in_ok-grids.ensures ∙ ap grids_of c.as_slice.ensures in
    let store = cleared (sizes_of plan) in
    subst CanLay (sym laid)
    (law.can_lay store plan.segments (law.operands store plan.segments found.operands)
    (omega (arith, law.few plan.segments, c.requires.messages)))

pub returns-clause-laid : goal.returns-clause-laid
returns-clause-laid c =
    ap (λ (l : LadderState). l.grids) c.in_ok-ladder.ensures
    ∙ c.in_ok-grids.ensures ∙ ap grids_of c.as_slice.ensures

pub returns-clause-blocks : goal.returns-clause-blocks
returns-clause-blocks c =
    let many = ap (λ (t : BlockTable). length t.blocks) c.in_ok-bank.ensures
    ∙ length-replicate c.blocks-count.result Idle in
    omega (arith, many, c.blocks-count.ensures)

use Rattle.std.proofs.Common.{List, sym, subst}
use Rattle.plant_types.specs.declared.reference.Ref.{Ref}
use Rattle.plant_types.specs.Checks.{sizes_of, HasPanel}
use Rattle.plant_types.specs.Sizes.{cleared}
use Rattle.state_ram.specs.Packed.{packed_contents}
use Rattle.field_machine.proofs.field.Field.show_panel.Goals as goal

pub push_values-requires : goal.push_values-requires
push_values-requires c =
    let plan = c.args.self.now.fixed.plan in
    let store = packed_contents c.args.work.now.ram in
    let found = c.checked_plans_find_all.ensures plan c.requires.field.runs.plan.passes in
    let there = c.kept_stores_find_all.ensures.panel (cleared (sizes_of plan)) store plan.panel
    c.requires.ready.keeps found.panel in
    subst (λ (panel : List Ref). HasPanel store panel) (sym c.as_slice.ensures) there

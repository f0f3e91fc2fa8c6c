use Rattle.std.proofs.Common.{List, sym, subst}
use Rattle.plant_types.specs.declared.reference.Ref.{Ref}
use Rattle.plant_types.specs.Checks.{sizes_of, HasPanel}
use Rattle.plant_types.specs.Sizes.{cleared}
use Rattle.controller_core.proofs.machine.Machine.note_panel.Goals as goal

pub push_values-requires-clause-there : goal.push_values-requires-clause-there
push_values-requires-clause-there c =
    let m = c.args.self.now in
    let plan = m.fixed.plan in
    let sound = c.requires.sound in
    let found = c.checked_plans_find_all.ensures plan sound.runs.plan.passes in
    let there = c.kept_stores_find_all.ensures.panel (cleared (sizes_of plan)) m.ram plan.panel
    sound.keeps found.panel in
    subst (λ (panel : List Ref). HasPanel m.ram panel) (sym c.panel.ensures) there

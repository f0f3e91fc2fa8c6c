use Rattle.std.proofs.Common.{ap, sym, subst, ◌∙◌}
use Rattle.plant_types.specs.Checks.{sizes_of, HasPanel}
use Rattle.plant_types.specs.Sizes.{cleared}
use Rattle.plant_types.specs.Store.{Contents}
use Rattle.controller_core.specs.Replay.{ControllerState, replay}
use Rattle.controller_core.specs.Controller.{ControllerIs}
use Rattle.controller_core.proofs.controller.Controller.ram.Goals as goal

pub returns-clause-value : goal.returns-clause-value
returns-clause-value c =
    c.ram.ensures ∙ ap (λ (s : ControllerState). s.solving.map) c.self.invariant.kept.state
    ∙ ap (λ (v : ControllerIs). (replay v.fixed v.history).solving.map) c.self.view_is

pub returns-clause-panel : goal.returns-clause-panel
returns-clause-panel c =
    let m = c.self.inside.machine in
    let plan = m.fixed.plan in
    let sound = c.self.invariant.kept.sound in
    let found = c.checked_plans_find_all.ensures plan sound.runs.plan.passes in
    let there = c.kept_stores_find_all.ensures.panel (cleared (sizes_of plan)) m.ram plan.panel
    sound.keeps found.panel in
    subst (λ (v : ControllerIs). HasPanel c.ram.result.now v.fixed.plan.panel) c.self.view_is
    (subst (λ (store : Contents). HasPanel store plan.panel) (sym c.ram.ensures) there)

use Rattle.std.proofs.Common.{◌≡◌, map, take}
use Rattle.panel_text.proofs.panel.panels_of.Given as goal

abbrev pub invariant-loop-plan : goal.invariant-loop-plan
invariant-loop-plan l =
    map (λ panel. panel.items) l.panels.items
    ≡ map (λ plan. plan.panel) (take l.plan-index l.plans)

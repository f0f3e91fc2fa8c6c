use Rattle.std.proofs.Common.{◌≡◌, drop}
use Rattle.std.specs.List.{AllByRecursion, flat_map, zip}
use Rattle.panel_text.specs.Panel.{CanShow}
use Rattle.flow_text.specs.Power.{log_lines}
use Rattle.flow_text.specs.Window.{texts_of, told}
use Rattle.flow_text.proofs.power.tell_logs.Given as goal

abbrev pub invariant-loop-at : goal.invariant-loop-at
invariant-loop-at l = record {
  first : l.window.first ≡ l.fn.window.first;
  texts :
      told (λ scan. flat_map (log_lines l.plant scan)
      (zip (drop l.at l.plant.controllers) (drop l.at l.logs))) l.window.first (texts_of l.window)
      ≡ told (λ scan. flat_map (log_lines l.plant scan) (zip l.plant.controllers l.logs))
      l.fn.window.first (texts_of l.fn.window);
  left : AllByRecursion (CanShow l.plant)
      (zip (drop l.at l.plant.controllers) (drop l.at l.logs));
}

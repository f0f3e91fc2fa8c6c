use Rattle.std.proofs.Common.{◌≡◌, ◌++◌, drop, map}
use Rattle.std.specs.List.{AllByRecursion, zip}
use Rattle.joint_history.specs.Noted.{notes_by_log}
use Rattle.panel_text.specs.Panel.{CanShow}
use Rattle.panel_text.proofs.following.notes_by_logs.Given as goal

abbrev pub invariant-loop-at : goal.invariant-loop-at
invariant-loop-at l = record {
  notes : l.notes.items
      ++ map (notes_by_log l.plant) (zip (drop l.at l.plant.controllers) (drop l.at l.logs))
      ≡ map (notes_by_log l.plant) (zip l.plant.controllers l.logs);
  left : AllByRecursion (CanShow l.plant)
      (zip (drop l.at l.plant.controllers) (drop l.at l.logs));
}

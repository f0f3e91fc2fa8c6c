use Rattle.std.proofs.Common.{◌≡◌, ◌≤◌, ◌+◌}
use Rattle.std.specs.List.{count_by}
use Rattle.plant_types.specs.Store.{is_on}
use Rattle.controller_core.specs.Controller.{store_of}
use Rattle.summary_text.specs.Coils.{all_coils}
use Rattle.summary_text.proofs.CoilSteps.{coils_left}
use Rattle.summary_text.proofs.coils.coils_on.Given as goal

abbrev pub invariant-loop-at : goal.invariant-loop-at
invariant-loop-at l = record {
  count : l.on + count_by (is_on (store_of l.controller)) (coils_left l.at l.plan.coils)
      ≡ count_by (is_on (store_of l.controller)) (all_coils l.plan);
  few : l.on ≤ l.at;
}

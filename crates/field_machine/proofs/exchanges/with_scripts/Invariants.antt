use Rattle.std.proofs.Common.{◌≡◌, map, take}
use Rattle.field_runs.specs.Played.{with_script}
use Rattle.field_machine.specs.Never.{told_in_ways}
use Rattle.field_machine.proofs.exchanges.with_scripts.Given as goal

abbrev pub invariant-loop-drop : goal.invariant-loop-drop
invariant-loop-drop l =
    l.drops ≡ map (with_script l.plan (told_in_ways l.plan l.ways))
    (take l.drop-index l.plan.drops)

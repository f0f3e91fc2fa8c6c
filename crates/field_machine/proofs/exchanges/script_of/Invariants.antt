use Rattle.std.proofs.Common.{◌≡◌, ◌++◌, drop}
use Rattle.std.specs.List.{filter_map}
use Rattle.field_runs.specs.Played.{row_in, told_in}
use Rattle.field_machine.specs.Never.{told_in_ways}
use Rattle.field_machine.proofs.exchanges.script_of.Given as goal

abbrev pub invariant-loop-way : goal.invariant-loop-way
invariant-loop-way l =
    l.script ++ filter_map (row_in l.drop.script)
    (told_in l.plan l.drop.number (told_in_ways l.plan (drop l.way-index l.ways)))
    ≡ filter_map (row_in l.drop.script)
    (told_in l.plan l.drop.number (told_in_ways l.plan l.ways))

use Rattle.std.proofs.Common.{◌≡◌, ◌++◌, drop}
use Rattle.std.specs.List.{filter_map}
use Rattle.field_runs.specs.Played.{row_in}
use Rattle.field_machine.specs.Exchanges.{row_to}
use Rattle.field_machine.proofs.exchanges.add_rows.Given as goal

abbrev pub invariant-loop-exchange : goal.invariant-loop-exchange
invariant-loop-exchange l =
    l.script ++ filter_map (row_in l.drop.script)
    (filter_map (row_to l.drop.number) (drop l.exchange-index l.exchanges))
    ≡ l.fn.script ++ filter_map (row_in l.drop.script)
    (filter_map (row_to l.drop.number) l.exchanges)

use Rattle.std.proofs.Common.{◌≡◌, ◌++◌, map, take}
use Rattle.std.specs.List.{filter_map}
use Rattle.tied_lists.specs.Items.{net_ask}
use Rattle.joint_history.specs.Reading.{called_of}
use Rattle.station_laws.proofs.asking.add_calls.Given as goal

abbrev pub invariant-loop-call : goal.invariant-loop-call
invariant-loop-call l =
    l.list.items ≡ l.initial.list.items
    ++ filter_map net_ask (map called_of (take l.call-index l.calls))

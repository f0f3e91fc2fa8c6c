use Rattle.std.proofs.Common.{◌≡◌, take}
use Rattle.std.specs.List.{filter_map}
use Rattle.tied_lists.specs.Items.{net_ask}
use Rattle.joint_history.specs.Bridges.{side_items}
use Rattle.station_laws.proofs.asking.side_called.Given as goal

abbrev pub invariant-loop-entry : goal.invariant-loop-entry
invariant-loop-entry l =
    l.list.items ≡ filter_map net_ask (side_items l.side (take l.entry-index l.entries)).calls

use Rattle.std.proofs.Common.{◌≡◌, take}
use Rattle.std.specs.List.{filter_map}
use Rattle.tied_lists.specs.Items.{net_ask}
use Rattle.joint_history.specs.Reading.{items_of}
use Rattle.station_laws.proofs.asking.called.Given as goal

abbrev pub invariant-loop-entry : goal.invariant-loop-entry
invariant-loop-entry l =
    l.list.items ≡ filter_map net_ask (items_of (take l.entry-index l.entries)).calls

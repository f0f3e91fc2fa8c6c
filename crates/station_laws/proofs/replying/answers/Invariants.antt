use Rattle.std.proofs.Common.{◌≡◌, take}
use Rattle.tied_lists.specs.Items.{replies_in}
use Rattle.joint_history.specs.Reading.{items_of}
use Rattle.station_laws.proofs.replying.answers.Given as goal

abbrev pub invariant-loop-entry : goal.invariant-loop-entry
invariant-loop-entry l =
    l.list.items ≡ replies_in (items_of (take l.entry-index l.entries)).answers

use Rattle.std.proofs.Common.{◌≡◌, take}
use Rattle.mstr_block.specs.declared.call.CallId.{CallId}
use Rattle.tied_lists.specs.Items.{kind_in}
use Rattle.joint_history.specs.Reading.{items_of}
use Rattle.station_laws.specs.Endings.{kind_at}
use Rattle.station_laws.proofs.ending.ends.Given as goal

abbrev pub invariant-loop-entry : goal.invariant-loop-entry
invariant-loop-entry l =
    record {
      kinds_are : (q : CallId) → kind_at l.kinds q
          ≡ kind_in (items_of (take l.entry-index l.entries)).calls q;
      list_is : l.list.items ≡ (items_of (take l.entry-index l.entries)).ends;
    }

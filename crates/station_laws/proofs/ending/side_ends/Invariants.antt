use Rattle.std.proofs.Common.{◌≡◌, take}
use Rattle.mstr_block.specs.declared.call.CallId.{CallId}
use Rattle.tied_lists.specs.Items.{kind_in}
use Rattle.joint_history.specs.Bridges.{side_items}
use Rattle.station_laws.specs.Endings.{kind_at}
use Rattle.station_laws.proofs.ending.side_ends.Given as goal

abbrev pub invariant-loop-entry : goal.invariant-loop-entry
invariant-loop-entry l =
    record {
      kinds_are : (q : CallId) → kind_at l.kinds q
          ≡ kind_in (side_items l.side (take l.entry-index l.entries)).calls q;
      list_is : l.list.items ≡ (side_items l.side (take l.entry-index l.entries)).ends;
    }

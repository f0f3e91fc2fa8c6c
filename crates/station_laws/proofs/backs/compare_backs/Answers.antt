use Rattle.joint_history.specs.Bridges.{backs_of}
use Rattle.station_laws.specs.Picked.{picked}
use Rattle.station_laws.proofs.Names.{compared-backs}
use Rattle.station_laws.proofs.backs.compare_backs.Goals as goal

pub returns : goal.returns
returns c =
    compared-backs (backs_of c.args.side c.args.entries.now)
    (picked c.args.ring.now c.args.places.now) c.in_ok-names.names _ _ _ _ _ _
    c.as_slice.result.now c.as_slice-2.result.now c.first_difference.result
    c.in_ok-names.ensures c.new-posted.ensures.items c.in_ok-add_replies.ensures
    c.in_ok-add_replies-2.ensures c.as_slice.ensures.value c.new-given.ensures.items
    c.in_ok-add_backs.ensures c.in_ok-add_port_replies.ensures c.as_slice-2.ensures.value
    c.first_difference.ensures

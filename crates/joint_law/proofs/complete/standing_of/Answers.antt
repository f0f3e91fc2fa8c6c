use Rattle.std.proofs.Common.{refl}
use Rattle.joint_law.proofs.complete.standing_of.Goals as goal

pub status_by-requires : goal.status_by-requires
status_by-requires c = c.entries_of-of.ensures.places.within

pub returns : goal.returns
returns c = record {
  node_is = refl;
  places = c.entries_of-of.ensures.places;
  own_is = c.entries_of-of.ensures.own_is;
  status = c.status_by.ensures;
}

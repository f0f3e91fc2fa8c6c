use Rattle.std.proofs.Common.{◌≡◌, length, map, take}
use Rattle.std.specs.List.{AllZip}
use Rattle.std.specs.Prelude.{vec_len, vec_capacity}
use Rattle.live_run.specs.Closing.{IsOpened, net_of_gate}
use Rattle.live_run.proofs.rings.open_all.Given as goal

abbrev pub invariant-loop-index : goal.invariant-loop-index
invariant-loop-index l = record {
  opened : AllZip IsOpened l.rings.homes.items l.rings.purses.items;
  nets_are : map net_of_gate l.rings.homes.items ≡ take l.index l.nets;
  filled : (vec_len l.rings.homes ≡ l.index) × (vec_len l.rings.purses ≡ l.index);
  room : (vec_capacity l.rings.homes ≡ length l.nets)
      × (vec_capacity l.rings.purses ≡ length l.nets);
}

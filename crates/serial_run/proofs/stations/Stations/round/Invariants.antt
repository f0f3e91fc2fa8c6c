use Rattle.std.proofs.Common.{◌≡◌, length}
use Rattle.serial_run.proofs.Rounds.{SomeNets}
use Rattle.serial_run.proofs.stations.Stations.round.Given as goal

abbrev pub invariant-loop-place : goal.invariant-loop-place
invariant-loop-place l = record {
  long : length l.self.rings.items ≡ length l.fn.self.rings.items;
  nets : SomeNets l.place l.fn.self l.self;
}

use Rattle.std.proofs.Common.{◌≡◌, take}
use Rattle.tied_lists.specs.Items.{last_from}
use Rattle.station_laws.specs.Failing.{AreFounded}
use Rattle.station_laws.proofs.failing.first_unfounded.Given as goal

abbrev pub invariant-loop-place : goal.invariant-loop-place
invariant-loop-place l = record {
  before_is : l.before ≡ last_from 0 (take l.place l.downs);
  founded : AreFounded l.fails (take l.place l.downs);
}

use Rattle.station_stats.proofs.Scratch.{from-scratch}
use Rattle.station_stats.proofs.laws.counts_are_from_scratch.Goals as goal

pub returns : goal.returns
returns c = from-scratch

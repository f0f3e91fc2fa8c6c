use Rattle.std.proofs.Common.{length}
use Rattle.field_pair.proofs.exchanges.+way_of.Given as goal

abbrev pub decreases-way_of : goal.decreases-way_of
decreases-way_of l = length l.reads.now

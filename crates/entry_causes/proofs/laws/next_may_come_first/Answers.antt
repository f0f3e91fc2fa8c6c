use Rattle.entry_causes.proofs.Stations.{next-first}
use Rattle.entry_causes.proofs.laws.next_may_come_first.Goals as goal

pub returns : goal.returns
returns c = next-first

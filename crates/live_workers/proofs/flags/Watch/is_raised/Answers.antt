use Rattle.std.proofs.Common.{rules}
use Rattle.live_workers.proofs.Raising.{looks}
use Rattle.live_workers.proofs.flags.Watch.is_raised.Goals as goal

pub load-requires : goal.load-requires
load-requires c = (search rules, search rules, looks _ _ _)

use Rattle.std.proofs.Common.{rules}
use Rattle.live_workers.proofs.Raising.{raises}
use Rattle.live_workers.proofs.flags.Watch.raise.Goals as goal

pub store-requires : goal.store-requires
store-requires c = (search rules, search rules, raises _ _ _)

use Rattle.std.proofs.Common.{rules}
use Rattle.live_workers.proofs.Raising.{enters}
use Rattle.live_workers.proofs.flags.Flag.watch.Goals as goal

pub load_new_seat-seat-requires : goal.load_new_seat-seat-requires
load_new_seat-seat-requires c = (search rules, enters _)

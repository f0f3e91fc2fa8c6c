use Rattle.time_judge.proofs.Caused.{noted-found}
use Rattle.time_judge.proofs.reaching.noted_next.Goals as goal

pub returns-then-are_caused : goal.returns-then-are_caused
returns-then-are_caused g c =
    noted-found g.E.StationItem.entry c.args.left.now _ c.in-len1-up.len_at_least c.entry-item.is
    c.args.noted c.in_ok-next-in-len1-up.next c.args.done c.args.may
    c.in_ok-next-in-len1-up.ensures (c.are_caused.ensures.0 c.if-are_caused.true)

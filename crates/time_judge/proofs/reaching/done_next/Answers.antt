use Rattle.time_judge.proofs.Caused.{done-found}
use Rattle.time_judge.proofs.reaching.done_next.Goals as goal

pub returns-then-are_caused : goal.returns-then-are_caused
returns-then-are_caused c =
    done-found c.args.ring.now c.args.due.now _ c.in-len1-up.len_at_least c.requires
    c.index-ring-place.is c.args.noted c.args.done c.in_ok-next-in-len1-up.next c.args.may
    c.in_ok-next-in-len1-up.ensures (c.are_caused.ensures.0 c.if-are_caused.true)

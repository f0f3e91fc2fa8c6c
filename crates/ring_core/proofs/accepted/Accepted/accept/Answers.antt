use Rattle.ring_core.proofs.Numbers.{number-written}
use Rattle.ring_core.proofs.accepted.Accepted.accept.Goals as goal

pub returns-clause-ok : goal.returns-clause-ok
returns-clause-ok c =
    number-written c.self.inside.numbers.entries c.insert.new.self.entries c.args.self.now c.args.id
    c.self.view_is c.in_ok-insert.ensures.updates.0

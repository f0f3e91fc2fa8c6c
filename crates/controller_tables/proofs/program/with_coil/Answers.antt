use Rattle.std.proofs.Common.{sym}
use Rattle.controller_tables.proofs.DrivenLemmas.{HoldsJust-gain}
use Rattle.controller_tables.proofs.program.with_coil.Goals as goal

pub returns-in-Ok : goal.returns-in-Ok
returns-in-Ok c = HoldsJust-gain c.args.driven.keys c.insert.new.self.keys c.args.coil
    c.in-Some.coil (sym c.in-Some.is) (λ q. c.in-Ok.ensures.updates.0 q)

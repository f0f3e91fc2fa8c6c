use Rattle.std.proofs.Common.{arith, refl}
use Rattle.port_tests.proofs.Ready.{ready-new}
use Rattle.port_tests.proofs.power.station_of.Goals as goal

pub returns : goal.returns
returns c = ready-new c.args.node c.args.controller c.in_ok-worker.worker _ c.args.net.now
    c.requires.members c.requires.alone
    c.requires.member (rw c.requires.answer (omega arith)) c.requires.node c.requires.history
    c.in_ok-worker.ensures refl

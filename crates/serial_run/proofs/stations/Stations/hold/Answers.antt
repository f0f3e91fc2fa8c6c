use Rattle.std.proofs.Common.{sym, ◌∙◌}
use Rattle.serial_run.proofs.TurnCases.{no-network-held}
use Rattle.serial_run.proofs.stations.Stations.hold.Goals as goal

pub returns-in-None : goal.returns-in-None
returns-in-None c = no-network-held c.args.self.now c.args.network
    (sym c.ring_at.ensures ∙ c.in-None.is)

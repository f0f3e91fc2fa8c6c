use Rattle.std.proofs.Common.{sym, ◌∙◌}
use Rattle.serial_run.proofs.Fed.{ring-nowhere, ring-there}
use Rattle.serial_run.proofs.stations.Stations.ring_history.Goals as goal

pub returns-in-Some : goal.returns-in-Some
returns-in-Some c = c.history.ensures.history
    ∙ ring-there c.args.self.now c.args.network c.in-Some.place c.index.result.now
    (sym c.ring_at.ensures ∙ c.in-Some.is) c.index.ensures

pub returns-in-None : goal.returns-in-None
returns-in-None c = ring-nowhere c.args.self.now c.args.network
    (sym c.ring_at.ensures ∙ c.in-None.is)

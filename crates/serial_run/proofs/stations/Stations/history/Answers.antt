use Rattle.std.proofs.Common.{sym, ◌∙◌}
use Rattle.serial_run.proofs.Fed.{history-nowhere, history-there}
use Rattle.serial_run.proofs.stations.Stations.history.Goals as goal

pub returns-in-Some : goal.returns-in-Some
returns-in-Some c = c.history.ensures.history
    ∙ history-there c.args.self.now c.args.node c.in-Some.at c.index.result.now
    (sym c.controller_at.ensures ∙ c.in-Some.is) c.index.ensures

pub returns-in-None : goal.returns-in-None
returns-in-None c = history-nowhere c.args.self.now c.args.node
    (sym c.controller_at.ensures ∙ c.in-None.is)

use Rattle.std.proofs.Common.{◌∙◌, sym}
use Rattle.serial_run.proofs.TurnCases.{members-at, members-nowhere}
use Rattle.serial_run.proofs.stations.Stations.members.Goals as goal

pub returns-in-Some : goal.returns-in-Some
returns-in-Some c =
    let r = c.requires in
    c.members_of_ring.ensures
    ∙ members-at r.plant r.scans c.args.self.now r.all c.args.network c.in-Some.place
    c.index.result.now (sym c.ring_at.ensures ∙ c.in-Some.is) c.index.ensures

pub returns-in-None : goal.returns-in-None
returns-in-None c = members-nowhere c.args.self.now c.args.network
    (sym c.ring_at.ensures ∙ c.in-None.is)

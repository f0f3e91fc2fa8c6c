use Rattle.std.proofs.Common.{refl, sym, ◌∙◌}
use Rattle.serial_run.specs.Held.{IsOffAway}
use Rattle.serial_run.proofs.Did.{no-away-did}
use Rattle.serial_run.proofs.Gained.{gains-nobody}
use Rattle.serial_run.proofs.Measures.{scans-same}
use Rattle.serial_run.proofs.TurnsMade.{found-ring, found-station, on-ok}
use Rattle.serial_run.proofs.TurnCases.{came-all, home-keeps, home-left, home-node, home-stands}
use Rattle.serial_run.proofs.stations.Stations.away.Goals as goal

pub come_back-requires-clause-stands : goal.come_back-requires-clause-stands
come_back-requires-clause-stands c =
    let run = c.args.self.now in
    let s = c.index_mut.result.now in
    let r = c.index_mut-in-Some.result.now in
    let found = found-station run c.args.node c.in-Some.at s
    (sym c.controller_at.ensures ∙ c.in-Some.is) c.index_mut.ensures.value in
    let ring = found-ring run s.network c.ring_place-place.result r
    (c.ring_place-place.ensures.is s found.0) c.index_mut-in-Some.ensures.value in
    home-stands c.requires.plant c.requires.scans run c.requires.all c.in-Some.at s found.0
    c.ring_place-place.result r ring.0 ring.1

pub come_back-requires-clause-left : goal.come_back-requires-clause-left
come_back-requires-clause-left c =
    let run = c.args.self.now in
    let s = c.index_mut.result.now in
    let r = c.index_mut-in-Some.result.now in
    let found = found-station run c.args.node c.in-Some.at s
    (sym c.controller_at.ensures ∙ c.in-Some.is) c.index_mut.ensures.value in
    let ring = found-ring run s.network c.ring_place-place.result r
    (c.ring_place-place.ensures.is s found.0) c.index_mut-in-Some.ensures.value in
    home-left c.requires.plant c.requires.scans run c.requires.all c.in-Some.at s found.0
    c.ring_place-place.result r ring.0 ring.1

pub come_back-requires-clause-keeps : goal.come_back-requires-clause-keeps
come_back-requires-clause-keeps c =
    let run = c.args.self.now in
    let s = c.index_mut.result.now in
    let r = c.index_mut-in-Some.result.now in
    let found = found-station run c.args.node c.in-Some.at s
    (sym c.controller_at.ensures ∙ c.in-Some.is) c.index_mut.ensures.value in
    let ring = found-ring run s.network c.ring_place-place.result r
    (c.ring_place-place.ensures.is s found.0) c.index_mut-in-Some.ensures.value in
    home-keeps c.requires.plant c.requires.scans run c.requires.all c.in-Some.at s found.0
    c.ring_place-place.result r ring.0 ring.1

pub come_back-requires-clause-node : goal.come_back-requires-clause-node
come_back-requires-clause-node c =
    let run = c.args.self.now in
    let s = c.index_mut.result.now in
    let r = c.index_mut-in-Some.result.now in
    let found = found-station run c.args.node c.in-Some.at s
    (sym c.controller_at.ensures ∙ c.in-Some.is) c.index_mut.ensures.value in
    let ring = found-ring run s.network c.ring_place-place.result r
    (c.ring_place-place.ensures.is s found.0) c.index_mut-in-Some.ensures.value in
    home-node c.requires.plant c.requires.scans run c.requires.all c.in-Some.at s found.0
    c.ring_place-place.result r ring.0 ring.1

pub returns-in-Some-clause-did : goal.returns-in-Some-clause-did
returns-in-Some-clause-did c =
    let run = c.args.self.now in
    let s = c.index_mut.result.now in
    let r = c.index_mut-in-Some.result.now in
    let found = found-station run c.args.node c.in-Some.at s
    (sym c.controller_at.ensures ∙ c.in-Some.is) c.index_mut.ensures.value in
    let ring = found-ring run s.network c.ring_place-place.result r
    (c.ring_place-place.ensures.is s found.0) c.index_mut-in-Some.ensures.value in
    on-ok c.come_back.result
    (λ made. (came-all c.requires.plant c.requires.scans run c.requires.all c.in-Some.at s found.0
    c.ring_place-place.result r ring.0 ring.1 c.come_back.new.station c.come_back.new.ring made
    c.args.node
    (sym c.controller_at.ensures ∙ c.in-Some.is) found.1).did)
    c.come_back.ensures

pub returns-in-Some-clause-scans : goal.returns-in-Some-clause-scans
returns-in-Some-clause-scans c =
    let run = c.args.self.now in
    let s = c.index_mut.result.now in
    let r = c.index_mut-in-Some.result.now in
    let found = found-station run c.args.node c.in-Some.at s
    (sym c.controller_at.ensures ∙ c.in-Some.is) c.index_mut.ensures.value in
    let ring = found-ring run s.network c.ring_place-place.result r
    (c.ring_place-place.ensures.is s found.0) c.index_mut-in-Some.ensures.value in
    on-ok c.come_back.result
    (λ made. (came-all c.requires.plant c.requires.scans run c.requires.all c.in-Some.at s found.0
    c.ring_place-place.result r ring.0 ring.1 c.come_back.new.station c.come_back.new.ring made
    c.args.node
    (sym c.controller_at.ensures ∙ c.in-Some.is) found.1).scans)
    c.come_back.ensures

pub returns-in-Some-clause-gain : goal.returns-in-Some-clause-gain
returns-in-Some-clause-gain c =
    let run = c.args.self.now in
    let s = c.index_mut.result.now in
    let r = c.index_mut-in-Some.result.now in
    let found = found-station run c.args.node c.in-Some.at s
    (sym c.controller_at.ensures ∙ c.in-Some.is) c.index_mut.ensures.value in
    let ring = found-ring run s.network c.ring_place-place.result r
    (c.ring_place-place.ensures.is s found.0) c.index_mut-in-Some.ensures.value in
    on-ok c.come_back.result
    (λ made. (came-all c.requires.plant c.requires.scans run c.requires.all c.in-Some.at s found.0
    c.ring_place-place.result r ring.0 ring.1 c.come_back.new.station c.come_back.new.ring made
    c.args.node
    (sym c.controller_at.ensures ∙ c.in-Some.is) found.1).gain)
    c.come_back.ensures

pub returns-in-None-clause-did : goal.returns-in-None-clause-did
returns-in-None-clause-did c = no-away-did c.args.self.now c.args.node
    (sym c.controller_at.ensures ∙ c.in-None.is)

pub returns-in-None-clause-scans : goal.returns-in-None-clause-scans
returns-in-None-clause-scans c = scans-same c.args.self.now c.args.self.now refl

pub returns-in-None-clause-gain : goal.returns-in-None-clause-gain
returns-in-None-clause-gain c = gains-nobody IsOffAway c.args.self.now c.args.node
    (sym c.controller_at.ensures ∙ c.in-None.is)

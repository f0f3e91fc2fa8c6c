use Rattle.std.proofs.Common.{refl, sym, ◌∙◌}
use Rattle.serial_run.specs.Held.{IsOffAway, IsVisited}
use Rattle.serial_run.proofs.Did.{no-visit-did}
use Rattle.serial_run.proofs.Gained.{gains-nobody, stays-same}
use Rattle.serial_run.proofs.Measures.{scans-same}
use Rattle.serial_run.proofs.TurnsMade.{found-ring, found-station, on-ok}
use Rattle.serial_run.proofs.TurnCases.{visited-all, home-keeps, home-left, home-node, home-stands}
use Rattle.serial_run.proofs.stations.Stations.visit.Goals as goal

pub visit_controller-requires-clause-stands : goal.visit_controller-requires-clause-stands
visit_controller-requires-clause-stands c =
    let run = c.args.self.now in
    let s = c.index_mut.result.now in
    let r = c.index_mut-in-Some.result.now in
    let found = found-station run c.args.node c.in-Some.at s
    (sym c.controller_at.ensures ∙ c.in-Some.is) c.index_mut.ensures.value in
    let ring = found-ring run s.network c.ring_place-place.result r
    (c.ring_place-place.ensures.is s found.0) c.index_mut-in-Some.ensures.value in
    home-stands c.requires.plant c.requires.scans run c.requires.all c.in-Some.at s found.0
    c.ring_place-place.result r ring.0 ring.1

pub visit_controller-requires-clause-left : goal.visit_controller-requires-clause-left
visit_controller-requires-clause-left c =
    let run = c.args.self.now in
    let s = c.index_mut.result.now in
    let r = c.index_mut-in-Some.result.now in
    let found = found-station run c.args.node c.in-Some.at s
    (sym c.controller_at.ensures ∙ c.in-Some.is) c.index_mut.ensures.value in
    let ring = found-ring run s.network c.ring_place-place.result r
    (c.ring_place-place.ensures.is s found.0) c.index_mut-in-Some.ensures.value in
    home-left c.requires.plant c.requires.scans run c.requires.all c.in-Some.at s found.0
    c.ring_place-place.result r ring.0 ring.1

pub visit_controller-requires-clause-keeps : goal.visit_controller-requires-clause-keeps
visit_controller-requires-clause-keeps c =
    let run = c.args.self.now in
    let s = c.index_mut.result.now in
    let r = c.index_mut-in-Some.result.now in
    let found = found-station run c.args.node c.in-Some.at s
    (sym c.controller_at.ensures ∙ c.in-Some.is) c.index_mut.ensures.value in
    let ring = found-ring run s.network c.ring_place-place.result r
    (c.ring_place-place.ensures.is s found.0) c.index_mut-in-Some.ensures.value in
    home-keeps c.requires.plant c.requires.scans run c.requires.all c.in-Some.at s found.0
    c.ring_place-place.result r ring.0 ring.1

pub visit_controller-requires-clause-node : goal.visit_controller-requires-clause-node
visit_controller-requires-clause-node c =
    let run = c.args.self.now in
    let s = c.index_mut.result.now in
    let r = c.index_mut-in-Some.result.now in
    let found = found-station run c.args.node c.in-Some.at s
    (sym c.controller_at.ensures ∙ c.in-Some.is) c.index_mut.ensures.value in
    let ring = found-ring run s.network c.ring_place-place.result r
    (c.ring_place-place.ensures.is s found.0) c.index_mut-in-Some.ensures.value in
    home-node c.requires.plant c.requires.scans run c.requires.all c.in-Some.at s found.0
    c.ring_place-place.result r ring.0 ring.1

pub returns-in-Some-clause-visited : goal.returns-in-Some-clause-visited
returns-in-Some-clause-visited c =
    let run = c.args.self.now in
    let s = c.index_mut.result.now in
    let r = c.index_mut-in-Some.result.now in
    let found = found-station run c.args.node c.in-Some.at s
    (sym c.controller_at.ensures ∙ c.in-Some.is) c.index_mut.ensures.value in
    let ring = found-ring run s.network c.ring_place-place.result r
    (c.ring_place-place.ensures.is s found.0) c.index_mut-in-Some.ensures.value in
    on-ok c.visit_controller.result
    (λ made. (visited-all c.requires.plant c.requires.scans run c.requires.all c.in-Some.at s
    found.0
    c.ring_place-place.result r ring.0 ring.1 c.visit_controller.new.station
    c.visit_controller.new.ring made c.args.node
    (sym c.controller_at.ensures ∙ c.in-Some.is) found.1).visited)
    c.visit_controller.ensures

pub returns-in-Some-clause-scans : goal.returns-in-Some-clause-scans
returns-in-Some-clause-scans c =
    let run = c.args.self.now in
    let s = c.index_mut.result.now in
    let r = c.index_mut-in-Some.result.now in
    let found = found-station run c.args.node c.in-Some.at s
    (sym c.controller_at.ensures ∙ c.in-Some.is) c.index_mut.ensures.value in
    let ring = found-ring run s.network c.ring_place-place.result r
    (c.ring_place-place.ensures.is s found.0) c.index_mut-in-Some.ensures.value in
    on-ok c.visit_controller.result
    (λ made. (visited-all c.requires.plant c.requires.scans run c.requires.all c.in-Some.at s
    found.0
    c.ring_place-place.result r ring.0 ring.1 c.visit_controller.new.station
    c.visit_controller.new.ring made c.args.node
    (sym c.controller_at.ensures ∙ c.in-Some.is) found.1).scans)
    c.visit_controller.ensures

pub returns-in-Some-clause-off : goal.returns-in-Some-clause-off
returns-in-Some-clause-off c =
    let run = c.args.self.now in
    let s = c.index_mut.result.now in
    let r = c.index_mut-in-Some.result.now in
    let found = found-station run c.args.node c.in-Some.at s
    (sym c.controller_at.ensures ∙ c.in-Some.is) c.index_mut.ensures.value in
    let ring = found-ring run s.network c.ring_place-place.result r
    (c.ring_place-place.ensures.is s found.0) c.index_mut-in-Some.ensures.value in
    on-ok c.visit_controller.result
    (λ made. (visited-all c.requires.plant c.requires.scans run c.requires.all c.in-Some.at s
    found.0
    c.ring_place-place.result r ring.0 ring.1 c.visit_controller.new.station
    c.visit_controller.new.ring made c.args.node
    (sym c.controller_at.ensures ∙ c.in-Some.is) found.1).off)
    c.visit_controller.ensures

pub returns-in-Some-clause-gain : goal.returns-in-Some-clause-gain
returns-in-Some-clause-gain c =
    let run = c.args.self.now in
    let s = c.index_mut.result.now in
    let r = c.index_mut-in-Some.result.now in
    let found = found-station run c.args.node c.in-Some.at s
    (sym c.controller_at.ensures ∙ c.in-Some.is) c.index_mut.ensures.value in
    let ring = found-ring run s.network c.ring_place-place.result r
    (c.ring_place-place.ensures.is s found.0) c.index_mut-in-Some.ensures.value in
    on-ok c.visit_controller.result
    (λ made. (visited-all c.requires.plant c.requires.scans run c.requires.all c.in-Some.at s
    found.0
    c.ring_place-place.result r ring.0 ring.1 c.visit_controller.new.station
    c.visit_controller.new.ring made c.args.node
    (sym c.controller_at.ensures ∙ c.in-Some.is) found.1).gain)
    c.visit_controller.ensures

pub returns-in-Some-clause-here : goal.returns-in-Some-clause-here
returns-in-Some-clause-here c =
    let run = c.args.self.now in
    let s = c.index_mut.result.now in
    let r = c.index_mut-in-Some.result.now in
    let found = found-station run c.args.node c.in-Some.at s
    (sym c.controller_at.ensures ∙ c.in-Some.is) c.index_mut.ensures.value in
    let ring = found-ring run s.network c.ring_place-place.result r
    (c.ring_place-place.ensures.is s found.0) c.index_mut-in-Some.ensures.value in
    on-ok c.visit_controller.result
    (λ made. (visited-all c.requires.plant c.requires.scans run c.requires.all c.in-Some.at s
    found.0
    c.ring_place-place.result r ring.0 ring.1 c.visit_controller.new.station
    c.visit_controller.new.ring made c.args.node
    (sym c.controller_at.ensures ∙ c.in-Some.is) found.1).here)
    c.visit_controller.ensures

pub returns-in-None-clause-gain : goal.returns-in-None-clause-gain
returns-in-None-clause-gain c = gains-nobody IsVisited c.args.self.now c.args.node
    (sym c.controller_at.ensures ∙ c.in-None.is)

pub returns-in-None-clause-off : goal.returns-in-None-clause-off
returns-in-None-clause-off c =
    stays-same IsOffAway c.args.self.now.rings.items c.args.self.now.controllers.items

pub returns-in-None-clause-visited : goal.returns-in-None-clause-visited
returns-in-None-clause-visited c = no-visit-did c.args.self.now c.args.node
    (sym c.controller_at.ensures ∙ c.in-None.is)

pub returns-in-None-clause-scans : goal.returns-in-None-clause-scans
returns-in-None-clause-scans c = scans-same c.args.self.now c.args.self.now refl

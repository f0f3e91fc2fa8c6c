use Rattle.std.proofs.Common.{refl, sym, ◌∙◌}
use Rattle.std.specs.Vec.{with_item}
use Rattle.serial_run.specs.declared.stations.ControllerStation.{ControllerStation}
use Rattle.serial_run.specs.declared.stations.Stations.{Stations}
use Rattle.serial_run.proofs.TurnsMade.{found-station, on-ok}
use Rattle.serial_run.proofs.Did.{no-step-did, step-did}
use Rattle.serial_run.proofs.stations.Stations.step.Goals as goal

pub returns-in-Some : goal.returns-in-Some
returns-in-Some c =
    let run = c.args.self.now in
    let at = c.in-Some.at in
    let s = c.index_mut.result.now in
    let w = c.make_step.new.controller in
    let place = sym c.controller_at.ensures ∙ c.in-Some.is in
    let found = found-station run c.args.node at s place c.index_mut.ensures.value in
    let t : ControllerStation = record s { controller = w } in
    let new : Stations = record {
      controllers = with_item run.controllers at t;
      hosts = run.hosts;
      bridges = run.bridges;
      rings = run.rings;
    } in
    on-ok c.make_step.result (λ made. step-did run new c.args.node at s w found.0 place refl refl
    refl refl made) c.make_step.ensures

pub returns-in-None : goal.returns-in-None
returns-in-None c = no-step-did c.args.self.now c.args.node
    (sym c.controller_at.ensures ∙ c.in-None.is)

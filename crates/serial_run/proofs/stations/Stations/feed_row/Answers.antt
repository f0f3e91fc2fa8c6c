use Rattle.std.proofs.Common.{refl, sym, ◌∙◌}
use Rattle.std.specs.Vec.{with_item}
use Rattle.serial_run.specs.declared.stations.ControllerStation.{ControllerStation}
use Rattle.serial_run.specs.declared.stations.Stations.{Stations}
use Rattle.serial_run.proofs.Fed.{can-feed, node-fed, node-stays, nobody-fed, on-err}
use Rattle.serial_run.proofs.TurnsMade.{on-ok}
use Rattle.serial_run.proofs.stations.Stations.feed_row.Goals as goal

pub feed_row-requires : goal.feed_row-requires
feed_row-requires c = can-feed c.args.self.now c.args.node c.args.drop c.in-Some.at c.args.row
    c.index_mut.result.now c.requires (sym c.controller_at.ensures ∙ c.in-Some.is)
    c.index_mut.ensures.value

pub returns-in-Some-clause-fed : goal.returns-in-Some-clause-fed
returns-in-Some-clause-fed c =
    let run = c.args.self.now in
    let at = c.in-Some.at in
    let s = c.index_mut.result.now in
    let w = c.feed_row.new.self in
    let t : ControllerStation = record s { controller = w } in
    let new : Stations = record {
      controllers = with_item run.controllers at t;
      hosts = run.hosts;
      bridges = run.bridges;
      rings = run.rings;
    } in
    on-ok c.feed_row.result
    (λ fed. node-fed run new at s w refl refl refl refl c.args.node c.args.drop c.args.row
    (sym c.controller_at.ensures ∙ c.in-Some.is) c.index_mut.ensures.value fed)
    c.feed_row.ensures.ok

pub returns-in-Some-clause-stays : goal.returns-in-Some-clause-stays
returns-in-Some-clause-stays c =
    let run = c.args.self.now in
    let at = c.in-Some.at in
    let s = c.index_mut.result.now in
    let w = c.feed_row.new.self in
    let t : ControllerStation = record s { controller = w } in
    let new : Stations = record {
      controllers = with_item run.controllers at t;
      hosts = run.hosts;
      bridges = run.bridges;
      rings = run.rings;
    } in
    on-err c.feed_row.result
    (λ same. node-stays run new at s w refl refl refl refl c.args.node
    (sym c.controller_at.ensures ∙ c.in-Some.is) c.index_mut.ensures.value same)
    c.feed_row.ensures.err

pub returns-in-None-clause-fed : goal.returns-in-None-clause-fed
returns-in-None-clause-fed c = nobody-fed c.args.self.now c.args.node c.args.drop c.args.row
    (sym c.controller_at.ensures ∙ c.in-None.is)

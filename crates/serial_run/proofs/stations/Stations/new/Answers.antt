use Rattle.serial_run.proofs.Starting.{start-all}
use Rattle.serial_run.proofs.stations.Stations.new.Goals as goal

pub returns : goal.returns
returns c =
    start-all c.args.plant.now c.args.scans
    (record {
      controllers = c.in_ok-controllers.controllers;
      hosts = c.in_ok-hosts.hosts;
      bridges = c.in_ok-bridges.bridges;
      rings = c.in_ok-rings.rings;
    })
    c.requires.plant.sound c.in_ok-controllers.ensures c.in_ok-hosts.ensures
    c.in_ok-bridges.ensures c.in_ok-rings.ensures

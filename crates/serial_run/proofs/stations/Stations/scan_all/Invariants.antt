use Rattle.std.proofs.Common.{◌≡◌}
use Rattle.serial_run.proofs.AllScans.{SomeScanned}
use Rattle.serial_run.proofs.stations.Stations.scan_all.Given as goal

abbrev pub invariant-loop-at : goal.invariant-loop-at
invariant-loop-at l = record {
  hosts : l.self.hosts ≡ l.fn.self.hosts;
  bridges : l.self.bridges ≡ l.fn.self.bridges;
  rings : l.self.rings ≡ l.fn.self.rings;
  some : SomeScanned l.fn.self.controllers.items l.self.controllers.items l.at;
}

use Rattle.std.proofs.Common.{◌≡◌, drop, length}
use Rattle.plant_types.specs.Store.{Keeps}
use Rattle.traffic_cop.specs.Exchange.{put_all, input_total, HasModules}
use Rattle.traffic_cop.proofs.modules.put_all.Given as goal

abbrev pub invariant-loop-io_module : goal.invariant-loop-io_module
invariant-loop-io_module g l = record {
  stored : put_all l.modules l.words (g.R.RefStore.contents l.initial.ram)
      ≡ put_all (drop l.io_module-index l.modules) l.rest (g.R.RefStore.contents l.ram);
  room : HasModules (g.R.RefStore.contents l.ram) (drop l.io_module-index l.modules);
  words : length l.rest ≡ input_total (drop l.io_module-index l.modules);
  keeps : Keeps (g.R.RefStore.contents l.initial.ram) (g.R.RefStore.contents l.ram);
}

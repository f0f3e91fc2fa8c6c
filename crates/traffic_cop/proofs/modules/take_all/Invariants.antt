use Rattle.std.proofs.Common.{◌≡◌, ◌+◌, ◌++◌, take, drop}
use Rattle.traffic_cop.specs.Exchange.{output_total, output_words, HasModules}
use Rattle.traffic_cop.proofs.modules.take_all.Given as goal

abbrev pub invariant-loop-io_module : goal.invariant-loop-io_module
invariant-loop-io_module g l = record {
  count : l.count + output_total (drop l.io_module-index l.modules) ≡ output_total l.modules;
  taken : take l.count l.words
      ++ output_words (g.R.RefStore.contents l.ram) (drop l.io_module-index l.modules)
      ≡ output_words (g.R.RefStore.contents l.ram) l.modules;
  room : HasModules (g.R.RefStore.contents l.ram) (drop l.io_module-index l.modules);
}

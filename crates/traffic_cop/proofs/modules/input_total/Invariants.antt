use Rattle.std.proofs.Common.{◌≡◌, ◌+◌, drop}
use Rattle.traffic_cop.specs.Exchange.{input_total}
use Rattle.traffic_cop.proofs.modules.input_total.Given as goal

abbrev pub invariant-loop-io_module : goal.invariant-loop-io_module
invariant-loop-io_module l =
    l.total + input_total (drop l.io_module-index l.modules) ≡ input_total l.modules

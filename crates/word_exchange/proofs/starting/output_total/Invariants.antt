use Rattle.std.proofs.Common.{◌≡◌, ◌+◌, drop}
use Rattle.traffic_cop.specs.Exchange.{output_total}
use Rattle.word_exchange.proofs.starting.output_total.Given as goal

abbrev pub invariant-loop-io_module : goal.invariant-loop-io_module
invariant-loop-io_module l =
    l.total + output_total (drop l.io_module-index l.modules) ≡ output_total l.modules

use Rattle.std.proofs.Common.{◌≡◌, ◌+◌, drop}
use Rattle.traffic_cop.specs.Exchange.{input_total}
use Rattle.traffic_cop.proofs.testing.takes_few_words.Given as goal

-- what is left of the most words, and the words of the modules left
abbrev pub invariant-loop-io_module : goal.invariant-loop-io_module
invariant-loop-io_module l =
    l.left + input_total l.modules ≡ 64 + input_total (drop l.io_module-index l.modules)

use Rattle.std.proofs.Common.{length}
use Rattle.controller_core.specs.Controller.{left_of}
use Rattle.whole_scan.proofs.ScanSteps.{IsScanning}
use Rattle.whole_scan.proofs.scanning.scan.Given as goal

abbrev pub invariant-loop-controller : goal.invariant-loop-controller
invariant-loop-controller l = IsScanning l.fn.controller l.controller

abbrev pub decreases-loop-controller : goal.decreases-loop-controller
decreases-loop-controller l = length (left_of l.controller.fixed l.controller.history)

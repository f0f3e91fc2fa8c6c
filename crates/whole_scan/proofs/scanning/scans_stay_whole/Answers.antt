use Rattle.std.proofs.Common.{refl}
use Rattle.controller_core.specs.Controller.{grown}
use Rattle.whole_scan.proofs.ScanSteps.{between-kept, quiet-scan}
use Rattle.whole_scan.proofs.scanning.scans_stay_whole.Goals as goal

pub returns-clause-starts : goal.returns-clause-starts
returns-clause-starts c = λ fixed. record { many = fixed.scans; left = λ goes. refl }

pub returns-clause-stays : goal.returns-clause-stays
returns-clause-stays c = λ v added of between.
    between-kept v (grown v added v.reserved) (quiet-scan v added v.reserved of) between

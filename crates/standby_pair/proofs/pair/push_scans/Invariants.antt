use Rattle.std.proofs.Common.{◌≡◌, ◌++◌, take}
use Rattle.std.specs.List.{flat_map}
use Rattle.standby_pair.specs.Kept.{scan_parts}
use Rattle.standby_pair.proofs.Pieces.{both}
use Rattle.standby_pair.proofs.pair.push_scans.Given as goal

abbrev pub invariant-loop-scan : goal.invariant-loop-scan
invariant-loop-scan l =
    l.text.items ≡ l.fn.text.items ++ flat_map both (scan_parts (take l.scan-index l.scans))

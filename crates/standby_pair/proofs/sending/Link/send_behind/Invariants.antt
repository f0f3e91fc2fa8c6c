use Rattle.standby_pair.specs.Kept.{scan_parts}
use Rattle.standby_pair.proofs.Links.{HasRow}
use Rattle.standby_pair.proofs.sending.Link.send_behind.Given as goal

abbrev pub invariant-loop-scan : goal.invariant-loop-scan
invariant-loop-scan l =
    HasRow l.fn.self.standby.fixed l.fates (scan_parts l.scans) l.before l.fn.self l.self
    l.fn.text.items l.text.items l.scan-index

use Rattle.standby_pair.specs.Kept.{scan_parts}
use Rattle.standby_pair.proofs.Links.{HasWritten}
use Rattle.standby_pair.proofs.sending.Link.send_all.Given as goal

abbrev pub invariant-loop-place : goal.invariant-loop-place
invariant-loop-place l =
    HasWritten l.fn.self.standby.fixed l.fates (scan_parts l.scans) l.place l.fn.text.items
    l.text.items l.self

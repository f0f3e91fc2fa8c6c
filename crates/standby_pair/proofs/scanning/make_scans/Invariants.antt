use Rattle.standby_pair.proofs.Making.{InCourse}
use Rattle.standby_pair.proofs.scanning.make_scans.Given as goal

abbrev pub invariant-loop-place : goal.invariant-loop-place
invariant-loop-place l =
    InCourse l.fn.bench l.left l.frames l.bench l.made.items l.rest l.place

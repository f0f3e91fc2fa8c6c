use Rattle.std.proofs.Common.{}
use Rattle.hot_standby.proofs.Parts.{FollowsPart}
use Rattle.hot_standby.proofs.taking.follow_part.Given as goal

-- the entries so far were followed
abbrev pub invariant-loop-place : goal.invariant-loop-place
invariant-loop-place l = FollowsPart l.fn.controller l.entries l.place l.controller

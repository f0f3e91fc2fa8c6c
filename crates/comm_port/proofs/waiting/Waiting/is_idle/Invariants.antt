use Rattle.std.proofs.Common.{◌≡◌, take, All, Option, None}
use Rattle.ring_core.specs.declared.frame.Frame.{Frame}
use Rattle.comm_port.proofs.waiting.Waiting.is_idle.Given as goal

abbrev pub invariant-loop-at : goal.invariant-loop-at
invariant-loop-at l = All (λ (slot : Option Frame). slot ≡ None) (take l.at l.self)

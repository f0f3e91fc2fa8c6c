use Rattle.std.proofs.Common.{length}
use Rattle.peer_cop.proofs.ReadLemmas.{HasRead}
use Rattle.peer_cop.proofs.wires.read_wires.Given as goal

abbrev pub invariant-loop-rest : goal.invariant-loop-rest
invariant-loop-rest l = HasRead l.plant l.bytes l.rest l.wires l.flags.items

abbrev pub decreases-loop-rest : goal.decreases-loop-rest
decreases-loop-rest l = length l.rest

use Rattle.std.proofs.Common.{Some}
use Rattle.turn_gate.proofs.gates.Gate.enter.Given as goal

abbrev pub ghosts-await_turn : goal.ghosts-await_turn
ghosts-await_turn g a = record { fixed = Some a.self.now.fixed }

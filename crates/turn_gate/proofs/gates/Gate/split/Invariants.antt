use Rattle.turn_gate.proofs.gates.Gate.split.Given as goal

abbrev pub ghosts-cut : goal.ghosts-cut
ghosts-cut g a = record { number = a.number }

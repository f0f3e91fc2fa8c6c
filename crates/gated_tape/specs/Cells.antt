-- A tape in a gate. All of it is this project's own.
use Rattle.gated_tape.specs.Marks.{TapeFacts}
use Rattle.gated_tape.specs.declared.cells.TapeCell.{TapeCell}

-- the tape in the cell
abbrev pub tape_in : TapeCell → TapeFacts
tape_in c = c.tape

-- the same cell with another tape
abbrev pub with_tape : TapeCell → TapeFacts → TapeCell
with_tape c t = record c { tape = t }

use Rattle.std.proofs.Common.{◌≡◌, drop, length}
use Rattle.std.specs.List.{flat_map}
use Rattle.std.specs.Str.Lines.{lines}
use Rattle.controller_tables.specs.Pieces.{pieces_of_line}
use Rattle.controller_tables.specs.Program.{with_pieces}
use Rattle.controller_tables.proofs.pieces.with_lines.Given as goal

-- what was read, with the pieces of the lines left behind it
abbrev pub invariant-loop-line : goal.invariant-loop-line
invariant-loop-line l =
    with_pieces l.owner l.program (flat_map pieces_of_line (drop (length l.yielded) (lines l.text)))
    ≡ with_pieces l.owner l.initial.program (flat_map pieces_of_line (lines l.text))

use Rattle.std.proofs.Common.{◌≡◌, drop, length}
use Rattle.std.specs.Prelude.{filter, ◌==◌}
use Rattle.std.specs.List.{slice_split}
use Rattle.controller_tables.specs.Pieces.{has_word}
use Rattle.controller_tables.specs.Program.{with_pieces}
use Rattle.controller_tables.proofs.pieces.with_line.Given as goal

-- what was read, with the pieces left behind it
abbrev pub invariant-loop-piece : goal.invariant-loop-piece
invariant-loop-piece l =
    let parts = slice_split (λ byte. byte == 59) l.line in
    with_pieces l.owner l.program (filter has_word (drop (length l.yielded) parts))
    ≡ with_pieces l.owner l.initial.program (filter has_word parts)

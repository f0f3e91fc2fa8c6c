use Rattle.std.proofs.lemmas.List.{take_all}
use Rattle.std.proofs.Output.{has_written_append, has_written_of_eq}
use Rattle.cell_text.specs.Names.{name_text}
use Rattle.cell_text.specs.Texts.{piece_position, piece_name, piece_operands}
use Rattle.cell_text.proofs.JoinLemmas.{written-parts}
use Rattle.cell_text.proofs.writing.PieceDisplay.fmt.Goals as goal

pub returns-clause-writes : goal.returns-clause-writes
returns-clause-writes g c = λ plain ok.
    let piece = c.args.self.now in
    let first = c.in_ok-write.ensures.writes plain ok in
    let whole = written-parts (piece_position piece) (name_text (piece_name piece))
    (piece_operands piece) in
    let all = take_all c.loop-operand.operand-index c.as_slice-operand-items.result.now
    c.loop-operand-test.false in
    has_written_of_eq _ _ _ _ _ (cc)
    (has_written_append _ _ _ _ _ _ first (c.loop-operand.invariant first.plain))

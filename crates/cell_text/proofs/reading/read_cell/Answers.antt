use Rattle.cell_text.specs.Words.{text_words}
use Rattle.cell_text.proofs.PieceLemmas.{gives-has_text}
use Rattle.cell_text.proofs.reading.read_cell.Goals as goal

pub returns-clause-has_text : goal.returns-clause-has_text
returns-clause-has_text c = let e = c.as_bytes.ensures in let f = c.read_piece.ensures in
    gives-has_text (text_words c.as_bytes.result.now) c.read_piece.result c.read_piece.ensures

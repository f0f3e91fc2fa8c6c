use Rattle.cell_text.proofs.TextLemmas.{gives-reads_back}
use Rattle.cell_text.proofs.writing.cell_text.Goals as goal

pub returns-clause-reads_back : goal.returns-clause-reads_back
returns-clause-reads_back c =
    gives-reads_back c.args.piece.now c.to_string.result c.requires c.to_string.ensures.ok

use Rattle.cell_text.specs.Words.{is_blank}
use Rattle.cell_text.proofs.WordLemmas.{position_or_len-none}
use Rattle.cell_text.proofs.words.word_end.Goals as goal

pub returns-in-None-clause-value : goal.returns-in-None-clause-value
returns-in-None-clause-value c = position_or_len-none is_blank c.args.text.now c.in-None.ensures

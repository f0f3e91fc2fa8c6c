use Rattle.cell_text.proofs.WordLemmas.{text_words-none, text_words-split}
use Rattle.cell_text.proofs.words.next_word.Goals as goal

pub returns-in_default : goal.returns-in_default
returns-in_default c = text_words-none c.args.text.now c.in_default.ensures

pub returns : goal.returns
returns c =
    text_words-split c.args.text.now c.split_at.result.1.now _ _ c.in-Some.start
    c.word_end-end.result c.in-Some.ensures
    c.split_at.ensures.back c.word_end-end.ensures.value c.split_at-2.ensures.front
    c.split_at-2.ensures.back

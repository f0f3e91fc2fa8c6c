use Rattle.std.proofs.Common.{◌≡◌, map, drop}
use Rattle.cell_text.specs.Words.{text_words, are_words}
use Rattle.cell_text.proofs.words.has_words.Given as goal

-- the words left are the texts left exactly where all words are all texts
abbrev pub invariant-loop-word : goal.invariant-loop-word
invariant-loop-word l = are_words (text_words l.rest) (map (λ w. w.now) (drop l.word-index l.words))
    ≡ are_words (text_words
    l.fn.text) (map (λ w. w.now) l.words)

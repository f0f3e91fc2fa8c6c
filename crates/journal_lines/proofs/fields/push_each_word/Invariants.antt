use Rattle.std.proofs.Common.{◌≡◌, ◌++◌, drop, string_bytes}
use Rattle.std.specs.List.{flat_map}
use Rattle.journal_lines.specs.Fields.{hex_word}
use Rattle.journal_lines.proofs.fields.push_each_word.Given as goal

abbrev pub invariant-loop-word : goal.invariant-loop-word
invariant-loop-word l =
    string_bytes l.text ++ flat_map hex_word (drop l.word-index l.words)
    ≡ string_bytes l.fn.text ++ flat_map hex_word l.words

use Rattle.std.proofs.Common.{◌≡◌, ◌-◌, ◌++◌, codes, string_bytes}
use Rattle.std.specs.List.{flat_map, range_with_len}
use Rattle.plant_gen.specs.Text.{quoted, script_word, word_text}
use Rattle.plant_gen.proofs.push_script.Given as goal

abbrev pub invariant-loop-place : goal.invariant-loop-place
invariant-loop-place l =
    string_bytes l.text
    ≡ (string_bytes l.fn.text
    ++ (codes "script = [" ++ quoted (word_text (script_word l.made.number l.made.node 1))))
    ++ flat_map
    (λ place. codes ", " ++ quoted (word_text (script_word l.made.number l.made.node place)))
    (range_with_len 2 (l.place - 2))

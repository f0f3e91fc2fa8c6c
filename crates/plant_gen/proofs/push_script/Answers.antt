use Rattle.std.proofs.Common.{◌≡◌, ℕ, ◌-◌, ◌+◌, ◌++◌, ◌∙◌, ap, arith, append-nil, codes}
use Rattle.std.proofs.Common.{string_bytes, sym}
use Rattle.std.specs.List.{flat_map, range_with_len}
use Rattle.plant_gen.specs.Text.{quoted, script_word, word_text}
use Rattle.plant_gen.proofs.TextLemmas.{first_word, one_more, script_text}
use Rattle.plant_gen.proofs.push_script.Goals as goal

pub loop-place-init : goal.loop-place-init
loop-place-init c =
    let made = c.args.made in
    let begun = string_bytes c.args.text.now
    ++ (codes "script = [" ++ quoted (word_text (script_word made.number made.node 1))) in
    c.in_ok-write.ensures.bytes
    ∙ first_word (string_bytes c.args.text.now) (word_text c.script_word-first.result.0)
    ∙ ap (λ word. string_bytes c.args.text.now ++ (codes "script = [" ++ quoted (word_text word)))
    c.script_word-first.ensures
    ∙ sym (append-nil begun)

pub loop-place-preserved : goal.loop-place-preserved
loop-place-preserved c =
    let made = c.args.made in
    let place = c.loop-place.place in
    c.in_ok-write-2.ensures.bytes
    ∙ ap (λ word. string_bytes c.loop-place.text ++ (codes ", " ++ quoted (word_text word)))
    c.script_word-word.ensures
    ∙ one_more (λ at. codes ", " ++ quoted (word_text (script_word made.number made.node at)))
    (string_bytes c.args.text.now
    ++ (codes "script = [" ++ quoted (word_text (script_word made.number made.node 1))))
    (string_bytes c.loop-place.text) 2 (place - 2) (place + 1 - 2) place
    (omega arith) (omega arith) c.loop-place.invariant

pub returns : goal.returns
returns c =
    let made = c.args.made in
    let begun = string_bytes c.args.text.now
    ++ (codes "script = [" ++ quoted (word_text (script_word made.number made.node 1))) in
    let rest = λ (at : ℕ).
    codes ", " ++ quoted (word_text (script_word made.number made.node at)) in
    let all : c.loop-place.place - 2 ≡ 7 = omega arith in
    c.in_ok-push_str.ensures.bytes
    ∙ ap (λ text. text ++ codes "]\n")
    (c.loop-place.invariant ∙ ap (λ count. begun ++ flat_map rest (range_with_len 2 count)) all)
    ∙ script_text (string_bytes c.args.text.now) (word_text (script_word made.number made.node 1))
    (flat_map rest (range_with_len 2 7))

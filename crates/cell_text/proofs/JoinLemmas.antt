-- Words joined by single blanks, and the words of such a text.
use Rattle.std.proofs.Common.{◌≡◌, ℕ, Bool, true, ◌&&◌, not, List, [], ◌∷◌, ◌++◌, length, map, refl}
use Rattle.std.proofs.Common.{sym, ap, ◌∙◌, append_assoc, arith}
use Rattle.std.specs.Prelude.{◌==◌, nat_lt}
use Rattle.std.specs.List.{list_all, slice_split, join_with_byte, flat_map}
use Rattle.std.specs.Fmt.{decimal}
use Rattle.std.proofs.lemmas.Bool.{and_parts}
use Rattle.std.proofs.lemmas.Bool.Decides.{nat_tests}
use Rattle.std.proofs.lemmas.List.{append-nil}
use Rattle.plant_types.specs.declared.element.Operand.{Operand}
use Rattle.cell_text.specs.Words.{is_blank, text_words}
use Rattle.cell_text.specs.Texts.{operand_text, position_text}
use Rattle.cell_text.proofs.WordLemmas.{not_blank, words_of_nil}

-- bytes of which none is a blank
abbrev pub is_solid : List ℕ → Bool
is_solid word = list_all (λ byte. not (is_blank byte)) word

-- such bytes, and at least one
abbrev pub is_word : List ℕ → Bool
is_word word = nat_lt 0 (length word) && is_solid word

-- a text is cut behind a word before a blank
split-solid : (word rest : List ℕ) → is_solid word ≡ true
    → slice_split is_blank (word ++ 32 ∷ rest) ≡ word ∷ slice_split is_blank rest
split-solid [] rest h = refl
split-solid (b ∷ bs) rest h =
    let (here, more) = and_parts (not (is_blank b)) (is_solid bs) h in
    rw (not_blank (is_blank b) here, split-solid bs rest more) refl

-- a text that is one word is not cut
split-last : (word : List ℕ) → is_solid word ≡ true → slice_split is_blank word ≡ word ∷ []
split-last [] h = refl
split-last (b ∷ bs) h =
    let (here, more) = and_parts (not (is_blank b)) (is_solid bs) h in
    rw (not_blank (is_blank b) here, split-last bs more) refl

-- a word that has a byte is not dropped
some_length : (n : ℕ) → nat_lt 0 n ≡ true → not (n == 0) ≡ true
some_length n h = grind (arith, nat_tests)

-- a word before a blank, and a last word
text_words-word : (word rest : List ℕ) → is_word word ≡ true
    → text_words (word ++ 32 ∷ rest) ≡ word ∷ text_words rest
unfolding text_words
text_words-word word rest h =
    let (some, solid) = and_parts (nat_lt 0 (length word)) (is_solid word) h in
    rw (split-solid word rest solid, some_length (length word) some) refl

-- a text that is one word has that word
text_words-last : (word : List ℕ) → is_word word ≡ true → text_words word ≡ word ∷ []
unfolding text_words
text_words-last word h =
    let (some, solid) = and_parts (nat_lt 0 (length word)) (is_solid word) h in
    rw (split-last word solid, some_length (length word) some) refl

-- the words of a text that joins words by single blanks are those words
pub text_words-join : (words : List (List ℕ)) → list_all is_word words ≡ true
    → text_words (join_with_byte 32 words) ≡ words
text_words-join [] h = words_of_nil
text_words-join (word ∷ []) h = text_words-last word (and_parts (is_word word) true h).0
text_words-join (word ∷ next ∷ words) h =
    let (here, more) = and_parts (is_word word) (list_all is_word (next ∷ words)) h in
    text_words-word word (join_with_byte 32 (next ∷ words)) here
    ∙ ap (λ ws. word ∷ ws) (text_words-join (next ∷ words) more)

-- a word, and the operands behind it, each behind a blank
join-operands : (word : List ℕ) (operands : List Operand)
    → join_with_byte 32 (word ∷ map operand_text operands) ≡ word
    ++ flat_map (λ operand. 32 ∷ operand_text operand) operands
join-operands word [] = sym (append-nil word)
join-operands word (operand ∷ operands) =
    ap (λ rest. word ++ 32 ∷ rest) (join-operands (operand_text operand) operands)

-- a position and a name that are written first, and then the operands
pub written-parts : (place : ℕ × ℕ) (name : List ℕ) (operands : List Operand)
    → (decimal place.0 ++ (44 ∷ (decimal place.1 ++ (32 ∷ name))))
    ++ flat_map (λ operand. 32 ∷ operand_text operand) operands
    ≡ join_with_byte 32 (position_text place ∷ name ∷ map operand_text operands)
written-parts place name operands = simp (join-operands, append_assoc)

-- The operands of words, one after another.
use Rattle.std.proofs.Common.{◌≡◌, ℕ, ◌+◌, ◌<◌, List, [], ◌∷◌, ◌++◌, length, drop, get_or, Option}
use Rattle.std.proofs.Common.{Some, None, refl, sym, ap, ◌∙◌, append_assoc}
use Rattle.std.specs.Prelude.{option_map, option_and_then}
use Rattle.std.proofs.lemmas.List.{drop_more}
use Rattle.plant_types.specs.declared.element.Operand.{Operand}
use Rattle.plant_types.specs.declared.slot.Slot.{Slot}
use Rattle.plant_types.specs.declared.slot.Slot.TheVariants.{Discrete}
use Rattle.cell_text.specs.Slots.{operand_in, operands_in}

-- operands behind others, where there are some
abbrev pub behind : List Operand → Option (List Operand) → Option (List Operand)
behind operands more = option_map (λ rest. operands ++ rest) more

-- the operand of the first word, and then those of the words behind it
abbrev first_and : Option Operand → Option (List Operand) → Option (List Operand)
first_and first more = option_and_then (λ operand. option_map (λ rest. operand ∷ rest) more) first

-- the first word, and the words behind it
operands_in-cons : (slot : Slot) (slots : List Slot) (word : List ℕ) (words : List (List ℕ))
    → operands_in (slot ∷ slots) (word ∷ words)
    ≡ first_and (operand_in slot word) (operands_in slots words)
unfolding operands_in
operands_in-cons slot slots word words = refl

-- a slot without a word
operands_in-missing : (slot : Slot) (slots : List Slot) → operands_in (slot ∷ slots) [] ≡ None
unfolding operands_in
operands_in-missing slot slots = refl

-- the words from one slot on
operands_in-drop : (slots : List Slot) (i : ℕ) (word : List ℕ) (words : List (List ℕ))
    → i < length slots
    → operands_in (drop i slots) (word ∷ words)
    ≡ first_and (operand_in (get_or slots i Discrete) word) (operands_in (drop (i + 1) slots) words)
operands_in-drop slots i word words h =
    ap (λ left. operands_in left (word ∷ words)) (drop_more slots i Discrete h)
    ∙ operands_in-cons (get_or slots i Discrete) (drop (i + 1) slots) word words

-- a word that is missing has no operand
pub behind-missing : (operands : List Operand) (slots : List Slot) (i : ℕ) (words : List (List ℕ))
    → i < length slots → words ≡ []
    → behind operands (operands_in (drop i slots) words) ≡ None
behind-missing operands slots i words h none =
    ap (λ left. behind operands (operands_in (drop i slots) left)) none
    ∙ ap (λ left. behind operands (operands_in left [])) (drop_more slots i Discrete h)
    ∙ ap (behind operands) (operands_in-missing (get_or slots i Discrete) (drop (i + 1) slots))

-- where a word is no operand, there are none
pub behind-none : (operands : List Operand) (slots : List Slot) (i : ℕ) (all words : List (List ℕ))
    (word : List ℕ) → i < length slots
    → all ≡ word ∷ words → None ≡ operand_in (get_or slots i Discrete) word
    → behind operands (operands_in (drop i slots) all) ≡ None
behind-none operands slots i all words word h e none =
    ap (λ left. behind operands (operands_in (drop i slots) left)) e
    ∙ ap (behind operands) (operands_in-drop slots i word words h)
    ∙ ap (λ first. behind operands (first_and first (operands_in (drop (i + 1) slots) words)))
    (sym none)

-- an operand before others, behind those before it
behind-push : (operands : List Operand) (operand : Operand) (more : Option (List Operand))
    → behind operands (first_and (Some operand) more) ≡ behind (operands ++ operand ∷ []) more
behind-push operands operand (Some rest) = ap Some (sym (append_assoc operands (operand ∷ []) rest))
behind-push operands operand None = refl

-- one more operand stands behind those so far
pub behind-more : (operands pushed : List Operand) (slots : List Slot) (i : ℕ)
    (all words : List (List ℕ)) (word : List ℕ)
    (operand : Operand) → i < length slots → all ≡ word ∷ words
    → Some operand ≡ operand_in (get_or slots i Discrete) word → pushed ≡ operands ++ operand ∷ []
    → behind operands (operands_in (drop i slots) all)
    ≡ behind pushed (operands_in (drop (i + 1) slots) words)
behind-more operands pushed slots i all words word operand h e some push =
    ap (λ left. behind operands (operands_in (drop i slots) left)) e
    ∙ ap (behind operands) (operands_in-drop slots i word words h)
    ∙ ap (λ first. behind operands (first_and first (operands_in (drop (i + 1) slots) words)))
    (sym some)
    ∙ behind-push operands operand (operands_in (drop (i + 1) slots) words)
    ∙ ap (λ xs. behind xs (operands_in (drop (i + 1) slots) words)) (sym push)

-- Registers moved one at a time or as a run, and a number looked for.
use Rattle.std.proofs.Common.{◌≡◌, ◌≢◌, ℕ, ◌+◌, ◌<◌, ◌≤◌, ◌==◌, if◌then◌else◌, length, drop, Some}
use Rattle.std.proofs.Common.{None, refl, sym, ap, ◌∙◌, subst, arith}
use Rattle.std.specs.List.{position_from}
use Rattle.std.proofs.lemmas.Bool.Decides.{nat_tests}
use Rattle.std.proofs.lemmas.List.{drop_more, drop_all}
use Rattle.std.specs.FinMap.{insert}
use Rattle.plant_types.specs.declared.reference.Ref.{Ref}
use Rattle.plant_types.specs.Reference.{ref_from}
use Rattle.plant_types.specs.Store.{Contents, HasRegisters, word_at, words_from, with_words}
use Rattle.plant_types.proofs.RunLemmas.{HasRegisters-part, length-words_from, get_or-words_from}
use Rattle.table_ops.specs.Tables.{moved}

-- one register is moved by its number
pub moved-one : (m : Contents) (source target : Ref)
    → moved m source target 1 ≡ insert m target (word_at m source)
unfolding words_from with_words
moved-one m source target = refl

-- registers some places on in a run
pub HasRegisters-at : (m : Contents) (at : Ref) (count k part : ℕ) (r : Ref)
    → HasRegisters m at count → k + part ≤ count → r ≡ ref_from at k
    → HasRegisters m r part
HasRegisters-at m at count k part r has fits e = subst (λ (q : Ref). HasRegisters m q part) (sym e)
    (HasRegisters-part m at count k part has fits)

-- the first place that holds a number is here, or behind here
first_place-step : (m : Contents) (table : Ref) (length place value : ℕ) → place < length
    → position_from (λ word. word == value) place (drop place (words_from m table length))
    ≡ (if word_at m (ref_from table place) == value then Some place
    else position_from (λ word. word == value) (place + 1)
    (drop (place + 1) (words_from m table length)))
first_place-step m table n place value h =
    let words = words_from m table n in
    let e = length-words_from m table n in
    let within : place < length words = omega arith in
    ap (position_from (λ word. word == value) place) (drop_more words place 0 within)
    ∙ ap (λ word. if word == value then Some place
    else position_from (λ w. w == value) (place + 1) (drop (place + 1) words))
    (get_or-words_from m table n place 0 h)

-- here it is
pub first_place-here : (m : Contents) (table : Ref) (length place value : ℕ) → place < length
    → word_at m (ref_from table place) ≡ value
    → position_from (λ word. word == value) place (drop place (words_from m table length))
    ≡ Some place
first_place-here m table n place value h e =
    let step = first_place-step m table n place value h in
    grind (arith, nat_tests)

-- here it is not
pub first_place-later : (m : Contents) (table : Ref) (length place value : ℕ) → place < length
    → word_at m (ref_from table place) ≢ value
    → position_from (λ word. word == value) (place + 1)
    (drop (place + 1) (words_from m table length))
    ≡ position_from (λ word. word == value) place (drop place (words_from m table length))
first_place-later m table n place value h e =
    let step = first_place-step m table n place value h in
    grind (arith, nat_tests)

-- behind the table it is nowhere
pub first_place-nowhere : (m : Contents) (table : Ref) (length place value : ℕ) → length ≤ place
    → position_from (λ word. word == value) place (drop place (words_from m table length)) ≡ None
first_place-nowhere m table n place value h =
    let e = length-words_from m table n in
    ap (position_from (λ word. word == value) place)
    (drop_all place (words_from m table n) (omega arith))

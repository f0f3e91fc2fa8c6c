-- Runs of references of a map.
use Rattle.std.proofs.Common.{◌≡◌, ℕ, zero, suc, ◌+◌, ◌<◌, ◌≤◌, Bool, true, false, ◌&&◌, List, []}
use Rattle.std.proofs.Common.{◌∷◌, ◌++◌, length, take, get_or, cond, refl, sym, ap, ◌∙◌}
use Rattle.std.proofs.Common.{arith}
use Rattle.std.specs.Prelude.{nat_le, nat_lt, if◌then◌else◌}
use Rattle.std.specs.Cmp.{first_so, second_so}
use Rattle.std.specs.Cmp.Derive.{both_true}
use Rattle.std.proofs.lemmas.Bool.{leb-true, le-leb}
use Rattle.std.proofs.lemmas.List.{take_more, length-take-le, get_or-map, length-map}
use Rattle.std.specs.FinMap.{contains_key, insert}
use Rattle.plant_types.specs.declared.reference.Ref.{Ref}
use Rattle.plant_types.specs.Reference.{ref_from}
use Rattle.plant_types.specs.Store.{Contents, is_on, words_from, with_words}
use Rattle.plant_types.proofs.RunLemmas.{ref_from-zero, ref_from-ref_from, length-words_from}
use Rattle.plant_types.proofs.RunLemmas.{get_or-words_from, with_words-push}
use Rattle.plant_types.specs.Discretes.{bits_from, bit_words}
use Rattle.modbus_exec.specs.Runs.{largest_number, is_in_map, are_in_map, HasReferences}

and_false : (a b : Bool) → b ≡ false → (a && b) ≡ false
and_false true b e = e
and_false false b e = refl

next : (at : Ref) (place : ℕ) → ref_from (ref_from at 1) place ≡ ref_from at (suc place)
next at place = ref_from-ref_from at 1 place
    ∙ ap (ref_from at) (let e : 1 + place ≡ suc place = omega arith in e)

-- A reference of the map has a number, and the map has it.
pub in_map_is : (m : Contents) (at : Ref) → is_in_map m at ≡ true
    → (at.number ≤ largest_number) × (contains_key m at ≡ true)
in_map_is m at h =
    let number = first_so (nat_le at.number largest_number) (contains_key m at) h in
    (leb-true _ _ number, second_so (nat_le at.number largest_number) (contains_key m at) h)

-- What the map has under a number is of the map.
in_map : (m : Contents) (at : Ref) → at.number ≤ largest_number → contains_key m at ≡ true
    → is_in_map m at ≡ true
in_map m at near held = both_true (le-leb _ _ near) held

-- Where each is of the map, all are.
pub all_in_map : (m : Contents) (at : Ref) (count : ℕ) → HasReferences m at count
    → are_in_map m at count ≡ true
unfolding are_in_map
all_in_map m at zero h = refl
all_in_map m at (suc count) h =
    let first = in_map m (ref_from at 0) (h.fits 0 (omega arith)) (h.held 0 (omega arith)) in
    let rest : HasReferences m (ref_from at 1) count = record {
      fits = λ place lt. let far = h.fits (suc place) (omega arith) in omega arith;
      held = λ place lt. ap (contains_key m) (next at place) ∙ h.held (suc place) (omega arith);
    } in
    both_true (ap (is_in_map m) (sym (ref_from-zero at)) ∙ first)
    (all_in_map m (ref_from at 1) count rest)

-- Where one is not, not all are.
pub not_in_map : (m : Contents) (at : Ref) (count place : ℕ) → place < count
    → is_in_map m (ref_from at place) ≡ false → are_in_map m at count ≡ false
unfolding are_in_map
not_in_map m at zero place lt h = absurd (omega arith)
not_in_map m at (suc count) zero lt h = ap (λ b. b && are_in_map m (ref_from at 1) count)
    (ap (is_in_map m) (sym (ref_from-zero at)) ∙ h)
not_in_map m at (suc count) (suc place) lt h =
    and_false (is_in_map m at) _
    (not_in_map m (ref_from at 1) count place (omega arith) (ap (is_in_map m) (next at place) ∙ h))

-- Where all are of the map, they are a run.
pub run_of : (m : Contents) (at : Ref) (count : ℕ) → are_in_map m at count ≡ true
    → HasReferences m at count
unfolding are_in_map
run_of m at zero h =
    record { fits = λ place lt. absurd (omega arith); held = λ place lt. absurd (omega arith) }
run_of m at (suc count) h =
    let rest_in_map = are_in_map m (ref_from at 1) count in
    let here = in_map_is m at (first_so (is_in_map m at) rest_in_map h) in
    let rest = run_of m (ref_from at 1) count (second_so (is_in_map m at) rest_in_map h) in
    record {
      fits = fits here.0 rest;
      held = held here.1 rest;
    }
  where
    fits : at.number ≤ largest_number → HasReferences m (ref_from at 1) count → (place : ℕ)
        → place < suc count → at.number + place ≤ largest_number
    fits near rest zero lt = omega arith
    fits near rest (suc place) lt = let far = rest.fits place (omega arith) in omega arith

    held : contains_key m at ≡ true → HasReferences m (ref_from at 1) count → (place : ℕ)
        → place < suc count → contains_key m (ref_from at place) ≡ true
    held first rest zero lt = ap (contains_key m) (ref_from-zero at) ∙ first
    held first rest (suc place) lt = ap (contains_key m) (sym (next at place))
        ∙ rest.held place (omega arith)

-- One more word is stored behind the first so many.
pub with_words-more : (m : Contents) (at : Ref) (words : List ℕ) (i : ℕ) → i < length words
    → with_words m at (take (i + 1) words)
    ≡ insert (with_words m at (take i words)) (ref_from at i) (get_or words i 0)
with_words-more m at words i lt =
    let size = length-take-le i words (omega arith) in
    ap (with_words m at) (take_more words i 0 lt)
    ∙ with_words-push m at (take i words) (get_or words i 0)
    ∙ ap (λ (n : ℕ). insert (with_words m at (take i words)) (ref_from at n) (get_or words i 0))
    size

-- A bit as the word that is stored for it.
pub stored_bit : (bits : List Bool) (i : ℕ) → i < length bits
    → get_or (bit_words bits) i 0 ≡ cond (get_or bits i false) 1 0
stored_bit bits i lt =
    let word : Bool → ℕ = λ bit. if bit then 1 else 0 in get_or-map word bits i false 0 lt

-- One more bit of a run.
pub bits_from-more : (m : Contents) (at : Ref) (count i : ℕ) → i < count
    → take (i + 1) (bits_from m at count)
    ≡ take i (bits_from m at count) ++ is_on m (ref_from at i) ∷ []
bits_from-more m at count i lt =
    let words = words_from m at count in
    let long : length words ≡ count = length-words_from m at count in
    let here : get_or (bits_from m at count) i false ≡ is_on m (ref_from at i) =
    get_or-map (λ (word : ℕ). nat_lt 0 word) words i 0 false (omega arith)
    ∙ ap (λ (word : ℕ). nat_lt 0 word) (get_or-words_from m at count i 0 lt) in
    take_more (bits_from m at count) i false
    (omega (arith, length-map words (λ (word : ℕ). nat_lt 0 word)))
    ∙ ap (λ (b : Bool). take i (bits_from m at count) ++ b ∷ []) here

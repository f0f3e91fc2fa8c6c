-- Matrices put together word by word, and compared bit by bit.
use Rattle.std.proofs.Common.{◌≡◌, ℕ, ◌+◌, ◌*◌, ◌<◌, ◌≤◌, Bool, true, false, not, cond, List}
use Rattle.std.proofs.Common.{length, get_or, drop, map, zip, Some, None, refl, sym, ap, ◌∙◌, arith}
use mathlib.Core.Bool.{beq}
use Rattle.std.specs.List.{position_from}
use Rattle.std.proofs.lemmas.List.{ext_get_or, length-map, get_or-map, drop_more, drop_all}
use Rattle.std.proofs.lemmas.Slice.Zip.{length-zip, get_or-zip}
use Rattle.matrix_ops.specs.Bits.{matrix_bits}
use Rattle.matrix_ops.specs.Matrices.{word_by_word, is_apart}
use Rattle.matrix_ops.proofs.BitLemmas.{length-matrix_bits}

-- a list that is a map of another at each place
pub map-by_place : (f : ℕ → ℕ) (xs ys : List ℕ) → length ys ≡ length xs
    → ((k : ℕ) → k < length xs → get_or ys k 0 ≡ f (get_or xs k 0)) → ys ≡ map f xs
map-by_place f xs ys e each =
    ext_get_or 0 ys (map f xs) (e ∙ sym (length-map xs f))
    (λ k h. let b : k < length xs = omega arith in each k b ∙ sym (get_or-map f xs k 0 0 b))

-- a list that a rule makes of two at each place
pub word_by_word-by_place : (rule : ℕ → ℕ → ℕ) (xs ys zs : List ℕ) → length xs ≡ length ys
    → length zs ≡ length xs
    → ((k : ℕ) → k < length xs → get_or zs k 0 ≡ rule (get_or xs k 0) (get_or ys k 0))
    → zs ≡ word_by_word rule xs ys
word_by_word-by_place rule xs ys zs same size each =
    let pairs : length (zip xs ys) ≡ length xs = omega (arith, length-zip xs ys) in
    ext_get_or 0 zs (word_by_word rule xs ys)
    (size ∙ sym pairs ∙ sym (length-map (zip xs ys) (λ (pair : ℕ × ℕ). rule pair.0 pair.1))) (λ k h.
    let b : k < length xs = omega arith in
    let l : k < length (zip xs ys) = omega arith in
    each k b
    ∙ sym (get_or-map (λ (pair : ℕ × ℕ). rule pair.0 pair.1) (zip xs ys) k (0, 0) 0 l
    ∙ ap (λ (pair : ℕ × ℕ). rule pair.0 pair.1) (get_or-zip xs ys k (0, 0) b (omega arith))))

-- the first difference is here, or behind here
difference-step : (ws vs : List ℕ) (p : ℕ) → length ws ≡ length vs → p < 16 * length ws
    → position_from is_apart (p + 1) (drop p (zip (matrix_bits ws) (matrix_bits vs)))
    ≡ cond (is_apart (get_or (matrix_bits ws) p false, get_or (matrix_bits vs) p false))
    (Some (p + 1))
    (position_from is_apart (p + 1 + 1) (drop (p + 1) (zip (matrix_bits ws) (matrix_bits vs))))
difference-step ws vs p same h =
    let bits = matrix_bits ws in
    let others = matrix_bits vs in
    let a = length-matrix_bits ws in
    let b = length-matrix_bits vs in
    let alike : length bits ≡ length others = omega arith in
    let z = length-zip bits others in
    let within : p < length (zip bits others) = omega arith in
    let inside : p < length bits = omega arith in
    ap (position_from is_apart (p + 1)) (drop_more (zip bits others) p (false, false) within)
    ∙ ap (λ pair. cond (is_apart pair) (Some (p + 1))
    (position_from is_apart (p + 1 + 1) (drop (p + 1) (zip bits others))))
    (get_or-zip bits others p (false, false) inside (omega arith))

-- the test of the code that two bits differ
pub apart_test : (a b : Bool) → not (beq a b) ≡ is_apart (a, b)
apart_test true true = refl
apart_test true false = refl
apart_test false true = refl
apart_test false false = refl

-- here it is
pub difference-here : (ws vs : List ℕ) (p : ℕ) → length ws ≡ length vs → p < 16 * length ws
    → is_apart (get_or (matrix_bits ws) p false, get_or (matrix_bits vs) p false) ≡ true
    → position_from is_apart (p + 1) (drop p (zip (matrix_bits ws) (matrix_bits vs))) ≡ Some (p + 1)
difference-here ws vs p same h apart =
    difference-step ws vs p same h
    ∙ ap (λ t. cond t (Some (p + 1)) (position_from is_apart (p + 1 + 1)
    (drop (p + 1) (zip (matrix_bits ws) (matrix_bits vs))))) apart

-- here it is not
pub difference-later : (ws vs : List ℕ) (p : ℕ) → length ws ≡ length vs → p < 16 * length ws
    → is_apart (get_or (matrix_bits ws) p false, get_or (matrix_bits vs) p false) ≡ false
    → position_from is_apart (p + 1 + 1) (drop (p + 1) (zip (matrix_bits ws) (matrix_bits vs)))
    ≡ position_from is_apart (p + 1) (drop p (zip (matrix_bits ws) (matrix_bits vs)))
difference-later ws vs p same h alike =
    sym (difference-step ws vs p same h
    ∙ ap (λ t. cond t (Some (p + 1)) (position_from is_apart (p + 1 + 1)
    (drop (p + 1) (zip (matrix_bits ws) (matrix_bits vs))))) alike)

-- behind the matrices it is nowhere
pub difference-nowhere : (ws vs : List ℕ) (p : ℕ) → length ws ≡ length vs → 16 * length ws ≤ p
    → position_from is_apart (p + 1) (drop p (zip (matrix_bits ws) (matrix_bits vs))) ≡ None
difference-nowhere ws vs p same h =
    let a = length-matrix_bits ws in
    let b = length-matrix_bits vs in
    let z = length-zip (matrix_bits ws) (matrix_bits vs) in
    ap (position_from is_apart (p + 1))
    (drop_all p (zip (matrix_bits ws) (matrix_bits vs)) (omega arith))

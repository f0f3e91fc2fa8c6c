-- The bits of words and of matrices.
use Rattle.std.proofs.Common.{◌≡◌, ◌≢◌, ℕ, zero, suc, ◌+◌, ◌-◌, ◌*◌, ◌/◌, ◌%◌, ◌^◌, ◌<◌, Bool, true}
use Rattle.std.proofs.Common.{false, ◌==◌, List, [], ◌∷◌, ◌++◌, length, get_or, set, take, drop}
use Rattle.std.proofs.Common.{map, fold, refl, sym, ap, ◌∙◌, inl, inr, arith}
use Rattle.std.specs.Int.{bit_at, w16}
use Rattle.std.specs.Prelude.{bit_and, bit_or}
use Rattle.std.specs.List.{range_with_len}
use Rattle.std.proofs.lemmas.Bool.{cases_eq}
use Rattle.std.proofs.lemmas.Bool.Decides.{nat_tests}
use Rattle.std.proofs.lemmas.List.{length-append, get_or_append_left, get_or-append-add, length-set}
use Rattle.std.proofs.lemmas.List.{get_or-set_same, get_or-set_other, ext_get_or}
use Rattle.std.proofs.lemmas.List.FromFn.{fill_by_all}
use Rattle.std.proofs.lemmas.Nat.{mod-pow-add, or_of_16, and_le_l}
use Rattle.std.proofs.lemmas.Nat.Bits.{bit_at-lt, bit_at_set_same, bit_at_set_other}
use Rattle.std.proofs.lemmas.Nat.Bits.{bit_at_clear_same, bit_at_clear_other}
use Rattle.std.proofs.Math.Nat.{pow-suc}
use Rattle.plant_types.specs.Power.{bit_of}
use Rattle.plant_types.proofs.DiscretesLemmas.{length-bits_high_first, get_or-bits_high_first}
use Rattle.plant_types.specs.Discretes.{bits_high_first, word_bits, number_of_bits}
use Rattle.matrix_ops.specs.Bits.{matrix_bits, matrix_words}

bit_again : (b : ℕ) → b < 2 → bit_of (b == 1) ≡ b
bit_again b h = grind (arith, nat_tests)

shifted : (a b p r : ℕ) → (2 * a + b) * p + r ≡ a * (p * 2) + (b * p + r)
shifted a b p r = omega arith

-- the number of the lowest bits of a number, behind others
fold-bits_high_first : (n w acc : ℕ)
    → fold (λ m on. 2 * m + bit_of on) acc (bits_high_first n w) ≡ acc * 2 ^ n + w % 2 ^ n
unfolding bits_high_first
fold-bits_high_first zero w acc = omega arith
fold-bits_high_first (suc n) w acc =
    let e : 1 + n ≡ suc n = omega arith in
    let low : w % 2 ^ suc n ≡ bit_at w n * 2 ^ n + w % 2 ^ n = ap (λ i. w % 2 ^ i) (sym e)
    ∙ mod-pow-add w 1 n in
    fold-bits_high_first n w (2 * acc + bit_of (bit_at w n == 1))
    ∙ ap (λ b. (2 * acc + b) * 2 ^ n + w % 2 ^ n) (bit_again (bit_at w n) (bit_at-lt w n))
    ∙ shifted acc (bit_at w n) (2 ^ n) (w % 2 ^ n)
    ∙ ap (λ p. acc * p + (bit_at w n * 2 ^ n + w % 2 ^ n)) (sym (pow-suc 2 n))
    ∙ ap (λ r. acc * 2 ^ suc n + r) (sym low)

-- a word is the number of its bits
pub number_of_bits-word_bits : (w : ℕ) → w < 2 ^ 16 → number_of_bits (word_bits w) ≡ w
number_of_bits-word_bits w h = let e = fold-bits_high_first 16 w 0 in omega arith

-- 16 bits that are those of a word have its number
pub number_of_bits-of_word : (bits : List Bool) (w : ℕ) → w < 2 ^ 16 → length bits ≡ 16
    → ((j k : ℕ) → j + k ≡ 15 → get_or bits j false ≡ (bit_at w k == 1))
    → w ≡ number_of_bits bits
number_of_bits-of_word bits w h size same =
    sym (number_of_bits-word_bits w h)
    ∙ ap number_of_bits
    (ext_get_or false (word_bits w) bits (length-bits_high_first 16 w ∙ sym size) (λ j l.
    let b : j < 16 = let s = length-bits_high_first 16 w in omega arith in
    let k : j + (15 - j) ≡ 15 = omega arith in
    get_or-bits_high_first 16 w j (15 - j) false (omega arith) ∙ sym (same j (15 - j) k)))

set_bit_at : (w r j k i l : ℕ) (on : Bool) → j + k ≡ 15 → i + l ≡ 15 → on ≡ (bit_at r k == 1)
    → ((n : ℕ) → n < 16 → n ≢ k → bit_at r n ≡ bit_at w n)
    → get_or (set (word_bits w) j on) i false ≡ (bit_at r l == 1)
set_bit_at w r j k i l on at e here others =
    let size = length-bits_high_first 16 w in
    elim (cases_eq i j) [
      | inl same ↦
          let place : k ≡ l = omega arith in
          ap (λ n. get_or (set (word_bits w) j on) n false) same
          ∙ get_or-set_same (word_bits w) j on false (omega arith) ∙ here
          ∙ ap (λ n. bit_at r n == 1) place
      | inr apart ↦
          let within : l < 16 = omega arith in
          get_or-set_other (word_bits w) j i on false apart
          ∙ get_or-bits_high_first 16 w i l false (omega arith)
          ∙ ap (λ b. b == 1) (sym (others l within (λ same. apart (omega arith))))
    ]

-- a word with one bit set on or off
pub number_of_bits-set : (w r j k : ℕ) (on : Bool) → j + k ≡ 15 → r < 2 ^ 16
    → (on ≡ (bit_at r k == 1))
    → ((i : ℕ) → i < 16 → i ≢ k → bit_at r i ≡ bit_at w i)
    → r ≡ number_of_bits (set (word_bits w) j on)
number_of_bits-set w r j k on at fits here others =
    number_of_bits-of_word (set (word_bits w) j on) r fits
    (length-set (word_bits w) j on ∙ length-bits_high_first 16 w)
    (λ i l e. set_bit_at w r j k i l on at e here others)

-- a bit set on, and one set off
pub number_of_bits-set_on : (w j : ℕ) → j < 16 → w < 2 ^ 16
    → bit_or w (1 * 2 ^ (15 - j) % 65536) ≡ number_of_bits (set (word_bits w) j true)
number_of_bits-set_on w j h fits =
    let k : 15 - j < 16 = omega arith in
    let r = bit_or w (1 * 2 ^ (15 - j) % 65536) in
    number_of_bits-set w r j (15 - j) true (omega arith)
    (or_of_16 w (1 * 2 ^ (15 - j) % 65536) fits (omega arith))
    (ap (λ b. b == 1) (sym (bit_at_set_same w16 w (15 - j) k)))
    (λ i l apart. bit_at_set_other w16 w (15 - j) k i apart)

pub number_of_bits-set_off : (w j : ℕ) → j < 16 → w < 2 ^ 16
    → bit_and w (65535 - 1 * 2 ^ (15 - j) % 65536) ≡ number_of_bits (set (word_bits w) j false)
number_of_bits-set_off w j h fits =
    let k : 15 - j < 16 = omega arith in
    let r = bit_and w (65535 - 1 * 2 ^ (15 - j) % 65536) in
    number_of_bits-set w r j (15 - j) false (omega arith)
    (omega (arith, and_le_l w (65535 - 1 * 2 ^ (15 - j) % 65536)))
    (ap (λ b. b == 1) (sym (bit_at_clear_same w16 w (15 - j) k)))
    (λ i l apart. bit_at_clear_other w16 w (15 - j) k i l apart)

-- a matrix has 16 bits a word
pub length-matrix_bits : (ws : List ℕ) → length (matrix_bits ws) ≡ 16 * length ws
unfolding matrix_bits
length-matrix_bits [] = refl
length-matrix_bits (w ∷ ws) =
    let e = length-append (word_bits w) (matrix_bits ws) in
    let s = length-bits_high_first 16 w in
    let rest = length-matrix_bits ws in
    omega arith

-- the bits of a matrix are those of its words
pub get_or-matrix_bits : (ws : List ℕ) (i j : ℕ) (d : Bool) → i < length ws → j < 16
    → get_or (matrix_bits ws) (16 * i + j) d ≡ get_or (word_bits (get_or ws i 0)) j d
unfolding matrix_bits
get_or-matrix_bits [] i j d h l = absurd (omega arith)
get_or-matrix_bits (w ∷ ws) zero j d h l =
    let s = length-bits_high_first 16 w in
    let e : 16 * 0 + j ≡ j = omega arith in
    ap (λ p. get_or (word_bits w ++ matrix_bits ws) p d) e
    ∙ get_or_append_left (word_bits w) (matrix_bits ws) d j (omega arith)
get_or-matrix_bits (w ∷ ws) (suc i) j d h l =
    let s = length-bits_high_first 16 w in
    let e : 16 * suc i + j ≡ length (word_bits w) + (16 * i + j) = omega arith in
    ap (λ p. get_or (word_bits w ++ matrix_bits ws) p d) e
    ∙ get_or-append-add (word_bits w) (matrix_bits ws) (16 * i + j) d
    ∙ get_or-matrix_bits ws i j d (omega arith) l

-- the bit of a matrix at a place, as the bit of a number
pub get_or-matrix_bits_at : (ws : List ℕ) (i j k p : ℕ) (d : Bool) → i < length ws → j + k ≡ 15
    → p ≡ 16 * i + j
    → get_or (matrix_bits ws) p d ≡ (bit_at (get_or ws i 0) k == 1)
get_or-matrix_bits_at ws i j k p d h e at =
    ap (λ q. get_or (matrix_bits ws) q d) at ∙ get_or-matrix_bits ws i j d h (omega arith)
    ∙ get_or-bits_high_first 16 (get_or ws i 0) j k d (omega arith)

-- words that have the bits, 16 by 16, are the words of the bits
pub matrix_words-by_place : (ws : List ℕ) (bits : List Bool) → length bits / 16 ≡ length ws
    → ((i : ℕ) → i < length ws → get_or ws i 0 ≡ number_of_bits (take 16 (drop (16 * i) bits)))
    → ws ≡ matrix_words bits
unfolding matrix_words
matrix_words-by_place ws bits size each =
    fill_by_all (λ i. number_of_bits (take 16 (drop (16 * i) bits))) ws (length ws) 0 refl each
    ∙ ap (λ n. map (λ i. number_of_bits (take 16 (drop (16 * i) bits))) (range_with_len 0 n))
    (sym size)

-- Bits turned to the left and to the right.
use Rattle.std.proofs.Common.{◌≡◌, ℕ, zero, suc, ◌+◌, ◌-◌, ◌*◌, ◌/◌, ◌%◌, ◌^◌, ◌<◌, Bool, true}
use Rattle.std.proofs.Common.{false, ◌==◌, List, [], ◌∷◌, length, get_or, take, drop, refl, sym, ap}
use Rattle.std.proofs.Common.{◌∙◌, lit<, arith}
use Rattle.std.specs.Int.{bit_at}
use Rattle.std.specs.Prelude.{bit_and, bit_or}
use Rattle.std.proofs.lemmas.List.{length-append, length-drop, length-take-le, get_or-take}
use Rattle.std.proofs.lemmas.List.{get_or-drop, get_or_append_left, get_or_push}
use Rattle.std.proofs.lemmas.Nat.{or_shifted, shr_split}
use Rattle.std.proofs.lemmas.Nat.Bits.{bit_at-lt, bit_at-suc, bit_at_cat_low, bit_at_cat_high}
use Rattle.std.proofs.lemmas.Nat.Bits.{shr_and_one}
use mir.Val.{bool_byte}
use Rattle.plant_types.specs.Power.{bit_of}
use Rattle.matrix_ops.specs.Bits.{matrix_bits}
use Rattle.matrix_ops.specs.Matrices.{left_turned, right_turned}
use Rattle.plant_types.specs.Discretes.{number_of_bits}
use Rattle.matrix_ops.proofs.BitLemmas.{length-matrix_bits, get_or-matrix_bits_at}
use Rattle.matrix_ops.proofs.BitLemmas.{number_of_bits-of_word}

-- a bit of the low bits of a number is that of the number
bit_at-mod : (w n i : ℕ) → i < n → bit_at (w % 2 ^ n) i ≡ bit_at w i
bit_at-mod w n i h = sym (bit_at_cat_low (w / 2 ^ n) n (w % 2 ^ n) i h)
    ∙ ap (λ x. bit_at x i) (shr_split w n)

-- a word moved to the left, and a bit put in
left_number : (w b : ℕ) → b < 2 → bit_or (w * 2 % 65536) b ≡ w % 2 ^ 15 * 2 ^ 1 + b
left_number w b h =
    let e : w * 2 % 65536 ≡ w % 2 ^ 15 * 2 ^ 1 = omega arith in
    ap (λ x. bit_or x b) e ∙ or_shifted (w % 2 ^ 15) 1 b h

-- a word moved to the right, and a bit put in
right_number : (w b : ℕ) → b < 2 → w < 2 ^ 16
    → bit_or (b * 32768 % 65536) (w / 2) ≡ b * 2 ^ 15 + w / 2
right_number w b h fits =
    let e : b * 32768 % 65536 ≡ b * 2 ^ 15 = omega arith in
    ap (λ x. bit_or x (w / 2)) e ∙ or_shifted b 15 (w / 2) (omega arith)

-- the bits of a word moved to the left
left_bit_later : (w b k : ℕ) → b < 2 → k < 15 → bit_at (w % 2 ^ 15 * 2 ^ 1 + b) (suc k) ≡ bit_at w k
left_bit_later w b k h l =
    let e : suc k - 1 ≡ k = omega arith in
    bit_at_cat_high (w % 2 ^ 15) 1 b (suc k) h (omega arith) ∙ ap (bit_at (w % 2 ^ 15)) e
    ∙ bit_at-mod w 15 k l

left_bit_last : (w b : ℕ) → b < 2 → bit_at (w % 2 ^ 15 * 2 ^ 1 + b) 0 ≡ b
left_bit_last w b h =
    let e : b / 2 ^ 0 % 2 ≡ b = omega arith in bit_at_cat_low (w % 2 ^ 15) 1 b 0 (omega arith) ∙ e

-- the bits of a word moved to the right
right_bit_later : (w b k : ℕ) → k < 15 → bit_at (b * 2 ^ 15 + w / 2) k ≡ bit_at w (suc k)
right_bit_later w b k l = bit_at_cat_low b 15 (w / 2) k l ∙ sym (bit_at-suc w k)

right_bit_first : (w b : ℕ) → b < 2 → w < 2 ^ 16 → bit_at (b * 2 ^ 15 + w / 2) 15 ≡ b
right_bit_first w b h fits = let e : b / 2 ^ 0 % 2 ≡ b =
    omega arith in bit_at_cat_high b 15 (w / 2) 15 (omega arith) (omega arith) ∙ e

bit_test : (b : ℕ) (on : Bool) → b ≡ bit_of on → (b == 1) ≡ on
bit_test b true e = ap (λ n. n == 1) e
bit_test b false e = ap (λ n. n == 1) e

bit_of-lt : (on : Bool) → bit_of on < 2
bit_of-lt true = lit< tt
bit_of-lt false = lit< tt

-- a bit as a number
pub byte_of_bit : (on : Bool) → bool_byte on ≡ bit_of on
byte_of_bit true = refl
byte_of_bit false = refl

-- 16 bits from a place on
pub length-piece : (bits : List Bool) (p n : ℕ) → length bits ≡ 16 * n → p < n
    → length (take 16 (drop (16 * p) bits)) ≡ 16
length-piece bits p n e h =
    let d = length-drop (16 * p) bits in
    length-take-le 16 (drop (16 * p) bits) (omega arith)

pub get_or-piece : (bits : List Bool) (p j : ℕ) (d : Bool) → j < 16
    → get_or (take 16 (drop (16 * p) bits)) j d ≡ get_or bits (16 * p + j) d
get_or-piece bits p j d h = get_or-take 16 (drop (16 * p) bits) j d h
    ∙ get_or-drop (16 * p) bits j d

pub length-left_turned : (bits : List Bool) (n : ℕ) (on : Bool) → length bits ≡ 16 * n → 0 < n
    → length (left_turned bits on) ≡ 16 * n
length-left_turned bits n on e h =
    let d = length-drop 1 bits in
    let a = length-append (drop 1 bits) (on ∷ []) in
    let one : length (on ∷ []) ≡ 1 = refl in
    omega arith

pub length-right_turned : (bits : List Bool) (n : ℕ) (on : Bool) → length bits ≡ 16 * n → 0 < n
    → length (right_turned (16 * n) bits on) ≡ 16 * n
length-right_turned bits n on e h =
    let t = length-take-le (16 * n - 1) bits (omega arith) in
    omega arith

-- as many words as before
pub words-left_turned : (ws : List ℕ) (on : Bool)
    → length (left_turned (matrix_bits ws) on) / 16 ≡ length ws
words-left_turned ws on =
    let m = length-matrix_bits ws in
    let d = length-drop 1 (matrix_bits ws) in
    let a = length-append (drop 1 (matrix_bits ws)) (on ∷ []) in
    let one : length (on ∷ []) ≡ 1 = refl in
    omega arith

pub words-right_turned : (ws : List ℕ) (on : Bool)
    → length (right_turned (16 * length ws) (matrix_bits ws) on) / 16 ≡ length ws
words-right_turned ws on =
    let m = length-matrix_bits ws in
    let t = length-take-le (16 * length ws - 1) (matrix_bits ws) (omega arith) in
    omega arith

-- the bit that a matrix turned to the left has at a place
left_bit : (ws : List ℕ) (on : Bool) (p : ℕ) → p + 1 < 16 * length ws
    → get_or (left_turned (matrix_bits ws) on) p false ≡ get_or (matrix_bits ws) (1 + p) false
left_bit ws on p h =
    let m = length-matrix_bits ws in
    let d = length-drop 1 (matrix_bits ws) in
    get_or_append_left (drop 1 (matrix_bits ws)) (on ∷ []) false p (omega arith)
    ∙ get_or-drop 1 (matrix_bits ws) p false

left_place : (ws : List ℕ) (p b j k : ℕ) (on : Bool) → p < length ws → b < 2
    → get_or (left_turned (matrix_bits ws) on) (16 * p + 15) false ≡ (b == 1)
    → j + k ≡ 15
    → get_or (left_turned (matrix_bits ws) on) (16 * p + j) false
    ≡ (bit_at (get_or ws p 0 % 2 ^ 15 * 2 ^ 1 + b) k == 1)
left_place ws p b j zero on h small last e =
    let last_place : j ≡ 15 = omega arith in
    ap (λ i. get_or (left_turned (matrix_bits ws) on) (16 * p + i) false) last_place ∙ last
    ∙ ap (λ n. n == 1) (sym (left_bit_last (get_or ws p 0) b small))
left_place ws p b j (suc k) on h small last e =
    left_bit ws on (16 * p + j) (omega arith)
    ∙ get_or-matrix_bits_at ws p (suc j) k (1 + (16 * p + j)) false h (omega arith) (omega arith)
    ∙ ap (λ n. n == 1) (sym (left_bit_later (get_or ws p 0) b k small (omega arith)))

left_word : (ws : List ℕ) (p b : ℕ) (on : Bool) → p < length ws → get_or ws p 0 < 2 ^ 16 → b < 2
    → get_or (left_turned (matrix_bits ws) on) (16 * p + 15) false ≡ (b == 1)
    → bit_or (get_or ws p 0 * 2 % 65536) b
    ≡ number_of_bits (take 16 (drop (16 * p) (left_turned (matrix_bits ws) on)))
left_word ws p b on h fits small last =
    let size = length-left_turned (matrix_bits ws) (length ws) on (length-matrix_bits ws)
    (omega arith) in
    left_number (get_or ws p 0) b small
    ∙ number_of_bits-of_word (take 16 (drop (16 * p) (left_turned (matrix_bits ws) on)))
    (get_or ws p 0 % 2 ^ 15 * 2 ^ 1 + b) (omega arith)
    (length-piece (left_turned (matrix_bits ws) on) p (length ws) size h)
    (λ j k e. get_or-piece (left_turned (matrix_bits ws) on) p j false (omega arith)
    ∙ left_place ws p b j k on h small last e)

-- a word in a matrix turned to the left takes the highest bit of the next one
pub left_word-inside : (ws : List ℕ) (p : ℕ) (on : Bool) → p + 1 < length ws
    → get_or ws p 0 < 2 ^ 16 → get_or ws (p + 1) 0 < 2 ^ 16
    → bit_or (get_or ws p 0 * 2 % 65536) (get_or ws (p + 1) 0 / 32768)
    ≡ number_of_bits (take 16 (drop (16 * p) (left_turned (matrix_bits ws) on)))
left_word-inside ws p on h fits next =
    let b = get_or ws (p + 1) 0 / 32768 in
    let same : b % 2 ≡ b = omega arith in
    left_word ws p b on (omega arith) fits (omega arith)
    (left_bit ws on (16 * p + 15) (omega arith)
    ∙ get_or-matrix_bits_at ws (p + 1) 0 15 (1 + (16 * p + 15)) false h (omega arith) (omega arith)
    ∙ ap (λ n. n == 1) same)

-- and the last word takes the bit that comes in
pub left_word-last : (ws : List ℕ) (p b : ℕ) (on : Bool) → p + 1 ≡ length ws
    → get_or ws p 0 < 2 ^ 16 → b ≡ bit_of on
    → bit_or (get_or ws p 0 * 2 % 65536) b
    ≡ number_of_bits (take 16 (drop (16 * p) (left_turned (matrix_bits ws) on)))
left_word-last ws p b on h fits e =
    let bound = bit_of-lt on in
    let small : b < 2 = omega arith in
    let m = length-matrix_bits ws in
    let d = length-drop 1 (matrix_bits ws) in
    left_word ws p b on (omega arith) fits small (get_or_push (drop 1 (matrix_bits ws)) on false
    (16 * p + 15) (omega arith) ∙ sym (bit_test b on e))

-- the bit that a matrix turned to the right has behind a place
right_bit : (ws : List ℕ) (on : Bool) (p q : ℕ) → q ≡ suc p → p + 1 < 16 * length ws
    → get_or (right_turned (16 * length ws) (matrix_bits ws) on) q false
    ≡ get_or (matrix_bits ws) p false
right_bit ws on p q e h =
    ap (λ i. get_or (right_turned (16 * length ws) (matrix_bits ws) on) i false) e
    ∙ get_or-take (16 * length ws - 1) (matrix_bits ws) p false (omega arith)

right_place : (ws : List ℕ) (p b j k : ℕ) (on : Bool) → p < length ws
    → get_or ws p 0 < 2 ^ 16 → b < 2
    → get_or (right_turned (16 * length ws) (matrix_bits ws) on) (16 * p) false ≡ (b == 1)
    → j + k ≡ 15
    → get_or (right_turned (16 * length ws) (matrix_bits ws) on) (16 * p + j) false
    ≡ (bit_at (b * 2 ^ 15 + get_or ws p 0 / 2) k == 1)
right_place ws p b zero k on h fits small first e =
    let here : 16 * p + 0 ≡ 16 * p = omega arith in
    let highest : 15 ≡ k = omega arith in
    ap (λ i. get_or (right_turned (16 * length ws) (matrix_bits ws) on) i false) here ∙ first
    ∙ ap (λ n. n == 1) (sym (right_bit_first (get_or ws p 0) b small fits))
    ∙ ap (λ i. bit_at (b * 2 ^ 15 + get_or ws p 0 / 2) i == 1) highest
right_place ws p b (suc j) k on h fits small first e =
    right_bit ws on (16 * p + j) (16 * p + suc j) (omega arith) (omega arith)
    ∙ get_or-matrix_bits_at ws p j (suc k) (16 * p + j) false h (omega arith) refl
    ∙ ap (λ n. n == 1) (sym (right_bit_later (get_or ws p 0) b k (omega arith)))

right_word : (ws : List ℕ) (p b : ℕ) (on : Bool) → p < length ws → get_or ws p 0 < 2 ^ 16 → b < 2
    → get_or (right_turned (16 * length ws) (matrix_bits ws) on) (16 * p) false ≡ (b == 1)
    → bit_or (b * 32768 % 65536) (get_or ws p 0 / 2)
    ≡ number_of_bits (take 16 (drop (16 * p) (right_turned (16 * length ws) (matrix_bits ws) on)))
right_word ws p b on h fits small first =
    let size = length-right_turned (matrix_bits ws) (length ws) on (length-matrix_bits ws)
    (omega arith) in
    right_number (get_or ws p 0) b small fits
    ∙ number_of_bits-of_word (take 16 (drop (16 * p) (right_turned (16 * length ws)
    (matrix_bits ws) on))) (b * 2 ^ 15 + get_or ws p 0 / 2) (omega arith)
    (length-piece (right_turned (16 * length ws) (matrix_bits ws) on) p (length ws) size h)
    (λ j k e. get_or-piece (right_turned (16 * length ws) (matrix_bits ws) on) p j false
    (omega arith) ∙ right_place ws p b j k on h fits small first e)

-- a word in a matrix turned to the right takes the lowest bit of the one before
pub right_word-inside : (ws : List ℕ) (p : ℕ) (on : Bool) → 0 < p → p < length ws
    → get_or ws p 0 < 2 ^ 16
    → bit_or (bit_and (get_or ws (p - 1) 0) 1 * 32768 % 65536) (get_or ws p 0 / 2) ≡ number_of_bits
    (take 16 (drop (16 * p) (right_turned (16 * length ws) (matrix_bits ws) on)))
right_word-inside ws p on positive h fits =
    let before = get_or ws (p - 1) 0 in
    let whole : before ≡ before / 2 ^ 0 = omega arith in
    let lowest : bit_and before 1 ≡ bit_at before 0 = ap (λ n. bit_and n 1) whole
    ∙ shr_and_one before 0 in
    let small = bit_at-lt before 0 in
    right_word ws p (bit_and before 1) on h fits (omega arith)
    (right_bit ws on (16 * (p - 1) + 15) (16 * p) (omega arith) (omega arith)
    ∙ get_or-matrix_bits_at ws (p - 1) 15 0 (16 * (p - 1) + 15) false (omega arith) refl refl
    ∙ ap (λ n. n == 1) (sym lowest))

-- and the first word takes the bit that comes in
pub right_word-first : (ws : List ℕ) (p b : ℕ) (on : Bool) → p ≡ 0 → p < length ws
    → get_or ws p 0 < 2 ^ 16 → b ≡ bit_of on
    → bit_or (b * 32768 % 65536) (get_or ws p 0 / 2)
    ≡ number_of_bits (take 16 (drop (16 * p) (right_turned (16 * length ws) (matrix_bits ws) on)))
right_word-first ws p b on zero_place h fits e =
    let bound = bit_of-lt on in
    let small : b < 2 = omega arith in
    let start : 16 * p ≡ 0 = omega arith in
    right_word ws p b on h fits small
    (ap (λ i. get_or (right_turned (16 * length ws) (matrix_bits ws) on) i false) start
    ∙ sym (bit_test b on e))

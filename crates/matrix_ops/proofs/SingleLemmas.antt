-- One bit of a matrix in registers is one bit of the list of all its bits.
use Rattle.std.proofs.Common.{◌≡◌, ℕ, zero, suc, ◌+◌, ◌-◌, ◌*◌, ◌/◌, ◌%◌, ◌^◌, ◌<◌, ◌≤◌, Bool, true}
use Rattle.std.proofs.Common.{false, ◌==◌, List, [], ◌∷◌, ◌++◌, length, get_or, set, take, drop}
use Rattle.std.proofs.Common.{fold}
use Rattle.std.proofs.Common.{unwrap_or, refl, sym, ap, ◌∙◌, inl, inr, arith}
use Rattle.std.specs.Int.{bit_at}
use Rattle.std.specs.FinMap.{insert}
use Rattle.std.proofs.lemmas.Bool.{cases_eq}
use Rattle.std.proofs.lemmas.List.{length-set, get_or-set_same, get_or-set_other, set-append_left}
use Rattle.std.proofs.lemmas.List.{set-append_right, ext_get_or}
use Rattle.std.proofs.lemmas.List.FromFn.{get_or-map-range_with_len}
use Rattle.std.proofs.lemmas.Nat.Bits.{bit_at_cat_low, bit_at_cat_high}
use Rattle.std.proofs.Math.Nat.{pow-suc}
use Rattle.plant_types.specs.declared.reference.Ref.{Ref}
use Rattle.plant_types.specs.Power.{bit_of}
use Rattle.plant_types.specs.Reference.{ref_from}
use Rattle.plant_types.specs.Store.{Contents, word_at, words_from}
use Rattle.plant_types.proofs.RunLemmas.{length-words_from, get_or-words_from, words_from-by_place}
use Rattle.plant_types.proofs.RunLemmas.{ref_from-apart, get-insert_same, get-insert_other}
use Rattle.plant_types.specs.Discretes.{bits_high_first, word_bits, number_of_bits}
use Rattle.matrix_ops.specs.Bits.{matrix_bits, matrix_words}
use Rattle.matrix_ops.specs.Matrices.{with_matrix_bit, SetsOneBit}
use Rattle.matrix_ops.proofs.BitLemmas.{length-matrix_bits, get_or-matrix_bits}
use Rattle.matrix_ops.proofs.TurnLemmas.{length-piece, get_or-piece}
use Rattle.plant_types.proofs.DiscretesLemmas.{length-bits_high_first}

-- the number that bits make behind others
abbrev behind_of : ℕ → List Bool → ℕ
behind_of acc bits = fold (λ n on. 2 * n + bit_of on) acc bits

shifted : (a b p r : ℕ) → (2 * a + b) * p + r ≡ a * (p * 2) + ((2 * 0 + b) * p + r)
shifted a b p r = omega arith

behind_of-split : (bits : List Bool) (acc : ℕ)
    → behind_of acc bits ≡ acc * 2 ^ length bits + behind_of 0 bits
behind_of-split [] acc = omega arith
behind_of-split (b ∷ bits) acc =
    behind_of-split bits (2 * acc + bit_of b)
    ∙ shifted acc (bit_of b) (2 ^ length bits) (behind_of 0 bits)
    ∙ ap (λ p. acc * p + ((2 * 0 + bit_of b) * 2 ^ length bits + behind_of 0 bits))
    (sym (pow-suc 2 (length bits)))
    ∙ ap (λ r. acc * 2 ^ suc (length bits) + r) (sym (behind_of-split bits (2 * 0 + bit_of b)))

-- the first bit weighs most
first_weighs : (b : Bool) (bits : List Bool)
    → behind_of 0 (b ∷ bits) ≡ bit_of b * 2 ^ length bits + behind_of 0 bits
first_weighs b bits =
    let e : 2 * 0 + bit_of b ≡ bit_of b = omega arith in behind_of-split bits (2 * 0 + bit_of b)
    ∙ ap (λ c. c * 2 ^ length bits + behind_of 0 bits) e

small_sum : (b : Bool) (p r : ℕ) → r < p → bit_of b * p + r < p * 2
small_sum true p r h = omega arith
small_sum false p r h = omega arith

behind_of-lt : (bits : List Bool) → behind_of 0 bits < 2 ^ length bits
behind_of-lt [] = omega arith
behind_of-lt (b ∷ bits) =
    let e = first_weighs b bits in
    let p = pow-suc 2 (length bits) in
    let s = small_sum b (2 ^ length bits) (behind_of 0 bits) (behind_of-lt bits) in
    omega arith

same_bits : (n x y : ℕ) → ((i : ℕ) → i < n → bit_at x i ≡ bit_at y i)
    → bits_high_first n x ≡ bits_high_first n y
unfolding bits_high_first
same_bits zero x y h = refl
same_bits (suc n) x y h =
    ap (λ b. (b == 1) ∷ bits_high_first n x) (h n (omega arith))
    ∙ ap (λ rest. (bit_at y n == 1) ∷ rest) (same_bits n x y (λ k l. h k (omega arith)))

lowest_again : (b : Bool) → (bit_at (bit_of b) 0 == 1) ≡ b
lowest_again true = refl
lowest_again false = refl

-- the number of bits has these bits
bits_high_first-number : (bits : List Bool)
    → bits_high_first (length bits) (behind_of 0 bits) ≡ bits
unfolding bits_high_first
bits_high_first-number [] = refl
bits_high_first-number (b ∷ bits) =
    let n = length bits in
    let low = behind_of 0 bits in
    let none : n - n ≡ 0 = omega arith in
    let first : bit_at (bit_of b * 2 ^ n + low) n ≡ bit_at (bit_of b) 0 =
    bit_at_cat_high (bit_of b) n low n (behind_of-lt bits) (omega arith)
    ∙ ap (bit_at (bit_of b)) none in
    ap (bits_high_first (suc n)) (first_weighs b bits)
    ∙ ap (λ c. (c == 1) ∷ bits_high_first n (bit_of b * 2 ^ n + low)) first
    ∙ ap (λ c. c ∷ bits_high_first n (bit_of b * 2 ^ n + low)) (lowest_again b)
    ∙ ap (λ rest. b ∷ rest) (same_bits n (bit_of b * 2 ^ n + low) low
    (λ i l. bit_at_cat_low (bit_of b) n low i l) ∙ bits_high_first-number bits)

word_bits-number : (bits : List Bool) → length bits ≡ 16 → word_bits (number_of_bits bits) ≡ bits
word_bits-number bits e = ap (λ n. bits_high_first n (number_of_bits bits)) (sym e)
    ∙ bits_high_first-number bits

-- one bit set in one word
matrix_bits-set : (ws : List ℕ) (i j : ℕ) (on : Bool) → i < length ws → j < 16
    → matrix_bits (set ws i (number_of_bits (set (word_bits (get_or ws i 0)) j on)))
    ≡ set (matrix_bits ws) (16 * i + j) on
unfolding matrix_bits
matrix_bits-set [] i j on h l = absurd (omega arith)
matrix_bits-set (w ∷ ws) zero j on h l =
    let size = length-bits_high_first 16 w in
    let e : 16 * 0 + j ≡ j = omega arith in
    ap (λ bits. bits ++ matrix_bits ws)
    (word_bits-number (set (word_bits w) j on) (length-set (word_bits w) j on ∙ size))
    ∙ sym (set-append_left (word_bits w) (matrix_bits ws) j on (omega arith))
    ∙ ap (λ p. set (word_bits w ++ matrix_bits ws) p on) (sym e)
matrix_bits-set (w ∷ ws) (suc i) j on h l =
    let size = length-bits_high_first 16 w in
    let e : 16 * suc i + j - 16 ≡ 16 * i + j = omega arith in
    ap (λ bits. word_bits w ++ bits)
    (matrix_bits-set ws i j on (omega arith) l ∙ ap (λ p. set (matrix_bits ws) p on) (sym e))
    ∙ sym (set-append_right (word_bits w) (matrix_bits ws) 16 (16 * suc i + j) on size
    (omega arith))

-- one word stored in a run
words_from-insert : (m : Contents) (at : Ref) (n i word : ℕ) → i < n
    → words_from (insert m (ref_from at i) word) at n ≡ set (words_from m at n) i word
words_from-insert m at n i word h =
    let size = length-words_from m at n in
    sym (words_from-by_place (insert m (ref_from at i) word) at n (set (words_from m at n) i word)
    (length-set (words_from m at n) i word ∙ size) (λ k l.
    elim (cases_eq k i) [
      | inl same ↦
          ap (λ p. get_or (set (words_from m at n) i word) p 0) same
          ∙ get_or-set_same (words_from m at n) i word 0 (omega arith)
          ∙ sym (ap (λ p. word_at (insert m (ref_from at i) word) (ref_from at p)) same
          ∙ ap (λ o. unwrap_or o 0) (get-insert_same m (ref_from at i) word))
      | inr apart ↦
          get_or-set_other (words_from m at n) i k word 0 apart ∙ get_or-words_from m at n k 0 l
          ∙ sym (ap (λ o. unwrap_or o 0) (get-insert_other m (ref_from at i) word (ref_from at k)
          (ref_from-apart at i k (λ e. apart (sym e)))))
    ]))

-- the bits of one word of a matrix
word_of_matrix : (ws : List ℕ) (i : ℕ) → i < length ws
    → take 16 (drop (16 * i) (matrix_bits ws)) ≡ word_bits (get_or ws i 0)
word_of_matrix ws i h =
    let whole = length-matrix_bits ws in
    let size = length-piece (matrix_bits ws) i (length ws) whole h in
    ext_get_or false (take 16 (drop (16 * i) (matrix_bits ws))) (word_bits (get_or ws i 0))
    (size ∙ sym (length-bits_high_first 16 (get_or ws i 0)))
    (λ j l. get_or-piece (matrix_bits ws) i j false (omega arith)
    ∙ get_or-matrix_bits ws i j false h (omega arith))

-- a word that a matrix with one bit set has in its place is the word with that bit set
pub matrix_words-set : (ws : List ℕ) (i j : ℕ) (on : Bool) → i < length ws → j < 16
    → get_or (matrix_words (set (matrix_bits ws) (16 * i + j) on)) i 0
    ≡ number_of_bits (set (word_bits (get_or ws i 0)) j on)
unfolding matrix_words
matrix_words-set ws i j on h l =
    let bits = set (matrix_bits ws) (16 * i + j) on in
    let changed = set (word_bits (get_or ws i 0)) j on in
    let word = number_of_bits changed in
    let again : bits ≡ matrix_bits (set ws i word) = sym (matrix_bits-set ws i j on h l) in
    let size : length bits ≡ 16 * length ws = length-set (matrix_bits ws) (16 * i + j) on
    ∙ length-matrix_bits ws in
    let sixteen : length changed ≡ 16 = length-set (word_bits (get_or ws i 0)) j on
    ∙ length-bits_high_first 16 (get_or ws i 0) in
    let still : length (set ws i word) ≡ length ws = length-set ws i word in
    get_or-map-range_with_len (λ place. number_of_bits (take 16 (drop (16 * place) bits))) 0
    (length bits / 16) i i 0 (omega arith) (omega arith)
    ∙ ap (λ b. number_of_bits (take 16 (drop (16 * i) b))) again
    ∙ ap number_of_bits (word_of_matrix (set ws i word) i (omega arith)
    ∙ ap word_bits (get_or-set_same ws i word 0 h) ∙ word_bits-number changed sixteen)

-- the register that holds a bit takes its word with that bit set
pub with_matrix_bit-word : (m : Contents) (matrix : Ref) (n k : ℕ) (on : Bool) → 1 ≤ k → k ≤ 16 * n
    → with_matrix_bit m matrix n k on ≡ insert m (ref_from matrix ((k - 1) / 16))
    (number_of_bits (set (word_bits (word_at m (ref_from matrix ((k - 1) / 16))))
    ((k - 1) % 16) on))
with_matrix_bit-word m matrix n k on from_one within =
    let place = k - 1 in
    let at = ref_from matrix (place / 16) in
    let inside : place / 16 < n = omega arith in
    let size = length-words_from m matrix n in
    let ws = words_from m matrix n in
    let whole : 16 * (place / 16) + place % 16 ≡ place = omega arith in
    ap (λ p. insert m at (get_or (matrix_words (set (matrix_bits ws) p on)) (place / 16) 0))
    (sym whole)
    ∙ ap (insert m at)
    (matrix_words-set ws (place / 16) (place % 16) on (omega arith) (omega arith))
    ∙ ap (λ v. insert m at (number_of_bits (set (word_bits v) (place % 16) on)))
    (get_or-words_from m matrix n (place / 16) 0 inside)

-- to set one bit changes it and no other
pub sets_one_bit : SetsOneBit
sets_one_bit m matrix n k on from_one within =
    let place = k - 1 in
    let inside : place / 16 < n = omega arith in
    let size = length-words_from m matrix n in
    let ws = words_from m matrix n in
    let word = word_at m (ref_from matrix (place / 16)) in
    let whole : 16 * (place / 16) + place % 16 ≡ place = omega arith in
    ap (λ new. matrix_bits (words_from new matrix n))
    (with_matrix_bit-word m matrix n k on from_one within)
    ∙ ap matrix_bits
    (words_from-insert m matrix n (place / 16)
    (number_of_bits (set (word_bits word) (place % 16) on)) inside
    ∙ ap (λ v. set ws (place / 16) (number_of_bits (set (word_bits v) (place % 16) on)))
    (sym (get_or-words_from m matrix n (place / 16) 0 inside)))
    ∙ matrix_bits-set ws (place / 16) (place % 16) on (omega arith) (omega arith)
    ∙ ap (λ p. set (matrix_bits ws) p on) whole

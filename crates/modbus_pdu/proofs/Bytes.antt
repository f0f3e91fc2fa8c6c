-- What bytes say of the numbers in them.
use Rattle.std.proofs.Common.{◌≡◌, ℕ, zero, suc, ◌+◌, ◌*◌, ◌/◌, ◌%◌, ◌^◌, ◌<◌, List, [], ◌∷◌, ◌++◌}
use Rattle.std.proofs.Common.{length, get_or, refl, ap, subst, sym, ◌∙◌, arith}
use Rattle.std.proofs.lemmas.List.Concat.{flat_map-cons}
use Rattle.byteorder.specs.Endian.{big_number, IsRead}
use Rattle.modbus_pdu.specs.Steps.{Counts}
use Rattle.modbus_pdu.specs.Bytes.{word_bytes, words_bytes, words_in}

-- Lists of bytes.
abbrev pub IsBytes : List ℕ → Type 0
IsBytes bytes = (i : ℕ) → get_or bytes i 0 < 2 ^ 8

-- Words that were read from bytes are spelled by these.
pub words_read : (bytes words : List ℕ) → IsBytes bytes → length bytes ≡ 2 * length words
    → IsRead big_number 2 bytes words → words_bytes words ≡ bytes
words_read [] [] fits long read = refl
words_read (b ∷ bytes) [] fits long read = absurd (omega arith)
words_read [] (w ∷ words) fits long read = absurd (omega arith)
words_read (b ∷ []) (w ∷ words) fits long read = absurd (omega arith)
words_read (high ∷ low ∷ rest) (w ∷ words) fits long read =
    let h : high < 256 = fits 0 in
    let l : low < 256 = fits 1 in
    let number : w ≡ big_number 2 (high ∷ low ∷ rest) = read 0 (omega arith) in
    let first : w / 256 ≡ high = omega arith in
    let second : w % 256 ≡ low = omega arith in
    let later : IsRead big_number 2 rest words =
    λ k lt. let twice : 2 * suc k ≡ suc (suc (2 * k)) = omega arith in rw twice at
    (read (suc k) (omega arith)) in
    let rest-is : words_bytes words ≡ rest = words_read rest words (λ i. fits (suc (suc i)))
    (omega arith) later in
    rw (flat_map-cons word_bytes w words, first, second, rest-is) refl

-- Two spellings that begin with a number begin with the same one.
pub word_is : (a b : ℕ) (x y : List ℕ) → word_bytes a ++ x ≡ word_bytes b ++ y → (a ≡ b) × (x ≡ y)
word_is a b x y e =
    let high : a / 256 ≡ b / 256 = cc in
    let low : a % 256 ≡ b % 256 = cc in
    (omega arith, cc)

-- Words take two bytes each.
pub length-words_bytes : (words : List ℕ) → length (words_bytes words) ≡ 2 * length words
length-words_bytes [] = refl
length-words_bytes (w ∷ words) = let rest = length-words_bytes words in ap length
    (flat_map-cons word_bytes w words) ∙ omega (arith, rest)

-- Different words are spelled differently.
pub words_is : (xs ys : List ℕ) → words_bytes xs ≡ words_bytes ys → xs ≡ ys
words_is [] [] e = refl
words_is [] (y ∷ ys) e = absurd (omega (arith, ap length e, length-words_bytes (y ∷ ys)))
words_is (x ∷ xs) [] e = absurd (omega (arith, ap length e, length-words_bytes (x ∷ xs)))
words_is (x ∷ xs) (y ∷ ys) e =
    let both : word_bytes x ++ words_bytes xs ≡ word_bytes y ++ words_bytes ys =
    sym (flat_map-cons word_bytes x xs) ∙ e ∙ flat_map-cons word_bytes y ys in
    let one = word_is x y (words_bytes xs) (words_bytes ys) both in
    let rest : xs ≡ ys = words_is xs ys one.1 in
    let first : x ≡ y = one.0 in
    cc

-- Words are read from their own bytes.
pub words_in-words_bytes : (words : List ℕ) → words_in (words_bytes words) ≡ words
words_in-words_bytes [] = refl
words_in-words_bytes (w ∷ words) =
    let first : 256 * (w / 256) + w % 256 ≡ w = omega arith in
    ap words_in (flat_map-cons word_bytes w words) ∙ (λ i. first i ∷ words_in-words_bytes words i)

-- Bytes in pairs are words.
pub words_again : (bytes : List ℕ) (count : ℕ) → IsBytes bytes → length bytes ≡ 2 * count
    → words_bytes (words_in bytes) ≡ bytes
words_again [] count fits e = refl
words_again (high ∷ []) count fits e = absurd (omega arith)
words_again (high ∷ low ∷ rest) zero fits e = absurd (omega arith)
words_again (high ∷ low ∷ rest) (suc count) fits e =
    let h : high < 256 = fits 0 in
    let l : low < 256 = fits 1 in
    let first : (256 * high + low) / 256 ≡ high = omega arith in
    let second : (256 * high + low) % 256 ≡ low = omega arith in
    let rest-is : words_bytes (words_in rest) ≡ rest =
    words_again rest count (λ i. fits (suc (suc i))) (omega arith) in
    rw (flat_map-cons word_bytes (256 * high + low) (words_in rest), first, second, rest-is) refl

-- What is counted in bytes is bytes.
pub counted_fits : (fields : List ℕ) (a q : ℕ) (x : List ℕ) → IsBytes fields
    → Counts fields a q x → IsBytes x
counted_fits fields a q x fits e i =
    subst (λ (bytes : List ℕ). get_or bytes (suc (suc (suc (suc (suc i))))) 0 < 2 ^ 8) e
    (fits (suc (suc (suc (suc (suc i))))))

-- Words that were read from bytes are the words that the bytes are.
use Rattle.std.proofs.Common.{◌≡◌, ℕ, suc, ◌+◌, ◌*◌, ◌%◌, List, [], ◌∷◌, length, refl, arith, Some}
use Rattle.std.proofs.Common.{None}
use Rattle.byteorder.specs.Endian.{big_number, IsRead}
use Rattle.journal_reading.specs.Reading.{words_joined}

pub joined_read : (bytes words : List ℕ) → length bytes ≡ 2 * length words
    → IsRead big_number 2 bytes words → words_joined bytes ≡ Some words
joined_read [] [] long read = refl
joined_read (b ∷ bytes) [] long read = absurd (omega arith)
joined_read [] (w ∷ words) long read = absurd (omega arith)
joined_read (b ∷ []) (w ∷ words) long read = absurd (omega arith)
joined_read (high ∷ low ∷ rest) (w ∷ words) long read =
    let number : w ≡ big_number 2 (high ∷ low ∷ rest) = read 0 (omega arith) in
    let value : high * 256 + low ≡ w = omega arith in
    let later : IsRead big_number 2 rest words =
    λ k lt. let twice : 2 * suc k ≡ suc (suc (2 * k)) = omega arith in rw twice at
    (read (suc k) (omega arith)) in
    rw (joined_read rest words (omega arith) later, value) refl

pub joined_odd : (bytes : List ℕ) → length bytes % 2 ≡ 1 → words_joined bytes ≡ None
joined_odd [] odd = absurd (omega arith)
joined_odd (b ∷ []) odd = refl
joined_odd (high ∷ low ∷ rest) odd = rw (joined_odd rest (omega arith)) refl

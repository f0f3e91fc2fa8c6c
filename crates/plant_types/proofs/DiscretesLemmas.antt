-- How many discretes and bits there are, and each of them.
use Rattle.std.proofs.Common.{◌≡◌, ℕ, zero, suc, ◌+◌, Bool, cond, ◌==◌, List, length, get_or, refl}
use Rattle.std.proofs.Common.{ap, ◌∙◌, arith}
use Rattle.std.specs.Prelude.{nat_lt}
use Rattle.std.specs.Int.{bit_at}
use Rattle.std.proofs.lemmas.List.{length-map}
use Rattle.plant_types.specs.declared.reference.Ref.{Ref}
use Rattle.plant_types.specs.Store.{Contents, words_from}
use Rattle.plant_types.specs.Discretes.{bits_from, bit_words, bits_high_first}
use Rattle.plant_types.proofs.RunLemmas.{length-words_from}

pub length-bits_from : (m : Contents) (at : Ref) (count : ℕ) → length (bits_from m at count) ≡ count
length-bits_from m at count =
    length-map (words_from m at count) (λ (word : ℕ). nat_lt 0 word) ∙ length-words_from m at count

pub length-bit_words : (bits : List Bool) → length (bit_words bits) ≡ length bits
length-bit_words bits = length-map bits (λ (bit : Bool). cond bit 1 0)

pub length-bits_high_first : (n w : ℕ) → length (bits_high_first n w) ≡ n
unfolding bits_high_first
length-bits_high_first zero w = refl
length-bits_high_first (suc n) w = ap suc (length-bits_high_first n w)

-- the bit at a place, counted from the highest
pub get_or-bits_high_first : (n w j k : ℕ) (d : Bool) → j + k + 1 ≡ n
    → get_or (bits_high_first n w) j d ≡ (bit_at w k == 1)
unfolding bits_high_first
get_or-bits_high_first zero w j k d e = absurd (omega arith)
get_or-bits_high_first (suc n) w zero k d e =
    let same : n ≡ k = omega arith in ap (λ i. bit_at w i == 1) same
get_or-bits_high_first (suc n) w (suc j) k d e = get_or-bits_high_first n w j k d (omega arith)

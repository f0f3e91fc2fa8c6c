-- Bits that are packed and unpacked again.
use Rattle.std.proofs.Common.{◌≡◌, ℕ, zero, suc, ◌+◌, ◌*◌, ◌/◌, ◌%◌, ◌^◌, ◌<◌, ◌≤◌, ◌-◌, ◌==◌, Bool}
use Rattle.std.proofs.Common.{true, false, cond, List, [], ◌∷◌, ◌++◌, length, take, drop, replicate}
use Rattle.std.proofs.Common.{get_or, add-one, refl, ap, sym, ◌∙◌, arith, inl, inr}
use Rattle.std.proofs.lemmas.List.{take_at, drop_at, take-append-drop, length-append, length-take}
use Rattle.std.proofs.lemmas.List.{length-drop, take_all, drop-drop, drop-append-le}
use Rattle.std.proofs.lemmas.List.{get_or_append_left, get_or-append_right}
use Rattle.std.specs.Prelude.{min}
use Rattle.std.proofs.lemmas.Bool.{cases_lt}
use Rattle.std.proofs.Math.Nat.{pow-succ', div-one, div-div-eq-div-mul}
use Rattle.modbus_pdu.specs.Bytes.{bits_number, packed, bit_digits, unpacked}
use Rattle.modbus_pdu.proofs.Bytes.{IsBytes}

-- So many digits are that many bits.
pub length-bit_digits : (count number : ℕ) → length (bit_digits count number) ≡ count
unfolding bit_digits
length-bit_digits zero number = refl
length-bit_digits (suc count) number = ap suc (length-bit_digits count (number / 2))

-- Packed bytes are as many as were asked for.
pub length-packed : (count : ℕ) (bits : List Bool) → length (packed count bits) ≡ count
unfolding packed
length-packed zero bits = refl
length-packed (suc count) bits = ap suc (length-packed count (drop 8 bits))

-- Eight bits come from each byte.
pub length-unpacked : (bytes : List ℕ) → length (unpacked bytes) ≡ 8 * length bytes
unfolding unpacked
length-unpacked [] = refl
length-unpacked (byte ∷ bytes) = omega (
  arith,
  length-append (bit_digits 8 byte) (unpacked bytes),
  length-bit_digits 8 byte,
  length-unpacked bytes,
)

odd_is : (bit : Bool) (half : ℕ) → ((cond bit 1 0 + 2 * half) % 2 == 1) ≡ bit
odd_is true half = let e : (1 + 2 * half) % 2 ≡ 1 = omega arith in rw e refl
odd_is false half = let e : (0 + 2 * half) % 2 ≡ 0 = omega arith in rw e refl

half_is : (bit : Bool) (half : ℕ) → (cond bit 1 0 + 2 * half) / 2 ≡ half
half_is true half = omega arith
half_is false half = omega arith

-- The digits of the number that bits make are the bits.
pub digits_of_number : (count : ℕ) (bits : List Bool) → length bits ≡ count
    → bit_digits count (bits_number bits) ≡ bits
unfolding bit_digits bits_number
digits_of_number zero [] e = refl
digits_of_number zero (bit ∷ bits) e = absurd (omega arith)
digits_of_number (suc count) [] e = absurd (omega arith)
digits_of_number (suc count) (bit ∷ bits) e =
    rw (
      odd_is bit (bits_number bits),
      half_is bit (bits_number bits),
      digits_of_number count bits (omega arith),
    ) refl

one_is : (digit : ℕ) → digit < 2 → cond (digit == 1) 1 0 ≡ digit
one_is zero lt = refl
one_is (suc zero) lt = refl
one_is (suc (suc digit)) lt = absurd (omega arith)

-- A number is made by its digits.
pub number_of_digits : (count number : ℕ) → number < 2 ^ count
    → bits_number (bit_digits count number) ≡ number
unfolding bit_digits bits_number
number_of_digits zero number fits = omega arith
number_of_digits (suc count) number fits =
    let half : number / 2 < 2 ^ count = omega (arith, pow-succ' 2 count) in
    let low : cond (number % 2 == 1) 1 0 ≡ number % 2 = one_is (number % 2) (omega arith) in
    rw (low, number_of_digits count (number / 2) half) (omega arith)

-- Bytes are what their bits are packed into.
pub packed-unpacked : (bytes : List ℕ) → IsBytes bytes
    → packed (length bytes) (unpacked bytes) ≡ bytes
unfolding packed unpacked
packed-unpacked [] fits = refl
packed-unpacked (byte ∷ bytes) fits =
    let eight = length-bit_digits 8 byte in
    let front = take_at (bit_digits 8 byte) (unpacked bytes) 8 eight in
    let back = drop_at (bit_digits 8 byte) (unpacked bytes) 8 eight in
    rw (front, back, number_of_digits 8 byte (fits 0), packed-unpacked bytes (λ i. fits (suc i)))
    refl

-- Bits that fill their bytes are what is unpacked from these.
pub unpacked-packed : (count : ℕ) (bits : List Bool) → length bits ≡ 8 * count
    → unpacked (packed count bits) ≡ bits
unfolding packed unpacked
unpacked-packed zero [] e = refl
unpacked-packed zero (bit ∷ bits) e = absurd (omega arith)
unpacked-packed (suc count) bits e =
    let front : length (take 8 bits) ≡ 8 = omega (arith, length-take 8 bits) in
    let back : length (drop 8 bits) ≡ 8 * count = omega (arith, length-drop 8 bits) in
    rw (digits_of_number 8 (take 8 bits) front, unpacked-packed count (drop 8 bits) back)
    (take-append-drop 8 bits)

-- A digit is what is left of the number behind the digits below it.
bit_digits-at : (count number i : ℕ) → i < count
    → get_or (bit_digits count number) i false ≡ (number / 2 ^ i % 2 == 1)
unfolding bit_digits
bit_digits-at zero number i lt = absurd (omega arith)
bit_digits-at (suc count) number zero lt = rw (div-one number) refl
bit_digits-at (suc count) number (suc i) lt =
    let later : number / 2 / 2 ^ i ≡ number / 2 ^ suc i = div-div-eq-div-mul number 2 (2 ^ i)
    ∙ ap (λ (n : ℕ). number / n) (sym (pow-succ' 2 i)) in
    bit_digits-at count (number / 2) i (omega arith) ∙ ap (λ (n : ℕ). n % 2 == 1) later

-- A bit of bytes stands in its byte.
pub unpacked-at : (bytes : List ℕ) (i : ℕ) → i < 8 * length bytes
    → get_or (unpacked bytes) i false ≡ (get_or bytes (i / 8) 0 / 2 ^ (i % 8) % 2 == 1)
unfolding unpacked
unpacked-at [] i lt = absurd (omega arith)
unpacked-at (byte ∷ bytes) i lt =
    let len = length-bit_digits 8 byte in
    elim (cases_lt i 8) [
      | inl near ↦
          let place : i / 8 ≡ 0 = omega arith in
          let digit : i % 8 ≡ i = omega arith in
          rw (
            get_or_append_left (bit_digits 8 byte) (unpacked bytes) false i (omega arith),
            place,
            digit,
          ) (bit_digits-at 8 byte i near)
      | inr far ↦
          let place : i / 8 ≡ suc ((i - 8) / 8) = omega arith in
          let digit : i % 8 ≡ (i - 8) % 8 = omega arith in
          rw
          (get_or-append_right (bit_digits 8 byte) (unpacked bytes) 8 i false len far, place, digit)
          (unpacked-at bytes (i - 8) (omega arith))
    ]

-- Bits behind which only zeros stand make the same number.
spare_number : (count spare : ℕ) → bits_number (take count (replicate spare false)) ≡ 0
unfolding bits_number
spare_number zero spare = refl
spare_number (suc count) zero = refl
spare_number (suc count) (suc spare) = rw (spare_number count spare) refl

-- The same for the first so many of them.
number_take : (count : ℕ) (bits : List Bool) (spare : ℕ)
    → bits_number (take count (bits ++ replicate spare false)) ≡ bits_number (take count bits)
unfolding bits_number
number_take zero bits spare = refl
number_take (suc count) [] spare = spare_number (suc count) spare
number_take (suc count) (bit ∷ bits) spare =
    ap (λ (n : ℕ). cond bit 1 0 + 2 * n) (number_take count bits spare)

-- One more byte is packed behind those before it.
packed-suc : (count : ℕ) (bits : List Bool) → packed (suc count) bits
    ≡ packed count bits ++ bits_number (take 8 (drop (8 * count) bits)) ∷ []
unfolding packed
packed-suc zero bits = refl
packed-suc (suc count) bits =
    let further : 8 * suc count ≡ 8 + 8 * count = omega arith in
    let place : drop (8 * count) (drop 8 bits) ≡ drop (8 * suc count) bits =
    drop-drop (8 * count) 8 bits ∙ ap (λ (n : ℕ). drop n bits) (sym further) in
    ap (λ (rest : List ℕ). bits_number (take 8 bits) ∷ rest)
    (packed-suc count (drop 8 bits)
    ∙ ap (λ (rest : List Bool). packed count (drop 8 bits) ++ bits_number (take 8 rest) ∷ []) place)

-- One more byte of bits is packed.
pub packed_more : (count : ℕ) (bits : List Bool) (spare : ℕ) → 8 * count ≤ length bits
    → packed (count + 1) (bits ++ replicate spare false)
    ≡ packed count (bits ++ replicate spare false) ++ bits_number
    (take 8 (drop (8 * count) bits)) ∷ []
packed_more count bits spare le =
    let all = bits ++ replicate spare false in
    let rest : drop (8 * count) all ≡ drop (8 * count) bits ++ replicate spare false =
    drop-append-le (8 * count) bits (replicate spare false) le in
    rw (add-one, packed-suc count all, rest, number_take 8 (drop (8 * count) bits) spare) refl

-- The first eight bits, or all where there are fewer.
pub first_eight : (k end : ℕ) (bits : List Bool) → end ≡ min (length bits) (k + 8)
    → k ≤ length bits → take (end - k) (drop k bits) ≡ take 8 (drop k bits)
first_eight k end bits is le =
    elim (cases_lt (length bits) (k + 8)) [
      | inl short ↦
          let all : end - k ≡ length bits - k = omega arith in
          take_all (end - k) (drop k bits) (omega (arith, length-drop k bits))
          ∙ sym (take_all 8 (drop k bits) (omega (arith, length-drop k bits)))
      | inr long ↦
          let eight : end - k ≡ 8 = omega arith in
          rw eight refl
    ]

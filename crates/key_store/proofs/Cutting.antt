-- Words in one list, and what they say of the store that has them.
use Rattle.std.proofs.Common.{◌≡◌, ◌≢◌, ℕ, zero, suc, ◌+◌, ◌-◌, ◌*◌, ◌/◌, ◌%◌, ◌^◌, ◌<◌, ◌≤◌, Bool}
use Rattle.std.proofs.Common.{true, false, cond, ◌&&◌, ◌==◌, List, [], ◌∷◌, ◌++◌, length, get_or, take}
use Rattle.std.proofs.Common.{drop, Option, Some, None, unwrap_or, refl, sym, ap, ◌∙◌, arith}
use Rattle.std.proofs.Common.{subst, append-nil}
use Rattle.std.specs.Prelude.{nat_le, nat_lt, is_some}
use Rattle.std.specs.FinMap.{get, same_map, get-retain_keys}
use Rattle.std.specs.Int.{bit_at}
use Rattle.std.proofs.Math.Nat.{two-pow-succ}
use Rattle.std.proofs.Math.Seq.{take-append_seam, drop-append_seam}
use Rattle.std.proofs.lemmas.Bool.{eqb-true, eq-eqb}
use Rattle.std.proofs.lemmas.List.{ext_get_or, get_or-append-add, get_or_append_left, get_or-take}
use Rattle.std.proofs.lemmas.List.{get_or-drop}
use Rattle.std.proofs.lemmas.Nat.Bits.{bit_at-lt, bit_at-suc, bit_at-zero, bit_at_lowest}
use Rattle.std.proofs.lemmas.Bool.Decides.{nat_tests}
use Rattle.plant_types.specs.declared.reference.Ref.{Ref}
use Rattle.plant_types.specs.declared.reference.RefKind.{RefKind}
use Rattle.plant_types.specs.declared.reference.RefKind.TheVariants.{Coil, Input, InputRegister}
use Rattle.plant_types.specs.declared.reference.RefKind.TheVariants.{Register}
use Rattle.plant_types.specs.Reference.{is_discrete}
use Rattle.plant_types.specs.Sizes.{Sizes, count_of, discretes, discretes_of, has_reference}
use Rattle.plant_types.specs.Store.{Contents, is_on, word_at}
use Rattle.plant_types.proofs.Contents.{exact_refs, refs_total}
use Rattle.state_ram.specs.Bits.{word_bit}
use Rattle.state_ram.specs.Packed.{Words, bit_in, packed_contents, packed_number, packed_sizes}
use Rattle.state_ram.specs.Packed.{words_of_kind, HasPlaceFor}
use Rattle.state_ram.proofs.Filled.{get-filled}
use Rattle.state_ram.proofs.Banked.{bit_in-is, bit_number, contains_key-packed, on_again, place_of}
use Rattle.state_ram.proofs.Banked.{word_at-packed}
use Rattle.key_store.specs.Words.{flat_words, words_cut, HasWholeGroups}

-- ---- words of a list are cut where they were put together

pub cut-flat : (sizes : Sizes) (w : Words) → packed_sizes w ≡ sizes
    → words_cut sizes (flat_words w) ≡ w
cut-flat sizes w is =
    let a : sizes.coils / 16 ≡ length w.coils =
    let e = ap (λ (s : Sizes). s.coils) is in omega (arith, e) in
    let b : sizes.inputs / 16 ≡ length w.inputs =
    let e = ap (λ (s : Sizes). s.inputs) is in omega (arith, e) in
    let c : sizes.input_registers ≡ length w.input_registers =
    sym (ap (λ (s : Sizes). s.input_registers) is) in
    let d : sizes.registers ≡ length w.registers = sym (ap (λ (s : Sizes). s.registers) is) in
    let last = w.registers in
    let third = w.input_registers ++ last in
    let second = w.inputs ++ third in
    let one : drop (sizes.coils / 16) (flat_words w) ≡ second =
    ap (λ n. drop n (flat_words w)) a ∙ drop-append_seam w.coils second in
    let two : drop (sizes.inputs / 16) (drop (sizes.coils / 16) (flat_words w)) ≡ third =
    ap (drop (sizes.inputs / 16)) one
    ∙ (ap (λ n. drop n second) b ∙ drop-append_seam w.inputs third) in
    let three : drop sizes.input_registers (drop (sizes.inputs / 16)
    (drop (sizes.coils / 16) (flat_words w))) ≡ last =
    ap (drop sizes.input_registers) two
    ∙ (ap (λ n. drop n third) c ∙ drop-append_seam w.input_registers last) in
    let coils : take (sizes.coils / 16) (flat_words w) ≡ w.coils =
    ap (λ n. take n (flat_words w)) a ∙ take-append_seam w.coils second in
    let inputs : take (sizes.inputs / 16) (drop (sizes.coils / 16) (flat_words w)) ≡ w.inputs =
    ap (take (sizes.inputs / 16)) one
    ∙ (ap (λ n. take n second) b ∙ take-append_seam w.inputs third) in
    let input_registers : take sizes.input_registers (drop (sizes.inputs / 16)
    (drop (sizes.coils / 16) (flat_words w))) ≡ w.input_registers =
    ap (take sizes.input_registers) two
    ∙ (ap (λ n. take n third) c ∙ take-append_seam w.input_registers last) in
    let registers : take sizes.registers (drop sizes.input_registers (drop (sizes.inputs / 16)
    (drop (sizes.coils / 16) (flat_words w)))) ≡ w.registers =
    ap (take sizes.registers) three ∙ (ap (λ n. take n last) d ∙ take-all last) in
    λ i. record {
      coils = coils i;
      inputs = inputs i;
      input_registers = input_registers i;
      registers = registers i;
    }
  where
    take-all : (xs : List ℕ) → take (length xs) xs ≡ xs
    take-all xs =
        ap (take (length xs)) (sym (append-nil xs)) ∙ take-append_seam xs []

-- ---- equal references are equal words

-- numbers of so many bits with the same bits are the same
bits-same : (k n m : ℕ) → n < 2 ^ k → m < 2 ^ k
    → ((i : ℕ) → i < k → bit_at n i ≡ bit_at m i) → n ≡ m
bits-same zero n m a b same = omega (arith, a, b)
bits-same (suc k) n m a b same =
    let double : 2 ^ suc k ≡ 2 ^ k + 2 ^ k = two-pow-succ k in
    let low : n % 2 ≡ m % 2 =
    sym (bit_at_lowest n) ∙ (same 0 (omega arith) ∙ bit_at_lowest m) in
    let high : n / 2 ≡ m / 2 = bits-same k (n / 2) (m / 2) (omega (arith, a, double))
    (omega (arith, b, double))
    (λ i h. sym (bit_at-suc n i) ∙ (same (suc i) (omega (arith, h)) ∙ bit_at-suc m i)) in
    omega (arith, low, high)

test-same : (n m : ℕ) → n < 2 → m < 2 → (n == 1) ≡ (m == 1) → n ≡ m
test-same n m a b same = by (n == 1) (m == 1) refl refl same
  where
    by : (x y : Bool) → (n == 1) ≡ x → (m == 1) ≡ y → x ≡ y → n ≡ m
    by true true p q e = eqb-true n 1 p ∙ sym (eqb-true m 1 q)
    by false false p q e =
        let one : n ≢ 1 = λ is. let no' : false ≡ true = sym p ∙ eq-eqb n 1 is in cc in
        let other : m ≢ 1 = λ is. let no' : false ≡ true = sym q ∙ eq-eqb m 1 is in cc in
        omega (arith, a, b, one, other)
    by true false p q e = absurd (let no' : true ≡ false = e in cc)
    by false true p q e = absurd (let no' : false ≡ true = e in cc)

-- words of sixteen bits with the same bits are the same
word-same : (n m : ℕ) → n < 65536 → m < 65536
    → ((j : ℕ) → j < 16 → word_bit n j ≡ word_bit m j) → n ≡ m
word-same n m a b same =
    bits-same 16 n m a b (λ i h.
    let back : 15 - (15 - i) ≡ i = omega (arith, h) in
    test-same (bit_at n i) (bit_at m i) (bit_at-lt n i) (bit_at-lt m i)
    (ap (λ k. bit_at n k == 1) (sym back)
    ∙ (same (15 - i) (omega arith) ∙ ap (λ k. bit_at m k == 1) back)))

-- a choice of one or nothing tells its test
chosen : (b c : Bool) → cond {A = ℕ} b 1 0 ≡ cond c 1 0 → b ≡ c
chosen true true e = refl
chosen false false e = refl
chosen true false e = absurd (let no' : 1 ≡ 0 = e in omega (arith, no'))
chosen false true e = absurd (let no' : 0 ≡ 1 = e in omega (arith, no'))

abbrev pub AreWords : List ℕ → Type 0
AreWords words = (i : ℕ) → get_or words i 0 < 65536

front-words : (xs ys : List ℕ) → AreWords (xs ++ ys) → (i : ℕ) → i < length xs
    → get_or xs i 0 < 65536
front-words xs ys all i h =
    subst (λ n. n < 65536) (get_or_append_left xs ys 0 i h) (all i)

pub rest-words : (xs ys : List ℕ) → AreWords (xs ++ ys) → AreWords ys
rest-words xs ys all i =
    subst (λ n. n < 65536) (get_or-append-add xs ys i 0) (all (length xs + i))

module _ (w v : Words) (sizes : packed_sizes w ≡ packed_sizes v)
    (same : packed_contents w ≡ packed_contents v) where
  number-same : (at : Ref) → HasPlaceFor w at → packed_number w at ≡ packed_number v at
  number-same at place =
      let there : HasPlaceFor v at = record {
        from_one = place.from_one;
        within = subst (λ (s : Sizes). at.number ≤ count_of s at.kind)
            sizes place.within;
      } in
      sym (word_at-packed w (packed_contents w) at refl place)
      ∙ (ap (λ (m : Contents). word_at m at) same
      ∙ word_at-packed v (packed_contents v) at refl there)

  bit-places : (p i j : ℕ) → p ≡ 16 * i + j → j < 16 → (p / 16 ≡ i) × (p % 16 ≡ j)
  bit-places p i j is h = (omega (arith, is, h), omega (arith, is, h))

  -- the bit of a word, by its place among all
  bit-there : (xs : List ℕ) (i j : ℕ) → j < 16
      → bit_in xs (16 * i + j)
      ≡ cond (word_bit (get_or xs i 0) j) 1 0
  bit-there xs i j h =
      let at = bit-places (16 * i + j) i j refl h in
      bit_in-is xs (16 * i + j)
      ∙ (ap (λ n. cond (word_bit (get_or xs n 0) ((16 * i + j) % 16)) 1 0) at.0
      ∙ ap (λ n. cond (word_bit (get_or xs i 0) n) 1 0) at.1)

  discretes-same : (xs ys : List ℕ) → length xs ≡ length ys
      → ((i : ℕ) → i < length xs → get_or xs i 0 < 65536)
      → ((i : ℕ) → i < length ys → get_or ys i 0 < 65536)
      → ((p : ℕ) → p < 16 * length xs → bit_in xs p
      ≡ bit_in ys p)
      → xs ≡ ys
  discretes-same xs ys long a b bits =
      ext_get_or 0 xs ys long (λ i h.
      word-same (get_or xs i 0) (get_or ys i 0) (a i h) (b i (omega (arith, h, long)))
      (λ j less. chosen (word_bit (get_or xs i 0) j) (word_bit (get_or ys i 0) j)
      (sym (bit-there xs i j less)
      ∙ (bits (16 * i + j) (omega (arith, h, less)) ∙ bit-there ys i j less))))

  kind-number : (kind : RefKind) (p : ℕ)
      → p < count_of (packed_sizes w) kind
      → packed_number w (record { kind = kind; number = p + 1 })
      ≡ packed_number v (record { kind = kind; number = p + 1 })
  kind-number kind p h =
      number-same (record { kind = kind; number = p + 1 })
      (record { from_one = omega arith; within = omega (arith, h) })

  coils-same : AreWords (flat_words w) → AreWords (flat_words v) → w.coils ≡ v.coils
  coils-same a b =
      let long : length w.coils ≡ length v.coils =
      let e = ap (λ (s : Sizes). s.coils) sizes in omega (arith, e) in
      discretes-same w.coils v.coils long (front-words w.coils _ a) (front-words v.coils _ b)
      (λ p h.
      let back : p + 1 - 1 ≡ p = omega arith in
      ap (bit_in w.coils) (sym back)
      ∙ (kind-number Coil p h ∙ ap (bit_in v.coils) back))

  inputs-same : AreWords (w.inputs ++ (w.input_registers ++ w.registers))
      → AreWords (v.inputs ++ (v.input_registers ++ v.registers)) → w.inputs ≡ v.inputs
  inputs-same a b =
      let long : length w.inputs ≡ length v.inputs =
      let e = ap (λ (s : Sizes). s.inputs) sizes in omega (arith, e) in
      discretes-same w.inputs v.inputs long (front-words w.inputs _ a) (front-words v.inputs _ b)
      (λ p h.
      let back : p + 1 - 1 ≡ p = omega arith in
      ap (bit_in w.inputs) (sym back)
      ∙ (kind-number Input p h ∙ ap (bit_in v.inputs) back))

  input_registers-same : w.input_registers ≡ v.input_registers
  input_registers-same =
      ext_get_or 0 w.input_registers v.input_registers
      (ap (λ (s : Sizes). s.input_registers) sizes)
      (λ p h.
      let back : p + 1 - 1 ≡ p = omega arith in
      ap (λ n. get_or w.input_registers n 0) (sym back)
      ∙ (kind-number InputRegister p h ∙ ap (λ n. get_or v.input_registers n 0) back))

  registers-same : w.registers ≡ v.registers
  registers-same =
      ext_get_or 0 w.registers v.registers (ap (λ (s : Sizes). s.registers) sizes)
      (λ p h.
      let back : p + 1 - 1 ≡ p = omega arith in
      ap (λ n. get_or w.registers n 0) (sym back)
      ∙ (kind-number Register p h ∙ ap (λ n. get_or v.registers n 0) back))

  -- stores of equal references have equal words
  pub flat-same : AreWords (flat_words w) → AreWords (flat_words v)
      → flat_words w ≡ flat_words v
  flat-same a b =
      let coils = coils-same a b in
      let inputs = inputs-same (rest-words w.coils _ a) (rest-words v.coils _ b) in
      λ i. coils i ++ (inputs i ++ (input_registers-same i ++ registers-same i))

-- ---- whether a discrete is on

zero_bit : (j : ℕ) → word_bit 0 j ≡ false
zero_bit j = let e : bit_at 0 (15 - j) ≡ 0 = bit_at-zero (15 - j) in ap (λ b. b == 1) e

past-end : (xs : List ℕ) (i : ℕ) → length xs ≤ i → get_or xs i 0 ≡ 0
past-end [] i h = refl
past-end (x ∷ xs) zero h = absurd (omega (arith, h))
past-end (x ∷ xs) (suc i) h = past-end xs i (omega (arith, h))

count-of-discretes : (w : Words) (kind : RefKind) → is_discrete kind ≡ true
    → count_of (packed_sizes w) kind ≡ 16 * length (words_of_kind w kind)
count-of-discretes w Coil d = refl
count-of-discretes w Input d = refl
count-of-discretes w InputRegister d = absurd (let no' : false ≡ true = d in cc)
count-of-discretes w Register d = absurd (let no' : false ≡ true = d in cc)

no-number : (o : Option ℕ) → is_some o ≡ false → unwrap_or o 0 ≡ 0
no-number None is = refl
no-number (Some n) is = absurd (let no' : true ≡ false = is in cc)

-- where a store has no such reference, it is off, and no word has its bit
off-by : (b c : Bool) (n m : ℕ) → b && c ≡ false → nat_le 1 n ≡ b → nat_le n m ≡ c → 1 ≤ n → m < n
off-by b c n m is first last from = grind (arith, nat_tests)

pub on-packed : (w : Words) (at : Ref) → is_discrete at.kind ≡ true → 1 ≤ at.number
    → is_on (packed_contents w) at
    ≡ word_bit (get_or (words_of_kind w at.kind) ((at.number - 1) / 16) 0) ((at.number - 1) % 16)
on-packed w at d from = by (has_reference (packed_sizes w) at) refl
  where
    by : (b : Bool) → has_reference (packed_sizes w) at ≡ b
        → is_on (packed_contents w) at
        ≡ word_bit (get_or (words_of_kind w at.kind) ((at.number - 1) / 16) 0)
        ((at.number - 1) % 16)
    by true is =
        ap (nat_lt 0) (word_at-packed w (packed_contents w) at refl (place_of w at is)
        ∙ bit_number w at d)
        ∙ on_again (word_bit (get_or (words_of_kind w at.kind) ((at.number - 1) / 16) 0)
        ((at.number - 1) % 16))
    by false is =
        let none : is_some (get (packed_contents w) at) ≡ false = contains_key-packed w at ∙ is in
        let far : count_of (packed_sizes w) at.kind < at.number =
        off-by _ _ at.number (count_of (packed_sizes w) at.kind) is refl refl from in
        let many = count-of-discretes w at.kind d in
        let past : length (words_of_kind w at.kind) ≤ (at.number - 1) / 16 =
        omega (arith, far, many) in
        ap (nat_lt 0) (no-number (get (packed_contents w) at) none)
        ∙ sym (ap (λ n. word_bit n ((at.number - 1) % 16))
        (past-end (words_of_kind w at.kind) ((at.number - 1) / 16) past)
        ∙ zero_bit ((at.number - 1) % 16))

-- the two numbers between which a reference stands
pub between : (b c : Bool) (n m : ℕ) → b && c ≡ true → nat_le 1 n ≡ b → nat_le n m ≡ c
    → (1 ≤ n) × (n ≤ m)
between b c n m is first last = grind (arith, nat_tests)

pub on-coil : (sizes : Sizes) (words : List ℕ) (number : ℕ) → HasWholeGroups sizes
    → has_reference sizes (record { kind = Coil; number = number }) ≡ true
    → word_bit (get_or words ((number - 1) / 16) 0) ((number - 1) % 16)
    ≡ is_on (packed_contents (words_cut sizes words)) (record { kind = Coil; number = number })
on-coil sizes words number whole held =
    let there = between _ _ number sizes.coils held refl refl in
    let from = there.0 in
    let to = there.1 in
    let coils = whole.coils in
    let within : (number - 1) / 16 < sizes.coils / 16 = omega (arith, from, to, coils) in
    sym (on-packed (words_cut sizes words) (record { kind = Coil; number = number }) refl from
    ∙ ap (λ n. word_bit n ((number - 1) % 16))
    (get_or-take (sizes.coils / 16) words ((number - 1) / 16) 0 within))

pub on-input : (sizes : Sizes) (words : List ℕ) (number : ℕ) → HasWholeGroups sizes
    → has_reference sizes (record { kind = Input; number = number }) ≡ true
    → word_bit (get_or words (sizes.coils / 16 + (number - 1) / 16) 0) ((number - 1) % 16)
    ≡ is_on (packed_contents (words_cut sizes words)) (record { kind = Input; number = number })
on-input sizes words number whole held =
    let there = between _ _ number sizes.inputs held refl refl in
    let from = there.0 in
    let to = there.1 in
    let inputs = whole.inputs in
    let within : (number - 1) / 16 < sizes.inputs / 16 = omega (arith, from, to, inputs) in
    sym (on-packed (words_cut sizes words) (record { kind = Input; number = number }) refl from
    ∙ ap (λ n. word_bit n ((number - 1) % 16))
    (get_or-take (sizes.inputs / 16) (drop (sizes.coils / 16) words) ((number - 1) / 16) 0 within
    ∙ get_or-drop (sizes.coils / 16) words ((number - 1) / 16) 0))

pub on-coil-at : (sizes : Sizes) (words : List ℕ) (at : Ref) → at.kind ≡ Coil
    → HasWholeGroups sizes → has_reference sizes at ≡ true
    → word_bit (get_or words ((at.number - 1) / 16) 0) ((at.number - 1) % 16)
    ≡ is_on (packed_contents (words_cut sizes words)) at
on-coil-at sizes words at kind whole held =
    let back = sym kind in
    let e : record { kind = Coil; number = at.number } ≡ at =
    λ i. record { kind = back i; number = at.number } in
    subst (λ (q : Ref). word_bit (get_or words ((q.number - 1) / 16) 0) ((q.number - 1) % 16)
    ≡ is_on (packed_contents (words_cut sizes words)) q) e
    (on-coil sizes words at.number whole
    (subst (λ (q : Ref). has_reference sizes q ≡ true) (sym e) held))

other-discrete : (kind : RefKind) → is_discrete kind ≡ true → (kind ≡ Coil → ⊥) → kind ≡ Input
other-discrete Coil d apart = absurd (apart refl)
other-discrete Input d apart = refl
other-discrete InputRegister d apart = absurd (let no' : false ≡ true = d in cc)
other-discrete Register d apart = absurd (let no' : false ≡ true = d in cc)

pub on-input-at : (sizes : Sizes) (words : List ℕ) (at : Ref) → is_discrete at.kind ≡ true
    → (at.kind ≡ Coil → ⊥) → HasWholeGroups sizes → has_reference sizes at ≡ true
    → word_bit (get_or words (sizes.coils / 16 + (at.number - 1) / 16) 0) ((at.number - 1) % 16)
    ≡ is_on (packed_contents (words_cut sizes words)) at
on-input-at sizes words at d apart whole held =
    let back = sym (other-discrete at.kind d apart) in
    let e : record { kind = Input; number = at.number } ≡ at =
    λ i. record { kind = back i; number = at.number } in
    subst (λ (q : Ref). word_bit (get_or words (sizes.coils / 16 + (q.number - 1) / 16) 0)
    ((q.number - 1) % 16) ≡ is_on (packed_contents (words_cut sizes words)) q) e
    (on-input sizes words at.number whole
    (subst (λ (q : Ref). has_reference sizes q ≡ true) (sym e) held))

-- ---- the discretes alone

chosen-same : (b c : Bool) (n m : ℕ) → (b ≡ true → (c ≡ true) × (n ≡ m))
    → cond {A = Option ℕ} b (Some n) None ≡ cond b (cond c (Some m) None) None
chosen-same true true n m h = ap Some (h refl).1
chosen-same true false n m h = absurd (let no' : false ≡ true = (h refl).0 in cc)
chosen-same false c n m h = refl

part-number : (w v : Words) (kind : RefKind) (number : ℕ) (b c : Bool) → v.coils ≡ w.coils
    → v.inputs ≡ w.inputs → v.input_registers ≡ [] → v.registers ≡ []
    → has_reference (packed_sizes v) (record { kind = kind; number = number }) ≡ b
    → has_reference (packed_sizes w) (record { kind = kind; number = number }) ≡ c
    → b ≡ true → (c ≡ true) × (packed_number v (record { kind = kind; number = number })
    ≡ packed_number w (record { kind = kind; number = number }))
part-number w v Coil number b c coils inputs none none' is other has = (
  sym other ∙ (sym (ap (λ (l : List ℕ). nat_le 1 number && nat_le number (16 * length l)) coils)
      ∙ (is ∙ has)),
  ap (λ (l : List ℕ). bit_in l (number - 1)) coils,
)
part-number w v Input number b c coils inputs none none' is other has = (
  sym other ∙ (sym (ap (λ (l : List ℕ). nat_le 1 number && nat_le number (16 * length l)) inputs)
      ∙ (is ∙ has)),
  ap (λ (l : List ℕ). bit_in l (number - 1)) inputs,
)
part-number w v InputRegister number b c coils inputs none none' is other has =
    let there = between _ _ number (length v.input_registers) (is ∙ has) refl refl in
    let no' : length v.input_registers ≡ 0 = ap length none in
    let from = there.0 in
    let to = there.1 in
    absurd (omega (arith, no', from, to))
part-number w v Register number b c coils inputs none none' is other has =
    let there = between _ _ number (length v.registers) (is ∙ has) refl refl in
    let no' : length v.registers ≡ 0 = ap length none' in
    let from = there.0 in
    let to = there.1 in
    absurd (omega (arith, no', from, to))

get-packed_any : (w : Words) (q : Ref) → get (packed_contents w) q
    ≡ cond (has_reference (packed_sizes w) q) (Some (packed_number w q)) None
unfolding packed_contents
get-packed_any w q = get-filled (packed_sizes w) (packed_number w) q

-- the words of the discretes are the discretes of the store that has all words
pub discretes-cut : (sizes : Sizes) (words : List ℕ)
    → packed_sizes (words_cut sizes words) ≡ sizes
    → packed_contents (words_cut (discretes_of sizes) words)
    ≡ discretes sizes (packed_contents (words_cut sizes words))
discretes-cut sizes words is =
    let w = words_cut sizes words in
    let v = words_cut (discretes_of sizes) words in
    let part : packed_sizes v ≡ discretes_of sizes = λ i. record {
      coils = (ap (λ (s : Sizes). s.coils) is) i;
      inputs = (ap (λ (s : Sizes). s.inputs) is) i;
      input_registers = 0;
      registers = 0;
    } in
    same_map refs_total exact_refs _ _ (λ q.
    get-packed_any v q
    ∙ (chosen-same (has_reference (packed_sizes v) q) (has_reference (packed_sizes w) q)
    (packed_number v q) (packed_number w q)
    (part-number w v q.kind q.number _ _ refl refl refl refl refl refl)
    ∙ (ap (λ (o : Option ℕ). cond (has_reference (packed_sizes v) q) o None)
    (sym (get-packed_any w q))
    ∙ (ap (λ (s : Sizes). cond (has_reference s q) (get (packed_contents w) q) None) part
    ∙ sym (get-retain_keys (packed_contents w) (has_reference (discretes_of sizes)) q
    (λ x e. ap (has_reference (discretes_of sizes)) (sym (exact_refs q x e))))))))

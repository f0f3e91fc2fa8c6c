-- What a change of one word changes in the map.
use Rattle.std.proofs.Common.{◌≡◌, ◌≢◌, ℕ, zero, suc, ◌+◌, ◌-◌, ◌*◌, ◌/◌, ◌%◌, ◌<◌, ◌≤◌, Bool, true}
use Rattle.std.proofs.Common.{false, cond, ◌&&◌, ◌==◌, List, length, get_or, set, take, replicate}
use Rattle.std.proofs.Common.{Option, Some, None, unwrap_or, inl, inr, refl, sym, ap, ◌∙◌, arith}
use Rattle.std.specs.Prelude.{nat_le, nat_lt}
use Rattle.std.specs.Int.{bit_at}
use Rattle.std.proofs.lemmas.Bool.{cases_eq, cases_lt, le-leb}
use Rattle.std.proofs.lemmas.Nat.Bits.{bit_at-zero}
use Rattle.std.proofs.lemmas.List.{length-set, get_or-set_same, get_or-set_other, get_or-take}
use Rattle.std.proofs.lemmas.List.{length-take-le, length-replicate, ext_get_or, length-map}
use Rattle.std.proofs.lemmas.List.{get_or-map}
use Rattle.std.specs.FinMap.{get, insert, contains_key, same_map}
use Rattle.plant_types.specs.declared.reference.RefKind.{RefKind}
use Rattle.plant_types.specs.declared.reference.RefKind.TheVariants.{Coil, Input, InputRegister}
use Rattle.plant_types.specs.declared.reference.RefKind.TheVariants.{Register}
use Rattle.plant_types.specs.declared.reference.Ref.{Ref}
use Rattle.plant_types.specs.Reference.{ref_from, rank_of, is_discrete}
use Rattle.plant_types.specs.MapRam.{kind_of_rank, kind_again}
use Rattle.plant_types.specs.Sizes.{has_reference, cleared, count_of}
use Rattle.plant_types.specs.Store.{Contents, Keeps, part_within, word_at, words_from, with_words}
use Rattle.plant_types.proofs.Contents.{exact_refs, refs_total}
use Rattle.plant_types.proofs.DiscretesLemmas.{length-bits_high_first, get_or-bits_high_first}
use Rattle.plant_types.proofs.RunLemmas.{length-words_from, get_or-words_from, get-with_words_at}
use Rattle.plant_types.proofs.RunLemmas.{get-with_words_other}
use Rattle.state_ram.specs.Bits.{word_bit, IsWithBit}
use Rattle.plant_types.specs.Discretes.{word_bits, bits_from, bit_words, with_bits}
use Rattle.state_ram.specs.Packed.{Words, words_of_kind, with_words_of_kind, packed_sizes}
use Rattle.state_ram.specs.Packed.{with_group, bit_in, number_in, packed_number, packed_contents}
use Rattle.state_ram.specs.Packed.{filled, HasPlaceFor, Sets, AreNoMore, words_taken, zero_words}
use Rattle.state_ram.proofs.Filled.{get-filled, get-filled_there, contains_key-filled}
use Rattle.state_ram.proofs.Filled.{filled-insert, filled-cleared, filled-part, in_sizes}

-- ---- words of a kind

words_at-with : (w : Words) (kind : RefKind) (xs : List ℕ)
    → words_of_kind (with_words_of_kind w kind xs) kind ≡ xs
words_at-with w Coil xs = refl
words_at-with w Input xs = refl
words_at-with w InputRegister xs = refl
words_at-with w Register xs = refl

-- as many words make the same sizes
sizes-with : (w : Words) (kind : RefKind) (xs : List ℕ) → length xs ≡ length (words_of_kind w kind)
    → packed_sizes
    (with_words_of_kind w kind xs) ≡ packed_sizes w
sizes-with w Coil xs e = ap (λ n. record (packed_sizes w) { coils = 16 * n }) e
sizes-with w Input xs e = ap (λ n. record (packed_sizes w) { inputs = 16 * n }) e
sizes-with w InputRegister xs e = ap (λ n. record (packed_sizes w) { input_registers = n }) e
sizes-with w Register xs e = ap (λ n. record (packed_sizes w) { registers = n }) e

-- a number changes only where it changes among the words of its kind
others_with : (w : Words) (kind k : RefKind) (xs : List ℕ) (place : ℕ)
    → (k ≡ kind → number_in kind xs place ≡ number_in kind (words_of_kind w kind) place)
    → number_in k (words_of_kind (with_words_of_kind w kind xs) k) place
    ≡ number_in k (words_of_kind w k) place
others_with w Coil Coil xs place same = same refl
others_with w Coil Input xs place same = refl
others_with w Coil InputRegister xs place same = refl
others_with w Coil Register xs place same = refl
others_with w Input Coil xs place same = refl
others_with w Input Input xs place same = same refl
others_with w Input InputRegister xs place same = refl
others_with w Input Register xs place same = refl
others_with w InputRegister Coil xs place same = refl
others_with w InputRegister Input xs place same = refl
others_with w InputRegister InputRegister xs place same = same refl
others_with w InputRegister Register xs place same = refl
others_with w Register Coil xs place same = refl
others_with w Register Input xs place same = refl
others_with w Register InputRegister xs place same = refl
others_with w Register Register xs place same = same refl

-- sixteen discretes to a word
count-discrete : (w : Words) (kind : RefKind) → is_discrete kind ≡ true
    → count_of (packed_sizes w) kind ≡ 16 * length (words_of_kind w kind)
count-discrete w Coil d = refl
count-discrete w Input d = refl
count-discrete w InputRegister d = absurd cc
count-discrete w Register d = absurd cc

number_in-discrete : (kind : RefKind) (xs : List ℕ) (place : ℕ) → is_discrete kind ≡ true
    → number_in kind xs place ≡ bit_in xs place
number_in-discrete Coil xs place d = refl
number_in-discrete Input xs place d = refl
number_in-discrete InputRegister xs place d = absurd cc
number_in-discrete Register xs place d = absurd cc

-- ---- where a place is

pub group_place : (w : Words) (at : Ref) → is_discrete at.kind ≡ true → HasPlaceFor w at
    → (at.number - 1) / 16 < length (words_of_kind w at.kind)
group_place w at d place = let c = count-discrete w at.kind d in let from = place.from_one in
    let within = place.within in omega arith

both_hold : (a b : Bool) → a ≡ true → b ≡ true → a && b ≡ true
both_hold true true e f = refl
both_hold true false e f = f
both_hold false b e f = e

pub has_place : (w : Words) (at : Ref) → HasPlaceFor w at → has_reference (packed_sizes w) at ≡ true
has_place w at place = both_hold (nat_le 1 at.number)
    (nat_le at.number (count_of (packed_sizes w) at.kind)) (le-leb _ _ place.from_one)
    (le-leb _ _ place.within)

pub place_of : (w : Words) (at : Ref) → has_reference (packed_sizes w) at ≡ true → HasPlaceFor w at
place_of w at h = let in_them = in_sizes (packed_sizes w) at h in
    record { from_one = in_them.0; within = in_them.1 }

-- ---- one bit

pub bit_in-is : (ws : List ℕ) (p : ℕ)
    → bit_in ws p ≡ cond (word_bit (get_or ws (p / 16) 0) (p % 16)) 1 0
unfolding bit_in
bit_in-is ws p = refl

bit_in-set_at : (ws : List ℕ) (p q word : ℕ) → p < length ws → q / 16 ≡ p
    → bit_in (set ws p word) q ≡ cond (word_bit word (q % 16)) 1 0
bit_in-set_at ws p q word h e =
    bit_in-is (set ws p word) q
    ∙ ap (λ i. cond (word_bit (get_or (set ws p word) i 0) (q % 16)) 1 0) e
    ∙ ap (λ w. cond (word_bit w (q % 16)) 1 0) (get_or-set_same ws p word 0 h)

bit_in-set_far : (ws : List ℕ) (p q word : ℕ) → q / 16 ≢ p → bit_in (set ws p word) q ≡ bit_in ws q
bit_in-set_far ws p q word far =
    bit_in-is (set ws p word) q
    ∙ ap (λ w. cond (word_bit w (q % 16)) 1 0) (get_or-set_other ws p (q / 16) word 0 far)
    ∙ sym (bit_in-is ws q)

bit_in-set_other : (ws : List ℕ) (p q word : ℕ) (on : Bool) → p / 16 < length ws → q ≢ p
    → IsWithBit (get_or ws (p / 16) 0) (p % 16) on word
    → bit_in (set ws (p / 16) word) q ≡ bit_in ws q
bit_in-set_other ws p q word on h apart bit =
    elim (cases_eq (q / 16) (p / 16)) [
      | inl same ↦
          bit_in-set_at ws (p / 16) q word h same
          ∙ ap (λ b. cond b 1 0) (bit.others (q % 16) (omega arith) (λ e. apart (omega arith)))
          ∙ ap (λ i. cond (word_bit (get_or ws i 0) (q % 16)) 1 0) (sym same)
          ∙ sym (bit_in-is ws q)
      | inr far ↦ bit_in-set_far ws (p / 16) q word far
    ]

-- the number of a discrete is its bit
pub bit_number : (w : Words) (at : Ref) → is_discrete at.kind ≡ true
    → packed_number w at ≡ cond (word_bit
    (get_or (words_of_kind w at.kind) ((at.number - 1) / 16) 0) ((at.number - 1) % 16)) 1 0
bit_number w at d = number_in-discrete at.kind (words_of_kind w at.kind) (at.number - 1) d
    ∙ bit_in-is (words_of_kind w at.kind) (at.number - 1)

-- a word with one bit set is one discrete set
pub sets_bit : (w : Words) (at : Ref) (on : Bool) (word : ℕ) → is_discrete at.kind ≡ true
    → HasPlaceFor w at
    → IsWithBit (get_or (words_of_kind w at.kind) ((at.number - 1) / 16) 0)
    ((at.number - 1) % 16) on word
    → Sets w (with_words_of_kind w at.kind
    (set (words_of_kind w at.kind) ((at.number - 1) / 16) word)) at (cond on 1 0)
sets_bit w at on word d place bit =
    let p = at.number - 1 in
    let ws = words_of_kind w at.kind in
    let xs = set ws (p / 16) word in
    let h = group_place w at d place in
    let at_one = place.from_one in
    record {
      sizes = sizes-with w at.kind xs (length-set ws (p / 16) word);
      here =
          ap (λ ys. number_in at.kind ys p) (words_at-with w at.kind xs)
          ∙ number_in-discrete at.kind xs p d
          ∙ bit_in-set_at ws (p / 16) p word h refl ∙ ap (λ b. cond b 1 0) bit.here;
      others = λ q from apart. others_with w at.kind q.kind xs (q.number - 1) (λ k.
          number_in-discrete at.kind xs (q.number - 1) d
          ∙ bit_in-set_other ws p (q.number - 1) word on h (λ e. apart
          (let n : q.number ≡ at.number = omega arith in λ i. record { kind = k i; number = n i }))
          bit
          ∙ sym (number_in-discrete at.kind ws (q.number - 1) d));
    }

-- ---- the map

pub contains_key-packed : (w : Words) (q : Ref)
    → contains_key (packed_contents w) q ≡ has_reference (packed_sizes w) q
unfolding packed_contents
contains_key-packed w q = contains_key-filled (packed_sizes w) (packed_number w) q

pub held_place : (w : Words) (m : Contents) (at : Ref) → packed_contents w ≡ m
    → contains_key m at ≡ true → HasPlaceFor w at
held_place w m at is h =
    place_of w at (sym (contains_key-packed w at) ∙ ap (λ x. contains_key x at) is ∙ h)

pub get-packed : (w : Words) (at : Ref) → HasPlaceFor w at
    → get (packed_contents w) at ≡ Some (packed_number w at)
unfolding packed_contents
get-packed w at place =
    get-filled_there (packed_sizes w) (packed_number w) at (has_place w at place)

pub word_at-packed : (w : Words) (m : Contents) (at : Ref) → packed_contents w ≡ m
    → HasPlaceFor w at → word_at m at ≡ packed_number w at
word_at-packed w m at is place =
    ap (λ x. word_at x at) (sym is) ∙ ap (λ o. unwrap_or o 0) (get-packed w at place)

-- words with one number set are the map with it inserted
pub packed-insert : (w v : Words) (m : Contents) (at : Ref) (value : ℕ) → packed_contents w ≡ m
    → HasPlaceFor w at → Sets w v at
    value → packed_contents v ≡ insert m at value
unfolding packed_contents
packed-insert w v m at value is place sets =
    ap (λ s. filled s (packed_number v)) sets.sizes
    ∙ filled-insert (packed_sizes w) (packed_number w) (packed_number v) at value
    (has_place w at place) sets.here (λ q has apart. sets.others q (in_sizes
    (packed_sizes w) q has).0 apart)
    ∙ ap (λ x. insert x at value) is

-- ---- fresh words

zero_at : (n p : ℕ) → get_or (replicate {A = ℕ} n 0) p 0 ≡ 0
zero_at zero p = refl
zero_at (suc n) zero = refl
zero_at (suc n) (suc p) = zero_at n p

zero_bit : (j : ℕ) → word_bit 0 j ≡ false
zero_bit j = let e : bit_at 0 (15 - j) ≡ 0 = bit_at-zero (15 - j) in ap (λ b. b == 1) e

zero_in : (n p : ℕ) → bit_in (replicate n 0) p ≡ 0
zero_in n p = bit_in-is (replicate n 0) p ∙ ap (λ w. cond (word_bit w (p % 16)) 1 0)
    (zero_at n (p / 16)) ∙ ap (λ b. cond b 1 0) (zero_bit (p % 16))

zero_number : (a b c d : ℕ) (kind : RefKind) (n : ℕ)
    → packed_number (zero_words a b c d) (record { kind = kind; number = n }) ≡ 0
zero_number a b c d Coil n = zero_in a (n - 1)
zero_number a b c d Input n = zero_in b (n - 1)
zero_number a b c d InputRegister n = zero_at c (n - 1)
zero_number a b c d Register n = zero_at d (n - 1)

fresh_sizes : (a b c d e f : ℕ) → 16 * e ≡ a → 16 * f ≡ b → packed_sizes (zero_words e f c d)
    ≡ record { coils = a; inputs = b; input_registers = c; registers = d }
fresh_sizes a b c d e f p q =
    let l : (n : ℕ) → length (replicate {A = ℕ} n 0) ≡ n = λ n. length-replicate n 0 in
    let coils : 16 * length (replicate {A = ℕ} e 0) ≡ a = omega (arith, l e) in
    let inputs : 16 * length (replicate {A = ℕ} f 0) ≡ b = omega (arith, l f) in
    λ i. record { coils = coils i; inputs = inputs i; input_registers = l c i; registers = l d i }

-- words that are all 0 are a fresh store
pub packed-zero_words : (a b c d e f : ℕ) → 16 * e ≡ a → 16 * f ≡ b
    → packed_contents (zero_words e f c d)
    ≡ cleared (record { coils = a; inputs = b; input_registers = c; registers = d })
unfolding packed_contents
packed-zero_words a b c d e f p q =
    filled-cleared (packed_sizes (zero_words e f c d)) (packed_number (zero_words e f c d))
    (λ at. zero_number e f c d at.kind at.number)
    ∙ ap cleared (fresh_sizes a b c d e f p q)

-- ---- words taken from others

within_by : (n m : ℕ) → (1 ≤ n → n ≤ m) → n ≤ m
within_by zero m h = omega arith
within_by (suc n) m h = h (omega arith)

-- where a store has all references of another, it has as many words
pub is_within : (w v : Words) → ((q : Ref) → HasPlaceFor w q → HasPlaceFor v q) → AreNoMore w v
is_within w v keeps = record {
  coils = let l : 16 * length w.coils ≤ 16 * length v.coils =
      within_by _ _ (λ from. (last Coil from).within) in omega arith;
  inputs = let l : 16 * length w.inputs ≤ 16 * length v.inputs =
      within_by _ _ (λ from. (last Input from).within) in omega arith;
  input_registers = within_by _ _ (λ from. (last InputRegister from).within);
  registers = within_by _ _ (λ from. (last Register from).within);
}
  where
    last : (kind : RefKind) → 1 ≤ count_of (packed_sizes w) kind
        → HasPlaceFor v (record { kind = kind; number = count_of (packed_sizes w) kind })
    last kind from = keeps (record { kind = kind; number = count_of (packed_sizes w) kind })
        (record { from_one = from; within = omega arith })

pub keeps_places : (w v : Words) (m n : Contents) → packed_contents w ≡ m → packed_contents v ≡ n
    → Keeps m n → (q : Ref) → HasPlaceFor w q → HasPlaceFor v q
keeps_places w v m n is other keeps q place =
    held_place v n q other
    (keeps q (ap (λ x. contains_key x q) (sym is) ∙ contains_key-packed w q ∙ has_place w q place))

taken_sizes : (w v : Words) → AreNoMore w v → packed_sizes (words_taken w v) ≡ packed_sizes w
taken_sizes w v within =
    let a = length-take-le (length w.coils) v.coils within.coils in
    let b = length-take-le (length w.inputs) v.inputs within.inputs in
    let c = length-take-le (length w.input_registers) v.input_registers within.input_registers in
    let d = length-take-le (length w.registers) v.registers within.registers in
    λ i. record { coils = 16 * a i; inputs = 16 * b i; input_registers = c i; registers = d i }

bit_in-take : (n p : ℕ) (xs : List ℕ) → p / 16 < n → bit_in (take n xs) p ≡ bit_in xs p
bit_in-take n p xs h =
    bit_in-is (take n xs) p ∙ ap (λ w. cond (word_bit w (p % 16)) 1 0)
    (get_or-take n xs (p / 16) 0 h) ∙ sym (bit_in-is xs p)

taken_number : (w v : Words) (kind : RefKind) (n : ℕ)
    → HasPlaceFor w (record { kind = kind; number = n })
    → packed_number (words_taken w v) (record { kind = kind; number = n })
    ≡ packed_number v (record { kind = kind; number = n })
taken_number w v Coil n place = bit_in-take (length w.coils) (n - 1) v.coils
    (let a = place.from_one in let b = place.within in omega arith)
taken_number w v Input n place = bit_in-take (length w.inputs) (n - 1) v.inputs
    (let a = place.from_one in let b = place.within in omega arith)
taken_number w v InputRegister n place =
    get_or-take (length w.input_registers) v.input_registers (n - 1) 0
    (let a = place.from_one in let b = place.within in omega arith)
taken_number w v Register n place = get_or-take (length w.registers) v.registers (n - 1) 0
    (let a = place.from_one in let b = place.within in omega arith)

-- words taken from others are the part of their map
pub packed-taken : (w v : Words) (m n : Contents) → packed_contents w ≡ m → packed_contents v ≡ n
    → Keeps m n → packed_contents (words_taken w v) ≡ part_within m n
unfolding packed_contents
packed-taken w v m n is other keeps =
    let places = keeps_places w v m n is other keeps in
    ap (λ s. filled s (packed_number (words_taken w v))) (taken_sizes w v (is_within w v places))
    ∙ filled-part (packed_sizes w) (packed_sizes v) (packed_number w) (packed_number v) m (sym is) n
    (packed_number (words_taken w v)) (sym other)
    (λ q has. let place = place_of w q has in
    (has_place v q (places q place), taken_number w v q.kind q.number place))

-- ---- sixteen discretes

get_or-word_bits : (w j : ℕ) (d : Bool) → j < 16 → get_or (word_bits w) j d ≡ word_bit w j
get_or-word_bits w j d h = get_or-bits_high_first 16 w j (15 - j) d (omega arith)

run_place : (w : Words) (at : Ref) (j : ℕ) → is_discrete at.kind ≡ true → HasPlaceFor w at
    → at.number % 16 ≡ 1 → j < 16 → HasPlaceFor w (ref_from at j)
run_place w at j d place first h =
    let c = count-discrete w at.kind d in
    let from = place.from_one in
    let within = place.within in
    record { from_one = omega arith; within = omega arith }

pub on_again : (b : Bool) → nat_lt 0 (cond b 1 0) ≡ b
on_again true = refl
on_again false = refl

bit_at_place : (ws : List ℕ) (p i j : ℕ) → p / 16 ≡ i → p % 16 ≡ j
    → bit_in ws p ≡ cond (word_bit (get_or ws i 0) j) 1 0
bit_at_place ws p i j e f =
    bit_in-is ws p
    ∙ ap (λ n. cond (word_bit (get_or ws n 0) (p % 16)) 1 0) e
    ∙ ap (λ n. cond (word_bit (get_or ws i 0) n) 1 0) f

bit_of_group : (w : Words) (at : Ref) (j : ℕ) → is_discrete at.kind ≡ true → HasPlaceFor w at
    → at.number % 16 ≡ 1 → j < 16
    → packed_number w (ref_from at j)
    ≡ cond (word_bit (get_or (words_of_kind w at.kind) ((at.number - 1) / 16) 0) j) 1 0
bit_of_group w at j d place first h =
    let from = place.from_one in
    let ws = words_of_kind w at.kind in
    let p = at.number + j - 1 in
    number_in-discrete at.kind ws p d
    ∙ bit_at_place ws p ((at.number - 1) / 16) j (omega arith) (omega arith)

-- the bits of a word are the discretes that it stands for
pub group_bits : (w : Words) (m : Contents) (at : Ref) → packed_contents w ≡ m
    → is_discrete at.kind ≡ true → HasPlaceFor w at → at.number % 16 ≡ 1
    → word_bits (get_or (words_of_kind w at.kind) ((at.number - 1) / 16) 0) ≡ bits_from m at 16
group_bits w m at is d place first =
    let word = get_or (words_of_kind w at.kind) ((at.number - 1) / 16) 0 in
    let size = length-bits_high_first 16 word in
    ext_get_or false (word_bits word) (bits_from m at 16)
    (size ∙ sym (length-map (words_from m at 16) (λ n. nat_lt 0 n) ∙ length-words_from m at 16))
    (λ j l.
    let h : j < 16 = omega arith in
    let run = length-words_from m at 16 in
    get_or-word_bits word j false h
    ∙ sym (get_or-map (λ n. nat_lt 0 n) (words_from m at 16) j 0 false (omega arith)
    ∙ ap (λ n. nat_lt 0 n) (get_or-words_from m at 16 j 0 h
    ∙ word_at-packed w m (ref_from at j) is (run_place w at j d place first h)
    ∙ bit_of_group w at j d place first h)
    ∙ on_again (word_bit word j)))

same_kind : (k kind : RefKind) → rank_of k ≡ rank_of kind → k ≡ kind
same_kind k kind e = sym (kind_again k) ∙ ap kind_of_rank e ∙ kind_again kind

-- whether a reference is one of sixteen
in_run : (at q : Ref) (P : Type 0) → ((j : ℕ) → j < 16 → q ≡ ref_from at j → P)
    → (((i : ℕ) → i < 16 → ref_from at i ≢ q) → P) → P
in_run at q P inside outside =
    elim (cases_eq (rank_of q.kind) (rank_of at.kind)) [
      | inl same ↦ elim (cases_lt q.number at.number) [
        | inl below ↦ outside (λ i l e.
            let n : at.number + i ≡ q.number = ap (λ (r : Ref). r.number) e in absurd (omega arith))
        | inr from ↦ elim (cases_lt q.number (at.number + 16)) [
          | inl near ↦
              let k = same_kind q.kind at.kind same in
              let n : q.number ≡ at.number + (q.number - at.number) = omega arith in
              inside (q.number - at.number) (omega arith) (λ i. record { kind = k i; number = n i })
          | inr far ↦ outside (λ i l e. let n : at.number + i ≡ q.number =
              ap (λ (r : Ref). r.number) e in absurd (omega arith))
        ]
      ]
      | inr apart ↦ outside (λ i l e. apart (sym (ap (λ (r : Ref). rank_of r.kind) e)))
    ]

number_option : (b : Bool) (v w : ℕ) → (b ≡ true → v ≡ w)
    → cond {A = Option ℕ} b (Some v) None ≡ cond b (Some w) None
number_option true v w h = ap Some (h refl)
number_option false v w h = refl

get-packed_any : (w : Words) (q : Ref) → get (packed_contents w) q
    ≡ cond (has_reference (packed_sizes w) q) (Some (packed_number w q)) None
unfolding packed_contents
get-packed_any w q = get-filled (packed_sizes w) (packed_number w) q

group_sizes : (w : Words) (at : Ref) (word : ℕ)
    → packed_sizes (with_group w at word) ≡ packed_sizes w
group_sizes w at word = sizes-with w at.kind (set (words_of_kind w at.kind)
    ((at.number - 1) / 16) word) (length-set (words_of_kind w at.kind)
    ((at.number - 1) / 16) word)

group_here : (w : Words) (at : Ref) (word j : ℕ) → is_discrete at.kind ≡ true → HasPlaceFor w at
    → at.number % 16 ≡ 1 → j < 16
    → packed_number (with_group w at word) (ref_from at j) ≡ cond (word_bit word j) 1 0
group_here w at word j d place first h =
    let from = place.from_one in
    let ws = words_of_kind w at.kind in
    let p = at.number + j - 1 in
    let xs = set ws ((at.number - 1) / 16) word in
    let group : p / 16 ≡ (at.number - 1) / 16 = omega arith in
    let bit : p % 16 ≡ j = omega arith in
    ap (λ ys. number_in at.kind ys p) (words_at-with w at.kind xs)
    ∙ number_in-discrete at.kind xs p d
    ∙ bit_in-set_at ws ((at.number - 1) / 16) p word (group_place w at d place) group
    ∙ ap (λ i. cond (word_bit word i) 1 0) bit

group_others : (w : Words) (at : Ref) (word : ℕ) (q : Ref) → is_discrete at.kind ≡ true
    → HasPlaceFor w at → at.number % 16 ≡ 1 → 1 ≤ q.number
    → ((i : ℕ) → i < 16 → ref_from at i ≢ q)
    → packed_number (with_group w at word) q ≡ packed_number w q
group_others w at word q d place first low apart =
    let from = place.from_one in
    let ws = words_of_kind w at.kind in
    let p = (at.number - 1) / 16 in
    let xs = set ws p word in
    others_with w at.kind q.kind xs (q.number - 1) (λ k.
    number_in-discrete at.kind xs (q.number - 1) d
    ∙ bit_in-set_far ws p (q.number - 1) word (λ e.
    let near : q.number - at.number < 16 = omega arith in
    let n : at.number + (q.number - at.number) ≡ q.number = omega arith in
    let back = sym k in
    apart (q.number - at.number) near (λ i. record { kind = back i; number = n i }))
    ∙ sym (number_in-discrete at.kind ws (q.number - 1) d))

-- a word stored sets the sixteen discretes that it stands for
pub packed-group : (w : Words) (m : Contents) (at : Ref) (word : ℕ) → packed_contents w ≡ m
    → is_discrete at.kind ≡ true → HasPlaceFor w at → at.number % 16 ≡ 1
    → packed_contents (with_words_of_kind w at.kind
    (set (words_of_kind w at.kind) ((at.number - 1) / 16) word)) ≡ with_bits m at (word_bits word)
packed-group w m at word is d place first =
    let new = with_group w at word in
    let words = bit_words (word_bits word) in
    let size : length words ≡ 16 = length-map (word_bits word) (λ bit. cond bit 1 0)
    ∙ length-bits_high_first 16 word in
    let sizes = group_sizes w at word in
    same_map refs_total exact_refs _ _ (λ q.
    in_run at q (get (packed_contents new) q ≡ get (with_words m at words) q)
    (λ j h e.
    let still = run_place w at j d place first h in
    let there : HasPlaceFor new (ref_from at j) =
    place_of new (ref_from at j) (ap (λ s. has_reference s (ref_from at j)) sizes
    ∙ has_place w (ref_from at j) still) in
    let bits = length-bits_high_first 16 word in
    let stored = get_or-map (λ bit. cond bit 1 0) (word_bits word) j false 0 (omega arith)
    ∙ ap (λ bit. cond bit 1 0) (get_or-word_bits word j false h) in
    ap (get (packed_contents new)) e ∙ get-packed new (ref_from at j) there
    ∙ ap Some (group_here w at word j d place first h)
    ∙ sym (ap (get (with_words m at words)) e ∙ get-with_words_at m at words j 0 (omega arith)
    ∙ ap Some stored))
    (λ apart.
    get-packed_any new q
    ∙ ap (λ s. cond (has_reference s q) (Some (packed_number new q)) None) sizes
    ∙ number_option (has_reference (packed_sizes w) q) (packed_number new q) (packed_number w q)
    (λ has. let there = place_of w q has in group_others w at word q d place first
    there.from_one apart)
    ∙ sym (get-with_words_other m at words q (λ i l. apart i (omega arith))
    ∙ ap (λ x. get x q) (sym is) ∙ get-packed_any w q)))

-- Registers among the words of a key.
use Rattle.std.proofs.Common.{◌≡◌, ◌≤◌, ◌<◌, ℕ, ◌+◌, ◌-◌, ◌/◌, Bool, true, false, ◌&&◌, cond, List, []}
use Rattle.std.proofs.Common.{◌∷◌, Option, Some, None, refl, sym, ap, ◌∙◌, subst, arith, length, drop}
use Rattle.std.proofs.Common.{get_or, take, zero, suc}
use Rattle.std.specs.FinMap.{get}
use Rattle.std.specs.Prelude.{is_some, nat_le, unwrap_or}
use Rattle.std.proofs.lemmas.Bool.Decides.{nat_tests}
use Rattle.std.proofs.lemmas.List.{get_or-drop, get_or-take, get_or_past}
use Rattle.plant_types.specs.declared.reference.Ref.{Ref}
use Rattle.plant_types.specs.declared.reference.RefKind.{RefKind}
use Rattle.plant_types.specs.declared.reference.RefKind.TheVariants.{Coil, Input, InputRegister}
use Rattle.plant_types.specs.declared.reference.RefKind.TheVariants.{Register}
use Rattle.plant_types.specs.Reference.{is_discrete}
use Rattle.plant_types.specs.Sizes.{Sizes, count_of, has_reference}
use Rattle.plant_types.specs.Store.{value_at, word_at}
use Rattle.state_ram.specs.Packed.{packed_contents, packed_number, packed_sizes, Words}
use Rattle.state_ram.proofs.Banked.{contains_key-packed, word_at-packed}
use Rattle.key_store.specs.Words.{words_cut}
use Rattle.key_store.proofs.Cutting.{between}

no-number : (o : Option ℕ) → is_some o ≡ false → unwrap_or o 0 ≡ 0
no-number None is = refl
no-number (Some n) is = absurd (let no' : true ≡ false = is in cc)

past-by : (b c : Bool) (n m : ℕ) → b && c ≡ false → nat_le 1 n ≡ b → nat_le n m ≡ c → 1 ≤ n → m < n
past-by b c n m is first last from = grind (arith, nat_tests)

-- a store has the number of a word of a kind of registers, or there is no such word
module _ (w : Words) (at : Ref) (from : 1 ≤ at.number) (held : List ℕ)
    (many : count_of (packed_sizes w) at.kind ≡ length held)
    (is : packed_number w at ≡ get_or held (at.number - 1) 0) where
  word-packed : word_at (packed_contents w) at ≡ get_or held (at.number - 1) 0
  word-packed = by (has_reference (packed_sizes w) at) refl
    where
      by : (b : Bool) → has_reference (packed_sizes w) at ≡ b
          → word_at (packed_contents w) at ≡ get_or held (at.number - 1) 0
      by true there =
          let here = between _ _ at.number (count_of (packed_sizes w) at.kind) there refl refl in
          word_at-packed w (packed_contents w) at refl
          (record { from_one = here.0; within = here.1 })
          ∙ is
      by false there =
          let none : is_some (get (packed_contents w) at) ≡ false = contains_key-packed w at ∙ there in
          let far : count_of (packed_sizes w) at.kind < at.number =
          past-by _ _ at.number (count_of (packed_sizes w) at.kind) there refl refl from in
          no-number (get (packed_contents w) at) none
          ∙ sym (get_or_past held (at.number - 1) 0 (omega (arith, far, many)))

input-register : (w : Words) (number : ℕ) → 1 ≤ number
    → word_at (packed_contents w) (record { kind = InputRegister; number = number })
    ≡ get_or w.input_registers (number - 1) 0
input-register w number from =
    word-packed w (record { kind = InputRegister; number = number }) from w.input_registers refl refl

register : (w : Words) (number : ℕ) → 1 ≤ number
    → word_at (packed_contents w) (record { kind = Register; number = number })
    ≡ get_or w.registers (number - 1) 0
register w number from =
    word-packed w (record { kind = Register; number = number }) from w.registers refl refl

pub input-register-cut : (sizes : Sizes) (words : List ℕ) (at : Ref) → at.kind ≡ InputRegister
    → has_reference sizes at ≡ true
    → get_or words (sizes.coils / 16 + sizes.inputs / 16 + (at.number - 1)) 0
    ≡ value_at (packed_contents (words_cut sizes words)) at
input-register-cut sizes words at kind held =
    let number = at.number in
    let back = sym kind in
    let e : record { kind = InputRegister; number = number } ≡ at =
    λ i. record { kind = back i; number = number } in
    let held' : has_reference sizes (record { kind = InputRegister; number = number }) ≡ true =
    ap (has_reference sizes) e ∙ held in
    let there = between _ _ number sizes.input_registers held' refl refl in
    let from = there.0 in
    let to = there.1 in
    let a = sizes.coils / 16 in
    let b = sizes.inputs / 16 in
    let n = number - 1 in
    let far : a + (b + n) ≡ a + b + n = omega arith in
    ap (λ k. get_or words k 0) (sym far)
    ∙ (sym (get_or-drop a words (b + n) 0)
    ∙ (sym (get_or-drop b (drop a words) n 0)
    ∙ (sym (get_or-take sizes.input_registers (drop b (drop a words)) n 0 (omega (arith, from, to)))
    ∙ (sym (input-register (words_cut sizes words) number from)
    ∙ ap (value_at (packed_contents (words_cut sizes words))) e))))

not-input : (kind : RefKind) → is_discrete kind ≡ false → (kind ≡ InputRegister → ⊥)
    → kind ≡ Register
not-input Coil d apart = absurd (let no' : true ≡ false = d in cc)
not-input Input d apart = absurd (let no' : true ≡ false = d in cc)
not-input InputRegister d apart = absurd (apart refl)
not-input Register d apart = refl

pub register-cut : (sizes : Sizes) (words : List ℕ) (at : Ref) → is_discrete at.kind ≡ false
    → (at.kind ≡ InputRegister → ⊥) → has_reference sizes at ≡ true
    → get_or words (sizes.coils / 16 + sizes.inputs / 16 + sizes.input_registers + (at.number - 1)) 0
    ≡ value_at (packed_contents (words_cut sizes words)) at
register-cut sizes words at d apart held =
    let number = at.number in
    let back = sym (not-input at.kind d apart) in
    let e : record { kind = Register; number = number } ≡ at =
    λ i. record { kind = back i; number = number } in
    let held' : has_reference sizes (record { kind = Register; number = number }) ≡ true =
    ap (has_reference sizes) e ∙ held in
    let there = between _ _ number sizes.registers held' refl refl in
    let from = there.0 in
    let to = there.1 in
    let a = sizes.coils / 16 in
    let b = sizes.inputs / 16 in
    let c = sizes.input_registers in
    let n = number - 1 in
    let far : a + (b + (c + n)) ≡ a + b + c + n = omega arith in
    ap (λ k. get_or words k 0) (sym far)
    ∙ (sym (get_or-drop a words (b + (c + n)) 0)
    ∙ (sym (get_or-drop b (drop a words) (c + n) 0)
    ∙ (sym (get_or-drop c (drop b (drop a words)) n 0)
    ∙ (sym (get_or-take sizes.registers (drop c (drop b (drop a words))) n 0 (omega (arith, from, to)))
    ∙ (sym (register (words_cut sizes words) number from)
    ∙ ap (value_at (packed_contents (words_cut sizes words))) e)))))

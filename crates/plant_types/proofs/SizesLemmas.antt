-- A store when it starts has the references of its sizes, each 0, and no others.
use Rattle.std.proofs.Common.{◌≡◌, ℕ, zero, suc, Bool, true, false, cond, ◌&&◌, ◌==◌, List, []}
use Rattle.std.proofs.Common.{◌++◌, Option, Some, None, is_some, nat_cmp, refl, sym, ap, ◌∙◌, arith}
use Rattle.std.specs.Ordering.{is_eq, ordering_then}
use Rattle.std.proofs.lemmas.Bool.Decides.{nat_tests}
use Rattle.std.proofs.lemmas.List.{append-nil}
use Rattle.std.specs.FinMap.{contains_key}
use Rattle.std.specs.Prelude.{nat_le}
use Rattle.plant_types.specs.declared.reference.RefKind.{RefKind}
use Rattle.plant_types.specs.declared.reference.RefKind.TheVariants.{Coil, Input, InputRegister}
use Rattle.plant_types.specs.declared.reference.RefKind.TheVariants.{Register}
use Rattle.plant_types.specs.declared.reference.Ref.{Ref}
use Rattle.plant_types.specs.Reference.{rank_of}
use Rattle.plant_types.specs.Sizes.{Sizes, zeros, count_of, has_reference, cleared, StartsCleared}
use Rattle.plant_types.proofs.Contents.{found_at, get_ref}

-- a number from 1 to a count
abbrev has_number : ℕ → ℕ → Bool
has_number count number = nat_le 1 number && nat_le number count

same_then : (a b m n : ℕ) → is_eq (ordering_then (nat_cmp a b) (nat_cmp m n)) ≡ (a == b) && (m == n)
same_then a b m n = grind (arith, nat_tests)

one_more : (x : Bool) (m n : ℕ) (v : Option ℕ)
    → cond (x && (m == suc n)) (Some 0) (cond (x && has_number n m) (Some 0) v)
    ≡ cond (x && has_number (suc n) m) (Some 0) v
one_more true m n v = grind (arith, nat_tests)
one_more false m n v = refl

none_yet : (x : Bool) (m : ℕ) (v : Option ℕ) → v ≡ cond (x && has_number 0 m) (Some 0) v
none_yet true m v = grind (arith, nat_tests)
none_yet false m v = refl

-- the zeros of one kind answer for the numbers from 1 to their count
zeros-found : (kind : RefKind) (n : ℕ) (rest : List (Ref × ℕ)) (q : Ref)
    → found_at (zeros kind n ++ rest) q
    ≡ cond ((rank_of q.kind == rank_of kind) && has_number n q.number) (Some 0) (found_at rest q)
zeros-found kind zero rest q = none_yet (rank_of q.kind == rank_of kind) q.number (found_at rest q)
zeros-found kind (suc n) rest q =
    rw (same_then (rank_of q.kind) (rank_of kind) q.number (suc n), zeros-found kind n rest q)
    (one_more (rank_of q.kind == rank_of kind) q.number n (found_at rest q))

all_found : (s : Sizes) (kind : RefKind) (number : ℕ)
    → found_at (zeros Coil s.coils
    ++ (zeros Input s.inputs ++ (zeros InputRegister s.input_registers
    ++ (zeros Register s.registers ++ [])))) (record { kind = kind; number = number })
    ≡ cond (has_number (count_of s kind) number) (Some 0) None
all_found s Coil n = rw (
  zeros-found Coil s.coils _ (record { kind = Coil; number = n }),
  zeros-found Input s.inputs _ (record { kind = Coil; number = n }),
  zeros-found InputRegister s.input_registers _ (record { kind = Coil; number = n }),
  zeros-found Register s.registers [] (record { kind = Coil; number = n }),
) refl
all_found s Input n = rw (
  zeros-found Coil s.coils _ (record { kind = Input; number = n }),
  zeros-found Input s.inputs _ (record { kind = Input; number = n }),
  zeros-found InputRegister s.input_registers _ (record { kind = Input; number = n }),
  zeros-found Register s.registers [] (record { kind = Input; number = n }),
) refl
all_found s InputRegister n = rw (
  zeros-found Coil s.coils _ (record { kind = InputRegister; number = n }),
  zeros-found Input s.inputs _ (record { kind = InputRegister; number = n }),
  zeros-found InputRegister s.input_registers _ (record { kind = InputRegister; number = n }),
  zeros-found Register s.registers [] (record { kind = InputRegister; number = n }),
) refl
all_found s Register n = rw (
  zeros-found Coil s.coils _ (record { kind = Register; number = n }),
  zeros-found Input s.inputs _ (record { kind = Register; number = n }),
  zeros-found InputRegister s.input_registers _ (record { kind = Register; number = n }),
  zeros-found Register s.registers [] (record { kind = Register; number = n }),
) refl

-- the references of a fresh store are those of its sizes, each 0
pub get-cleared : StartsCleared
get-cleared s q =
    let es = zeros Coil s.coils ++ (zeros Input s.inputs
    ++ (zeros InputRegister s.input_registers ++ zeros Register s.registers)) in
    get_ref es q
    ∙ ap (λ t. found_at (zeros Coil s.coils
    ++ (zeros Input s.inputs ++ (zeros InputRegister s.input_registers ++ t))) q)
    (sym (append-nil (zeros Register s.registers)))
    ∙ all_found s q.kind q.number

some_in : (b : Bool) → is_some {T = ℕ} (cond b (Some 0) None) ≡ b
some_in true = refl
some_in false = refl

-- the store that sizes make has the references of the sizes
pub contains_key-cleared : (sizes : Sizes) (at : Ref)
    → contains_key (cleared sizes) at ≡ has_reference sizes at
contains_key-cleared sizes at = ap is_some (get-cleared sizes at) ∙ some_in (has_reference sizes at)

-- What the tests of a closed set say of each operand of an element.
use Rattle.std.proofs.Common.{◌≡◌, ℕ, zero, suc, ◌+◌, ◌<◌, Bool, true, false, List, [], ◌∷◌, ◌++◌}
use Rattle.std.proofs.Common.{map, refl, sym, ap, ◌∙◌, arith}
use Rattle.std.specs.Prelude.{if◌then◌else◌, ◌||◌}
use Rattle.std.specs.List.{flat_map, list_any, list_all, range_with_len, AllByRecursion}
use Rattle.std.specs.FinSet.{contains}
use Rattle.std.proofs.lemmas.Bool.{and_parts}
use Rattle.std.proofs.lemmas.List.Folds.{list_all-append, list_any-append}
use Rattle.plant_types.specs.declared.reference.Ref.{Ref}
use Rattle.plant_types.specs.declared.element.Operand.{Operand}
use Rattle.plant_types.specs.declared.element.Operand.TheVariants.{Const, At}
use Rattle.plant_types.specs.Discretes.{Refs}
use Rattle.plant_types.specs.Operands.{Named, OperandKind, named_in}
use Rattle.plant_types.specs.Reference.{ref_from}
use Rattle.cone_of.specs.Uses.{run_from, run_where, is_read, holding_in}
use Rattle.cone_laws.proofs.Stores.{Has, Lacks, HasOperand}
use Rattle.cone_laws.proofs.Elsewhere.{LacksPointer}

-- a disjunction that fails
pub or_parts : (a b : Bool) → a || b ≡ false → (a ≡ false) × (b ≡ false)
or_parts true b is = absurd (let no' : true ≡ false = is in cc)
or_parts false b is = (refl, is)

run-had : (set : Refs) (at : Ref) (from count : ℕ)
    → list_all (contains set) (map (ref_from at) (range_with_len from count)) ≡ true
    → (i : ℕ) → i < count → contains set (ref_from at (from + i)) ≡ true
run-had set at from zero is i below = absurd (omega arith)
run-had set at from (suc count) is zero below =
    let e : from + 0 ≡ from = omega arith in
    ap (λ k. contains set (ref_from at k)) e ∙ (and_parts _ _ is).0
run-had set at from (suc count) is (suc i) below =
    let e : from + suc i ≡ from + 1 + i = omega arith in
    ap (λ k. contains set (ref_from at k)) e
    ∙ run-had set at (from + 1) count ((and_parts _ _ is).1) i (omega (arith, below))

run-lacked : (set : Refs) (at : Ref) (from count : ℕ)
    → list_any (contains set) (map (ref_from at) (range_with_len from count)) ≡ false
    → (i : ℕ) → i < count → contains set (ref_from at (from + i)) ≡ false
run-lacked set at from zero is i below = absurd (omega arith)
run-lacked set at from (suc count) is zero below =
    let e : from + 0 ≡ from = omega arith in
    ap (λ k. contains set (ref_from at k)) e ∙ (or_parts _ _ is).0
run-lacked set at from (suc count) is (suc i) below =
    let e : from + suc i ≡ from + 1 + i = omega arith in
    ap (λ k. contains set (ref_from at k)) e
    ∙ run-lacked set at (from + 1) count ((or_parts _ _ is).1) i (omega (arith, below))

-- a set has all that is named where its kind is such, or lacks it
abbrev pub HasNamed : Refs → (OperandKind → Bool) → Named → Type 0
HasNamed set such named = such named.kind ≡ true → Has set named.at named.count

abbrev pub LacksNamed : Refs → (OperandKind → Bool) → Named → Type 0
LacksNamed set such named = such named.kind ≡ true → Lacks set named.at named.count

one-had : (set : Refs) (b : Bool) (at : Ref) (count : ℕ)
    → list_all (contains set) (if b then run_from at count else []) ≡ true → b ≡ true
    → Has set at count
one-had set true at count is on = λ i below.
    let e : i ≡ 0 + i = omega arith in
    ap (λ (k : ℕ). contains set (ref_from at k)) e ∙ run-had set at 0 count is i below
one-had set false at count is on = absurd (let no' : false ≡ true = on in cc)

one-lacked : (set : Refs) (b : Bool) (at : Ref) (count : ℕ)
    → list_any (contains set) (if b then run_from at count else []) ≡ false → b ≡ true
    → Lacks set at count
one-lacked set true at count is on = λ i below.
    let e : i ≡ 0 + i = omega arith in
    ap (λ (k : ℕ). contains set (ref_from at k)) e ∙ run-lacked set at 0 count is i below
one-lacked set false at count is on = absurd (let no' : false ≡ true = on in cc)

pub names-had : (set : Refs) (such : OperandKind → Bool) (names : List Named)
    → list_all (contains set) (flat_map (run_where such) names) ≡ true
    → AllByRecursion (HasNamed set such) names
names-had set such [] is = tt
names-had set such (named ∷ names) is =
    let parts = and_parts _ _ (sym (list_all-append (contains set) (run_where such named)
    (flat_map (run_where such) names)) ∙ is) in
    (one-had set (such named.kind) named.at named.count parts.0, names-had set such names parts.1)

pub names-lacked : (set : Refs) (such : OperandKind → Bool) (names : List Named)
    → list_any (contains set) (flat_map (run_where such) names) ≡ false
    → AllByRecursion (LacksNamed set such) names
names-lacked set such [] is = tt
names-lacked set such (named ∷ names) is =
    let parts = or_parts _ _ (sym (list_any-append (contains set) (run_where such named)
    (flat_map (run_where such) names)) ∙ is) in (
      one-lacked set (such named.kind) named.at named.count parts.0,
      names-lacked set such names parts.1,
    )

-- what holds of each of two lists in one
pub all_first : {X : Type 0} (P : X → Type 0) (xs ys : List X) → AllByRecursion P (xs ++ ys)
    → AllByRecursion P xs
all_first P [] ys all = tt
all_first P (x ∷ xs) ys all = (all.0, all_first P xs ys all.1)

pub all_second : {X : Type 0} (P : X → Type 0) (xs ys : List X) → AllByRecursion P (xs ++ ys)
    → AllByRecursion P ys
all_second P [] ys all = all
all_second P (x ∷ xs) ys all = all_second P xs ys all.1

-- an operand that is read
pub operand-had : (set : Refs) (operand : Operand) (count : ℕ) (rest : List Named)
    → AllByRecursion (HasNamed set is_read) (named_in operand count ++ rest)
    → HasOperand set operand count × AllByRecursion (HasNamed set is_read) rest
operand-had set (Const n) count rest all = (tt, all)
operand-had set (At at) count rest all = (all.0 refl, all.1)

-- an operand that can be moved on
pub pointer-lacked : (set : Refs) (operand : Operand)
    → list_any (contains set) (holding_in operand) ≡ false → LacksPointer set operand
pointer-lacked set (Const n) is = tt
pointer-lacked set (At at) is = λ on. (or_parts (contains set at) false
    (ap (λ (b : Bool). list_any (contains set) (if b then at ∷ [] else [])) (sym on) ∙ is)).0

-- What stores in two states keep of their agreement on a set, and what a store elsewhere leaves.
use Rattle.std.proofs.Common.{◌≡◌, ℕ, zero, suc, ◌+◌, ◌<◌, ◌≤◌, Bool, true, false, cond, List}
use Rattle.std.proofs.Common.{[], ◌∷◌, length, Option, Some, unwrap_or, refl, sym, ap}
use Rattle.std.proofs.Common.{◌∙◌, arith}
use Rattle.std.specs.Prelude.{if◌then◌else◌}
use Rattle.std.specs.Ordering.{eq_by_cmp}
use Rattle.std.specs.FinMap.{get, insert, get-insert}
use Rattle.std.specs.FinSet.{contains}
use Rattle.plant_types.specs.declared.reference.Ref.{Ref}
use Rattle.plant_types.specs.declared.element.Operand.{Operand}
use Rattle.plant_types.specs.declared.element.Operand.TheVariants.{Const, At}
use Rattle.plant_types.specs.Discretes.{Refs}
use Rattle.plant_types.specs.Operands.{operand_number}
use Rattle.plant_types.specs.Reference.{ref_cmp, ref_from}
use Rattle.plant_types.specs.Store.{Contents, words_from, with_words}
use Rattle.plant_types.proofs.Contents.{refs_total}
use Rattle.plant_types.proofs.RunLemmas.{ref_from-zero, ref_from-ref_from, get-insert_other}
use Rattle.plant_types.proofs.RunLemmas.{get-with_words_other}
use Rattle.cone_laws.specs.Agree.{SameIn}

-- a set has each of so many references from one on, or none of them
abbrev pub Has : Refs → Ref → ℕ → Type 0
Has set at count = (i : ℕ) → i < count → contains set (ref_from at i) ≡ true

abbrev pub Lacks : Refs → Ref → ℕ → Type 0
Lacks set at count = (i : ℕ) → i < count → contains set (ref_from at i) ≡ false

pub has-first : (set : Refs) (at : Ref) (count : ℕ) → 0 < count → Has set at count
    → contains set at ≡ true
has-first set at count some has =
    ap (contains set) (sym (ref_from-zero at)) ∙ has 0 some

pub lacks-first : (set : Refs) (at : Ref) (count : ℕ) → 0 < count → Lacks set at count
    → contains set at ≡ false
lacks-first set at count some lacks =
    ap (contains set) (sym (ref_from-zero at)) ∙ lacks 0 some

pub has-part : (set : Refs) (at : Ref) (count k part : ℕ) → k + part ≤ count → Has set at count
    → Has set (ref_from at k) part
has-part set at count k part room has i below =
    ap (contains set) (ref_from-ref_from at k i) ∙ has (k + i) (omega arith)

pub lacks-part : (set : Refs) (at : Ref) (count k part : ℕ) → k + part ≤ count
    → Lacks set at count → Lacks set (ref_from at k) part
lacks-part set at count k part room lacks i below =
    ap (contains set) (ref_from-ref_from at k i) ∙ lacks (k + i) (omega arith)

-- ---- what both states store

held-or : (b : Bool) (v : ℕ) (x y : Option ℕ) → unwrap_or x 0 ≡ unwrap_or y 0
    → unwrap_or (cond b (Some v) x) 0 ≡ unwrap_or (cond b (Some v) y) 0
held-or true v x y same = refl
held-or false v x y same = same

pub insert-both : (set : Refs) (m n : Contents) (at : Ref) (v : ℕ) → SameIn set m n
    → SameIn set (insert m at v) (insert n at v)
insert-both set m n at v same q has =
    ap (λ (o : Option ℕ). unwrap_or o 0) (get-insert refs_total m at v q)
    ∙ held-or (eq_by_cmp ref_cmp q at) v (get m q) (get n q) (same q has)
    ∙ sym (ap (λ (o : Option ℕ). unwrap_or o 0) (get-insert refs_total n at v q))

pub words-both : (set : Refs) (m n : Contents) (at : Ref) (words : List ℕ) → SameIn set m n
    → SameIn set (with_words m at words) (with_words n at words)
unfolding with_words
words-both set m n at [] same = same
words-both set m n at (word ∷ words) same =
    words-both set (insert m at word) (insert n at word) (ref_from at 1) words
    (insert-both set m n at word same)

-- ---- what is stored elsewhere

pub insert-elsewhere : (set : Refs) (m : Contents) (at : Ref) (v : ℕ) → contains set at ≡ false
    → SameIn set m (insert m at v)
insert-elsewhere set m at v lacks q has =
    sym (ap (λ (o : Option ℕ). unwrap_or o 0) (get-insert_other m at v q
    (λ e. let no' : true ≡ false = sym has ∙ (ap (contains set) (sym e) ∙ lacks) in absurd (cc))))

pub words-elsewhere : (set : Refs) (m : Contents) (at : Ref) (words : List ℕ) (count : ℕ)
    → length words ≤ count → Lacks set at count → SameIn set m (with_words m at words)
words-elsewhere set m at words count few lacks q has =
    sym (ap (λ (o : Option ℕ). unwrap_or o 0) (get-with_words_other m at words q
    (λ i below e. let no' : true ≡ false =
    sym has ∙ (ap (contains set) (sym e) ∙ lacks i (omega (arith, below, few))) in
    absurd (cc))))

pub onward : (set : Refs) (a b c : Contents) → SameIn set a b → SameIn set b c → SameIn set a c
onward set a b c one other at has = one at has ∙ other at has

-- ---- what is read

pub words-read : (set : Refs) (m n : Contents) (at : Ref) (count : ℕ) → SameIn set m n
    → Has set at count → words_from m at count ≡ words_from n at count
unfolding words_from
words-read set m n at zero same has = refl
words-read set m n at (suc count) same has =
    let first = same at (has-first set at (suc count) (omega arith) has) in
    let rest = words-read set m n (ref_from at 1) count same
    (has-part set at (suc count) 1 count (omega arith) has) in
    λ i. first i ∷ rest i

-- what an operand names, a set has
abbrev pub HasOperand : Refs → Operand → ℕ → Type 0
HasOperand set (Const n) count = Unit {0}
HasOperand set (At at) count = Has set at count

pub number-read : (set : Refs) (m n : Contents) (operand : Operand) (count : ℕ) → 0 < count
    → SameIn set m n → HasOperand set operand count → operand_number m operand ≡ operand_number n operand
number-read set m n (Const k) count some same has = refl
number-read set m n (At at) count some same has = same at (has-first set at count some has)

-- ---- by a test

pub by-store : (set : Refs) (m : Contents) (b : Bool) (one other : Contents)
    → (b ≡ true → SameIn set m one) → SameIn set m other
    → SameIn set m (if b then one else other)
by-store set m true one other first second = first refl
by-store set m false one other first second = second

pub when-elsewhere : (set : Refs) (b : Bool) (m n : Contents) → (b ≡ true → SameIn set m n)
    → SameIn set m (if b then n else m)
when-elsewhere set true m n one = one refl
when-elsewhere set false m n one = λ at has. refl

pub either-both : (set : Refs) (b : Bool) (m n m' n' : Contents) → SameIn set m n
    → SameIn set m' n' → SameIn set (if b then m else m') (if b then n else n')
either-both set true m n m' n' one other = one
either-both set false m n m' n' one other = other

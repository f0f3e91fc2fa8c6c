-- What a block does by references that a set has, it does alike in stores that agree on the set.
use Rattle.std.proofs.Common.{◌≡◌, ℕ, Bool, true, false, List, refl}
use Rattle.std.proofs.Common.{subst, arith, ◌/◌, ◌==◌}
use Rattle.std.specs.Prelude.{if◌then◌else◌, ◌&&◌, not}
use Rattle.std.specs.FinMap.{insert}
use Rattle.plant_types.specs.declared.reference.Ref.{Ref}
use Rattle.plant_types.specs.declared.element.Unit.{Unit as TimeBase}
use Rattle.plant_types.specs.declared.power.NodePower.{NodePower}
use Rattle.plant_types.specs.Discretes.{Refs}
use Rattle.plant_types.specs.Effect.{Effect}
use Rattle.plant_types.specs.Store.{Contents, word_at, with_words}
use Rattle.timer_ops.specs.declared.Clock.{Clock}
use Rattle.timer_ops.specs.Timer.{timer_effect, time_after, reached}
use Rattle.timer_ops.specs.Counter.{up_count_effect, down_count_effect, counted_up, counted_down}
use Rattle.timer_ops.specs.Counter.{run_down}
use Rattle.integer_ops.specs.Arithmetic.{no_effect, add_effect, sub_effect, mul_effect, div_effect}
use Rattle.integer_ops.specs.Arithmetic.{quotient_effect, is_too_large, dividend}
use Rattle.cone_laws.specs.Agree.{SameIn}
use Rattle.cone_laws.proofs.Stores.{Has, has-first, insert-both, words-both}

-- two effects give the same outputs, and stores that agree
pub record SameEffect (set : Refs) (one other : Effect) : Type 0 where
  pub outputs : one.outputs ≡ other.outputs
  pub stored : SameIn set one.stored other.stored

pub insert-same : (set : Refs) (m n : Contents) (at : Ref) (v w : ℕ) → v ≡ w → SameIn set m n
    → SameIn set (insert m at v) (insert n at w)
insert-same set m n at v w e same =
    subst (λ (x : ℕ). SameIn set (insert m at v) (insert n at x)) e (insert-both set m n at v same)

pub words-same : (set : Refs) (m n : Contents) (at : Ref) (xs ys : List ℕ) → xs ≡ ys
    → SameIn set m n → SameIn set (with_words m at xs) (with_words n at ys)
words-same set m n at xs ys e same =
    subst (λ (zs : List ℕ). SameIn set (with_words m at xs) (with_words n at zs)) e
    (words-both set m n at xs same)

pub when-both : (set : Refs) (b : Bool) (m n m' n' : Contents) → (b ≡ true → SameIn set m n)
    → SameIn set m' n' → SameIn set (if b then m else m') (if b then n else n')
when-both set true m n m' n' one other = one refl
when-both set false m n m' n' one other = other

effect-by : (set : Refs) (b : Bool) (one other one' other' : Effect) → SameEffect set one other
    → SameEffect set one' other'
    → SameEffect set (if b then one else one') (if b then other else other')
effect-by set true one other one' other' first second = first
effect-by set false one other one' other' first second = second

none-same : (set : Refs) (m n : Contents) → SameIn set m n
    → SameEffect set (no_effect m) (no_effect n)
none-same set m n same = record { outputs = refl; stored = same }

-- ---- timers and counters

pub timer-same : (set : Refs) (unit : TimeBase) (p q : ℕ) (acc : Ref) (clock : Clock)
    (inputs : NodePower) (m n : Contents) → p ≡ q → SameIn set m n → Has set acc 1
    → SameEffect set (timer_effect unit p acc clock inputs m) (timer_effect unit q acc clock inputs n)
unfolding timer_effect
timer-same set unit p q acc clock inputs m n e same has =
    let count = same acc (has-first set acc 1 (omega arith) has) in
    let time : time_after unit p inputs clock (word_at m acc)
    ≡ time_after unit q inputs clock (word_at n acc) =
    λ i. time_after unit (e i) inputs clock (count i) in
    record {
      outputs = λ i. reached (e i) (time i);
      stored = insert-same set m n acc _ _ time same;
    }

pub up-same : (set : Refs) (p q : ℕ) (acc : Ref) (one other : Bool) (inputs : NodePower)
    (m n : Contents) → p ≡ q → one ≡ other → SameIn set m n → Has set acc 1
    → SameEffect set (up_count_effect p acc one inputs m) (up_count_effect q acc other inputs n)
unfolding up_count_effect
up-same set p q acc one other inputs m n e edge same has =
    let count = same acc (has-first set acc 1 (omega arith) has) in
    let counted : counted_up p inputs one (word_at m acc)
    ≡ counted_up q inputs other (word_at n acc) =
    λ i. counted_up (e i) inputs (edge i) (count i) in
    record {
      outputs = λ i. reached (e i) (counted i);
      stored = insert-same set m n acc _ _ counted same;
    }

pub down-same : (set : Refs) (p q : ℕ) (acc : Ref) (one other : Bool) (inputs : NodePower)
    (m n : Contents) → p ≡ q → one ≡ other → SameIn set m n → Has set acc 1
    → SameEffect set (down_count_effect p acc one inputs m) (down_count_effect q acc other inputs n)
unfolding down_count_effect
down-same set p q acc one other inputs m n e edge same has =
    let count = same acc (has-first set acc 1 (omega arith) has) in
    let counted : counted_down p inputs one (word_at m acc)
    ≡ counted_down q inputs other (word_at n acc) =
    λ i. counted_down (e i) inputs (edge i) (count i) in
    record {
      outputs = λ i. run_down (counted i);
      stored = insert-same set m n acc _ _ counted same;
    }

-- ---- arithmetic

add-both : (set : Refs) (a b : ℕ) (low : Ref) (inputs : NodePower) (m n : Contents)
    → SameIn set m n → SameEffect set (add_effect a b low inputs m) (add_effect a b low inputs n)
unfolding add_effect
add-both set a b low inputs m n same =
    effect-by set inputs.top _ _ _ _
    (record { outputs = refl; stored = insert-both set m n low _ same }) (none-same set m n same)

sub-both : (set : Refs) (a b : ℕ) (low : Ref) (inputs : NodePower) (m n : Contents)
    → SameIn set m n → SameEffect set (sub_effect a b low inputs m) (sub_effect a b low inputs n)
unfolding sub_effect
sub-both set a b low inputs m n same =
    effect-by set inputs.top _ _ _ _
    (record { outputs = refl; stored = insert-both set m n low _ same }) (none-same set m n same)

mul-both : (set : Refs) (a b : ℕ) (low : Ref) (inputs : NodePower) (m n : Contents)
    → SameIn set m n → SameEffect set (mul_effect a b low inputs m) (mul_effect a b low inputs n)
unfolding mul_effect
mul-both set a b low inputs m n same =
    effect-by set (inputs.top && not (is_too_large a) && not (is_too_large b)) _ _ _ _
    (record { outputs = refl; stored = words-both set m n low _ same }) (none-same set m n same)

quotient-both : (set : Refs) (a b : ℕ) (low : Ref) (as_fraction : Bool) (m n : Contents)
    → SameIn set m n
    → SameEffect set (quotient_effect a b low as_fraction m) (quotient_effect a b low as_fraction n)
quotient-both set a b low as_fraction m n same =
    effect-by set (b == 0) _ _ _ _ (record { outputs = refl; stored = same })
    (effect-by set (is_too_large (a / b)) _ _ _ _ (record { outputs = refl; stored = same })
    (record { outputs = refl; stored = words-both set m n low _ same }))

div-both : (set : Refs) (high units by : ℕ) (low : Ref) (inputs : NodePower) (m n : Contents)
    → SameIn set m n
    → SameEffect set (div_effect high units by low inputs m) (div_effect high units by low inputs n)
unfolding div_effect
div-both set high units by low inputs m n same =
    effect-by set
    (inputs.top && not (is_too_large high) && not (is_too_large units) && not (is_too_large by))
    _ _ _ _ (quotient-both set (dividend high units) by low inputs.middle m n same)
    (none-same set m n same)

-- two numbers that are the same in both
pub by_two : (set : Refs) (effect : ℕ → ℕ → Contents → Effect) (a b a' b' : ℕ) (m n : Contents)
    → ((a b : ℕ) → SameEffect set (effect a b m) (effect a b n)) → a ≡ a' → b ≡ b'
    → SameEffect set (effect a b m) (effect a' b' n)
by_two set effect a b a' b' m n same e f =
    subst (λ (x : ℕ). SameEffect set (effect a b m) (effect x b' n)) e
    (subst (λ (y : ℕ). SameEffect set (effect a b m) (effect a y n)) f (same a b))

pub add-same : (set : Refs) (a b a' b' : ℕ) (low : Ref) (inputs : NodePower) (m n : Contents)
    → SameIn set m n → a ≡ a' → b ≡ b'
    → SameEffect set (add_effect a b low inputs m) (add_effect a' b' low inputs n)
add-same set a b a' b' low inputs m n same =
    by_two set (λ a b m. add_effect a b low inputs m) a b a' b' m n
    (λ a b. add-both set a b low inputs m n same)

pub sub-same : (set : Refs) (a b a' b' : ℕ) (low : Ref) (inputs : NodePower) (m n : Contents)
    → SameIn set m n → a ≡ a' → b ≡ b'
    → SameEffect set (sub_effect a b low inputs m) (sub_effect a' b' low inputs n)
sub-same set a b a' b' low inputs m n same =
    by_two set (λ a b m. sub_effect a b low inputs m) a b a' b' m n
    (λ a b. sub-both set a b low inputs m n same)

pub mul-same : (set : Refs) (a b a' b' : ℕ) (low : Ref) (inputs : NodePower) (m n : Contents)
    → SameIn set m n → a ≡ a' → b ≡ b'
    → SameEffect set (mul_effect a b low inputs m) (mul_effect a' b' low inputs n)
mul-same set a b a' b' low inputs m n same =
    by_two set (λ a b m. mul_effect a b low inputs m) a b a' b' m n
    (λ a b. mul-both set a b low inputs m n same)

pub div-same : (set : Refs) (high units by high' units' by' : ℕ) (low : Ref) (inputs : NodePower)
    (m n : Contents) → SameIn set m n → high ≡ high' → units ≡ units' → by ≡ by'
    → SameEffect set (div_effect high units by low inputs m) (div_effect high' units' by' low inputs n)
div-same set high units by high' units' by' low inputs m n same e f g =
    subst (λ (x : ℕ). SameEffect set (div_effect high units by low inputs m)
    (div_effect x units' by' low inputs n)) e
    (by_two set (λ a b m. div_effect high a b low inputs m) units by units' by' m n
    (λ a b. div-both set high a b low inputs m n same) f g)

-- Plants that are small enough to be looked through.
use Rattle.std.proofs.Common.{ℕ, zero, suc, ◌<◌, ◌≤◌, [], ◌∷◌, arith}
use Rattle.std.specs.List.{All}
use Rattle.std.specs.List.Sorted.{IsStrictlyIncreasing}
use Rattle.plant_types.specs.Plans.{IsFromTo, IsNode}

pub all-one : {X : Type 0} (P : X → Type 0) (x : X) → P x → All P (x ∷ [])
all-one P x here zero d low = here
all-one P x here (suc k) d low = absurd (omega arith)

pub all-two : {X : Type 0} (P : X → Type 0) (x y : X) → P x → P y → All P (x ∷ y ∷ [])
all-two P x y a b zero d low = a
all-two P x y a b (suc zero) d low = b
all-two P x y a b (suc (suc k)) d low = absurd (omega arith)

pub from-to : (least most number : ℕ) → least ≤ number → number ≤ most
    → IsFromTo least most number
from-to least most number a b = record { from = a; to = b }

pub is-node : (n : ℕ) → 1 ≤ n → n ≤ 64 → IsNode n
is-node n a b = record { from = a; to = b }

pub none-rises : IsStrictlyIncreasing []
none-rises k low = absurd (omega arith)

pub one-rises : (n : ℕ) → IsStrictlyIncreasing (n ∷ [])
one-rises n k low = absurd (omega arith)

pub two-rise : (n m : ℕ) → n < m → IsStrictlyIncreasing (n ∷ m ∷ [])
two-rise n m less zero low = less
two-rise n m less (suc k) low = absurd (omega arith)

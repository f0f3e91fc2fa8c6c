-- How many tickets the passes hold.
use Rattle.std.proofs.Common.{◌≡◌, ℕ, zero, suc, ◌+◌, ◌<◌, ◌≤◌, ◌^◌, nat_eq, List, [], ◌∷◌, ◌++◌}
use Rattle.std.proofs.Common.{length, set, true, sym, ap, arith}
use Rattle.std.specs.List.{IsDistinct}
use Rattle.std.proofs.lemmas.Map.Steps.{length-le_from_distinct_below}
use mathlib.Core.Option.{some, some-injective, some-ne-none}
use lib.ListN.{get_elem?}
use Rattle.turn_gate.specs.declared.views.Phase.{Phase}
use Rattle.turn_gate.specs.declared.views.Phase.TheVariants.{Idle, Waiting, Inside}
use Rattle.turn_gate.specs.declared.views.View.{View}
use Rattle.turn_gate.specs.Known.{is_among}
use Rattle.turn_gate.specs.Rule.{tickets_of, tickets_held}

module _ {E : Type 0} where
  -- one view is replaced
  pub tickets_held-set : (vs : List (View E)) (me : ℕ) (v w : View E) → get_elem? vs me ≡ some v
      → tickets_held (set vs me w) + tickets_of v.phase ≡ tickets_held vs + tickets_of w.phase
  tickets_held-set [] me v w e = absurd (some-ne-none v (sym e))
  tickets_held-set (x ∷ xs) zero v w e =
      let same : tickets_of x.phase ≡ tickets_of v.phase = ap (λ (u : View E). tickets_of u.phase)
      (some-injective x v e) in omega arith
  tickets_held-set (x ∷ xs) (suc me) v w e = let k = tickets_held-set xs me v w e in omega arith

  -- further views
  pub tickets_held-append : (vs ws : List (View E))
      → tickets_held (vs ++ ws) ≡ tickets_held vs + tickets_held ws
  tickets_held-append [] ws = omega arith
  tickets_held-append (x ∷ xs) ws = let k = tickets_held-append xs ws in omega arith

  -- each view holds one at most
  pub tickets_held-le : (vs : List (View E)) → tickets_held vs ≤ length vs
  tickets_held-le [] = omega arith
  tickets_held-le (x ∷ xs) = let k = tickets_held-le xs in let one = at_most x.phase in omega arith
    where
      at_most : (p : Phase) → tickets_of p ≤ 1
      at_most Idle = omega arith
      at_most (Waiting t) = omega arith
      at_most (Inside t) = omega arith

-- there are at most as many different numbers below 2 ^ 32
pub few_numbers : (given : List ℕ) → IsDistinct nat_eq given
    → ((n : ℕ) → is_among n given ≡ true → (0 < n) × (n < 2 ^ 32)) → length given ≤ 2 ^ 32
few_numbers given distinct low =
    length-le_from_distinct_below given (2 ^ 32) distinct (λ n is. (low n is).1)

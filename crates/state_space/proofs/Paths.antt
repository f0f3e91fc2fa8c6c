-- One move more.
use Rattle.std.proofs.Common.{◌≡◌, ℕ, ◌+◌, ◌<◌, List, [], ◌∷◌, ◌++◌, length, refl, sym, subst, arith}
use Rattle.state_space.specs.Reaching.{LeadBy, Reaches}

pub lead-snoc : (count : ℕ) (leads : List ℕ → ℕ → List ℕ → Type 0) (from mid to path : List ℕ)
    (by : ℕ) → LeadBy count leads from path mid → by < count → leads mid by to
    → LeadBy count leads from (path ++ by ∷ []) to
lead-snoc count leads from mid to [] by same h l =
    (h, (to, (subst (λ k. leads k by to) (sym same) l, refl)))
lead-snoc count leads from mid to (x ∷ path) by all h l =
    (all.0, (all.1.0, (all.1.1.0, lead-snoc count leads all.1.0 mid to path by all.1.1.1 h l)))

pub length-snoc : {X : Type 0} (xs : List X) (x : X) → length (xs ++ x ∷ []) ≡ length xs + 1
length-snoc [] x = refl
length-snoc (y ∷ xs) x = let h = length-snoc xs x in omega (arith, h)

pub reaches-more : (starts : List ℕ → Type 0) (count : ℕ) (leads : List ℕ → ℕ → List ℕ → Type 0)
    (path mid to : List ℕ) (by : ℕ) → Reaches starts count leads path mid → by < count
    → leads mid by to → Reaches starts count leads (path ++ by ∷ []) to
reaches-more starts count leads path mid to by r h l =
    record {
      first = r.first;
      is_first = r.is_first;
      leads_on = lead-snoc count leads r.first mid to path by r.leads_on h l;
    }

-- Lists that break off.
use Rattle.std.proofs.Common.{◌≡◌, ℕ, ◌+◌, ◌-◌, ◌<◌, Bool, true, false, List, [], ◌∷◌, ◌++◌, length}
use Rattle.std.proofs.Common.{get_or, take, sym, ap, subst, ◌∙◌, arith}
use Rattle.std.specs.Prelude.{◌↔◌}
use Rattle.station_laws.specs.Differing.{BreaksAt}
use Rattle.station_laws.proofs.Lists.{not-true, take-push}

-- an entry that may not follow makes a list no legal one
pub follow-breaks : {E : Type 0} (Good : List E → Type 0) (entries past : List E) (place : ℕ)
    (e : E) (may : Bool) → past ≡ take place entries → Good (take place entries)
    → place < length entries → e ≡ get_or entries place e
    → (may ≡ true) ↔ Good (past ++ e ∷ []) → may ≡ false → BreaksAt Good entries (place + 1)
follow-breaks Good entries past place e may past-is legal low is told no' = record {
  before =
      let n : place + 1 - 1 ≡ place = omega arith in
      subst (λ k. Good (take k entries)) (sym n) legal;
  here = λ more.
      let yes = told.1 (subst Good (take-push entries place e low is
      ∙ ap (λ l. l ++ e ∷ []) (sym past-is)) more) in
      not-true (sym no' ∙ yes);
}

-- Lists of which no item stands so to an earlier one.
use Rattle.std.proofs.Common.{◌≡◌, Bool, true, false, not, ◌||◌, List, [], ◌∷◌, ◌++◌, refl, ◌∙◌}
use Rattle.std.specs.List.{list_any, list_all}
use Rattle.std.proofs.lemmas.Bool.{and_parts, and_from}
use Rattle.std.proofs.lemmas.List.Folds.{list_all-append}
use Rattle.plant_types.specs.Pairs.{no_two}

-- neither of two is
pub neither : (a b : Bool) → not (a || b) ≡ true → (not a ≡ true) × (not b ≡ true)
neither false b h = (refl, h)
neither true b h = absurd (cc)

-- one item more that stands so to none
pub no_two-push : {A : Type 0} (so : A → A → Bool) (xs : List A) (x : A) → no_two so xs ≡ true
    → not (list_any (so x) xs) ≡ true
    → no_two so (xs ++ x ∷ []) ≡ true
unfolding no_two
no_two-push so [] x h t = refl
no_two-push so (y ∷ ys) x h t =
    let (here, rest) = and_parts (list_all (λ other. not (so other y)) ys) (no_two so ys) h in
    let (apart, more) = neither (so x y) (list_any (so x) ys) t in
    and_from _ _
    (list_all-append (λ other. not (so other y)) ys (x ∷ [])
    ∙ and_from _ _ here (and_from _ _ apart refl))
    (no_two-push so ys x rest more)

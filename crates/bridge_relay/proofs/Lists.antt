-- Lists that grow at their end, and searches.
use Rattle.std.proofs.Common.{Some, ◌≡◌, ◌⊎◌, Bool, true, cond, List, [], ◌∷◌, ◌++◌}
use Rattle.std.proofs.Common.{refl, sym, ap, subst, ◌∙◌, inl, inr, drop}
use Rattle.std.proofs.lemmas.Bool.{cases_Bool}
use Rattle.std.specs.List.{find, AllByRecursion}

-- an entry of a list with one more is the last, or stands in the list
pub split_last : {A : Type 0} (xs : List A) (x : A) (before after : List A) (entry : A)
    → xs ++ x ∷ [] ≡ before ++ entry ∷ after
    → ((before ≡ xs) × (entry ≡ x)) ⊎ ((rest : List A) × (xs ≡ before ++ entry ∷ rest))
split_last [] x [] after entry is = inl (refl, cc)
split_last [] x (b ∷ []) after entry is = absurd cc
split_last [] x (b ∷ d ∷ before) after entry is = absurd cc
split_last (y ∷ xs) x [] after entry is =
    let head : y ≡ entry = cc in
    inr (xs, ap (λ e. e ∷ xs) head)
split_last (y ∷ xs) x (b ∷ before) after entry is =
    let head : y ≡ b = cc in
    let tail : xs ++ x ∷ [] ≡ before ++ entry ∷ after = cc in
    elim (split_last xs x before after entry tail) [
      | inl p ↦ inl (ap (λ e. e ∷ before) (sym head) ∙ ap (λ l. y ∷ l) p.0, p.1)
      | inr q ↦ inr (q.0, ap (λ l. y ∷ l) q.1 ∙ ap (λ e. e ∷ (before ++ entry ∷ q.0)) head)
    ]

-- no entry stands in an empty list
pub nothing_in : {A : Type 0} (before after : List A) (entry : A) → [] ≡ before ++ entry ∷ after → ⊥
nothing_in [] after entry is = cc
nothing_in (x ∷ before) after entry is = cc

-- what each item has, it has behind one more, and without the first
pub all_push : {A : Type 0} (P : A → Type 0) (xs : List A) (x : A) → AllByRecursion P xs → P x
    → AllByRecursion P (xs ++ x ∷ [])
all_push P [] y all has = (has, tt)
all_push P (x ∷ xs) y all has = (all.0, all_push P xs y all.1 has)

pub all_behind : {A : Type 0} (P : A → Type 0) (xs : List A) → AllByRecursion P xs
    → AllByRecursion P (drop 1 xs)
all_behind P [] all = tt
all_behind P (x ∷ xs) all = all.1

-- what is found passes the test, and has what each item has
pub found : {A : Type 0} (P : A → Type 0) (test : A → Bool) (xs : List A) (x : A)
    → AllByRecursion P xs → find test xs ≡ Some x
    → (test x ≡ true) × P x
found P test [] x all is = absurd cc
found P test (y ∷ xs) x all is = elim (cases_Bool (test y)) [
  | inl passes ↦
      let first : Some y ≡ Some x = sym (ap (λ b. cond b (Some y) (find test xs)) passes) ∙ is in
      let same : y ≡ x = cc in
      (subst (λ z. test z ≡ true) same passes, subst P same all.0)
  | inr fails ↦ found P test xs x all.1 (sym (ap (λ b. cond b (Some y) (find test xs)) fails) ∙ is)
]

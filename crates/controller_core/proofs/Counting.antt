-- Lists that are gone through by number, from 1 on.
use Rattle.std.proofs.Common.{◌≡◌, ◌≤◌, ◌<◌, ◌==◌, ℕ, suc, ◌+◌, ◌-◌, false, List, [], ◌∷◌, ◌++◌}
use Rattle.std.proofs.Common.{length, get_or, take, Option, Some, None, inl, inr, refl, sym, ap}
use Rattle.std.proofs.Common.{◌∙◌, arith}
use Rattle.std.specs.Prelude.{if◌then◌else◌}
use Rattle.std.specs.List.{filter_map, slice_get}
use Rattle.std.proofs.lemmas.Option.{slice_get_within, slice_get_cases, slice_get-get_or, none-some}
use Rattle.std.proofs.Math.Seq.{take-suc}
use Rattle.std.proofs.lemmas.List.{take_all}

-- the item of a number, which is there
pub record IsNext {X : Type 0} (xs : List X) (next : ℕ) (x : X) : Type 0 where
  pub within : next - 1 < length xs
  pub more : take (next + 1 - 1) xs ≡ take (next - 1) xs ++ x ∷ []

numbered : {X : Type 0} (xs : List X) (next : ℕ) (found : Option X) → 1 ≤ next
    → found ≡ (if next == 0 then None else slice_get xs (next - 1))
    → found ≡ slice_get xs (next - 1)
numbered xs next found from is =
    let not : (next == 0) ≡ false = grind arith in
    is ∙ ap (λ b. if b then None else slice_get xs (next - 1)) not

pub next_item : {X : Type 0} (xs : List X) (next : ℕ) (x : X) → 1 ≤ next
    → Some x ≡ (if next == 0 then None else slice_get xs (next - 1)) → IsNext xs next x
next_item {X} xs next x from is =
    let found = sym (numbered xs next (Some x) from is) in
    let within = slice_get_within xs (next - 1) x found in
    let item : get_or xs (next - 1) x ≡ x =
    let got = slice_get-get_or xs (next - 1) x within in cc in
    record {
      within = within;
      more = (let same : next + 1 - 1 ≡ suc (next - 1) = omega arith in ap (λ n. take n xs) same)
          ∙ take-suc xs (next - 1) x
          within ∙ ap (λ (y : X). take (next - 1) xs ++ y ∷ []) item;
    }

pub no_item : {X : Type 0} (xs : List X) (next : ℕ) → 1 ≤ next
    → None ≡ (if next == 0 then None else slice_get xs (next - 1)) → take (next - 1) xs ≡ xs
no_item xs next from is =
    let found = numbered xs next None from is in
    elim (slice_get_cases xs (next - 1)).1 [
      | inl there ↦ absurd (none-some there.0 (found ∙ there.2))
      | inr past ↦ take_all (next - 1) xs past.0
    ]

-- what is picked from a list is no longer
pub length-filter_map : {X Y : Type 0} (pick : X → Option Y) (xs : List X)
    → length (filter_map pick xs) ≤ length xs
length-filter_map pick [] = omega arith
length-filter_map {X} {Y} pick (x ∷ xs) = kept (pick x) refl (length-filter_map pick xs)
  where
    kept : (picked : Option Y) → pick x ≡ picked → length (filter_map pick xs) ≤ length xs
        → length (filter_map pick (x ∷ xs)) ≤ length (x ∷ xs)
    kept None is h = grind (arith, is)
    kept (Some y) is h = grind (arith, is)

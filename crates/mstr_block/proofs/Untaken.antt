-- The first of the started calls, and the place of its block.
use Rattle.std.proofs.Common.{◌≡◌, ℕ, ◌<◌, ◌≤◌, Bool, true, false, cond, List, [], ◌∷◌, length}
use Rattle.std.proofs.Common.{get_or, Option, Some, None, is_some, refl, sym, ap, ◌∙◌, arith}
use Rattle.std.proofs.Common.{inl, inr}
use Rattle.std.specs.Prelude.{nat_lt, option_and_then}
use Rattle.std.specs.List.{filter_map, cons_option, find, slice_get, position, position_or_len}
use Rattle.std.proofs.lemmas.Bool.Decides.{nat_tests}
use Rattle.std.proofs.lemmas.List.Folds.{find_at}
use Rattle.std.proofs.lemmas.Option.{slice_get-get_or, slice_get_cases}
use Rattle.mstr_block.specs.declared.state.BlockState.{BlockState}
use Rattle.mstr_block.specs.Table.{BlockTable, untaken, is_untaken, started_calls}

-- the first that a test gives something at begins the list of all that it gives
head-step : {X Y : Type 0} (h : X → Option Y) (x : X) (rest : List Y) (found : Option X)
    (o : Option Y) → o ≡ h x
    → slice_get rest 0 ≡ option_and_then h found
    → slice_get (cons_option o rest) 0 ≡ option_and_then h (cond (is_some o) (Some x) found)
head-step h x rest found None e ih = ih
head-step h x rest found (Some y) e ih = e

head_found : {X Y : Type 0} (h : X → Option Y) (xs : List X)
    → slice_get (filter_map h xs) 0 ≡ option_and_then h (find (λ x. is_some (h x)) xs)
head_found h [] = refl
head_found h (x ∷ xs) = head-step h x (filter_map h xs) (find (λ y. is_some (h y)) xs) (h x) refl
    (head_found h xs)

-- behind the end stands nothing
past : {X : Type 0} (xs : List X) (k : ℕ) → length xs ≤ k → slice_get xs k ≡ None
past xs k h = elim ((slice_get_cases xs k).1)
    [ inl w ↦ absurd (let within = w.1 in omega arith) | inr w ↦ w.1 ]

-- what a test gives at a place, if the place is within
at_place : {X Y : Type 0} (h : X → Option Y) (xs : List X) (d : X) (k : ℕ) (b : Bool)
    → nat_lt k (length xs) ≡ b
    → option_and_then h (slice_get xs k)
    ≡ option_and_then (λ i. h (get_or xs i d)) (cond b (Some k) None)
at_place h xs d k true e =
    let within : k < length xs = grind (arith, nat_tests) in
    ap (option_and_then h) (slice_get-get_or xs k d within)
at_place h xs d k false e =
    let behind : length xs ≤ k = grind (arith, nat_tests) in
    ap (option_and_then h) (past xs k behind)

-- so it is what the block at the first place gives
pub head_at : {X Y : Type 0} (h : X → Option Y) (xs : List X) (d : X)
    → slice_get (filter_map h xs) 0
    ≡ option_and_then (λ i. h (get_or xs i d)) (position (λ x. is_some (h x)) xs)
head_at h xs d =
    let test : _ → Bool = λ x. is_some (h x) in
    head_found h xs ∙ ap (option_and_then h) (find_at test xs)
    ∙ at_place h xs d (position_or_len test xs) (nat_lt (position_or_len test xs) (length xs)) refl

-- the first of the started calls is that of the first block that has one
pub first_started : (table : BlockTable) (d : BlockState) (place : Option ℕ)
    → place ≡ position is_untaken table.blocks
    → slice_get (started_calls table) 0
    ≡ option_and_then (λ k. untaken (get_or table.blocks k d)) place
first_started table d place e = head_at untaken table.blocks d
    ∙ ap (option_and_then (λ k. untaken (get_or table.blocks k d))) (sym e)

-- Coils that are counted one after another.
use Rattle.std.proofs.Common.{◌≡◌, ◌<◌, ℕ, suc, ◌+◌, ◌-◌, Bool, cond, List, ◌∷◌}
use Rattle.std.proofs.Common.{ap, ◌∙◌, arith, map}
use Rattle.std.specs.List.{count_by, range_with_len}
use Rattle.std.proofs.lemmas.List.Sums.{sum_by-cons}
use Rattle.plant_types.specs.declared.reference.Ref.{Ref}
use Rattle.plant_types.specs.Reference.{coil_at}

-- the coils from a place on
abbrev pub coils_left : ℕ → ℕ → List Ref
coils_left at most = map coil_at (range_with_len (at + 1) (most - at))

-- one coil more
pub coil_step : (p : Ref → Bool) (at most on next total : ℕ) → at < most
    → on + count_by p (coils_left at most) ≡ total → next ≡ on + cond (p (coil_at (at + 1))) 1 0
    → next + count_by p (coils_left (at + 1) most) ≡ total
coil_step p at most on next total within so_far counted =
    let here = coil_at (at + 1) in
    let behind = coils_left (at + 1) most in
    let left : most - at ≡ suc (most - (at + 1)) = omega arith in
    let cut : coils_left at most ≡ here ∷ behind =
    ap (λ n. map coil_at (range_with_len (at + 1) n)) left in
    let count : count_by p (coils_left at most) ≡ cond (p here) 1 0 + count_by p behind =
    ap (count_by p) cut ∙ sum_by-cons (λ x. cond (p x) 1 0) here behind in
    omega (arith, so_far, counted, count)

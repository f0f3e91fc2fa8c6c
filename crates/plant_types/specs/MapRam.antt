-- The code by which a proof tells two contents apart, and how a plain store is filled.
use Rattle.std.specs.Prelude.{◌≡◌, ℕ, zero, suc, refl, ◌++◌}
use Rattle.std.specs.Coded.{Coded, code_by, coded×, coded_ℕ}
use Rattle.std.specs.FinMap.{code, from_entries}
use Rattle.std.specs.BTreeMap.{BTreeMap}
use Rattle.plant_types.specs.declared.reference.RefKind.{RefKind}
use Rattle.plant_types.specs.declared.reference.RefKind.TheVariants.{Coil, Input, InputRegister}
use Rattle.plant_types.specs.declared.reference.RefKind.TheVariants.{Register}
use Rattle.plant_types.specs.declared.reference.Ref.{Ref}
use Rattle.plant_types.specs.Reference.{rank_of, ref_cmp}
use Rattle.plant_types.specs.Sizes.{zeros}
use Rattle.plant_types.specs.Store.{Contents}

-- The kind at a place in the order of the kinds. This project's own.
abbrev pub kind_of_rank : ℕ → RefKind
kind_of_rank zero = Coil
kind_of_rank (suc zero) = Input
kind_of_rank (suc (suc zero)) = InputRegister
kind_of_rank (suc (suc (suc n))) = Register

-- A kind stands at its own place.
pub kind_again : (kind : RefKind) → kind_of_rank (rank_of kind) ≡ kind
kind_again Coil = refl
kind_again Input = refl
kind_again InputRegister = refl
kind_again Register = refl

-- A reference is its place among the kinds and its number.
pub ref_again : (at : Ref)
    → record { kind = kind_of_rank (rank_of at.kind); number = at.number } ≡ at
ref_again at i = record { kind = kind_again at.kind i; number = at.number }

-- References as pairs of numbers. This project's own.
abbrev pub coded_ref : Coded Ref
coded_ref =
    code_by (ℕ × ℕ) (coded× coded_ℕ coded_ℕ) (λ r. (rank_of r.kind, r.number))
    (λ p. record { kind = kind_of_rank p.0; number = p.1 }) ref_again

-- Contents as lists of numbers. This project's own.
abbrev pub coded_contents : Coded Contents
coded_contents = code coded_ref coded_ℕ

-- The map gains the references of a kind from 1 to a number, each 0. This project's own.
abbrev pub AddsZeros : RefKind → ℕ → BTreeMap Ref ℕ → BTreeMap Ref ℕ → Type 0
AddsZeros kind count old new =
    from_entries {R = ref_cmp} new.entries ≡ from_entries (zeros kind count ++ old.entries)

-- References of a controller: their kinds, order and texts.
use Rattle.std.specs.Prelude.{ℕ, ◌+◌, ◌/◌, ◌%◌, Bool, true, false, List, ◌++◌}
use Rattle.std.specs.Fmt.{decimal}
use Rattle.std.specs.Ordering.{nat_cmp, ordering_then}
use Rattle.std.specs.declared.cmp.Ordering.{Ordering}
use Rattle.plant_types.specs.declared.reference.RefKind.{RefKind}
use Rattle.plant_types.specs.declared.reference.RefKind.TheVariants.{Coil, Input, InputRegister}
use Rattle.plant_types.specs.declared.reference.RefKind.TheVariants.{Register}
use Rattle.plant_types.specs.declared.reference.Ref.{Ref}

-- The most references of a kind. This project's own.
abbrev pub most_references : ℕ
most_references = 9984

-- The place of a kind in the order of the kinds. This project's own.
abbrev pub rank_of : RefKind → ℕ
rank_of Coil = 0
rank_of Input = 1
rank_of InputRegister = 2
rank_of Register = 3

-- Coils and inputs are discretes: they are on or off. Modicon Ladder Logic Block Library User
-- Guide.
abbrev pub is_discrete : RefKind → Bool
is_discrete Coil = true
is_discrete Input = true
is_discrete _ = false

-- A coil. Modicon Ladder Logic Block Library User Guide.
abbrev pub is_coil : RefKind → Bool
is_coil Coil = true
is_coil _ = false

-- Input registers and holding registers have numbers. Modicon Ladder Logic Block Library User
-- Guide.
abbrev pub is_register : RefKind → Bool
is_register InputRegister = true
is_register Register = true
is_register _ = false

-- Holding registers alone can be stored in. Modicon Ladder Logic Block Library User Guide.
abbrev pub is_holding : RefKind → Bool
is_holding Register = true
is_holding _ = false

-- The coil of a number. Modicon Ladder Logic Block Library User Guide.
abbrev pub coil_at : ℕ → Ref
coil_at number = record { kind = Coil; number = number }

-- By kind, and then by number. This project's own.
abbrev pub ref_cmp : Ref → Ref → Ordering
ref_cmp a b = ordering_then (nat_cmp (rank_of a.kind) (rank_of b.kind)) (nat_cmp a.number b.number)

-- The references of a kind, and the one that stands count places on. Modicon Ladder Logic Block
-- Library User Guide.
abbrev pub ref_from : Ref → ℕ → Ref
ref_from at count = record { kind = at.kind; number = at.number + count }

-- The first digit of a reference tells its kind. Modicon Ladder Logic Block Library User Guide.
abbrev pub leading_digit : RefKind → ℕ
leading_digit Coil = 0
leading_digit Input = 1
leading_digit InputRegister = 3
leading_digit Register = 4

-- The four decimal digits of a number below 10,000. This project's own.
abbrev pub four_digits : ℕ → List ℕ
four_digits n =
    decimal (n / 1000) ++ decimal (n / 100 % 10) ++ decimal (n / 10 % 10) ++ decimal (n % 10)

-- The text of a reference: the digit of its kind, then the four of its number. Modicon Ladder
-- Logic Block Library User Guide.
abbrev pub reference_text : Ref → List ℕ
reference_text at = decimal (leading_digit at.kind) ++ four_digits at.number

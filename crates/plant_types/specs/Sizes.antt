-- How many references of each kind a controller has, and its store when it starts.
use Rattle.std.specs.Prelude.{◌≡◌, ℕ, zero, suc, ◌+◌, Bool, ◌&&◌, nat_le, List, [], ◌∷◌, ◌++◌, Some}
use Rattle.std.specs.Prelude.{None, if◌then◌else◌}
use Rattle.std.specs.FinMap.{get, from_entries, retain_keys}
use Rattle.plant_types.specs.declared.reference.RefKind.{RefKind}
use Rattle.plant_types.specs.declared.reference.RefKind.TheVariants.{Coil, Input, InputRegister}
use Rattle.plant_types.specs.declared.reference.RefKind.TheVariants.{Register}
use Rattle.plant_types.specs.declared.reference.Ref.{Ref}
use Rattle.plant_types.specs.declared.sizes.Sizes as declared
use Rattle.plant_types.specs.Store.{Contents, Keeps, part_within}

-- How many references of each kind there are. This project's own.
abbrev pub Sizes : Type 0
Sizes = declared.Sizes

-- The sizes of a map, kind by kind. This project's own.
abbrev pub sizes_from : ℕ → ℕ → ℕ → ℕ → Sizes
sizes_from coils inputs input_registers registers = record {
  coils = coils;
  inputs = inputs;
  input_registers = input_registers;
  registers = registers;
}

-- How many of a kind there are. This project's own.
abbrev pub count_of : Sizes → RefKind → ℕ
count_of sizes Coil = sizes.coils
count_of sizes Input = sizes.inputs
count_of sizes InputRegister = sizes.input_registers
count_of sizes Register = sizes.registers

-- A reference of a map of these sizes: its number counts from 1. This project's own.
abbrev pub has_reference : Sizes → Ref → Bool
has_reference sizes at = nat_le 1 at.number && nat_le at.number (count_of sizes at.kind)

-- So many references from one on are in a map of these sizes. This project's own.
abbrev pub has_run : Sizes → Ref → ℕ → Bool
has_run sizes at count =
    nat_le 1 at.number && nat_le (at.number + count) (count_of sizes at.kind + 1)

-- The sizes of a map that has these discretes and no registers. This project's own.
abbrev pub discretes_of : Sizes → Sizes
discretes_of sizes = record sizes { input_registers = 0; registers = 0 }

-- The references of a kind from 1 to a number, each 0. This project's own.
abbrev pub zeros : RefKind → ℕ → List (Ref × ℕ)
zeros kind zero = []
zeros kind (suc count) = (record { kind = kind; number = suc count }, 0) ∷ zeros kind count

-- All references of a map of these sizes, each 0. This project's own.
abbrev pub cleared : Sizes → Contents
cleared sizes =
    from_entries (zeros Coil sizes.coils ++ (zeros Input sizes.inputs
    ++ (zeros InputRegister sizes.input_registers ++ zeros Register sizes.registers)))

-- A store when it starts has the references of its sizes, each 0, and no others. This project's
-- own.
abbrev pub StartsCleared : Type 0
StartsCleared =
    (sizes : Sizes) (at : Ref) → get (cleared sizes) at
    ≡ (if has_reference sizes at then Some 0 else None)

-- The coils and inputs of a map of these sizes, with the numbers that a store has there. This
-- project's own.
abbrev pub discretes : Sizes → Contents → Contents
discretes sizes m = retain_keys m (has_reference (discretes_of sizes))

-- What holds of the discretes of stores that have all references of their sizes: those of a
-- fresh store are a fresh store of discretes; a copy that takes its numbers from another such
-- store becomes that store's, and can always be taken. This project's own.
pub record DiscretesFollow : Type 0 where
  pub fresh : (sizes : Sizes) → discretes sizes (cleared sizes) ≡ cleared (discretes_of sizes)
  pub copied :
      (sizes : Sizes) (m n : Contents) → Keeps (cleared sizes) m → part_within (discretes sizes m) n
      ≡ discretes sizes n
  pub held :
      (sizes : Sizes) (m n : Contents) → Keeps (cleared sizes) n → Keeps (discretes sizes m) n
  pub kept : (sizes : Sizes) (m : Contents) → Keeps (cleared sizes) m
      → Keeps (cleared (discretes_of sizes)) (discretes sizes m)

-- Runs of references of a map, and what they hold.
use Rattle.std.specs.Prelude.{◌≡◌, ℕ, zero, suc, ◌+◌, ◌<◌, ◌≤◌, Bool, true, ◌&&◌, nat_le}
use Rattle.std.specs.FinMap.{contains_key}
use Rattle.plant_types.specs.declared.reference.Ref.{Ref}
use Rattle.plant_types.specs.declared.reference.RefKind.{RefKind}
use Rattle.plant_types.specs.Reference.{ref_from}
use Rattle.plant_types.specs.Store.{Contents}

-- The reference of a kind at an address: address 0 is number 1.
-- Modicon Modbus Protocol Reference Guide.
abbrev pub reference_at : RefKind → ℕ → Ref
reference_at kind address = record { kind = kind; number = address + 1 }

-- The largest number that a reference can have. This project's own.
abbrev pub largest_number : ℕ
largest_number = 65535

-- A reference of the map. This project's own.
abbrev pub is_in_map : Contents → Ref → Bool
is_in_map m at = nat_le at.number largest_number && contains_key m at

-- Whether so many references from one on are all of the map. This project's own.
unfoldable pub are_in_map : Contents → Ref → ℕ → Bool
are_in_map m at zero = true
are_in_map m at (suc count) = is_in_map m at && are_in_map m (ref_from at 1) count

-- Each of so many references from one on is of the map. This project's own.
pub record HasReferences (m : Contents) (at : Ref) (count : ℕ) : Type 0 where
  pub fits : (place : ℕ) → place < count → at.number + place ≤ largest_number
  pub held : (place : ℕ) → place < count → contains_key m (ref_from at place) ≡ true

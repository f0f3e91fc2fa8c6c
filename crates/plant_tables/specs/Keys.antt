-- What the values at the keys of a table are read as, and their faults. This project's own.
use Rattle.std.specs.Prelude.{codes, ℕ, ◌≤◌, ◌%◌, ℤ, pos, negsuc, Bool, true, ◌&&◌, ◌==◌, nat_le}
use Rattle.std.specs.Prelude.{is_some, if◌then◌else◌, List, [], ◌∷◌, length, Option, Some, None}
use Rattle.std.specs.Prelude.{Result, Ok, Err}
use Rattle.std.specs.List.{list_all, list_any}
use Rattle.std.specs.Str.{bytes_eq}
use Rattle.toml.specs.Data.{Data, Items, no_items, item, Members, no_members, member, get_member}
use Rattle.toml.specs.Data.{as_array, as_integer, as_str, as_table}
use Rattle.plant_types.specs.declared.fault.PlantFault.{PlantFault}
use Rattle.plant_types.specs.declared.fault.PlantFault.TheVariants.{BadKey, BadValue, BadNode}
use Rattle.plant_types.specs.declared.fault.PlantFault.TheVariants.{TooLarge}
use Rattle.plant_types.specs.declared.fault.Place.{Place}
use Rattle.plant_types.specs.Limits.{most_address}
use Rattle.plant_types.specs.Reference.{most_references}
use Rattle.cell_text.specs.Steps.{◌>>=◌, or_fault, unless}
use Rattle.plant_tables.specs.Refusals.{Refusal}
use Rattle.plant_tables.specs.InOrder.{each_of}

-- Every key of a table is one of these.
abbrev pub has_only : List (List ℕ) → Members → Bool
has_only keys no_members = true
has_only keys (member k d ms) = list_any (λ key. bytes_eq key k) keys && has_only keys ms

-- A table has each of these keys.
abbrev pub has_each : List (List ℕ) → Members → Bool
has_each keys ms = list_all (λ key. is_some (get_member key ms)) keys

-- The keys that a table can have, and those that it must have.
pub record KeyTable : Type 0 where
  pub known : List (List ℕ)
  pub required : List (List ℕ)

abbrev pub keys_from : List (List ℕ) → List (List ℕ) → KeyTable
keys_from known required = record { known = known; required = required }

-- A table at a place has no key but those that it can have, and each that it must have.
abbrev pub keys_pass : Place → KeyTable → Members → Result (Unit {0}) Refusal
keys_pass place keys ms =
    unless (has_only keys.known ms && has_each keys.required ms) (BadKey, place)

-- A number is from a lowest to a highest.
abbrev pub InRange : ℕ → ℕ → ℕ → Type 0
InRange low high n = (low ≤ n) × (n ≤ high)

-- A whole number from a lowest to a highest.
abbrev pub number_from : ℕ → ℕ → ℤ → Option ℕ
number_from low high (pos n) = if nat_le low n && nat_le n high then Some n else None
number_from low high (negsuc n) = None

-- A value that is such a whole number; this is the refusal of another one.
abbrev pub number_within : Place → Refusal → ℕ → ℕ → Data → Result ℕ Refusal
number_within place refusal low high d = do
  number ← or_fault (BadValue, place) (as_integer d)
  or_fault refusal (number_from low high number)

-- The number at a key that must be there; this is the fault of one that is out of range.
unfoldable pub number_at_key : Place → PlantFault → List ℕ → ℕ → ℕ → Members → Result ℕ Refusal
number_at_key place fault key low high ms = do
  d ← or_fault (BadKey, place) (get_member key ms)
  number_within place (fault, place) low high d

-- The address of a node, 1 to 64.
abbrev pub address_at : Place → Members → Result ℕ Refusal
address_at place ms = number_at_key place BadNode (codes "node") 1 most_address ms

-- The number of a value, or a default where there is no value.
abbrev pub number_or : Place → ℕ → ℕ → ℕ → Option Data → Result ℕ Refusal
number_or place default low high None = Ok default
number_or place default low high (Some d) = number_within place (BadValue, place) low high d

-- The number at a key, or a default where the key is not there.
abbrev pub number_at_or : Place → List ℕ → ℕ → ℕ → ℕ → Members → Result ℕ Refusal
number_at_or place key default low high ms = number_or place default low high (get_member key ms)

-- A number of references, 0 where its key is not there.
abbrev pub size_at : Place → List ℕ → Members → Result ℕ Refusal
size_at place key ms = number_at_or place key 0 0 most_references ms

-- Discretes come in sixteens.
abbrev pub in_sixteens : Place → ℕ → Result ℕ Refusal
in_sixteens place size = if size % 16 == 0 then Ok size else Err (BadValue, place)

-- A number of discretes, 0 where its key is not there.
abbrev pub discrete_size_at : Place → List ℕ → Members → Result ℕ Refusal
discrete_size_at place key ms = size_at place key ms >>= in_sixteens place

-- The items of an array as a list.
abbrev pub data_of : Items → List Data
data_of no_items = []
data_of (item d ds) = d ∷ data_of ds

-- The items of an array, each of one type.
abbrev pub items_as : {A : Type 0} → (Data → Option A) → Place → Items → Result (List A) Refusal
items_as typed place ds = each_of (λ d. or_fault (BadValue, place) (typed d)) (data_of ds)

-- The array at a key, where the key is there.
abbrev pub array_or_none : Place → Option Data → Result (Option Items) Refusal
array_or_none place None = Ok None
array_or_none place (Some d) = or_fault (BadValue, place) (as_array d) >>= λ ds. Ok (Some ds)

abbrev pub array_at : Place → List ℕ → Members → Result (Option Items) Refusal
array_at place key ms = array_or_none place (get_member key ms)

-- An array has so many items at most.
abbrev pub are_few : Place → ℕ → ℕ → Result (Unit {0}) Refusal
are_few place most count = unless (nat_le count most) (TooLarge, place)

-- The items of an array, each of one type and so many at most; none where there is no array.
abbrev pub list_in : {A : Type 0}
    → (Data → Option A) → Place → ℕ → Option Items → Result (List A) Refusal
list_in typed place most None = Ok []
list_in typed place most (Some ds) = do
  xs ← items_as typed place ds
  few ← are_few place most (length xs)
  Ok xs

-- The texts of the array at a key, and the tables of one.
abbrev pub texts_at : Place → ℕ → List ℕ → Members → Result (List (List ℕ)) Refusal
texts_at place most key ms = array_at place key ms >>= list_in as_str place most

abbrev pub tables_at : Place → ℕ → List ℕ → Members → Result (List Members) Refusal
tables_at place most key ms = array_at place key ms >>= list_in as_table place most

-- The table at a key, where the key is there.
abbrev pub table_or_none : Place → Option Data → Result (Option Members) Refusal
table_or_none place None = Ok None
table_or_none place (Some d) = or_fault (BadValue, place) (as_table d) >>= λ ms. Ok (Some ms)

abbrev pub table_at : Place → List ℕ → Members → Result (Option Members) Refusal
table_at place key ms = table_or_none place (get_member key ms)

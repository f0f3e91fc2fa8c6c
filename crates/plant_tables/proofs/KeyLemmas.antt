-- Numbers that are read are within their limits.
use Rattle.std.proofs.Common.{◌≡◌, ◌≤◌, ℕ, Bool, true, false, ◌&&◌, List, [], length, Option, Some}
use Rattle.std.proofs.Common.{None, Ok, Err, refl, arith, le-leb}
use Rattle.std.specs.Prelude.{codes, ℤ, pos, negsuc, nat_le, ◌%◌, ◌==◌, if◌then◌else◌}
use Rattle.std.proofs.lemmas.Bool.{and_parts, and_from, leb-true}
use Rattle.toml.specs.Data.{Data, Items, Members, as_integer, as_str, as_table, get_member}
use Rattle.plant_types.specs.declared.fault.PlantFault.{PlantFault}
use Rattle.plant_types.specs.declared.fault.PlantFault.TheVariants.{BadKey, BadValue, BadNode}
use Rattle.plant_types.specs.declared.fault.PlantFault.TheVariants.{TooLarge}
use Rattle.plant_types.specs.declared.fault.Place.{Place}
use Rattle.plant_types.specs.Reference.{most_references}
use Rattle.plant_types.specs.Checks.{is_size, is_discrete_size}
use Rattle.cell_text.specs.Steps.{or_fault}
use Rattle.cell_text.proofs.StepLemmas.{step-ok, or_fault-some, some-guard, unless-ok}
use Rattle.plant_tables.specs.Refusals.{Refusal}
use Rattle.plant_tables.proofs.Common.{ok_value, some_value}
use Rattle.plant_tables.specs.Keys.{number_from, number_within, number_at_key, number_or}
use Rattle.plant_tables.specs.Keys.{address_at, size_at, in_sixteens, discrete_size_at, items_as}
use Rattle.plant_tables.specs.Keys.{array_at, list_in, texts_at, tables_at}

-- a number that is taken is within its limits
pub number_from-within : (low high : ℕ) (z : ℤ) (n : ℕ) → number_from low high z ≡ Some n
    → (low ≤ n) × (n ≤ high)
number_from-within low high (pos m) n h =
    let found = some-guard (nat_le low m && nat_le m high) (Some m) n h in
    let same : m ≡ n = some_value m n found.1 in
    let tests = and_parts (nat_le low m) (nat_le m high) found.0 in
    rw (← same) (leb-true low m tests.0, leb-true m high tests.1)
number_from-within low high (negsuc m) n h = cc

-- so is one that a value is read as
pub number_within-within : (place : Place) (refusal : Refusal) (low high : ℕ) (d : Data) (n : ℕ)
    → number_within place refusal low high d ≡ Ok n → (low ≤ n) × (n ≤ high)
number_within-within place refusal low high d n h =
    let number = step-ok (or_fault (BadValue, place) (as_integer d))
    (λ number. or_fault refusal (number_from low high number)) n h in
    number_from-within low high number.0 n
    (or_fault-some refusal (number_from low high number.0) n number.1.1)

-- so is the number at a key
pub number_at_key-within : (place : Place) (fault : PlantFault) (key : List ℕ) (low high : ℕ)
    (ms : Members) (n : ℕ)
    → number_at_key place fault key low high ms ≡ Ok n → (low ≤ n) × (n ≤ high)
unfolding number_at_key
number_at_key-within place fault key low high ms n h =
    let value = step-ok (or_fault (BadKey, place) (get_member key ms))
    (number_within place (fault, place) low high) n h in
    number_within-within place (fault, place) low high value.0 n value.1.1

-- an address is within its limits
pub address_at-within : (place : Place) (ms : Members) (n : ℕ) → address_at place ms ≡ Ok n
    → (1 ≤ n) × (n ≤ 64)
address_at-within place ms n h = number_at_key-within place BadNode (codes "node") 1 64 ms n h

-- a default that is within, or a number at a key
pub number_or-within : (place : Place) (default low high : ℕ) (d : Option Data) (n : ℕ)
    → low ≤ default → default ≤ high
    → number_or place default low high d ≡ Ok n → (low ≤ n) × (n ≤ high)
number_or-within place default low high None n least most h =
    let same : default ≡ n = ok_value default n h in rw (← same) (least, most)
number_or-within place default low high (Some d) n least most h =
    number_within-within place (BadValue, place) low high d n h

-- a number of references that is taken is a size
pub size_at-is_size : (place : Place) (key : List ℕ) (ms : Members) (n : ℕ)
    → size_at place key ms ≡ Ok n → is_size n ≡ true
size_at-is_size place key ms n h =
    let within = number_or-within place 0 0 most_references (get_member key ms) n (omega arith)
    (omega arith) h in
    le-leb n most_references within.1

-- a number of discretes that is taken comes in sixteens
in_sixteens-ok : (b : Bool) (refusal : Refusal) (size n : ℕ)
    → (if b then Ok size else Err refusal) ≡ Ok n → (b ≡ true) × (size ≡ n)
in_sixteens-ok true refusal size n h = (refl, ok_value size n h)
in_sixteens-ok false refusal size n h = cc

pub discrete_size_at-is_discrete_size : (place : Place) (key : List ℕ) (ms : Members) (n : ℕ)
    → discrete_size_at place key ms ≡ Ok n → is_discrete_size n ≡ true
discrete_size_at-is_discrete_size place key ms n h =
    let size = step-ok (size_at place key ms) (in_sixteens place) n h in
    let whole = in_sixteens-ok (size.0 % 16 == 0) (BadValue, place) size.0 n size.1.1 in
    rw (← whole.1) (and_from _ _ (size_at-is_size place key ms size.0 size.1.0) whole.0)

-- what is taken of an array is no more than the most
list_in-few : {A : Type 0} (typed : Data → Option A) (place : Place) (most : ℕ)
    (ds : Option Items) (ys : List A)
    → list_in typed place most ds ≡ Ok ys → length ys ≤ most
list_in-few typed place most None ys h =
    let same : [] ≡ ys = ok_value [] ys h in rw (← same) (omega arith)
list_in-few typed place most (Some ds) ys h =
    let xs = step-ok (items_as typed place ds) _ ys h in
    let few = unless-ok (nat_le (length xs.0) most) (TooLarge, place) (λ few. Ok xs.0) ys xs.1.1 in
    let same : xs.0 ≡ ys = ok_value xs.0 ys few.1 in
    rw (← same) (leb-true (length xs.0) most few.0)

pub texts_at-few : (place : Place) (most : ℕ) (key : List ℕ) (ms : Members) (texts : List (List ℕ))
    → texts_at place most key ms ≡ Ok texts → length texts ≤ most
texts_at-few place most key ms texts h =
    let ds = step-ok (array_at place key ms) (list_in as_str place most) texts h in
    list_in-few as_str place most ds.0 texts ds.1.1

pub tables_at-few : (place : Place) (most : ℕ) (key : List ℕ) (ms : Members) (tables : List Members)
    → tables_at place most key ms ≡ Ok tables
    → length tables ≤ most
tables_at-few place most key ms tables h =
    let ds = step-ok (array_at place key ms) (list_in as_table place most) tables h in
    list_in-few as_table place most ds.0 tables ds.1.1

-- Where a plant file is refused, and reading that stops there. This project's own.
use Rattle.std.specs.Prelude.{◌≡◌, ℕ, [], ◌∷◌, Result, Ok, Err}
use Rattle.plant_types.specs.declared.fault.PlantFault.{PlantFault}
use Rattle.plant_types.specs.declared.fault.PlantFault.TheVariants.{BadToml}
use Rattle.plant_types.specs.declared.fault.Part.TheVariants as parts
use Rattle.plant_types.specs.declared.fault.Place.{Place}
use Rattle.plant_tables.specs.declared.refusal.LoadEnd.{LoadEnd}
use Rattle.plant_tables.specs.declared.refusal.LoadEnd.TheVariants as ends

-- A fault and the place that has it.
abbrev pub Refusal : Type 0
Refusal = PlantFault × Place

-- The whole file.
abbrev pub plant_place : Place
plant_place = record { part = parts.Plant; at = 0 ∷ 0 ∷ 0 ∷ 0 ∷ [] }

-- The table of what all networks share, and the table of one network.
abbrev pub net_place : Place
net_place = record { part = parts.Net; at = 0 ∷ 0 ∷ 0 ∷ 0 ∷ [] }

abbrev pub network_place : ℕ → Place
network_place network = record { part = parts.Network; at = network ∷ 0 ∷ 0 ∷ 0 ∷ [] }

-- A host's table, a request of a host, and the text of a bridge.
abbrev pub host_table_place : ℕ → Place
host_table_place host = record { part = parts.Host; at = host ∷ 0 ∷ 0 ∷ 0 ∷ [] }

abbrev pub request_place : ℕ → ℕ → Place
request_place host request =
    record { part = parts.HostRequest; at = host ∷ request ∷ 0 ∷ 0 ∷ [] }

abbrev pub bridge_place : ℕ → Place
bridge_place bridge = record { part = parts.Bridge; at = bridge ∷ 0 ∷ 0 ∷ 0 ∷ [] }

-- The bytes are no document.
abbrev pub bad_toml : Refusal
bad_toml = (BadToml, plant_place)

-- What a call answered is the first fault of what it reads, unless memory was refused.
abbrev pub Stops : {B : Type 0} → LoadEnd → Result B Refusal → Type 0
Stops ends.NoMemory read = Unit {0}
Stops (ends.Refused fault place) read = read ≡ Err (fault, place)

-- What a call answered, seen by a view, is what it reads, or the first fault of that.
abbrev pub Sees : {A B : Type 0} → (A → B) → Result A Refusal → Result B Refusal → Type 0
Sees view (Ok x) read = read ≡ Ok (view x)
Sees view (Err refusal) read = read ≡ Err refusal

-- What a call answered, seen by a view, is what it reads, or the first fault of that, unless
-- memory was refused.
abbrev pub Gives : {A B : Type 0} → (A → B) → Result A LoadEnd → Result B Refusal → Type 0
Gives view (Ok x) read = read ≡ Ok (view x)
Gives view (Err e) read = Stops e read

-- What a call answered is such, unless memory was refused.
abbrev pub Makes : {A : Type 0} → Result A LoadEnd → (A → Type 0) → Type 0
Makes (Ok x) Such = Such x
Makes (Err e) Such = e ≡ ends.NoMemory

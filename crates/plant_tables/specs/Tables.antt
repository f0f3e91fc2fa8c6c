-- The keys of each table of a plant file. This project's own.
use Rattle.std.specs.Prelude.{codes, [], ◌∷◌, Result}
use Rattle.toml.specs.Data.{Members}
use Rattle.plant_types.specs.declared.fault.Place.{Place}
use Rattle.plant_tables.specs.declared.tables.Version.TheVariants.{One, Two}
use Rattle.plant_tables.specs.declared.tables.TableKind.{TableKind}
use Rattle.plant_tables.specs.declared.tables.TableKind.TheVariants as kinds
use Rattle.plant_tables.specs.Refusals.{Refusal}
use Rattle.plant_tables.specs.Keys.{KeyTable, keys_from, keys_pass}

-- The keys that a table can have, and those that it must have, by its kind: one row for each, and
-- one for each version where they differ.
abbrev pub keys_of : TableKind → KeyTable
keys_of (kinds.Plant One) =
    keys_from (codes "version" ∷ codes "scan_time" ∷ codes "watchdog" ∷ codes "net"
    ∷ codes "controller" ∷ codes "host" ∷ [])
    (codes "version" ∷ codes "controller" ∷ [])
keys_of (kinds.Plant Two) =
    keys_from (codes "version" ∷ codes "scan_time" ∷ codes "watchdog" ∷ codes "net"
    ∷ codes "network" ∷ codes "controller" ∷ codes "host" ∷ codes "bridges" ∷ [])
    (codes "version" ∷ codes "network" ∷ codes "controller" ∷ [])
keys_of (kinds.Net One) =
    keys_from (codes "fates" ∷ codes "answer" ∷ codes "rotations" ∷ codes "rounds" ∷ codes "holds"
    ∷ []) []
keys_of (kinds.Net Two) =
    keys_from (codes "answer" ∷ codes "rotations" ∷ codes "rounds" ∷ codes "holds" ∷ []) []
keys_of kinds.Network = keys_from (codes "number" ∷ codes "fates" ∷ []) (codes "number" ∷ [])
keys_of (kinds.Controller One) =
    keys_from (codes "node" ∷ codes "coils" ∷ codes "inputs" ∷ codes "input_registers"
    ∷ codes "registers" ∷ codes "panel" ∷ codes "drop" ∷ codes "segment" ∷ codes "orders"
    ∷ codes "power" ∷ [])
    (codes "node" ∷ [])
keys_of (kinds.Controller Two) =
    keys_from (codes "node" ∷ codes "network" ∷ codes "coils" ∷ codes "inputs"
    ∷ codes "input_registers" ∷ codes "registers" ∷ codes "panel" ∷ codes "drop" ∷ codes "segment"
    ∷ codes "orders" ∷ codes "power" ∷ [])
    (codes "node" ∷ codes "network" ∷ [])
keys_of kinds.Drop =
    keys_from (codes "number" ∷ codes "modules" ∷ codes "script" ∷ [])
    (codes "number" ∷ codes "modules" ∷ [])
keys_of kinds.Segment = keys_from (codes "networks" ∷ []) (codes "networks" ∷ [])
keys_of (kinds.Host One) = keys_from (codes "node" ∷ codes "requests" ∷ []) (codes "node" ∷ [])
keys_of (kinds.Host Two) =
    keys_from (codes "node" ∷ codes "network" ∷ codes "requests" ∷ [])
    (codes "node" ∷ codes "network" ∷ [])

-- A table at a place has no key but those of its kind, and each that it must have.
abbrev pub table_passes : Place → TableKind → Members → Result (Unit {0}) Refusal
table_passes place kind ms = keys_pass place (keys_of kind) ms

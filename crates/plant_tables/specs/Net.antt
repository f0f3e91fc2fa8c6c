-- The networks of a plant: the rules that all share, and the number and the fates of each. This
-- project's own.
use Rattle.std.specs.Prelude.{codes, ℕ, Bool, not, ◌&&◌, ◌==◌, nat_le, if◌then◌else◌, List, []}
use Rattle.std.specs.Prelude.{◌∷◌, length, Option, Some, None, option_and_then, Result, Ok}
use Rattle.std.specs.List.{list_any}
use Rattle.toml.specs.Data.{Data, Members, no_members, get_member, as_integer, as_str}
use Rattle.plant_types.specs.declared.net.Fate.{Fate}
use Rattle.plant_types.specs.declared.net.Fate.TheVariants.{D, L, A}
use Rattle.plant_types.specs.declared.fault.PlantFault.TheVariants.{BadKey, BadValue, BadNetwork}
use Rattle.plant_types.specs.declared.fault.Place.{Place}
use Rattle.plant_types.specs.Limits.{fate_limit, answer_limit, rotation_limit, net_limit}
use Rattle.plant_types.specs.Limits.{round_limit, hold_limit}
use Rattle.cell_text.specs.Steps.{◌>>=◌, or_fault, unless}
use Rattle.plant_tables.specs.declared.net.NetRules.{NetRules}
use Rattle.plant_tables.specs.declared.net.NetTable.{NetTable}
use Rattle.plant_tables.specs.declared.net.Nets.{Nets as FoundNets}
use Rattle.plant_tables.specs.declared.tables.Version.{Version}
use Rattle.plant_tables.specs.declared.tables.Version.TheVariants.{One, Two}
use Rattle.plant_tables.specs.Refusals.{Refusal, net_place, network_place}
use Rattle.plant_tables.specs.declared.tables.TableKind.TheVariants as kinds
use Rattle.plant_tables.specs.Tables.{table_passes}
use Rattle.plant_tables.specs.Keys.{number_from, number_at_key, number_at_or}
use Rattle.plant_tables.specs.InOrder.{with_positions, each_behind, each_of}

-- What becomes of a transmission, by its letter.
abbrev pub fate_of : ℕ → Option Fate
fate_of letter =
    if letter == 68 then Some D
    else if letter == 76 then Some L
    else if letter == 65 then Some A
    else None

abbrev pub fates_in : Place → List ℕ → Result (List Fate) Refusal
fates_in place letters = each_of (λ letter. or_fault (BadValue, place) (fate_of letter)) letters

-- A text has 1 to 1000 letters.
abbrev pub has_letters : List ℕ → Bool
has_letters text = nat_le 1 (length text) && nat_le (length text) fate_limit

-- The fates of a text, or each transmission is delivered where there is none.
unfoldable pub fates_or : Place → Option Data → Result (List Fate) Refusal
fates_or place None = Ok (D ∷ [])
fates_or place (Some d) = do
  text ← or_fault (BadValue, place) (as_str d)
  letters ← unless (has_letters text) (BadValue, place)
  fates_in place text

-- The fates of a network's table.
abbrev pub fates_at : Place → Members → Result (List Fate) Refusal
fates_at place ms = fates_or place (get_member (codes "fates") ms)

-- How every network treats its members, from its parts.
abbrev pub rules_from : ℕ → ℕ → ℕ → ℕ → NetRules
rules_from answer rotations rounds holds =
    record { answer = answer; rotations = rotations; rounds = rounds; holds = holds }

-- The rules of the table of what all networks share, with a default for each key.
unfoldable pub rules_at : Members → Result NetRules Refusal
rules_at ms = do
  answer ← number_at_or net_place (codes "answer") 20 2 answer_limit ms
  rotations ← number_at_or net_place (codes "rotations") 4 1 rotation_limit ms
  rounds ← number_at_or net_place (codes "rounds") 2 1 round_limit ms
  holds ← number_at_or net_place (codes "holds") hold_limit 1 hold_limit ms
  Ok (rules_from answer rotations rounds holds)

-- A network from its parts.
abbrev pub net_table : ℕ → List Fate → NetTable
net_table number fates = record { number = number; fates = fates }

-- One of these networks has this number.
abbrev pub has_net : List NetTable → ℕ → Bool
has_net nets number = list_any (λ net. net.number == number) nets

-- The network of a table behind those before it: its table, then its number, which none before it
-- has.
unfoldable pub net_behind : List NetTable → ℕ × Members → Result NetTable Refusal
net_behind earlier table = do
  place ← Ok (network_place table.0)
  keys ← table_passes place kinds.Network table.1
  number ← number_at_key place BadValue (codes "number") 1 net_limit table.1
  fates ← fates_at place table.1
  fresh ← unless (not (has_net earlier number)) (BadNetwork, place)
  Ok (net_table number fates)

-- The networks of tables, in file order.
abbrev pub net_tables : List Members → Result (List NetTable) Refusal
net_tables tables = each_behind net_behind [] (with_positions tables)

-- The rules of all networks of a plant, and its networks in file order.
pub record Nets : Type 0 where
  pub rules : NetRules
  pub tables : List NetTable

abbrev pub nets_from : NetRules → List NetTable → Nets
nets_from rules tables = record { rules = rules; tables = tables }

abbrev pub read_nets : FoundNets → Nets
read_nets found = nets_from found.rules found.tables.items

-- In version 1 the table has the fates of the one network too, which has no number.
unfoldable pub only_net : Members → Result Nets Refusal
only_net shared = do
  keys ← table_passes net_place (kinds.Net One) shared
  fates ← fates_at net_place shared
  rules ← rules_at shared
  Ok (nets_from rules (net_table 0 fates ∷ []))

-- In version 2 each network has a table of its own.
unfoldable pub numbered_nets : Members → List Members → Result Nets Refusal
numbered_nets shared tables = do
  keys ← table_passes net_place (kinds.Net Two) shared
  rules ← rules_at shared
  nets ← net_tables tables
  Ok (nets_from rules nets)

-- The networks of a plant by the table of what all share and those of each.
abbrev pub nets_in : Version → Members → List Members → Result Nets Refusal
nets_in One shared tables = only_net shared
nets_in Two shared tables = numbered_nets shared tables

-- Without a table of what all share, each of its keys has its default.
abbrev pub nets_of : Version → Option Members → List Members → Result Nets Refusal
nets_of version None tables = nets_in version no_members tables
nets_of version (Some shared) tables = nets_in version shared tables

-- The number of one of these networks.
abbrev pub one_of_nets : List NetTable → ℕ → Option ℕ
one_of_nets nets number = if has_net nets number then Some number else None

-- The network that the table of a station names: any whole number reads, and names a network or
-- none.
unfoldable pub network_named : List NetTable → Place → Members → Result (Option ℕ) Refusal
network_named nets place ms = do
  d ← or_fault (BadKey, place) (get_member (codes "network") ms)
  number ← or_fault (BadValue, place) (as_integer d)
  Ok (option_and_then (one_of_nets nets) (number_from 1 net_limit number))

-- The network of a station: in version 1 the one that there is, which no table names.
abbrev pub network_at : Version → List NetTable → Place → Members
    → Result (Option ℕ) Refusal
network_at One nets place ms = Ok (Some 0)
network_at Two nets place ms = network_named nets place ms

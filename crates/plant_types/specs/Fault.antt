-- The texts of faults and of places.
use Rattle.std.specs.Prelude.{codes, ℕ, List, [], ◌∷◌, ◌++◌, Result, Ok, Err, slice_index_or}
use Rattle.std.specs.Fmt.{decimal}
use Rattle.plant_types.specs.declared.fault.PlantFault.{PlantFault}
use Rattle.plant_types.specs.declared.fault.PlantFault.TheVariants as faults
use Rattle.plant_types.specs.declared.fault.Part.{Part}
use Rattle.plant_types.specs.declared.fault.Part.TheVariants as parts
use Rattle.plant_types.specs.declared.fault.Place.{Place}
use Rattle.plant_types.specs.declared.fault.Behind.{Behind}

-- The number of a fault. This project's own.
abbrev pub fault_number : PlantFault → ℕ
fault_number faults.BadToml = 1
fault_number faults.BadKey = 2
fault_number faults.BadValue = 3
fault_number faults.BadVersion = 4
fault_number faults.BadRef = 5
fault_number faults.BadCell = 6
fault_number faults.BadShape = 7
fault_number faults.CoilTwice = 8
fault_number faults.BadOrder = 9
fault_number faults.BadDrop = 10
fault_number faults.BadScript = 11
fault_number faults.BadNode = 12
fault_number faults.TooLarge = 13
fault_number faults.BadPower = 15
fault_number faults.BadNetwork = 16

-- The name of a fault. This project's own.
abbrev pub fault_name : PlantFault → List ℕ
fault_name faults.BadToml = codes "BadToml"
fault_name faults.BadKey = codes "BadKey"
fault_name faults.BadValue = codes "BadValue"
fault_name faults.BadVersion = codes "BadVersion"
fault_name faults.BadRef = codes "BadRef"
fault_name faults.BadCell = codes "BadCell"
fault_name faults.BadShape = codes "BadShape"
fault_name faults.CoilTwice = codes "CoilTwice"
fault_name faults.BadOrder = codes "BadOrder"
fault_name faults.BadDrop = codes "BadDrop"
fault_name faults.BadScript = codes "BadScript"
fault_name faults.BadNode = codes "BadNode"
fault_name faults.TooLarge = codes "TooLarge"
fault_name faults.BadPower = codes "BadPower"
fault_name faults.BadNetwork = codes "BadNetwork"

-- A fault as its number and its name. This project's own.
abbrev pub fault_text : PlantFault → List ℕ
fault_text fault = decimal (fault_number fault) ++ codes " " ++ fault_name fault

-- The names and numbers behind a controller's, on the way to a place. This project's own.
abbrev pub numbers_behind : Part → ℕ → ℕ → ℕ → List ℕ
numbers_behind parts.Drop j k m = codes " drop " ++ decimal j
numbers_behind parts.Module j k m = codes " drop " ++ decimal j ++ codes " module " ++ decimal k
numbers_behind parts.Script j k m = codes " drop " ++ decimal j ++ codes " script " ++ decimal k
numbers_behind parts.Segment j k m = codes " segment " ++ decimal j
numbers_behind parts.Cell j k m =
    codes " segment " ++ decimal j ++ codes " network " ++ decimal k ++ codes " cell " ++ decimal m
numbers_behind parts.Order j k m = codes " order " ++ decimal j
numbers_behind parts.Power j k m = codes " power " ++ decimal j
numbers_behind parts.Panel j k m = codes " panel " ++ decimal j
numbers_behind part j k m = []

abbrev pub behind_text : Behind → List ℕ
behind_text behind = numbers_behind behind.part behind.second behind.third behind.fourth

-- A place as the names and numbers on the way to it. This project's own.
abbrev pub way_text : Part → ℕ → ℕ → ℕ → ℕ → List ℕ
way_text parts.Plant i j k m = codes "plant"
way_text parts.Net i j k m = codes "net"
way_text parts.Network i j k m = codes "network " ++ decimal i
way_text parts.Bridge i j k m = codes "bridge " ++ decimal i
way_text parts.Host i j k m = codes "host " ++ decimal i
way_text parts.HostRequest i j k m = codes "host " ++ decimal i ++ codes " request " ++ decimal j
way_text part i j k m = codes "controller " ++ decimal i ++ numbers_behind part j k m

-- The number at an index of a place, 0 where there is none. This project's own.
abbrev pub place_number : Place → ℕ → ℕ
place_number place index = slice_index_or place.at index 0

abbrev pub place_text : Place → List ℕ
place_text place =
    way_text place.part (place_number place 0) (place_number place 1) (place_number place 2)
    (place_number place 3)

-- The table of a controller, one of its segments, a piece of a network of a segment, an order row,
-- a power row and a panel reference. This project's own.
abbrev pub controller_place : ℕ → Place
controller_place controller = record { part = parts.Controller; at = controller ∷ 0 ∷ 0 ∷ 0 ∷ [] }

abbrev pub segment_place : ℕ → ℕ → Place
segment_place controller segment =
    record { part = parts.Segment; at = controller ∷ segment ∷ 0 ∷ 0 ∷ [] }

abbrev pub cell_place : ℕ → ℕ → ℕ → ℕ → Place
cell_place controller segment network cell =
    record { part = parts.Cell; at = controller ∷ segment ∷ network ∷ cell ∷ [] }

abbrev pub order_place : ℕ → ℕ → Place
order_place controller order =
    record { part = parts.Order; at = controller ∷ order ∷ 0 ∷ 0 ∷ [] }

abbrev pub power_place : ℕ → ℕ → Place
power_place controller row =
    record { part = parts.Power; at = controller ∷ row ∷ 0 ∷ 0 ∷ [] }

abbrev pub panel_place : ℕ → ℕ → Place
panel_place controller reference =
    record { part = parts.Panel; at = controller ∷ reference ∷ 0 ∷ 0 ∷ [] }

-- A fault comes at a place. This project's own.
abbrev pub at_place : {A : Type 0} → Place → Result A PlantFault → Result A (PlantFault × Place)
at_place place (Ok x) = Ok x
at_place place (Err fault) = Err (fault, place)

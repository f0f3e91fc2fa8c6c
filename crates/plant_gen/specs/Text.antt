-- The text of the plant that a number stands for. All of it is this project's own.
use Rattle.std.specs.Prelude.{codes, true, ℕ, ◌+◌, ◌*◌, ◌/◌, ◌%◌, ◌^◌, ◌≤◌, List, [], ◌∷◌, ◌++◌}
use Rattle.std.specs.Prelude.{map}
use Rattle.std.specs.Fmt.{decimal, digits}
use Rattle.std.specs.List.{flat_map, join_by, range_with_len}
use Rattle.plant_types.specs.declared.reference.Ref.{Ref}
use Rattle.plant_types.specs.declared.reference.RefKind.TheVariants.{Input}
use Rattle.plant_types.specs.Reference.{coil_at, reference_text}

-- The numbers that stand for a plant.
abbrev pub IsPlantNumber : ℕ → Type 0
IsPlantNumber number = (1 ≤ number) × (number ≤ 9999)

-- How many controllers the plant has: 2 to 16, with the nodes from 1 on.
abbrev pub controller_count : ℕ → ℕ
controller_count number = 2 + number % 15

-- How many networks of contacts each controller has: 1 to 200.
abbrev pub contacts_of : ℕ → ℕ
contacts_of number = 1 + number % 200

-- The node behind this one, which behind the last is 1.
abbrev pub next_node : ℕ → ℕ → ℕ
next_node number node = node % controller_count number + 1

-- A word of the script of a node, counted from 1.
abbrev pub script_word : ℕ → ℕ → ℕ → ℕ
script_word number node place = (number * 7919 * place + node * 257) % 2 ^ 16

-- A digit from 0 to F.
abbrev pub capital_digit : ℕ → List ℕ
capital_digit digit = digits 16 true digit

-- A word in four hexadecimal digits, with capital letters.
abbrev pub word_text : ℕ → List ℕ
word_text word =
    capital_digit (word / 4096) ++ capital_digit (word / 256 % 16)
    ++ capital_digit (word / 16 % 16) ++ capital_digit (word % 16)

-- A text between quotation marks.
abbrev pub quoted : List ℕ → List ℕ
quoted text = codes "\"" ++ text ++ codes "\""

-- The script of a node: eight words, which its drop reads one in a scan.
abbrev pub script_line : ℕ → ℕ → List ℕ
script_line number node =
    codes "script = ["
    ++ join_by (λ place. quoted (word_text (script_word number node place))) (codes ", ")
    (range_with_len 1 8)
    ++ codes "]"

-- One of the 16 inputs, counted from 0 and round behind the last.
abbrev pub input_at : ℕ → Ref
input_at place = record { kind = Input; number = 1 + place % 16 }

-- The network of the coil with this number: one of two inputs' contacts and its own, in parallel,
-- before a closed contact.
abbrev pub contacts_network : ℕ → ℕ → ℕ → List ℕ
contacts_network number node coil =
    codes "1,1 NO " ++ reference_text (input_at (coil + number))
    ++ codes "; 2,1 NO " ++ reference_text (coil_at coil)
    ++ codes "; 1,1 V; 1,2 NC " ++ reference_text (input_at (coil + node))
    ++ codes "; 1,3 CO " ++ reference_text (coil_at coil)

-- The networks that fill the control block of a message, the one that names the node whose
-- registers it reads, and the one of the message.
abbrev pub message_networks : ℕ → ℕ → List (List ℕ)
message_networks number node =
    codes "1,1 ADD 2 0 40001; 4,1 ADD 1 0 40003"
    ∷ (codes "1,1 ADD 1 0 40004; 4,1 ADD " ++ decimal (next_node number node) ++ codes " 0 40005")
    ∷ codes "1,1 H; 1,2 MSTR 40001 40011 1" ∷ []

-- The networks of contacts of a node: one for each coil from 1 on.
abbrev pub coil_networks : ℕ → ℕ → List (List ℕ)
coil_networks number node =
    map (contacts_network number node) (range_with_len 1 (contacts_of number))

-- A network stands on a line of its own.
abbrev pub network_line : List ℕ → List ℕ
network_line network = quoted network ++ codes ","

-- The lines of a controller before its script.
abbrev pub table_lines : ℕ → List (List ℕ)
table_lines node =
    codes "[[controller]]" ∷ (codes "node = " ++ decimal node) ∷ codes "coils = 256"
    ∷ codes "inputs = 16" ∷ codes "registers = 60" ∷ codes "orders = [\"1 - 1 1\"]"
    ∷ codes "[[controller.drop]]" ∷ codes "number = 1"
    ∷ codes "modules = [\"in 10001\", \"out 00001\"]" ∷ []

-- The lines of a controller's segment.
abbrev pub segment_lines : ℕ → ℕ → List (List ℕ)
segment_lines number node =
    codes "[[controller.segment]]" ∷ codes "networks = ["
    ∷ map network_line (message_networks number node ++ coil_networks number node) ++ codes "]" ∷ []

-- The lines of a controller.
abbrev pub controller_lines : ℕ → ℕ → List (List ℕ)
controller_lines number node =
    table_lines node ++ script_line number node ∷ segment_lines number node

-- The lines of all controllers, in rising node.
abbrev pub all_controller_lines : ℕ → List (List ℕ)
all_controller_lines number =
    flat_map (controller_lines number) (range_with_len 1 (controller_count number))

-- The lines of the plant: its version, and those of its controllers.
abbrev pub plant_lines : ℕ → List (List ℕ)
plant_lines number = codes "version = 1" ∷ all_controller_lines number

-- Some lines, each with its line feed.
abbrev pub lines_text : List (List ℕ) → List ℕ
lines_text lines = flat_map (λ line. line ++ codes "\n") lines

-- The text of the plant that a number stands for.
abbrev pub plant_text : ℕ → List ℕ
plant_text number = lines_text (plant_lines number)

-- Items by the addresses of their nodes, or by the numbers of their networks. Modbus Plus Network
-- Planning and Installation Guide: addresses are 1 to 64.
use Rattle.std.specs.Prelude.{ℕ, ◌==◌, List, filter}
use Rattle.std.specs.List.{flat_map, range_with_len}

-- The items of the first of these numbers, then those of the next.
abbrev pub in_turn : {A : Type 0} → List ℕ → (A → ℕ) → List A → List A
in_turn numbers number_of items =
    flat_map (λ number. filter (λ item. number_of item == number) items) numbers

-- All addresses.
abbrev pub node_addresses : List ℕ
node_addresses = range_with_len 1 64

-- The items of the lowest address, then those of the next.
abbrev pub by_node : {A : Type 0} → (A → ℕ) → List A → List A
by_node node_of items = in_turn node_addresses node_of items

-- 0 of a network that has no number, and all numbers of networks.
abbrev pub network_numbers : List ℕ
network_numbers = range_with_len 0 9

-- The items of the lowest network, then those of the next.
abbrev pub by_network : {A : Type 0} → (A → ℕ) → List A → List A
by_network number_of items = in_turn network_numbers number_of items

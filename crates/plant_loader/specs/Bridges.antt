-- The bridges of a plant by their texts. This project's own.
use Rattle.std.specs.Prelude.{ℕ, Bool, ◌||◌, ◌==◌, if◌then◌else◌, List, [], ◌∷◌, Option, Some}
use Rattle.std.specs.Prelude.{None, option_and_then, Result, Ok}
use Rattle.std.specs.List.{list_any, list_all}
use Rattle.plant_types.specs.declared.net.BridgePlan.{BridgePlan}
use Rattle.plant_types.specs.declared.fault.PlantFault.TheVariants.{BadNode, BadNetwork}
use Rattle.plant_types.specs.Limits.{most_address, net_limit}
use Rattle.plant_types.specs.Numerals.{is_numeral}
use Rattle.cell_text.specs.Steps.{◌>>=◌, or_fault}
use Rattle.cell_text.specs.Words.{text_words}
use Rattle.plant_loader.specs.declared.addresses.Address.{Address}
use Rattle.plant_loader.specs.declared.bridges.BridgeWords.{BridgeWords as FoundWords}
use Rattle.plant_tables.specs.declared.net.NetTable.{NetTable}
use Rattle.plant_tables.specs.Refusals.{Refusal, bridge_place}
use Rattle.plant_tables.specs.Numerals.{numeral_within}
use Rattle.plant_tables.specs.InOrder.{with_positions, each_behind}
use Rattle.plant_tables.specs.Net.{one_of_nets}

-- The four words of a bridge: the network and the address on its left, then those on its right.
pub record BridgeWords : Type 0 where
  pub left_net : List ℕ
  pub left : List ℕ
  pub right_net : List ℕ
  pub right : List ℕ

abbrev pub bridge_words_from : List ℕ → List ℕ → List ℕ → List ℕ → BridgeWords
bridge_words_from left_net left right_net right =
    record { left_net = left_net; left = left; right_net = right_net; right = right }

abbrev pub words_of_bridge : FoundWords → BridgeWords
words_of_bridge found =
    bridge_words_from found.left_net.now found.left.now found.right_net.now found.right.now

-- Each of the four is a number without a leading zero.
abbrev pub numerals_in : BridgeWords → Option BridgeWords
numerals_in words =
    if list_all is_numeral (words.left_net ∷ words.left ∷ words.right_net ∷ words.right ∷ [])
    then Some words else None

abbrev pub bridge_words : List (List ℕ) → Option BridgeWords
bridge_words (left_net ∷ left ∷ right_net ∷ right ∷ []) =
    numerals_in (bridge_words_from left_net left right_net right)
bridge_words _ = None

-- The number of a word, where it is that of one of these networks.
abbrev pub net_of_word : List NetTable → List ℕ → Option ℕ
net_of_word nets word = option_and_then (one_of_nets nets) (numeral_within 1 net_limit word)

-- A bridge has this node at one of its ends.
abbrev pub has_end : List BridgePlan → ℕ → Bool
has_end bridges node =
    list_any (λ bridge. (bridge.left == node) || (bridge.right == node)) bridges

-- A station has this node, or a bridge.
abbrev pub is_taken : List Address → List BridgePlan → ℕ → Bool
is_taken stations bridges node =
    list_any (λ at. at.node == node) stations || has_end bridges node

-- The number of a word, where it is the address of a node that is not taken.
abbrev pub one_free : List Address → List BridgePlan → ℕ → Option ℕ
one_free stations bridges node = if is_taken stations bridges node then None else Some node

abbrev pub free_node : List Address → List BridgePlan → List ℕ → Option ℕ
free_node stations bridges word =
    option_and_then (one_free stations bridges) (numeral_within 1 most_address word)

-- Two numbers that are there and differ.
abbrev pub two_apart : Option ℕ → Option ℕ → Option (ℕ × ℕ)
two_apart (Some one) (Some other) = if one == other then None else Some (one, other)
two_apart _ _ = None

-- A bridge from the networks that it joins and its addresses there, the left one first.
abbrev pub bridge_from : ℕ × ℕ → ℕ × ℕ → BridgePlan
bridge_from nets nodes =
    record { left_net = nets.0; left = nodes.0; right_net = nets.1; right = nodes.1 }

-- The bridge of a text behind the stations and the bridges before it: it reads and joins two of
-- these networks, and its two addresses are those of nodes that none of them has.
unfoldable pub bridge_behind : List NetTable → List Address → List BridgePlan → ℕ × List ℕ
    → Result BridgePlan Refusal
bridge_behind nets stations earlier text = do
  place ← Ok (bridge_place text.0)
  words ← or_fault (BadNetwork, place) (bridge_words (text_words text.1))
  joined ← or_fault (BadNetwork, place)
      (two_apart (net_of_word nets words.left_net) (net_of_word nets words.right_net))
  nodes ← or_fault (BadNode, place)
      (two_apart (free_node stations earlier words.left) (free_node stations earlier words.right))
  Ok (bridge_from joined nodes)

-- The bridges of a plant with these networks and stations, in file order.
abbrev pub bridges_of : List NetTable → List Address → List (List ℕ)
    → Result (List BridgePlan) Refusal
bridges_of nets stations texts =
    each_behind (bridge_behind nets stations) [] (with_positions texts)

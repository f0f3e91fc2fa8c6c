-- Bridges that are read join two networks, and no address stands twice.
use Rattle.std.proofs.Common.{◌≡◌, ◌≢◌, ℕ, ◌==◌, Bool, true, false, ◌||◌, List, []}
use Rattle.std.proofs.Common.{◌∷◌, ◌++◌, map, Option, Some, None, Ok, true≢false, eq-eqb, refl}
use Rattle.std.proofs.Common.{sym, ap, ap₂, ◌∙◌, append_assoc}
use Rattle.std.specs.Prelude.{nat_eq, flat_map, if◌then◌else◌}
use Rattle.std.specs.List.{list_any, AllByRecursion, IsDistinct}
use Rattle.std.proofs.lemmas.Bool.{eqb-true}
use Rattle.std.proofs.lemmas.Cmp.{nat_eq_equiv}
use Rattle.std.proofs.lemmas.List.{append-nil}
use Rattle.std.proofs.lemmas.List.Concat.{flat_map-append}
use Rattle.std.proofs.lemmas.List.Folds.{list_any-append}
use Rattle.std.proofs.lemmas.Map.Keys.{IsDistinct-push}
use Rattle.plant_types.specs.declared.net.BridgePlan.{BridgePlan}
use Rattle.plant_types.specs.declared.fault.PlantFault.TheVariants.{BadNode, BadNetwork}
use Rattle.plant_types.specs.Limits.{net_limit, most_address}
use Rattle.plant_types.specs.Plans.{IsFromTo, IsNode, IsBridgePlan}
use Rattle.cell_text.specs.Words.{text_words}
use Rattle.cell_text.proofs.StepLemmas.{or_fault-ok, some-step, some-guard}
use Rattle.plant_loader.specs.declared.addresses.Address.{Address}
use Rattle.plant_tables.specs.declared.net.NetTable.{NetTable}
use Rattle.plant_tables.specs.Refusals.{bridge_place}
use Rattle.plant_tables.specs.InOrder.{numbered_from}
use Rattle.plant_tables.specs.Numerals.{numeral_within}
use Rattle.plant_tables.specs.Net.{has_net, one_of_nets}
use Rattle.plant_loader.specs.Bridges.{bridge_words, net_of_word, has_end, is_taken, one_free}
use Rattle.plant_loader.specs.Bridges.{free_node, two_apart, bridge_from, bridge_behind, bridges_of}
use Rattle.plant_tables.proofs.Common.{ok_value, some_value}
use Rattle.plant_tables.proofs.NumeralLemmas.{numeral-within}
use Rattle.plant_tables.proofs.TestLemmas.{each_behind-keeps, each_behind-all, none-node}

-- ---- one bridge

-- two numbers that are there and differ
record AreApart (one other : Option ℕ) (pair : ℕ × ℕ) : Type 0 where
  one_there : one ≡ Some pair.0
  other_there : other ≡ Some pair.1
  apart : pair.0 ≢ pair.1

apart-either : (x y : ℕ) (pair : ℕ × ℕ) (b : Bool) → (x == y) ≡ b
    → (if b then None else Some (x, y)) ≡ Some pair → AreApart (Some x) (Some y) pair
apart-either x y pair true is h = absurd (cc)
apart-either x y pair false is h =
    let same : (x, y) ≡ pair = some_value (x, y) pair h in
    let are : AreApart (Some x) (Some y) (x, y) = record {
      one_there = refl;
      other_there = refl;
      apart = λ e. true≢false (sym (eq-eqb x y e) ∙ is);
    } in
    rw (← same) are

two_apart-are : (one other : Option ℕ) (pair : ℕ × ℕ) → two_apart one other ≡ Some pair
    → AreApart one other pair
two_apart-are (Some x) (Some y) pair h = apart-either x y pair (x == y) refl h
two_apart-are (Some x) None pair h = absurd (cc)
two_apart-are None (Some y) pair h = absurd (cc)
two_apart-are None None pair h = absurd (cc)

-- a word that names a network
net-named : (nets : List NetTable) (word : List ℕ) (number : ℕ)
    → net_of_word nets word ≡ Some number
    → IsFromTo 1 net_limit number × (has_net nets number ≡ true)
net-named nets word number h =
    let read = some-step (one_of_nets nets) (numeral_within 1 net_limit word) number h in
    let held = some-guard (has_net nets read.0) (Some read.0) number read.1.1 in
    let same : read.0 ≡ number = some_value read.0 number held.1 in
    rw (← same) (numeral-within 1 net_limit word read.0 read.1.0, held.0)

free-either : (node found : ℕ) (b : Bool) → (if b then None else Some node) ≡ Some found
    → (b ≡ false) × (node ≡ found)
free-either node found true h = absurd (cc)
free-either node found false h = (refl, some_value node found h)

-- a word that is an address that none has
node-free : (stations : List Address) (bridges : List BridgePlan) (word : List ℕ) (node : ℕ)
    → free_node stations bridges word ≡ Some node
    → IsNode node × (is_taken stations bridges node ≡ false)
node-free stations bridges word node h =
    let read = some-step (one_free stations bridges) (numeral_within 1 most_address word) node h in
    let free = free-either read.0 node (is_taken stations bridges read.0) read.1.1 in
    rw (← free.1) (numeral-within 1 most_address word read.0 read.1.0, free.0)

-- what is known of a bridge of a text
record IsBridge (nets : List NetTable) (stations : List Address) (earlier : List BridgePlan)
    (bridge : BridgePlan) : Type 0 where
  plan : IsBridgePlan bridge
  on : (has_net nets bridge.left_net ≡ true) × (has_net nets bridge.right_net ≡ true)
  left_free : is_taken stations earlier bridge.left ≡ false
  right_free : is_taken stations earlier bridge.right ≡ false

bridge-is : (nets : List NetTable) (stations : List Address) (earlier : List BridgePlan)
    (text : ℕ × List ℕ) (bridge : BridgePlan)
    → bridge_behind nets stations earlier text ≡ Ok bridge → IsBridge nets stations earlier bridge
unfolding bridge_behind
bridge-is nets stations earlier text bridge h =
    let place = bridge_place text.0 in
    let words = or_fault-ok (BadNetwork, place) (bridge_words (text_words text.1)) _ bridge h in
    let joined = or_fault-ok (BadNetwork, place)
    (two_apart (net_of_word nets words.0.left_net) (net_of_word nets words.0.right_net)) _ bridge
    words.1.1 in
    let nodes = or_fault-ok (BadNode, place)
    (two_apart (free_node stations earlier words.0.left) (free_node stations earlier words.0.right))
    (λ nodes. Ok (bridge_from joined.0 nodes)) bridge joined.1.1 in
    let whole : BridgePlan = bridge_from joined.0 nodes.0 in
    let same : whole ≡ bridge = ok_value whole bridge nodes.1.1 in
    let two = two_apart-are (net_of_word nets words.0.left_net)
    (net_of_word nets words.0.right_net) joined.0 joined.1.0 in
    let ends = two_apart-are (free_node stations earlier words.0.left)
    (free_node stations earlier words.0.right) nodes.0 nodes.1.0 in
    let left_net = net-named nets words.0.left_net joined.0.0 two.one_there in
    let right_net = net-named nets words.0.right_net joined.0.1 two.other_there in
    let left = node-free stations earlier words.0.left nodes.0.0 ends.one_there in
    let right = node-free stations earlier words.0.right nodes.0.1 ends.other_there in
    let is : IsBridge nets stations earlier whole = record {
      plan = record {
        left_net = left_net.0;
        right_net = right_net.0;
        two_nets = two.apart;
        left = left.0;
        right = right.0;
        two_ends = ends.apart;
      };
      on = (left_net.1, right_net.1);
      left_free = left.1;
      right_free = right.1;
    } in
    rw (← same) is

-- ---- all bridges

-- the nodes of the ends of bridges
abbrev pub nodes_of_ends : List BridgePlan → List ℕ
nodes_of_ends bridges = flat_map (λ bridge. bridge.left ∷ bridge.right ∷ []) bridges

-- a node that no end has is none of them
none-end : (n : ℕ) (bridges : List BridgePlan)
    → has_end bridges n ≡ list_any (nat_eq n) (nodes_of_ends bridges)
none-end n [] = refl
none-end n (b ∷ bridges) =
    rw (nat_eq_equiv.symm b.left n, nat_eq_equiv.symm b.right n, none-end n bridges)
    (or-assoc (nat_eq n b.left) (nat_eq n b.right) (list_any (nat_eq n) (nodes_of_ends bridges)))
  where
    or-assoc : (a b c : Bool) → (a || b) || c ≡ a || (b || c)
    or-assoc true b c = refl
    or-assoc false b c = refl

-- the nodes of stations, and those of the ends of bridges behind them
abbrev pub nodes_with_ends : List Address → List BridgePlan → List ℕ
nodes_with_ends stations bridges =
    map (λ (at : Address). at.node) stations ++ nodes_of_ends bridges

none-taken : (stations : List Address) (bridges : List BridgePlan) (n : ℕ)
    → list_any (nat_eq n) (nodes_with_ends stations bridges) ≡ is_taken stations bridges n
none-taken stations bridges n =
    list_any-append (nat_eq n) (map (λ (at : Address). at.node) stations) (nodes_of_ends bridges)
    ∙ ap₂ (λ a b. a || b) (sym (none-node (λ (at : Address). at.node) n stations))
    (sym (none-end n bridges))

-- one more bridge with two new addresses
ends-push : (before : List ℕ) (bridges : List BridgePlan) (bridge : BridgePlan)
    → before ++ nodes_of_ends (bridges ++ bridge ∷ [])
    ≡ ((before ++ nodes_of_ends bridges) ++ bridge.left ∷ []) ++ bridge.right ∷ []
ends-push before bridges bridge =
    let pair = bridge.left ∷ bridge.right ∷ [] in
    ap (λ xs. before ++ xs)
    (flat_map-append (λ (b : BridgePlan). b.left ∷ b.right ∷ []) bridges (bridge ∷ []))
    ∙ sym (append_assoc before (nodes_of_ends bridges) pair)
    ∙ sym (append_assoc (before ++ nodes_of_ends bridges) (bridge.left ∷ []) (bridge.right ∷ []))

differs : (x y : ℕ) → x ≢ y → nat_eq y x ≡ false
differs x y apart = at (nat_eq y x) refl
  where
    at : (b : Bool) → nat_eq y x ≡ b → b ≡ false
    at true is = absurd (apart (sym (eqb-true y x is)))
    at false is = refl

distinct-bridge : (nets : List NetTable) (stations : List Address) (before : List BridgePlan)
    (bridge : BridgePlan)
    → IsBridge nets stations before bridge
    → IsDistinct nat_eq (nodes_with_ends stations before)
    → IsDistinct nat_eq (nodes_with_ends stations (before ++ bridge ∷ []))
distinct-bridge nets stations before bridge is held =
    let nodes = nodes_with_ends stations before in
    let left = none-taken stations before bridge.left ∙ is.left_free in
    let one = IsDistinct-push nat_eq_equiv nodes bridge.left held left in
    let right : list_any (nat_eq bridge.right) (nodes ++ bridge.left ∷ []) ≡ false =
    list_any-append (nat_eq bridge.right) nodes (bridge.left ∷ [])
    ∙ ap₂ (λ a b. a || (b || false)) (none-taken stations before bridge.right ∙ is.right_free)
    (differs bridge.left bridge.right is.plan.two_ends) in
    rw (ends-push (map (λ (at : Address). at.node) stations) before bridge)
    (IsDistinct-push nat_eq_equiv (nodes ++ bridge.left ∷ []) bridge.right one right)

-- the bridges of a plant beside its stations
pub record AreBridgesOf (nets : List NetTable) (stations : List Address) (bridges : List BridgePlan)
    : Type 0 where
  pub each : AllByRecursion IsBridgePlan bridges
  pub on : AllByRecursion (λ (bridge : BridgePlan).
      (has_net nets bridge.left_net ≡ true) × (has_net nets bridge.right_net ≡ true)) bridges
  pub nodes : IsDistinct nat_eq (nodes_with_ends stations bridges)

pub bridges-are : (nets : List NetTable) (stations : List Address) (texts : List (List ℕ))
    (bridges : List BridgePlan) → IsDistinct nat_eq (map (λ (at : Address). at.node) stations)
    → bridges_of nets stations texts ≡ Ok bridges → AreBridgesOf nets stations bridges
bridges-are nets stations texts bridges nodes h =
    let none : IsDistinct nat_eq (nodes_with_ends stations []) =
    rw (append-nil (map (λ (at : Address). at.node) stations)) nodes in
    record {
      each = each_behind-all IsBridgePlan (bridge_behind nets stations)
          (λ before text bridge e. (bridge-is nets stations before text bridge e).plan)
          (numbered_from 1 texts) [] bridges tt h;
      on = each_behind-all (λ (bridge : BridgePlan).
          (has_net nets bridge.left_net ≡ true) × (has_net nets bridge.right_net ≡ true))
          (bridge_behind nets stations)
          (λ before text bridge e. (bridge-is nets stations before text bridge e).on)
          (numbered_from 1 texts) [] bridges tt h;
      nodes = each_behind-keeps (λ bridges. IsDistinct nat_eq (nodes_with_ends stations bridges))
          (bridge_behind nets stations)
          (λ before text bridge e held. distinct-bridge nets stations before bridge
          (bridge-is nets stations before text bridge e) held)
          (numbered_from 1 texts) [] bridges none h;
    }

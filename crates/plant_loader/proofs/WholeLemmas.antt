-- A plant of parts that are read is a plant.
use Rattle.std.proofs.Common.{◌≡◌, ℕ, ◌≤◌, ◌==◌, Bool, true, false, cond, ◌||◌, List, []}
use Rattle.std.proofs.Common.{◌∷◌, ◌++◌, length, map, refl, sym, ap, ap₂, subst, ◌∙◌, arith}
use Rattle.std.proofs.Common.{length-append}
use Rattle.std.specs.Prelude.{filter, flat_map, nat_eq}
use Rattle.std.specs.List.{list_any, All, AllByRecursion, Contains, IsDistinct}
use Rattle.std.specs.List.Sorted.{IsPermutation, IsStrictlyIncreasing}
use Rattle.std.proofs.lemmas.Bool.{eqb-true}
use Rattle.std.proofs.lemmas.Cmp.{nat_eq_equiv}
use Rattle.std.proofs.lemmas.List.{length-map, map-append}
use Rattle.std.proofs.lemmas.List.Elements.{All-contains_itself, All-map, All-weaker}
use Rattle.std.proofs.lemmas.List.Elements.{Contains-append_right, filter-append}
use Rattle.std.proofs.lemmas.List.Sorted.{All-permutation, Contains-permutation, IsPermutation-map}
use Rattle.std.proofs.lemmas.List.Sorted.{IsPermutation-append, IsPermutation-sym}
use Rattle.std.proofs.lemmas.List.Sorted.{IsPermutation-trans, length_permutation}
use Rattle.std.proofs.lemmas.Map.Keys.{IsDistinct-IsPermutation}
use Rattle.plant_types.specs.declared.net.NetPlan.{NetPlan}
use Rattle.plant_types.specs.declared.net.BridgePlan.{BridgePlan}
use Rattle.plant_types.specs.declared.net.HostPlan.{HostPlan}
use Rattle.plant_types.specs.declared.plan.ControllerPlan.{ControllerPlan}
use Rattle.plant_types.specs.declared.plan.Plant.{Plant}
use Rattle.plant_types.specs.Limits.{net_limit, controller_limit, host_limit, bridge_limit}
use Rattle.plant_types.specs.Plans.{IsFromTo, IsNode, IsNetPlan, IsNetOf, IsBridgePlan, IsBridgeOf}
use Rattle.plant_types.specs.Plans.{IsHostPlan, IsPlant, PassesTests, ends_of, net_numbers}
use Rattle.plant_loader.specs.declared.addresses.Address.{Address}
use Rattle.plant_tables.specs.declared.net.NetTable.{NetTable}
use Rattle.plant_tables.specs.Net.{Nets, has_net}
use Rattle.plant_loader.specs.Rising.{by_node, by_network}
use Rattle.plant_loader.specs.Whole.{address_on, station_addresses, end_addresses, all_addresses}
use Rattle.plant_loader.specs.Whole.{nodes_on, net_from, plant_from}
use Rattle.plant_tables.proofs.TestLemmas.{none-node}
use Rattle.plant_loader.proofs.RisingLemmas.{to-all, by_node-flat, by_node-moved}
use Rattle.plant_loader.proofs.RisingLemmas.{by_node-rises, by_node-nodes, by_network-moved}
use Rattle.plant_loader.proofs.RisingLemmas.{by_network-rises, by_network-numbers}
use Rattle.controller_tables.proofs.ControllerLemmas.{IsRead}
use Rattle.plant_tables.proofs.NetLemmas.{AreRules, AreTables}
use Rattle.plant_loader.proofs.BridgeLemmas.{nodes_of_ends}

-- ---- lists

-- what follows for each item follows for all
pub all-of : {A : Type 0} (P Q : A → Type 0) → ((x : A) → P x → Q x) → (xs : List A)
    → AllByRecursion P xs → AllByRecursion Q xs
all-of P Q more [] h = tt
all-of P Q more (x ∷ xs) h = (more x h.0, all-of P Q more xs h.1)

-- what holds of two lists holds of both
both-all : {A : Type 0} (P : A → Type 0) (xs ys : List A) → AllByRecursion P xs
    → AllByRecursion P ys → AllByRecursion P (xs ++ ys)
both-all P [] ys h k = k
both-all P (x ∷ xs) ys h k = (h.0, both-all P xs ys h.1 k)

-- what holds of what stands for items holds of the list of it
all-map : {A B : Type 0} (P : B → Type 0) (f : A → B) (xs : List A)
    → AllByRecursion (λ x. P (f x)) xs → AllByRecursion P (map f xs)
all-map P f [] h = tt
all-map P f (x ∷ xs) h = (h.0, all-map P f xs h.1)

-- some items are some of all
some-step : {A B : Type 0} (P : B → Type 0) (f : A → B) (p : A → Bool) (x : A) (xs : List A)
    (b : Bool) → p x ≡ b
    → P (f x) → AllByRecursion P (map f (filter p xs))
    → AllByRecursion P (map f (filter p (x ∷ xs)))
some-step P f p x xs true is here h = rw is (here, h)
some-step P f p x xs false is here h = rw is h

pub some-all : {A B : Type 0} (P : B → Type 0) (f : A → B) (p : A → Bool) (xs : List A)
    → AllByRecursion P (map f xs) → AllByRecursion P (map f (filter p xs))
some-all P f p [] h = tt
some-all P f p (x ∷ xs) h = some-step P f p x xs (p x) refl h.0 (some-all P f p xs h.1)

-- some of the numbers that differ differ
distinct-step : {A : Type 0} (f : A → ℕ) (p : A → Bool) (x : A) (xs : List A) (b : Bool)
    → p x ≡ b → AllByRecursion (λ y. nat_eq (f x) y ≡ false) (map f (filter p xs))
    → IsDistinct nat_eq (map f (filter p xs)) → IsDistinct nat_eq (map f (filter p (x ∷ xs)))
unfolding IsDistinct
distinct-step f p x xs true is here h = rw is (here, h)
distinct-step f p x xs false is here h = rw is h

some-distinct : {A : Type 0} (f : A → ℕ) (p : A → Bool) (xs : List A)
    → IsDistinct nat_eq (map f xs) → IsDistinct nat_eq (map f (filter p xs))
unfolding IsDistinct
some-distinct f p [] h = tt
some-distinct f p (x ∷ xs) h = distinct-step f p x xs (p x) refl
    (some-all (λ y. nat_eq (f x) y ≡ false) f p xs h.0) (some-distinct f p xs h.1)

-- numbers that differ do so without those before them, and without those behind them
distinct-behind : (xs ys : List ℕ) → IsDistinct nat_eq (xs ++ ys) → IsDistinct nat_eq ys
unfolding IsDistinct
distinct-behind [] ys h = h
distinct-behind (x ∷ xs) ys h = distinct-behind xs ys h.1

front-all : {A : Type 0} (P : A → Type 0) (xs ys : List A) → AllByRecursion P (xs ++ ys)
    → AllByRecursion P xs
front-all P [] ys h = tt
front-all P (x ∷ xs) ys h = (h.0, front-all P xs ys h.1)

distinct-front : (xs ys : List ℕ) → IsDistinct nat_eq (xs ++ ys) → IsDistinct nat_eq xs
unfolding IsDistinct
distinct-front [] ys h = tt
distinct-front (x ∷ xs) ys h =
    (front-all (λ y. nat_eq x y ≡ false) xs ys h.0, distinct-front xs ys h.1)

-- the first of two numbers at each item differ where both do
pairs-front : {A : Type 0} (P : ℕ → Type 0) (left right : A → ℕ) (xs : List A)
    → AllByRecursion P (flat_map (λ x. left x ∷ right x ∷ []) xs)
    → AllByRecursion P (map left xs)
pairs-front P left right [] h = tt
pairs-front P left right (x ∷ xs) h = (h.0, pairs-front P left right xs h.1.1)

distinct-pairs : {A : Type 0} (left right : A → ℕ) (xs : List A)
    → IsDistinct nat_eq (flat_map (λ x. left x ∷ right x ∷ []) xs)
    → IsDistinct nat_eq (map left xs)
unfolding IsDistinct
distinct-pairs left right [] h = tt
distinct-pairs left right (x ∷ xs) h = (
  pairs-front (λ y. nat_eq (left x) y ≡ false) left right xs h.0.1,
  distinct-pairs left right xs h.1.1,
)

-- an item that a test finds is one of those that pass it
any-step : {A : Type 0} (p : A → Bool) (x : A) (xs : List A) (b : Bool) → p x ≡ b
    → p x || list_any p xs ≡ true → (list_any p xs ≡ true → 1 ≤ length (filter p xs))
    → 1 ≤ length (filter p (x ∷ xs))
any-step p x xs true is h more = rw is (omega arith)
any-step p x xs false is h more =
    rw is (more (sym (ap (λ b. b || list_any p xs) is) ∙ h))

any-some : {A : Type 0} (p : A → Bool) (xs : List A) → list_any p xs ≡ true
    → 1 ≤ length (filter p xs)
any-some p [] h = absurd (cc)
any-some p (x ∷ xs) h = any-step p x xs (p x) refl h (any-some p xs)

-- a number that is found in a list stands there
contains-step : (n x : ℕ) (xs : List ℕ) (b : Bool) → nat_eq n x ≡ b
    → nat_eq n x || list_any (nat_eq n) xs ≡ true
    → (list_any (nat_eq n) xs ≡ true → Contains xs n) → Contains (x ∷ xs) n
contains-step n x xs true is h more = (0, omega arith, sym (eqb-true n x is))
contains-step n x xs false is h more = Contains-append_right (x ∷ []) xs n
    (more (sym (ap (λ b. b || list_any (nat_eq n) xs) is) ∙ h))

any-contains : (n : ℕ) (xs : List ℕ) → list_any (nat_eq n) xs ≡ true → Contains xs n
any-contains n [] h = absurd (cc)
any-contains n (x ∷ xs) h = contains-step n x xs (nat_eq n x) refl h (any-contains n xs)

-- ---- addresses

-- what stands for items that pass a test, item by item
abbrev only : {A B : Type 0} → (A → Bool) → (A → B) → A → List B
only p f x = cond (p x) (f x ∷ []) []

only-step : {A B : Type 0} (p : A → Bool) (f : A → B) (x : A) (xs : List A) (b : Bool)
    → p x ≡ b → map f (filter p xs) ≡ flat_map (only p f) xs
    → map f (filter p (x ∷ xs)) ≡ only p f x ++ flat_map (only p f) xs
only-step p f x xs true is h = rw is (ap (λ ys. f x ∷ ys) h)
only-step p f x xs false is h = rw is h

only-are : {A B : Type 0} (p : A → Bool) (f : A → B) (xs : List A)
    → map f (filter p xs) ≡ flat_map (only p f) xs
only-are p f [] = refl
only-are p f (x ∷ xs) = only-step p f x xs (p x) refl (only-are p f xs)

-- items that pass a test, by node or not
only-moved : {A B : Type 0} (p : A → Bool) (f : A → B) (node : A → ℕ) (xs : List A)
    → AllByRecursion (λ x. IsNode (node x)) xs
    → IsPermutation (map f (filter p xs)) (map f (filter p (by_node node xs)))
only-moved p f node xs all =
    rw (only-are p f xs, only-are p f (by_node node xs)) (by_node-flat (only p f) node xs all)

-- the nodes on a network among these addresses, in file order
abbrev pub on : ℕ → List Address → List ℕ
on network addresses =
    map (λ (at : Address). at.node) (filter (λ (at : Address). at.network == network) addresses)

on-append : (network : ℕ) (one other : List Address)
    → on network (one ++ other) ≡ on network one ++ on network other
on-append network one other =
    ap (map (λ (at : Address). at.node))
    (filter-append (λ (at : Address). at.network == network) one other)
    ∙ map-append (λ (at : Address). at.node)
    (filter (λ (at : Address). at.network == network) one)
    (filter (λ (at : Address). at.network == network) other)

on-step : {A : Type 0} (network : ℕ) (of node : A → ℕ) (x : A) (xs : List A) (b : Bool)
    → (of x == network) ≡ b
    → on network (map (λ x. address_on (of x) (node x)) xs)
    ≡ map node (filter (λ x. of x == network) xs)
    → on network (map (λ x. address_on (of x) (node x)) (x ∷ xs))
    ≡ map node (filter (λ x. of x == network) (x ∷ xs))
on-step network of node x xs true is h = rw is (ap (λ ys. node x ∷ ys) h)
on-step network of node x xs false is h = rw is h

on-map : {A : Type 0} (network : ℕ) (of node : A → ℕ) (xs : List A)
    → on network (map (λ x. address_on (of x) (node x)) xs)
    ≡ map node (filter (λ x. of x == network) xs)
on-map network of node [] = refl
on-map network of node (x ∷ xs) =
    on-step network of node x xs (of x == network) refl (on-map network of node xs)

on-ends : (network : ℕ) (bridges : List BridgePlan)
    → on network (end_addresses bridges) ≡ flat_map (ends_of network) bridges
on-ends network [] = refl
on-ends network (b ∷ bridges) =
    on-append network (address_on b.left_net b.left ∷ address_on b.right_net b.right ∷ [])
    (end_addresses bridges)
    ∙ ap₂ (λ here more. here ++ more)
    (at (b.left_net == network) (b.right_net == network) refl refl) (on-ends network bridges)
  where
    at : (l r : Bool) → (b.left_net == network) ≡ l → (b.right_net == network) ≡ r
        → on network (address_on b.left_net b.left ∷ address_on b.right_net b.right ∷ [])
        ≡ ends_of network b
    at true true l r = rw (l, r) refl
    at true false l r = rw (l, r) refl
    at false true l r = rw (l, r) refl
    at false false l r = rw (l, r) refl

-- the nodes of all addresses
nodes-map : {A : Type 0} (of node : A → ℕ) (xs : List A)
    → map (λ (at : Address). at.node) (map (λ x. address_on (of x) (node x)) xs) ≡ map node xs
nodes-map of node [] = refl
nodes-map of node (x ∷ xs) = ap (λ ys. node x ∷ ys) (nodes-map of node xs)

pub nodes-ends : (bridges : List BridgePlan)
    → map (λ (at : Address). at.node) (end_addresses bridges) ≡ nodes_of_ends bridges
nodes-ends [] = refl
nodes-ends (b ∷ bridges) = ap (λ ys. b.left ∷ b.right ∷ ys) (nodes-ends bridges)

-- those of controllers and hosts
pub nodes-stations : (controllers : List ControllerPlan) (hosts : List HostPlan)
    → map (λ (at : Address). at.node) (station_addresses controllers hosts)
    ≡ map (λ (plan : ControllerPlan). plan.node) controllers
    ++ map (λ (host : HostPlan). host.node) hosts
nodes-stations controllers hosts =
    map-append (λ (at : Address). at.node)
    (map (λ (plan : ControllerPlan). address_on plan.network plan.node) controllers)
    (map (λ (host : HostPlan). address_on host.network host.node) hosts)
    ∙ ap₂ (λ xs ys. xs ++ ys)
    (nodes-map (λ (plan : ControllerPlan). plan.network) (λ (plan : ControllerPlan). plan.node)
    controllers)
    (nodes-map (λ (host : HostPlan). host.network) (λ (host : HostPlan). host.node) hosts)

-- what holds of the nodes of all addresses
ends-all : (P : ℕ → Type 0) (bridges : List BridgePlan)
    → AllByRecursion (λ (b : BridgePlan). P b.left) bridges
    → AllByRecursion (λ (b : BridgePlan). P b.right) bridges
    → AllByRecursion P (nodes_of_ends bridges)
ends-all P [] left right = tt
ends-all P (b ∷ bridges) left right = (left.0, (right.0, ends-all P bridges left.1 right.1))

-- the nodes of all addresses are those of controllers, hosts and ends
nodes-all : (controllers : List ControllerPlan) (hosts : List HostPlan)
    (bridges : List BridgePlan)
    → map (λ (at : Address). at.node) (all_addresses controllers hosts bridges)
    ≡ map (λ (plan : ControllerPlan). plan.node) controllers
    ++ map (λ (host : HostPlan). host.node) hosts ++ nodes_of_ends bridges
nodes-all controllers hosts bridges =
    map-append (λ (at : Address). at.node) (station_addresses controllers hosts)
    (end_addresses bridges)
    ∙ ap₂ (λ xs ys. xs ++ ys) (nodes-stations controllers hosts) (nodes-ends bridges)

pub addresses-nodes : (controllers : List ControllerPlan) (hosts : List HostPlan)
    (bridges : List BridgePlan)
    → AllByRecursion (λ (plan : ControllerPlan). IsNode plan.node) controllers
    → AllByRecursion (λ (host : HostPlan). IsNode host.node) hosts
    → AllByRecursion (λ (b : BridgePlan). IsNode b.left) bridges
    → AllByRecursion (λ (b : BridgePlan). IsNode b.right) bridges
    → AllByRecursion IsNode
    (map (λ (at : Address). at.node) (all_addresses controllers hosts bridges))
addresses-nodes controllers hosts bridges c h left right =
    rw (nodes-all controllers hosts bridges)
    (both-all IsNode (map (λ (plan : ControllerPlan). plan.node) controllers
    ++ map (λ (host : HostPlan). host.node) hosts) (nodes_of_ends bridges)
    (both-all IsNode (map (λ (plan : ControllerPlan). plan.node) controllers)
    (map (λ (host : HostPlan). host.node) hosts)
    (all-map IsNode (λ (plan : ControllerPlan). plan.node) controllers c)
    (all-map IsNode (λ (host : HostPlan). host.node) hosts h))
    (ends-all IsNode bridges left right))

-- ---- the plant

-- the nodes of the ends of bridges
pub ends-nodes : (bridges : List BridgePlan)
    → AllByRecursion (λ (b : BridgePlan). IsNode b.left) bridges
    → AllByRecursion (λ (b : BridgePlan). IsNode b.right) bridges
    → AllByRecursion IsNode (map (λ (at : Address). at.node) (end_addresses bridges))
ends-nodes bridges left right = rw (nodes-ends bridges) (ends-all IsNode bridges left right)

-- a plant from its parts
abbrev pub made_of : ℕ → ℕ → List NetPlan → List ControllerPlan → List HostPlan → List BridgePlan
    → Plant
made_of scan_time watchdog nets controllers hosts bridges = record {
  scan_time = scan_time;
  watchdog = watchdog;
  nets = nets;
  controllers = controllers;
  hosts = hosts;
  bridges = bridges;
}

-- the same parts make the same plant
pub same-made : (scan_time watchdog : ℕ) (nets nets' : List NetPlan)
    (controllers controllers' : List ControllerPlan) (hosts hosts' : List HostPlan)
    (bridges bridges' : List BridgePlan)
    → nets ≡ nets' → controllers ≡ controllers' → hosts ≡ hosts' → bridges ≡ bridges'
    → made_of scan_time watchdog nets controllers hosts bridges
    ≡ made_of scan_time watchdog nets' controllers' hosts' bridges'
same-made scan_time watchdog nets nets' controllers controllers' hosts hosts' bridges bridges' n c h
    b =
    rw (n, c, h, b) refl

-- what is known of the parts of a plant, in file order
pub record AreParts (nets : Nets) (controllers : List ControllerPlan) (hosts : List HostPlan)
    (bridges : List BridgePlan) : Type 0 where
  pub rules : AreRules nets.rules
  pub tables : AreTables nets.tables
  pub controllers_read : AllByRecursion IsRead controllers
  pub controllers_on : AllByRecursion
      (λ (plan : ControllerPlan). has_net nets.tables plan.network ≡ true) controllers
  pub hosts_each : AllByRecursion IsHostPlan hosts
  pub hosts_on : AllByRecursion
      (λ (host : HostPlan). has_net nets.tables host.network ≡ true) hosts
  pub bridges_each : AllByRecursion IsBridgePlan bridges
  pub bridges_on : AllByRecursion
      (λ (bridge : BridgePlan). (has_net nets.tables bridge.left_net ≡ true)
      × (has_net nets.tables bridge.right_net ≡ true)) bridges
  pub nodes : IsDistinct nat_eq (map (λ (at : Address). at.node)
      (all_addresses controllers hosts bridges))
  pub inhabited : AllByRecursion (λ (net : NetTable).
      list_any (λ (at : Address). at.network == net.number) (station_addresses controllers hosts)
      ≡ true) nets.tables

-- two facts of each item
both-facts : {A : Type 0} (P Q : A → Type 0) (xs : List A) → AllByRecursion P xs
    → AllByRecursion Q xs → AllByRecursion (λ x. P x × Q x) xs
both-facts P Q [] h k = tt
both-facts P Q (x ∷ xs) h k = ((h.0, k.0), both-facts P Q xs h.1 k.1)

module _ (scan_time watchdog : ℕ) (nets : Nets) (controllers : List ControllerPlan)
    (hosts : List HostPlan) (bridges : List BridgePlan)
    (parts : AreParts nets controllers hosts bridges) where
  abbrev node : ControllerPlan → ℕ
  node plan = plan.node

  abbrev host_node : HostPlan → ℕ
  host_node host = host.node

  abbrev number : NetTable → ℕ
  number net = net.number

  abbrev plant : Plant
  plant = plant_from scan_time watchdog nets controllers hosts bridges

  pub controllers-nodes : AllByRecursion (λ (plan : ControllerPlan). IsNode plan.node) controllers
  controllers-nodes =
      all-of IsRead (λ plan. IsNode plan.node) (λ plan r. r.node) controllers parts.controllers_read

  pub hosts-nodes : AllByRecursion (λ (host : HostPlan). IsNode host.node) hosts
  hosts-nodes =
      all-of IsHostPlan (λ host. IsNode host.node) (λ host h. h.node) hosts parts.hosts_each

  pub left-nodes : AllByRecursion (λ (bridge : BridgePlan). IsNode bridge.left) bridges
  left-nodes = all-of IsBridgePlan (λ bridge. IsNode bridge.left) (λ bridge b. b.left) bridges
      parts.bridges_each

  pub right-nodes : AllByRecursion (λ (bridge : BridgePlan). IsNode bridge.right) bridges
  right-nodes = all-of IsBridgePlan (λ bridge. IsNode bridge.right) (λ bridge b. b.right) bridges
      parts.bridges_each

  all-nodes : AllByRecursion IsNode (map (λ (at : Address). at.node)
      (all_addresses controllers hosts bridges))
  all-nodes = addresses-nodes controllers hosts bridges controllers-nodes hosts-nodes left-nodes
      right-nodes

  -- the numbers of the networks
  numbers-kept : (tables : List NetTable)
      → map (λ (net : NetPlan). net.number) (map (net_from nets.rules
      (all_addresses controllers hosts bridges) (end_addresses bridges)) tables)
      ≡ map number tables
  numbers-kept [] = refl
  numbers-kept (net ∷ tables) = ap (λ ns. net.number ∷ ns) (numbers-kept tables)

  pub numbers-are : net_numbers plant ≡ by_network (λ n. n) (map number nets.tables)
  numbers-are =
      numbers-kept (by_network number nets.tables) ∙ by_network-numbers number nets.tables

  -- a network that is known is one of the plant
  there : (n : ℕ) → has_net nets.tables n ≡ true → Contains (net_numbers plant) n
  there n h =
      let found = any-contains n (map number nets.tables) (sym (none-node number n nets.tables) ∙ h)
      in
      let moved = IsPermutation-map number nets.tables (by_network number nets.tables)
      (by_network-moved number nets.tables parts.tables.numbers) in
      rw (numbers-kept (by_network number nets.tables))
      (Contains-permutation (map number nets.tables)
      (map number (by_network number nets.tables)) n moved found)

  -- what of the plant is on a network is what is on it in the file
  module _ (n : ℕ) where
    abbrev on_controllers : List ControllerPlan → List ℕ
    on_controllers plans =
        map node (filter (λ (plan : ControllerPlan). plan.network == n) plans)

    abbrev on_hosts : List HostPlan → List ℕ
    on_hosts plans = map host_node (filter (λ (host : HostPlan). host.network == n) plans)

    stations-on : on n (station_addresses controllers hosts)
        ≡ on_controllers controllers ++ on_hosts hosts
    stations-on =
        on-append n (map (λ (plan : ControllerPlan). address_on plan.network plan.node) controllers)
        (map (λ (host : HostPlan). address_on host.network host.node) hosts)
        ∙ ap₂ (λ xs ys. xs ++ ys)
        (on-map n (λ (plan : ControllerPlan). plan.network) node controllers)
        (on-map n (λ (host : HostPlan). host.network) host_node hosts)

    all-on : on n (all_addresses controllers hosts bridges)
        ≡ on_controllers controllers ++ on_hosts hosts ++ flat_map (ends_of n) bridges
    all-on =
        on-append n (station_addresses controllers hosts) (end_addresses bridges)
        ∙ ap₂ (λ xs ys. xs ++ ys) stations-on (on-ends n bridges)

    stations-moved : IsPermutation (on_controllers controllers ++ on_hosts hosts)
        (on_controllers plant.controllers ++ on_hosts plant.hosts)
    stations-moved = IsPermutation-append (on_controllers controllers)
        (on_controllers plant.controllers) (on_hosts hosts) (on_hosts plant.hosts)
        (only-moved (λ (plan : ControllerPlan). plan.network == n) node node controllers
        controllers-nodes)
        (only-moved (λ (host : HostPlan). host.network == n) host_node host_node hosts hosts-nodes)

    ends-moved : IsPermutation (flat_map (ends_of n) bridges)
        (flat_map (ends_of n) plant.bridges)
    ends-moved = by_node-flat (ends_of n) (λ (b : BridgePlan). b.left) bridges left-nodes

    all-moved : IsPermutation (on_controllers plant.controllers ++ on_hosts plant.hosts
        ++ flat_map (ends_of n) plant.bridges) (on n (all_addresses controllers hosts bridges))
    all-moved =
        let file = on_controllers controllers ++ on_hosts hosts ++ flat_map (ends_of n) bridges in
        let own = on_controllers plant.controllers ++ on_hosts plant.hosts
        ++ flat_map (ends_of n) plant.bridges in
        rw all-on (IsPermutation-sym file own
        (IsPermutation-append (on_controllers controllers ++ on_hosts hosts)
        (on_controllers plant.controllers ++ on_hosts plant.hosts) (flat_map (ends_of n) bridges)
        (flat_map (ends_of n) plant.bridges) stations-moved ends-moved))

  -- each network of the plant
  module _ (net : NetTable) (known : net.number ≤ net_limit)
      (fates : IsFromTo 1 1000 (length net.fates))
      (inhabited : list_any (λ (at : Address). at.network == net.number)
      (station_addresses controllers hosts) ≡ true) where
    abbrev n : ℕ
    n = net.number

    abbrev addresses : List Address
    addresses = all_addresses controllers hosts bridges

    abbrev ends : List Address
    ends = end_addresses bridges

    members-nodes : AllByRecursion IsNode (on n addresses)
    members-nodes = some-all IsNode (λ (at : Address). at.node)
        (λ (at : Address). at.network == n) addresses all-nodes

    members-moved : IsPermutation (on n addresses) (nodes_on n addresses)
    members-moved = by_node-moved (λ (m : ℕ). m) (on n addresses) members-nodes

    ends-distinct : IsDistinct nat_eq (map (λ (at : Address). at.node) ends)
    ends-distinct =
        distinct-behind (map (λ (at : Address). at.node) (station_addresses controllers hosts))
        (map (λ (at : Address). at.node) ends)
        (subst (IsDistinct nat_eq) (map-append (λ (at : Address). at.node)
        (station_addresses controllers hosts) ends) parts.nodes)

    bridges-nodes : AllByRecursion IsNode (on n ends)
    bridges-nodes = some-all IsNode (λ (at : Address). at.node)
        (λ (at : Address). at.network == n) ends (ends-nodes bridges left-nodes right-nodes)

    -- an end of a bridge on the network is a member of it
    end-member : (m : ℕ) → Contains (nodes_on n ends) m → Contains (nodes_on n addresses) m
    end-member m h =
        let moved = by_node-moved (λ (m : ℕ). m) (on n ends) bridges-nodes in
        let there = Contains-permutation (nodes_on n ends) (on n ends) m
        (IsPermutation-sym (on n ends) (nodes_on n ends) moved) h in
        let behind = Contains-append_right (on n (station_addresses controllers hosts)) (on n ends)
        m there in
        Contains-permutation (on n addresses) (nodes_on n addresses) m members-moved
        (rw (on-append n (station_addresses controllers hosts) ends) behind)

    some-stations : 1 ≤ length (on_controllers n plant.controllers ++ on_hosts n plant.hosts)
    some-stations =
        let p = λ (at : Address). at.network == n in
        let stations = station_addresses controllers hosts in
        let found = any-some p stations inhabited in
        let count = length-map (filter p stations) (λ (at : Address). at.node) in
        let same = ap (λ (xs : List ℕ). length xs) (stations-on n) in
        let moved = length_permutation (on_controllers n controllers ++ on_hosts n hosts)
        (on_controllers n plant.controllers ++ on_hosts n plant.hosts) (stations-moved n) in
        omega (arith, found, count, same, moved)

    some-members : 1 ≤ length (nodes_on n addresses)
    some-members =
        let own = on_controllers n plant.controllers ++ on_hosts n plant.hosts in
        let all = own ++ flat_map (ends_of n) plant.bridges in
        let one = length_permutation all (on n addresses) (all-moved n) in
        let two = length_permutation (on n addresses) (nodes_on n addresses) members-moved in
        let some = some-stations in
        omega (arith, one, two, some, length-append own (flat_map (ends_of n) plant.bridges))

    plan-is : IsNetPlan (net_from nets.rules addresses ends net)
    plan-is = record {
      members = record {
        some = some-members;
        each = All-permutation IsNode (on n addresses) (nodes_on n addresses) members-moved
            (to-all IsNode (on n addresses) members-nodes);
        rise = by_node-rises (on n addresses) members-nodes
            (some-distinct (λ (at : Address). at.node) (λ (at : Address). at.network == n)
            addresses parts.nodes);
      };
      bridges = record {
        among = All-weaker (Contains (nodes_on n ends)) (Contains (nodes_on n addresses))
            end-member (nodes_on n ends) (All-contains_itself (nodes_on n ends));
        rise = by_node-rises (on n ends) bridges-nodes
            (some-distinct (λ (at : Address). at.node) (λ (at : Address). at.network == n)
            ends ends-distinct);
      };
      fates = fates;
      numbers = record {
        number = known;
        answer = parts.rules.answer;
        rotations = parts.rules.rotations;
        rounds = parts.rules.rounds;
        holds = parts.rules.holds;
      };
    }

    net-is : IsNetOf plant (net_from nets.rules addresses ends net)
    net-is = record {
      plan = plan-is;
      some = some-stations;
      members = IsPermutation-trans (on_controllers n plant.controllers
          ++ on_hosts n plant.hosts ++ flat_map (ends_of n) plant.bridges) (on n addresses)
          (nodes_on n addresses) (all-moved n) members-moved;
      bridges = IsPermutation-trans (flat_map (ends_of n) plant.bridges) (on n ends)
          (nodes_on n ends)
          (rw (on-ends n bridges) (IsPermutation-sym (flat_map (ends_of n) bridges)
          (flat_map (ends_of n) plant.bridges) (ends-moved n)))
          (by_node-moved (λ (m : ℕ). m) (on n ends) bridges-nodes);
    }

  -- ---- all of it

  nets-are : All (IsNetOf plant) plant.nets
  nets-are =
      let make = net_from nets.rules (all_addresses controllers hosts bridges)
      (end_addresses bridges) in
      let Numbered = λ (net : NetTable). net.number ≤ net_limit in
      let Fated = λ (net : NetTable). IsFromTo 1 1000 (length net.fates) in
      let Inhabited = λ (net : NetTable). list_any (λ (at : Address). at.network == net.number)
      (station_addresses controllers hosts) ≡ true in
      let known = both-facts (λ net. Numbered net × Fated net) Inhabited nets.tables
      (both-facts Numbered Fated nets.tables parts.tables.numbers parts.tables.fates)
      parts.inhabited in
      let each = all-of (λ net. (Numbered net × Fated net) × Inhabited net)
      (λ net. IsNetOf plant (make net)) (λ net k. net-is net k.0.0 k.0.1 k.1) nets.tables known in
      All-map (IsNetOf plant) make (by_network number nets.tables)
      (All-permutation (λ net. IsNetOf plant (make net)) nets.tables
      (by_network number nets.tables)
      (by_network-moved number nets.tables parts.tables.numbers)
      (to-all (λ net. IsNetOf plant (make net)) nets.tables each))

  -- the nodes in file order differ
  file-nodes : IsDistinct nat_eq (map node controllers ++ map host_node hosts
      ++ nodes_of_ends bridges)
  file-nodes = subst (IsDistinct nat_eq) (nodes-all controllers hosts bridges) parts.nodes

  file-stations : IsDistinct nat_eq (map node controllers ++ map host_node hosts)
  file-stations = distinct-front (map node controllers ++ map host_node hosts)
      (nodes_of_ends bridges) file-nodes

  moved-controllers : IsPermutation controllers plant.controllers
  moved-controllers = by_node-moved node controllers controllers-nodes

  moved-hosts : IsPermutation hosts plant.hosts
  moved-hosts = by_node-moved host_node hosts hosts-nodes

  moved-bridges : IsPermutation bridges plant.bridges
  moved-bridges = by_node-moved (λ (b : BridgePlan). b.left) bridges left-nodes

  pub each-controller : (P : ControllerPlan → Type 0)
      → ((plan : ControllerPlan) → IsRead plan → P plan) → All P plant.controllers
  each-controller P h = All-permutation P controllers plant.controllers moved-controllers
      (to-all P controllers (all-of IsRead P h controllers parts.controllers_read))

  -- each address stands once
  nodes-once : IsDistinct nat_eq (map node plant.controllers ++ map host_node plant.hosts
      ++ nodes_of_ends plant.bridges)
  nodes-once =
      let file = map node controllers ++ map host_node hosts in
      let own = map node plant.controllers ++ map host_node plant.hosts in
      let stations = IsPermutation-append (map node controllers) (map node plant.controllers)
      (map host_node hosts) (map host_node plant.hosts)
      (IsPermutation-map node controllers plant.controllers moved-controllers)
      (IsPermutation-map host_node hosts plant.hosts moved-hosts) in
      let ends = by_node-flat (λ (b : BridgePlan). b.left ∷ b.right ∷ [])
      (λ (b : BridgePlan). b.left) bridges left-nodes in
      IsDistinct-IsPermutation nat_eq nat_eq_equiv.symm (file ++ nodes_of_ends bridges)
      (own ++ nodes_of_ends plant.bridges)
      (IsPermutation-append file own (nodes_of_ends bridges) (nodes_of_ends plant.bridges) stations
      ends) file-nodes

  controllers-rise : IsStrictlyIncreasing (map node plant.controllers)
  controllers-rise = rw (by_node-nodes node controllers)
      (by_node-rises (map node controllers) (all-map IsNode node controllers controllers-nodes)
      (distinct-front (map node controllers) (map host_node hosts) file-stations))

  hosts-rise : IsStrictlyIncreasing (map host_node plant.hosts)
  hosts-rise = rw (by_node-nodes host_node hosts)
      (by_node-rises (map host_node hosts) (all-map IsNode host_node hosts hosts-nodes)
      (distinct-behind (map node controllers) (map host_node hosts) file-stations))

  bridges-rise : IsStrictlyIncreasing (map (λ (b : BridgePlan). b.left) plant.bridges)
  bridges-rise =
      let left = λ (b : BridgePlan). b.left in
      rw (by_node-nodes left bridges)
      (by_node-rises (map left bridges) (all-map IsNode left bridges left-nodes)
      (distinct-pairs left (λ (b : BridgePlan). b.right) bridges
      (distinct-behind (map node controllers ++ map host_node hosts) (nodes_of_ends bridges)
      file-nodes)))

  bridges-are : All (IsBridgeOf plant) plant.bridges
  bridges-are =
      let On = λ (b : BridgePlan). (has_net nets.tables b.left_net ≡ true)
      × (has_net nets.tables b.right_net ≡ true) in
      let each = all-of (λ b. IsBridgePlan b × On b) (IsBridgeOf plant)
      (λ b k. record {
        plan = k.0;
        left_there = there b.left_net k.1.0;
        right_there = there b.right_net k.1.1;
      }) bridges
      (both-facts IsBridgePlan On bridges parts.bridges_each parts.bridges_on) in
      All-permutation (IsBridgeOf plant) bridges plant.bridges moved-bridges
      (to-all (IsBridgeOf plant) bridges each)

  numbers-rise : IsStrictlyIncreasing (net_numbers plant)
  numbers-rise = rw numbers-are (by_network-rises (map number nets.tables)
      (all-map (λ n. n ≤ net_limit) number nets.tables parts.tables.numbers) parts.tables.distinct)

  -- the parts make a plant
  pub plant-is : IsFromTo 1 1000 scan_time → IsFromTo 1 10000 watchdog
      → IsFromTo 1 controller_limit (length controllers) → length hosts ≤ host_limit
      → length bridges ≤ bridge_limit → IsPlant plant
  plant-is t w count few few_bridges =
      let controller_count = length_permutation controllers plant.controllers moved-controllers in
      let host_count = length_permutation hosts plant.hosts moved-hosts in
      let bridge_count = length_permutation bridges plant.bridges moved-bridges in
      let There = λ (n : ℕ). Contains (net_numbers plant) n in
      record {
        scan_time = t;
        watchdog = w;
        nets = nets-are;
        nets_rise = numbers-rise;
        count = record {
          from = omega (arith, controller_count, count.from);
          to = omega (arith, controller_count, count.to);
        };
        controllers = each-controller PassesTests (λ plan read. read.tests);
        controllers_there = All-permutation (λ (plan : ControllerPlan). There plan.network)
            controllers plant.controllers moved-controllers
            (to-all (λ (plan : ControllerPlan). There plan.network) controllers
            (all-of (λ (plan : ControllerPlan). has_net nets.tables plan.network ≡ true)
            (λ (plan : ControllerPlan). There plan.network) (λ plan h. there plan.network h)
            controllers parts.controllers_on));
        controllers_rise = controllers-rise;
        few = omega (arith, host_count, few);
        hosts = All-permutation IsHostPlan hosts plant.hosts moved-hosts
            (to-all IsHostPlan hosts parts.hosts_each);
        hosts_there = All-permutation (λ (host : HostPlan). There host.network) hosts plant.hosts
            moved-hosts
            (to-all (λ (host : HostPlan). There host.network) hosts
            (all-of (λ (host : HostPlan). has_net nets.tables host.network ≡ true)
            (λ (host : HostPlan). There host.network) (λ host h. there host.network h)
            hosts parts.hosts_on));
        hosts_rise = hosts-rise;
        few_bridges = omega (arith, bridge_count, few_bridges);
        bridges = bridges-are;
        bridges_rise = bridges-rise;
        once = nodes-once;
      }

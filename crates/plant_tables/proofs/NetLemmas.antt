-- The networks that are read.
use Rattle.std.proofs.Common.{◌≡◌, ℕ, ◌≤◌, true, false, not, List, [], ◌∷◌, length}
use Rattle.std.proofs.Common.{map, Option, Some, None, Ok, refl, sym, ap, ◌∙◌, arith}
use Rattle.std.specs.Prelude.{codes, nat_le, nat_eq, option_and_then}
use Rattle.std.specs.List.{list_any, AllByRecursion, IsDistinct}
use Rattle.std.proofs.lemmas.Bool.{and_parts, not-true, leb-true}
use Rattle.std.proofs.lemmas.Bool.Decides.{nat_tests}
use Rattle.toml.specs.Data.{Data, Members, no_members, as_integer, as_str, get_member}
use Rattle.plant_types.specs.declared.net.Fate.{Fate}
use Rattle.plant_types.specs.declared.fault.PlantFault.TheVariants.{BadKey, BadValue, BadNetwork}
use Rattle.plant_types.specs.declared.fault.Place.{Place}
use Rattle.plant_types.specs.Limits.{net_limit}
use Rattle.plant_types.specs.Plans.{IsFromTo, is_routed}
use Rattle.cell_text.specs.Steps.{or_fault}
use Rattle.cell_text.proofs.StepLemmas.{step-ok, unless-ok, some-step, some-guard}
use Rattle.plant_tables.specs.declared.net.NetRules.{NetRules}
use Rattle.plant_tables.specs.declared.net.NetTable.{NetTable}
use Rattle.plant_tables.specs.declared.tables.Version.{Version}
use Rattle.plant_tables.specs.declared.tables.Version.TheVariants.{One, Two}
use Rattle.plant_tables.specs.declared.tables.TableKind.TheVariants as kinds
use Rattle.plant_tables.specs.Refusals.{net_place, network_place}
use Rattle.plant_tables.specs.Tables.{table_passes}
use Rattle.plant_tables.specs.InOrder.{numbered_from}
use Rattle.plant_tables.specs.Keys.{number_from, number_at_key, number_at_or}
use Rattle.plant_tables.specs.Routes.{most_addresses}
use Rattle.plant_tables.specs.Net.{fates_in, has_letters, fates_or, fates_at, rules_from, rules_at}
use Rattle.plant_tables.specs.Net.{net_table, has_net, net_behind, net_tables, Nets, nets_from}
use Rattle.plant_tables.specs.Net.{only_net, numbered_nets, nets_in, nets_of, one_of_nets}
use Rattle.plant_tables.specs.Net.{network_named, network_at}
use Rattle.plant_tables.proofs.Common.{ok_value, some_value}
use Rattle.plant_tables.proofs.KeyLemmas.{number_from-within, number_at_key-within}
use Rattle.plant_tables.proofs.KeyLemmas.{number_or-within}
use Rattle.plant_tables.proofs.TestLemmas.{each_behind-keeps, each_behind-all, each_of-length}
use Rattle.plant_tables.proofs.TestLemmas.{with_positions-count, none-node, distinct-push}

-- ---- what all networks share

pub record AreRules (rules : NetRules) : Type 0 where
  pub answer : IsFromTo 2 1000 rules.answer
  pub rotations : IsFromTo 1 10 rules.rotations
  pub rounds : IsFromTo 1 100 rules.rounds
  pub holds : IsFromTo 1 100000 rules.holds

pub from_to : (low high n : ℕ) → (low ≤ n) × (n ≤ high) → IsFromTo low high n
from_to low high n h = record { from = h.0; to = h.1 }

pub number-is : (place : Place) (key : List ℕ) (default low high : ℕ) (ms : Members) (n : ℕ)
    → low ≤ default → default ≤ high
    → number_at_or place key default low high ms ≡ Ok n → IsFromTo low high n
number-is place key default low high ms n least most h =
    from_to low high n (number_or-within place default low high (get_member key ms) n least most h)

rules-are : (ms : Members) (rules : NetRules) → rules_at ms ≡ Ok rules → AreRules rules
unfolding rules_at
rules-are ms rules h =
    let answer = step-ok (number_at_or net_place (codes "answer") 20 2 1000 ms) _ rules h in
    let rotations = step-ok (number_at_or net_place (codes "rotations") 4 1 10 ms) _ rules
    answer.1.1 in
    let rounds = step-ok (number_at_or net_place (codes "rounds") 2 1 100 ms) _ rules
    rotations.1.1 in
    let holds = step-ok (number_at_or net_place (codes "holds") 100000 1 100000 ms)
    (λ holds. Ok (rules_from answer.0 rotations.0 rounds.0 holds)) rules rounds.1.1 in
    let whole : NetRules = rules_from answer.0 rotations.0 rounds.0 holds.0 in
    let same : whole ≡ rules = ok_value whole rules holds.1.1 in
    let are : AreRules whole = record {
      answer = number-is net_place (codes "answer") 20 2 1000 ms answer.0 (omega arith)
          (omega arith) answer.1.0;
      rotations = number-is net_place (codes "rotations") 4 1 10 ms rotations.0 (omega arith)
          (omega arith) rotations.1.0;
      rounds = number-is net_place (codes "rounds") 2 1 100 ms rounds.0 (omega arith)
          (omega arith) rounds.1.0;
      holds = number-is net_place (codes "holds") 100000 1 100000 ms holds.0 (omega arith)
          (omega arith) holds.1.0;
    } in
    rw (← same) are

-- ---- each network

fates-few : (place : Place) (value : Option Data) (fates : List Fate)
    → fates_or place value ≡ Ok fates → IsFromTo 1 1000 (length fates)
unfolding fates_or
fates-few place None fates h =
    let same = ok_value _ fates h in rw (← same) (from_to 1 1000 1 (omega arith, omega arith))
fates-few place (Some d) fates h =
    let text = step-ok (or_fault (BadValue, place) (as_str d)) _ fates h in
    let letters = unless-ok (has_letters text.0) (BadValue, place)
    (λ letters. fates_in place text.0) fates text.1.1 in
    let ranges = and_parts (nat_le 1 (length text.0)) (nat_le (length text.0) 1000) letters.0 in
    let count = each_of-length _ text.0 fates letters.1 in
    rw count (from_to 1 1000 (length text.0)
    (leb-true 1 (length text.0) ranges.0, leb-true (length text.0) 1000 ranges.1))

-- what is known of a network of a table
record IsNet (earlier : List NetTable) (net : NetTable) : Type 0 where
  number : net.number ≤ net_limit
  fates : IsFromTo 1 1000 (length net.fates)
  fresh : has_net earlier net.number ≡ false

net-is : (earlier : List NetTable) (table : ℕ × Members) (net : NetTable)
    → net_behind earlier table ≡ Ok net → IsNet earlier net
unfolding net_behind
net-is earlier table net h =
    let place = network_place table.0 in
    let keys = step-ok (table_passes place kinds.Network table.1) _ net h in
    let number = step-ok (number_at_key place BadValue (codes "number") 1 net_limit table.1) _ net
    keys.1.1 in
    let fates = step-ok (fates_at place table.1) _ net number.1.1 in
    let fresh = unless-ok (not (has_net earlier number.0)) (BadNetwork, place)
    (λ fresh. Ok (net_table number.0 fates.0)) net fates.1.1 in
    let whole : NetTable = net_table number.0 fates.0 in
    let same : whole ≡ net = ok_value whole net fresh.1 in
    let within = number_at_key-within place BadValue (codes "number") 1 net_limit table.1 number.0
    number.1.0 in
    let is : IsNet earlier whole = record {
      number = within.1;
      fates = fates-few place (get_member (codes "fates") table.1) fates.0 fates.1.0;
      fresh = not-true (has_net earlier number.0) fresh.0;
    } in
    rw (← same) is

-- the networks of a plant
pub record AreTables (nets : List NetTable) : Type 0 where
  pub numbers : AllByRecursion (λ (net : NetTable). net.number ≤ net_limit) nets
  pub fates : AllByRecursion (λ (net : NetTable). IsFromTo 1 1000 (length net.fates)) nets
  pub distinct : IsDistinct nat_eq (map (λ (net : NetTable). net.number) nets)

tables-are : (tables : List Members) (nets : List NetTable) → net_tables tables ≡ Ok nets
    → AreTables nets
unfolding IsDistinct
tables-are tables nets h = record {
  numbers = each_behind-all (λ (net : NetTable). net.number ≤ net_limit) net_behind
      (λ before table net e. (net-is before table net e).number)
      (numbered_from 1 tables) [] nets tt h;
  fates = each_behind-all (λ (net : NetTable). IsFromTo 1 1000 (length net.fates)) net_behind
      (λ before table net e. (net-is before table net e).fates)
      (numbered_from 1 tables) [] nets tt h;
  distinct = each_behind-keeps (λ nets.
      IsDistinct nat_eq (map (λ (net : NetTable). net.number) nets)) net_behind
      (λ before table net e held. distinct-push (λ (net : NetTable). net.number) [] before net held
      (sym (none-node (λ (net : NetTable). net.number) net.number before)
      ∙ (net-is before table net e).fresh))
      (numbered_from 1 tables) [] nets tt h;
}

-- what is known of the networks of a version: there are few, and in version 1 there is one, which
-- has no number
pub record AreNets (version : Version) (nets : Nets) : Type 0 where
  pub rules : AreRules nets.rules
  pub tables : AreTables nets.tables
  pub few : length nets.tables ≤ net_limit
  pub first : version ≡ One → map (λ (net : NetTable). net.number) nets.tables ≡ 0 ∷ []

only-are : (shared : Members) (nets : Nets) → only_net shared ≡ Ok nets → AreNets One nets
unfolding only_net IsDistinct
only-are shared nets h =
    let keys = step-ok (table_passes net_place (kinds.Net One) shared) _ nets h in
    let fates = step-ok (fates_at net_place shared) _ nets keys.1.1 in
    let rules = step-ok (rules_at shared) (λ rules. Ok (nets_from rules (net_table 0 fates.0 ∷ [])))
    nets fates.1.1 in
    let whole : Nets = nets_from rules.0 (net_table 0 fates.0 ∷ []) in
    let same : whole ≡ nets = ok_value whole nets rules.1.1 in
    let few = fates-few net_place (get_member (codes "fates") shared) fates.0 fates.1.0 in
    let are : AreNets One whole = record {
      rules = rules-are shared rules.0 rules.1.0;
      tables = record { numbers = (omega arith, tt); fates = (few, tt); distinct = (tt, tt) };
      few = omega arith;
      first = λ is. refl;
    } in
    rw (← same) are

numbered-are : (shared : Members) (tables : List Members) (nets : Nets)
    → length tables ≤ net_limit
    → numbered_nets shared tables ≡ Ok nets → AreNets Two nets
unfolding numbered_nets
numbered-are shared tables nets most h =
    let keys = step-ok (table_passes net_place (kinds.Net Two) shared) _ nets h in
    let rules = step-ok (rules_at shared) _ nets keys.1.1 in
    let each = step-ok (net_tables tables) (λ each. Ok (nets_from rules.0 each)) nets rules.1.1 in
    let whole : Nets = nets_from rules.0 each.0 in
    let same : whole ≡ nets = ok_value whole nets each.1.1 in
    let count = with_positions-count _ tables each.0 each.1.0 in
    let are : AreNets Two whole = record {
      rules = rules-are shared rules.0 rules.1.0;
      tables = tables-are tables each.0 each.1.0;
      few = omega (arith, count, most);
      first = λ is. absurd (cc);
    } in
    rw (← same) are

in-are : (version : Version) (shared : Members) (tables : List Members) (nets : Nets)
    → length tables ≤ net_limit
    → nets_in version shared tables ≡ Ok nets → AreNets version nets
in-are One shared tables nets most h = only-are shared nets h
in-are Two shared tables nets most h = numbered-are shared tables nets most h

pub nets-are : (version : Version) (shared : Option Members) (tables : List Members) (nets : Nets)
    → length tables ≤ net_limit
    → nets_of version shared tables ≡ Ok nets → AreNets version nets
nets-are version None tables nets most h = in-are version no_members tables nets most h
nets-are version (Some shared) tables nets most h = in-are version shared tables nets most h

-- ---- the network of a station

-- a station is on one of the networks; where that has no number, routes lead over no bridge
pub record IsOn (version : Version) (nets : List NetTable) (network : ℕ) : Type 0 where
  pub there : has_net nets network ≡ true
  pub alone : is_routed network ≡ false → most_addresses version ≡ 1

routed-not : (n : ℕ) → 1 ≤ n → is_routed n ≡ false → ⊥
routed-not n least h = grind (arith, nat_tests, least)

-- one of the networks is named
named-is : (nets : List NetTable) (place : Place) (ms : Members) (network : ℕ)
    → network_named nets place ms ≡ Ok (Some network) → IsOn Two nets network
unfolding network_named
named-is nets place ms network h =
    let d = step-ok (or_fault (BadKey, place) (get_member (codes "network") ms)) _ (Some network)
    h in
    let number = step-ok (or_fault (BadValue, place) (as_integer d.0))
    (λ number. Ok (option_and_then (one_of_nets nets) (number_from 1 net_limit number)))
    (Some network) d.1.1 in
    let found = some-step (one_of_nets nets) (number_from 1 net_limit number.0) network
    (ok_value _ (Some network) number.1.1) in
    let held = some-guard (has_net nets found.0) (Some found.0) network found.1.1 in
    let same : found.0 ≡ network = some_value found.0 network held.1 in
    let within = number_from-within 1 net_limit number.0 found.0 found.1.0 in
    let is : IsOn Two nets found.0 = record {
      there = held.0;
      alone = λ unrouted. absurd (routed-not found.0 within.0 unrouted);
    } in
    rw (← same) is

pub network-is : (version : Version) (nets : List NetTable) (place : Place) (ms : Members)
    (network : ℕ) → (version ≡ One → map (λ (net : NetTable). net.number) nets ≡ 0 ∷ [])
    → network_at version nets place ms ≡ Ok (Some network) → IsOn version nets network
network-is One nets place ms network first h =
    let same : 0 ≡ network = some_value 0 network (ok_value (Some 0) (Some network) h) in
    let is : IsOn One nets 0 = record {
      there = none-node (λ (net : NetTable). net.number) 0 nets
          ∙ ap (list_any (nat_eq 0)) (first refl);
      alone = λ unrouted. refl;
    } in
    rw (← same) is
network-is Two nets place ms network first h = named-is nets place ms network h

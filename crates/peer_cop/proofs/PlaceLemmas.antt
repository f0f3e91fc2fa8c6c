-- Places of input words, and the flags there.
use Rattle.std.proofs.Common.{◌≡◌, ℕ, ◌+◌, ◌-◌, ◌*◌, ◌<◌, ◌≤◌, true}
use Rattle.std.proofs.Common.{refl}
use Rattle.std.proofs.Common.{sym, ◌∙◌, arith}
use Rattle.std.specs.Prelude.{nat_le, nat_lt}
use Rattle.std.proofs.lemmas.Bool.{and_parts, leb-true}
use Rattle.std.proofs.lemmas.Bool.Decides.{nat_tests}
use Rattle.peer_cop.specs.declared.wire.Wire.{Wire}
use Rattle.peer_cop.specs.Words.{AreApart, Feeds}
use Rattle.peer_cop.specs.Places.{HasPlaces, covers, first_place, place_count}

-- a place is among those of a wire
pub record IsAmong (place : ℕ) (wire : Wire) : Type 0 where
  pub from : first_place wire ≤ place
  pub to : place < first_place wire + wire.count

pub among : (place : ℕ) (wire : Wire) → covers place wire ≡ true → IsAmong place wire
among place wire is =
    let parts = and_parts (nat_le (first_place wire) place)
    (nat_lt place (first_place wire + wire.count)) is in
    record { from = leb-true (first_place wire) place parts.0; to = below parts.1 }
  where
    below : nat_lt place (first_place wire + wire.count) ≡ true
        → place < first_place wire + wire.count
    below h = grind (arith, nat_tests)

pub covered : (place : ℕ) (wire : Wire) → IsAmong place wire → covers place wire ≡ true
covered place wire is =
    rw (
      at_least (first_place wire) place is.from,
      less place (first_place wire + wire.count) is.to,
    ) refl
  where
    at_least : (a b : ℕ) → a ≤ b → nat_le a b ≡ true
    at_least a b h = grind (arith, nat_tests)

    less : (a b : ℕ) → a < b → nat_lt a b ≡ true
    less a b h = grind (arith, nat_tests)

-- the places of a wire are there
pub first_within : (wire : Wire) → HasPlaces wire → first_place wire + wire.count ≤ place_count
unfolding first_place
first_within wire is =
    omega (arith, is.node.from, is.node.to, is.drop.from, is.drop.to, is.words.from, is.words.to)

-- the word of a place
same_row : (a b r s : ℕ) → a * 64 + r ≡ b * 64 + s → r < 64 → s < 64 → (a ≡ b) × (r ≡ s)
same_row a b r s e few less = (omega arith, omega arith)

same_column : (a b r s : ℕ) → a * 32 + r ≡ b * 32 + s → r < 32 → s < 32 → (a ≡ b) × (r ≡ s)
same_column a b r s e few less = (omega arith, omega arith)

-- the drop of a wire among all drops, and a place among the words of a drop
abbrev drop_place : Wire → ℕ
drop_place wire = (wire.node - 1) * 32 + (wire.drop - 1)

abbrev word_place : ℕ → Wire → ℕ
word_place place wire = (wire.word - 1) + (place - first_place wire)

place_is : (place : ℕ) (wire : Wire) → IsAmong place wire
    → place ≡ drop_place wire * 64 + word_place place wire
unfolding first_place
place_is place wire is = omega (arith, is.from)

word_few : (place : ℕ) (wire : Wire) → HasPlaces wire → IsAmong place wire
    → word_place place wire < 64
word_few place wire there is = omega (arith, is.from, is.to, there.words.from, there.words.to)

feeds_place : (place : ℕ) (wire : Wire) → HasPlaces wire → IsAmong place wire
    → Feeds wire wire.node wire.drop (word_place place wire + 1)
feeds_place place wire there is = record {
  at_node = refl;
  at_drop = refl;
  from = omega (arith, is.from, there.words.from);
  to = omega (arith, is.from, is.to, there.words.from);
}

-- two wires with a place both feed its word
pub not_apart : (place : ℕ) (one other : Wire) → HasPlaces one → HasPlaces other
    → IsAmong place one → IsAmong place other → ¬ (AreApart one other)
not_apart place one other there too is also apart =
    let (drops, words) = same_row (drop_place one) (drop_place other) (word_place place one)
    (word_place place other) (sym (place_is place one is) ∙ place_is place other also)
    (word_few place one there is) (word_few place other too also) in
    let (nodes, numbers) = same_column (one.node - 1) (other.node - 1) (one.drop - 1)
    (other.drop - 1) drops (omega (arith, there.drop.from, there.drop.to))
    (omega (arith, too.drop.from, too.drop.to)) in
    let node : one.node ≡ other.node =
    omega (arith, nodes, there.node.from, too.node.from) in
    let number : one.drop ≡ other.drop =
    omega (arith, numbers, there.drop.from, too.drop.from) in
    let fed = feeds_place place one there is in
    apart one.node one.drop (word_place place one + 1) fed (record {
      at_node = sym node;
      at_drop = sym number;
      from = omega (arith, words, also.from, too.words.from);
      to = omega (arith, words, also.from, also.to, too.words.from);
    })

-- two wires that feed a word have its place both
pub place_of : ℕ → ℕ → ℕ → ℕ
place_of node number word = ((node - 1) * 32 + (number - 1)) * 64 + (word - 1)

pub fed_place : (wire : Wire) (node number word : ℕ) → HasPlaces wire
    → Feeds wire node number word → IsAmong (place_of node number word) wire
unfolding first_place place_of
fed_place wire node number word there fed = record {
  from = omega (arith, fed.at_node, fed.at_drop, fed.from, there.words.from);
  to = omega (arith, fed.at_node, fed.at_drop, fed.from, fed.to, there.words.from);
}

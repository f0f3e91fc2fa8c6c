-- The wire that feeds a word.
use Rattle.std.proofs.Common.{◌≡◌, ◌<◌, ◌≤◌, ℕ, ◌+◌, Bool, true, false, cond, List, [], ◌∷◌, Option}
use Rattle.std.proofs.Common.{Some}
use Rattle.std.proofs.Common.{refl, sym, ap, ◌∙◌}
use Rattle.std.specs.List.{find}
use Rattle.std.proofs.lemmas.Bool.{and_parts, leb-true, ltb-true}
use Rattle.peer_cop.specs.declared.wire.Wire.{Wire}
use Rattle.word_exchange.specs.Rows.{feeds}

-- what is found passes the test
found-by : {X : Type 0} (p : X → Bool) (y x : X) (later : Option X) (b : Bool) → p y ≡ b
    → cond b (Some y) later ≡ Some x → (later ≡ Some x → p x ≡ true) → p x ≡ true
found-by p y x later true is here more = let same : y ≡ x = cc in ap p (sym same) ∙ is
found-by p y x later false is there more = more there

pub find-passes : {X : Type 0} (p : X → Bool) (xs : List X) (x : X) → find p xs ≡ Some x
    → p x ≡ true
find-passes p [] x found = absurd cc
find-passes p (y ∷ xs) x found =
    found-by p y x (find p xs) (p y) refl found (find-passes p xs x)

feeds-parts : (node number word : ℕ) (wire : Wire) → feeds node number word wire ≡ true
    → (wire.word ≤ word) × (word < wire.word + wire.count)
feeds-parts node number word wire is =
    let range = (and_parts _ _ is).1 in
    let parts = and_parts _ _ range in
    (leb-true wire.word word parts.0, ltb-true word (wire.word + wire.count) parts.1)

pub feeds-from : (node number word : ℕ) (wire : Wire) → feeds node number word wire ≡ true
    → wire.word ≤ word
feeds-from node number word wire is = (feeds-parts node number word wire is).0

pub feeds-to : (node number word : ℕ) (wire : Wire) → feeds node number word wire ≡ true
    → word < wire.word + wire.count
feeds-to node number word wire is = (feeds-parts node number word wire is).1

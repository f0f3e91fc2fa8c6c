-- Items in the order of their nodes.
use Rattle.std.proofs.Common.{◌≡◌, ℕ, suc, zero, ◌+◌, ◌≤◌, ◌<◌, ◌==◌, Bool, true, false, not, ◌&&◌}
use Rattle.std.proofs.Common.{List, [], ◌∷◌, ◌++◌, length, get_or, nat_cmp, eq-eqb, refl, sym, ap}
use Rattle.std.proofs.Common.{ap₂, subst, ◌∙◌, append_assoc, arith}
use Rattle.std.specs.Prelude.{filter, map, if◌then◌else◌, nat_eq}
use Rattle.std.specs.List.{flat_map, range_with_len, All, AllByRecursion, IsDistinct}
use Rattle.std.specs.List.Sorted.{IsNonDecreasingBy, IsPermutation, IsStableByKey}
use Rattle.std.specs.List.Sorted.{IsStrictlyIncreasing, IsStrictlySortedBy, ties}
use Rattle.std.specs.Ordering.{is_lt}
use Rattle.std.specs.declared.cmp.Ordering.TheVariants.{Less}
use Rattle.std.proofs.lemmas.Bool.{ne_eqb, eqb-true}
use Rattle.std.proofs.lemmas.Bool.Decides.{nat_tests}
use Rattle.std.proofs.lemmas.List.Sorted.{IsNonDecreasingBy-drop, All-permutation}
use Rattle.std.proofs.lemmas.List.Sorted.{IsPermutation-refl, IsPermutation-trans}
use Rattle.std.proofs.lemmas.List.Sorted.{IsPermutation-append_right, IsPermutation-append_left}
use Rattle.std.proofs.lemmas.List.Sorted.{IsPermutation-append_comm}
use Rattle.std.proofs.lemmas.List.Concat.{flat_map-append}
use Rattle.std.proofs.lemmas.Map.Keys.{IsDistinct-IsPermutation, IsStrictlyIncreasing-from_sorted}
use Rattle.std.proofs.lemmas.Cmp.{nat_eq_equiv}
use Rattle.std.proofs.lemmas.List.{map-append}
use Rattle.std.proofs.lemmas.List.Elements.{All-nil, All-cons, All-head, All-tail}
use Rattle.plant_types.specs.Limits.{net_limit}
use Rattle.plant_types.specs.Plans.{IsNode}
use Rattle.plant_loader.specs.Rising.{in_turn, by_node, by_network}

-- items that rise from a number on
abbrev pub RisesFrom : {A : Type 0} → (A → ℕ) → ℕ → List A → Type 0
RisesFrom node a [] = Unit {0}
RisesFrom node a (x ∷ xs) = (a ≤ node x) × RisesFrom node (node x) xs

-- they rise from a lower number too
rises-lower : {A : Type 0} (node : A → ℕ) (a b : ℕ) (xs : List A) → b ≤ a → RisesFrom node a xs
    → RisesFrom node b xs
rises-lower node a b [] le h = tt
rises-lower node a b (x ∷ xs) le h = (omega (arith, le, h.0), h.1)

-- no item has a node below where they rise from
none-below : {A : Type 0} (node : A → ℕ) (k a : ℕ) (xs : List A) → k < a → RisesFrom node a xs
    → filter (λ x. node x == k) xs ≡ []
none-below node k a [] below h = refl
none-below node k a (x ∷ xs) below h =
    let apart : (node x == k) ≡ false =
    ne_eqb (node x) k (λ e. absurd (omega (arith, e, below, h.0))) in
    rw apart (none-below node k (node x) xs (omega (arith, below, h.0)) h.1)

-- an item of a lower node is none of those from a node on
skip : {A : Type 0} (node : A → ℕ) (x : A) (xs : List A) (n a : ℕ) → node x < a
    → flat_map (λ k. filter (λ y. node y == k) (x ∷ xs)) (range_with_len a n)
    ≡ flat_map (λ k. filter (λ y. node y == k) xs) (range_with_len a n)
skip node x xs zero a below = refl
skip node x xs (suc n) a below =
    let apart : (node x == a) ≡ false = ne_eqb (node x) a (λ e. absurd (omega (arith, e, below))) in
    rw (apart, skip node x xs n (a + 1) (omega (arith, below))) refl

-- nothing has no items of any node
nothing : {A : Type 0} (node : A → ℕ) (n a : ℕ)
    → flat_map (λ k. filter (λ y. node y == k) []) (range_with_len a n) ≡ []
nothing node zero a = refl
nothing node (suc n) a = nothing node n (a + 1)

-- the items of one node, and those behind it
take-here : {A : Type 0} (node : A → ℕ) (n a : ℕ) (x : A) (xs : List A) → node x ≡ a
    → flat_map (λ k. filter (λ y. node y == k) xs) (range_with_len a (suc n)) ≡ xs
    → flat_map (λ k. filter (λ y. node y == k) (x ∷ xs)) (range_with_len a (suc n)) ≡ x ∷ xs
take-here node n a x xs e rest =
    let here : (node x == a) ≡ true = eq-eqb (node x) a e in
    rw (here, skip node x xs n (a + 1) (omega (arith, e))) (ap (λ ys. x ∷ ys) rest)

-- no item of the first node
take-later : {A : Type 0} (node : A → ℕ) (n a : ℕ) (x : A) (xs : List A) → a < node x
    → RisesFrom node (node x) xs
    → flat_map (λ k. filter (λ y. node y == k) (x ∷ xs)) (range_with_len (a + 1) n) ≡ x ∷ xs
    → flat_map (λ k. filter (λ y. node y == k) (x ∷ xs)) (range_with_len a (suc n)) ≡ x ∷ xs
take-later node n a x xs later rises rest =
    let h : RisesFrom node (a + 1) (x ∷ xs) = (omega (arith, later), rises) in
    rw (none-below node a (a + 1) (x ∷ xs) (omega arith) h) rest

-- items that rise are those of each node in turn
mutual-step : {A : Type 0} (node : A → ℕ) (n a : ℕ) (x : A) (xs : List A) (b : Bool)
    → (node x == a) ≡ b → a ≤ node x → RisesFrom node (node x) xs
    → (node x ≡ a → flat_map (λ k. filter (λ y. node y == k) xs) (range_with_len a (suc n)) ≡ xs)
    → (a < node x
    → flat_map (λ k. filter (λ y. node y == k) (x ∷ xs)) (range_with_len (a + 1) n) ≡ x ∷ xs)
    → flat_map (λ k. filter (λ y. node y == k) (x ∷ xs)) (range_with_len a (suc n)) ≡ x ∷ xs
mutual-step node n a x xs true is low rises here later =
    let e : node x ≡ a = eqb-true (node x) a is in take-here node n a x xs e (here e)
mutual-step node n a x xs false is low rises here later =
    let l : a < node x = grind (arith, nat_tests) in take-later node n a x xs l rises (later l)

all-later : {A : Type 0} (node : A → ℕ) (a b : ℕ) (xs : List A) → a ≡ b
    → AllByRecursion (λ x. node x < a) xs → AllByRecursion (λ x. node x < b) xs
all-later node a b xs e h = rw (← e) h

rising-same : {A : Type 0} (node : A → ℕ) (n a : ℕ) (xs : List A) → RisesFrom node a xs
    → AllByRecursion (λ x. node x < a + n) xs
    → flat_map (λ k. filter (λ y. node y == k) xs) (range_with_len a n) ≡ xs
rising-same node n a [] h most = nothing node n a
rising-same node zero a (x ∷ xs) h most = absurd (omega (arith, h.0, most.0))
rising-same node (suc n) a (x ∷ xs) h most = mutual-step node n a x xs (node x == a) refl h.0 h.1
    (λ e. rising-same node (suc n) a xs (rises-lower node (node x) a xs h.0 h.1) most.1)
    (λ l. rising-same node n (a + 1) (x ∷ xs) (omega (arith, l), h.1)
    (all-later node (a + suc n) ((a + 1) + n) (x ∷ xs) (omega arith) most))

-- items that stand in no lower place than those before them rise
rises-from : {A : Type 0} (node : A → ℕ) (a : ℕ) (xs : List A) → IsNonDecreasingBy node xs
    → ((d : A) → 0 < length xs → a ≤ node
    (get_or xs 0 d)) → RisesFrom node a xs
rises-from node a [] h low = tt
rises-from node a (x ∷ xs) h low = (
  low x (omega arith),
  rises-from node (node x) xs (IsNonDecreasingBy-drop node 1 (x ∷ xs) h)
      (λ d some. h 0 1 d (omega arith) (omega (arith, some))),
)

-- what a stable sort by node makes of items is the items by node
same_test : (a k : ℕ) → not (is_lt (nat_cmp k a)) && not (is_lt (nat_cmp a k)) ≡ (a == k)
same_test a k = grind (arith, nat_tests)

filter-same : {A : Type 0} (p q : A → Bool) (xs : List A) → ((x : A) → p x ≡ q x)
    → filter p xs ≡ filter q xs
filter-same p q [] e = refl
filter-same p q (x ∷ xs) e = rw (e x, filter-same p q xs e) refl

of-node : {A : Type 0} (node : A → ℕ) (x : A) (k : ℕ) (xs ys : List A) → node x ≡ k
    → IsStableByKey node nat_cmp xs ys
    → filter (λ y. node y == k) ys ≡ filter (λ y. node y == k) xs
of-node {A} node x k xs ys e stable =
    let test = λ (y : A). same_test (node y) (node x) ∙ ap (λ n. node y == n) e in
    sym (filter-same (ties (λ y z. is_lt (nat_cmp (node y) (node z))) x) (λ y. node y == k) ys test)
    ∙ stable x
    ∙ filter-same (ties (λ y z. is_lt (nat_cmp (node y) (node z))) x) (λ y. node y == k) xs test

-- the first of two lists that are one
first-same : {A : Type 0} (x y : A) (xs ys : List A) → x ∷ xs ≡ y ∷ ys → x ≡ y
first-same x y xs ys h = cc

found-either : {A : Type 0} (p : A → Bool) (y : A) (ys rest : List A) (x : A) (b : Bool) → p y ≡ b
    → (filter p ys ≡ x ∷ rest → p x ≡ true)
    → (if b then y ∷ filter p ys else filter p ys) ≡ x ∷ rest → p x ≡ true
found-either p y ys rest x true is more h = rw (← first-same y x (filter p ys) rest h) is
found-either p y ys rest x false is more h = more h

-- an item that a test finds passes it
found-passes : {A : Type 0} (p : A → Bool) (xs rest : List A) (x : A)
    → filter p xs ≡ x ∷ rest → p x ≡ true
found-passes p [] rest x h = absurd (cc)
found-passes p (y ∷ ys) rest x h =
    found-either p y ys rest x (p y) refl (found-passes p ys rest x) h

-- the items of a node are the same, found in either list
node-either : {A : Type 0} (node : A → ℕ) (k : ℕ) (xs ys here there : List A)
    → filter (λ y. node y == k) xs ≡ here → filter (λ y. node y == k) ys ≡ there
    → IsStableByKey node nat_cmp xs ys → filter (λ y. node y == k) ys ≡ filter (λ y. node y == k) xs
node-either node k xs ys [] [] h t stable = t ∙ sym h
node-either node k xs ys (x ∷ here) there h t stable =
    of-node node x k xs ys
    (eqb-true (node x) k (found-passes (λ y. node y == k) xs here x h)) stable
node-either node k xs ys [] (y ∷ there) h t stable =
    of-node node y k xs ys
    (eqb-true (node y) k (found-passes (λ y. node y == k) ys there y t)) stable

nodes-same : {A : Type 0} (node : A → ℕ) (xs ys : List A) (n a : ℕ)
    → IsStableByKey node nat_cmp xs ys
    → flat_map (λ k. filter (λ y. node y == k) ys) (range_with_len a n)
    ≡ flat_map (λ k. filter (λ y. node y == k) xs) (range_with_len a n)
nodes-same node xs ys zero a stable = refl
nodes-same node xs ys (suc n) a stable =
    ap₂ (λ here more. here ++ more) (node-either node a xs ys (filter (λ y. node y == a) xs)
    (filter (λ y. node y == a) ys) refl refl stable)
    (nodes-same node xs ys n (a + 1) stable)

-- a number is one of so many from a least one on
abbrev pub IsAmong : ℕ → ℕ → ℕ → Type 0
IsAmong a n number = (a ≤ number) × (number < a + n)

-- items of such numbers
rises-one : {A : Type 0} (node : A → ℕ) (n a : ℕ) (xs : List A) (d : A)
    → AllByRecursion (λ x. IsAmong a n (node x)) xs → 0 < length xs → a ≤ node (get_or xs 0 d)
rises-one node n a [] d all some = absurd (omega (arith, some))
rises-one node n a (x ∷ xs) d all some = all.0.0

most-below : {A : Type 0} (node : A → ℕ) (n a : ℕ) (xs : List A)
    → AllByRecursion (λ x. IsAmong a n (node x)) xs
    → AllByRecursion (λ x. node x < a + n) xs
most-below node n a [] all = tt
most-below node n a (x ∷ xs) all = (all.0.1, most-below node n a xs all.1)

-- items that rise are those in turn
rising-in_turn : {A : Type 0} (node : A → ℕ) (n a : ℕ) (xs : List A) → IsNonDecreasingBy node xs
    → AllByRecursion (λ x. IsAmong a n (node x)) xs
    → in_turn (range_with_len a n) node xs ≡ xs
rising-in_turn node n a xs h all = rising-same node n a xs
    (rises-from node a xs h (λ d some. rises-one node n a xs d all some))
    (most-below node n a xs all)

-- what holds of each item of a list, as a fact of its items
pub to-all : {A : Type 0} (P : A → Type 0) (xs : List A) → AllByRecursion P xs → All P xs
to-all P [] h = All-nil P
to-all P (x ∷ xs) h = All-cons P x xs h.0 (to-all P xs h.1)

pub from-all : {A : Type 0} (P : A → Type 0) (xs : List A) → All P xs → AllByRecursion P xs
from-all P [] h = tt
from-all P (x ∷ xs) h = (All-head P x xs h, from-all P xs (All-tail P x xs h))

-- a stable sort by a number gives the items in turn
pub sorted-in_turn : {A : Type 0} (node : A → ℕ) (n a : ℕ) (xs ys : List A)
    → IsNonDecreasingBy node ys
    → IsStableByKey node nat_cmp xs ys → IsPermutation xs ys
    → AllByRecursion (λ x. IsAmong a n (node x)) xs → ys ≡ in_turn (range_with_len a n) node xs
sorted-in_turn node n a xs ys h stable moved all =
    let every = from-all (λ x. IsAmong a n (node x)) ys
    (All-permutation (λ x. IsAmong a n (node x)) xs ys moved
    (to-all (λ x. IsAmong a n (node x)) xs all)) in
    sym (rising-in_turn node n a ys h every) ∙ nodes-same node xs ys n a stable

-- addresses are 1 to 64, and numbers of networks 0 to 8
pub nodes-in : {A : Type 0} (node : A → ℕ) (xs : List A) → AllByRecursion (λ x. IsNode (node x)) xs
    → AllByRecursion (λ x. IsAmong 1 64 (node x)) xs
nodes-in node [] all = tt
nodes-in node (x ∷ xs) all = ((all.0.from, omega (arith, all.0.to)), nodes-in node xs all.1)

pub networks-in : {A : Type 0} (number : A → ℕ) (xs : List A)
    → AllByRecursion (λ x. number x ≤ net_limit) xs
    → AllByRecursion (λ x. IsAmong 0 9 (number x)) xs
networks-in number [] all = tt
networks-in number (x ∷ xs) all =
    ((omega arith, omega (arith, all.0)), networks-in number xs all.1)

pub sorted-by_node : {A : Type 0} (node : A → ℕ) (xs ys : List A) → IsNonDecreasingBy node ys
    → IsStableByKey node nat_cmp xs ys → IsPermutation xs ys
    → AllByRecursion (λ x. IsNode (node x)) xs → ys ≡ by_node node xs
sorted-by_node node xs ys h stable moved all =
    sorted-in_turn node 64 1 xs ys h stable moved (nodes-in node xs all)

pub sorted-by_network : {A : Type 0} (number : A → ℕ) (xs ys : List A)
    → IsNonDecreasingBy number ys
    → IsStableByKey number nat_cmp xs ys → IsPermutation xs ys
    → AllByRecursion (λ x. number x ≤ net_limit) xs → ys ≡ by_network number xs
sorted-by_network number xs ys h stable moved all =
    sorted-in_turn number 9 0 xs ys h stable moved (networks-in number xs all)

apart-step : {A : Type 0} (node : A → ℕ) (a k : ℕ) (x : A) (xs : List A) (b : Bool)
    → (node x == a) ≡ b → a < k
    → filter (λ x. node x == k) (filter (λ x. not (node x == a)) xs) ≡ filter (λ x. node x == k) xs
    → filter (λ x. node x == k) (filter (λ x. not (node x == a)) (x ∷ xs))
    ≡ filter (λ x. node x == k) (x ∷ xs)
apart-step node a k x xs true is later h =
    let e : node x ≡ a = eqb-true (node x) a is in
    let apart : (node x == k) ≡ false =
    ne_eqb (node x) k (λ f. absurd (omega (arith, e, f, later))) in
    rw (is, apart) h
apart-step node a k x xs false is later h = rw (is, h) refl

-- one test and the other part the items; what the other keeps of a later node is all of it
apart-kept : {A : Type 0} (node : A → ℕ) (a k : ℕ) (xs : List A) → a < k
    → filter (λ x. node x == k) (filter (λ x. not (node x == a)) xs) ≡ filter (λ x. node x == k) xs
apart-kept node a k [] later = refl
apart-kept node a k (x ∷ xs) later =
    apart-step node a k x xs (node x == a) refl later (apart-kept node a k xs later)

later-kept : {A : Type 0} (node : A → ℕ) (a : ℕ) (xs : List A) (n b : ℕ) → a < b
    → flat_map (λ k. filter (λ x. node x == k) (filter (λ x. not (node x == a)) xs))
    (range_with_len b n)
    ≡ flat_map (λ k. filter (λ x. node x == k) xs) (range_with_len b n)
later-kept node a xs zero b later = refl
later-kept node a xs (suc n) b later = ap₂ (λ here more. here ++ more)
    (apart-kept node a b xs later) (later-kept node a xs n (b + 1) (omega (arith, later)))

-- items of other nodes than the first are of later ones
others-step : {A : Type 0} (node : A → ℕ) (a n : ℕ) (x : A) (xs : List A) (b : Bool)
    → (node x == a) ≡ b → (a ≤ node x) × (node x < a + suc n)
    → AllByRecursion (λ x. (a + 1 ≤ node x) × (node x < (a + 1) + n))
    (filter (λ x. not (node x == a)) xs)
    → AllByRecursion (λ x. (a + 1 ≤ node x) × (node x < (a + 1) + n))
    (filter (λ x. not (node x == a)) (x ∷ xs))
others-step node a n x xs true is in_range h = rw is h
others-step node a n x xs false is in_range h =
    let later : a + 1 ≤ node x = grind (arith, nat_tests, in_range.0) in
    let most : node x < (a + 1) + n = omega (arith, in_range.1) in
    rw is ((later, most), h)

others-later : {A : Type 0} (node : A → ℕ) (a n : ℕ) (xs : List A)
    → AllByRecursion (λ x. (a ≤ node x) × (node x < a + suc n)) xs
    → AllByRecursion (λ x. (a + 1 ≤ node x) × (node x < (a + 1) + n))
    (filter (λ x. not (node x == a)) xs)
others-later node a n [] all = tt
others-later node a n (x ∷ xs) all =
    others-step node a n x xs (node x == a) refl all.0 (others-later node a n xs all.1)

-- what stands for items of either part stands for all of them
parts-step : {A B : Type 0} (f : A → List B) (p : A → Bool) (x : A) (xs : List A) (b : Bool)
    → p x ≡ b
    → IsPermutation (flat_map f xs) (flat_map f (filter p xs)
    ++ flat_map f (filter (λ x. not (p x)) xs))
    → IsPermutation (f x ++ flat_map f xs) (flat_map f (filter p (x ∷ xs))
    ++ flat_map f (filter (λ x. not (p x)) (x ∷ xs)))
parts-step f p x xs true is h =
    let here = flat_map f (filter p xs) in
    let others = flat_map f (filter (λ x. not (p x)) xs) in
    rw (is, append_assoc (f x) here others)
    (IsPermutation-append_right (f x) (flat_map f xs) (here ++ others) h)
parts-step f p x xs false is h =
    let here = flat_map f (filter p xs) in
    let others = flat_map f (filter (λ x. not (p x)) xs) in
    let front = IsPermutation-append_left others (f x ++ here) (here ++ f x)
    (IsPermutation-append_comm (f x) here) in
    let moved : IsPermutation ((f x ++ here) ++ others) (here ++ (f x ++ others)) =
    rw (← append_assoc here (f x) others) front in
    let first : IsPermutation (f x ++ flat_map f xs) ((f x ++ here) ++ others) =
    rw (append_assoc (f x) here others)
    (IsPermutation-append_right (f x) (flat_map f xs) (here ++ others) h) in
    rw is (IsPermutation-trans (f x ++ flat_map f xs) ((f x ++ here) ++ others)
    (here ++ (f x ++ others)) first moved)

parts-moved : {A B : Type 0} (f : A → List B) (p : A → Bool) (xs : List A)
    → IsPermutation (flat_map f xs) (flat_map f (filter p xs)
    ++ flat_map f (filter (λ x. not (p x)) xs))
parts-moved f p [] = IsPermutation-refl []
parts-moved f p (x ∷ xs) = parts-step f p x xs (p x) refl (parts-moved f p xs)

-- what stands for items in turn is what stands for the items, in another order
moved-from : {A B : Type 0} (f : A → List B) (node : A → ℕ) (n a : ℕ) (xs : List A)
    → AllByRecursion (λ x. IsAmong a n (node x)) xs
    → IsPermutation (flat_map f xs) (flat_map f (in_turn (range_with_len a n) node xs))
moved-from f node zero a [] all = IsPermutation-refl []
moved-from f node zero a (x ∷ xs) all = absurd (omega (arith, all.0.0, all.0.1))
moved-from f node (suc n) a xs all =
    let here = filter (λ x. node x == a) xs in
    let others = filter (λ x. not (node x == a)) xs in
    let behind = in_turn (range_with_len (a + 1) n) node xs in
    let moved : IsPermutation (flat_map f others) (flat_map f behind) =
    rw (← later-kept node a xs n (a + 1) (omega arith))
    (moved-from f node n (a + 1) others (others-later node a n xs all)) in
    rw (flat_map-append f here behind)
    (IsPermutation-trans (flat_map f xs) (flat_map f here ++ flat_map f others)
    (flat_map f here ++ flat_map f behind)
    (parts-moved f (λ x. node x == a) xs)
    (IsPermutation-append_right (flat_map f here) (flat_map f others) (flat_map f behind) moved))

-- each item alone
alone : {A : Type 0} (xs : List A) → flat_map (λ x. x ∷ []) xs ≡ xs
alone [] = refl
alone (x ∷ xs) = ap (λ ys. x ∷ ys) (alone xs)

in_turn-moved : {A : Type 0} (node : A → ℕ) (n a : ℕ) (xs : List A)
    → AllByRecursion (λ x. IsAmong a n (node x)) xs
    → IsPermutation xs (in_turn (range_with_len a n) node xs)
in_turn-moved node n a xs all =
    let sorted = in_turn (range_with_len a n) node xs in
    let moved = moved-from (λ x. x ∷ []) node n a xs all in
    subst (λ ys. IsPermutation ys sorted) (alone xs)
    (subst (IsPermutation (flat_map (λ x. x ∷ []) xs)) (alone sorted) moved)

pub by_node-flat : {A B : Type 0} (f : A → List B) (node : A → ℕ) (xs : List A)
    → AllByRecursion (λ x. IsNode (node x)) xs
    → IsPermutation (flat_map f xs) (flat_map f (by_node node xs))
by_node-flat f node xs all = moved-from f node 64 1 xs (nodes-in node xs all)

pub by_node-moved : {A : Type 0} (node : A → ℕ) (xs : List A)
    → AllByRecursion (λ x. IsNode (node x)) xs → IsPermutation xs (by_node node xs)
by_node-moved node xs all = in_turn-moved node 64 1 xs (nodes-in node xs all)

pub by_network-moved : {A : Type 0} (number : A → ℕ) (xs : List A)
    → AllByRecursion (λ x. number x ≤ net_limit) xs → IsPermutation xs (by_network number xs)
by_network-moved number xs all = in_turn-moved number 9 0 xs (networks-in number xs all)

-- numbers in turn rise
block-step : (k x : ℕ) (xs ys : List ℕ) (b : Bool) → (x == k) ≡ b
    → RisesFrom (λ n. n) k (filter (λ x. x == k) xs ++ ys)
    → RisesFrom (λ n. n) k (filter (λ x. x == k) (x ∷ xs) ++ ys)
block-step k x xs ys true is h =
    let e : x ≡ k = eqb-true x k is in
    rw is (omega (arith, e), rw e h)
block-step k x xs ys false is h = rw is h

block-rises : (k : ℕ) (xs ys : List ℕ) → RisesFrom (λ n. n) k ys
    → RisesFrom (λ n. n) k (filter (λ x. x == k) xs ++ ys)
block-rises k [] ys h = h
block-rises k (x ∷ xs) ys h = block-step k x xs ys (x == k) refl (block-rises k xs ys h)

numbers-rise : (xs : List ℕ) (n a : ℕ)
    → RisesFrom (λ n. n) a (flat_map (λ k. filter (λ x. x == k) xs) (range_with_len a n))
numbers-rise xs zero a = tt
numbers-rise xs (suc n) a =
    let behind = flat_map (λ k. filter (λ x. x == k) xs) (range_with_len (a + 1) n) in
    block-rises a xs behind
    (rises-lower (λ n. n) (a + 1) a behind (omega arith) (numbers-rise xs n (a + 1)))

-- numbers that rise and differ are sorted
later-less : (a b : ℕ) (xs : List ℕ) → a ≤ b → RisesFrom (λ n. n) b xs
    → AllByRecursion (λ y. nat_eq a y ≡ false) xs → AllByRecursion (λ y. nat_cmp a y ≡ Less) xs
later-less a b [] le h other = tt
later-less a b (x ∷ xs) le h other =
    let low : a ≤ x = omega (arith, le, h.0) in
    let less : nat_cmp a x ≡ Less = grind (arith, nat_tests, low, other.0) in
    (less, later-less a x xs low h.1 other.1)

rising-sorted : (a : ℕ) (xs : List ℕ) → RisesFrom (λ n. n) a xs → IsDistinct nat_eq xs
    → IsStrictlySortedBy nat_cmp xs
unfolding IsDistinct IsStrictlySortedBy
rising-sorted a [] h other = tt
rising-sorted a (x ∷ xs) h other =
    (later-less x x xs (omega arith) h.1 other.0, rising-sorted x xs h.1 other.1)

in_turn-rises : (xs : List ℕ) (n a : ℕ) → AllByRecursion (IsAmong a n) xs
    → IsDistinct nat_eq xs
    → IsStrictlyIncreasing (in_turn (range_with_len a n) (λ n. n) xs)
in_turn-rises xs n a all other =
    let sorted = in_turn (range_with_len a n) (λ n. n) xs in
    let others = IsDistinct-IsPermutation nat_eq nat_eq_equiv.symm xs sorted
    (in_turn-moved (λ n. n) n a xs all) other in
    IsStrictlyIncreasing-from_sorted sorted (rising-sorted a sorted (numbers-rise xs n a) others)

pub by_node-rises : (xs : List ℕ) → AllByRecursion IsNode xs → IsDistinct nat_eq xs
    → IsStrictlyIncreasing (by_node (λ n. n) xs)
by_node-rises xs all other = in_turn-rises xs 64 1 (nodes-in (λ n. n) xs all) other

pub by_network-rises : (xs : List ℕ) → AllByRecursion (λ n. n ≤ net_limit) xs
    → IsDistinct nat_eq xs
    → IsStrictlyIncreasing (by_network (λ n. n) xs)
by_network-rises xs all other = in_turn-rises xs 9 0 (networks-in (λ n. n) xs all) other

-- the nodes of the items by node
filter-step : {A : Type 0} (node : A → ℕ) (k : ℕ) (x : A) (xs : List A) (b : Bool)
    → (node x == k) ≡ b
    → map node (filter (λ x. node x == k) xs) ≡ filter (λ n. n == k) (map node xs)
    → map node (filter (λ x. node x == k) (x ∷ xs)) ≡ filter (λ n. n == k) (map node (x ∷ xs))
filter-step node k x xs true is h = rw (is, h) refl
filter-step node k x xs false is h = rw (is, h) refl

filter-nodes : {A : Type 0} (node : A → ℕ) (k : ℕ) (xs : List A)
    → map node (filter (λ x. node x == k) xs) ≡ filter (λ n. n == k) (map node xs)
filter-nodes node k [] = refl
filter-nodes node k (x ∷ xs) = filter-step node k x xs (node x == k) refl (filter-nodes node k xs)

nodes-from : {A : Type 0} (node : A → ℕ) (xs : List A) (n a : ℕ)
    → map node (flat_map (λ k. filter (λ x. node x == k) xs) (range_with_len a n))
    ≡ flat_map (λ k. filter (λ m. m == k) (map node xs)) (range_with_len a n)
nodes-from node xs zero a = refl
nodes-from node xs (suc n) a =
    map-append node (filter (λ x. node x == a) xs)
    (flat_map (λ k. filter (λ x. node x == k) xs) (range_with_len (a + 1) n)) ∙ ap₂
    (λ here more. here ++ more) (filter-nodes node a xs) (nodes-from node xs n (a + 1))

pub by_node-nodes : {A : Type 0} (node : A → ℕ) (xs : List A)
    → map node (by_node node xs) ≡ by_node (λ n. n) (map node xs)
by_node-nodes node xs = nodes-from node xs 64 1

pub by_network-numbers : {A : Type 0} (number : A → ℕ) (xs : List A)
    → map number (by_network number xs) ≡ by_network (λ n. n) (map number xs)
by_network-numbers number xs = nodes-from number xs 9 0

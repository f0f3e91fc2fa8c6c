-- Routes that are read word by word.
use Rattle.std.proofs.Common.{◌≡◌, ℕ, zero, suc, ◌+◌, ◌≤◌, ◌<◌, ◌==◌, Bool, true, false, not}
use Rattle.std.proofs.Common.{◌&&◌, List}
use Rattle.std.proofs.Common.{[], ◌∷◌, ◌++◌, length, map, get_or, Some, None, refl, sym, ap}
use Rattle.std.proofs.Common.{◌∙◌, Bor, arith, le-leb}
use Rattle.std.specs.Prelude.{nat_le, if◌then◌else◌}
use Rattle.std.specs.List.{list_all}
use Rattle.std.proofs.lemmas.Bool.{and_parts, and_from, eq-eqb}
use Rattle.std.proofs.lemmas.Bool.Decides.{nat_tests}
use Rattle.std.proofs.lemmas.List.Folds.{list_all-append, list_all-map, list_all_at}
use Rattle.std.proofs.lemmas.List.Splits.{length-slice_split}
use Rattle.plant_types.specs.Limits.{is_up_to, most_address}
use Rattle.plant_types.specs.Numerals.{is_numeral, value_of}
use Rattle.cell_text.proofs.StepLemmas.{some-guard}
use Rattle.plant_tables.specs.declared.tables.Version.{Version}
use Rattle.plant_tables.specs.Numerals.{is_numeral_within, numeral_within}
use Rattle.plant_tables.specs.Routes.{route_words, most_addresses, is_route, addresses_in}
use Rattle.plant_tables.specs.Routes.{begins_elsewhere, leads_from, route_from}
use Rattle.plant_tables.proofs.Common.{some_value}

-- a test that fails at one side fails
and-left : (a b : Bool) → a ≡ false → a && b ≡ false
and-left a b h = rw h refl

and-right : (a b : Bool) → b ≡ false → a && b ≡ false
and-right true b h = h
and-right false b h = refl

-- ---- whether a route reads

-- more words than a route may have
pub route-long : (version : Version) (word : List ℕ) (n : ℕ) → n ≡ most_addresses version
    → n < length (route_words word) → is_route version word ≡ false
route-long version word n most more =
    let long : nat_le (length (route_words word)) (most_addresses version) ≡ false =
    rw (← most) (grind (arith, nat_tests, more)) in
    and-left (nat_le (length (route_words word)) (most_addresses version))
    (list_all is_numeral (route_words word)) long

-- a word that is no number
pub route-wrong : (version : Version) (word : List ℕ) (n : ℕ) (part : List ℕ)
    → n < length (route_words word)
    → part ≡ get_or (route_words word) n part → is_numeral part ≡ false
    → is_route version word ≡ false
route-wrong version word n part more there not_number =
    and-right (nat_le (length (route_words word)) (most_addresses version))
    (list_all is_numeral (route_words word))
    (list_all_at is_numeral (route_words word) n part more
    (sym (ap is_numeral there) ∙ not_number))

-- one word more that passes a test
pub all-more : {A : Type 0} (p : A → Bool) (xs : List A) (x : A) → list_all p xs ≡ true
    → p x ≡ true → list_all p (xs ++ x ∷ []) ≡ true
all-more p xs x h here =
    list_all-append p xs (x ∷ [])
    ∙ and_from (list_all p xs) (p x && true) h (and_from (p x) true here refl)

-- all words are numbers, and few
pub route-reads : (version : Version) (word : List ℕ) (words : List (List ℕ)) (left : ℕ)
    → words ≡ route_words word → length words + left ≡ most_addresses version
    → list_all is_numeral words ≡ true → is_route version word ≡ true
route-reads version word words left all few numbers =
    let most : length words ≤ most_addresses version = omega (arith, few) in
    rw (← all) (and_from (nat_le (length words) (most_addresses version))
    (list_all is_numeral words) (le-leb (length words) (most_addresses version) most) numbers)

-- ---- the route of a word

-- a word that is an address
pub address-some : (word : List ℕ) (n : ℕ) → numeral_within 1 most_address word ≡ Some n
    → (is_up_to most_address (value_of word) ≡ true) × (value_of word ≡ n)
address-some word n h =
    let found = some-guard (is_numeral_within 1 most_address word) (Some (value_of word)) n h in
    let tests = and_parts (is_numeral word) (is_up_to most_address (value_of word)) found.0 in
    (tests.1, some_value (value_of word) n found.1)

none-either : (n : ℕ) (b : Bool) → (if b then Some n else None) ≡ None → b ≡ false
none-either n true h = absurd (cc)
none-either n false h = refl

-- a number that is none
pub address-none : (word : List ℕ) → is_numeral word ≡ true
    → numeral_within 1 most_address word ≡ None
    → is_up_to most_address (value_of word) ≡ false
address-none word number h =
    sym (ap (λ b. b && is_up_to most_address (value_of word)) number)
    ∙ none-either (value_of word) (is_numeral_within 1 most_address word) h

-- the number at a place of a list of numbers
pub number-at : (words : List (List ℕ)) (n : ℕ) (part : List ℕ) → n < length words
    → part ≡ get_or words n part → list_all is_numeral words ≡ true → is_numeral part ≡ true
number-at [] n part more there h = absurd (omega (arith, more))
number-at (w ∷ words) zero part more there h =
    ap is_numeral there ∙ (and_parts (is_numeral w) (list_all is_numeral words) h).0
number-at (w ∷ words) (suc n) part more there h =
    number-at words n part (omega (arith, more)) there
    (and_parts (is_numeral w) (list_all is_numeral words) h).1

-- a route that does not lead anywhere
leads-none : (node : ℕ) (word : List ℕ) → leads_from node (addresses_in word) ≡ false
    → route_from node word ≡ None
leads-none node word h = rw h refl

-- one of its words is no address
pub route-none : (node : ℕ) (word : List ℕ) (n : ℕ) (part : List ℕ)
    → n < length (route_words word) → part ≡ get_or (route_words word) n part
    → is_up_to most_address (value_of part) ≡ false → route_from node word ≡ None
route-none node word n part more there outside =
    leads-none node word (and-left (list_all (is_up_to most_address) (addresses_in word))
    (begins_elsewhere node (addresses_in word))
    (list_all-map (is_up_to most_address) value_of (route_words word)
    ∙ list_all_at (λ w. is_up_to most_address (value_of w)) (route_words word) n part more
    (sym (ap (λ w. is_up_to most_address (value_of w)) there) ∙ outside)))

-- it begins with the host's own address
pub route-own : (node : ℕ) (word : List ℕ) (numbers : List ℕ) → numbers ≡ addresses_in word
    → get_or numbers 0 0 ≡ node → 1 ≤ length numbers → route_from node word ≡ None
route-own node word [] all same some = absurd (omega (arith, some))
route-own node word (first ∷ rest) all same some =
    let own : begins_elsewhere node (first ∷ rest) ≡ false = ap not (eq-eqb first node same) in
    leads-none node word (rw (← all) (and-right
    (list_all (is_up_to most_address) (first ∷ rest)) (begins_elsewhere node (first ∷ rest)) own))

-- it leads somewhere else
pub route-leads : (node : ℕ) (word : List ℕ) (numbers : List ℕ) → numbers ≡ addresses_in word
    → list_all (is_up_to most_address) numbers ≡ true → (get_or numbers 0 0 == node) ≡ false
    → 1 ≤ length numbers → route_from node word ≡ Some numbers
route-leads node word [] all nodes other some = absurd (omega (arith, some))
route-leads node word (first ∷ rest) all nodes other some =
    let leads : leads_from node (first ∷ rest) ≡ true =
    and_from (list_all (is_up_to most_address) (first ∷ rest))
    (begins_elsewhere node (first ∷ rest)) nodes (ap not other) in
    rw (← all, leads) refl

-- a route has a word at least
pub some-words : (word : List ℕ) → 1 ≤ length (route_words word)
some-words word = omega (arith, length-slice_split (λ byte. byte == 46) word)

-- the numbers of words that were read
pub numbers-of : (words : List (Bor (List ℕ)))
    → map (λ w. value_of w.now) words ≡ map value_of (map (λ w. w.now) words)
numbers-of [] = refl
numbers-of (w ∷ words) = ap (λ ns. value_of w.now ∷ ns) (numbers-of words)

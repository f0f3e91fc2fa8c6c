-- Exchanges taken one after another, and what a field brings by them.
use Rattle.std.proofs.Common.{◌≡◌, ℕ, zero, suc, ◌+◌, ◌-◌, ◌≤◌, ◌<◌, ◌%◌, ◌/◌, Bool, true, false}
use Rattle.std.proofs.Common.{◌==◌, cond}
use Rattle.std.proofs.Common.{List, [], ◌∷◌, ◌++◌, Option, Some, None, refl, sym, ap, ◌∙◌, subst}
use Rattle.std.proofs.Common.{length}
use Rattle.std.proofs.Common.{arith, map, take, drop}
use Rattle.std.specs.Prelude.{◌||◌, if◌then◌else◌, slice_get, unwrap_or}
use Rattle.std.specs.List.{AllByRecursion, cons_option, filter_map, list_any, position_from}
use Rattle.std.proofs.lemmas.Bool.{eqb-true, eq-eqb}
use Rattle.plant_types.specs.declared.drops.IoDrop.{IoDrop}
use Rattle.traffic_cop.specs.Drops.{drop_named}
use Rattle.field_runs.specs.Told.{rows_for}
use Rattle.field_machine.specs.declared.exchanges.Exchange.{Exchange}
use Rattle.field_machine.specs.Choices.{choices_for}
use Rattle.field_machine.specs.Exchanges.{row_to}
use Rattle.field_machine.proofs.Ways.{choices-some}
use Rattle.side_runs.specs.Brought.{behind_exchange, NamesRows}
use Rattle.field_pair.specs.Choices.{AreSome, brought_by, choice_for, next_brought}
use Rattle.field_pair.specs.Choices.{without_drop}
use Rattle.field_pair.specs.Choices.{without_next}
use Rattle.field_pair.specs.Exchanged.{BringsRow, field_of, without}

-- ---- numbers

-- the place of a number, and the list without it
pub record TakenAt (drops : List ℕ) (number at place : ℕ) : Type 0 where
  pub from : at ≤ place
  pub left : take (place - at) drops ++ drop (suc (place - at)) drops ≡ without number drops
  pub there : list_any (λ other. number == other) drops ≡ true

taken-by : (x number at place : ℕ) (xs : List ℕ) (b : Bool) → (x == number) ≡ b
    → cond b (Some at) (position_from (λ drop. drop == number) (at + 1) xs) ≡ Some place
    → (position_from (λ drop. drop == number) (at + 1) xs ≡ Some place
    → TakenAt xs number (at + 1) place)
    → TakenAt (x ∷ xs) number at place
taken-by x number at place xs true is found more =
    let first : Some at ≡ Some place = found in
    let e : at ≡ place = cc in
    let same : x ≡ number = eqb-true x number is in
    let own : (number == x) ≡ true = eq-eqb number x (sym same) in
    let none : place - at ≡ 0 = omega (arith, e) in
    record {
      from = omega (arith, e);
      left = ap (λ k. take k (x ∷ xs) ++ drop (suc k) (x ∷ xs)) none
          ∙ sym (ap (λ b. if b then xs else x ∷ without number xs) own);
      there = ap (λ b. b || list_any (λ other. number == other) xs) own;
    }
taken-by x number at place xs false is found more =
    let rest = more found in
    let far = rest.from in
    let up : place - at ≡ suc (place - (at + 1)) = omega (arith, far) in
    let apart : (number == x) ≡ false = other (number == x) refl in
    record {
      from = omega (arith, far);
      left = ap (λ k. take k (x ∷ xs) ++ drop (suc k) (x ∷ xs)) up
          ∙ (ap (λ (l : List ℕ). x ∷ l) rest.left
          ∙ sym (ap (λ b. if b then xs else x ∷ without number xs) apart));
      there = ap (λ b. b || list_any (λ other. number == other) xs) apart ∙ rest.there;
    }
  where
    other : (b : Bool) → (number == x) ≡ b → (number == x) ≡ false
    other true is' = absurd (let no' : true ≡ false =
        sym (eq-eqb x number (sym (eqb-true number x is'))) ∙ is in cc)
    other false is' = is'

pub taken-at : (drops : List ℕ) (number at place : ℕ)
    → position_from (λ drop. drop == number) at drops ≡ Some place → TakenAt drops number at place
taken-at [] number at place found = absurd (let no' : None ≡ Some place = found in cc)
taken-at (x ∷ xs) number at place found =
    taken-by x number at place xs (x == number) refl found
    (λ found'. taken-at xs number (at + 1) place found')

within-by : (x number at place : ℕ) (xs : List ℕ) (b : Bool)
    → cond b (Some at) (position_from (λ drop. drop == number) (at + 1) xs) ≡ Some place
    → (position_from (λ drop. drop == number) (at + 1) xs ≡ Some place
    → place < at + 1 + length xs)
    → place < at + suc (length xs)
within-by x number at place xs true found more =
    let first : Some at ≡ Some place = found in
    let e : at ≡ place = cc in
    omega (arith, e)
within-by x number at place xs false found more =
    let rest = more found in omega (arith, rest)

pub taken-within : (drops : List ℕ) (number at place : ℕ)
    → position_from (λ drop. drop == number) at drops ≡ Some place → place < at + length drops
taken-within [] number at place found = absurd (let no' : None ≡ Some place = found in cc)
taken-within (x ∷ xs) number at place found =
    within-by x number at place xs (x == number) found
    (λ found'. taken-within xs number (at + 1) place found')

none-by : (x number at : ℕ) (xs : List ℕ) (b : Bool) → (x == number) ≡ b
    → cond b (Some at) (position_from (λ drop. drop == number) (at + 1) xs) ≡ None
    → (position_from (λ drop. drop == number) (at + 1) xs ≡ None
    → list_any (λ other. number == other) xs ≡ false)
    → list_any (λ other. number == other) (x ∷ xs) ≡ false
none-by x number at xs true is found more = absurd (let no' : Some at ≡ None = found in cc)
none-by x number at xs false is found more =
    ap (λ b. b || list_any (λ other. number == other) xs) (other (number == x) refl) ∙ more found
  where
    other : (b : Bool) → (number == x) ≡ b → (number == x) ≡ false
    other true is' = absurd (let no' : true ≡ false =
        sym (eq-eqb x number (sym (eqb-true number x is'))) ∙ is in cc)
    other false is' = is'

pub not-there : (drops : List ℕ) (number at : ℕ)
    → position_from (λ drop. drop == number) at drops ≡ None
    → list_any (λ other. number == other) drops ≡ false
not-there [] number at found = refl
not-there (x ∷ xs) number at found =
    none-by x number at xs (x == number) refl found (λ found'. not-there xs number (at + 1) found')

-- ---- exchanges

-- the place of the first exchange with a drop, its row, and the list without it
pub record TakenNext (exchanges : List Exchange) (number at place : ℕ) : Type 0 where
  pub from : at ≤ place
  pub exchange : Exchange
  pub is_there : slice_get exchanges (place - at) ≡ Some exchange
  pub row : exchange.row ≡ next_brought (Some number) exchanges
  pub left : take (place - at) exchanges ++ drop (suc (place - at)) exchanges
      ≡ without_drop number exchanges

abbrev with' : ℕ → Exchange → Bool
with' number exchange = exchange.drop == number

-- the rows of a drop, where the first exchange is with it or not
rows-by : (x : Exchange) (xs : List Exchange) (number : ℕ) (b : Bool) → (x.drop == number) ≡ b
    → filter_map (row_to number) (x ∷ xs)
    ≡ (if b then x.row ∷ filter_map (row_to number) xs else filter_map (row_to number) xs)
rows-by x xs number true is =
    ap (λ b. cons_option (if b then Some x.row else None) (filter_map (row_to number) xs)) is
rows-by x xs number false is =
    ap (λ b. cons_option (if b then Some x.row else None) (filter_map (row_to number) xs)) is

next-by : (x : Exchange) (number at place : ℕ) (xs : List Exchange) (b : Bool)
    → (x.drop == number) ≡ b
    → cond b (Some at) (position_from (with' number) (at + 1) xs) ≡ Some place
    → (position_from (with' number) (at + 1) xs ≡ Some place → TakenNext xs number (at + 1) place)
    → TakenNext (x ∷ xs) number at place
next-by x number at place xs true is found more =
    let first : Some at ≡ Some place = found in
    let e : at ≡ place = cc in
    let none : place - at ≡ 0 = omega (arith, e) in
    record {
      from = omega (arith, e);
      exchange = x;
      is_there = ap (slice_get (x ∷ xs)) none;
      row = sym (ap (λ (l : List ℕ). unwrap_or (slice_get l 0) 1) (rows-by x xs number true is));
      left = ap (λ k. take k (x ∷ xs) ++ drop (suc k) (x ∷ xs)) none
          ∙ sym (ap (λ b. if b then xs else x ∷ without_drop number xs) is);
    }
next-by x number at place xs false is found more =
    let rest = more found in
    let far = rest.from in
    let up : place - at ≡ suc (place - (at + 1)) = omega (arith, far) in
    record {
      from = omega (arith, far);
      exchange = rest.exchange;
      is_there = ap (slice_get (x ∷ xs)) up ∙ rest.is_there;
      row = rest.row
          ∙ sym (ap (λ (l : List ℕ). unwrap_or (slice_get l 0) 1) (rows-by x xs number false is));
      left = ap (λ k. take k (x ∷ xs) ++ drop (suc k) (x ∷ xs)) up
          ∙ (ap (λ (l : List Exchange). x ∷ l) rest.left
          ∙ sym (ap (λ b. if b then xs else x ∷ without_drop number xs) is));
    }

pub taken-next : (exchanges : List Exchange) (number at place : ℕ)
    → position_from (with' number) at exchanges ≡ Some place
    → TakenNext exchanges number at place
taken-next [] number at place found = absurd (let no' : None ≡ Some place = found in cc)
taken-next (x ∷ xs) number at place found =
    next-by x number at place xs (x.drop == number) refl found
    (λ found'. taken-next xs number (at + 1) place found')

-- no exchange with a drop
pub record NoNext (exchanges : List Exchange) (number : ℕ) : Type 0 where
  pub none : filter_map (row_to number) exchanges ≡ []
  pub left : without_drop number exchanges ≡ exchanges

no-by : (x : Exchange) (number at : ℕ) (xs : List Exchange) (b : Bool) → (x.drop == number) ≡ b
    → cond b (Some at) (position_from (with' number) (at + 1) xs) ≡ None
    → (position_from (with' number) (at + 1) xs ≡ None → NoNext xs number) → NoNext (x ∷ xs) number
no-by x number at xs true is found more = absurd (let no' : Some at ≡ None = found in cc)
no-by x number at xs false is found more =
    let rest = more found in
    record {
      none = rows-by x xs number false is ∙ rest.none;
      left = ap (λ b. if b then xs else x ∷ without_drop number xs) is
          ∙ ap (λ (l : List Exchange). x ∷ l) rest.left;
    }

pub no-next : (exchanges : List Exchange) (number at : ℕ)
    → position_from (with' number) at exchanges ≡ None → NoNext exchanges number
no-next [] number at found = record { none = refl; left = refl }
no-next (x ∷ xs) number at found =
    no-by x number at xs (x.drop == number) refl found (λ found'. no-next xs number (at + 1) found')

-- ---- what a field brings behind an exchange

abbrev rows_of : ℕ → List Exchange → List ℕ
rows_of d exchanges = filter_map (row_to d) exchanges

apart-by : (x read d : ℕ) (b : Bool) → (read == d) ≡ b → (x == read) ≡ false → (x == d) ≡ true
    → b ≡ false
apart-by x read d true same is with'' =
    let e : x ≡ read = eqb-true x d with'' ∙ sym (eqb-true read d same) in
    absurd (let no' : true ≡ false = sym (eq-eqb x read e) ∙ is in cc)
apart-by x read d false same is with'' = refl

same-by : (x read d : ℕ) (b : Bool) → (read == d) ≡ b → (x == read) ≡ true → (x == d) ≡ b
same-by x read d b same is = ap (λ k. k == d) (eqb-true x read is) ∙ same

first-out : (x : Exchange) (xs : List Exchange) (d : ℕ) (b : Bool) → (x.drop == d) ≡ b
    → rows_of d xs ≡ (if b then drop 1 (rows_of d (x ∷ xs)) else rows_of d (x ∷ xs))
first-out x xs d true is = sym (ap (drop 1) (rows-by x xs d true is))
first-out x xs d false is = sym (rows-by x xs d false is)

later-out : (x : Exchange) (xs rest : List Exchange) (d : ℕ) (b q : Bool) → (x.drop == d) ≡ q
    → (q ≡ true → b ≡ false)
    → rows_of d rest ≡ (if b then drop 1 (rows_of d xs) else rows_of d xs)
    → rows_of d (x ∷ rest) ≡ (if b then drop 1 (rows_of d (x ∷ xs)) else rows_of d (x ∷ xs))
later-out x xs rest d true true is apart more = absurd (let no' : true ≡ false = apart refl in cc)
later-out x xs rest d false true is apart more =
    rows-by x rest d true is
    ∙ (ap (λ (l : List ℕ). x.row ∷ l) more ∙ sym (rows-by x xs d true is))
later-out x xs rest d true false is apart more =
    rows-by x rest d false is ∙ (more ∙ sym (ap (drop 1) (rows-by x xs d false is)))
later-out x xs rest d false false is apart more =
    rows-by x rest d false is ∙ (more ∙ sym (rows-by x xs d false is))

without-by : (x : Exchange) (xs : List Exchange) (read d : ℕ) (p : Bool) → (x.drop == read) ≡ p
    → rows_of d (without_drop read xs)
    ≡ (if read == d then drop 1 (rows_of d xs) else rows_of d xs)
    → rows_of d (if p then xs else x ∷ without_drop read xs)
    ≡ (if read == d then drop 1 (rows_of d (x ∷ xs)) else rows_of d (x ∷ xs))
without-by x xs read d true is more =
    first-out x xs d (read == d) (same-by x.drop read d (read == d) refl is)
without-by x xs read d false is more =
    later-out x xs (without_drop read xs) d (read == d) (x.drop == d) refl
    (λ with''. apart-by x.drop read d (read == d) refl is with'') more

none-left : (b : Bool) → rows_of 0 [] ≡ (if b then drop 1 (rows_of 0 []) else rows_of 0 [])
none-left true = refl
none-left false = refl

rows-without : (xs : List Exchange) (read d : ℕ) → rows_of d (without_drop read xs)
    ≡ (if read == d then drop 1 (rows_of d xs) else rows_of d xs)
rows-without [] read d = none-left (read == d)
rows-without (x ∷ xs) read d =
    without-by x xs read d (x.drop == read) refl (rows-without xs read d)

get-behind : (l : List ℕ) (nth : ℕ) → slice_get (drop 1 l) nth ≡ slice_get l (nth + 1)
get-behind [] nth = refl
get-behind (x ∷ l) nth =
    let up : suc nth ≡ nth + 1 = omega arith in ap (slice_get (x ∷ l)) up

get-by : (l : List ℕ) (nth : ℕ) (b : Bool)
    → slice_get (if b then drop 1 l else l) nth ≡ slice_get l (if b then nth + 1 else nth)
get-by l nth true = get-behind l nth
get-by l nth false = refl

-- behind an exchange a field brings what is left of its exchanges
pub field-behind : (input : Option ℕ) (exchanges : List Exchange)
    → field_of (without_next input exchanges) ≡ behind_exchange input (field_of exchanges)
field-behind None exchanges = refl
field-behind (Some read) exchanges =
    λ i d nth. unwrap_or ((ap (λ (l : List ℕ). slice_get l nth) (rows-without exchanges read d)
    ∙ get-by (rows_of d exchanges) nth (read == d)) i) 1

-- ---- rows in range

named-first : (drops : List IoDrop) (x : Exchange) (rows : List ℕ) (d nth : ℕ)
    → BringsRow drops x → x.drop ≡ d
    → ((k : ℕ) → (1 ≤ unwrap_or (slice_get rows k) 1)
    × (unwrap_or (slice_get rows k) 1 ≤ rows_for (drop_named drops d)))
    → (1 ≤ unwrap_or (slice_get (x.row ∷ rows) nth) 1)
    × (unwrap_or (slice_get (x.row ∷ rows) nth) 1 ≤ rows_for (drop_named drops d))
named-first drops x rows d zero brings same more =
    (brings.from, subst (λ k. x.row ≤ rows_for (drop_named drops k)) same brings.to)
named-first drops x rows d (suc nth) brings same more = more nth

named-by : (drops : List IoDrop) (x : Exchange) (xs : List Exchange) (d nth : ℕ) (b : Bool)
    → (x.drop == d) ≡ b → BringsRow drops x
    → ((k : ℕ) → (1 ≤ unwrap_or (slice_get (rows_of d xs) k) 1)
    × (unwrap_or (slice_get (rows_of d xs) k) 1 ≤ rows_for (drop_named drops d)))
    → (1 ≤ unwrap_or (slice_get (rows_of d (x ∷ xs)) nth) 1)
    × (unwrap_or (slice_get (rows_of d (x ∷ xs)) nth) 1 ≤ rows_for (drop_named drops d))
named-by drops x xs d nth true is brings more =
    subst (λ (l : List ℕ). (1 ≤ unwrap_or (slice_get l nth) 1)
    × (unwrap_or (slice_get l nth) 1 ≤ rows_for (drop_named drops d)))
    (sym (rows-by x xs d true is))
    (named-first drops x (rows_of d xs) d nth brings (eqb-true x.drop d is) more)
named-by drops x xs d nth false is brings more =
    subst (λ (l : List ℕ). (1 ≤ unwrap_or (slice_get l nth) 1)
    × (unwrap_or (slice_get l nth) 1 ≤ rows_for (drop_named drops d)))
    (sym (rows-by x xs d false is)) (more nth)

pub field-named : (drops : List IoDrop) (exchanges : List Exchange)
    → AllByRecursion (BringsRow drops) exchanges → NamesRows drops (field_of exchanges)
field-named drops [] all = λ d nth. (omega arith, choices-some drops (Some d))
field-named drops (x ∷ xs) all =
    λ d nth. named-by drops x xs d nth (x.drop == d) refl all.0 (field-named drops xs all.1 d)

pub brought-rows : (drops : List IoDrop) (read : List ℕ) (way : ℕ)
    → AllByRecursion (BringsRow drops) (brought_by (map (choice_for drops) read) way)
brought-rows drops [] way = tt
brought-rows drops (d ∷ read) way =
    let many = choices_for drops (Some d) in
    let some = choices-some drops (Some d) in
    let low : way % many < many = omega (arith, some) in (
      record { from = omega arith; to = omega (arith, low) },
      brought-rows drops read (way / many),
    )

pub brought-drops : (drops : List IoDrop) (read : List ℕ) (way : ℕ)
    → map (λ (exchange : Exchange). exchange.drop) (brought_by (map (choice_for drops) read) way)
    ≡ read
brought-drops drops [] way = refl
brought-drops drops (d ∷ read) way =
    ap (λ (l : List ℕ). d ∷ l) (brought-drops drops read (way / choices_for drops (Some d)))

pub all-some : (drops : List IoDrop) (read : List ℕ) → AreSome (map (choice_for drops) read)
all-some drops [] = tt
all-some drops (d ∷ read) = (choices-some drops (Some d), all-some drops read)

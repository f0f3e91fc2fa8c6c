-- What a row that is added to a script changes, and what not.
use Rattle.std.proofs.Common.{◌≡◌, ◌≤◌, ◌<◌, ℕ, zero, suc, ◌+◌, ◌-◌, ◌==◌, Bool, true, false, List}
use Rattle.std.proofs.Common.{[], ◌∷◌, ◌++◌, length, drop, get_or, set, Option, Some, None, refl, sym, ap}
use Rattle.std.proofs.Common.{◌∙◌, ◌≢◌, arith, eq-eqb, length-append, length-set, ◌⊎◌, inl, inr}
use Rattle.std.proofs.Common.{Result, Ok, Err}
use Rattle.std.specs.Prelude.{if◌then◌else◌, is_some, slice_get, OnOk, OnErr}
use Rattle.std.specs.List.{AllByRecursion}
use Rattle.std.proofs.Math.Nat.{min-eq_left}
use Rattle.std.proofs.lemmas.Bool.{eqb-true, ne_eqb}
use Rattle.std.proofs.lemmas.List.{drop_more, set-set}
use Rattle.plant_types.specs.declared.drops.ScriptRow.{ScriptRow}
use Rattle.plant_types.specs.declared.drops.IoDrop.{IoDrop}
use Rattle.plant_types.specs.declared.plan.OrderRow.{OrderRow}
use Rattle.plant_types.specs.declared.plan.ControllerPlan.{ControllerPlan}
use Rattle.plant_types.specs.Checks.{sizes_of}
use Rattle.plant_types.specs.Sizes.{cleared}
use Rattle.plant_types.specs.Store.{Contents}
use Rattle.traffic_cop.specs.Exchange.{exchanged_by, fits_row, row_at, IsDrop}
use Rattle.traffic_cop.specs.Drops.{drop_named, exchanged_in, input_after, outputs_in, outputs_of}
use Rattle.traffic_cop.specs.Drops.{CanExchange, IsNamed}
use Rattle.traffic_cop.specs.Rows.{FitsPlan, HasDrop, IsRunnablePlan, NamesDrop}
use Rattle.traffic_cop.specs.Feeding.{fits_drop, fits_in, place_named, plan_fed, row_count}
use Rattle.traffic_cop.specs.Feeding.{row_fed, rows_in, with_row, RowsComeLater}
use Rattle.traffic_cop.proofs.CheckLemmas.{all-push}

-- ---- lists

slice_get-front : {X : Type 0} (xs ys : List X) (i : ℕ) → i < length xs
    → slice_get (xs ++ ys) i ≡ slice_get xs i
slice_get-front [] ys i h = absurd (omega (arith, h))
slice_get-front (x ∷ xs) ys zero h = refl
slice_get-front (x ∷ xs) ys (suc i) h = slice_get-front xs ys i (omega (arith, h))

set-back : {X : Type 0} (xs : List X) (i : ℕ) (x : X) → slice_get xs i ≡ Some x → set xs i x ≡ xs
set-back [] i x h = refl
set-back (z ∷ xs) zero x h = let same : z ≡ x = cc in ap (λ y. y ∷ xs) (sym same)
set-back (z ∷ xs) (suc i) x h = ap (λ l. z ∷ l) (set-back xs i x h)

-- ---- the place of a drop

within-step : (d : IoDrop) (drops : List IoDrop) (number : ℕ) (b : Bool) → (d.number == number) ≡ b
    → is_some (if b then Some d else drop_named drops number) ≡ true
    → (is_some (drop_named drops number) ≡ true → place_named drops number < length drops)
    → (if b then 0 else place_named drops number + 1) < length (d ∷ drops)
within-step d drops number true e named more = omega arith
within-step d drops number false e named more = let later = more named in omega (arith, later)

pub place-within : (drops : List IoDrop) (number : ℕ) → IsNamed drops number
    → place_named drops number < length drops
unfolding drop_named place_named
place-within [] number named = absurd cc
place-within (d ∷ drops) number named =
    within-step d drops number (d.number == number) refl named (place-within drops number)

fed-step : (d found : IoDrop) (drops : List IoDrop) (number : ℕ) (row : ScriptRow) (b : Bool)
    → (d.number == number) ≡ b
    → slice_get (d ∷ drops) (if b then 0 else place_named drops number + 1) ≡ Some found
    → (slice_get drops (place_named drops number) ≡ Some found
    → row_fed drops number row ≡ set drops (place_named drops number) (with_row found row))
    → (if b then with_row d row ∷ drops else d ∷ row_fed drops number row)
    ≡ set (d ∷ drops) (if b then 0 else place_named drops number + 1) (with_row found row)
fed-step d found drops number row true e there more =
    let same : d ≡ found = cc in ap (λ x. with_row x row ∷ drops) same
fed-step d found drops number row false e there more =
    let next : place_named drops number + 1 ≡ suc (place_named drops number) = omega arith in
    let later = more (sym (ap (slice_get (d ∷ drops)) next) ∙ there) in
    ap (λ l. d ∷ l) later ∙ sym (ap (λ i. set (d ∷ drops) i (with_row found row)) next)

-- the fed drops have one drop set
fed-set : (drops : List IoDrop) (number : ℕ) (row : ScriptRow) (found : IoDrop)
    → slice_get drops (place_named drops number) ≡ Some found
    → row_fed drops number row ≡ set drops (place_named drops number) (with_row found row)
unfolding row_fed place_named
fed-set [] number row found there = refl
fed-set (d ∷ drops) number row found there =
    fed-step d found drops number row (d.number == number) refl there
    (fed-set drops number row found)

-- ---- the drop is taken out and put back

place-at : (drops : List IoDrop) (i : ℕ) (d : IoDrop) (number : ℕ) → i < length drops
    → d ≡ get_or drops i d
    → place_named (drop i drops) number
    ≡ (if d.number == number then 0 else place_named (drop (i + 1) drops) number + 1)
unfolding place_named
place-at drops i d number h is =
    ap (λ (l : List IoDrop). place_named l number) (drop_more drops i d h)
    ∙ ap (λ (x : IoDrop). if x.number == number then 0
    else place_named (drop (i + 1) drops) number + 1) (sym is)

pub place-here : (drops : List IoDrop) (i : ℕ) (d : IoDrop) (number : ℕ) → i < length drops
    → d ≡ get_or drops i d → d.number ≡ number
    → place_named drops number ≡ i + place_named (drop i drops) number
    → i ≡ place_named drops number
place-here drops i d number h is same so_far =
    let here : place_named (drop i drops) number ≡ 0 = place-at drops i d number h is
    ∙ ap (λ b. if b then 0 else place_named (drop (i + 1) drops) number + 1)
    (eq-eqb d.number number same) in
    omega (arith, so_far, here)

pub place-later : (drops : List IoDrop) (i : ℕ) (d : IoDrop) (number : ℕ) → i < length drops
    → d ≡ get_or drops i d → d.number ≢ number
    → place_named drops number ≡ i + place_named (drop i drops) number
    → place_named drops number ≡ i + 1 + place_named (drop (i + 1) drops) number
place-later drops i d number h is other so_far =
    let more : place_named (drop i drops) number ≡ place_named (drop (i + 1) drops) number + 1 =
    place-at drops i d number h is
    ∙ ap (λ b. if b then 0 else place_named (drop (i + 1) drops) number + 1)
    (ne_eqb d.number number other) in
    omega (arith, so_far, more)

pub at-within : (drops : List IoDrop) (number at : ℕ) → at ≡ place_named drops number
    → IsNamed drops number → at < length drops
at-within drops number at is named =
    let within = place-within drops number named in omega (arith, is, within)

pub still-within : (drops between : List IoDrop) (at : ℕ) (none : IoDrop)
    → between ≡ set drops at none → at < length drops → at < length between
still-within drops between at none is within =
    let long = ap length is ∙ length-set drops at none in omega (arith, long, within)

-- a drop that was taken out is put back with another script
back : (drops new between : List IoDrop) (at : ℕ) (none put : IoDrop)
    → between ≡ set drops at none → new ≡ set between at put → new ≡ set drops at put
back drops new between at none put out in_again =
    in_again ∙ ap (λ (l : List IoDrop). set l at put) out ∙ set-set drops at none put

pub back-fed : (drops new between : List IoDrop) (at number : ℕ) (row : ScriptRow)
    (none found : IoDrop) (script : List ScriptRow) → at ≡ place_named drops number
    → slice_get drops at ≡ Some found → between ≡ set drops at none
    → new ≡ set between at (record found { script = script })
    → script ≡ found.script ++ row ∷ [] → new ≡ row_fed drops number row
back-fed drops new between at number row none found script is there out in_again pushed =
    back drops new between at none (record found { script = script }) out in_again
    ∙ ap (λ (l : List ScriptRow). set drops at (record found { script = l })) pushed
    ∙ ap (λ i. set drops i (with_row found row)) is
    ∙ sym (fed-set drops number row found (ap (slice_get drops) (sym is) ∙ there))

pub back-again : (drops new between : List IoDrop) (at : ℕ)
    (none found : IoDrop) (script : List ScriptRow)
    → slice_get drops at ≡ Some found → between ≡ set drops at none
    → new ≡ set between at (record found { script = script })
    → script ≡ found.script → new ≡ drops
back-again drops new between at none found script there out in_again same =
    back drops new between at none (record found { script = script }) out in_again
    ∙ ap (λ (l : List ScriptRow). set drops at (record found { script = l })) same
    ∙ set-back drops at found there

-- ---- a result

pub on-ok : {T E : Type 0} {P Q : Type 0} (r : Result T E) → (P → Q) → OnOk r P → OnOk r Q
on-ok (Ok x) more h = more h
on-ok (Err e) more h = tt

pub on-err : {T E : Type 0} {P Q : Type 0} (r : Result T E) → (P → Q) → OnErr r P → OnErr r Q
on-err (Ok x) more h = tt
on-err (Err e) more h = more h

pub on-both : {T E : Type 0} {P Q R : Type 0} (r : Result T E) → (P → Q → R) → OnOk r P
    → OnOk r Q → OnOk r R
on-both (Ok x) more h g = more h g
on-both (Err e) more h g = tt

pub on-both-err : {T E : Type 0} {P Q R : Type 0} (r : Result T E) → (P → Q → R) → OnErr r P
    → OnErr r Q → OnErr r R
on-both-err (Ok x) more h g = tt
on-both-err (Err e) more h g = more h g

pub either-way : {T E : Type 0} {P : Type 0} (r : Result T E) → OnOk r P → OnErr r P → P
either-way (Ok x) h g = h
either-way (Err e) h g = g

-- ---- the drop that is found

-- a drop that may be there, with the row
abbrev with_row_in : ScriptRow → Option IoDrop → Option IoDrop
with_row_in row None = None
with_row_in row (Some d) = Some (with_row d row)

same-step : (d : IoDrop) (drops : List IoDrop) (number : ℕ) (row : ScriptRow) (b : Bool)
    → (d.number == number) ≡ b
    → drop_named (row_fed drops number row) number ≡ with_row_in row (drop_named drops number)
    → drop_named (if b then with_row d row ∷ drops else d ∷ row_fed drops number row) number
    ≡ with_row_in row (if b then Some d else drop_named drops number)
unfolding drop_named
same-step d drops number row true e more = rw e refl
same-step d drops number row false e more = rw e more

named-fed : (drops : List IoDrop) (number : ℕ) (row : ScriptRow)
    → drop_named (row_fed drops number row) number ≡ with_row_in row (drop_named drops number)
unfolding drop_named row_fed
named-fed [] number row = refl
named-fed (d ∷ drops) number row =
    same-step d drops number row (d.number == number) refl (named-fed drops number row)

other-step : (d : IoDrop) (drops : List IoDrop) (number other : ℕ) (row : ScriptRow) (b : Bool)
    → (d.number == number) ≡ b → (d.number == other) ≡ false ⊎ b ≡ false
    → drop_named (row_fed drops number row) other ≡ drop_named drops other
    → drop_named (if b then with_row d row ∷ drops else d ∷ row_fed drops number row) other
    ≡ drop_named (d ∷ drops) other
unfolding drop_named
other-step d drops number other row true e (inl differs) more = rw differs refl
other-step d drops number other row true e (inr differs) more = absurd cc
other-step d drops number other row false e differs more =
    ap (λ (o : Option IoDrop). if d.number == other then Some d else o) more

apart : (a number other : ℕ) (b : Bool) → (a == number) ≡ b → (other == number) ≡ false
    → (a == other) ≡ false ⊎ b ≡ false
apart a number other true e differs =
    inl (ne_eqb a other (λ same. absurd (let x = eqb-true a number e in
    let y : (other == number) ≡ (a == number) = ap (λ n. n == number) (sym same) in cc)))
apart a number other false e differs = inr refl

named-other : (drops : List IoDrop) (number other : ℕ) (row : ScriptRow)
    → (other == number) ≡ false
    → drop_named (row_fed drops number row) other ≡ drop_named drops other
unfolding row_fed
named-other [] number other row differs = refl
named-other (d ∷ drops) number other row differs =
    other-step d drops number other row (d.number == number) refl
    (apart d.number number other (d.number == number) refl differs)
    (named-other drops number other row differs)

-- ---- the exchanges

row-before : (script : List ScriptRow) (row : ScriptRow) (k : ℕ) → 1 ≤ k → k ≤ length script
    → row_at (script ++ row ∷ []) k ≡ row_at script k
row-before script row k from to =
    let long = length-append script (row ∷ []) in
    let within : k ≤ length (script ++ row ∷ []) = omega (arith, long) in
    ap (λ n. slice_get (script ++ row ∷ []) (n - 1)) (min-eq_left within)
    ∙ slice_get-front script (row ∷ []) (k - 1) (omega arith)
    ∙ ap (λ n. slice_get script (n - 1)) (sym (min-eq_left to))

input-before : (o : Option IoDrop) (k : ℕ) (row : ScriptRow) (m : Contents) → 1 ≤ k → k ≤ rows_in o
    → exchanged_in (with_row_in row o) k m ≡ exchanged_in o k m
input-before None k row m from to = refl
input-before (Some d) k row m from to =
    ap (λ (r : Option ScriptRow). exchanged_by r d.modules m) (row-before d.script row k from to)

inputs-by : (drops : List IoDrop) (number other k : ℕ) (row : ScriptRow) (m : Contents) (b : Bool)
    → (other == number) ≡ b → 1 ≤ k → (other ≡ number → k ≤ row_count drops number)
    → input_after (row_fed drops number row) other k m ≡ input_after drops other k m
inputs-by drops number other k row m true e from to =
    let same = eqb-true other number e in
    ap (λ n. input_after (row_fed drops number row) n k m) same
    ∙ ap (λ (o : Option IoDrop). exchanged_in o k m) (named-fed drops number row)
    ∙ input-before (drop_named drops number) k row m from (to same)
    ∙ ap (λ n. input_after drops n k m) (sym same)
inputs-by drops number other k row m false e from to =
    ap (λ (o : Option IoDrop). exchanged_in o k m) (named-other drops number other row e)

output-same : (o : Option IoDrop) (row : ScriptRow) (m : Contents)
    → outputs_in (with_row_in row o) m ≡ outputs_in o m
output-same None row m = refl
output-same (Some d) row m = refl

outputs-by : (drops : List IoDrop) (number other : ℕ) (row : ScriptRow) (m : Contents) (b : Bool)
    → (other == number) ≡ b
    → outputs_of (row_fed drops number row) other m ≡ outputs_of drops other m
outputs-by drops number other row m true e =
    let same = eqb-true other number e in
    ap (λ n. outputs_of (row_fed drops number row) n m) same
    ∙ ap (λ (o : Option IoDrop). outputs_in o m) (named-fed drops number row)
    ∙ output-same (drop_named drops number) row m
    ∙ ap (λ n. outputs_of drops n m) (sym same)
outputs-by drops number other row m false e =
    ap (λ (o : Option IoDrop). outputs_in o m) (named-other drops number other row e)

-- ---- the rows

fits-same : (o : Option IoDrop) (row next : ScriptRow)
    → fits_in (with_row_in row o) next ≡ fits_in o next
fits-same None row next = refl
fits-same (Some d) row next = refl

fits-by : (drops : List IoDrop) (number other : ℕ) (row next : ScriptRow) (b : Bool)
    → (other == number) ≡ b
    → fits_drop (row_fed drops number row) other next ≡ fits_drop drops other next
fits-by drops number other row next true e =
    let same = eqb-true other number e in
    ap (λ n. fits_drop (row_fed drops number row) n next) same
    ∙ ap (λ (o : Option IoDrop). fits_in o next) (named-fed drops number row)
    ∙ fits-same (drop_named drops number) row next
    ∙ ap (λ n. fits_drop drops n next) (sym same)
fits-by drops number other row next false e =
    ap (λ (o : Option IoDrop). fits_in o next) (named-other drops number other row e)

count-more : (o : Option IoDrop) (row : ScriptRow) → is_some o ≡ true
    → rows_in (with_row_in row o) ≡ rows_in o + 1
count-more None row there = absurd cc
count-more (Some d) row there = length-append d.script (row ∷ [])

count-fed : (drops : List IoDrop) (number : ℕ) (row : ScriptRow) → IsNamed drops number
    → row_count (row_fed drops number row) number ≡ row_count drops number + 1
count-fed drops number row named =
    ap rows_in (named-fed drops number row) ∙ count-more (drop_named drops number) row named

-- ---- the plan

-- the row fits the drop that is found
row-fits : (drops : List IoDrop) (number : ℕ) (row : ScriptRow) (found : IoDrop)
    → drop_named drops number ≡ Some found → fits_drop drops number row ≡ true
    → fits_row found.modules row ≡ true
row-fits drops number row found named fits =
    sym (ap (λ (o : Option IoDrop). fits_in o row) named) ∙ fits

-- a drop that fits has a row more that fits
drop-fed : (d : IoDrop) (row : ScriptRow) → fits_row d.modules row ≡ true → IsDrop d
    → IsDrop (with_row d row)
drop-fed d row fits is = record {
  rows = all-push (λ (r : ScriptRow). fits_row d.modules r ≡ true) d.script row is.rows fits;
  inputs = is.inputs;
  outputs = is.outputs;
}

can-by : (drops : List IoDrop) (number other : ℕ) (row : ScriptRow) (m : Contents) (b : Bool)
    → (other == number) ≡ b → fits_drop drops number row ≡ true → CanExchange drops other m
    → CanExchange (row_fed drops number row) other m
can-by drops number other row m true e fits can =
    let same = eqb-true other number e in
    let named : drop_named drops number ≡ Some can.found =
    ap (drop_named drops) (sym same) ∙ can.named in
    record {
      found = with_row can.found row;
      named = ap (drop_named (row_fed drops number row)) same ∙ named-fed drops number row
          ∙ ap (with_row_in row) named;
      fits = drop-fed can.found row (row-fits drops number row can.found named fits) can.fits;
      room = can.room;
    }
can-by drops number other row m false e fits can = record {
  found = can.found;
  named = named-other drops number other row e ∙ can.named;
  fits = can.fits;
  room = can.room;
}

drop-there : (plan : ControllerPlan) (number other : ℕ) (row : ScriptRow)
    → fits_drop plan.drops number row ≡ true → HasDrop plan other
    → HasDrop (plan_fed plan number row) other
drop-there plan number other row fits has = record {
  from = has.from;
  to = has.to;
  ready = can-by plan.drops number other row (cleared (sizes_of plan)) (other == number) refl fits
      has.ready;
}

names-there : (plan : ControllerPlan) (number : ℕ) (row : ScriptRow) (named : Option ℕ)
    → fits_drop plan.drops number row ≡ true → NamesDrop plan named
    → NamesDrop (plan_fed plan number row) named
names-there plan number row None fits has = tt
names-there plan number row (Some other) fits has = drop-there plan number other row fits has

orders-there : (plan : ControllerPlan) (number : ℕ) (row : ScriptRow) (orders : List OrderRow)
    → fits_drop plan.drops number row ≡ true → AllByRecursion (FitsPlan plan) orders
    → AllByRecursion (FitsPlan (plan_fed plan number row)) orders
orders-there plan number row [] fits all = tt
orders-there plan number row (order ∷ orders) fits all = (
  record {
    from = all.0.from;
    to = all.0.to;
    control = all.0.control;
    input = names-there plan number row order.input fits all.0.input;
    output = names-there plan number row order.output fits all.0.output;
  },
  orders-there plan number row orders fits all.1,
)

runs-fed : (plan : ControllerPlan) (number : ℕ) (row : ScriptRow)
    → fits_drop plan.drops number row ≡ true → IsRunnablePlan plan
    → IsRunnablePlan (plan_fed plan number row)
runs-fed plan number row fits runs = record {
  passes = runs.passes;
  messages = runs.messages;
  count = runs.count;
  rows = orders-there plan number row plan.orders fits runs.rows;
}

pub rows-later : RowsComeLater
rows-later = record {
  inputs = λ drops number other k row m from to.
      inputs-by drops number other k row m (other == number) refl from to;
  outputs = λ drops number other row m.
      outputs-by drops number other row m (other == number) refl;
  runs = runs-fed;
  count = count-fed;
  fits = λ drops number other row next.
      fits-by drops number other row next (other == number) refl;
}

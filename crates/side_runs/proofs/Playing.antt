-- A plan whose scripts bring what a field brings.
use Rattle.std.proofs.Common.{◌≡◌, ℕ, zero, suc, ◌+◌, ◌-◌, ◌≤◌, ◌<◌, Bool, true, false, ◌==◌, List}
use Rattle.std.proofs.Common.{[], ◌∷◌, ◌++◌, Option, Some, None, refl, sym, ap, ◌∙◌, subst, length}
use Rattle.std.proofs.Common.{arith, append_assoc, map, min, take, drop, get_or}
use Rattle.std.specs.Prelude.{if◌then◌else◌, slice_get}
use Rattle.std.specs.List.{AllByRecursion, flat_map}
use Rattle.std.specs.Option.{option_map}
use Rattle.std.proofs.Math.Seq.{take-suc, drop-cons}
use Rattle.std.proofs.lemmas.Bool.{eqb-true}
use Rattle.std.proofs.lemmas.Grind.{flat_map-append}
use Rattle.std.proofs.lemmas.List.{length-append, length-map, take-append-drop}
use Rattle.std.proofs.lemmas.Option.{get_or_from_slice_get, slice_get-map}
use Rattle.plant_types.specs.declared.drops.IoDrop.{IoDrop}
use Rattle.plant_types.specs.declared.drops.ScriptRow.{ScriptRow}
use Rattle.plant_types.specs.declared.plan.ControllerPlan.{ControllerPlan}
use Rattle.plant_types.specs.Plans.{KeepsPower}
use Rattle.scan_order.specs.declared.due.ScanStep.{ScanStep}
use Rattle.scan_order.specs.declared.due.ScanStep.TheVariants as steps
use Rattle.scan_order.specs.Due.{full_scan, input_of, row_of}
use Rattle.scan_order.specs.Power.{KeptPowerStays}
use Rattle.traffic_cop.specs.Drops.{drop_named}
use Rattle.traffic_cop.specs.Exchange.{row_at}
use Rattle.controller_core.specs.declared.fixed.Fixed.{Fixed}
use Rattle.controller_core.specs.Replay.{ControllerState}
use Rattle.field_runs.specs.Played.{brings_to, one_if, reads_drop, script_of, told_in, told_to}
use Rattle.field_runs.specs.Played.{with_script, AreScansTold}
use Rattle.field_runs.specs.Scan.{told_behind, told_first}
use Rattle.field_runs.specs.Told.{rows_for, rows_in, AreTold, NamesRow}
use Rattle.field_runs.proofs.Runs.{get-some, get-within, min-up}
use Rattle.field_runs.proofs.Scripts.{all-played, Fits, fits-scans, next-row}
use Rattle.side_runs.specs.Beside.{AreAlikeDrops, HasRowsOf, TakeOneField}
use Rattle.side_runs.specs.Brought.{behind_exchange, Brings, NamesRows, next_row}
use Rattle.side_runs.specs.Brought.{row_for}
use Rattle.side_runs.specs.Brought.{rows_told, ScanField, script_in}
use Rattle.side_runs.specs.Laws.{FieldsArePlayed}
use Rattle.side_runs.proofs.Counting.{after, counted, InRange, no-more, none-made, one_where}
use Rattle.side_runs.proofs.Counting.{plan-ranges, reads, scan-counts, went-on}

-- ---- the same rows of another script

-- a script has a row of this number that another has under its own
record HasRow (script : List ScriptRow) (most : ℕ) (row : Option ScriptRow) : Type 0 where
  number : ℕ
  from : 1 ≤ number
  to : number ≤ most
  same : row_at script number ≡ row

row-there : (script other : List ScriptRow) (k : ℕ) → HasRowsOf script other
    → HasRowsOf other script → 1 ≤ k → k ≤ rows_in script
    → HasRow other (rows_in other) (row_at script k)
row-there [] [] k into back from to =
    record { number = 1; from = omega arith; to = omega arith; same = refl }
row-there [] (row ∷ other) k into back from to =
    absurd (let there = back 0 row refl in
    let no' : None ≡ Some row = there.1 in cc)
row-there (row ∷ script) other k into back from to =
    let own : List ScriptRow = row ∷ script in
    let at = get-some own (k - 1) (omega (arith, from, to)) in
    let there = into (k - 1) at.0 at.1 in
    let within = get-within other there.0 at.0 there.1 in
    let up : min (there.0 + 1) (length other) ≡ there.0 + 1 =
    min-up (there.0 + 1) (length other) (omega (arith, within)) in
    let back' : min (there.0 + 1) (length other) - 1 ≡ there.0 = omega (arith, up) in
    let low : min k (length own) ≡ k = min-up k (length own) to in
    record {
      number = there.0 + 1;
      from = omega arith;
      to = long other there.0 within;
      same = ap (slice_get other) back'
          ∙ (there.1 ∙ (sym at.1 ∙ ap (λ n. slice_get own (n - 1)) (sym low)));
    }
  where
    long : (rows : List ScriptRow) (j : ℕ) → j < length rows → j + 1 ≤ rows_in rows
    long [] j h = absurd (omega (arith, h))
    long (x ∷ rows) j h = omega (arith, h)

drop-row : (a b : Option IoDrop) (k : ℕ) → AreAlikeDrops a b → 1 ≤ k → k ≤ rows_for a
    → HasRow (script_in b) (rows_for b) (row_at (script_in a) k)
drop-row None None k alike from to =
    record { number = 1; from = omega arith; to = omega arith; same = refl }
drop-row None (Some b) k alike from to = absurd alike
drop-row (Some a) None k alike from to = absurd alike
drop-row (Some a) (Some b) k alike from to =
    row-there a.script b.script k alike.in_other alike.in_one from to

-- ---- what is told of a field

told-next : (plan : ControllerPlan) (input : Option ℕ) (field : ScanField)
    → NamesRows plan.drops field → NamesRow plan input (next_row input field)
told-next plan None field named = tt
told-next plan (Some x) field named = named x 0

named-behind : (drops : List IoDrop) (input : Option ℕ) (field : ScanField) → NamesRows drops field
    → NamesRows drops (behind_exchange input field)
named-behind drops None field named = named
named-behind drops (Some x) field named = λ d nth. named d (if x == d then nth + 1 else nth)

pub field-told : (plan : ControllerPlan) (due : List ScanStep) (field : ScanField)
    → NamesRows plan.drops field → AreTold plan due (rows_told plan due field)
field-told plan [] field named = tt
field-told plan (steps.Begin ∷ due) field named = (tt, field-told plan due field named)
field-told plan (steps.In row ∷ due) field named = (
  told-next plan (input_of (row_of plan row)) field named,
  field-told plan due (behind_exchange (input_of (row_of plan row)) field)
      (named-behind plan.drops (input_of (row_of plan row)) field named),
)
field-told plan (steps.Solve row ∷ due) field named = (tt, field-told plan due field named)
field-told plan (steps.Out row ∷ due) field named = (tt, field-told plan due field named)
field-told plan (steps.End ∷ due) field named = (tt, field-told plan due field named)
field-told plan (steps.Fail ∷ due) field named = (tt, field-told plan due field named)
field-told plan (steps.Dark ∷ due) field named = (tt, field-told plan due field named)

-- a number stands behind so many of a list
pub record StandsAt (numbers : List ℕ) (many n : ℕ) : Type 0 where
  pub done : List ℕ
  pub rest : List ℕ
  pub as_many : length done ≡ many
  pub is : numbers ≡ done ++ n ∷ rest

stands-next : (numbers : List ℕ) (many n x : ℕ) → StandsAt numbers many n
    → StandsAt (x ∷ numbers) (suc many) n
stands-next numbers many n x at = record {
  done = x ∷ at.done;
  rest = at.rest;
  as_many = ap suc at.as_many;
  is = ap (λ (l : List ℕ). x ∷ l) at.is;
}

-- behind an exchange
told-behind : (input : Option ℕ) (d nth many : ℕ) (field : ScanField) (rest : List ℕ)
    → nth < one_where (reads_drop input d) + many
    → ((k : ℕ) → k < many → StandsAt rest k (behind_exchange input field d k))
    → StandsAt (one_if (reads_drop input d) (next_row input field) ++ rest) nth (field d nth)
told-behind None d nth many field rest within later = later nth (omega (arith, within))
told-behind (Some x) d nth many field rest within later = by (x == d) refl nth within later
  where
    by : (b : Bool) → (x == d) ≡ b → (k : ℕ) → k < one_where b + many
        → ((j : ℕ) → j < many → StandsAt rest j (field d (if b then j + 1 else j)))
        → StandsAt (one_if b (field x 0) ++ rest) k (field d k)
    by true is zero low later' = record {
      done = [];
      rest = rest;
      as_many = refl;
      is = ap (λ n. field n 0 ∷ rest) (eqb-true x d is);
    }
    by true is (suc k) low later' =
        let up : k + 1 ≡ suc k = omega arith in
        subst (λ n. StandsAt (field x 0 ∷ rest) (suc k) (field d n)) up
        (stands-next rest k (field d (k + 1)) (field x 0) (later' k (omega (arith, low))))
    by false is k low later' = later' k (omega (arith, low))

pub told-at : (plan : ControllerPlan) (d : ℕ) (due : List ScanStep) (field : ScanField) (nth : ℕ)
    → nth < reads plan d due
    → StandsAt (told_to plan d due (rows_told plan due field)) nth (field d nth)
unfolding told_to
told-at plan d [] field nth within = absurd (omega (arith, within))
told-at plan d (steps.Begin ∷ due) field nth within = told-at plan d due field nth (omega (
  arith,
  within,
))
told-at plan d (steps.In row ∷ due) field nth within =
    let input = input_of (row_of plan row) in
    told-behind input d nth (reads plan d due) field
    (told_to plan d due (rows_told plan due (behind_exchange input field))) within
    (λ k low. told-at plan d due (behind_exchange input field) k low)
told-at plan d (steps.Solve row ∷ due) field nth within = told-at plan d due field nth (omega
    (arith, within))
told-at plan d (steps.Out row ∷ due) field nth within = told-at plan d due field nth (omega (
  arith,
  within,
))
told-at plan d (steps.End ∷ due) field nth within = told-at plan d due field nth (omega (
  arith,
  within,
))
told-at plan d (steps.Fail ∷ due) field nth within = told-at plan d due field nth (omega (
  arith,
  within,
))
told-at plan d (steps.Dark ∷ due) field nth within = told-at plan d due field nth (omega (
  arith,
  within,
))

one-long : (b : Bool) (n : ℕ) → length (one_if b n) ≡ one_where b
one-long true n = refl
one-long false n = refl

told-long : (plan : ControllerPlan) (d : ℕ) (due : List ScanStep) (rows : List ℕ)
    → length (told_to plan d due rows) ≡ reads plan d due
unfolding told_to
told-long plan d [] rows = refl
told-long plan d (step ∷ due) rows =
    length-append (one_if (brings_to plan d step) (told_first rows))
    (told_to plan d due (told_behind step rows))
    ∙ (λ i. one-long (brings_to plan d step) (told_first rows) i
    + told-long plan d due (told_behind step rows) i)

-- ---- drops with scripts

named-by : (f : IoDrop → IoDrop) (x : IoDrop) (o p : Option IoDrop) (b : Bool)
    → p ≡ option_map f o
    → (if b then Some (f x) else p) ≡ option_map f (if b then Some x else o)
named-by f x o p true is = refl
named-by f x o p false is = is

named-map : (f : IoDrop → IoDrop) → ((x : IoDrop) → (f x).number ≡ x.number)
    → (drops : List IoDrop) (d : ℕ) → drop_named (map f drops) d ≡ option_map f (drop_named drops d)
unfolding drop_named
named-map f keeps [] d = refl
named-map f keeps (x ∷ drops) d =
    ap (λ n. if n == d then Some (f x) else drop_named (map f drops) d) (keeps x)
    ∙ named-by f x (drop_named drops d) (drop_named (map f drops) d) (x.number == d)
    (named-map f keeps drops d)

number-by : (x y : IoDrop) (o : Option IoDrop) (d : ℕ) (b : Bool) → (x.number == d) ≡ b
    → (o ≡ Some y → y.number ≡ d) → (if b then Some x else o) ≡ Some y → y.number ≡ d
number-by x y o d true is rest found =
    let same : Some x ≡ Some y = found in
    let e : x ≡ y = cc in
    ap (λ (q : IoDrop). q.number) (sym e) ∙ eqb-true x.number d is
number-by x y o d false is rest found = rest found

number-named : (drops : List IoDrop) (d : ℕ) (y : IoDrop) → drop_named drops d ≡ Some y
    → y.number ≡ d
unfolding drop_named
number-named [] d y is = absurd (let no' : None ≡ Some y = is in cc)
number-named (x ∷ drops) d y is =
    number-by x y (drop_named drops d) d (x.number == d) refl (number-named drops d y) is

-- the script of a drop brings the next number that is told
module _ (plan : ControllerPlan) (told : List (List ℕ)) (all : AreScansTold plan told)
    (d many n : ℕ) (at : StandsAt (told_in plan d told) many n) (fits : Fits plan d n) where
  row-by : (found : Option IoDrop) → drop_named plan.drops d ≡ found
      → row_at (script_in (option_map (with_script plan told) found)) (many + 1)
      ≡ row_at (script_in found) n
  row-by None is = refl
  row-by (Some x) is =
      let number : x.number ≡ d = number-named plan.drops d x is in
      let rows : rows_for (drop_named plan.drops d) ≡ rows_in x.script = ap rows_for is in
      ap (λ k. row_at (script_of x.script (told_in plan k told)) (many + 1)) number
      ∙ (ap (λ k. row_at (script_of x.script (told_in plan d told)) (k + 1)) (sym at.as_many)
      ∙ next-row x.script (told_in plan d told) at.done at.rest n at.is
      (subst (λ k. AllByRecursion (λ q. (1 ≤ q) × (q ≤ k)) (told_in plan d told)) rows
      (fits-scans plan d told all))
      (fits.0, subst (λ k. n ≤ k) rows fits.1))

  row-played : row_for (map (with_script plan told) plan.drops) d (many + 1)
      ≡ row_for plan.drops d n
  row-played =
      ap (λ (o : Option IoDrop). row_at (script_in o) (many + 1))
      (named-map (with_script plan told) (λ x. refl) plan.drops d)
      ∙ row-by (drop_named plan.drops d) refl

-- the field of a scan brings rows of the drops
pub get-named : (drops : List IoDrop) (l : List ScanField) (n : ℕ) (field : ScanField)
    → AllByRecursion (NamesRows drops) l → slice_get l n ≡ Some field → NamesRows drops field
get-named drops [] n field all at = absurd (let no' : None ≡ Some field = at in cc)
get-named drops (x ∷ l) zero field all at =
    let same : Some x ≡ Some field = at in
    let e : x ≡ field = cc in
    subst (NamesRows drops) e all.0
get-named drops (x ∷ l) (suc n) field all at = get-named drops l n field all.1 at

-- ---- a field in a controller's own rows

module _ (stays : KeptPowerStays) (fixed : Fixed) (keeps : KeepsPower fixed.plan)
    (ranges : (row : ℕ) → InRange (input_of (row_of fixed.plan row))) (fields : List ScanField)
    (named : AllByRecursion (NamesRows fixed.plan.drops) fields) where
  abbrev tells : ScanField → List ℕ
  tells field = rows_told fixed.plan (full_scan fixed.plan) field

  abbrev told : List (List ℕ)
  told = map tells fields

  all-told : (l : List ScanField) → AllByRecursion (NamesRows fixed.plan.drops) l
      → AreScansTold fixed.plan (map tells l)
  all-told [] all = tt
  all-told (field ∷ l) all =
      (field-told fixed.plan (full_scan fixed.plan) field all.0, all-told l all.1)

  abbrev pd : List IoDrop
  pd = map (with_script fixed.plan told) fixed.plan.drops

  abbrev state : ℕ → ControllerState
  state n = after stays fixed.plan keeps fixed.scan_time fixed.watchdog pd ranges n

  abbrev told_before : ℕ → ℕ → List ℕ
  told_before d n = told_in fixed.plan d (take n told)

  -- a scan more is told
  told-more : (d n : ℕ) → n < length told → told_before d (n + 1)
      ≡ told_before d n ++ told_to fixed.plan d (full_scan fixed.plan) (get_or told n [])
  told-more d n within =
      let up : n + 1 ≡ suc n = omega arith in
      ap (λ k. told_before d k) up
      ∙ (ap (told_in fixed.plan d) (take-suc told n [] within)
      ∙ (flat_map-append (told_to fixed.plan d (full_scan fixed.plan)) (take n told)
      (get_or told n [] ∷ [])
      ∙ ap (λ (l : List ℕ). told_before d n ++ l)
      (append-none (told_to fixed.plan d (full_scan fixed.plan) (get_or told n [])))))
    where
      append-none : (l : List ℕ) → l ++ [] ≡ l
      append-none [] = refl
      append-none (x ∷ l) = ap (λ (k : List ℕ). x ∷ k) (append-none l)

  -- as long as it goes on, as many exchanges were made as rows were told
  made-all : (n d : ℕ) → 1 ≤ d → n ≤ length told → (state n).stop ≡ 0
      → counted (state n).exchanges d ≡ length (told_before d n)
  made-all zero d first few goes =
      none-made stays fixed.plan keeps fixed.scan_time fixed.watchdog pd ranges d
  made-all (suc n) d first few goes =
      let up : n + 1 ≡ suc n = omega arith in
      let goes' : (state (n + 1)).stop ≡ 0 = ap (λ k. (state k).stop) up ∙ goes in
      let before = made-all n d first (omega (arith, few))
      (went-on stays fixed.plan keeps fixed.scan_time fixed.watchdog pd ranges n goes') in
      let scan = (scan-counts stays fixed.plan keeps fixed.scan_time fixed.watchdog pd ranges n).all
      goes' d first in
      let more = told-more d n (omega (arith, few)) in
      let long = told-long fixed.plan d (full_scan fixed.plan) (get_or told n []) in
      let both = length-append (told_before d n)
      (told_to fixed.plan d (full_scan fixed.plan) (get_or told n [])) in
      ap (λ k. counted (state k).exchanges d) (sym up)
      ∙ (scan
      ∙ ((λ i. before i + sym long i)
      ∙ (sym both ∙ (ap length (sym more) ∙ ap (λ k. length (told_before d k)) up))))

  -- where the next row stands that is told
  stands : (n d nth : ℕ) (field : ScanField) → slice_get fields n ≡ Some field
      → nth < reads fixed.plan d (full_scan fixed.plan)
      → StandsAt (told_in fixed.plan d told) (length (told_before d n) + nth) (field d nth)
  stands n d nth field at within =
      let here : slice_get told n ≡ Some (tells field) =
      slice_get-map tells fields n ∙ ap (option_map tells) at in
      let low : n < length told = get-within told n (tells field) here in
      let is : get_or told n [] ≡ tells field =
      get_or_from_slice_get told n (tells field) [] here in
      let one = told-at fixed.plan d (full_scan fixed.plan) field nth within in
      let f = told_to fixed.plan d (full_scan fixed.plan) in
      let later = flat_map f (drop (n + 1) told) in
      let split : told_in fixed.plan d told
      ≡ told_before d n ++ (f (tells field) ++ later) =
      ap (told_in fixed.plan d) (sym (take-append-drop n told))
      ∙ (flat_map-append f (take n told) (drop n told)
      ∙ ap (λ (l : List (List ℕ)). told_before d n ++ flat_map f l)
      (next-in told n low ∙ ap (λ (l : List ℕ). l ∷ drop (n + 1) told) is)) in
      record {
        done = told_before d n ++ one.done;
        rest = one.rest ++ later;
        as_many = length-append (told_before d n) one.done
            ∙ ap (λ k. length (told_before d n) + k) one.as_many;
        is = split
            ∙ (ap (λ (l : List ℕ). told_before d n ++ (l ++ later)) one.is
            ∙ (ap (λ (l : List ℕ). told_before d n ++ l)
            (append_assoc one.done (field d nth ∷ one.rest) later)
            ∙ sym (append_assoc (told_before d n) one.done (field d nth ∷ (one.rest ++ later)))));
      }
    where
      next-in : (l : List (List ℕ)) (i : ℕ) → i < length l
          → drop i l ≡ get_or l i [] ∷ drop (i + 1) l
      next-in l i h =
          let up : suc i ≡ i + 1 = omega arith in
          drop-cons l i [] h ∙ ap (λ k. get_or l i [] ∷ drop k l) up

  own-rows : (n d nth : ℕ) (field : ScanField) → slice_get fields n ≡ Some field → 1 ≤ d
      → counted (state n).exchanges d + nth < counted (state (n + 1)).exchanges d
      → row_for pd d (counted (state n).exchanges d + nth + 1)
      ≡ row_for fixed.plan.drops d (field d nth)
  own-rows n d nth field at first made = by ((state n).stop == 0) refl
    where
      by : (b : Bool) → ((state n).stop == 0) ≡ b
          → row_for pd d (counted (state n).exchanges d + nth + 1)
          ≡ row_for fixed.plan.drops d (field d nth)
      by true is =
          let goes : (state n).stop ≡ 0 = eqb-true (state n).stop 0 is in
          let few = get-within fields n field at in
          let many : length told ≡ length fields = length-map fields tells in
          let before = made-all n d first (omega (arith, few, many)) goes in
          let high = (scan-counts stays fixed.plan keeps fixed.scan_time fixed.watchdog pd ranges
          n).high
          d first in
          let within : nth < reads fixed.plan d (full_scan fixed.plan) = omega (arith, made, high)
          in
          let name = get-named fixed.plan.drops fields n field named at d nth in
          ap (λ k. row_for pd d (k + nth + 1)) before
          ∙ row-played fixed.plan told (all-told fields named) d (length (told_before d n) + nth)
          (field d nth) (stands n d nth field at within) name
      by false is =
          let same = no-more stays fixed.plan keeps fixed.scan_time fixed.watchdog pd ranges n is in
          let as' : counted (state (n + 1)).exchanges d ≡ counted (state n).exchanges d =
          ap (λ (s : ControllerState). counted s.exchanges d) same in
          absurd (omega (arith, made, as'))

  own-brings : Brings fixed fixed.plan.drops fields (record fixed.plan { drops = pd })
  own-brings = record {
    plays = record { others = refl; drops = all-played fixed.plan told fixed.plan.drops };
    rows = λ scans d nth field at makes. own-rows scans d nth field at makes.number makes.made;
  }

-- ---- the rows of another controller's drops

module _ (fixed : Fixed) (drops : List IoDrop) (one : TakeOneField drops fixed.plan.drops) where
  own-row : (field : ScanField) → NamesRows drops field → (d nth : ℕ)
      → HasRow (script_in (drop_named fixed.plan.drops d)) (rows_for (drop_named fixed.plan.drops
      d))
      (row_at (script_in (drop_named drops d)) (field d nth))
  own-row field named d nth =
      let name = named d nth in
      drop-row (drop_named drops d) (drop_named fixed.plan.drops d) (field d nth) (one d) name.0
      name.1

  -- a field in the rows of its own drops
  abbrev own : (field : ScanField) → NamesRows drops field → ScanField
  own field named d nth = (own-row field named d nth).number

  abbrev own_fields : (fields : List ScanField) → AllByRecursion (NamesRows drops) fields
      → List ScanField
  own_fields [] named = []
  own_fields (field ∷ fields) named = own field named.0 ∷ own_fields fields named.1

  own-named : (fields : List ScanField) (named : AllByRecursion (NamesRows drops) fields)
      → AllByRecursion (NamesRows fixed.plan.drops) (own_fields fields named)
  own-named [] named = tt
  own-named (field ∷ fields) named = (
    λ d nth. let row = own-row field named.0 d nth in (row.from, row.to),
    own-named fields named.1,
  )

  -- the same rows at a place
  record SameRows (fields : List ScanField) (n : ℕ) (field : ScanField) : Type 0 where
    mine : ScanField
    at : slice_get fields n ≡ Some mine
    same : (d nth : ℕ) → row_for fixed.plan.drops d (mine d nth) ≡ row_for drops d (field d nth)

  own-at : (fields : List ScanField) (named : AllByRecursion (NamesRows drops) fields) (n : ℕ)
      (field : ScanField) → slice_get fields n ≡ Some field
      → SameRows (own_fields fields named) n field
  own-at [] named n field is = absurd (let no' : None ≡ Some field = is in cc)
  own-at (x ∷ fields) named zero field is =
      let first : Some x ≡ Some field = is in
      let e : x ≡ field = cc in
      record {
        mine = own x named.0;
        at = refl;
        same = λ d nth.
            (own-row x named.0 d nth).same ∙ ap (λ (f : ScanField). row_for drops d (f d nth)) e;
      }
  own-at (x ∷ fields) named (suc n) field is =
      let rest = own-at fields named.1 n field is in
      record { mine = rest.mine; at = rest.at; same = rest.same }

  brings-own : (fields : List ScanField) (named : AllByRecursion (NamesRows drops) fields)
      (played : ControllerPlan)
      → Brings fixed fixed.plan.drops (own_fields fields named) played
      → Brings fixed drops fields played
  brings-own fields named played brings = record {
    plays = brings.plays;
    rows = λ scans d nth field at makes.
        let mine = own-at fields named scans field at in
        brings.rows scans d nth mine.mine mine.at makes ∙ mine.same d nth;
  }

pub fields-played : KeptPowerStays → FieldsArePlayed
fields-played stays fixed drops fields runs keeps one named =
    let mine = own_fields fixed drops one fields named in
    let brings = own-brings stays fixed keeps (plan-ranges fixed.plan runs) mine
    (own-named fixed drops one fields named) in (
      record fixed.plan {
        drops = pd stays fixed keeps (plan-ranges fixed.plan runs) mine
            (own-named fixed drops one fields named);
      },
      brings-own fixed drops one fields named _ brings,
    )

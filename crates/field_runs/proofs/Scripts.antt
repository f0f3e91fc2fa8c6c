-- Scripts that bring what is told, one row after another.
use Rattle.std.proofs.Common.{◌≡◌, ℕ, zero, suc, ◌+◌, ◌-◌, ◌≤◌, ◌<◌, Bool, true, false, ◌==◌, List}
use Rattle.std.proofs.Common.{[], ◌∷◌, ◌++◌, Option, Some, None, refl, sym, ap, ◌∙◌, subst, length}
use Rattle.std.proofs.Common.{arith, min, map}
use Rattle.std.specs.Prelude.{if◌then◌else◌, slice_get}
use Rattle.std.specs.List.{AllByRecursion, AllZip, cons_option, filter_map, flat_map}
use Rattle.std.specs.Option.{option_map}
use Rattle.std.proofs.lemmas.Bool.{eqb-true}
use Rattle.plant_types.specs.declared.drops.IoDrop.{IoDrop}
use Rattle.plant_types.specs.declared.drops.ScriptRow.{ScriptRow}
use Rattle.plant_types.specs.declared.plan.ControllerPlan.{ControllerPlan}
use Rattle.plant_types.specs.Store.{Contents}
use Rattle.scan_order.specs.declared.due.ScanStep.{ScanStep}
use Rattle.scan_order.specs.declared.due.ScanStep.TheVariants as steps
use Rattle.scan_order.specs.Due.{full_scan, input_of, row_of}
use Rattle.traffic_cop.specs.Drops.{drop_named, exchanged_in, input_after}
use Rattle.traffic_cop.specs.Exchange.{exchanged_by, row_at}
use Rattle.field_runs.specs.Field.{IsPlayedBy}
use Rattle.field_runs.specs.Scan.{told_first, told_behind}
use Rattle.field_runs.specs.Told.{rows_in, rows_for, NamesRow, IsTold, AreTold}
use Rattle.field_runs.specs.Played.{AreScansTold, brings_to, one_if, or_own, reads_drop, row_in}
use Rattle.field_runs.specs.Played.{script_of, told_in, told_to, with_script}
use Rattle.field_runs.proofs.Runs.{get-some, get-within, min-up}

-- ---- what is told for a drop

-- a number of a row of a drop
abbrev pub Fits : ControllerPlan → ℕ → ℕ → Type 0
Fits plan d n = (1 ≤ n) × (n ≤ rows_for (drop_named plan.drops d))

all-both : {X : Type 0} (P : X → Type 0) (xs ys : List X) → AllByRecursion P xs
    → AllByRecursion P ys → AllByRecursion P (xs ++ ys)
all-both P [] ys a b = b
all-both P (x ∷ xs) ys a b = (a.0, all-both P xs ys a.1 b)

fits-drop : (plan : ControllerPlan) (d n : ℕ) (drop : Option ℕ) → NamesRow plan drop n
    → reads_drop drop d ≡ true → Fits plan d n
fits-drop plan d n None told is = absurd (let no' : false ≡ true = is in cc)
fits-drop plan d n (Some x) told is = subst (λ q. Fits plan q n) (eqb-true x d is) told

fits-step : (plan : ControllerPlan) (d n : ℕ) (step : ScanStep) → IsTold plan step n
    → brings_to plan d step ≡ true → Fits plan d n
fits-step plan d n steps.Begin told is = absurd (let no' : false ≡ true = is in cc)
fits-step plan d n (steps.In row) told is = fits-drop plan d n (input_of (row_of plan row)) told is
fits-step plan d n (steps.Solve row) told is = absurd (let no' : false ≡ true = is in cc)
fits-step plan d n (steps.Out row) told is = absurd (let no' : false ≡ true = is in cc)
fits-step plan d n steps.End told is = absurd (let no' : false ≡ true = is in cc)
fits-step plan d n steps.Fail told is = absurd (let no' : false ≡ true = is in cc)
fits-step plan d n steps.Dark told is = absurd (let no' : false ≡ true = is in cc)

fits-one : (plan : ControllerPlan) (d n : ℕ) (b : Bool) → (b ≡ true → Fits plan d n)
    → AllByRecursion (Fits plan d) (one_if b n)
fits-one plan d n true h = (h refl, tt)
fits-one plan d n false h = tt

fits-told : (plan : ControllerPlan) (d : ℕ) (due : List ScanStep) (rows : List ℕ)
    → AreTold plan due rows → AllByRecursion (Fits plan d) (told_to plan d due rows)
unfolding told_to
fits-told plan d [] rows told = tt
fits-told plan d (step ∷ due) rows told =
    all-both (Fits plan d) (one_if (brings_to plan d step) (told_first rows))
    (told_to plan d due (told_behind step rows))
    (fits-one plan d (told_first rows) (brings_to plan d step)
    (fits-step plan d (told_first rows) step told.0))
    (fits-told plan d due (told_behind step rows) told.1)

pub fits-scans : (plan : ControllerPlan) (d : ℕ) (told : List (List ℕ)) → AreScansTold plan told
    → AllByRecursion (Fits plan d) (told_in plan d told)
fits-scans plan d [] all = tt
fits-scans plan d (rows ∷ told) all =
    all-both (Fits plan d) (told_to plan d (full_scan plan) rows) (told_in plan d told)
    (fits-told plan d (full_scan plan) rows all.0) (fits-scans plan d told all.1)

-- ---- a script of what is told

or-own-some : (script rows : List ScriptRow) (i : ℕ) → i < length rows → or_own script rows ≡ rows
or-own-some script [] i h = absurd (omega (arith, h))
or-own-some script (row ∷ rows) i h = refl

none-there : (numbers : List ℕ) → filter_map (row_in []) numbers ≡ []
none-there [] = refl
none-there (n ∷ numbers) = none-there numbers

-- each number is that of a row
abbrev Named : List ScriptRow → List ℕ → Type 0
Named script numbers = AllByRecursion (λ n. (1 ≤ n) × (n ≤ length script)) numbers

row-named : (script : List ScriptRow) (n : ℕ) → (1 ≤ n) × (n ≤ length script)
    → (row : ScriptRow) × (row_in script n ≡ Some row)
row-named script n h = let a = h.0 in let b = h.1 in get-some script (n - 1) (omega (arith, a, b))

filter-get : (script : List ScriptRow) (numbers : List ℕ) → Named script numbers → (i n : ℕ)
    → slice_get numbers i ≡ Some n
    → slice_get (filter_map (row_in script) numbers) i ≡ row_in script n
filter-get script [] named i n is = absurd (let no' : None ≡ Some n = is in cc)
filter-get script (x ∷ numbers) named zero n is =
    let row = row-named script x named.0 in
    let first : Some x ≡ Some n = is in
    let same : x ≡ n = cc in
    ap (λ (o : Option ScriptRow). slice_get (cons_option o (filter_map (row_in script) numbers)) 0)
    row.1
    ∙ (sym row.1 ∙ ap (row_in script) same)
filter-get script (x ∷ numbers) named (suc i) n is =
    let row = row-named script x named.0 in
    ap (λ (o : Option ScriptRow). slice_get (cons_option o (filter_map (row_in script) numbers))
    (suc i)) row.1
    ∙ filter-get script numbers named.1 i n is

at-place : (done rest : List ℕ) (n : ℕ) → slice_get (done ++ n ∷ rest) (length done) ≡ Some n
at-place [] rest n = refl
at-place (x ∷ done) rest n = at-place done rest n

-- the script brings the next number that is told
pub next-row : (script : List ScriptRow) (numbers done rest : List ℕ) (n : ℕ)
    → numbers ≡ done ++ n ∷ rest
    → AllByRecursion (λ q. (1 ≤ q) × (q ≤ rows_in script)) numbers
    → (1 ≤ n) × (n ≤ rows_in script)
    → row_at (script_of script numbers) (length done + 1) ≡ row_at script n
next-row [] numbers done rest n is all fits =
    ap (λ (l : List ScriptRow). row_at (or_own [] l) (length done + 1)) (none-there numbers)
next-row (row ∷ script) numbers done rest n is all fits =
    let s : List ScriptRow = row ∷ script in
    let told : List ScriptRow = filter_map (row_in s) numbers in
    let at : slice_get numbers (length done) ≡ Some n =
    ap (λ (l : List ℕ). slice_get l (length done)) is ∙ at-place done rest n in
    let found = row-named s n fits in
    let here : slice_get told (length done) ≡ row_in s n =
    filter-get s numbers all (length done) n at in
    let within = get-within told (length done) found.0 (here ∙ found.1) in
    let up : min (length done + 1) (length told) ≡ length done + 1 =
    min-up (length done + 1) (length told) (omega (arith, within)) in
    let back : min (length done + 1) (length told) - 1 ≡ length done = omega (arith, up) in
    let own : min n (length s) ≡ n = min-up n (length s) fits.1 in
    ap (λ (l : List ScriptRow). row_at l (length done + 1))
    (or-own-some s told (length done) within)
    ∙ (ap (slice_get told) back ∙ (here ∙ ap (λ k. slice_get s (k - 1)) (sym own)))

-- ---- drops with such scripts

kept-in : (script rows : List ScriptRow) (n : ℕ) (o : Option ScriptRow) → row_in script n ≡ o
    → ((i : ℕ) (row : ScriptRow) → slice_get rows i ≡ Some row
    → (j : ℕ) × (slice_get script j ≡ Some row))
    → (i : ℕ) (row : ScriptRow) → slice_get (cons_option o rows) i ≡ Some row
    → (j : ℕ) × (slice_get script j ≡ Some row)
kept-in script rows n None is rest i row at = rest i row at
kept-in script rows n (Some first) is rest zero row at = (n - 1, is ∙ at)
kept-in script rows n (Some first) is rest (suc i) row at = rest i row at

in-filter : (script : List ScriptRow) (numbers : List ℕ) (i : ℕ) (row : ScriptRow)
    → slice_get (filter_map (row_in script) numbers) i ≡ Some row
    → (j : ℕ) × (slice_get script j ≡ Some row)
in-filter script [] i row is = absurd (let no' : None ≡ Some row = is in cc)
in-filter script (n ∷ numbers) i row is =
    kept-in script (filter_map (row_in script) numbers) n (row_in script n) refl
    (in-filter script numbers) i row is

in-own : (script rows : List ScriptRow)
    → ((i : ℕ) (row : ScriptRow) → slice_get rows i ≡ Some row
    → (j : ℕ) × (slice_get script j ≡ Some row))
    → (i : ℕ) (row : ScriptRow) → slice_get (or_own script rows) i ≡ Some row
    → (j : ℕ) × (slice_get script j ≡ Some row)
in-own script [] there i row is = (i, is)
in-own script (x ∷ rows) there i row is = there i row is

some-own : (script rows : List ScriptRow) → 0 < length script → 0 < length (or_own script rows)
some-own script [] h = h
some-own script (x ∷ rows) h = omega arith

module _ (plan : ControllerPlan) (told : List (List ℕ)) where
  pub all-played : (drops : List IoDrop) → AllZip IsPlayedBy drops (map (with_script plan told) drops)
  all-played [] = tt
  all-played (drop ∷ drops) = (
    record {
      others = refl;
      rows = in-own drop.script
          (filter_map (row_in drop.script) (told_in plan drop.number told))
          (in-filter drop.script (told_in plan drop.number told));
      some = some-own drop.script
          (filter_map (row_in drop.script) (told_in plan drop.number told));
    },
    all-played drops,
  )

  named-by : (x : IoDrop) (o p : Option IoDrop) (b : Bool) → p ≡ option_map (with_script plan told) o
      → (if b then Some (with_script plan told x) else p) ≡ option_map (with_script plan told) (if b then Some x else o)
  named-by x o p true is = refl
  named-by x o p false is = is

  named-played : (drops : List IoDrop) (d : ℕ)
      → drop_named (map (with_script plan told) drops) d ≡ option_map (with_script plan told) (drop_named drops d)
  unfolding drop_named
  named-played [] d = refl
  named-played (x ∷ drops) d =
      named-by x (drop_named drops d) (drop_named (map (with_script plan told) drops) d) (x.number == d)
      (named-played drops d)

  number-by : (x y : IoDrop) (o : Option IoDrop) (d : ℕ) (b : Bool) → (x.number == d) ≡ b
      → (o ≡ Some y → y.number ≡ d) → (if b then Some x else o) ≡ Some y → y.number ≡ d
  number-by x y o d true is rest found =
      let same : Some x ≡ Some y = found in
      let e : x ≡ y = cc in
      ap (λ (q : IoDrop). q.number) (sym e) ∙ eqb-true x.number d is
  number-by x y o d false is rest found = rest found

  number-named : (drops : List IoDrop) (d : ℕ) (y : IoDrop) → drop_named drops d ≡ Some y
      → y.number ≡ d
  unfolding drop_named
  number-named [] d y is = absurd (let no' : None ≡ Some y = is in cc)
  number-named (x ∷ drops) d y is =
      number-by x y (drop_named drops d) d (x.number == d) refl (number-named drops d y) is

  module _ (all : AreScansTold plan told) (d n : ℕ) (done rest : List ℕ)
      (is : told_in plan d told ≡ done ++ n ∷ rest) (fits : Fits plan d n) (m : Contents) where
    input-by : (found : Option IoDrop) → drop_named plan.drops d ≡ found
        → exchanged_in (option_map (with_script plan told) found) (length done + 1) m ≡ exchanged_in found n m
    input-by None at = refl
    input-by (Some x) at =
        let number : x.number ≡ d = number-named plan.drops d x at in
        let rows : rows_for (drop_named plan.drops d) ≡ rows_in x.script = ap rows_for at in
        ap (λ (r : Option ScriptRow). exchanged_by r x.modules m)
        (ap (λ k. row_at (script_of x.script (told_in plan k told)) (length done + 1)) number
        ∙ next-row x.script (told_in plan d told) done rest n is
        (subst (λ k. AllByRecursion (λ q. (1 ≤ q) × (q ≤ k)) (told_in plan d told)) rows
        (fits-scans plan d told all))
        (fits.0, subst (λ k. n ≤ k) rows fits.1))

    pub input-played : input_after (map (with_script plan told) plan.drops) d (length done + 1) m
        ≡ input_after plan.drops d n m
    input-played =
        ap (λ (o : Option IoDrop). exchanged_in o (length done + 1) m) (named-played plan.drops d)
        ∙ input-by (drop_named plan.drops d) refl

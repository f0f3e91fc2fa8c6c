-- A drop can be fed its rows one after another.
use Rattle.std.proofs.Common.{◌≡◌, ◌≤◌, ℕ, zero, suc, ◌+◌, ◌-◌, ◌==◌, Bool, true, false, cond}
use Rattle.std.proofs.Common.{List, [], ◌∷◌, ◌++◌, length, map, Option, Some, None, refl, sym}
use Rattle.std.proofs.Common.{ap, subst, ◌∙◌, append_assoc, arith, eq-eqb, length-append, max}
use Rattle.std.proofs.Common.{Result, Ok, Err, OnOk}
use Rattle.std.specs.Prelude.{if◌then◌else◌, option_map, replicate, slice_get}
use Rattle.std.specs.List.{All, AllByRecursion, count_by, enumerate_from, range_with_len}
use Rattle.std.proofs.lemmas.Bool.{eqb-true}
use Rattle.std.proofs.lemmas.List.{append-nil, length-map, length-replicate, map-append}
use Rattle.std.proofs.lemmas.List.FromFn.{length-enumerate_from}
use Rattle.std.proofs.lemmas.List.Sums.{fold-append, sum_by-cons}
use Rattle.std.proofs.lemmas.Option.{slice_get-map}
use Rattle.plant_types.specs.declared.drops.IoDrop.{IoDrop}
use Rattle.plant_types.specs.declared.drops.Module.{Module}
use Rattle.plant_types.specs.declared.drops.ScriptRow.{ScriptRow}
use Rattle.plant_types.specs.declared.drops.ScriptRow.TheVariants.{Silent, Row}
use Rattle.plant_types.specs.declared.plan.ControllerPlan.{ControllerPlan}
use Rattle.plant_types.specs.declared.plan.OrderRow.{OrderRow}
use Rattle.plant_types.specs.declared.plan.Plant.{Plant}
use Rattle.scan_order.specs.Due.{input_of}
use Rattle.traffic_cop.specs.Drops.{drop_named}
use Rattle.traffic_cop.specs.Exchange.{fits_row, input_total, row_at, IsDrop}
use Rattle.traffic_cop.specs.Feeding.{fits_in, row_fed, rows_in, with_row}
use Rattle.traffic_cop.specs.Rows.{FitsPlan, HasDrop, IsRunnablePlan, NamesDrop}
use Rattle.controller_core.specs.declared.entry.Entry.{Entry}
use Rattle.controller_core.specs.declared.entry.Entry.TheVariants as entries
use Rattle.controller_core.specs.Feeding.{CanFeedAfter}
use Rattle.joint_history.specs.declared.joint.ControllerLog.{ControllerLog}
use Rattle.joint_history.specs.declared.joint.Joint.{Joint}
use Rattle.joint_history.specs.JointLaws.{fixed_of}
use Rattle.serial_feed.specs.SerialRuns.{ControllerStation}
use Rattle.serial_feed.specs.SerialRuns.{CanFeedNode}
use Rattle.serial_feed.specs.SerialRuns.{log_of, StandsOn}
use Rattle.serial_feed.proofs.SerialLemmas.{from-places, map-there, zip-at}
use Rattle.serial_feed.proofs.SerialLemmas.{all-at}
use Rattle.serial_feed.specs.Feeding.{plan_with, plant_fed}
use Rattle.serial_feed.specs.SerialRuns.{all_have_ended, IsChain, IsRepetition}
use Rattle.serial_feed.specs.SerialRuns.{nothing_made}
use Rattle.serial_feed.proofs.SerialLemmas.{ended-as}
use Rattle.serial_feed.specs.Standing.{are_gone, made_by, FedFor, SerialIs, StandsFor}
use Rattle.serial_feed.proofs.FedRuns.{all-ended-same, runs}
use Rattle.serial_feed.proofs.FedStations.{can-in}
use Rattle.serial_feed.proofs.GoingOn.{agrees-last}
use Rattle.word_exchange.specs.declared.running.WireReader.{WireReader}
use Rattle.word_exchange.specs.declared.sources.Source.{Source}
use Rattle.word_exchange.specs.Feeding.{with_script, CanTakeRows, HasScript}
use Rattle.word_exchange.specs.Feeding.{plant_with_rows, rows_from, FedRows, HasScriptIn}
use Rattle.word_exchange.specs.Feeding.{StandsBy, TakesRows}
use Rattle.word_exchange.specs.Rows.{inputs_a_scan, own_row, own_row_or}
use Rattle.word_exchange.specs.Sources.{row_brought, word_brought}
use Rattle.word_exchange.specs.Words.{is_input_of, names_drop}
use Rattle.word_exchange.proofs.Counted.{counted}

-- ---- rows fit

rec-at : {X : Type 0} (P : X → Type 0) (xs : List X) (k : ℕ) (x : X) → AllByRecursion P xs
    → slice_get xs k ≡ Some x → P x
rec-at P [] k x all is = absurd cc
rec-at P (y ∷ xs) zero x all is = let same : y ≡ x = cc in subst P same all.0
rec-at P (y ∷ xs) (suc k) x all is = rec-at P xs k x all.1 is

own-by : (drop : IoDrop) (k : ℕ) (o : Option ScriptRow) → IsDrop drop
    → slice_get drop.script k ≡ o → fits_row drop.modules (own_row_or drop o) ≡ true
own-by drop k None own is =
    eq-eqb (length (replicate (input_total drop.modules) 0)) (input_total drop.modules)
    (length-replicate (input_total drop.modules) 0)
own-by drop k (Some row) own is =
    rec-at (λ (r : ScriptRow). fits_row drop.modules r ≡ true) drop.script k row own.rows is

pub own-fits : (drop : IoDrop) (exchange : ℕ) → IsDrop drop
    → fits_row drop.modules (own_row drop exchange) ≡ true
own-fits drop exchange own = own-by drop _ (row_at drop.script exchange) own refl

pub made-fits : (modules : List Module) (readers : List WireReader)
    (sources : List (Option Source)) (own : ScriptRow)
    → fits_row modules own ≡ true → fits_row modules (row_brought readers sources own) ≡ true
made-fits modules readers sources Silent fits = refl
made-fits modules readers sources (Row words) fits =
    ap (λ n. n == input_total modules)
    (length-map (enumerate_from 1 words) (word_brought readers sources)
    ∙ length-enumerate_from 1 words) ∙ fits

-- ---- the drop is one that the order of solve reads

named-by : (plan : ControllerPlan) (number : ℕ) (o : Option ℕ) → names_drop number o ≡ true
    → NamesDrop plan o → HasDrop plan number
named-by plan number None is has = absurd cc
named-by plan number (Some named) is has = subst (HasDrop plan) (eqb-true named number is) has

module _ (plan : ControllerPlan) (number : ℕ) where
  abbrev reads : OrderRow → Bool
  reads row = names_drop number row.input

  read-by : (row : OrderRow) (b : Bool) (rest : ℕ) → reads row ≡ b → FitsPlan plan row
      → 1 ≤ cond b 1 0 + rest → (1 ≤ rest → HasDrop plan number) → HasDrop plan number
  read-by row true rest is fits some more = named-by plan number row.input is fits.input
  read-by row false rest is fits some more = more (omega (arith, some))

  read-there : (orders : List OrderRow) → 1 ≤ count_by reads orders
      → AllByRecursion (FitsPlan plan) orders → HasDrop plan number
  read-there [] some all = absurd (omega (arith, some))
  read-there (row ∷ orders) some all =
      let sum = sum_by-cons (λ r. cond (reads r) 1 0) row orders in
      read-by row (reads row) (count_by reads orders) refl all.0 (omega (arith, sum, some))
      (λ rest. read-there orders rest all.1)

-- ---- the input exchanges by the orders alone

pub input-same : (fed plan : ControllerPlan) (number : ℕ) (e : Entry) → fed.orders ≡ plan.orders
    → is_input_of fed number e ≡ is_input_of plan number e
input-same fed plan number entries.Begin same = refl
input-same fed plan number (entries.Input row) same =
    ap (λ (l : List OrderRow). names_drop number (input_of (slice_get l (row - 1)))) same
input-same fed plan number (entries.Solve row) same = refl
input-same fed plan number (entries.Output row words) same = refl
input-same fed plan number entries.End same = refl
input-same fed plan number entries.Fail same = refl
input-same fed plan number entries.Dark same = refl
input-same fed plan number (entries.Collect calls) same = refl
input-same fed plan number (entries.Peer id request reply) same = refl
input-same fed plan number (entries.Off id request) same = refl
input-same fed plan number (entries.Finish id result) same = refl

pub count-same : {X : Type 0} (p q : X → Bool) (xs : List X) → ((x : X) → p x ≡ q x)
    → count_by p xs ≡ count_by q xs
count-same p q [] same = refl
count-same p q (x ∷ xs) same =
    sum_by-cons (λ y. cond (p y) 1 0) x xs
    ∙ (λ i. cond (same x i) 1 0 + count-same p q xs same i)
    ∙ sym (sum_by-cons (λ y. cond (q y) 1 0) x xs)

-- ---- the row can be fed

can-after : (plan fed : ControllerPlan) (drop : IoDrop) (script : List ScriptRow) (row : ScriptRow)
    (plant : Plant) (scans : ℕ) (history : List Entry) → HasScriptIn plan drop script fed
    → IsRunnablePlan fed → 1 ≤ inputs_a_scan plan drop.number
    → fits_row drop.modules row ≡ true
    → count_by (is_input_of plan drop.number) history ≤ length script
    → CanFeedAfter (fixed_of plant scans fed) history drop.number row
can-after plan fed drop script row plant scans history has runs some fits made =
    let number = drop.number in
    let there : HasDrop fed number = read-there fed number fed.orders
    (subst (λ (l : List OrderRow). 1 ≤ count_by (reads fed number) l) (sym has.orders) some)
    runs.rows in
    let count = counted (fixed_of plant scans fed) history number there.from there.to runs in
    let same = count-same (is_input_of fed number) (is_input_of plan number) history
    (λ e. input-same fed plan number e has.orders) in
    let rows = ap rows_in has.drop_is in
    record {
      there = there;
      fits = ap (λ (o : Option IoDrop). fits_in o row) has.drop_is ∙ fits;
      exchanges = omega (arith, count, same, rows, made);
    }

pub can-feed : (plan : ControllerPlan) (drop : IoDrop) (script : List ScriptRow) (row : ScriptRow)
    (serial : SerialIs) → CanTakeRows plan drop script serial → fits_row drop.modules row ≡ true
    → CanFeedNode plan.node drop.number row serial.run
can-feed plan drop script row serial can fits =
    from-places
    (λ (s : ControllerStation). s.node ≡ plan.node
    → CanFeedAfter s.controller.fixed s.controller.history drop.number row)
    serial.run.controllers.items
    (λ k s is here.
    let stations = serial.run.controllers.items in
    let it = zip-at (StandsOn can.plant can.scans serial.run.rings.items) can.plant.controllers
    stations k s can.stands.stations.controllers is in
    let fed = it.0 in
    let stands = it.2 in
    let node : fed.node ≡ plan.node = sym stands.node ∙ here in
    let has = all-at (λ (f : ControllerPlan). f.node ≡ plan.node → HasScriptIn plan drop script f)
    can.plant.controllers k fed can.has it.1 node in
    let runs = all-at IsRunnablePlan can.plant.controllers k fed can.stands.can.controllers it.1 in
    let log : slice_get (made_by serial).controllers k ≡ Some (log_of s) =
    slice_get-map log_of stations k
    ∙ ap (λ (o : Option ControllerStation). option_map log_of o) is in
    let made = all-at (λ (l : ControllerLog). l.node ≡ plan.node
    → count_by (is_input_of plan drop.number) l.entries ≤ length script)
    (made_by serial).controllers k (log_of s) can.made log here in
    subst (λ (f : _). CanFeedAfter f s.controller.history drop.number row) (sym stands.fixed)
    (can-after plan fed drop script row can.plant can.scans s.controller.history has runs can.read
    fits made))

-- ---- the row was fed

-- a serial run that stands for a plant does by its own repetitions
pub by-own : (plant : Plant) (scans : ℕ) (serial : SerialIs) (s : StandsFor plant scans serial)
    → StandsBy plant scans s.after_each serial
by-own plant scans serial s = record { stands = s; repetitions = s.repetitions }

fed-gone : (plant : Plant) (scans node number : ℕ) (row : ScriptRow) (old new : SerialIs)
    → StandsFor plant scans old → CanFeedNode node number row old.run
    → FedFor node number row old new → are_gone new ≡ are_gone old
fed-gone plant scans node number row old new s can fed =
    let more = plant_fed plant node number row in
    ended-as more scans new.run (fed.stands plant scans s).stations
    ∙ ap (all_have_ended more scans) fed.made
    ∙ all-ended-same plant scans node number row (made_by old)
    (agrees-last plant scans node number row (made_by old)
    (can-in plant scans node number row old.run s.stations can))
    ∙ sym (ended-as plant scans old.run s.stations)

pub one-fed : (plan : ControllerPlan) (drop : IoDrop) (script : List ScriptRow) (row : ScriptRow)
    (old new : SerialIs) → CanTakeRows plan drop script old → fits_row drop.modules row ≡ true
    → FedFor plan.node drop.number row old new
    → FedRows plan.node drop.number (row ∷ []) old new
one-fed plan drop script row old new can fits fed =
    let node = plan.node in
    let number = drop.number in
    let feeds = can-feed plan drop script row old can fits in
    record {
      made = fed.made;
      gone = fed-gone can.plant can.scans node number row old new can.stands feeds fed;
      stands = λ plant scans after_each s.
          let more = plant_fed plant node number row in
          record {
            stands = fed.stands plant scans s.stands;
            repetitions = subst (λ (j : Joint). IsChain (IsRepetition more scans)
                (nothing_made more) after_each j) (sym fed.made)
                (runs plant scans node number row after_each (made_by old)
                (can-in plant scans node number row old.run s.stands.stations feeds)
                s.repetitions);
          };
    }

pub row-taken : {T E : Type 0} (r : Result T E) (plan : ControllerPlan) (drop : IoDrop)
    (script new_script : List ScriptRow) (row copy : ScriptRow) (old new : SerialIs)
    → CanTakeRows plan drop script old → fits_row drop.modules row ≡ true
    → new_script ≡ script ++ copy ∷ [] → copy ≡ row
    → OnOk r (FedFor plan.node drop.number row old new)
    → OnOk r (TakesRows plan drop (row ∷ []) script new_script old new)
row-taken (Ok x) plan drop script new_script row copy old new can fits is same fed = record {
  script_is = is ∙ ap (λ (r : ScriptRow). script ++ r ∷ []) same;
  fed = one-fed plan drop script row old new can fits fed;
}
row-taken (Err e) plan drop script new_script row copy old new can fits is same fed = fed

-- ---- one row more

row-in : (d : IoDrop) (drops : List IoDrop) (number : ℕ) (row : ScriptRow) (found : IoDrop)
    (b : Bool) → (d.number == number) ≡ b
    → (if b then Some d else drop_named drops number) ≡ Some found
    → (drop_named drops number ≡ Some found
    → drop_named (row_fed drops number row) number ≡ Some (with_row found row))
    → drop_named (if b then with_row d row ∷ drops else d ∷ row_fed drops number row) number
    ≡ Some (with_row found row)
unfolding drop_named
row-in d drops number row found true e is more =
    let same : d ≡ found = cc in
    ap (λ (b : Bool). if b then Some (with_row d row) else drop_named drops number) e
    ∙ ap (λ (x : IoDrop). Some (with_row x row)) same
row-in d drops number row found false e is more =
    ap (λ (b : Bool). if b then Some d else drop_named (row_fed drops number row) number) e
    ∙ more is

row-named : (drops : List IoDrop) (number : ℕ) (row : ScriptRow) (found : IoDrop)
    → drop_named drops number ≡ Some found
    → drop_named (row_fed drops number row) number ≡ Some (with_row found row)
unfolding drop_named row_fed
row-named [] number row found is = absurd cc
row-named (d ∷ drops) number row found is =
    row-in d drops number row found (d.number == number) refl is
    (row-named drops number row found)

script-in : (plan fed : ControllerPlan) (drop : IoDrop) (script : List ScriptRow) (row : ScriptRow)
    → fed.node ≡ plan.node → HasScriptIn plan drop script fed
    → HasScriptIn plan drop (script ++ row ∷ []) (plan_with plan.node drop.number row fed)
script-in plan fed drop script row here has = record {
  orders = has.orders;
  drop_is =
      ap (λ (b : Bool). drop_named (if b then row_fed fed.drops drop.number row else fed.drops)
      drop.number) (eq-eqb fed.node plan.node here)
      ∙ row-named fed.drops drop.number row (with_script drop script) has.drop_is;
}

script-more : (plan : ControllerPlan) (drop : IoDrop) (script : List ScriptRow) (row : ScriptRow)
    (plant : Plant) → HasScript plan drop script plant
    → HasScript plan drop (script ++ row ∷ []) (plant_fed plant plan.node drop.number row)
script-more plan drop script row plant has =
    from-places
    (λ (f : ControllerPlan). f.node ≡ plan.node → HasScriptIn plan drop (script ++ row ∷ []) f)
    (plant_fed plant plan.node drop.number row).controllers
    (λ k f is.
    let it = map-there (plan_with plan.node drop.number row) plant.controllers k f is in
    subst (λ (g : ControllerPlan). g.node ≡ plan.node
    → HasScriptIn plan drop (script ++ row ∷ []) g) it.2
    (λ here. script-in plan it.0 drop script row here
    (all-at (λ (g : ControllerPlan). g.node ≡ plan.node → HasScriptIn plan drop script g)
    plant.controllers k it.0 has it.1 here)))

pub can-more : (plan : ControllerPlan) (drop : IoDrop) (script new_script : List ScriptRow)
    (row : ScriptRow) (old new : SerialIs) → CanTakeRows plan drop script old
    → TakesRows plan drop (row ∷ []) script new_script old new
    → CanTakeRows plan drop new_script new
can-more plan drop script new_script row old new can takes =
    let long = ap length takes.script_is ∙ length-append script (row ∷ []) in
    let logs = ap (λ (j : Joint). j.controllers) takes.fed.made in
    record {
      plant = plant_fed can.plant plan.node drop.number row;
      scans = can.scans;
      stands = (takes.fed.stands can.plant can.scans can.stands.after_each
          (by-own can.plant can.scans old can.stands)).stands;
      has = subst
          (λ (s : List ScriptRow). HasScript plan drop s
          (plant_fed can.plant plan.node drop.number row)) (sym takes.script_is)
          (script-more plan drop script row can.plant can.has);
      own = can.own;
      read = can.read;
      made = subst
          (λ (l : List ControllerLog). All (λ (log : ControllerLog). log.node ≡ plan.node
          → count_by (is_input_of plan drop.number) log.entries ≤ length new_script) l) (sym logs)
          (λ k d within here. let few = can.made k d within here in omega (arith, few, long));
    }

-- ---- rows after rows

pub range-last : (a n b : ℕ) → b ≡ a + n
    → range_with_len a (suc n) ≡ range_with_len a n ++ b ∷ []
range-last a zero b is = let same : a ≡ b = omega (arith, is) in ap (λ k. k ∷ []) same
range-last a (suc n) b is =
    ap (λ (l : List ℕ). a ∷ l) (range-last (a + 1) n b (omega (arith, is)))

rows-last : (readers : List WireReader) (sources : List (Option Source)) (drop : IoDrop) (there needed : ℕ)
    → there ≤ needed
    → rows_from readers sources drop there (suc needed)
    ≡ rows_from readers sources drop there needed
    ++ row_brought readers sources (own_row drop (suc needed)) ∷ []
rows-last readers sources drop there needed low =
    let row : ℕ → ScriptRow =
    λ r. row_brought readers sources (own_row drop r) in
    let many : suc needed - there ≡ suc (needed - there) = omega (arith, low) in
    ap (λ n. map row (range_with_len (suc there) n)) many
    ∙ ap (map row) (range-last (suc there) (needed - there) (suc needed) (omega (arith, low)))
    ∙ map-append row (range_with_len (suc there) (needed - there)) (suc needed ∷ [])

no-rows : (readers : List WireReader) (sources : List (Option Source)) (drop : IoDrop) (there at : ℕ)
    → at ≡ there → rows_from readers sources drop there at ≡ []
no-rows readers sources drop there at is =
    let none : at - there ≡ 0 = omega (arith, is) in
    ap (λ n. map (λ (r : ℕ). row_brought readers sources (own_row drop r))
    (range_with_len (suc there) n)) none

pub takes-none : (plan : ControllerPlan) (drop : IoDrop) (readers : List WireReader)
    (sources : List (Option Source))
    (script : List ScriptRow) (at : ℕ) (serial : SerialIs) → at ≡ length script
    → TakesRows plan drop (rows_from readers sources drop (length script) at) script script serial
    serial
takes-none plan drop readers sources script at serial is =
    subst (λ (rows : List ScriptRow). TakesRows plan drop rows script script serial serial)
    (sym (no-rows readers sources drop (length script) at is))
    (record {
      script_is = sym (append-nil script);
      fed = record { made = refl; gone = refl; stands = λ plant scans after_each stands. stands };
    })

pub takes-more : (plan : ControllerPlan) (drop : IoDrop) (readers : List WireReader)
    (sources : List (Option Source))
    (first script new_script : List ScriptRow) (at next : ℕ) (row own : ScriptRow)
    (start old new : SerialIs) → length first ≤ at → next ≡ suc at
    → row ≡ row_brought readers sources own → own ≡ own_row drop next
    → TakesRows plan drop (rows_from readers sources drop (length first) at) first script start old
    → TakesRows plan drop (row ∷ []) script new_script old new
    → TakesRows plan drop (rows_from readers sources drop (length first) next) first new_script start
    new
takes-more plan drop readers sources first script new_script at next row own start old new low after is
    own_is so_far one =
    let rows = rows_from readers sources drop (length first) at in
    let last = is ∙ ap (row_brought readers sources)
    (own_is ∙ ap (own_row drop) after) in
    let all : rows_from readers sources drop (length first) next ≡ rows ++ row ∷ [] =
    ap (rows_from readers sources drop (length first)) after
    ∙ rows-last readers sources drop (length first) at low
    ∙ ap (λ (r : ScriptRow). rows ++ r ∷ []) (sym last) in
    subst (λ (l : List ScriptRow). TakesRows plan drop l first new_script start new) (sym all)
    (record {
      script_is = one.script_is ∙ ap (λ (l : List ScriptRow). l ++ row ∷ []) so_far.script_is
          ∙ append_assoc first rows (row ∷ []);
      fed = record {
        made = one.fed.made ∙ so_far.fed.made;
        gone = one.fed.gone ∙ so_far.fed.gone;
        stands = λ plant scans after_each stands.
            subst (λ (p : Plant). StandsBy p scans after_each new)
            (sym (fold-append
            (λ (fed : Plant) (r : ScriptRow). plant_fed fed plan.node drop.number r) plant rows
            (row ∷ [])))
            (one.fed.stands (plant_with_rows plant plan.node drop.number rows) scans after_each
            (so_far.fed.stands plant scans after_each stands));
      };
    })

pub takes-all : (plan : ControllerPlan) (drop : IoDrop) (readers : List WireReader)
    (sources : List (Option Source))
    (first script : List ScriptRow) (at needed : ℕ) (start now : SerialIs) → length first ≤ at
    → at ≤ max (length first) needed → needed ≤ at
    → TakesRows plan drop (rows_from readers sources drop (length first) at) first script start now
    → TakesRows plan drop (rows_from readers sources drop (length first) needed) first script start
    now
takes-all plan drop readers sources first script at needed start now low high end takes =
    let same : at - length first ≡ needed - length first = omega (arith, low, high, end) in
    subst (λ (n : ℕ). TakesRows plan drop
    (map (λ (r : ℕ). row_brought readers sources (own_row drop r))
    (range_with_len (suc (length first)) n)) first script start now) same takes

pub fits-as : (modules : List Module) (row made : ScriptRow) → row ≡ made
    → fits_row modules made ≡ true → fits_row modules row ≡ true
fits-as modules row made is fits = ap (fits_row modules) is ∙ fits

pub own-as : (drop : IoDrop) (exchange : ℕ) (own : ScriptRow) → IsDrop drop
    → own ≡ own_row drop exchange → fits_row drop.modules own ≡ true
own-as drop exchange own is_drop is = ap (fits_row drop.modules) is ∙ own-fits drop exchange is_drop

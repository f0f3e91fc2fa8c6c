-- The name of a new call is none of those that a table has.
use Rattle.std.proofs.Common.{◌≡◌, ◌≢◌, ◌⊎◌, ℕ, zero, suc, ◌+◌, ◌-◌, ◌<◌, ◌≤◌, Bool, true, false}
use Rattle.std.proofs.Common.{cond, Option, Some, None, is_some, List, [], ◌∷◌, length, get_or, set}
use Rattle.std.proofs.Common.{replicate, unwrap_or, refl, sym, ap, ◌∙◌, subst, arith, inl, inr}
use Rattle.std.specs.Prelude.{if◌then◌else◌, ◌==◌, ◌||◌, not, nat_le}
use Rattle.std.specs.List.{list_any, find, position, AllByRecursion}
use Rattle.std.proofs.lemmas.Bool.{false≢true, and_parts, eq-eqb, ne_eqb, leb-false, not-true}
use Rattle.std.proofs.lemmas.Bool.{not_from_false}
use Rattle.std.proofs.lemmas.List.{get_or-set_same, length-set}
use Rattle.mstr_block.specs.declared.control.Control.{Control}
use Rattle.mstr_block.specs.declared.operation.Operation.{Operation}
use Rattle.mstr_block.specs.declared.state.Running.{Running}
use Rattle.mstr_block.specs.declared.state.BlockState.{BlockState}
use Rattle.mstr_block.specs.declared.state.BlockState.TheVariants.{Idle, Waiting, Active, Aborted}
use Rattle.mstr_block.specs.declared.state.BlockState.TheVariants.{Ready}
use Rattle.mstr_block.specs.Control.{ask_of}
use Rattle.mstr_block.specs.Operations.{uses_network}
use Rattle.mstr_block.specs.Table.{BlockTable, resting_table, with_state, running_in, runs_such}
use Rattle.mstr_block.specs.Table.{runs_on, is_untaken, is_spent, is_free, path_for, network_paths}
use Rattle.plant_types.specs.Limits.{path_places}
use Rattle.mstr_block.specs.Table.{own_path, last_call_number, next_call}
use Rattle.mstr_block.specs.Solve.{kept_of, launched}
use Rattle.mstr_block.specs.Running.{RunsAt, MayBeAsked, AsksFor, IsCallName, IsRunning, IsStateOf}
use Rattle.mstr_block.specs.Running.{IsTable}
use Rattle.mstr_block.specs.Laws.{StaysTable, GivesNewNumbers, SolvesGiveNewNumbers}
use Rattle.mstr_block.proofs.Passing.{Passes, can_move, is_ask, asks_for}
use Rattle.mstr_block.proofs.Steps.{Step, stays, rests, gives_up, launches, step_of}
use Rattle.mstr_block.proofs.Names.{nothing, the_same, same_name, set-cases, set-states, runs_none}
use Rattle.mstr_block.proofs.Names.{rests-stay, gives-stay, finished-stays, failed-stays}
use Rattle.mstr_block.proofs.Names.{taken-stays}

-- what a search finds passes, and stands in the list
found_here : (p : ℕ → Bool) (P : ℕ → Type 0) (y x : ℕ) (rest : Option ℕ) (b : Bool) → P y → p y ≡ b
    → (rest ≡ Some x → (p x ≡ true) × P x)
    → cond b (Some y) rest ≡ Some x → (p x ≡ true) × P x
found_here p P y x rest true has passes later at =
    let same : y ≡ x = ap (λ o. unwrap_or o y) at in
    subst (λ (n : ℕ). (p n ≡ true) × P n) same (passes, has)
found_here p P y x rest false has fails later at = later at

found : (p : ℕ → Bool) (P : ℕ → Type 0) (xs : List ℕ) (x : ℕ) → AllByRecursion P xs
    → find p xs ≡ Some x → (p x ≡ true) × P x
found p P [] x all e = absurd (nothing x e)
found p P (y ∷ ys) x all e =
    found_here p P y x (find p ys) (p y) all.0 refl (found p P ys x all.1) e

-- a path that may be given is one of the five, and nothing runs on it if it is one of the network
pub record IsOpen (table : BlockTable) (network : Bool) (at : ℕ) : Type 0 where
  pub path : at < path_places
  pub kind : network ≡ not (at == own_path)
  pub number : get_or table.numbers at 0 < last_call_number
  pub free : (at ≡ own_path) ⊎ (list_any (runs_on at) table.blocks ≡ false)

left_over : (n : ℕ) → nat_le last_call_number n ≡ false → n < last_call_number
left_over n e = leb-false last_call_number n e

by_network : (table : BlockTable) (path : ℕ) → find (is_free table) network_paths ≡ Some path
    → IsOpen table true path
by_network table path e =
    let low : AllByRecursion (λ n. (1 ≤ n) × (n < path_places)) network_paths = (
      (omega arith, omega arith),
      ((omega arith, omega arith), ((omega arith, omega arith), ((omega arith, omega arith), tt))),
    ) in
    let facts = found (is_free table) (λ n. (1 ≤ n) × (n < path_places)) network_paths path low e in
    let parts = and_parts (not (is_spent table path))
    (not (list_any (runs_on path) table.blocks)) facts.0 in
    let first = facts.1.0 in
    record {
      path = facts.1.1;
      kind = sym (not_from_false (path == own_path) (ne_eqb path own_path (λ h. omega arith)));
      number = left_over _ (not-true _ parts.0);
      free = inr (not-true _ parts.1);
    }

own_at : (table : BlockTable) (path : ℕ) (b : Bool) → is_spent table own_path ≡ b
    → (if b then None else Some own_path) ≡ Some path → IsOpen table false path
own_at table path true spent e = absurd (nothing path e)
own_at table path false spent e =
    let same : own_path ≡ path = ap (λ o. unwrap_or o 0) e in
    subst (λ (at : ℕ). IsOpen table false at) same
    (record { path = omega arith; kind = refl; number = left_over _ spent; free = inl refl })

open_at : (table : BlockTable) (path : ℕ) (b : Bool)
    → (if b then find (is_free table) network_paths else (if is_spent table own_path then None
    else Some own_path)) ≡ Some path → IsOpen table b path
open_at table path true e = by_network table path e
open_at table path false e = own_at table path (is_spent table own_path) refl e

is_open : (table : BlockTable) (op : Operation) (path : ℕ) → path_for table op ≡ Some path
    → IsOpen table (uses_network op) path
is_open table op path e = open_at table path (uses_network op) e

-- where no block runs on a path, none at a place does
none_at : (p : BlockState → Bool) → p Idle ≡ false → (xs : List BlockState) → list_any p xs ≡ false
    → (place : ℕ) → p (get_or xs place Idle) ≡ false
none_at p idle [] e place = idle
none_at p idle (x ∷ xs) e zero = front (p x) (list_any p xs) e where
  front : (a b : Bool) → (a || b) ≡ false → a ≡ false
  front true b h = absurd (false≢true (sym h))
  front false b h = refl
none_at p idle (x ∷ xs) e (suc place) = none_at p idle xs (back (p x) (list_any p xs) e) place where
  back : (a b : Bool) → (a || b) ≡ false → b ≡ false
  back true b h = absurd (false≢true (sym h))
  back false b h = h

such-at : (test : Running → Bool) (s : BlockState) (r : Running) → running_in s ≡ Some r
    → runs_such test s ≡ test r
such-at test Idle r e = absurd (nothing r e)
such-at test Waiting r e = absurd (nothing r e)
such-at test (Active a) r e = ap (λ o. test (unwrap_or o a)) e
such-at test (Aborted a) r e = ap (λ o. test (unwrap_or o a)) e
such-at test (Ready kept result) r e = absurd (nothing r e)

-- no number falls
rises : (numbers : List ℕ) (path q : ℕ)
    → get_or numbers q 0 ≤ get_or (set numbers path (get_or numbers path 0 + 1)) q 0
rises numbers path q = elim (set-cases numbers path (get_or numbers path 0 + 1) 0 q) [
  | inl e ↦ omega arith
  | inr w ↦ (let same : get_or numbers q 0 ≡ get_or numbers path 0 =
      ap (λ n. get_or numbers n 0) w.0 in let new = w.1 in omega arith)
]

-- the new call of a path
abbrev new_call : BlockTable → Operation → Control → List ℕ → ℕ → Running
new_call table op control words path =
    record {
      id = next_call table path;
      ask = Some (ask_of op control words);
      kept = kept_of op control;
    }

above : (table : BlockTable) (path : ℕ) → get_or table.numbers path 0 < (next_call table path).seq
above table path = omega arith

-- the call of a state that runs one
running_at : (routed : Bool) (own : ℕ) (numbers : List ℕ) (s : BlockState) (r : Running)
    → running_in s ≡ Some r
    → IsStateOf routed own numbers s → IsRunning routed own numbers r
running_at routed own numbers Idle r e is = absurd (nothing r e)
running_at routed own numbers Waiting r e is = absurd (nothing r e)
running_at routed own numbers (Active a) r e is = the_same (IsRunning routed own numbers) a r is e
running_at routed own numbers (Aborted a) r e is = the_same (IsRunning routed own numbers) a r is e
running_at routed own numbers (Ready kept result) r e is = absurd (nothing r e)

module _ (table : BlockTable) (block : ℕ) (op : Operation) (control : Control) (words : List ℕ)
    (path : ℕ) where
  -- a block of the new table runs what it ran, or the new call
  old_or_new : (place : ℕ) (r : Running)
      → RunsAt (launched table block op control words (Some path)) place r
      → RunsAt table place r
      ⊎ ((place ≡ block - 1) × (next_call table path ≡ r.id) × (is_some r.ask ≡ true))
  old_or_new place r runs = elim (set-cases table.blocks (block - 1)
      (Active (new_call table op control words path)) Idle place) [
        | inl e ↦ inl (sym (ap running_in e) ∙ runs)
        | inr w ↦ (let is = sym (ap running_in w.1) ∙ runs in
            let call = new_call table op control words path in
            inr (
              w.0,
              same_name call r is,
              the_same (λ (q : Running). is_some q.ask ≡ true) call r refl is,
            ))
      ]

  launched-new : GivesNewNumbers table (launched table block op control words (Some path))
  launched-new = record {
    rises = λ q. rises table.numbers path q;
    new = λ place r runs. elim (old_or_new place r runs)
        as (λ _. RunsAt table place r
        ⊎ ((get_or table.numbers r.id.path 0 < r.id.seq) × (is_some r.ask ≡ true))) [
          | inl old ↦ inl old
          | inr new ↦ inr (
            subst (λ id. get_or table.numbers id.path 0 < id.seq) new.1 (above table path),
            new.2,
          )
        ];
  }

-- numbers rise and go no further than the last
within_last : (numbers : List ℕ) (path : ℕ) → ((q : ℕ) → get_or numbers q 0 ≤ last_call_number)
    → get_or numbers path 0 < last_call_number
    → (q : ℕ) → get_or (set numbers path (get_or numbers path 0 + 1)) q 0 ≤ last_call_number
within_last numbers path were left q =
    elim (set-cases numbers path (get_or numbers path 0 + 1) 0 q) [
      | inl e ↦ (let was = were q in omega arith)
      | inr w ↦ (let new = w.1 in omega arith)
    ]

-- and a call that was named is still named
still_runs : (routed : Bool) (own : ℕ) (numbers : List ℕ) (path : ℕ) (r : Running)
    → IsRunning routed own numbers r
    → IsRunning routed own (set numbers path (get_or numbers path 0 + 1)) r
still_runs routed own numbers path r is =
    let up = rises numbers path r.id.path in
    let low = is.named.given in
    record {
      named = record {
        node = is.named.node;
        path = is.named.path;
        first = is.named.first;
        given = omega arith;
      };
      network = is.network;
      kept = is.kept;
      ask = is.ask;
    }

still_is : (routed : Bool) (own : ℕ) (numbers : List ℕ) (path : ℕ) (s : BlockState)
    → IsStateOf routed own numbers s
    → IsStateOf routed own (set numbers path (get_or numbers path 0 + 1)) s
still_is routed own numbers path Idle is = tt
still_is routed own numbers path Waiting is = tt
still_is routed own numbers path (Active r) is = still_runs routed own numbers path r is
still_is routed own numbers path (Aborted r) is = still_runs routed own numbers path r is
still_is routed own numbers path (Ready kept result) is = is

-- what a call to be stands on
pub record MayRun (table : BlockTable) (op : Operation) (control : Control) (words : List ℕ)
    (at : ℕ) : Type 0 where
  pub opened : IsOpen table (uses_network op) at
  pub passed : Passes table.routed table.node op control
  pub long : length words ≡ control.length

module _ (table : BlockTable) (block : ℕ) (op : Operation) (control : Control) (words : List ℕ)
    (path : ℕ) (may : MayRun table op
    control words path) (t : IsTable table) where
  named_new : IsCallName table.node (set table.numbers path (get_or table.numbers path 0 + 1))
      (next_call table path)
  named_new =
      let within : path < length table.numbers =
      subst (λ n. path < n) (sym t.paths) may.opened.path in
      let last = get_or-set_same table.numbers path (get_or table.numbers path 0 + 1) 0 within in
      record { node = refl; path = may.opened.path; first = omega arith; given = omega arith }

  running_new : IsRunning table.routed table.node
      (set table.numbers path (get_or table.numbers path 0 + 1))
      (new_call table op control words path)
  running_new = record {
    named = named_new;
    network = may.opened.kind;
    kept = can_move table.routed table.node op control may.passed;
    ask = λ ask e. the_same
        (λ a. MayBeAsked table.routed table.node a × AsksFor (kept_of op control) a)
        (ask_of op control words) ask (
          is_ask table.routed table.node op control words may.passed may.long,
          asks_for op control words may.long,
        ) e;
  }

  -- an old call on the path of the new one
  meets : (place : ℕ) (r : Running) → RunsAt table place r → r.id.path ≡ path
      → (path ≡ own_path) × (r.id.seq ≢ get_or table.numbers path 0 + 1)
  meets place r runs same =
      let low = (running_at table.routed table.node table.numbers
      (get_or table.blocks place Idle) r runs (t.states place)).named.given in
      let number : get_or table.numbers r.id.path 0 ≡ get_or table.numbers path 0 =
      ap (λ n. get_or table.numbers n 0) same in (
        elim may.opened.free as (λ _. path ≡ own_path) [
          | inl own ↦ own
          | inr none ↦ absurd (false≢true (sym (none_at (runs_on path) refl table.blocks none place)
              ∙ such-at (λ q. q.id.path == path) (get_or table.blocks place Idle) r runs
              ∙ eq-eqb r.id.path path same))
        ],
        λ h. absurd (omega arith),
      )

  launched-stays : IsTable (launched table block op control words (Some path))
  launched-stays = record {
    paths = length-set table.numbers path (get_or table.numbers path 0 + 1) ∙ t.paths;
    numbers = within_last table.numbers path t.numbers may.opened.number;
    states = set-states table.routed table.node
        (set table.numbers path (get_or table.numbers path 0 + 1)) table.blocks (block - 1) (Active
        (new_call table op control words path))
        (λ place. still_is table.routed table.node table.numbers path
        (get_or table.blocks place Idle) (t.states place)) running_new;
    apart = λ one other r s differ runs1 runs2 paths.
        elim (old_or_new table block op control words path one r runs1) [
          | inl old1 ↦ elim (old_or_new table block op control words path other s runs2) [
            | inl old2 ↦ t.apart one other r s differ old1 old2 paths
            | inr new2 ↦ (let met = meets one r old1 (paths ∙ sym (ap (λ id. id.path) new2.1)) in (
              paths ∙ sym (ap (λ id. id.path) new2.1) ∙ met.0,
              λ h. met.1 (h ∙ sym (ap (λ id. id.seq) new2.1)),
            ))
          ]
          | inr new1 ↦ elim (old_or_new table block op control words path other s runs2) [
            | inl old2 ↦
                (let met = meets other s old2 (sym paths ∙ sym (ap (λ id. id.path) new1.1)) in (
                  sym (ap (λ id. id.path) new1.1) ∙ met.0,
                  λ h. met.1 (sym h ∙ sym (ap (λ id. id.seq) new1.1)),
                ))
            | inr new2 ↦ absurd (differ (new1.0 ∙ sym new2.0))
          ]
        ];
  }

-- a block that is written gives no number
written-new : (table : BlockTable) (block : ℕ) (s : BlockState)
    → ((r : Running) → running_in s ≡ Some r → RunsAt table (block - 1) r)
    → GivesNewNumbers table (with_state table block s)
written-new table block s from = record {
  rises = λ q. omega arith;
  new = λ place r runs. elim (set-cases table.blocks (block - 1) s Idle place) [
    | inl e ↦ inl (sym (ap running_in e) ∙ runs)
    | inr w ↦
        inl (subst (λ n. RunsAt table n r) (sym w.0) (from r (sym (ap running_in w.1) ∙ runs)))
  ];
}

step-new : (table : BlockTable) (block : ℕ) (after : BlockTable) → Step table block after
    → GivesNewNumbers table after
step-new table block after stays =
    record { rises = λ q. omega arith; new = λ place r runs. inl runs }
step-new table block after (rests s was rest) =
    written-new table block s (λ r e. absurd (nothing r (sym (runs_none s rest) ∙ e)))
step-new table block after (gives_up r e) =
    written-new table block (Aborted r) (λ q h. ap running_in e ∙ h)
step-new table block after (launches op control words path none e passed long) =
    launched-new table block op control words path

pub solves-give_new_numbers : SolvesGiveNewNumbers
solves-give_new_numbers table block site inputs m =
    step-new table block _ (step_of table block site inputs m)

step-stays : (table : BlockTable) (block : ℕ) (after : BlockTable) → Step table block after
    → IsTable table → IsTable after
step-stays table block after stays t = t
step-stays table block after (rests s was rest) t = rests-stay table block s rest t
step-stays table block after (gives_up r e) t = gives-stay table block r e t
step-stays table block after (launches op control words path none e passed long) t =
    launched-stays table block op control words path
    (record { opened = is_open table op path e; passed = passed; long = long }) t

-- at first no block runs a call
idle_at : (count place : ℕ) → get_or (replicate count Idle) place Idle ≡ Idle
idle_at zero place = refl
idle_at (suc count) zero = refl
idle_at (suc count) (suc place) = idle_at count place

none_given : (path : ℕ) → get_or (replicate path_places 0) path 0 ≤ last_call_number
none_given zero = omega arith
none_given (suc zero) = omega arith
none_given (suc (suc zero)) = omega arith
none_given (suc (suc (suc zero))) = omega arith
none_given (suc (suc (suc (suc zero)))) = omega arith
none_given (suc (suc (suc (suc (suc path))))) = omega arith

pub resting-table : (node : ℕ) (routed : Bool) (count : ℕ) (numbers : List ℕ)
    → length numbers ≡ path_places → ((path : ℕ) → get_or numbers path 0 ≤ last_call_number)
    → IsTable (resting_table node routed count numbers)
resting-table node routed count numbers five given = record {
  paths = five;
  numbers = given;
  states = λ place. subst (IsStateOf routed node numbers) (sym (idle_at count place)) tt;
  apart = λ one other r s differ runs1 runs2 paths.
      absurd (nothing r (sym (ap running_in (idle_at count one)) ∙ runs1));
}

pub stays-table : StaysTable
stays-table = record {
  idle = λ node routed count.
      resting-table node routed count (replicate path_places 0) refl none_given;
  solved =
      λ table block site inputs m. step-stays table block _ (step_of table block site inputs m);
  taken = λ table. taken-stays table (position is_untaken table.blocks);
  finished = finished-stays;
  failed = failed-stays;
}

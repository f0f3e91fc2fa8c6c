-- Names of calls, lists of them, and the blocks that run them.
use Rattle.std.proofs.Common.{◌≡◌, ℕ, zero, suc, ◌≤◌, ◌==◌, Bool, true, false}
use Rattle.std.proofs.Common.{List, [], ◌∷◌, ◌++◌}
use Rattle.std.proofs.Common.{get_or, map, Option, Some, None, refl}
use Rattle.std.proofs.Common.{sym, ap, subst, ◌∙◌, arith}
use Rattle.std.specs.Prelude.{not, ◌&&◌, ◌||◌, if◌then◌else◌, is_some}
use Rattle.std.specs.Option.{is_none, option_map}
use Rattle.std.specs.List.{AllByRecursion, cons_option, filter_map, list_any}
use Rattle.std.proofs.Math.ListN.{get_or-map}
use Rattle.std.proofs.lemmas.Bool.{and_parts, eq-eqb, eqb-true}
use Rattle.mstr_block.specs.Call.{is_same_call}
use Rattle.mstr_block.specs.Laws.{collected}
use Rattle.mstr_block.specs.Running.{IsRunning, IsStateOf, IsTable}
use Rattle.mstr_block.specs.Running.{RunsAt}
use Rattle.mstr_block.specs.Table.{BlockTable, call_taken}
use Rattle.mstr_block.specs.Table.{is_awaited, is_taken_out, running_in}
use Rattle.mstr_block.specs.Table.{untaken}
use Rattle.mstr_block.specs.declared.call.CallId.{CallId}
use Rattle.mstr_block.specs.declared.call.MstrAsk.{MstrAsk}
use Rattle.mstr_block.specs.declared.call.MstrCall.{MstrCall}
use Rattle.mstr_block.specs.declared.state.BlockState.{BlockState}
use Rattle.mstr_block.specs.declared.state.BlockState.TheVariants.{Idle, Waiting, Active, Aborted}
use Rattle.mstr_block.specs.declared.state.BlockState.TheVariants.{Ready}
use Rattle.mstr_block.specs.declared.state.Running.{Running}
use Rattle.controller_core.specs.Calls.{call_of}
use Rattle.tied_lists.specs.Calls.{IsAbove, NoEnd}
use Rattle.tied_lists.specs.Items.{Called, Ended, Kind, kind_in}
use Rattle.tied_lists.specs.Items.{kind_of_sort}
use Rattle.joint_history.specs.Reading.{called_of}

-- ---- names

pub same-equal : (a b : CallId) → is_same_call a b ≡ true → a ≡ b
same-equal a b h =
    let outer = and_parts (a.node == b.node) ((a.path == b.path) && (a.seq == b.seq)) h in
    let inner = and_parts (a.path == b.path) (a.seq == b.seq) outer.1 in
    let node = eqb-true a.node b.node outer.0 in
    let path = eqb-true a.path b.path inner.0 in
    let seq = eqb-true a.seq b.seq inner.1 in
    λ i. record { node = node i; path = path i; seq = seq i }

pub same-refl : (a : CallId) → is_same_call a a ≡ true
same-refl a =
    λ i. eq-eqb a.node a.node refl i && (eq-eqb a.path a.path refl i && eq-eqb a.seq a.seq refl i)

pub no-true : (b : Bool) → (b ≡ true → ⊥) → b ≡ false
no-true true no' = absurd (no' refl)
no-true false no' = refl

pub clash : {b : Bool} → b ≡ true → b ≡ false → ⊥
clash is no' = let e : true ≡ false = sym is ∙ no' in absurd cc

-- ---- lists of calls and of ends

abbrev pub named : CallId → List Called → Bool
named id calls = list_any (λ (c : Called). is_same_call c.id id) calls

abbrev pub over : CallId → List Ended → Bool
over id ends = list_any (λ (e : Ended). is_same_call e.id id) ends

pub named-kind : (id : CallId) (calls : List Called) (kind : Kind) → kind_in calls id ≡ Some kind
    → named id calls ≡ true
named-kind id [] kind is = absurd cc
named-kind id (c ∷ cs) kind is = at (is_same_call c.id id) refl is (named-kind id cs kind)
  where
    at : (b : Bool) → is_same_call c.id id ≡ b
        → (if b then Some (kind_of_sort c.sort) else kind_in cs id) ≡ Some kind
        → (kind_in cs id ≡ Some kind → list_any (λ (x : Called). is_same_call x.id id) cs ≡ true)
        → (b || list_any (λ (x : Called). is_same_call x.id id) cs) ≡ true
    at true same found rest = refl
    at false same found rest = rest found

pub unnamed-kind : (id : CallId) (calls : List Called) → named id calls ≡ false
    → kind_in calls id ≡ None
unnamed-kind id [] is = refl
unnamed-kind id (c ∷ cs) is = at (is_same_call c.id id) is (unnamed-kind id cs)
  where
    at : (b : Bool) → (b || list_any (λ (x : Called). is_same_call x.id id) cs) ≡ false
        → (list_any (λ (x : Called). is_same_call x.id id) cs ≡ false → kind_in cs id ≡ None)
        → (if b then Some (kind_of_sort c.sort) else kind_in cs id) ≡ None
    at true none rest = absurd cc
    at false none rest = rest none

pub no-end : (id : CallId) (ends : List Ended) → over id ends ≡ false → NoEnd id ends
no-end id [] is = tt
no-end id (e ∷ es) is = at (is_same_call e.id id) refl is (no-end id es)
  where
    at : (b : Bool) → is_same_call e.id id ≡ b
        → (b || list_any (λ (x : Ended). is_same_call x.id id) es) ≡ false
        → (over id es ≡ false → NoEnd id es) → NoEnd id (e ∷ es)
    at true same none rest = absurd cc
    at false same none rest = (same, rest none)

pub end-none : (id : CallId) (ends : List Ended) → NoEnd id ends → over id ends ≡ false
end-none id [] none = refl
end-none id (e ∷ es) none = λ i. none.0 i || end-none id es none.1 i

-- a name that is above all others is none of them
pub above-unnamed : (id : CallId) (calls : List Called) → IsAbove id calls → named id calls ≡ false
above-unnamed id [] above = refl
above-unnamed id (c ∷ cs) above = λ i. other i || above-unnamed id cs above.1 i
  where
    other : is_same_call c.id id ≡ false
    other = no-true (is_same_call c.id id) (λ same.
        let e = same-equal c.id id same in
        let lt = above.0 (ap (λ (x : CallId). x.path) e) in
        let eq = ap (λ (x : CallId). x.seq) e in
        omega (arith, lt, eq))

-- ---- blocks

-- a block that runs a call without a result, at a place
pub record Awaits (T : BlockTable) (id : CallId) : Type 0 where
  pub place : ℕ
  pub running : Running
  pub there : RunsAt T place running
  pub asked : is_none running.ask ≡ true
  pub name : is_same_call running.id id ≡ true

awaited-runs : (id : CallId) (b : BlockState) → is_awaited id b ≡ true
    → (r : Running) × (running_in b ≡ Some r) × (is_none r.ask ≡ true)
    × (is_same_call r.id id ≡ true)
awaited-runs id Idle is = absurd cc
awaited-runs id Waiting is = absurd cc
awaited-runs id (Active r) is =
    let two = and_parts (is_none r.ask) (is_same_call r.id id) is in (r, refl, two.0, two.1)
awaited-runs id (Aborted r) is =
    let two = and_parts (is_none r.ask) (is_same_call r.id id) is in (r, refl, two.0, two.1)
awaited-runs id (Ready kept result) is = absurd cc

pub some-same : {X : Type 0} {x y : X} → Some x ≡ Some y → x ≡ y
some-same is = cc

runs-awaited : (id : CallId) (b : BlockState) (r : Running) → running_in b ≡ Some r
    → is_none r.ask ≡ true → is_same_call r.id id ≡ true
    → is_awaited id b ≡ true
runs-awaited id Idle r is asked name = absurd cc
runs-awaited id Waiting r is asked name = absurd cc
runs-awaited id (Active q) r is asked name =
    let e = some-same is in
    ap (λ (x : Running). is_none x.ask && is_same_call x.id id) e ∙ (λ i. asked i && name i)
runs-awaited id (Aborted q) r is asked name =
    let e = some-same is in
    ap (λ (x : Running). is_none x.ask && is_same_call x.id id) e ∙ (λ i. asked i && name i)
runs-awaited id (Ready kept result) r is asked name = absurd cc

any-at : (p : BlockState → Bool) (bs : List BlockState) → p Idle ≡ false → list_any p bs ≡ true
    → (place : ℕ) × (p (get_or bs place Idle) ≡ true)
any-at p [] idle is = absurd cc
any-at p (b ∷ bs) idle is = at (p b) refl is (any-at p bs idle)
  where
    at : (x : Bool) → p b ≡ x → (x || list_any p bs) ≡ true
        → (list_any p bs ≡ true → (place : ℕ) × (p (get_or bs place Idle) ≡ true))
        → (place : ℕ) × (p (get_or (b ∷ bs) place Idle) ≡ true)
    at true here found rest = (0, here)
    at false here found rest = let more = rest found in (suc more.0, more.1)

at-any : (p : BlockState → Bool) (bs : List BlockState) (place : ℕ) → p Idle ≡ false
    → p (get_or bs place Idle) ≡ true → list_any p bs ≡ true
at-any p [] place idle is = absurd (clash is idle)
at-any p (b ∷ bs) zero idle is = ap (λ x. x || list_any p bs) is
at-any p (b ∷ bs) (suc place) idle is = or-true (p b) (list_any p bs) (at-any p bs place idle is)
  where
    or-true : (x y : Bool) → y ≡ true → (x || y) ≡ true
    or-true true y is' = refl
    or-true false y is' = is'

pub out-awaits : (T : BlockTable) (id : CallId) → is_taken_out T id ≡ true → Awaits T id
out-awaits T id is =
    let found = any-at (is_awaited id) T.blocks refl is in
    let runs = awaited-runs id (get_or T.blocks found.0 Idle) found.1 in
    record { place = found.0; running = runs.0; there = runs.1; asked = runs.2; name = runs.3 }

pub awaits-out : (T : BlockTable) (id : CallId) → Awaits T id → is_taken_out T id ≡ true
awaits-out T id a = at-any (is_awaited id) T.blocks a.place refl
    (runs-awaited id (get_or T.blocks a.place Idle) a.running a.there a.asked a.name)

-- ---- what blocks have started

-- what a block has started
pub record Started (b : BlockState) (call : MstrCall) : Type 0 where
  pub running : Running
  pub there : running_in b ≡ Some running
  pub id_is : running.id ≡ call.id
  pub ask_is : running.ask ≡ Some call.ask

of-ask : (b : BlockState) (r : Running) (call : MstrCall) (o : Option MstrAsk)
    → running_in b ≡ Some r → r.ask ≡ o
    → option_map (λ ask. record { id = r.id; ask = ask }) o ≡ Some call → Started b call
of-ask b r call None there asked is = absurd cc
of-ask b r call (Some ask) there asked is =
    let e = some-same is in
    record {
      running = r;
      there = there;
      id_is = ap (λ (c : MstrCall). c.id) e;
      ask_is = asked ∙ ap (λ (c : MstrCall). Some c.ask) e;
    }

pub started-of : (b : BlockState) (call : MstrCall) → untaken b ≡ Some call → Started b call
started-of Idle call is = absurd cc
started-of Waiting call is = absurd cc
started-of (Active r) call is = of-ask (Active r) r call r.ask refl refl is
started-of (Aborted r) call is = of-ask (Aborted r) r call r.ask refl refl is
started-of (Ready kept result) call is = absurd cc

pub is-some : {X : Type 0} (o : Option X) (x : X) → o ≡ Some x → is_some o ≡ true
is-some o x is = ap is_some is

-- a started call of a name has its block
pub record StartedAt (bs : List BlockState) (id : CallId) : Type 0 where
  pub place : ℕ
  pub running : Running
  pub there : running_in (get_or bs place Idle) ≡ Some running
  pub asked : is_some running.ask ≡ true
  pub name : is_same_call running.id id ≡ true

abbrev pub some_named : CallId → List MstrCall → Bool
some_named id calls = list_any (λ (call : MstrCall). is_same_call call.id id) calls

pub any-started : (id : CallId) (bs : List BlockState)
    → some_named id (filter_map untaken bs) ≡ true → StartedAt bs id
any-started id [] is = absurd cc
any-started id (b ∷ bs) is = at (untaken b) refl is (any-started id bs)
  where
    shift : StartedAt bs id → StartedAt (b ∷ bs) id
    shift w = record {
      place = suc w.place;
      running = w.running;
      there = w.there;
      asked = w.asked;
      name = w.name;
    }

    here : (call : MstrCall) (x : Bool) → untaken b ≡ Some call → is_same_call call.id id ≡ x
        → (x || some_named id (filter_map untaken bs)) ≡ true
        → (some_named id (filter_map untaken bs) ≡ true → StartedAt bs id)
        → StartedAt (b ∷ bs) id
    here call true is' same found rest =
        let w = started-of b call is' in
        record {
          place = 0;
          running = w.running;
          there = w.there;
          asked = is-some w.running.ask call.ask w.ask_is;
          name = ap (λ (y : CallId). is_same_call y id) w.id_is ∙ same;
        }
    here call false is' same found rest = shift (rest found)

    at : (o : Option MstrCall) → untaken b ≡ o
        → some_named id (cons_option o (filter_map untaken bs)) ≡ true
        → (some_named id (filter_map untaken bs) ≡ true → StartedAt bs id) → StartedAt (b ∷ bs) id
    at None is' found rest = shift (rest found)
    at (Some call) is' found rest = here call (is_same_call call.id id) is' refl found rest

pub named-new : (id : CallId) (calls : List MstrCall)
    → named id (map called_of (map call_of calls)) ≡ some_named id calls
named-new id [] = refl
named-new id (call ∷ calls) = ap (λ b. is_same_call call.id id || b) (named-new id calls)

-- the blocks behind it
taken-runs : (b : BlockState) (r : Running) → running_in (call_taken b) ≡ Some r
    → (was : Running) × (running_in b ≡ Some was) × (was.id ≡ r.id) × (is_some r.ask ≡ false)
taken-runs Idle r is = absurd cc
taken-runs Waiting r is = absurd cc
taken-runs (Active q) r is =
    let e = some-same is in
    (q, refl, ap (λ (x : Running). x.id) e, sym (ap (λ (x : Running). is_some x.ask) e))
taken-runs (Aborted q) r is =
    let e = some-same is in
    (q, refl, ap (λ (x : Running). x.id) e, sym (ap (λ (x : Running). is_some x.ask) e))
taken-runs (Ready kept result) r is = absurd cc

taken-state : (routed : Bool) (n : ℕ) (numbers : List ℕ) (b : BlockState)
    → IsStateOf routed n numbers b → IsStateOf routed n numbers (call_taken b)
taken-state routed n numbers Idle is = tt
taken-state routed n numbers Waiting is = tt
taken-state routed n numbers (Active r) is =
    record { named = is.named; network = is.network; kept = is.kept; ask = λ ask none. absurd cc }
taken-state routed n numbers (Aborted r) is =
    record { named = is.named; network = is.network; kept = is.kept; ask = λ ask none. absurd cc }
taken-state routed n numbers (Ready kept result) is = is

taken-at : (T : BlockTable) (place : ℕ)
    → get_or (collected T).blocks place Idle ≡ call_taken (get_or T.blocks place Idle)
taken-at T place = get_or-map call_taken T.blocks place Idle

pub collected-runs : (T : BlockTable) (place : ℕ) (r : Running) → RunsAt (collected T) place r
    → (was : Running) × (running_in (get_or T.blocks place Idle) ≡ Some was) × (was.id ≡ r.id)
    × (is_some r.ask ≡ false)
collected-runs T place r is =
    taken-runs (get_or T.blocks place Idle) r (sym (ap running_in (taken-at T place)) ∙ is)

pub collected-table : (T : BlockTable) → IsTable T → IsTable (collected T)
collected-table T t = record {
  paths = t.paths;
  numbers = t.numbers;
  states = λ place. subst (IsStateOf T.routed T.node T.numbers) (sym (taken-at T place))
      (taken-state T.routed T.node T.numbers _ (t.states place));
  apart = λ one other first second differ here there path.
      let a = collected-runs T one first here in
      let b = collected-runs T other second there in
      let both = t.apart one other a.0 b.0 differ a.1 b.1
      (ap (λ (x : CallId). x.path) a.2 ∙ path ∙ sym (ap (λ (x : CallId). x.path) b.2)) in (
        sym (ap (λ (x : CallId). x.path) a.2) ∙ both.0,
        λ seq. both.1 (ap (λ (x : CallId). x.seq) a.2 ∙ seq ∙ sym (ap (λ (x : CallId). x.seq) b.2)),
      );
}

pub all-more : {X : Type 0} (P : X → Type 0) (xs ys : List X) → AllByRecursion P xs
    → AllByRecursion P ys → AllByRecursion P (xs ++ ys)
all-more P [] ys all more = more
all-more P (x ∷ xs) ys all more = (all.0, all-more P xs ys all.1 more)

-- what is known of a block that runs a call
pub running-is : (routed : Bool) (n : ℕ) (numbers : List ℕ) (b : BlockState) (r : Running)
    → IsStateOf routed n numbers b → running_in b ≡ Some r → IsRunning routed n numbers r
running-is routed n numbers Idle r is there = absurd cc
running-is routed n numbers Waiting r is there = absurd cc
running-is routed n numbers (Active q) r is there =
    subst (IsRunning routed n numbers) (some-same there) is
running-is routed n numbers (Aborted q) r is there =
    subst (IsRunning routed n numbers) (some-same there) is
running-is routed n numbers (Ready kept result) r is there = absurd cc

pub new-given : (routed : Bool) (n : ℕ) (numbers : List ℕ) (bs : List BlockState)
    → ((place : ℕ) → IsStateOf routed n numbers (get_or bs place Idle))
    → AllByRecursion (λ (c : Called). c.id.seq ≤ get_or numbers c.id.path 0)
    (map called_of (map call_of (filter_map untaken bs)))
new-given routed n numbers [] states = tt
new-given routed n numbers (b ∷ bs) states =
    at (untaken b) refl (new-given routed n numbers bs (λ place. states (suc place)))
  where
    at : (o : Option MstrCall) → untaken b ≡ o
        → AllByRecursion (λ (c : Called). c.id.seq ≤ get_or numbers c.id.path 0)
        (map called_of (map call_of (filter_map untaken bs)))
        → AllByRecursion (λ (c : Called). c.id.seq ≤ get_or numbers c.id.path 0)
        (map called_of (map call_of (cons_option o (filter_map untaken bs))))
    at None is rest = rest
    at (Some call) is rest =
        let w = started-of b call is in
        let r = running-is routed n numbers b w.running (states 0) w.there in
        (subst (λ (x : CallId). x.seq ≤ get_or numbers x.path 0) w.id_is r.named.given, rest)

pub or-and : (x y z : Bool) → (z ≡ true → y ≡ false) → ((x && not y) || z) ≡ ((x || z) && not y)
or-and true true true free = let e : true ≡ false = free refl in absurd cc
or-and true true false free = refl
or-and true false z free = refl
or-and false true true free = let e : true ≡ false = free refl in absurd cc
or-and false true false free = refl
or-and false false true free = refl
or-and false false false free = refl

pub or-left : (x y : Bool) → x ≡ true → (x || y) ≡ true
or-left x y is = ap (λ b. b || y) is

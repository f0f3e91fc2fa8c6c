-- The calls that a legal history of a controller has collected: each was new, and each that has not
-- ended is out.
use Rattle.std.proofs.Common.{◌≡◌, ◌≢◌, ◌⊎◌, ℕ, zero, suc, ◌+◌, ◌<◌, ◌≤◌, ◌==◌, Bool, true, false}
use Rattle.std.proofs.Common.{List, [], ◌∷◌, ◌++◌}
use Rattle.std.proofs.Common.{get_or, map, replicate, Option, Some, None, inl, inr, refl}
use Rattle.std.proofs.Common.{sym, ap, subst, ◌∙◌, arith}
use Rattle.std.specs.Prelude.{not, ◌&&◌, ◌||◌, if◌then◌else◌, fold, is_some}
use Rattle.std.specs.Option.{is_none}
use Rattle.std.specs.List.{AllByRecursion, cons_option, filter_map, list_any}
use Rattle.std.proofs.Math.ListN.{get_or-map}
use Rattle.std.proofs.lemmas.Bool.{and_parts, eq-eqb, eqb-true}
use Rattle.std.proofs.lemmas.List.Folds.{list_any-append}
use Rattle.plant_types.specs.declared.drops.IoDrop.{IoDrop}
use Rattle.plant_types.specs.declared.network.Segment.{Segment}
use Rattle.plant_types.specs.declared.plan.OrderRow.{OrderRow}
use Rattle.plant_types.specs.Plans.{IsRouteFrom, is_routed}
use Rattle.controller_core.specs.LadderSolver.{mstr_blocks, SegmentsKeepCalls}
use Rattle.mstr_block.specs.Call.{is_same_call}
use Rattle.mstr_block.specs.Laws.{CallsAreTakenInOrder, EndsOneCall, FinishesEndOneCall, KeepsCalls}
use Rattle.mstr_block.specs.Laws.{GivesNewNumbers, StaysTable, collected}
use Rattle.mstr_block.specs.Operations.{uses_network}
use Rattle.mstr_block.specs.Running.{AsksFor, MayBeAsked, IsTable}
use Rattle.mstr_block.specs.Running.{RunsAt}
use Rattle.mstr_block.specs.Table.{BlockTable, call_ended, finished, idle_table}
use Rattle.mstr_block.specs.Table.{is_awaited, is_taken_out, own_path, running_in}
use Rattle.mstr_block.specs.Table.{power_failed, started_calls, untaken, with_result}
use Rattle.mstr_block.specs.declared.call.CallId.{CallId}
use Rattle.mstr_block.specs.declared.call.MstrAsk.{MstrAsk}
use Rattle.mstr_block.specs.declared.call.MstrAsk.TheVariants as asks
use Rattle.mstr_block.specs.declared.call.MstrCall.{MstrCall}
use Rattle.mstr_block.specs.declared.call.MstrResult.{MstrResult}
use Rattle.mstr_block.specs.declared.operation.Operation.{Operation}
use Rattle.mstr_block.specs.declared.state.BlockState.{BlockState}
use Rattle.mstr_block.specs.declared.state.BlockState.TheVariants.{Idle, Waiting, Active, Aborted}
use Rattle.mstr_block.specs.declared.state.BlockState.TheVariants.{Ready}
use Rattle.mstr_block.specs.declared.state.Running.{Running}
use Rattle.mstr_block.proofs.Failing.{power_failures-keep_calls}
use Rattle.controller_core.specs.ScanOrder.{row_of}
use Rattle.controller_core.specs.declared.call.Call.{Call}
use Rattle.controller_core.specs.declared.entry.Entry.{Entry}
use Rattle.controller_core.specs.declared.entry.Entry.TheVariants as entries
use Rattle.controller_core.specs.declared.fixed.Fixed.{Fixed}
use Rattle.controller_core.specs.Calls.{call_of, calls_of, kind_of}
use Rattle.controller_core.specs.Controller.{EachFits, Fits, IsLegal, is_out}
use Rattle.controller_core.specs.Controller.{uncollected}
use Rattle.controller_core.specs.Replay.{ControllerState, apply, control_is_on, read_in, replay}
use Rattle.controller_core.specs.Replay.{segment_solved, solved, start, table_of}
use Rattle.ring_core.specs.Legal.{IsPath}
use Rattle.tied_lists.specs.Calls.{AreNewCalls, FitsSort, IsAbove, IsNewCall, IsOut, IsOutOn, NoEnd}
use Rattle.tied_lists.specs.Calls.{LeadsAway}
use Rattle.tied_lists.proofs.Routes.{leads-away}
use Rattle.tied_lists.specs.Items.{Called, Ended, Items, Kind, OverNet, kind_in}
use Rattle.tied_lists.specs.Items.{kind_of_sort, no_items}
use Rattle.joint_history.specs.Reading.{called_of, controller_at, item_next, items_after, items_of}
use Rattle.joint_history.specs.Reading.{sort_of}
use Rattle.joint_history.proofs.CallBlocks.{same-equal, same-refl, no-true, clash, named, over}
use Rattle.joint_history.proofs.CallBlocks.{named-kind, unnamed-kind, no-end, end-none}
use Rattle.joint_history.proofs.CallBlocks.{above-unnamed}
use Rattle.joint_history.proofs.CallBlocks.{some-same, out-awaits, awaits-out, started-of, is-some}
use Rattle.joint_history.proofs.CallBlocks.{some_named, any-started, named-new, collected-runs}
use Rattle.joint_history.proofs.CallBlocks.{collected-table, all-more, running-is, new-given}
use Rattle.joint_history.proofs.CallBlocks.{or-and}
use Rattle.joint_history.proofs.CallBlocks.{or-left}

-- What a controller's crates say of tables, by their public laws.
pub record CallLaws : Type 0 where
  pub segments : SegmentsKeepCalls
  pub taking : CallsAreTakenInOrder
  pub finishing : FinishesEndOneCall
  pub tables : StaysTable

-- ---- what a history's calls and its table have in common

pub record Follows (n : ℕ) (T : BlockTable) (a : Items) : Type 0 where
  pub table : IsTable T
  pub node : T.node ≡ n
  pub out : (id : CallId) → is_taken_out T id ≡ (named id a.calls && not (over id a.ends))
  pub given : AllByRecursion (λ (c : Called). c.id.seq ≤ get_or T.numbers c.id.path 0) a.calls
  pub above : (place : ℕ) (r : Running) → RunsAt T place r → is_some r.ask ≡ true
      → IsAbove r.id a.calls
  pub made : (id : CallId) → over id a.ends ≡ true → named id a.calls ≡ true

all-under : (from to : List ℕ) (calls : List Called)
    → ((path : ℕ) → get_or from path 0 ≤ get_or to path 0)
    → AllByRecursion (λ (c : Called). c.id.seq ≤ get_or from c.id.path 0) calls
    → AllByRecursion (λ (c : Called). c.id.seq ≤ get_or to c.id.path 0) calls
all-under from to [] rises given = tt
all-under from to (c ∷ cs) rises given = (
  let rise = rises c.id.path in let less = given.0 in omega arith,
  all-under from to cs rises given.1,
)

-- a number above all that a path gave is above those of its calls
all-above : (numbers : List ℕ) (calls : List Called) (id : CallId)
    → get_or numbers id.path 0 < id.seq
    → AllByRecursion (λ (c : Called). c.id.seq ≤ get_or numbers c.id.path 0) calls
    → IsAbove id calls
all-above numbers [] id lt given = tt
all-above numbers (c ∷ cs) id lt given = (
  λ path. let less = given.0 in let same = ap (λ p. get_or numbers p 0) path in omega
      (arith, lt, less, same),
  all-above numbers cs id lt given.1,
)

-- a solve
follows-solve : (n : ℕ) (T U : BlockTable) (a : Items) → KeepsCalls T U → GivesNewNumbers T U
    → IsTable U → Follows n T a → Follows n U a
follows-solve n T U a keeps gives table f = record {
  table = table;
  node = keeps.node ∙ f.node;
  out = λ id. same id (is_taken_out T id) refl ∙ f.out id;
  given = all-under T.numbers U.numbers a.calls gives.rises f.given;
  above = λ place r there asked. elim (gives.new place r there) [
    | inl before ↦ f.above place r before asked
    | inr new ↦ all-above T.numbers a.calls r.id new.0 f.given
  ];
  made = f.made;
}
  where
    back : (id : CallId) → is_taken_out U id ≡ true → is_taken_out T id ≡ true
    back id is =
        let w = out-awaits U id is in
        elim (gives.new w.place w.running w.there) [
          | inl before ↦ awaits-out T id (record {
            place = w.place;
            running = w.running;
            there = before;
            asked = w.asked;
            name = w.name;
          })
          | inr new ↦ absurd (both w.running.ask w.asked new.1)
        ]
      where
        both : {X : Type 0} (o : Option X) → is_none o ≡ true → is_some o ≡ true → ⊥
        both None none some = absurd cc
        both (Some x) none some = absurd cc

    same : (id : CallId) (b : Bool) → is_taken_out T id ≡ b → is_taken_out U id ≡ is_taken_out T id
    same id true is = keeps.out id is ∙ sym is
    same id false is = no-true (is_taken_out U id) (λ there. clash (back id there) is) ∙ sym is

-- a finish
with-running : (id : CallId) (result : MstrResult) (b : BlockState) (r : Running)
    → running_in (with_result id result b) ≡ Some r → running_in b ≡ Some r
with-running id result b r is = at (is_awaited id b) b is
  where
    ended : (s : BlockState) → running_in (call_ended result s) ≡ Some r → running_in s ≡ Some r
    ended Idle found = found
    ended Waiting found = found
    ended (Active q) found = absurd cc
    ended (Aborted q) found = absurd cc
    ended (Ready kept res) found = found

    at : (x : Bool) (s : BlockState) → running_in (if x then call_ended result s else s) ≡ Some r
        → running_in s ≡ Some r
    at true s found = ended s found
    at false s found = found

finished-runs : (T : BlockTable) (id : CallId) (result : MstrResult) (place : ℕ) (r : Running)
    → RunsAt (finished id result T) place r → RunsAt T place r
finished-runs T id result place r is =
    with-running id result (get_or T.blocks place Idle) r
    (sym (ap running_in (get_or-map (with_result id result) T.blocks place Idle)) ∙ is)

over-more : (id : CallId) (ends : List Ended) (e : Ended)
    → over id (ends ++ e ∷ []) ≡ (over id ends || (is_same_call e.id id || false))
over-more id ends e = list_any-append (λ (x : Ended). is_same_call x.id id) ends (e ∷ [])

follows-finish : (n : ℕ) (T : BlockTable) (a b : Items) (e : Ended) (result : MstrResult)
    → FinishesEndOneCall → StaysTable
    → is_taken_out T e.id ≡ true → b.calls ≡ a.calls → b.ends ≡ a.ends ++ e ∷ [] → Follows n T a
    → Follows n (finished e.id result T) b
follows-finish n T a b e result finish tables was calls ends f = record {
  table = tables.finished T e.id result f.table;
  node = f.node;
  out = λ id. told id (is_same_call id e.id) refl
      ∙ sym (λ i. named id (calls i) && not (over id (ends i)));
  given = subst (AllByRecursion (λ (c : Called). c.id.seq ≤ get_or T.numbers c.id.path 0))
      (sym calls) f.given;
  above = λ place r there asked. subst (IsAbove r.id) (sym calls)
      (f.above place r (finished-runs T e.id result place r there) asked);
  made = λ id is. ap (named id) calls
      ∙ made id (over id a.ends) refl (sym (over-more id a.ends e) ∙ sym (ap (over id) ends) ∙ is);
}
  where
    one : EndsOneCall T (finished e.id result T) e.id
    one = finish T e.id result

    known : named e.id a.calls ≡ true
    known = (and_parts (named e.id a.calls) (not (over e.id a.ends)) (sym (f.out e.id) ∙ was)).0

    or-last : (x : Bool) → (x || (true || false)) ≡ true
    or-last true = refl
    or-last false = refl

    or-none : (x : Bool) → (x || (false || false)) ≡ x
    or-none true = refl
    or-none false = refl

    and-none : (x : Bool) → (x && false) ≡ false
    and-none true = refl
    and-none false = refl

    told : (id : CallId) (x : Bool) → is_same_call id e.id ≡ x
        → is_taken_out (finished e.id result T) id
        ≡ (named id a.calls && not (over id (a.ends ++ e ∷ [])))
    told id true same =
        let is = same-equal id e.id same in
        ap (is_taken_out (finished e.id result T)) is ∙ one.gone
        ∙ sym (ap (λ x. named id a.calls && not x) (over-more id a.ends e
        ∙ ap (λ (y : CallId). over id a.ends || (is_same_call y id || false)) (sym is)
        ∙ ap (λ y. over id a.ends || (y || false)) (same-refl id) ∙ or-last (over id a.ends))
        ∙ and-none (named id a.calls))
    told id false same =
        let other : is_same_call e.id id ≡ false = no-true (is_same_call e.id id) (λ is.
        clash (ap (λ (y : CallId). is_same_call y e.id) (sym (same-equal e.id id is))
        ∙ same-refl e.id) same) in
        one.out id same ∙ f.out id
        ∙ sym (ap (λ x. named id a.calls && not x) (over-more id a.ends e
        ∙ ap (λ y. over id a.ends || (y || false)) other ∙ or-none (over id a.ends)))

    made : (id : CallId) (x : Bool) → over id a.ends ≡ x
        → (over id a.ends || (is_same_call e.id id || false)) ≡ true → named id a.calls ≡ true
    made id true is all = f.made id is
    made id false is all = last (is_same_call e.id id) refl
        (sym (ap (λ y. y || (is_same_call e.id id || false)) is) ∙ all)
      where
        last : (x : Bool) → is_same_call e.id id ≡ x → (false || (x || false)) ≡ true
            → named id a.calls ≡ true
        last true same some =
            ap (λ (y : CallId). named y a.calls) (sym (same-equal e.id id same)) ∙ known
        last false same some = absurd cc

-- ---- a collect

follows-collect : (n : ℕ) (T : BlockTable) (a b : Items) → CallsAreTakenInOrder
    → b.calls ≡ a.calls ++ map called_of (calls_of T) → b.ends ≡ a.ends
    → Follows n T a → Follows n (collected T) b
follows-collect n T a b order calls ends f = record {
  table = collected-table T f.table;
  node = f.node;
  out = λ id. (order T).out id ∙ ap (λ x. x || some_named id (started_calls T)) (f.out id)
      ∙ or-and (named id a.calls) (over id a.ends) (some_named id (started_calls T)) (fresh id)
      ∙ sym (λ i. (ap (named id) calls ∙ more id) i && not (over id (ends i)));
  given = subst (AllByRecursion (λ (c : Called). c.id.seq ≤ get_or T.numbers c.id.path 0))
      (sym calls)
      (all-more _ a.calls (map called_of (calls_of T)) f.given
      (new-given T.routed T.node T.numbers T.blocks f.table.states));
  above = λ place r there asked. absurd (clash asked (collected-runs T place r there).3);
  made = λ id is. ap (named id) calls ∙ more id
      ∙ or-left (named id a.calls) _ (f.made id (sym (ap (over id) ends) ∙ is));
}
  where
    more : (id : CallId) → named id (a.calls ++ map called_of (calls_of T))
        ≡ (named id a.calls || some_named id (started_calls T))
    more id = list_any-append (λ (c : Called). is_same_call c.id id) a.calls
        (map called_of (calls_of T))
        ∙ ap (λ x. named id a.calls || x) (named-new id (started_calls T))

    fresh : (id : CallId) → some_named id (started_calls T) ≡ true → over id a.ends ≡ false
    fresh id is =
        let w = any-started id T.blocks is in
        let none = above-unnamed w.running.id a.calls (f.above w.place w.running w.there w.asked) in
        let here = same-equal w.running.id id w.name in
        no-true (over id a.ends)
        (λ ended. clash (f.made id ended) (sym (ap (λ (x : CallId). named x a.calls) here) ∙ none))

-- ---- a history

idle-at : (count place : ℕ) → get_or (replicate count Idle) place Idle ≡ Idle
idle-at zero place = refl
idle-at (suc count) zero = refl
idle-at (suc count) (suc place) = idle-at count place

none-out : (id : CallId) (count : ℕ) → list_any (is_awaited id) (replicate count Idle) ≡ false
none-out id zero = refl
none-out id (suc count) = none-out id count

follows-start : (n : ℕ) (routed : Bool) (count : ℕ) → StaysTable
    → Follows n (idle_table n routed count) no_items
follows-start n routed count tables = record {
  table = tables.idle n routed count;
  node = refl;
  out = λ id. none-out id count;
  given = tt;
  above = λ place r there asked.
      let none : Some r ≡ None = sym there ∙ ap running_in (idle-at count place) in absurd cc;
  made = λ id is. absurd cc;
}

follows-same : (n : ℕ) (T U : BlockTable) (a : Items) → U ≡ T → Follows n T a → Follows n U a
follows-same n T U a is f = subst (λ (x : BlockTable). Follows n x a) (sym is) f

read-table : (drops : List IoDrop) (drop : Option ℕ) (s : ControllerState)
    → table_of (read_in drops drop s) ≡ table_of s
read-table drops None s = refl
read-table drops (Some drop) s = refl

follows-segment : CallLaws → (n : ℕ) (segments : List Segment) (number : ℕ) (s : ControllerState)
    (a : Items) → Follows n (table_of s) a
    → Follows n (table_of (segment_solved segments number s)) a
follows-segment laws n segments number s a f =
    follows-solve n (table_of s) (table_of (segment_solved segments number s)) a
    (laws.segments.calls segments number s.solving)
    (laws.segments.numbers segments number s.solving)
    (laws.segments.table segments number s.solving f.table) f

follows-row : CallLaws → (n : ℕ) (segments : List Segment) (row : Option OrderRow)
    (s : ControllerState) (a : Items) → Follows n (table_of s) a
    → Follows n (table_of (solved segments row s)) a
follows-row laws n segments None s a f = f
follows-row laws n segments (Some row) s a f = either (control_is_on s.solving.map row.control)
  where
    either : (b : Bool)
        → Follows n (table_of (if b then segment_solved segments row.segment s else s)) a
    either true = follows-segment laws n segments row.segment s a f
    either false = f

follows-entry : CallLaws → (n : ℕ) (f : Fixed) (s : ControllerState) (a : Items) (e : Entry)
    → Fits f s e → Follows n (table_of s) a
    → Follows n (table_of (apply f s e)) (item_next a e)
follows-entry laws n f s a entries.Begin fits old = old
follows-entry laws n f s a (entries.Input row) fits old =
    follows-same n (table_of s) _ a (read-table f.plan.drops _ s) old
follows-entry laws n f s a (entries.Solve row) fits old =
    follows-row laws n f.plan.segments (row_of f.plan row) s a old
follows-entry laws n f s a (entries.Output row words) fits old = old
follows-entry laws n f s a entries.End fits old = old
follows-entry laws n f s a entries.Fail fits old =
    let T = table_of s in
    let new = follows-solve n T (power_failed T) a (power_failures-keep_calls.keeps T)
    (power_failures-keep_calls.new T) (laws.tables.failed T old.table) old in
    record {
      table = new.table;
      node = new.node;
      out = new.out;
      given = new.given;
      above = new.above;
      made = new.made;
    }
follows-entry laws n f s a entries.Dark fits old = old
follows-entry laws n f s a (entries.Collect calls) fits old =
    follows-collect n (table_of s) a (item_next a (entries.Collect calls)) laws.taking
    (ap (λ (l : List Call). a.calls ++ map called_of l) fits.1) refl old
follows-entry laws n f s a (entries.Peer id request reply) fits old = record {
  table = old.table;
  node = old.node;
  out = old.out;
  given = old.given;
  above = old.above;
  made = old.made;
}
follows-entry laws n f s a (entries.Off id request) fits old = record {
  table = old.table;
  node = old.node;
  out = old.out;
  given = old.given;
  above = old.above;
  made = old.made;
}
follows-entry laws n f s a (entries.Finish id result) fits old =
    follows-finish n (table_of s) a (item_next a (entries.Finish id result)) _ result laws.finishing
    laws.tables fits refl refl old

follows-all : CallLaws → (n : ℕ) (f : Fixed) (s : ControllerState) (a : Items) (h : List Entry)
    → EachFits f s h → Follows n (table_of s) a
    → Follows n (table_of (fold (apply f) s h)) (items_after a h)
unfolding EachFits
follows-all laws n f s a [] each old = old
follows-all laws n f s a (e ∷ h) each old =
    follows-all laws n f (apply f s e) (item_next a e) h each.1
    (follows-entry laws n f s a e each.0 old)

pub history-follows : CallLaws → (f : Fixed) (h : List Entry) → IsLegal f h
    → Follows f.plan.node (table_of (replay f h)) (items_of h)
history-follows laws f h legal =
    follows-all laws f.plan.node f (start f.plan) no_items h legal.each
    (follows-start f.plan.node (is_routed f.plan.network) (mstr_blocks f.plan.segments) laws.tables)

-- a call that was collected and has not ended is out
pub out-is : CallLaws → (fixed : Fixed) (h : List Entry) (id : CallId) → IsLegal fixed h
    → IsOut (items_of h) id
    → is_out (controller_at fixed h) id ≡ true
out-is laws fixed h id legal is =
    let f = history-follows laws fixed h legal in
    let a = items_of h in
    let there = named-kind id a.calls is.0 is.1.made in
    let not-over = end-none id a.ends is.1.unended in
    f.out id ∙ (λ i. there i && not (not-over i))

-- ---- new calls

abbrev IsFresh : Running → Called → Type 0
IsFresh r c = c.id.path ≡ r.id.path
    → (c.id.seq < r.id.seq) ⊎ ((r.id.path ≡ own_path) × (c.id.seq ≢ r.id.seq))

abbrev AreFresh : BlockTable → ℕ → List Called → Type 0
AreFresh T k earlier = (place : ℕ) (r : Running) → k ≤ place → RunsAt T place r
    → is_some r.ask ≡ true → AllByRecursion (IsFresh r) earlier

fresh-unnamed : (r : Running) (calls : List Called) → AllByRecursion (IsFresh r) calls
    → named r.id calls ≡ false
fresh-unnamed r [] all = refl
fresh-unnamed r (c ∷ cs) all = λ i. other i || fresh-unnamed r cs all.1 i
  where
    other : is_same_call c.id r.id ≡ false
    other = no-true (is_same_call c.id r.id) (λ same.
        let e = same-equal c.id r.id same in
        let seq = ap (λ (x : CallId). x.seq) e in
        elim (all.0 (ap (λ (x : CallId). x.path) e)) [
          | inl lt ↦ omega (arith, lt, seq)
          | inr two ↦ two.1 seq
        ])

fresh-above : (r : Running) (calls : List Called) → r.id.path ≢ own_path
    → AllByRecursion (IsFresh r) calls → IsAbove r.id calls
fresh-above r [] net all = tt
fresh-above r (c ∷ cs) net all = (first, fresh-above r cs net all.1)
  where
    first : c.id.path ≡ r.id.path → c.id.seq < r.id.seq
    first path = elim (all.0 path) [ inl lt ↦ lt | inr two ↦ absurd (net two.0) ]

above-fresh : (r : Running) (calls : List Called) → IsAbove r.id calls
    → AllByRecursion (IsFresh r) calls
above-fresh r [] above = tt
above-fresh r (c ∷ cs) above = (λ path. inl (above.0 path), above-fresh r cs above.1)

-- what a call asks fits the path that it has
net-path : (op : Operation) (path : ℕ) → uses_network op ≡ not (path == own_path)
    → uses_network op ≡ true → path ≢ own_path
net-path op path is net same =
    let e : not (path == own_path) ≡ false = ap not (eq-eqb path own_path same) in
    clash net (is ∙ e)

home-path : (op : Operation) (path : ℕ) → uses_network op ≡ not (path == own_path)
    → uses_network op ≡ false → path ≡ own_path
home-path op path is home = eqb-true path own_path (back (path == own_path) (sym is ∙ home))
  where
    back : (b : Bool) → not b ≡ false → b ≡ true
    back true e = refl
    back false e = absurd cc

record FitsName (n : ℕ) (earlier : List Called) (r : Running) (own : ℕ) : Type 0 where
  own_is : own ≡ n
  network : uses_network r.kept.operation ≡ not (r.id.path == own_path)
  path : r.id.path < 5
  first : 1 ≤ r.id.seq
  above : r.id.path ≢ own_path → IsAbove r.id earlier

net-fits : (n own : ℕ) (earlier : List Called) (r : Running) (routed : Bool) (route pdu : List ℕ)
    → FitsName n earlier r own → uses_network r.kept.operation ≡ true
    → IsRouteFrom routed own route → FitsSort n earlier r.id (OverNet route pdu)
net-fits n own earlier r routed route pdu f net other =
    let away = net-path r.kept.operation r.id.path f.network net in
    let first = f.first in
    let low = f.path in (
      subst (λ (k : ℕ). LeadsAway k route) f.own_is (leads-away routed own route other),
      (omega arith, omega arith),
      omega arith,
      f.above away,
    )

fits-ask : (n own : ℕ) (earlier : List Called) (r : Running) (routed : Bool)
    → FitsName n earlier r own → (ask : MstrAsk) → MayBeAsked routed own ask → AsksFor r.kept ask
    → FitsSort n earlier r.id (sort_of (kind_of ask))
fits-ask n own earlier r routed f (asks.Write route at words) is for =
    net-fits n own earlier r routed route [] f (ap uses_network for.0) is.0
fits-ask n own earlier r routed f (asks.Read route at count) is for =
    net-fits n own earlier r routed route [] f (ap uses_network for.0) is.0
fits-ask n own earlier r routed f asks.LocalStats is for =
    (tt, home-path r.kept.operation r.id.path f.network (ap uses_network for))
fits-ask n own earlier r routed f asks.ClearLocal is for =
    (tt, home-path r.kept.operation r.id.path f.network (ap uses_network for))
fits-ask n own earlier r routed f (asks.PutGlobal words) is for =
    (is.1, home-path r.kept.operation r.id.path f.network (ap uses_network for.0))
fits-ask n own earlier r routed f (asks.GetGlobal node count) is for =
    (tt, home-path r.kept.operation r.id.path f.network (ap uses_network for.0))
fits-ask n own earlier r routed f (asks.RemoteStats route) is for =
    net-fits n own earlier r routed route [] f (ap uses_network for) is
fits-ask n own earlier r routed f (asks.ClearRemote route) is for =
    net-fits n own earlier r routed route [] f (ap uses_network for) is

record NewFrom (n : ℕ) (T : BlockTable) (ends : List Ended) : Type 0 where
  table : IsTable T
  node : T.node ≡ n
  unended : (place : ℕ) (r : Running) → RunsAt T place r → is_some r.ask ≡ true → NoEnd r.id ends

-- a call that was made and has not ended has its block, which is taken or stands before
record Held (T : BlockTable) (k : ℕ) (id : CallId) : Type 0 where
  place : ℕ
  running : Running
  there : RunsAt T place running
  name : is_same_call running.id id ≡ true
  gone : (is_none running.ask ≡ true) ⊎ (place < k)

abbrev AreHeld : BlockTable → ℕ → List Called → List Ended → Type 0
AreHeld T k earlier ends = (id : CallId) (kind : Kind) → kind_in earlier id ≡ Some kind
    → NoEnd id ends → Held T k id

held-start : (n : ℕ) (T : BlockTable) (a : Items) → Follows n T a → AreHeld T 0 a.calls a.ends
held-start n T a f id kind made unended =
    let there = named-kind id a.calls kind made in
    let not-over = end-none id a.ends unended in
    let w = out-awaits T id (f.out id ∙ (λ i. there i && not (not-over i))) in
    record {
      place = w.place;
      running = w.running;
      there = w.there;
      name = w.name;
      gone = inl w.asked;
    }

held-next : (T : BlockTable) (k : ℕ) (earlier : List Called) (ends : List Ended)
    → AreHeld T k earlier ends → AreHeld T (suc k) earlier ends
held-next T k earlier ends held id kind made unended =
    let h = held id kind made unended in
    record {
      place = h.place;
      running = h.running;
      there = h.there;
      name = h.name;
      gone = elim h.gone [ inl asked ↦ inl asked | inr below ↦ inr (omega (arith, below)) ];
    }

kind-last : (earlier : List Called) (c : Called) (id : CallId) (kind : Kind)
    → kind_in (earlier ++ c ∷ []) id ≡ Some kind
    → ((k : Kind) × (kind_in earlier id ≡ Some k)) ⊎ (is_same_call c.id id ≡ true)
kind-last [] c id kind made = at (is_same_call c.id id) refl made
  where
    at : (b : Bool) → is_same_call c.id id ≡ b
        → (if b then Some (kind_of_sort c.sort) else None) ≡ Some kind
        → ((k : Kind) × (kind_in [] id ≡ Some k)) ⊎ (is_same_call c.id id ≡ true)
    at true same found = inr same
    at false same found = absurd cc
kind-last (x ∷ xs) c id kind made = at (is_same_call x.id id) refl made (kind-last xs c id kind)
  where
    at : (b : Bool) → is_same_call x.id id ≡ b
        → (if b then Some (kind_of_sort x.sort) else kind_in (xs ++ c ∷ []) id) ≡ Some kind
        → (kind_in (xs ++ c ∷ []) id ≡ Some kind
        → ((k : Kind) × (kind_in xs id ≡ Some k)) ⊎ (is_same_call c.id id ≡ true))
        → ((k : Kind) × (kind_in (x ∷ xs) id ≡ Some k)) ⊎ (is_same_call c.id id ≡ true)
    at true same found rest = inl (
      kind_of_sort x.sort,
      ap (λ b. if b then Some (kind_of_sort x.sort) else kind_in xs id) same,
    )
    at false same found rest = elim (rest found) [
      | inl more ↦ inl
          (more.0, ap (λ b. if b then Some (kind_of_sort x.sort) else kind_in xs id) same ∙ more.1)
      | inr last ↦ inr last
    ]

held-more : (T : BlockTable) (k : ℕ) (earlier : List Called) (ends : List Ended) (q : Running)
    (c : Called) → RunsAt T k q → c.id ≡ q.id
    → AreHeld T k earlier ends → AreHeld T (suc k) (earlier ++ c ∷ []) ends
held-more T k earlier ends q c here same held id kind made unended =
    elim (kind-last earlier c id kind made) [
      | inl before ↦ held-next T k earlier ends held id before.0 before.1 unended
      | inr last ↦ record {
        place = k;
        running = q;
        there = here;
        name = ap (λ (y : CallId). is_same_call y id) (sym same) ∙ last;
        gone = inr (omega arith);
      }
    ]

not-both : {X : Type 0} (o : Option X) → is_none o ≡ true → is_some o ≡ true → ⊥
not-both None none some = absurd cc
not-both (Some x) none some = absurd cc

alone-by : (T : BlockTable) (ends : List Ended) (earlier : List Called) (k : ℕ) (r : Running)
    → IsTable T → RunsAt T k r → is_some r.ask ≡ true
    → AreHeld T k earlier ends → IsPath r.id.path → (id : CallId)
    → IsOutOn r.id.path earlier ends id → ⊥
alone-by T ends earlier k r table there some held net id o =
    let h = held id o.kind o.made o.unended in
    let path : h.running.id.path ≡ r.id.path =
    ap (λ (x : CallId). x.path) (same-equal h.running.id id h.name) ∙ o.path_is in
    let two = table.apart h.place k h.running r (differ h) h.there there path in
    let home = two.0 in
    let away = net.0 in
    omega (arith, home, path, away)
  where
    differ : (h : Held T k id) → h.place ≡ k → ⊥
    differ h same =
        let here : h.running ≡ r =
        some-same (sym h.there ∙ (ap (λ m. running_in (get_or T.blocks m Idle)) same ∙ there)) in
        elim h.gone [
          | inl asked ↦ not-both r.ask (ap (λ (x : Running). is_none x.ask) (sym here) ∙ asked) some
          | inr below ↦ omega (arith, below, same)
        ]

one-new : (n : ℕ) (T : BlockTable) (ends : List Ended) (earlier : List Called) (k : ℕ) (r : Running)
    (ask : MstrAsk) → NewFrom n T ends
    → RunsAt T k r → r.ask ≡ Some ask → AreFresh T k earlier → AreHeld T k earlier ends
    → IsNewCall n earlier ends (record { id = r.id; sort = sort_of (kind_of ask) })
one-new n T ends earlier k r ask from there asked fresh held =
    let is =
    running-is T.routed T.node T.numbers (get_or T.blocks k Idle) r (from.table.states k) there in
    let some = is-some r.ask ask asked in
    let all = fresh k r (omega arith) there some in
    let asks = is.ask ask asked in
    let name : FitsName n earlier r T.node = record {
      own_is = from.node;
      network = is.network;
      path = is.named.path;
      first = is.named.first;
      above = λ net. fresh-above r earlier net all;
    } in
    record {
      own = is.named.node ∙ from.node;
      first = unnamed-kind r.id earlier (fresh-unnamed r earlier all);
      unended = from.unended k r there some;
      fits = fits-ask n T.node earlier r T.routed name ask asks.0 asks.1;
      alone = alone-by T ends earlier k r from.table there some held;
    }

fresh-more : (n : ℕ) (T : BlockTable) (ends : List Ended) (earlier : List Called) (k : ℕ)
    (q : Running) (c : Called) → NewFrom n T ends
    → RunsAt T k q → c.id ≡ q.id → AreFresh T k earlier → AreFresh T (suc k) (earlier ++ c ∷ [])
fresh-more n T ends earlier k q c from here id fresh place r behind there some =
    all-more (IsFresh r) earlier (c ∷ []) (fresh place r (omega arith) there some) (last, tt)
  where
    last : c.id.path ≡ r.id.path
        → (c.id.seq < r.id.seq) ⊎ ((r.id.path ≡ own_path) × (c.id.seq ≢ r.id.seq))
    last path =
        let same = sym (ap (λ (x : CallId). x.path) id) ∙ path in
        let two = from.table.apart k place q r (λ e. omega (arith, e, behind)) here there same in
        inr (sym same ∙ two.0, λ seq. two.1 (sym (ap (λ (x : CallId). x.seq) id) ∙ seq))

fresh-next : (T : BlockTable) (k : ℕ) (earlier : List Called) → AreFresh T k earlier
    → AreFresh T (suc k) earlier
fresh-next T k earlier fresh place r behind there some = fresh place r (omega arith) there some

new-calls : (n : ℕ) (T : BlockTable) (ends : List Ended) (earlier : List Called) (k : ℕ)
    (bs : List BlockState) → NewFrom n T ends
    → ((i : ℕ) → get_or bs i Idle ≡ get_or T.blocks (k + i) Idle) → AreFresh T k earlier
    → AreHeld T k earlier ends
    → AreNewCalls n earlier ends (map called_of (map call_of (filter_map untaken bs)))
new-calls n T ends earlier k [] from here fresh held = tt
new-calls n T ends earlier k (b ∷ bs) from here fresh held =
    at (untaken b) refl (λ l all more. new-calls n T ends l (suc k) bs from next all more)
  where
    next : (i : ℕ) → get_or bs i Idle ≡ get_or T.blocks (suc k + i) Idle
    next i = here (suc i)
        ∙ (let e : k + suc i ≡ suc k + i = omega arith in ap (λ m. get_or T.blocks m Idle) e)

    is-here : b ≡ get_or T.blocks k Idle
    is-here = here 0 ∙ (let e : k + 0 ≡ k = omega arith in ap (λ m. get_or T.blocks m Idle) e)

    at : (o : Option MstrCall) → untaken b ≡ o
        → ((l : List Called) → AreFresh T (suc k) l → AreHeld T (suc k) l ends
        → AreNewCalls n l ends (map called_of (map call_of (filter_map untaken bs))))
        → AreNewCalls n earlier ends
        (map called_of (map call_of (cons_option o (filter_map untaken bs))))
    at None is rest = rest earlier (fresh-next T k earlier fresh) (held-next T k earlier ends held)
    at (Some call) is rest =
        let w = started-of b call is in
        let there : RunsAt T k w.running = sym (ap running_in is-here) ∙ w.there in
        let c = called_of (call_of call) in
        let new = one-new n T ends earlier k w.running call.ask from there w.ask_is fresh held in
        let same : record { id = w.running.id; sort = sort_of (kind_of call.ask) } ≡ c =
        λ i. record { id = w.id_is i; sort = sort_of (kind_of call.ask) } in (
          subst (IsNewCall n earlier ends) same new,
          rest (earlier ++ c ∷ [])
              (fresh-more n T ends earlier k w.running c from there (sym w.id_is) fresh)
              (held-more T k earlier ends w.running c there (sym w.id_is) held),
        )

-- the calls that a controller collects are new
pub collected-new : CallLaws → (fixed : Fixed) (h : List Entry) → IsLegal fixed h
    → AreNewCalls fixed.plan.node (items_of h).calls (items_of h).ends
    (map called_of (uncollected (controller_at fixed h)))
collected-new laws fixed h legal =
    let f = history-follows laws fixed h legal in
    let a = items_of h in
    let T = table_of (replay fixed h) in
    let from : NewFrom fixed.plan.node T a.ends = record {
      table = f.table;
      node = f.node;
      unended = λ place r there some.
          let none = above-unnamed r.id a.calls (f.above place r there some) in
          no-end r.id a.ends (no-true (over r.id a.ends) (λ ended. clash (f.made r.id ended) none));
    } in
    new-calls fixed.plan.node T a.ends a.calls 0 T.blocks from
    (λ i. let e : i ≡ 0 + i = omega arith in ap (λ m. get_or T.blocks m Idle) e)
    (λ place r behind there some. above-fresh r a.calls (f.above place r there some))
    (held-start fixed.plan.node T a f)

-- The calls that a controller has started have different names.
use Rattle.std.proofs.Common.{◌≡◌, ◌≢◌, ℕ, zero, suc, ◌==◌, Bool, true, false, List, [], ◌∷◌}
use Rattle.std.proofs.Common.{length, drop, get_or, map, Option, Some, None, refl, sym, ap, subst}
use Rattle.std.proofs.Common.{◌∙◌, arith, eqb-true}
use Rattle.std.specs.Prelude.{fold, if◌then◌else◌, option_and_then, option_map}
use Rattle.std.specs.List.{AllByRecursion, cons_option, filter_map}
use Rattle.std.proofs.lemmas.Bool.{and_parts, false_from_ne_true}
use Rattle.plant_types.specs.declared.drops.IoDrop.{IoDrop}
use Rattle.plant_types.specs.declared.network.Segment.{Segment}
use Rattle.plant_types.specs.declared.plan.OrderRow.{OrderRow}
use Rattle.ladder_solver.specs.Laws.{SegmentsKeepCalls}
use Rattle.ladder_solver.specs.Numbers.{mstr_blocks}
use Rattle.plant_types.specs.Plans.{is_routed}
use Rattle.mstr_block.specs.Call.{is_same_call}
use Rattle.mstr_block.specs.Laws.{CallsAreTakenInOrder, StaysTable, collected}
use Rattle.mstr_block.specs.Running.{IsTable}
use Rattle.mstr_block.specs.Table.{BlockTable, first_taken, running_in, started_calls, untaken}
use Rattle.mstr_block.specs.Table.{untaken_call}
use Rattle.mstr_block.specs.declared.call.CallId.{CallId}
use Rattle.mstr_block.specs.declared.call.MstrAsk.{MstrAsk}
use Rattle.mstr_block.specs.declared.call.MstrCall.{MstrCall}
use Rattle.mstr_block.specs.declared.state.BlockState.{BlockState}
use Rattle.mstr_block.specs.declared.state.BlockState.TheVariants.{Idle}
use Rattle.mstr_block.specs.declared.state.Running.{Running}
use Rattle.scan_order.specs.Due.{row_of, input_of}
use Rattle.controller_core.specs.declared.call.Call.{Call}
use Rattle.controller_core.specs.declared.entry.Entry.{Entry}
use Rattle.controller_core.specs.declared.entry.Entry.TheVariants as entries
use Rattle.controller_core.specs.declared.fixed.Fixed.{Fixed}
use Rattle.controller_core.specs.Calls.{call_of}
use Rattle.controller_core.specs.Controller.{ControllerIs, state_of, uncollected}
use Rattle.controller_core.specs.Replay.{ControllerState, apply, control_is_on, read_in}
use Rattle.controller_core.specs.Replay.{segment_solved, solved, start, table_of}

-- What the crates below say of tables, by their public laws.
pub record TableLaws : Type 0 where
  pub segments : SegmentsKeepCalls
  pub order : CallsAreTakenInOrder
  pub tables : StaysTable

-- A list with no item is empty.
none_left : {X : Type 0} (xs : List X) → length xs ≡ 0 → xs ≡ []
none_left [] none = refl
none_left (x ∷ xs) none = absurd (omega arith)

less_left : {X : Type 0} (xs : List X) (count : ℕ) → length xs ≡ suc count
    → length (drop 1 xs) ≡ count
less_left [] count long = absurd (omega arith)
less_left (x ∷ xs) count long = omega arith

-- A table stays one where all started calls are taken.
table-collected : TableLaws → (count : ℕ) (table : BlockTable)
    → length (started_calls table) ≡ count → IsTable table → IsTable (collected table)
table-collected laws zero table none is =
    subst IsTable (sym ((laws.order table).all (none_left (started_calls table) none))) is
table-collected laws (suc count) table long is =
    let takes = laws.order table in
    subst IsTable takes.same
    (table-collected laws count (first_taken table)
    (ap length takes.rest ∙ less_left (started_calls table) count long)
    (laws.tables.taken table is))

read-table : (drops : List IoDrop) (drop : Option ℕ) (s : ControllerState)
    → table_of (read_in drops drop s) ≡ table_of s
read-table drops None s = refl
read-table drops (Some drop) s = refl

table-row : TableLaws → (segments : List Segment) (row : Option OrderRow) (s : ControllerState)
    → IsTable (table_of s) → IsTable (table_of (solved segments row s))
table-row laws segments None s is = is
table-row laws segments (Some row) s is = either (control_is_on s.solving.map row.control)
  where
    either : (on : Bool)
        → IsTable (table_of (if on then segment_solved segments row.segment s else s))
    either true = laws.segments.table segments row.segment s.solving is
    either false = is

-- An entry leaves a table of calls.
table-entry : TableLaws → (fixed : Fixed) (s : ControllerState) (entry : Entry)
    → IsTable (table_of s) → IsTable (table_of (apply fixed s entry))
table-entry laws fixed s entries.Begin is = is
table-entry laws fixed s (entries.Input row) is =
    subst IsTable (sym (read-table fixed.plan.drops (input_of (row_of fixed.plan row)) s)) is
table-entry laws fixed s (entries.Solve row) is =
    table-row laws fixed.plan.segments (row_of fixed.plan row) s is
table-entry laws fixed s (entries.Output row words) is = is
table-entry laws fixed s entries.End is = is
table-entry laws fixed s entries.Fail is = laws.tables.failed (table_of s) is
table-entry laws fixed s entries.Dark is = is
table-entry laws fixed s (entries.Collect calls) is =
    table-collected laws (length (started_calls (table_of s))) (table_of s) refl is
table-entry laws fixed s (entries.Peer id request reply) is = is
table-entry laws fixed s (entries.Off id request) is = is
table-entry laws fixed s (entries.Finish id result) is =
    laws.tables.finished (table_of s) id result is

table-from : TableLaws → (fixed : Fixed) (s : ControllerState) (history : List Entry)
    → IsTable (table_of s) → IsTable (table_of (fold (apply fixed) s history))
table-from laws fixed s [] is = is
table-from laws fixed s (entry ∷ history) is =
    table-from laws fixed (apply fixed s entry) history (table-entry laws fixed s entry is)

table-is : TableLaws → (v : ControllerIs) → IsTable (table_of (state_of v))
table-is laws v =
    table-from laws v.fixed (start v.fixed.plan) v.history
    (laws.tables.idle v.fixed.plan.node (is_routed v.fixed.plan.network)
    (mstr_blocks v.fixed.plan.segments))

-- ---- the names of calls

-- No call has this name.
abbrev pub HaveOtherNames : CallId → List Call → Type 0
HaveOtherNames id calls =
    AllByRecursion (λ (other : Call). is_same_call other.id id ≡ false) calls

-- No two calls have one name.
abbrev pub HaveNames : List Call → Type 0
HaveNames [] = Unit {0}
HaveNames (call ∷ calls) = HaveOtherNames call.id calls × HaveNames calls

-- The call that a block started is the one that it runs.
pub record Runs (found : Option Running) (call : MstrCall) : Type 0 where
  pub running : Running
  pub is : found ≡ Some running
  pub name : call.id ≡ running.id

runs-untaken : (found : Option Running) (call : MstrCall)
    → option_and_then untaken_call found ≡ Some call → Runs found call
runs-untaken None call is = absurd cc
runs-untaken (Some running) call is = record {
  running = running;
  is = refl;
  name = named running.id running.ask is;
} where
  named : (id : CallId) (ask : Option MstrAsk)
      → option_map (λ (ask : MstrAsk). record { id = id; ask = ask }) ask ≡ Some call
      → call.id ≡ id
  named id None is = absurd cc
  named id (Some ask) is =
      let got : Option MstrCall → CallId =
      λ (found : Option MstrCall). elim found [ None ↦ id | Some made ↦ made.id ] in
      sym (ap got is)

-- The blocks run no call of this name.
abbrev RunOthers : CallId → List BlockState → Type 0
RunOthers id blocks = (place : ℕ) (running : Running)
    → running_in (get_or blocks place Idle) ≡ Some running → is_same_call running.id id ≡ false

first-other : (id : CallId) (block : BlockState) (behind : List MstrCall)
    (found : Option MstrCall) → untaken block ≡ found
    → ((running : Running) → running_in block ≡ Some running → is_same_call running.id id ≡ false)
    → HaveOtherNames id (map call_of behind)
    → HaveOtherNames id (map call_of (cons_option found behind))
first-other id block behind None is run rest = rest
first-other id block behind (Some call) is run rest =
    let runs = runs-untaken (running_in block) call is in
    (ap (λ (name : CallId). is_same_call name id) runs.name ∙ run runs.running runs.is, rest)

others : (id : CallId) (blocks : List BlockState) → RunOthers id blocks
    → HaveOtherNames id (map call_of (filter_map untaken blocks))
others id [] run = tt
others id (block ∷ blocks) run =
    first-other id block (filter_map untaken blocks) (untaken block) refl (run 0)
    (others id blocks (λ place running there. run (suc place) running there))

-- No two blocks run calls of one name.
abbrev RunApart : List BlockState → Type 0
RunApart blocks = (one other : ℕ) (first second : Running) → one ≢ other
    → running_in (get_or blocks one Idle) ≡ Some first
    → running_in (get_or blocks other Idle) ≡ Some second
    → is_same_call second.id first.id ≡ false

first-named : (block : BlockState) (blocks : List BlockState) (found : Option MstrCall)
    → untaken block ≡ found
    → ((place : ℕ) (first second : Running) → 0 ≢ suc place → running_in block ≡ Some first
    → running_in (get_or blocks place Idle) ≡ Some second
    → is_same_call second.id first.id ≡ false)
    → HaveNames (map call_of (filter_map untaken blocks))
    → HaveNames (map call_of (cons_option found (filter_map untaken blocks)))
first-named block blocks None is apart rest = rest
first-named block blocks (Some call) is apart rest =
    let runs = runs-untaken (running_in block) call is in (
      others call.id blocks (λ place running there.
          ap (λ (name : CallId). is_same_call running.id name) runs.name
          ∙ apart place runs.running running (λ same. absurd (omega arith)) runs.is there),
      rest,
    )

names : (blocks : List BlockState) → RunApart blocks
    → HaveNames (map call_of (filter_map untaken blocks))
names [] apart = tt
names (block ∷ blocks) apart =
    first-named block blocks (untaken block) refl (λ place. apart 0 (suc place))
    (names blocks (λ one other first second ne.
    apart (suc one) (suc other) first second (λ same. ne (omega (arith, same)))))

run-apart : (table : BlockTable) → IsTable table → RunApart table.blocks
run-apart table is one other first second ne here there =
    false_from_ne_true (is_same_call second.id first.id) (λ same.
    let parts = and_parts (second.id.node == first.id.node) _ same in
    let more = and_parts (second.id.path == first.id.path) _ parts.1 in
    let path = eqb-true second.id.path first.id.path more.0 in
    let seq = eqb-true second.id.seq first.id.seq more.1 in
    (is.apart one other first second ne here there (sym path)).1 (sym seq))

pub calls-have-names : TableLaws → (v : ControllerIs) → HaveNames (uncollected v)
calls-have-names laws v =
    names (table_of (state_of v)).blocks (run-apart (table_of (state_of v)) (table-is laws v))

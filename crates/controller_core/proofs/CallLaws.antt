-- What stays true of calls.
use Rattle.std.proofs.Common.{◌≡◌, ℕ, ◌||◌, Bool, true, false, List, [], ◌∷◌, map, Option}
use Rattle.std.proofs.Common.{Some, None, refl, ap, ◌∙◌}
use Rattle.std.specs.Prelude.{fold, if◌then◌else◌}
use Rattle.std.specs.List.{list_any}
use Rattle.plant_types.specs.declared.drops.IoDrop.{IoDrop}
use Rattle.plant_types.specs.declared.network.Segment.{Segment}
use Rattle.plant_types.specs.declared.plan.OrderRow.{OrderRow}
use Rattle.ladder_solver.specs.Laws.{SegmentsKeepCalls}
use Rattle.mstr_block.specs.Call.{is_same_call}
use Rattle.mstr_block.specs.Laws.{CallsAreTakenInOrder, FinishesEndOneCall}
use Rattle.mstr_block.specs.Laws.{PowerFailuresKeepCalls}
use Rattle.mstr_block.specs.declared.state.BlockState.{BlockState}
use Rattle.mstr_block.specs.declared.state.BlockState.TheVariants.{Idle, Waiting, Active, Aborted}
use Rattle.mstr_block.specs.declared.state.BlockState.TheVariants.{Ready}
use Rattle.mstr_block.specs.Table.{BlockTable, call_taken, is_untaken, has_untaken}
use Rattle.mstr_block.specs.Table.{is_taken_out, started_calls}
use Rattle.mstr_block.specs.declared.call.CallId.{CallId}
use Rattle.mstr_block.specs.declared.call.MstrCall.{MstrCall}
use Rattle.scan_order.specs.declared.due.ScanStep.{ScanStep}
use Rattle.scan_order.specs.Due.{row_of}
use Rattle.controller_core.specs.declared.entry.Entry.{Entry}
use Rattle.controller_core.specs.declared.entry.Entry.TheVariants as entries
use Rattle.controller_core.specs.declared.entry.Maker.TheVariants as makers
use Rattle.controller_core.specs.declared.fixed.Fixed.{Fixed}
use Rattle.controller_core.specs.Calls.{call_of, calls_of}
use Rattle.controller_core.specs.Controller.{AreOf, ControllerIs, due_step, grown, has_ended, made}
use Rattle.controller_core.specs.Controller.{reply_to, state_of}
use Rattle.controller_core.specs.Event.{entry_of, maker_of, peer_entry}
use Rattle.controller_core.specs.Laws.{CallsFollow, ConditionsStay, KeepsCallsOf, is_call_among}
use Rattle.controller_core.specs.Replay.{ControllerState, apply, control_is_on, read_in}
use Rattle.controller_core.specs.Replay.{segment_solved}
use Rattle.controller_core.specs.Replay.{solved, start, table_of}
use Rattle.controller_core.proofs.Keeping.{maker_of_made, replay_more}
use Rattle.controller_core.proofs.NextEntry.{replay_append, stays}

-- ---- in tables

record Keeps (t u : BlockTable) : Type 0 where
  started : has_untaken t ≡ true → has_untaken u ≡ true
  out : (id : CallId) → is_taken_out t id ≡ true → is_taken_out u id ≡ true

keeps_same : (t u : BlockTable) → u ≡ t → Keeps t u
keeps_same t u is = record {
  started = λ yes. ap has_untaken is ∙ yes;
  out = λ id yes. ap (λ (x : BlockTable). is_taken_out x id) is ∙ yes;
}

keeps_read : (drops : List IoDrop) (drop : Option ℕ) (s : ControllerState)
    → table_of (read_in drops drop s) ≡ table_of s
keeps_read drops None s = refl
keeps_read drops (Some drop) s = refl

keeps_segment : SegmentsKeepCalls → (segments : List Segment) (number : ℕ) (s : ControllerState)
    → Keeps (table_of s) (table_of (segment_solved segments number s))
keeps_segment law segments number s =
    let calls = law.calls segments number s.solving in
    record { started = calls.started; out = calls.out }

keeps_solve : SegmentsKeepCalls → (segments : List Segment) (row : Option OrderRow)
    (s : ControllerState) → Keeps (table_of s) (table_of (solved segments row s))
keeps_solve law segments None s = keeps_same (table_of s) (table_of s) refl
keeps_solve law segments (Some row) s = either (control_is_on s.solving.map row.control)
  where
    either : (b : Bool)
        → Keeps (table_of s) (table_of (if b then segment_solved segments row.segment s else s))
    either true = keeps_segment law segments row.segment s
    either false = keeps_same (table_of s) (table_of s) refl

-- what solves and power failures keep
record CallsAreKept : Type 0 where
  solves : SegmentsKeepCalls
  failures : PowerFailuresKeepCalls

keeps_failure : CallsAreKept → (f : Fixed) (s : ControllerState)
    → Keeps (table_of s) (table_of (apply f s entries.Fail))
keeps_failure laws f s =
    let calls = laws.failures.keeps (table_of s) in
    record { started = calls.started; out = calls.out }

keeps_entry : CallsAreKept → (f : Fixed) (s : ControllerState) (e : Entry)
    → maker_of e ≡ makers.Scan → Keeps (table_of s) (table_of (apply f s e))
keeps_entry laws f s entries.Begin of = keeps_same _ _ refl
keeps_entry laws f s (entries.Input row) of =
    keeps_same (table_of s) _ (keeps_read f.plan.drops _ s)
keeps_entry laws f s (entries.Solve row) of =
    keeps_solve laws.solves f.plan.segments (row_of f.plan row) s
keeps_entry laws f s (entries.Output row words) of = keeps_same _ _ refl
keeps_entry laws f s entries.End of = keeps_same _ _ refl
keeps_entry laws f s entries.Fail of = keeps_failure laws f s
keeps_entry laws f s entries.Dark of = keeps_same _ _ refl
keeps_entry laws f s (entries.Collect calls) of = absurd cc
keeps_entry laws f s (entries.Peer id request reply) of = absurd cc
keeps_entry laws f s (entries.Off id request) of = absurd cc
keeps_entry laws f s (entries.Finish id result) of = absurd cc

keeps_entries : CallsAreKept → (f : Fixed) (s : ControllerState) (added : List Entry)
    → AreOf makers.Scan added
    → Keeps (table_of s) (table_of (fold (apply f) s added))
keeps_entries laws f s [] of = keeps_same (table_of s) (table_of s) refl
keeps_entries laws f s (e ∷ added) of =
    let one = keeps_entry laws f s e of.0 in
    let rest = keeps_entries laws f (apply f s e) added of.1 in
    record {
      started = λ yes. rest.started (one.started yes);
      out = λ id yes. rest.out id (one.out id yes);
    }

-- ---- in controllers

keeps_of : (v w : ControllerIs) (t : BlockTable) → table_of (state_of w) ≡ t
    → Keeps (table_of (state_of v)) t → KeepsCallsOf v w
keeps_of v w t is keeps = record {
  started = λ yes. ap has_untaken is ∙ keeps.started yes;
  out = λ id yes. ap (λ (x : BlockTable). is_taken_out x id) is ∙ keeps.out id yes;
}

keeps_scans : CallsAreKept → (v : ControllerIs) (added : List Entry) (reserved : Bool)
    → AreOf makers.Scan added
    → KeepsCallsOf v (grown v added reserved)
keeps_scans laws v added reserved of =
    keeps_of v (grown v added reserved) (table_of (fold (apply v.fixed) (state_of v) added))
    (ap table_of (replay_append v.fixed (start v.fixed.plan) v.history added))
    (keeps_entries laws v.fixed (state_of v) added of)

keeps_made : CallsAreKept → (v : ControllerIs) (due : Option ScanStep)
    → KeepsCallsOf v (made v due)
keeps_made laws v None = keeps_of v v (table_of (state_of v)) refl (keeps_same _ _ refl)
keeps_made laws v (Some step) =
    keeps_scans laws v (entry_of v.fixed (state_of v) step ∷ []) (made v (Some step)).reserved
    (maker_of_made v.fixed (state_of v) step, tt)

-- the table with one more entry
more : (v : ControllerIs) (e : Entry) (reserved : Bool)
    → state_of (grown v (e ∷ []) reserved) ≡ apply v.fixed (state_of v) e
more v e reserved = replay_more v.fixed (start v.fixed.plan) v.history e

-- a request leaves the blocks as they are, whether it has a reply or none
keeps_peer : (v : ControllerIs) (id : CallId) (request : List ℕ) (reply : Option (List ℕ))
    → KeepsCallsOf v (grown v (peer_entry id request reply ∷ []) v.reserved)
keeps_peer v id request (Some reply) =
    keeps_of v _ (table_of (state_of v)) (ap table_of (more v _ v.reserved)) (keeps_same _ _ refl)
keeps_peer v id request None =
    keeps_of v _ (table_of (state_of v)) (ap table_of (more v _ v.reserved)) (keeps_same _ _ refl)

conditions_by : CallsAreKept → ConditionsStay
conditions_by laws = record {
  steps = λ v. keeps_made laws v (due_step v);
  ended = λ v ended. ap has_ended (stays v ended) ∙ ended;
  scans = keeps_scans laws;
  peers = λ v id request. keeps_peer v id request (reply_to v request);
}

pub conditions : SegmentsKeepCalls → PowerFailuresKeepCalls → ConditionsStay
conditions solves failures = conditions_by (record { solves = solves; failures = failures })

one_taken : (b : BlockState) → is_untaken (call_taken b) ≡ false
one_taken Idle = refl
one_taken Waiting = refl
one_taken (Active running) = refl
one_taken (Aborted running) = refl
one_taken (Ready kept result) = refl

all_taken : (blocks : List BlockState) → list_any is_untaken (map call_taken blocks) ≡ false
all_taken [] = refl
all_taken (b ∷ blocks) = ap (λ x. x || list_any is_untaken (map call_taken blocks)) (one_taken b)
    ∙ all_taken blocks

among : (id : CallId) (calls : List MstrCall)
    → list_any (λ call. is_same_call call.id id) calls ≡ is_call_among id (map call_of calls)
among id [] = refl
among id (call ∷ calls) = ap (λ b. is_same_call call.id id || b) (among id calls)

pub calls : CallsAreTakenInOrder → FinishesEndOneCall → CallsFollow
calls order finish = record {
  collects = λ v.
      let t = table_of (state_of v) in
      let after = ap table_of (more v (entries.Collect (calls_of t)) v.reserved) in
      record {
        started = ap has_untaken after ∙ all_taken t.blocks;
        out = λ id. ap (λ (x : BlockTable). is_taken_out x id) after ∙ (order t).out id
            ∙ ap (λ b. is_taken_out t id || b) (among id (started_calls t));
      };
  finishes = λ v id result.
      let t = table_of (state_of v) in
      let after = ap table_of (more v (entries.Finish id result) v.reserved) in
      let ends = finish t id result in
      record {
        started = ap has_untaken after ∙ ends.started;
        gone = ap (λ (x : BlockTable). is_taken_out x id) after ∙ ends.gone;
        out = λ other apart. ap (λ (x : BlockTable). is_taken_out x other) after
            ∙ ends.out other apart;
      };
}

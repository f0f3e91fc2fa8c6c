-- What a finish does to the calls of a table.
use Rattle.std.proofs.Common.{◌≡◌, Bool, true, false, Option, Some, None, refl, sym, ap, ◌∙◌}
use Rattle.std.specs.Prelude.{if◌then◌else◌, ◌&&◌, ◌==◌}
use Rattle.std.specs.Option.{is_none}
use Rattle.std.proofs.lemmas.Bool.{false≢true, and_parts, eqb-true}
use Rattle.mstr_block.specs.declared.call.CallId.{CallId}
use Rattle.mstr_block.specs.declared.call.MstrAsk.{MstrAsk}
use Rattle.mstr_block.specs.declared.call.MstrResult.{MstrResult}
use Rattle.mstr_block.specs.declared.state.Kept.{Kept}
use Rattle.mstr_block.specs.declared.state.BlockState.{BlockState}
use Rattle.mstr_block.specs.declared.state.BlockState.TheVariants.{Idle, Waiting, Active, Aborted}
use Rattle.mstr_block.specs.declared.state.BlockState.TheVariants.{Ready}
use Rattle.mstr_block.specs.Call.{is_same_call}
use Rattle.mstr_block.specs.Table.{is_untaken, is_awaited, call_ended, with_result}
use Rattle.mstr_block.specs.Laws.{FinishesEndOneCall}
use Rattle.mstr_block.proofs.Keeping.{any-map, none-map}

-- names that are the same are equal
same-equal : (a b : CallId) → is_same_call a b ≡ true → a ≡ b
same-equal a b h =
    let outer = and_parts (a.node == b.node) ((a.path == b.path) && (a.seq == b.seq)) h in
    let inner = and_parts (a.path == b.path) (a.seq == b.seq) outer.1 in
    let node = eqb-true a.node b.node outer.0 in
    let path = eqb-true a.path b.path inner.0 in
    let seq = eqb-true a.seq b.seq inner.1 in
    λ i. record { node = node i; path = path i; seq = seq i }

-- a call that was taken is no untaken one, before its end and after
at_running : (id : CallId) (name : CallId) (ask : Option MstrAsk) (kept : Kept)
    (result : MstrResult) (b : Bool) → (is_none ask && is_same_call name id) ≡ b
    → is_untaken (if b then Ready kept result
    else Active (record { id = name; ask = ask; kept = kept }))
    ≡ is_untaken (Active (record { id = name; ask = ask; kept = kept }))
at_running id name (Some ask) kept result true e = absurd (false≢true e)
at_running id name (Some ask) kept result false e = refl
at_running id name None kept result true e = refl
at_running id name None kept result false e = refl

at_aborted : (id : CallId) (name : CallId) (ask : Option MstrAsk) (kept : Kept) (b : Bool)
    → (is_none ask && is_same_call name id) ≡ b
    → is_untaken (if b then Idle else Aborted (record { id = name; ask = ask; kept = kept }))
    ≡ is_untaken (Aborted (record { id = name; ask = ask; kept = kept }))
at_aborted id name (Some ask) kept true e = absurd (false≢true e)
at_aborted id name (Some ask) kept false e = refl
at_aborted id name None kept true e = refl
at_aborted id name None kept false e = refl

untaken-same : (id : CallId) (result : MstrResult) (s : BlockState)
    → is_untaken (with_result id result s) ≡ is_untaken s
untaken-same id result Idle = refl
untaken-same id result Waiting = refl
untaken-same id result (Active r) =
    at_running id r.id r.ask r.kept result (is_none r.ask && is_same_call r.id id) refl
untaken-same id result (Aborted r) =
    at_aborted id r.id r.ask r.kept (is_none r.ask && is_same_call r.id id) refl
untaken-same id result (Ready kept outcome) = refl

-- no block awaits a call that has ended
ended-idle : (id : CallId) (result : MstrResult) (s : BlockState)
    → is_awaited id (call_ended result s) ≡ false
ended-idle id result Idle = refl
ended-idle id result Waiting = refl
ended-idle id result (Active r) = refl
ended-idle id result (Aborted r) = refl
ended-idle id result (Ready kept outcome) = refl

gone-at : (id : CallId) (result : MstrResult) (s : BlockState) (b : Bool) → is_awaited id s ≡ b
    → is_awaited id (if b then call_ended result s else s) ≡ false
gone-at id result s true e = ended-idle id result s
gone-at id result s false e = e

-- a block awaits one call at most
one_name : (id other name : CallId) (call_taken : Bool) → is_same_call other id ≡ false
    → (call_taken && is_same_call name id) ≡ true → (call_taken && is_same_call name other) ≡ false
one_name id other name false apart awaits = refl
one_name id other name true apart awaits =
    elim (is_same_call name other) as (λ b. is_same_call name other ≡ b → b ≡ false) [
      | true ↦ λ e. absurd (false≢true (sym apart
          ∙ ap (λ o. is_same_call o id) (sym (same-equal name other e)) ∙ awaits))
      | false ↦ λ e. refl
    ] refl

one_call : (id other : CallId) (s : BlockState) → is_same_call other id ≡ false
    → is_awaited id s ≡ true → is_awaited other s ≡ false
one_call id other Idle apart awaits = refl
one_call id other Waiting apart awaits = refl
one_call id other (Active r) apart awaits = one_name id other r.id (is_none r.ask) apart awaits
one_call id other (Aborted r) apart awaits = one_name id other r.id (is_none r.ask) apart awaits
one_call id other (Ready kept outcome) apart awaits = refl

other-at : (id other : CallId) (result : MstrResult) (s : BlockState) (b : Bool)
    → is_same_call other id ≡ false → is_awaited id s ≡ b
    → is_awaited other (if b then call_ended result s else s) ≡ is_awaited other s
other-at id other result s true apart e =
    ended-idle other result s ∙ sym (one_call id other s apart e)
other-at id other result s false apart e = refl

pub finishes-end_one_call : FinishesEndOneCall
finishes-end_one_call table id result = record {
  started = any-map is_untaken (with_result id result) (untaken-same id result) table.blocks;
  gone = none-map (is_awaited id) (with_result id result)
      (λ s. gone-at id result s (is_awaited id s) refl) table.blocks;
  out = λ other apart. any-map (is_awaited other) (with_result id result)
      (λ s. other-at id other result s (is_awaited id s) apart refl) table.blocks;
}

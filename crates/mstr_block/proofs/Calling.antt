-- The started calls of a table are calls of its station.
use Rattle.std.proofs.Common.{◌≡◌, ℕ, zero, suc, Bool, true, false, Option, Some, None, List, []}
use Rattle.std.proofs.Common.{◌∷◌, get_or, refl, sym, ap, ◌∙◌}
use Rattle.std.specs.Prelude.{option_map, IfSome, if◌then◌else◌}
use Rattle.std.specs.List.{filter_map, cons_option, slice_get}
use Rattle.mstr_block.specs.declared.call.CallId.{CallId}
use Rattle.mstr_block.specs.declared.call.MstrAsk.{MstrAsk}
use Rattle.mstr_block.specs.declared.call.MstrCall.{MstrCall}
use Rattle.mstr_block.specs.declared.call.MstrAsk.TheVariants.{Write, Read, LocalStats, ClearLocal}
use Rattle.mstr_block.specs.declared.call.MstrAsk.TheVariants.{PutGlobal, GetGlobal, RemoteStats}
use Rattle.mstr_block.specs.declared.call.MstrAsk.TheVariants.{ClearRemote}
use Rattle.mstr_block.specs.declared.state.Kept.{Kept}
use Rattle.mstr_block.specs.declared.state.BlockState.{BlockState}
use Rattle.mstr_block.specs.Operations.{uses_network}
use Rattle.mstr_block.specs.declared.state.BlockState.TheVariants.{Idle, Waiting, Active, Aborted}
use Rattle.mstr_block.specs.declared.state.BlockState.TheVariants.{Ready}
use Rattle.mstr_block.specs.Table.{BlockTable, untaken, started_calls}
use Rattle.mstr_block.specs.Running.{asks_network, AsksFor, IsCall, IsRunning, IsStateOf, IsTable}
use Rattle.mstr_block.proofs.Names.{nothing, the_same}

network_of : (kept : Kept) (ask : MstrAsk) → AsksFor kept ask
    → asks_network ask ≡ uses_network kept.operation
network_of kept (Write to start words) e = sym (ap uses_network e.0)
network_of kept (Read to start count) e = sym (ap uses_network e.0)
network_of kept LocalStats e = sym (ap uses_network e)
network_of kept ClearLocal e = sym (ap uses_network e)
network_of kept (PutGlobal words) e = sym (ap uses_network e.0)
network_of kept (GetGlobal node count) e = sym (ap uses_network e.0)
network_of kept (RemoteStats to) e = sym (ap uses_network e)
network_of kept (ClearRemote to) e = sym (ap uses_network e)

call_at : (routed : Bool) (own : ℕ) (numbers : List ℕ) (id : CallId) (kept : Kept)
    (o : Option MstrAsk) (call : MstrCall) → IsRunning routed own numbers
    (record { id = id; ask = o; kept = kept })
    → option_map (λ ask. record { id = id; ask = ask }) o ≡ Some call → IsCall routed own call
call_at routed own numbers id kept None call is e = absurd (nothing call e)
call_at routed own numbers id kept (Some ask) call is e =
    the_same (IsCall routed own) (record { id = id; ask = ask }) call (record {
      node = is.named.node;
      path = is.named.path;
      network = network_of kept ask (is.ask ask refl).1 ∙ is.network;
      first = is.named.first;
      ask = (is.ask ask refl).0;
    }) e

call_of_state : (routed : Bool) (own : ℕ) (numbers : List ℕ) (s : BlockState) (call : MstrCall)
    → IsStateOf routed own numbers s → untaken s ≡ Some call → IsCall routed own call
call_of_state routed own numbers Idle call is e = absurd (nothing call e)
call_of_state routed own numbers Waiting call is e = absurd (nothing call e)
call_of_state routed own numbers (Active r) call is e =
    call_at routed own numbers r.id r.kept r.ask call is e
call_of_state routed own numbers (Aborted r) call is e =
    call_at routed own numbers r.id r.kept r.ask call is e
call_of_state routed own numbers (Ready kept result) call is e = absurd (nothing call e)

call_in : (routed : Bool) (own : ℕ) (first : Option MstrCall) (calls : List MstrCall) (k : ℕ)
    (call : MstrCall)
    → ((c : MstrCall) → first ≡ Some c → IsCall routed own c)
    → ((n : ℕ) → slice_get calls n ≡ Some call → IsCall routed own call)
    → slice_get (cons_option first calls) k ≡ Some call → IsCall routed own call
call_in routed own None calls k call here there e = there k e
call_in routed own (Some c) calls zero call here there e =
    the_same (IsCall routed own) c call (here c refl) e
call_in routed own (Some c) calls (suc k) call here there e = there k e

calls_in : (routed : Bool) (own : ℕ) (numbers : List ℕ) (xs : List BlockState)
    → ((place : ℕ) → IsStateOf routed own numbers (get_or xs place Idle))
    → (k : ℕ) (call : MstrCall) → slice_get (filter_map untaken xs) k ≡ Some call
    → IsCall routed own call
calls_in routed own numbers [] states k call e = absurd (nothing call e)
calls_in routed own numbers (x ∷ xs) states k call e =
    call_in routed own (untaken x) (filter_map untaken xs) k call
    (λ c h. call_of_state routed own numbers x c (states 0) h)
    (λ n h. calls_in routed own numbers xs (λ place. states (suc place)) n call h) e

-- a started call of a table is one that its station may make
pub calls-first : (table : BlockTable) → IsTable table → (k : ℕ) (o : Option MstrCall)
    → o ≡ slice_get (started_calls table) k → IfSome o (IsCall table.routed table.node)
calls-first table t k None e = tt
calls-first table t k (Some call) e =
    calls_in table.routed table.node table.numbers table.blocks t.states k call (sym e)

pub calls-kth : (table : BlockTable) → IsTable table → (k : ℕ) (zeroth : Bool) (o : Option MstrCall)
    → o ≡ (if zeroth then None else slice_get (started_calls table) k)
    → IfSome o (IsCall table.routed table.node)
calls-kth table t k true None e = tt
calls-kth table t k true (Some call) e = absurd (nothing call (sym e))
calls-kth table t k false o e = calls-first table t k o e

-- The words that the port tells.
use Rattle.std.proofs.Common.{◌≡◌, ℕ, List, length, Some, None}
use Rattle.std.proofs.Common.{ap, inl, inr, ◌⊎◌}
use Rattle.plant_types.specs.declared.net.NetPlan.{NetPlan}
use Rattle.mstr_block.specs.declared.call.MstrResult.{MstrResult}
use Rattle.ring_core.specs.declared.entry.LocalOp.{LocalOp}
use Rattle.ring_core.specs.declared.entry.LocalOp.TheVariants.{GetStats, ClearStats, PutGlobal}
use Rattle.ring_core.specs.declared.entry.LocalOp.TheVariants.{GetGlobal, RemoteGet, RemoteClear}
use Rattle.ring_core.specs.declared.entry.RingEntry.{RingEntry}
use Rattle.ring_core.specs.Scratch.{local_result}
use Rattle.tied_lists.specs.Items.{request_of, words_told}

-- an operation for another node gives twenty words, or none
pub told-range : (net : NetPlan) (past : List RingEntry) (n : ℕ) (op : LocalOp)
    (result : MstrResult) (request : List ℕ) →
    request_of op ≡ Some request → result ≡ local_result net past n op
    → (length (words_told result) ≡ 0) ⊎ (length (words_told result) ≡ 20)
told-range net past n GetStats result request is r = absurd
    (let no' : None ≡ Some request = is in cc)
told-range net past n ClearStats result request is r = absurd
    (let no' : None ≡ Some request = is in cc)
told-range net past n (PutGlobal words) result request is r = absurd
    (let no' : None ≡ Some request = is in cc)
told-range net past n (GetGlobal node size) result request is r = absurd
    (let no' : None ≡ Some request = is in cc)
told-range net past n RemoteGet result request is r = inr
    (ap (λ (x : MstrResult). length (words_told x)) r)
told-range net past n RemoteClear result request is r = inl
    (ap (λ (x : MstrResult). length (words_told x)) r)

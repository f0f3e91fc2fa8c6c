-- Calls that are collected, and made one after another.
use Rattle.std.proofs.Common.{◌≡◌, ℕ, zero, suc, ◌+◌, ◌<◌, ◌≤◌, Bool, true, false, List, [], ◌∷◌}
use Rattle.std.proofs.Common.{◌++◌, take, length, get_or}
use Rattle.std.proofs.Common.{refl, sym, ap, ◌∙◌, subst, arith, add-one}
use Rattle.std.proofs.lemmas.List.{take_all}
use Rattle.mstr_block.specs.declared.call.MstrResult.{MstrResult}
use Rattle.controller_core.specs.declared.fixed.Fixed.{Fixed}
use Rattle.controller_core.specs.declared.call.Call.{Call}
use Rattle.controller_core.specs.declared.call.CallKind.{CallKind}
use Rattle.controller_core.specs.declared.call.CallKind.TheVariants as kinds
use Rattle.controller_core.specs.declared.entry.Entry.{Entry}
use Rattle.controller_core.specs.declared.entry.Entry.TheVariants.{Collect, Finish}
use Rattle.ring_core.specs.declared.entry.LocalOp.{LocalOp}
use Rattle.ring_core.specs.Words.{request_along}
use Rattle.ring_core.specs.declared.entry.RingEntry.{RingEntry}
use Rattle.ring_core.specs.declared.entry.RingEntry.TheVariants.{Post, Local}
use Rattle.tied_lists.specs.Own.{is_of, WentOn}
use Rattle.tied_lists.proofs.Growth.{grew-one}
use Rattle.comm_port.specs.HoldTurn.{MadeAs, IsMade, CollectsIf, Collects}
use Rattle.comm_port.specs.Calling.{IsDueAt}
use Rattle.comm_port.specs.Parts.{InOrder, PartOf}
use Rattle.joint_history.specs.Reading.{is_ours, has_started_at}
use Rattle.comm_port.proofs.Parts.{grew-none, in-order-last, part-both, part-none}

pub made-net : (n : ℕ) (c : Call) (route pdu : List ℕ) → c.kind ≡ kinds.Net route pdu
    → IsMade n c [] (Post n (request_along c.id route pdu) ∷ [])
made-net n c route pdu is = subst (λ (k : CallKind). MadeAs k n c.id []
    (Post n (request_along c.id route pdu) ∷ [])) (sym is) (refl, refl)

pub made-local : (n : ℕ) (c : Call) (op : LocalOp) (r : MstrResult) → c.kind ≡ kinds.Local op
    → IsMade n c (Finish c.id r ∷ []) (Local n c.id op r ∷ [])
made-local n c op r is = subst (λ (k : CallKind). MadeAs k n c.id (Finish c.id r ∷ [])
    (Local n c.id op r ∷ [])) (sym is) (r, refl, refl)

-- the calls up to a place
take-suc : (calls : List Call) (at : ℕ) (c : Call) → at < length calls → c ≡ get_or calls at c
    → take (suc at) calls ≡ take at calls ++ c ∷ []
take-suc [] at c low is = absurd (omega (arith, low))
take-suc (x ∷ xs) zero c low is = ap (λ (y : Call). y ∷ []) (sym is)
take-suc (x ∷ xs) (suc at) c low is = ap (λ (l : List Call). x ∷ l)
    (take-suc xs at c (omega (arith, low)) is)

pub due-next : (Due : Call → List Entry → List RingEntry → Type 0) (alone alone' : Bool) (n : ℕ)
    (calls : List Call) (at : ℕ)
    (known0 known known' : List Entry) (ring0 ring ring' : List RingEntry) → at < length calls
    → PartOf alone alone' is_ours n (InOrder Due (take at calls)) known0 known ring0 ring
    → PartOf alone alone' is_ours n (IsDueAt Due calls at) known known' ring ring'
    → PartOf alone alone' is_ours n (InOrder Due (take (at + 1) calls)) known0 known' ring0 ring'
due-next Due alone alone' n calls at known0 known known' ring0 ring ring' low a b =
    part-both alone alone' is_ours n (InOrder Due (take at calls)) (IsDueAt Due calls at)
    (InOrder Due (take (at + 1) calls)) known0 known known' ring0 ring ring'
    (λ noted noted' done done' x y.
    let is : take (at + 1) calls ≡ take at calls ++ y.0 ∷ [] = ap (λ k. take k calls) (add-one at)
    ∙ take-suc calls at y.0 low y.1 in
    subst (λ (l : List Call). InOrder Due l (noted ++ noted') (done ++ done')) (sym is)
    (in-order-last Due (take at calls) y.0 noted noted' done done' x y.2)) a b

-- nothing was started
pub collects-none : (Due : Call → List Entry → List RingEntry → Type 0) (alone alone' : Bool)
    (fixed : Fixed) (n : ℕ) (known asked :
    List Entry) (ring : List RingEntry) → WentOn alone is_ours known [] asked
    → has_started_at fixed asked ≡ false
    → Collects alone alone' fixed n Due known asked ring ring
collects-none Due alone alone' fixed n known asked ring went no' = record {
  asked = asked;
  asks = went;
  goes = part-none alone alone' is_ours n (CollectsIf (has_started_at fixed asked) Due) asked ring
      (subst (λ (b : Bool). CollectsIf b Due [] []) (sym no') (refl, refl));
}

-- what was started was collected, and to all of it was done what is due
pub collects-all : (Due : Call → List Entry → List RingEntry → Type 0) (alone alone' : Bool)
    (fixed : Fixed) (n : ℕ) (calls slice : List
    Call) (at : ℕ) (known asked known1 known' : List Entry) (ring ring' : List RingEntry)
    → WentOn alone is_ours known [] asked
    → has_started_at fixed asked ≡ true → WentOn alone is_ours asked (Collect calls ∷ []) known1
    → slice ≡ calls → length slice ≤ at
    → PartOf alone alone' is_ours n (InOrder Due (take at slice)) known1 known' ring ring'
    → Collects alone alone' fixed n Due known known' ring ring'
collects-all Due alone alone' fixed n calls slice at known asked known1 known' ring ring' went
    started collected is all p = record {
      asked = asked;
      asks = went;
      goes = part-both alone alone' is_ours n
          (λ noted done. (noted ≡ Collect calls ∷ []) × (done ≡ []))
          (InOrder Due (take at slice))
          (CollectsIf (has_started_at fixed asked) Due) asked known1 known' ring ring ring'
          (λ noted noted' done done' x y. subst
          (λ (b : Bool). CollectsIf b Due (noted ++ noted') (done ++ done')) (sym started) (
            calls,
            noted',
            ap (λ (l : List Entry). l ++ noted') x.0,
            subst (λ (l : List Call). InOrder Due l noted' (done ++ done'))
                (take_all at slice all ∙ is)
                (subst (λ (l : List RingEntry). InOrder Due (take at slice) noted' (l ++ done'))
                (sym x.1) y),
          ))
          (record {
            noted = Collect calls ∷ [];
            done = [];
            due = (refl, refl);
            station = grew-one alone is_ours asked (Collect calls ∷ []) known1 refl collected;
            node = grew-none alone' (is_of n) ring;
          }) p;
    }

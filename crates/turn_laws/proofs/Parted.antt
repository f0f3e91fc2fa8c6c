-- A node that leaves because its Passes are spent, or as all is done, is gone for good.
use Rattle.std.proofs.Common.{◌≡◌, ℕ, zero, suc, ◌==◌, Bool, true, false, cond, List, [], ◌∷◌, ◌++◌}
use Rattle.std.proofs.Common.{set, Some, None, refl, sym, ap, ◌∙◌, append_assoc}
use Rattle.plant_types.specs.declared.net.NetPlan.{NetPlan}
use Rattle.ring_core.specs.declared.entry.LeaveCause.{LeaveCause}
use Rattle.ring_core.specs.declared.entry.LeaveCause.TheVariants.{Ended, Spent, Down}
use Rattle.ring_core.specs.declared.entry.RingEntry.{RingEntry}
use Rattle.ring_core.specs.declared.entry.RingEntry.TheVariants.{Leave}
use Rattle.ring_core.specs.declared.status.NodeStatus.TheVariants.{Asking, Gone}
use Rattle.ring_core.specs.Words.{maker}
use Rattle.ring_core.specs.Machine.{NodeIs, RingIs, admitted_status, gone_by, part_of, ring_after}
use Rattle.ring_core.specs.Machine.{ring_node}
use Rattle.ring_core.proofs.Stability.{admitted-part}
use Rattle.tied_lists.specs.Items.{down_in}
use Rattle.tied_lists.specs.Own.{own}
use Rattle.tied_lists.specs.Waits.{status_at}
use Rattle.tied_lists.proofs.Turns.{membership-kept, next-ring}
use Rattle.turn_laws.proofs.Passes.{cons-head, cons-tail, nil-cons}

left-status : (why : LeaveCause) (c : NodeIs) → down_in why ≡ None → (gone_by why c).status ≡ Gone
left-status Ended c quiet = refl
left-status Spent c quiet = refl
left-status (Down number) c quiet = absurd (let no' : Some number ≡ None = quiet in cc)

put-here : (nodes : List NodeIs) (n : ℕ) (c : NodeIs) → c.status ≡ Gone
    → (part_of (set nodes n c) n).status ≡ Gone
put-here [] n c is = refl
put-here (d ∷ ds) zero c is = is
put-here (d ∷ ds) (suc n) c is = put-here ds n c is

gone-now : (net : NetPlan) (n : ℕ) (why : LeaveCause) (past : List RingEntry) → down_in why ≡ None
    → status_at net (past ++ Leave n why ∷ []) n ≡ Gone
gone-now net n why past quiet =
    let c = gone_by why (ring_node (ring_after net past) n) in
    let nodes = set (ring_after net past).nodes n c in
    ap (λ (r : RingIs). (ring_node r n).status) (next-ring net past (Leave n why))
    ∙ (ap (λ (x : NodeIs). x.status) (admitted-part nodes n)
    ∙ ap admitted_status (put-here (ring_after net past).nodes n c (left-status why _ quiet)))

-- whatever other nodes add around its Leave
pub gone-for-good : (net : NetPlan) (n : ℕ) (why : LeaveCause) (past more : List RingEntry)
    → down_in why ≡ None → own n more ≡ Leave n why ∷ [] → status_at net (past ++ more) n ≡ Gone
gone-for-good net n why past [] quiet is = nil-cons is
gone-for-good net n why past (e ∷ es) quiet is =
    at (maker e == n) (gone-for-good net n why (past ++ e ∷ []) es quiet) is
  where
    joined : status_at net (past ++ e ∷ es) n ≡ status_at net ((past ++ e ∷ []) ++ es) n
    joined = ap (λ (l : List RingEntry). status_at net l n) (sym (append_assoc past (e ∷ []) es))

    at : (b : Bool)
        → (own n es ≡ Leave n why ∷ [] → status_at net ((past ++ e ∷ []) ++ es) n ≡ Gone)
        → cond b (e ∷ own n es) (own n es) ≡ Leave n why ∷ []
        → status_at net (past ++ e ∷ es) n ≡ Gone
    at true rest now =
        let gone : status_at net (past ++ e ∷ []) n ≡ Gone =
        ap (λ (x : RingEntry). status_at net (past ++ x ∷ []) n) (cons-head now)
        ∙ gone-now net n why past quiet in
        joined
        ∙ (membership-kept net n (past ++ e ∷ []) es (cons-tail now)
        (λ asks. let no' : Gone ≡ Asking = sym gone ∙ asks in absurd cc) ∙ gone)
    at false rest later = joined ∙ rest later

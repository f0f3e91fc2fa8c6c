-- A node stays on the ring, or away from it, until its turn ends.
use Rattle.std.proofs.Common.{◌≡◌, ◌≢◌, ℕ, true, false, List, ◌++◌, sym, ap, subst, ◌∙◌}
use Rattle.std.specs.List.{AllByRecursion as Each}
use Rattle.plant_types.specs.declared.net.NetPlan.{NetPlan}
use Rattle.ring_core.specs.declared.entry.RingEntry.{RingEntry}
use Rattle.ring_core.specs.declared.entry.RingEntry.TheVariants.{Post, Send, Take, Local, GiveUp}
use Rattle.ring_core.specs.declared.entry.RingEntry.TheVariants.{Pass, Leave, Join}
use Rattle.ring_core.specs.declared.status.NodeStatus.TheVariants.{Asking}
use Rattle.ring_core.specs.Stability.{IsLeaveOrJoin}
use Rattle.ring_core.proofs.Stability.{membership-stays}
use Rattle.tied_lists.specs.Own.{own}
use Rattle.tied_lists.specs.Waits.{HasLeft, has_left, status_at}
use Rattle.tied_lists.proofs.Turns.{no-leave-or-join, own-joined}
use Rattle.turn_laws.proofs.Passes.{IsInner, cancel, each-map}

-- an entry inside a turn is no Leave and no Join
inner-stays : (n : ℕ) (e : RingEntry) → IsInner e → IsLeaveOrJoin n e → ⊥
inner-stays n (Post m f) inner = λ is. is
inner-stays n (Send m heard) inner = λ is. is
inner-stays n (Take m f) inner = λ is. is
inner-stays n (Local m id op result) inner = λ is. is
inner-stays n (GiveUp id word) inner = λ is. is
inner-stays n (Pass m done words) inner = λ is. is
inner-stays n (Leave m cause) inner = absurd (let no' : true ≡ false = inner in cc)
inner-stays n (Join m) inner = absurd (let no' : true ≡ false = inner in cc)

-- while it adds entries inside a turn, it stands as it did
pub inner-keeps : (net : NetPlan) (n : ℕ) (ring more new done : List RingEntry)
    → new ≡ ring ++ more → own n new ≡ own n ring ++ done → Each IsInner done
    → status_at net ring n ≢ Asking → status_at net new n ≡ status_at net ring n
inner-keeps net n ring more new done is own-is inner calm =
    let added : own n more ≡ done = cancel (own n ring) (own n more) done
    (sym (own-joined n ring more) ∙ ap (own n) (sym is) ∙ own-is) in
    ap (λ (l : List RingEntry). status_at net l n) is
    ∙ membership-stays net ring more n calm
    (no-leave-or-join n more (subst (Each (λ (e : RingEntry). IsLeaveOrJoin n e → ⊥)) (sym added)
    (each-map IsInner (λ e. IsLeaveOrJoin n e → ⊥) done (inner-stays n) inner)))

pub left-calm : (net : NetPlan) (n : ℕ) (ring : List RingEntry) → HasLeft net ring n
    → status_at net ring n ≢ Asking
left-calm net n ring left e = let no' : false ≡ true = sym (ap has_left e) ∙ left in absurd cc

-- and so it stays out
pub inner-left : (net : NetPlan) (n : ℕ) (ring more new done : List RingEntry)
    → new ≡ ring ++ more → own n new ≡ own n ring ++ done → Each IsInner done
    → HasLeft net ring n → HasLeft net new n
inner-left net n ring more new done is own-is inner left =
    ap has_left (inner-keeps net n ring more new done is own-is inner (left-calm net n ring left))
    ∙ left

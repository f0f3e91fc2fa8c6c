-- What a node's own calls on the ring leave.
use Rattle.std.proofs.Common.{◌≡◌, ℕ, Bool, true, false, cond, List, [], ◌∷◌, filter, refl}
use Rattle.std.proofs.Common.{sym, ap, ◌∙◌, subst, eq-eqb, ◌++◌, append-nil}
use Rattle.std.specs.List.{AllByRecursion as Each}
use Rattle.plant_types.specs.declared.net.NetPlan.{NetPlan}
use Rattle.mstr_block.specs.declared.call.CallId.{CallId}
use Rattle.mstr_block.specs.declared.call.MstrResult.{MstrResult}
use Rattle.ring_core.specs.declared.frame.Frame.{Frame}
use Rattle.ring_core.specs.declared.entry.LocalOp.{LocalOp}
use Rattle.ring_core.specs.declared.entry.RingEntry.{RingEntry}
use Rattle.ring_core.specs.declared.entry.RingEntry.TheVariants.{Post, Send, Take, Local, GiveUp}
use Rattle.ring_core.specs.declared.entry.RingEntry.TheVariants.{Pass, Leave, Join}
use Rattle.ring_core.specs.Words.{maker}
use Rattle.ring_core.specs.Machine.{NodeIs, is_here, ring_node, ring_after}
use Rattle.ring_core.specs.declared.status.NodeStatus.{NodeStatus}
use Rattle.ring_core.specs.Legal.{IsLegalRing}
use Rattle.tied_lists.specs.Own.{is_of, own, WentOn, Grew}
use Rattle.tied_lists.specs.Waits.{IsOnRing, HasLeft, IsFree, IsPatient, ArePatient, status_at}
use Rattle.tied_lists.proofs.Turns.{Moved, moved, Wrote, after-post, after-local, on-others}
use Rattle.tied_lists.proofs.Turns.{on-went, left-out, patient-joined, patient-calm}
use Rattle.tied_lists.proofs.Turns.{free-asks}
use Rattle.comm_port.specs.Sides.{RingSideIs}
use Rattle.comm_port.specs.Turns.{IsOwnTurn, KeepsInbox}

-- a node that posts nothing is on the ring as before
abbrev pub NotPost : RingEntry → Type 0
NotPost (Post m f) = ⊥
NotPost _ = Unit {0}

quiet-patient : (status : NodeStatus) (n : ℕ) (e : RingEntry) → (maker e ≡ n → NotPost e)
    → IsPatient status n e
quiet-patient status n (Post m f) quiet = λ own'. absurd (quiet own')
quiet-patient status n (Send m heard) quiet = tt
quiet-patient status n (Take m f) quiet = tt
quiet-patient status n (Local m id op result) quiet = tt
quiet-patient status n (GiveUp id word) quiet = tt
quiet-patient status n (Pass m done words) quiet = tt
quiet-patient status n (Leave m cause) quiet = tt
quiet-patient status n (Join m) quiet = tt

first-own : (b : Bool) (e : RingEntry) (rest : List RingEntry)
    → Each NotPost (cond b (e ∷ rest) rest)
    → (b ≡ true → NotPost e) × Each NotPost rest
first-own true e rest all = (λ _. all.0, all.1)
first-own false e rest all = (λ is. absurd (let no' : false ≡ true = is in cc), all)

quiet-list : (net : NetPlan) (n : ℕ) (past more : List RingEntry) → Each NotPost (own n more)
    → ArePatient net n past more
quiet-list net n past [] quiet = tt
quiet-list net n past (e ∷ es) quiet =
    let k = first-own (is_of n e) e (own n es) quiet in (
      quiet-patient (status_at net past n) n e (λ is. k.0 (eq-eqb (maker e) n is)),
      quiet-list net n (past ++ e ∷ []) es k.1,
    )

pub on-quiet : (net : NetPlan) (n : ℕ) (ring more : List RingEntry) → IsOnRing net ring n
    → IsLegalRing net (ring ++ more) → Each NotPost (own n more) → IsOnRing net (ring ++ more) n
on-quiet net n ring more on legal quiet = record {
  members = on.members;
  legal = legal;
  member = on.member;
  patient = patient-joined net n [] ring more on.patient (quiet-list net n ring more quiet);
}

pub on-grew : (alone : Bool) (net : NetPlan) (n : ℕ) (ring added ring' : List RingEntry)
    → IsOnRing net ring n → IsLegalRing net ring' → Each NotPost added
    → Grew alone (is_of n) ring added ring' → IsOnRing net ring' n
on-grew alone net n ring added ring' on legal quiet g =
    subst (λ (l : List RingEntry). IsOnRing net l n) (sym g.after_is)
    (on-quiet net n ring g.more on (subst (IsLegalRing net) g.after_is legal)
    (subst (Each NotPost) (sym g.ours_are) quiet))

-- a call that added nothing
pub on-still : {Q : Type 0} (side : RingSideIs Q) (alone : Bool) (ring ring' : List RingEntry)
    (n : ℕ) → IsOwnTurn side ring n → IsLegalRing side.net ring'
    → WentOn alone (is_of n) ring [] ring' → IsOnRing side.net ring' n
on-still side alone ring ring' n t legal w =
    let is : ring' ≡ ring ++ w.between = w.after_is ∙ append-nil (ring ++ w.between) in
    subst (λ (l : List RingEntry). IsOnRing side.net l n) (sym is)
    (on-others side.net n ring w.between t.on (subst (IsLegalRing side.net) is legal) w.others)

-- and one that added an entry
pub own-on : {Q : Type 0} (side : RingSideIs Q) (alone : Bool) (n : ℕ) (ring : List RingEntry)
    (e : RingEntry) (ring' : List RingEntry) → IsOwnTurn side ring n → IsLegalRing side.net ring'
    → WentOn alone (is_of n) ring (e ∷ []) ring' → IsOnRing side.net ring' n
own-on side alone n ring e ring' t legal w =
    on-went side.net n alone ring e ring' t.on t.free legal w

-- a node that has left is no member
pub not-in : (net : NetPlan) (n : ℕ) (ring : List RingEntry) → HasLeft net ring n
    → is_here (ring_node (ring_after net ring) n) ≡ false
not-in net n ring gone = left-out (ring_node (ring_after net ring) n).status gone

-- an entry of the node
pub mine : (n : ℕ) (e : RingEntry) → maker e ≡ n → filter (is_of n) (e ∷ []) ≡ e ∷ []
mine n e is = ap (λ b. cond b (e ∷ []) []) (eq-eqb (maker e) n is)

pub own-moved : {Q : Type 0} (side : RingSideIs Q) (alone : Bool) (n : ℕ) (ring : List RingEntry)
    (e : RingEntry) (ring' : List
    RingEntry) → maker e ≡ n → IsOwnTurn side ring n → IsLegalRing side.net ring'
    → WentOn alone (is_of n) ring (e ∷ []) ring'
    → Moved side.net n ring e ring'
own-moved side alone n ring e ring' is t legal w = moved side.net n alone ring e ring' is
    (own-on side alone n ring e ring' t legal w) w t.free

pub kept-by : (net : NetPlan) (n : ℕ) (ring ring' : List RingEntry) (c : NodeIs)
    → c.inbox ≡ (Rattle.tied_lists.proofs.Turns.part
    net ring n).inbox → IsOnRing net ring' n → Wrote net n ring ring' c
    → KeepsInbox net n ring ring'
kept-by net n ring ring' c same on w = record {
  on = λ _. on;
  free = w.free;
  holds = w.holds;
  inbox = ap (λ (x : NodeIs). x.inbox) w.part_is ∙ same;
}

pub kept-post : (net : NetPlan) (n : ℕ) (ring ring' : List RingEntry) (f : Frame)
    → IsOnRing net ring' n → Moved net n ring (Post n f) ring' → KeepsInbox net n ring ring'
kept-post net n ring ring' f on m =
    kept-by net n ring ring' _ refl on (after-post net n ring f ring' m)

pub kept-local : (net : NetPlan) (n : ℕ) (ring ring' : List RingEntry) (id : CallId) (op : LocalOp)
    (result : MstrResult) → IsOnRing net ring' n → Moved
    net n ring (Local n id op result) ring' → KeepsInbox net n ring ring'
kept-local net n ring ring' id op result on m = kept-by net n ring ring' _ refl on
    (after-local net n ring id op result ring' m)

pub kept-both : (net : NetPlan) (n : ℕ) (a b c : List RingEntry) → KeepsInbox net n a b
    → KeepsInbox net n b c → KeepsInbox net n a c
kept-both net n a b c x y = record {
  on = λ k. y.on (x.on k);
  free = y.free;
  holds = λ h. y.holds (x.holds h);
  inbox = y.inbox ∙ x.inbox;
}

pub kept-same : {Q : Type 0} (side side' : RingSideIs Q) (n : ℕ) (a b : List RingEntry)
    → side ≡ side' → KeepsInbox side'.net n a b → KeepsInbox side.net n a b
kept-same {Q} side side' n a b same k = subst (λ (s : RingSideIs Q). KeepsInbox s.net n a b)
    (sym same) k

pub turn-on : {Q : Type 0} (side side' : RingSideIs Q) (ring ring' : List RingEntry) (n : ℕ)
    → side' ≡ side → IsOwnTurn side ring
    n → IsLegalRing side.net ring' → KeepsInbox side.net n ring ring' → IsOwnTurn side' ring' n
turn-on {Q} side side' ring ring' n same t legal k =
    subst (λ (s : RingSideIs Q). IsOwnTurn s ring' n) (sym same)
    (record { serves = t.serves; on = k.on t.on; free = k.free })

-- one more entry, while nobody else changes the node's boxes
pub on-push : (net : NetPlan) (n : ℕ) (past : List RingEntry) (e : RingEntry) → IsOnRing net past n
    → IsLegalRing net (past ++ e ∷ []) → IsFree net past n → IsOnRing net (past ++ e ∷ []) n
on-push net n past e on legal free = record {
  members = on.members;
  legal = legal;
  member = on.member;
  patient = patient-joined net n [] past (e ∷ []) on.patient
      (patient-calm (status_at net past n) n e (free-asks net n past free), tt);
}

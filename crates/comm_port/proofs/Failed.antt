-- A node that leaves because power failed, and comes back.
use Rattle.std.proofs.Common.{◌≡◌, ◌⊎◌, ℕ, ◌<◌, Bool, true, false, List, [], ◌∷◌, ◌++◌}
use Rattle.std.proofs.Common.{filter_map, Option, Some, None, refl, sym, ap, ◌∙◌, subst, inr}
use Rattle.std.proofs.Common.{append-nil}
use Rattle.std.specs.List.{AllByRecursion as Each}
use Rattle.plant_types.specs.declared.net.NetPlan.{NetPlan}
use Rattle.mstr_block.specs.Table.{network_paths}
use Rattle.mstr_block.specs.declared.call.CallId.{CallId}
use Rattle.controller_core.specs.declared.entry.Entry.{Entry}
use Rattle.ring_core.specs.declared.frame.Frame.{Frame}
use Rattle.ring_core.specs.declared.frame.FrameKind.TheVariants.{Request}
use Rattle.ring_core.specs.declared.refusal.RingNo.{RingNo}
use Rattle.ring_core.specs.declared.refusal.RingNo.TheVariants.{NoMemory}
use Rattle.ring_core.specs.declared.status.NodeStatus.TheVariants.{Away, Asking}
use Rattle.ring_core.specs.declared.entry.LeaveCause.TheVariants.{Down}
use Rattle.ring_core.specs.declared.entry.RingEntry.{RingEntry}
use Rattle.ring_core.specs.declared.entry.RingEntry.TheVariants.{Post, Send, Take, Local, GiveUp}
use Rattle.ring_core.specs.declared.entry.RingEntry.TheVariants.{Pass, Leave, Join}
use Rattle.ring_core.specs.Machine.{NodeIs, path_of, ring_after}
use Rattle.ring_core.specs.Refusals.{away_no, join_no, path_no, taken_no}
use Rattle.ring_core.specs.Legal.{IsLegalRing}
use Rattle.ring_core.specs.Stability.{IsLeaveOrJoin}
use Rattle.ring_core.proofs.Stability.{membership-stays}
use Rattle.tied_lists.specs.Own.{is_of, own, WentOn, Grew, Adds}
use Rattle.tied_lists.specs.Items.{AController, Items, latest_down}
use Rattle.tied_lists.specs.Tied.{Tied, TiedBut}
use Rattle.tied_lists.specs.Waits.{waiting as waits_on, IsOnRing, HasLeft, status_at}
use Rattle.tied_lists.proofs.Growth.{adds-grew, grew-ours}
use Rattle.tied_lists.proofs.Histories.{legal-follows}
use Rattle.tied_lists.proofs.Paths.{waiting-push}
use Rattle.tied_lists.proofs.Steps.{tied-all, tied-none, tied-quiet, tied-down}
use Rattle.tied_lists.proofs.Turns.{Found, no-leave-or-join}
use Rattle.joint_history.specs.Reading.{failures_at, is_ours, items_of}
use Rattle.joint_history.proofs.Fails.{failures-are}
use Rattle.comm_port.specs.Failing.{ComesBack, IsAway, join_entries}
use Rattle.comm_port.specs.Giving.{part_at, due_calls, IsAtRest}
use Rattle.comm_port.specs.HoldTurn.{IsGivenUp}
use Rattle.comm_port.specs.Leaving.{LeftRing}
use Rattle.comm_port.specs.Order.{IsGivingUp}
use Rattle.comm_port.specs.Parts.{InOrder, PartOf, calls_waiting}
use Rattle.comm_port.specs.Sides.{RingSideIs, RamSideIs}
use Rattle.comm_port.specs.Turns.{AreWaiting, IsOwnTurn, Turning, Rested}
use Rattle.comm_port.specs.Waiting.{id_of}
use Rattle.comm_port.specs.Worker.{IsMemberWorker, Standing, WorkerIs}
use Rattle.comm_port.proofs.Allowed.{found-still, or-none, short-alone}
use Rattle.comm_port.proofs.Dues.{nothing-waits}
use Rattle.comm_port.proofs.Later.{later-same, tied-later, waits-later}
use Rattle.comm_port.proofs.Leaves.{due-waits, four-same, none-four, unnamed}
use Rattle.comm_port.proofs.RingTurns.{NotPost, on-grew, on-still}
use Rattle.comm_port.proofs.Served.{waiting-as}
use Rattle.comm_port.proofs.Downs.{latest-back}
use Rattle.comm_port.proofs.Through.{IsEnding, rest-through}

-- ---- a node that is away, none of whose calls waits, may come back

calls-same : (n : ℕ) (b b' : List RingEntry) → b ≡ b'
    → filter_map (λ (p : ℕ). id_of (waits_on p b)) network_paths
    ≡ filter_map (λ (p : ℕ). id_of (waits_on p b')) network_paths
calls-same n b b' is =
    ap (λ (l : List RingEntry). filter_map (λ (p : ℕ). id_of (waits_on p l)) network_paths) is

join-none : (net : NetPlan) (ring : List RingEntry) (n : ℕ) → IsOnRing net ring n
    → IsAway net ring n → join_no (ring_after net ring) n ≡ None
join-none net ring n on a =
    or-none (away_no c.status) _ (ap away_no a.away)
    (or-none _ _ (free 1 all.0) (or-none _ _ (free 2 all.1) (or-none _ _ (free 3 all.2)
    (free 4 all.3))))
  where
    c : NodeIs
    c = part_at net n ring

    all : (id_of (waits_on 1 (own n ring)) ≡ None) × (id_of (waits_on 2 (own n ring)) ≡ None)
        × (id_of (waits_on 3 (own n ring)) ≡ None) × (id_of (waits_on 4 (own n ring)) ≡ None)
    all = none-four (λ (p : ℕ). id_of (waits_on p (own n ring))) a.idle

    free : (p : ℕ) → id_of (waits_on p (own n ring)) ≡ None → path_no c Request p ≡ None
    free p none = ap taken_no (nothing-waits (path_of c p).awaits
        (subst (Rattle.tied_lists.specs.Waits.AwaitsThis (path_of c p).awaits)
        (unnamed (waits_on p (own n ring)) none)
        ((legal-follows net ring n on).node.part.paths p)))

away-still : (net : NetPlan) (ring ring' : List RingEntry) (n : ℕ) → Found net n ring ring'
    → IsAway net ring n → IsAway net ring' n
away-still net ring ring' n f a = record {
  away = ap (λ (c : NodeIs). c.status) f.part_is ∙ a.away;
  idle = calls-same n (own n ring') (own n ring) f.own_is ∙ a.idle;
}

pub join-short : {Q : Type 0} (alone : Bool) (n : ℕ) (side : RingSideIs Q)
    (ring ring' : List RingEntry) (why : RingNo) → IsLegalRing side.net ring'
    → WentOn alone (is_of n) ring [] ring' → IsOwnTurn side ring n → IsAway side.net ring n
    → (join_no (ring_after side.net ring') n ≡ Some why) ⊎
    ((why ≡ NoMemory) × (join_no (ring_after side.net ring') n ≡ None)) → why ≡ NoMemory
join-short alone n side ring ring' why legal went t a refused =
    let found = found-still alone n side ring ring' legal went t in
    short-alone _ why (join-none side.net ring' n (on-still side alone ring ring' n t legal went)
    (away-still side.net ring ring' n found a)) refused

-- ---- after the Leave

pub down-lead : {P Q : Type 0} (alone : Bool) (n k : ℕ) (ram : RamSideIs P) (known : List Entry)
    (side side' : RingSideIs Q) (ring ring' : List RingEntry) (w : List (Option Frame))
    → side' ≡ side → IsLegalRing side.net ring' → latest_down (own n ring) < k
    → k ≡ failures_at ram.fixed known → LeftRing alone side.net n (Down k) ring ring'
    → Turning n [] ram known side ring w → Turning n [] ram known side' ring' w
down-lead {P} {Q} alone n k ram known side side' ring ring' w same legal above counted l t =
    let e = Leave n (Down k) in
    let own_is = grew-ours alone (is_of n) ring (e ∷ []) ring' l.grew in
    let enough : k ≡ (items_of known).fails = counted ∙ failures-are ram.fixed known in
    subst (λ (s : RingSideIs Q). Turning n [] ram known s ring' w) (sym same) (record {
      node = t.node;
      own_turn = record {
        serves = t.own_turn.serves;
        on = on-grew alone side.net n ring (e ∷ []) ring' t.own_turn.on legal (tt, tt) l.grew;
        free = inr l.gone;
      };
      tied = subst (TiedBut AController [] (items_of known)) (sym own_is)
          (tied-down AController [] (items_of known) (own n ring) n k above
          (omega (Rattle.std.proofs.Common.arith, enough)) t.tied);
      waits = subst (λ (b : List RingEntry). AreWaiting n (items_of known) b w) (sym own_is)
          (waiting-as n (items_of known) (items_of known) (own n ring) (own n ring ++ e ∷ []) w
          (λ p. waiting-push p (own n ring) e) (λ id out. out) t.waits);
    })

-- it leaves what waits
waiting-left : (alone : Bool) (net : NetPlan) (n k : ℕ) (ring ring' : List RingEntry)
    → LeftRing alone net n (Down k) ring ring' → calls_waiting n ring' ≡ calls_waiting n ring
waiting-left alone net n k ring ring' l =
    four-same (λ p. id_of (waits_on p (own n ring'))) (λ p. id_of (waits_on p (own n ring))) (at 1)
    (at 2) (at 3) (at 4)
  where
    at : (p : ℕ) → id_of (waits_on p (own n ring')) ≡ id_of (waits_on p (own n ring))
    at p = ap id_of (ap (waits_on p)
        (grew-ours alone (is_of n) ring (Leave n (Down k) ∷ []) ring' l.grew)
        ∙ waiting-push p (own n ring) (Leave n (Down k)))

pub down-part : {P Q : Type 0} (alone alone' : Bool) (n k : ℕ) (ram : RamSideIs P)
    (known known' : List Entry) (side side' : RingSideIs Q) (ring0 ring ring' : List RingEntry)
    (w : List (Option Frame)) → LeftRing alone' side.net n (Down k) ring0 ring
    → HasLeft side'.net ring n → Turning n [] ram known side' ring w
    → PartOf alone alone' is_ours n (InOrder IsGivenUp (due_calls side'.net n ring network_paths))
    known known' ring ring'
    → PartOf alone alone' is_ours n (InOrder IsGivenUp (calls_waiting n ring0)) known known' ring
    ring'
down-part alone alone' n k ram known known' side side' ring0 ring ring' w l gone t p =
    let is : due_calls side'.net n ring network_paths ≡ calls_waiting n ring0 =
    due-waits n [] ram known side' ring w gone t
    ∙ waiting-left alone' side.net n k ring0 ring l in
    subst (λ (l : List CallId). PartOf alone alone' is_ours n (InOrder IsGivenUp l) known known'
    ring ring') is p

-- ---- calls that are given up leave where the node stands

giving-stays : (n : ℕ) (e : RingEntry) → IsGivingUp e → IsLeaveOrJoin n e → ⊥
giving-stays n (GiveUp id word) k is = is
giving-stays n (Post m f) k is = k
giving-stays n (Send m heard) k is = k
giving-stays n (Take m f) k is = k
giving-stays n (Local m id op result) k is = k
giving-stays n (Pass m done words) k is = k
giving-stays n (Leave m cause) k is = k
giving-stays n (Join m) k is = k

stays-each : (n : ℕ) (es : List RingEntry) → Each IsGivingUp es
    → Each (λ (e : RingEntry). IsLeaveOrJoin n e → ⊥) es
stays-each n [] all = tt
stays-each n (e ∷ es) all = (giving-stays n e all.0, stays-each n es all.1)

pub away-given : (alone : Bool) (net : NetPlan) (n : ℕ) (ring ring' : List RingEntry)
    → Adds alone (is_of n) IsGivingUp ring ring' → status_at net ring n ≡ Away
    → status_at net ring' n ≡ Away
away-given alone net n ring ring' adds away =
    let g = adds.grew in
    ap (λ (l : List RingEntry). status_at net l n) g.after_is
    ∙ (membership-stays net ring g.more n
    (λ asks. let bad : Away ≡ Asking = sym away ∙ asks in cc)
    (no-leave-or-join n g.more (subst (Each (λ (e : RingEntry). IsLeaveOrJoin n e → ⊥))
    (sym g.ours_are) (stays-each n adds.added adds.sort))) ∙ away)

-- ---- and the node comes back, or not

join-calm : (n : ℕ) (joined : Bool) → Each NotPost (join_entries n joined)
join-calm n true = (tt, tt)
join-calm n false = tt

join-ends : (n : ℕ) (joined : Bool) → Each IsEnding (join_entries n joined)
join-ends n true = (tt, tt)
join-ends n false = tt

join-tied : (n : ℕ) (joined : Bool) (a : Items) (b : List RingEntry) → TiedBut AController [] a b
    → TiedBut AController [] a (b ++ join_entries n joined)
join-tied n true a b t = tied-quiet AController [] a b (Join n) refl refl refl refl refl refl t
join-tied n false a b t = subst (TiedBut AController [] a) (sym (append-nil b)) t

join-waits : (n : ℕ) (joined : Bool) (b : List RingEntry) (p : ℕ)
    → waits_on p (b ++ join_entries n joined) ≡ waits_on p b
join-waits n true b p = waiting-push p b (Join n)
join-waits n false b p = ap (waits_on p) (append-nil b)

pub back-ends : (alone : Bool) (net : NetPlan) (n : ℕ) (joined : Bool) (ring ring' : List RingEntry)
    → Grew alone (is_of n) ring (join_entries n joined) ring'
    → Adds alone (is_of n) IsEnding ring ring'
back-ends alone net n joined ring ring' g =
    adds-grew alone (is_of n) IsEnding ring (join_entries n joined) ring' (join-ends n joined) g

pub back-lead : {P Q : Type 0} (alone alone' : Bool) (n : ℕ) (joined : Bool)
    (ram ram' : RamSideIs P)
    (known known' : List Entry) (side side' : RingSideIs Q) (ring ring' : List RingEntry)
    (w : List (Option Frame)) → ram' ≡ ram → side' ≡ side → IsLegalRing side.net ring'
    → ComesBack alone alone' ram.fixed n known known' ring ring' joined
    → Rested n ram known side ring w → Rested n ram' known' side' ring' w
back-lead {P} {Q} alone alone' n joined ram ram' known known' side side' ring ring' w same same'
    legal back r =
    let own_is = grew-ours alone' (is_of n) ring (join_entries n joined) ring' back.grew in
    let b' = own n ring ++ join_entries n joined in
    let later = later-same alone known known' back.asks in
    let tied = tied-later AController [] b' later (join-tied n joined (items_of known) (own n ring)
    (tied-none AController (items_of known) (own n ring) r.tied)) in
    let waits = waits-later n b' w later
    (waiting-as n (items_of known) (items_of known) (own n ring) b' w
    (join-waits n joined (own n ring)) (λ id out. out) r.waits) in
    subst (λ (s : RingSideIs Q). Rested n ram' known' s ring' w) (sym same')
    (subst (λ (s : RamSideIs P). Rested n s known' side ring' w) (sym same) (record {
      node = r.node;
      serves = r.serves;
      on = on-grew alone' side.net n ring (join_entries n joined) ring' r.on legal
          (join-calm n joined) back.grew;
      tied = subst (Tied AController (items_of known')) (sym own_is)
          (tied-all AController (items_of known') b' tied);
      waits = subst (λ (b : List RingEntry). AreWaiting n (items_of known') b w) (sym own_is) waits;
    }))

pub rested-turn : {P Q : Type 0} (n : ℕ) (ram : RamSideIs P) (known : List Entry)
    (side : RingSideIs Q) (ring : List RingEntry) (w : List (Option Frame))
    → Turning n [] ram known side ring w → Rested n ram known side ring w
rested-turn n ram known side ring w t = record {
  node = t.node;
  serves = t.own_turn.serves;
  on = t.own_turn.on;
  tied = tied-all AController (items_of known) (own n ring) t.tied;
  waits = t.waits;
}

-- ---- a worker between two turns

standing-on : {P Q : Type 0} (w : WorkerIs) (ram : RamSideIs P) (known : List Entry)
    (side : RingSideIs Q) (ring : List RingEntry) → Standing w ram known side ring
    → IsOnRing side.net ring w.node
standing-on w ram known side ring s = record {
  members = s.member.members;
  legal = s.legal;
  member = s.member.member;
  patient = s.patient;
}

pub standing-back : {P Q : Type 0} (alone alone' : Bool) (joined : Bool) (w : WorkerIs)
    (ram ram' : RamSideIs P) (known known' : List Entry) (side side' : RingSideIs Q)
    (ring ring' : List RingEntry) → ram' ≡ ram → side' ≡ side → IsLegalRing side.net ring'
    → ComesBack alone alone' ram.fixed w.node known known' ring ring' joined
    → Standing w ram known side ring → Standing w ram' known' side' ring'
standing-back {P} {Q} alone alone' joined w ram ram' known known' side side' ring ring' same same'
    legal back s =
    let on = standing-on w ram known side ring s in
    let before : Rested w.node ram known side ring w.waiting = record {
      node = s.node;
      serves = s.serves;
      on = on;
      tied = s.tied;
      waits = s.waits;
    } in
    let r = back-lead alone alone' w.node joined ram ram known known' side side ring ring' w.waiting
    refl refl legal back before in
    subst (λ (x : RingSideIs Q). Standing w ram' known' x ring') (sym same')
    (subst (λ (x : RamSideIs P). Standing w x known' side ring') (sym same) (record {
      node = r.node;
      member = s.member;
      serves = r.serves;
      legal = legal;
      patient = r.on.patient;
      tied = r.tied;
      noticed = s.noticed ∙ sym (latest-back alone' w.node joined ring ring' back.grew);
      waits = r.waits;
      rest = rest-through alone' side.net w.node ring ring' on legal
          (back-ends alone' side.net w.node joined ring ring' back.grew) s.rest;
    }))

pub standing-visited : {P Q : Type 0} (w : WorkerIs) (waiting : List (Option Frame))
    (ram ram' : RamSideIs P) (known known' : List Entry) (side side' : RingSideIs Q)
    (ring ring' : List RingEntry) → side' ≡ side
    → Turning w.node [] ram' known' side' ring' waiting → IsAtRest side.net w.node ring'
    → latest_down (own w.node ring') ≡ latest_down (own w.node ring)
    → Standing w ram known side ring
    → Standing (record w { waiting = waiting }) ram' known' side' ring'
standing-visited {P} {Q} w waiting ram ram' known known' side side' ring ring' same t rest still s =
    record {
      node = t.node;
      member = subst (λ (x : RingSideIs Q). IsMemberWorker x.net w.node) (sym same) s.member;
      serves = t.own_turn.serves;
      legal = t.own_turn.on.legal;
      patient = t.own_turn.on.patient;
      tied = tied-all AController (items_of known') (own w.node ring') t.tied;
      noticed = s.noticed ∙ sym still;
      waits = t.waits;
      rest = subst (λ (x : RingSideIs Q). IsAtRest x.net w.node ring') (sym same) rest;
    }

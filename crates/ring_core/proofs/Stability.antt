-- What entries leave of a node as it was.
use Rattle.std.proofs.Common.{◌≡◌, ◌≢◌, ℕ, zero, suc, ◌==◌, Bool, true, false, cond, nat_le, List}
use Rattle.std.proofs.Common.{[], ◌∷◌, ◌++◌, set, map, filter, fold, Option, Some, None, refl, sym}
use Rattle.std.proofs.Common.{ap, ◌∙◌, ◌&&◌, ◌||◌, not, min}
use Rattle.std.specs.List.{list_all}
use Rattle.std.proofs.Common.{subst, inl, inr, ◌⊎◌, ⊎_elim, append-nil, append_assoc}
use Rattle.std.proofs.lemmas.Bool.{eqb-true, eq-eqb, ne_eqb, cases_eq, cond_both, and_parts}
use Rattle.std.proofs.lemmas.Bool.{and_from}
use Rattle.std.proofs.lemmas.List.{get_or-set_other}
use Rattle.ring_core.specs.Words.{NetPlan, RingEntry, Post, Send, Take, Local, GiveUp, Pass, Leave}
use Rattle.ring_core.specs.Words.{maker, Frame, FrameKind, CallId, Fate, Fell, AcceptedRequest}
use Rattle.ring_core.specs.Words.{RepeatedRequest, CrowdedOut, AcceptedReply, DroppedReply, Heard}
use Rattle.ring_core.specs.Words.{Acked, Silent, Busy, RingNo, NotMember, NotHolder, Join}
use Rattle.ring_core.specs.Words.{NodeStatus, In, Away, Asking, Gone, LeaveCause, Ended, Spent}
use Rattle.ring_core.specs.Words.{Down, is_onward}
use Rattle.ring_core.specs.Machine.{NodeIs, RingIs, part_of, ring_node, fresh, after, opening}
use Rattle.ring_core.specs.Machine.{ring_after, posted, gave_up, fate_reaches, arrival, arrived}
use Rattle.ring_core.specs.Machine.{fell, with_frame, heard_by, heard_of, fate_at, sent_head}
use Rattle.ring_core.specs.Machine.{sent_off, failed, silence_word, is_here, is_in, is_held}
use Rattle.ring_core.specs.Machine.{with_node, with_status, admitted, admitted_status, after_pass}
use Rattle.ring_core.specs.Machine.{is_bridge, is_in_or_asking, only_bridges, hears, gone_by}
use Rattle.ring_core.specs.Refusals.{turn_no, free_no, away_no, or_no, least_done, dones_of}
use Rattle.ring_core.specs.Legal.{IsTimelyEntry}
use Rattle.ring_core.specs.Stability.{HoldersKeep, IsLeaveOrJoin, MembershipStays, NoLeaveOrJoin}
use Rattle.ring_core.specs.Stability.{NoneBy, OutsidersKeep, Stays, IsNonBridgeJoin}
use Rattle.ring_core.specs.Stability.{OnlyBridgesStays}
use Rattle.ring_core.proofs.Runs.{after_all-push}

pub first_none : (a b : Option RingNo) → or_no a b ≡ None → a ≡ None
first_none None b e = refl
first_none (Some x) b e = absurd (cc)

turned : (here holds : Bool) (why : RingNo)
    → cond here (cond holds None (Some why)) (Some NotMember) ≡ None → holds ≡ true
turned true true why e = refl
turned true false why e = absurd (cc)
turned false holds why e = absurd (cc)

-- whose turn is not refused holds the token
turn-holds : (r : RingIs) (m : ℕ) → turn_no r m ≡ None → r.holder ≡ m
turn-holds r m e =
    eqb-true r.holder m (turned (is_here (ring_node r m)) (r.holder == m) (NotHolder r.holder) e)

-- who is let through and does not hold the token has left
let_out : (here holds : Bool) (why : RingNo) → cond here (cond holds None (Some why)) None ≡ None
    → holds ≡ false → here ≡ false
let_out true true why e h = absurd (cc)
let_out true false why e h = absurd (cc)
let_out false holds why e h = refl

free-left : (r : RingIs) (n m : ℕ) → free_no r m ≡ None → r.holder ≡ n → (m ≡ n → ⊥)
    → is_here (ring_node r m) ≡ false
free-left r n m e h other = let_out (is_here (ring_node r m)) (r.holder == m) (NotHolder r.holder) e
    (ne_eqb r.holder m (λ q. other (sym q ∙ h)))

-- an entry of another writes another's part
pub out : (nodes : List NodeIs) (n m : ℕ) (c : NodeIs) → (m ≡ n → ⊥)
    → part_of (set nodes m c) n ≡ part_of nodes n
out nodes n m c other = get_or-set_other nodes m n c (fresh false) (λ q. other (sym q))

-- a write that keeps something of a node
same-set : {X : Type 0} (f : NodeIs → X) (nodes : List NodeIs) (m k : ℕ) (c : NodeIs)
    → f c ≡ f (part_of nodes m) → f (part_of (set nodes m c) k) ≡ f (part_of nodes k)
same-set f [] m k c e = refl
same-set f (d ∷ ds) zero zero c e = e
same-set f (d ∷ ds) zero (suc k) c e = refl
same-set f (d ∷ ds) (suc m) zero c e = refl
same-set f (d ∷ ds) (suc m) (suc k) c e = same-set f ds m k c e

picked-run : (here picked : Bool) (k : ℕ) (nodes other : List NodeIs) (ks ls : List ℕ)
    → (here ≡ true → dones_of other k ≡ dones_of nodes k)
    → map (dones_of other) ks ≡ map (dones_of nodes) ls
    → map (dones_of other) (cond (here && picked) (k ∷ ks) ks)
    ≡ map (dones_of nodes) (cond (here && picked) (k ∷ ls) ls)
picked-run true true k nodes other ks ls run more = λ i. run refl i ∷ more i
picked-run true false k nodes other ks ls run more = more
picked-run false picked k nodes other ks ls run more = more

-- only the parts of members are asked how long they have been done
same-runs : (test : ℕ → Bool) (nodes other : List NodeIs) (ks : List ℕ)
    → ((k : ℕ) → is_here (part_of other k) ≡ is_here (part_of nodes k))
    → ((k : ℕ) → is_here (part_of nodes k) ≡ true → dones_of other k ≡ dones_of nodes k)
    → map (dones_of other) (filter (λ k. is_here (part_of other k) && test k) ks)
    ≡ map (dones_of nodes) (filter (λ k. is_here (part_of nodes k) && test k) ks)
same-runs test nodes other [] here run = refl
same-runs test nodes other (k ∷ ks) here run =
    let rest = filter (λ k. is_here (part_of other k) && test k) ks in
    ap (λ (b : Bool). map (dones_of other) (cond (b && test k) (k ∷ rest) rest)) (here k)
    ∙ picked-run (is_here (part_of nodes k)) (test k) k nodes other rest _ (run k)
    (same-runs test nodes other ks here run)

least-out : (net : NetPlan) (nodes : List NodeIs) (own m : ℕ) (c : NodeIs) → is_here c ≡ false
    → is_here (part_of nodes m) ≡ false
    → least_done net (set nodes m c) own ≡ least_done net nodes own
least-out net nodes own m c gone_now left =
    ap (fold min own) (same-runs (λ k. not (is_bridge net k)) nodes (set nodes m c) net.members
    (λ k. same-set is_here nodes m k c (gone_now ∙ sym left))
    (λ k there. ap (λ (d : NodeIs). d.done_run) (out nodes k m c (λ (e : m ≡ k).
    let no' : false ≡ true =
    sym left ∙ (ap (λ (q : ℕ). is_here (part_of nodes q)) e ∙ there) in absurd (cc)))))

-- another that has left writes its own part
put-stays : (net : NetPlan) (r : RingIs) (n m : ℕ) (c : NodeIs)
    → is_here c ≡ is_here (ring_node r m)
    → is_here (ring_node r m) ≡ false → (m ≡ n → ⊥)
    → Stays net r (record r { nodes = set r.nodes m c }) n
put-stays net r n m c same left other =
    let part : part_of (set r.nodes m c) n ≡ part_of r.nodes n = out r.nodes n m c other in
    let own = (ring_node r n).done_run in
    record {
      holder = refl;
      part = part;
      quiet = (λ i. cond (is_here (part i))
          (least_done net (set r.nodes m c) (part i).done_run) 0)
          ∙ ap (λ (least : ℕ). cond (is_here (ring_node r n)) least 0)
          (least-out net r.nodes own m c (same ∙ left) left);
    }

-- who may ask to come in is no member
pub away-left : (s : NodeStatus) → away_no s ≡ None → is_in s ≡ false
away-left In e = absurd (cc)
away-left Away e = refl
away-left Asking e = absurd (cc)
away-left Gone e = absurd (cc)

step-stays : (net : NetPlan) (past : List RingEntry) (r : RingIs) (n : ℕ) (e : RingEntry)
    → IsTimelyEntry net past r e → is_here (ring_node r n) ≡ true → r.holder ≡ n
    → maker e ≢ n → Stays net r (after net r e) n
step-stays net past r n (Post m f) t here h other =
    put-stays net r n m (posted (ring_node r m) f) refl
    (free-left r n m (first_none _ _ t.1) h other) other
step-stays net past r n (Send m heard) t here h other =
    absurd (other (sym (turn-holds r m (first_none _ _ t.0)) ∙ h))
step-stays net past r n (Take m f) t here h other = absurd (other (sym (turn-holds r m t.0) ∙ h))
step-stays net past r n (Local m id op result) t here h other =
    record { holder = refl; part = refl; quiet = refl }
step-stays net past r n (GiveUp id word) t here h other =
    put-stays net r n id.node (gave_up (ring_node r id.node) id) refl
    (free-left r n id.node (first_none _ _ t.0) h other) other
step-stays net past r n (Pass m done words) t here h other =
    absurd (other (sym (turn-holds r m (first_none _ _ t.0)) ∙ h))
step-stays net past r n (Leave m cause) t here h other =
    absurd (other (sym (turn-holds r m (first_none _ _ (first_none _ _ t))) ∙ h))
step-stays net past r n (Join m) t here h other =
    let left = away-left (ring_node r m).status (first_none _ _ t) in
    let asks : RingIs = with_node r m (with_status (ring_node r m) Asking) in
    let comes : RingIs = record {
      holder = m;
      sent = r.sent;
      nodes = set r.nodes m (with_status (ring_node r m) In);
    } in
    subst (λ (held : Bool). Stays net r (cond held asks comes) n)
    (sym (ap (λ (k : ℕ). is_here (ring_node r k)) h ∙ here))
    (put-stays net r n m (with_status (ring_node r m) Asking) (sym left) left other)

pub next_ring : (net : NetPlan) (past : List RingEntry) (e : RingEntry)
    → ring_after net (past ++ e ∷ []) ≡ after net (ring_after net past) e
next_ring net past e = after_all-push net (opening net) past e

pub holders-keep : HoldersKeep
holders-keep net past [] n run there h none =
    subst (λ (l : List RingEntry). Stays net (ring_after net past) (ring_after net l) n)
    (sym (append-nil past)) (record { holder = refl; part = refl; quiet = refl })
holders-keep net past (e ∷ es) n run there h none =
    let r = ring_after net past in
    let one : Stays net r (ring_after net (past ++ e ∷ [])) n =
    subst (λ (x : RingIs). Stays net r x n) (sym (next_ring net past e))
    (step-stays net past r n e run.0.1 there h none.0) in
    let more : Stays net (ring_after net (past ++ e ∷ []))
    (ring_after net ((past ++ e ∷ []) ++ es)) n =
    holders-keep net (past ++ e ∷ []) es n run.1 (ap is_here one.part ∙ there) (one.holder ∙ h)
    none.1 in
    subst (λ (l : List RingEntry). Stays net r (ring_after net l) n) (append_assoc past (e ∷ []) es)
    (record {
      holder = more.holder ∙ one.holder;
      part = more.part ∙ one.part;
      quiet = more.quiet ∙ one.quiet;
    })

-- all who ask come in: each node's part then
pub admitted-part : (nodes : List NodeIs) (n : ℕ)
    → part_of (map admitted nodes) n ≡ admitted (part_of nodes n)
admitted-part [] n = refl
admitted-part (c ∷ cs) zero = refl
admitted-part (c ∷ cs) (suc n) = admitted-part cs n

-- and where the token goes on besides, the node comes in if it asks
handed-out : (nodes : List NodeIs) (n m : ℕ) (c : NodeIs) → (m ≡ n → ⊥)
    → part_of (map admitted (set nodes m c)) n ≡ admitted (part_of nodes n)
handed-out nodes n m c other =
    admitted-part (set nodes m c) n ∙ ap admitted (out nodes n m c other)

-- a write that keeps a node's status
pub status-set : (nodes : List NodeIs) (m k : ℕ) (c : NodeIs) → c.status ≡ (part_of nodes m).status
    → (part_of (set nodes m c) k).status ≡ (part_of nodes k).status
status-set nodes m k c e = same-set (λ (d : NodeIs). d.status) nodes m k c e

status-frame : (c : NodeIs) (fall : Fell) (f : Frame) → (with_frame c fall f).status ≡ c.status
status-frame c AcceptedRequest f = refl
status-frame c RepeatedRequest f = refl
status-frame c CrowdedOut f = refl
status-frame c AcceptedReply f = refl
status-frame c DroppedReply f = refl

status-arrived : (nodes : List NodeIs) (f : Frame) (fall : Option Fell) (k : ℕ)
    → (part_of (arrived nodes f fall) k).status ≡ (part_of nodes k).status
status-arrived nodes f None k = refl
status-arrived nodes f (Some fall) k =
    status-set nodes f.to k _ (status-frame (part_of nodes f.to) fall f)

status-heard : (c : NodeIs) (kind : FrameKind) (id : CallId) (there : Bool) (h : Heard)
    → (heard_by c kind id there h).status ≡ c.status
status-heard c kind id there Acked = refl
status-heard c kind id there Busy = refl
status-heard c kind id there Silent =
    cond_both (nat_le 2 c.tries) (sent_off c (failed c kind id (silence_word there))) _
    (λ (x : NodeIs). x.status ≡ c.status) (λ _. refl) (λ _. refl)

pub status-sent : (net : NetPlan) (r : RingIs) (m : ℕ) (box : List Frame) (k : ℕ)
    → (ring_node (sent_head net r m box) k).status ≡ (ring_node r k).status
status-sent net r m [] k = refl
status-sent net r m (f ∷ fs) k =
    let fall = arrival net r.nodes (fate_at net.fates r.sent) f in
    let nodes = arrived r.nodes f fall in
    status-set nodes m k _ (status-heard (part_of nodes m) f.kind f.id
    (hears net r.nodes f.to (is_onward f)) (heard_of (fate_at net.fates r.sent) fall))
    ∙ status-arrived r.nodes f fall k

-- who does not ask stays as it is as the token goes on
stays-admitted : (s : NodeStatus) → (s ≡ Asking → ⊥) → admitted_status s ≡ s
stays-admitted In no' = refl
stays-admitted Away no' = refl
stays-admitted Asking no' = absurd (no' refl)
stays-admitted Gone no' = refl

pub step-status : (net : NetPlan) (r : RingIs) (n : ℕ) (e : RingEntry)
    → ((ring_node r n).status ≡ Asking → ⊥) → (IsLeaveOrJoin n e → ⊥)
    → (ring_node (after net r e) n).status ≡ (ring_node r n).status
step-status net r n (Post m f) asks no' = status-set r.nodes m n _ refl
step-status net r n (Send m heard) asks no' = status-sent net r m (ring_node r m).outbox n
step-status net r n (Take m f) asks no' = status-set r.nodes m n _ refl
step-status net r n (Local m id op result) asks no' = refl
step-status net r n (GiveUp id word) asks no' = status-set r.nodes id.node n _ refl
step-status net r n (Pass m done words) asks no' =
    let passed = set r.nodes m (after_pass (ring_node r m) done) in
    ap (λ (c : NodeIs). c.status) (admitted-part passed n)
    ∙ (ap admitted_status (status-set r.nodes m n _ refl)
    ∙ stays-admitted (ring_node r n).status asks)
step-status net r n (Leave m cause) asks no' =
    ap (λ (c : NodeIs). c.status) (handed-out r.nodes n m _ no')
    ∙ stays-admitted (ring_node r n).status asks
step-status net r n (Join m) asks no' = cond_both (is_held r) _ _
    (λ (x : RingIs). (ring_node x n).status ≡ (ring_node r n).status)
    (λ _. ap (λ (c : NodeIs). c.status) (out r.nodes n m _ no'))
    (λ _. ap (λ (c : NodeIs). c.status) (out r.nodes n m _ no'))

pub membership-stays : MembershipStays
membership-stays net past [] n asks none =
    ap (λ (l : List RingEntry). (ring_node (ring_after net l) n).status) (append-nil past)
membership-stays net past (e ∷ es) n asks none =
    let one : (ring_node (ring_after net (past ++ e ∷ [])) n).status
    ≡ (ring_node (ring_after net past) n).status =
    ap (λ (x : RingIs). (ring_node x n).status) (next_ring net past e)
    ∙ step-status net (ring_after net past) n e asks none.0 in
    ap (λ (l : List RingEntry). (ring_node (ring_after net l) n).status)
    (sym (append_assoc past (e ∷ []) es))
    ∙ (membership-stays net (past ++ e ∷ []) es n (λ q. asks (sym one ∙ q)) none.1 ∙ one)

-- whose Leave or Join it is made the entry
pub leave_or_join-made : (n : ℕ) (e : RingEntry) → IsLeaveOrJoin n e → maker e ≡ n
leave_or_join-made n (Post m f) is = absurd is
leave_or_join-made n (Send m heard) is = absurd is
leave_or_join-made n (Take m f) is = absurd is
leave_or_join-made n (Local m id op result) is = absurd is
leave_or_join-made n (GiveUp id word) is = absurd is
leave_or_join-made n (Pass m done words) is = absurd is
leave_or_join-made n (Leave m cause) is = is
leave_or_join-made n (Join m) is = is

others-stay : (n : ℕ) (es : List RingEntry) → NoneBy n es → NoLeaveOrJoin n es
others-stay n [] none = tt
others-stay n (e ∷ es) none =
    (λ is. none.0 (leave_or_join-made n e is), others-stay n es none.1)

-- a member stays one while others make entries
member-stays : (net : NetPlan) (past more : List RingEntry) (n : ℕ)
    → is_here (ring_node (ring_after net past) n) ≡ true → NoneBy n more
    → is_here (ring_node (ring_after net (past ++ more)) n) ≡ true
member-stays net past more n there none =
    ap is_in (membership-stays net past more n
    (λ asks. let no' : false ≡ true = sym (ap is_in asks) ∙ there in absurd (cc))
    (others-stay n more none)) ∙ there

left-arrives : (net : NetPlan) (nodes : List NodeIs) (fate : Fate) (f : Frame)
    → is_here (part_of nodes f.to) ≡ false → arrival net nodes fate f ≡ None
left-arrives net nodes fate f left =
    let on = not (is_onward f) || is_bridge net f.to in
    ap (λ (b : Bool). cond (cond (b && on) (fate_reaches fate) false)
    (Some (fell (part_of nodes f.to) f.kind f.id)) None) left

settled-out : (nodes : List NodeIs) (n : ℕ) (f : Frame) (fall : Option Fell) → (f.to ≡ n → ⊥)
    → part_of (arrived nodes f fall) n ≡ part_of nodes n
settled-out nodes n f None other = refl
settled-out nodes n f (Some fall) other = out nodes n f.to _ other

arrived-out : (net : NetPlan) (nodes : List NodeIs) (n : ℕ) (fate : Fate) (f : Frame)
    → is_here (part_of nodes n) ≡ false
    → part_of (arrived nodes f (arrival net nodes fate f)) n ≡ part_of nodes n
arrived-out net nodes n fate f left = ⊎_elim
    (λ (e : f.to ≡ n). ap (λ (fall : Option Fell). part_of (arrived nodes f fall) n)
    (left-arrives net nodes fate f (ap (λ (k : ℕ). is_here (part_of nodes k)) e ∙ left)))
    (λ (no' : f.to ≡ n → ⊥). settled-out nodes n f (arrival net nodes fate f) no')
    (cases_eq f.to n)

sent-out : (net : NetPlan) (r : RingIs) (n m : ℕ) (box : List Frame)
    → is_here (ring_node r n) ≡ false → (m ≡ n → ⊥)
    → ring_node (sent_head net r m box) n ≡ ring_node r n
sent-out net r n m [] left other = refl
sent-out net r n m (f ∷ fs) left other =
    let fate = fate_at net.fates r.sent in
    out (arrived r.nodes f (arrival net r.nodes fate f)) n m _ other
    ∙ arrived-out net r.nodes n fate f left

-- as the token goes on, who is no member comes in, or nothing of it changes
comes-in : (c : NodeIs) (s : NodeStatus) → c.status ≡ s → is_in s ≡ false
    → (admitted c ≡ c) ⊎ (is_here (admitted c) ≡ true)
comes-in c In e left = absurd (cc)
comes-in c Away e left = inl (λ i. with_status c ((ap admitted_status e ∙ sym e) i))
comes-in c Asking e left = inr (ap (λ (x : NodeStatus). is_in (admitted_status x)) e)
comes-in c Gone e left = inl (λ i. with_status c ((ap admitted_status e ∙ sym e) i))

handed-left : (nodes : List NodeIs) (n m : ℕ) (c : NodeIs) → is_here (part_of nodes n) ≡ false
    → (m ≡ n → ⊥) → (part_of (map admitted (set nodes m c)) n ≡ part_of nodes n)
    ⊎ (is_here (part_of (map admitted (set nodes m c)) n) ≡ true)
handed-left nodes n m c left other =
    let now = handed-out nodes n m c other in
    ⊎_elim (λ (same : admitted (part_of nodes n) ≡ part_of nodes n). inl (now ∙ same))
    (λ (there : is_here (admitted (part_of nodes n)) ≡ true). inr (ap is_here now ∙ there))
    (comes-in (part_of nodes n) (part_of nodes n).status refl left)

-- an entry of another leaves the part of who is no member, or lets it come in
step-left : (net : NetPlan) (r : RingIs) (n : ℕ) (e : RingEntry) → is_here (ring_node r n) ≡ false
    → maker e ≢ n → (ring_node (after net r e) n ≡ ring_node r n)
    ⊎ (is_here (ring_node (after net r e) n) ≡ true)
step-left net r n (Post m f) left other = inl (out r.nodes n m _ other)
step-left net r n (Send m heard) left other =
    inl (sent-out net r n m (ring_node r m).outbox left other)
step-left net r n (Take m f) left other = inl (out r.nodes n m _ other)
step-left net r n (Local m id op result) left other = inl refl
step-left net r n (GiveUp id word) left other = inl (out r.nodes n id.node _ other)
step-left net r n (Pass m done words) left other = handed-left r.nodes n m _ left other
step-left net r n (Leave m cause) left other = handed-left r.nodes n m _ left other
step-left net r n (Join m) left other = inl (cond_both (is_held r) _ _
    (λ (x : RingIs). ring_node x n ≡ ring_node r n)
    (λ _. out r.nodes n m _ other) (λ _. out r.nodes n m _ other))

pub outsiders-keep : OutsidersKeep
outsiders-keep net past [] n before behind none =
    ap (λ (l : List RingEntry). ring_node (ring_after net l) n) (append-nil past)
outsiders-keep net past (e ∷ es) n before behind none =
    let joined = append_assoc past (e ∷ []) es in
    let next = next_ring net past e in
    let out_then : is_here (ring_node (ring_after net ((past ++ e ∷ []) ++ es)) n) ≡ false =
    ap (λ (l : List RingEntry). is_here (ring_node (ring_after net l) n)) joined ∙ behind in
    ⊎_elim
    (λ (same : ring_node (after net (ring_after net past) e) n ≡ ring_node (ring_after net past) n).
    let one : ring_node (ring_after net (past ++ e ∷ [])) n ≡ ring_node (ring_after net past) n =
    ap (λ (x : RingIs). ring_node x n) next ∙ same in
    ap (λ (l : List RingEntry). ring_node (ring_after net l) n) (sym joined)
    ∙ (outsiders-keep net (past ++ e ∷ []) es n (ap is_here one ∙ before) out_then none.1 ∙ one))
    (λ (there : is_here (ring_node (after net (ring_after net past) e) n) ≡ true).
    let still = member-stays net (past ++ e ∷ []) es n
    (ap (λ (x : RingIs). is_here (ring_node x n)) next ∙ there) none.1 in
    let no' : true ≡ false = sym still ∙ out_then in absurd (cc))
    (step-left net (ring_after net past) n e before none.0)

-- who is not there, and does not ask
abbrev IsAbsent : NodeIs → Type 0
IsAbsent c = is_in_or_asking c.status ≡ false

absent-admitted : (s : NodeStatus) → is_in_or_asking s ≡ false
    → is_in_or_asking (admitted_status s) ≡ false
absent-admitted In e = e
absent-admitted Away e = e
absent-admitted Asking e = e
absent-admitted Gone e = e

absent-handed : (nodes : List NodeIs) (k : ℕ) → IsAbsent (part_of nodes k)
    → IsAbsent (part_of (map admitted nodes) k)
absent-handed nodes k absent = ap (λ (c : NodeIs). is_in_or_asking c.status) (admitted-part nodes k)
    ∙ absent-admitted (part_of nodes k).status absent

absent-gone : (c : NodeIs) (cause : LeaveCause) → IsAbsent (gone_by cause c)
absent-gone c Ended = refl
absent-gone c Spent = refl
absent-gone c (Down number) = refl

absent-set : (nodes : List NodeIs) (m k : ℕ) (c : NodeIs) → IsAbsent (part_of nodes k) → IsAbsent c
    → IsAbsent (part_of (set nodes m c) k)
absent-set [] m k c was now = was
absent-set (d ∷ ds) zero zero c was now = now
absent-set (d ∷ ds) zero (suc k) c was now = was
absent-set (d ∷ ds) (suc m) zero c was now = was
absent-set (d ∷ ds) (suc m) (suc k) c was now = absent-set ds m k c was now

same-absent : (nodes : List NodeIs) (m k : ℕ) (c : NodeIs) → c.status ≡ (part_of nodes m).status
    → IsAbsent (part_of nodes k) → IsAbsent (part_of (set nodes m c) k)
same-absent nodes m k c same absent = ap is_in_or_asking (status-set nodes m k c same) ∙ absent

-- it stays so but for its own Join
abbrev IsJoinOf : ℕ → RingEntry → Type 0
IsJoinOf k (Join m) = m ≡ k
IsJoinOf k _ = ⊥

step-absent : (net : NetPlan) (r : RingIs) (k : ℕ) (e : RingEntry) → (IsJoinOf k e → ⊥)
    → IsAbsent (ring_node r k) → IsAbsent (ring_node (after net r e) k)
step-absent net r k (Post m f) no' absent = same-absent r.nodes m k _ refl absent
step-absent net r k (Send m heard) no' absent =
    ap is_in_or_asking (status-sent net r m (ring_node r m).outbox k) ∙ absent
step-absent net r k (Take m f) no' absent = same-absent r.nodes m k _ refl absent
step-absent net r k (Local m id op result) no' absent = absent
step-absent net r k (GiveUp id word) no' absent = same-absent r.nodes id.node k _ refl absent
step-absent net r k (Pass m done words) no' absent =
    absent-handed _ k (same-absent r.nodes m k (after_pass (ring_node r m) done) refl absent)
step-absent net r k (Leave m cause) no' absent =
    absent-handed _ k (absent-set r.nodes m k _ absent (absent-gone (ring_node r m) cause))
step-absent net r k (Join m) no' absent = cond_both (is_held r) _ _
    (λ (x : RingIs). IsAbsent (ring_node x k))
    (λ _. ap (λ (c : NodeIs). is_in_or_asking c.status) (out r.nodes k m _ no') ∙ absent)
    (λ _. ap (λ (c : NodeIs). is_in_or_asking c.status) (out r.nodes k m _ no') ∙ absent)

joins-besides : (net : NetPlan) (n k : ℕ) (e : RingEntry) → (k == n) ≡ false
    → is_bridge net k ≡ false → IsJoinOf k e → IsNonBridgeJoin net n e
joins-besides net n k (Post m f) other end is = absurd is
joins-besides net n k (Send m heard) other end is = absurd is
joins-besides net n k (Take m f) other end is = absurd is
joins-besides net n k (Local m id op result) other end is = absurd is
joins-besides net n k (GiveUp id word) other end is = absurd is
joins-besides net n k (Pass m done words) other end is = absurd is
joins-besides net n k (Leave m cause) other end is = absurd is
joins-besides net n k (Join m) other end is = (
  λ own. let no' : false ≡ true = sym other ∙ eq-eqb k n (sym is ∙ own) in absurd (cc),
  ap (is_bridge net) is ∙ end,
)

still-besides : (own end was now : Bool)
    → (own ≡ false → end ≡ false → was ≡ false → now ≡ false)
    → (own || end || not was) ≡ true → (own || end || not now) ≡ true
still-besides true end was now more is = refl
still-besides false true was now more is = refl
still-besides false false true now more is = absurd (cc)
still-besides false false false now more is = ap not (more refl refl refl)

all-still : (p q : ℕ → Bool) (ks : List ℕ) → ((k : ℕ) → p k ≡ true → q k ≡ true)
    → list_all p ks ≡ true → list_all q ks ≡ true
all-still p q [] still all = refl
all-still p q (k ∷ ks) still all =
    let both = and_parts (p k) (list_all p ks) all in
    and_from (q k) (list_all q ks) (still k both.0) (all-still p q ks still both.1)

step-bridges : (net : NetPlan) (r : RingIs) (n : ℕ) (e : RingEntry)
    → (IsNonBridgeJoin net n e → ⊥) → only_bridges net r.nodes n ≡ true
    → only_bridges net (after net r e).nodes n ≡ true
step-bridges net r n e no' all = all-still _ _ net.members
    (λ k. still-besides (k == n) (is_bridge net k) (is_in_or_asking (ring_node r k).status)
    (is_in_or_asking (ring_node (after net r e) k).status) (λ other end absent.
    step-absent net r k e (λ is. no' (joins-besides net n k e other end is)) absent))
    all

pub only-bridges-stays : OnlyBridgesStays
only-bridges-stays net past [] n only none =
    ap (λ (l : List RingEntry). only_bridges net (ring_after net l).nodes n) (append-nil past)
    ∙ only
only-bridges-stays net past (e ∷ es) n only none =
    ap (λ (l : List RingEntry). only_bridges net (ring_after net l).nodes n)
    (sym (append_assoc past (e ∷ []) es))
    ∙ only-bridges-stays net (past ++ e ∷ []) es n
    (ap (λ (x : RingIs). only_bridges net x.nodes n) (next_ring net past e)
    ∙ step-bridges net (ring_after net past) n e none.0 only) none.1

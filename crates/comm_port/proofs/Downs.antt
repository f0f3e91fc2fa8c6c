-- The number that a node keeps of its latest Down is that of its own list.
use Rattle.std.proofs.Common.{◌≡◌, ℕ, zero, suc, ◌<◌, ◌==◌, Bool, true, false, cond, nat_le, List}
use Rattle.std.proofs.Common.{[], ◌∷◌, ◌++◌, set, map, length, filter_map, Option, Some, None}
use Rattle.std.proofs.Common.{refl, sym, ap, ◌∙◌, subst, ⊎_elim, append-nil, append_assoc}
use Rattle.std.proofs.Common.{replicate, get_or, eq-eqb}
use Rattle.std.specs.List.{AllByRecursion as Each}
use Rattle.std.proofs.lemmas.Bool.{cases_Bool, cond_both, eqb-true}
use Rattle.std.proofs.lemmas.List.{get_or-set_other}
use Rattle.std.proofs.lemmas.List.Elements.{All-contains, filter_map-append}
use Rattle.plant_types.specs.declared.net.Fate.{Fate}
use Rattle.tied_lists.specs.Words.{NetPlan, Frame, FrameKind, Request, Reply, CallId, Heard}
use Rattle.tied_lists.specs.Words.{Acked, Silent, Busy}
use Rattle.tied_lists.specs.Words.{LeaveCause, Ended, Spent, Down, RingEntry, Post, Send, Take}
use Rattle.tied_lists.specs.Words.{Local, GiveUp, Pass, Leave, Join}
use Rattle.ring_core.specs.Machine.{NodeIs, RingIs, part_of, ring_node, fresh, after}
use Rattle.ring_core.specs.Machine.{ring_after, arrival, arrived, with_frame, heard_by, heard_of}
use Rattle.ring_core.specs.Machine.{fate_at, sent_head, sent_off, failed, silence_word}
use Rattle.ring_core.specs.Machine.{hears}
use Rattle.ring_core.specs.Words.{is_onward}
use Rattle.ring_core.specs.Machine.{is_held, admitted, after_pass, gone_by, addresses}
use Rattle.ring_core.specs.Machine.{with_members, fell, is_repeat, is_full, waits_for, path_of}
use Rattle.ring_core.proofs.Stability.{admitted-part}
use Rattle.tied_lists.specs.Own.{is_of, own, Adds, Grew}
use Rattle.tied_lists.proofs.Growth.{adds-grew, grew-ours}
use Rattle.controller_core.specs.declared.call.Call.{Call}
use Rattle.controller_core.specs.declared.call.CallKind.{CallKind}
use Rattle.controller_core.specs.declared.call.CallKind.TheVariants as kinds
use Rattle.controller_core.specs.declared.entry.Entry.{Entry}
use Rattle.controller_core.specs.declared.fixed.Fixed.{Fixed}
use Rattle.joint_history.specs.Reading.{has_started_at}
use Rattle.comm_port.specs.Failing.{join_entries}
use Rattle.comm_port.specs.Giving.{each_path}
use Rattle.comm_port.specs.HoldTurn.{CollectsIf, EndedAs, IsEnded, VisitsEnd}
use Rattle.comm_port.specs.Leaving.{last_entry, HandedOn, LeftRing}
use Rattle.comm_port.specs.Parts.{InOrder}
use Rattle.comm_port.specs.SendsAll.{IsNextSending, SendsFrames}
use Rattle.comm_port.proofs.Parts.{each-added}
use Rattle.comm_port.specs.Order.{IsCalling, IsGivingUp, IsServing}
use Rattle.comm_port.proofs.Leaves.{IsQuietCause}
use Rattle.tied_lists.specs.Items.{down_of, downs_by, last_from, latest_down}
use Rattle.tied_lists.specs.Waits.{IsOnRing}
use Rattle.tied_lists.proofs.Histories.{arrived-part, at-same, legal-follows}
use Rattle.tied_lists.proofs.Turns.{next-ring}
use Rattle.comm_port.specs.Giving.{part_at}
use Rattle.comm_port.proofs.HostRuns.{on-front}
use Rattle.comm_port.proofs.Standings.{put-each}

-- ---- entries but a Leave of the node keep the number

down-set : (nodes : List NodeIs) (m k : ℕ) (c : NodeIs) → c.down ≡ (part_of nodes m).down
    → (part_of (set nodes m c) k).down ≡ (part_of nodes k).down
down-set [] m k c e = refl
down-set (d ∷ ds) zero zero c e = e
down-set (d ∷ ds) zero (suc k) c e = refl
down-set (d ∷ ds) (suc m) zero c e = refl
down-set (d ∷ ds) (suc m) (suc k) c e = down-set ds m k c e

down-came : (c : NodeIs) (f : Frame) (kind : FrameKind)
    → (with_frame c (fell c kind f.id) f).down ≡ c.down
down-came c f Request = cond_both (is_repeat c f.id) _ _ (λ x. (with_frame c x f).down ≡ c.down)
    (λ _. refl)
    (λ _. cond_both (is_full c) _ _ (λ x. (with_frame c x f).down ≡ c.down) (λ _. refl) (λ _. refl))
down-came c f Reply = cond_both (waits_for (path_of c f.id.path).awaits f.id.seq) _ _
    (λ x. (with_frame c x f).down ≡ c.down) (λ _. refl) (λ _. refl)

down-arrived : (net : NetPlan) (nodes : List NodeIs) (f : Frame) (fate : Fate) (k : ℕ)
    → (part_of (arrived nodes f (arrival net nodes fate f)) k).down ≡ (part_of nodes k).down
down-arrived net nodes f fate k =
    arrived-part net nodes f fate (λ m c. c.down ≡ (part_of nodes m).down) (λ m. refl)
    (λ here. down-came (part_of nodes f.to) f f.kind) k

down-heard : (c : NodeIs) (kind : FrameKind) (id : CallId) (there : Bool) (h : Heard)
    → (heard_by c kind id there h).down ≡ c.down
down-heard c kind id there Acked = refl
down-heard c kind id there Busy = refl
down-heard c kind id there Silent =
    cond_both (nat_le 2 c.tries) (sent_off c (failed c kind id (silence_word there))) _
    (λ (x : NodeIs). x.down ≡ c.down) (λ _. refl) (λ _. refl)

down-sent : (net : NetPlan) (r : RingIs) (m : ℕ) (box : List Frame) (k : ℕ)
    → (ring_node (sent_head net r m box) k).down ≡ (ring_node r k).down
down-sent net r m [] k = refl
down-sent net r m (f ∷ fs) k =
    let fall = arrival net r.nodes (fate_at net.fates r.sent) f in
    let nodes = arrived r.nodes f fall in
    down-set nodes m k _ (down-heard (part_of nodes m) f.kind f.id
    (hears net r.nodes f.to (is_onward f)) (heard_of (fate_at net.fates r.sent) fall))
    ∙ down-arrived net r.nodes f (fate_at net.fates r.sent) k

down-admitted : (nodes : List NodeIs) (n : ℕ)
    → (part_of (map admitted nodes) n).down ≡ (part_of nodes n).down
down-admitted nodes n = ap (λ (c : NodeIs). c.down) (admitted-part nodes n)

-- what an entry makes of it
abbrev pub down-next : ℕ → ℕ → RingEntry → ℕ
down-next n now e = cond (is_of n e) (last_from now (filter_map down_of (e ∷ []))) now

kept-either : (b : Bool) (x : ℕ) → x ≡ cond b x x
kept-either true x = refl
kept-either false x = refl

left-down : (cause : LeaveCause) (c : NodeIs)
    → (gone_by cause c).down ≡ last_from c.down (filter_map down_of (Leave 0 cause ∷ []))
left-down Ended c = refl
left-down Spent c = refl
left-down (Down number) c = refl

leave-own : (n m : ℕ) (cause : LeaveCause) (now now' : ℕ) → m ≡ n
    → now' ≡ last_from now (filter_map down_of (Leave 0 cause ∷ []))
    → now' ≡ down-next n now (Leave m cause)
leave-own n m cause now now' is e =
    e ∙ sym (ap (λ (b : Bool). cond b (last_from now (filter_map down_of (Leave m cause ∷ []))) now)
    (eq-eqb m n is))

leave-other : (n m : ℕ) (cause : LeaveCause) (now : ℕ) → (m == n) ≡ false
    → now ≡ down-next n now (Leave m cause)
leave-other n m cause now other =
    sym (ap (λ (b : Bool). cond b (last_from now (filter_map down_of (Leave m cause ∷ []))) now)
    other)

down-step : (net : NetPlan) (r : RingIs) (n : ℕ) (e : RingEntry) → length r.nodes ≡ addresses
    → n < addresses
    → (ring_node (after net r e) n).down ≡ down-next n (ring_node r n).down e
down-step net r n (Post m f) size low = down-set r.nodes m n _ refl ∙ kept-either (m == n) _
down-step net r n (Send m heard) size low =
    down-sent net r m (ring_node r m).outbox n ∙ kept-either (m == n) _
down-step net r n (Take m f) size low = down-set r.nodes m n _ refl ∙ kept-either (m == n) _
down-step net r n (Local m id op result) size low = kept-either (m == n) _
down-step net r n (GiveUp id word) size low =
    down-set r.nodes id.node n _ refl ∙ kept-either (id.node == n) _
down-step net r n (Pass m done words) size low =
    down-admitted (set r.nodes m (after_pass (ring_node r m) done)) n
    ∙ (down-set r.nodes m n _ refl ∙ kept-either (m == n) _)
down-step net r n (Leave m cause) size low =
    let to = gone_by cause (ring_node r m) in
    down-admitted (set r.nodes m to) n ∙ ⊎_elim
    (λ (is : (m == n) ≡ true).
    let same : m ≡ n = eqb-true m n is in
    leave-own n m cause (ring_node r n).down _ same
    (ap (λ (k : ℕ). (part_of (set r.nodes k (gone_by cause (ring_node r k))) n).down) same
    ∙ (ap (λ (c : NodeIs). c.down) (at-same r.nodes n (gone_by cause (ring_node r n)) size low)
    ∙ left-down cause (ring_node r n))))
    (λ (other : (m == n) ≡ false).
    ap (λ (c : NodeIs). c.down) (get_or-set_other r.nodes m n to (fresh false)
    (λ is. let bad : false ≡ true = sym other ∙ eq-eqb m n (sym is) in absurd cc))
    ∙ leave-other n m cause (ring_node r n).down other)
    (cases_Bool (m == n))
down-step net r n (Join m) size low = cond_both (is_held r) _ _
    (λ (x : RingIs). (ring_node x n).down ≡ cond (m == n) (ring_node r n).down (ring_node r n).down)
    (λ _. down-set r.nodes m n _ refl ∙ kept-either (m == n) _)
    (λ _. down-set r.nodes m n _ refl ∙ kept-either (m == n) _)

-- ---- what a list makes of it

last-more : (now : ℕ) (xs ys : List ℕ) → last_from now (xs ++ ys) ≡ last_from (last_from now xs) ys
last-more now [] ys = refl
last-more now (x ∷ xs) ys = last-more x xs ys

pub latest-more : (b c : List RingEntry)
    → latest_down (b ++ c) ≡ last_from (latest_down b) (downs_by c)
latest-more b c = ap (last_from 0) (filter_map-append down_of b c)
    ∙ last-more 0 (downs_by b) (downs_by c)

-- entries without a Down leave it
pub no-downs : (c : List RingEntry) → Each (λ (e : RingEntry). down_of e ≡ None) c
    → downs_by c ≡ []
no-downs [] none = refl
no-downs (e ∷ es) none =
    ap (λ (o : Option ℕ). Rattle.std.specs.List.cons_option o (downs_by es)) none.0
    ∙ no-downs es none.1

next-own : (n : ℕ) (now : ℕ) (e : RingEntry) (es : List RingEntry)
    → last_from (down-next n now e) (downs_by (own n es))
    ≡ last_from now (downs_by (own n (e ∷ es)))
next-own n now e es = ⊎_elim
    (λ (is : is_of n e ≡ true).
    ap (λ (b : Bool). last_from (cond b (last_from now (filter_map down_of (e ∷ []))) now)
    (downs_by (own n es))) is
    ∙ (sym (last-more now (filter_map down_of (e ∷ [])) (downs_by (own n es)))
    ∙ (ap (last_from now) (sym (filter_map-append down_of (e ∷ []) (own n es)))
    ∙ ap (λ (b : Bool). last_from now (downs_by (cond b (e ∷ own n es) (own n es)))) (sym is))))
    (λ (other : is_of n e ≡ false).
    ap (λ (b : Bool). last_from (cond b (last_from now (filter_map down_of (e ∷ []))) now)
    (downs_by (own n es))) other
    ∙ ap (λ (b : Bool). last_from now (downs_by (cond b (e ∷ own n es) (own n es)))) (sym other))
    (cases_Bool (is_of n e))

-- ---- the number that is kept

down-run : (net : NetPlan) (n : ℕ) (past more : List RingEntry) → IsOnRing net (past ++ more) n
    → (part_at net n (past ++ more)).down
    ≡ last_from (part_at net n past).down (downs_by (own n more))
down-run net n past [] on =
    ap (λ (l : List RingEntry). (part_at net n l).down) (append-nil past)
down-run net n past (e ∷ es) on =
    let join = append_assoc past (e ∷ []) es in
    let on' : IsOnRing net ((past ++ e ∷ []) ++ es) n =
    subst (λ (l : List RingEntry). IsOnRing net l n) (sym join) on in
    let front = on-front net n past (e ∷ es) on in
    let low : n < addresses = All-contains (λ m. m < addresses) net.members n on.members on.member
    in
    let one : (part_at net n (past ++ e ∷ [])).down ≡ down-next n (part_at net n past).down e =
    ap (λ (r : RingIs). (ring_node r n).down) (next-ring net past e)
    ∙ down-step net (ring_after net past) n e (legal-follows net past n front).size low in
    ap (λ (l : List RingEntry). (part_at net n l).down) (sym join)
    ∙ (down-run net n (past ++ e ∷ []) es on'
    ∙ (ap (λ (k : ℕ). last_from k (downs_by (own n es))) one
    ∙ next-own n (part_at net n past).down e es))

each-kept : {X : Type 0} (P : X → Type 0) (k p : ℕ) (x : X) → P x → P (get_or (replicate k x) p x)
each-kept P zero p x it = it
each-kept P (suc k) zero x it = it
each-kept P (suc k) (suc p) x it = each-kept P k p x it

down-members : (nodes : List NodeIs) (members : List ℕ) (k : ℕ) → (part_of nodes k).down ≡ 0
    → (part_of (with_members nodes members) k).down ≡ 0
down-members nodes [] k it = it
down-members nodes (m ∷ ms) k it = down-members (set nodes m (fresh true)) ms k
    (put-each (λ (c : NodeIs). c.down ≡ 0) nodes m k (fresh true) refl it)

pub down-is : (net : NetPlan) (n : ℕ) (ring : List RingEntry) → IsOnRing net ring n
    → (part_at net n ring).down ≡ latest_down (own n ring)
down-is net n ring on =
    let first : (part_at net n []).down ≡ 0 = down-members (replicate addresses (fresh false))
    net.members n (each-kept (λ (c : NodeIs). c.down ≡ 0) addresses n (fresh false) refl) in
    down-run net n [] ring on ∙ ap (λ (k : ℕ). last_from k (downs_by (own n ring))) first

-- ---- what a part of a turn leaves of it

no-downs-of : (Sort : RingEntry → Type 0) → ((e : RingEntry) → Sort e → down_of e ≡ None)
    → (c : List RingEntry) → Each Sort c → Each (λ (e : RingEntry). down_of e ≡ None) c
no-downs-of Sort none [] all = tt
no-downs-of Sort none (e ∷ es) all = (none e all.0, no-downs-of Sort none es all.1)

pub latest-adds : (alone : Bool) (n : ℕ) (Sort : RingEntry → Type 0) (ring ring' : List RingEntry)
    → ((e : RingEntry) → Sort e → down_of e ≡ None) → Adds alone (is_of n) Sort ring ring'
    → latest_down (own n ring') ≡ latest_down (own n ring)
latest-adds alone n Sort ring ring' none a =
    ap latest_down (grew-ours alone (is_of n) ring a.added ring' a.grew)
    ∙ (latest-more (own n ring) a.added
    ∙ ap (last_from (latest_down (own n ring)))
    (no-downs a.added (no-downs-of Sort none a.added a.sort)))

last-downs : (n : ℕ) (done : Bool) (words : List ℕ) (cause : Option LeaveCause)
    → IsQuietCause cause → down_of (last_entry n done words cause) ≡ None
last-downs n done words None quiet = refl
last-downs n done words (Some cause) quiet = quiet cause refl

pub latest-handed : (alone : Bool) (net : NetPlan) (n : ℕ) (done : Bool) (words : List ℕ)
    (cause : Option LeaveCause) (ring ring' : List RingEntry) → IsQuietCause cause
    → HandedOn alone net n done words cause ring ring'
    → latest_down (own n ring') ≡ latest_down (own n ring)
latest-handed alone net n done words cause ring ring' quiet h =
    latest-adds alone n (λ (e : RingEntry). down_of e ≡ None) ring ring' (λ e is. is)
    (adds-grew alone (is_of n) (λ (e : RingEntry). down_of e ≡ None) ring
    (last_entry n done words cause ∷ []) ring' (last-downs n done words cause quiet, tt) h.grew)

pub giving-downs : (e : RingEntry) → IsGivingUp e → down_of e ≡ None
giving-downs (GiveUp id word) k = refl
giving-downs (Post m f) k = absurd k
giving-downs (Send m heard) k = absurd k
giving-downs (Take m f) k = absurd k
giving-downs (Local m id op result) k = absurd k
giving-downs (Pass m done words) k = absurd k
giving-downs (Leave m cause) k = absurd k
giving-downs (Join m) k = absurd k

pub serving-downs : (n : ℕ) (e : RingEntry) → IsServing n e → down_of e ≡ None
serving-downs n (GiveUp id word) k = absurd k
serving-downs n (Post m f) k = refl
serving-downs n (Send m heard) k = absurd k
serving-downs n (Take m f) k = refl
serving-downs n (Local m id op result) k = refl
serving-downs n (Pass m done words) k = absurd k
serving-downs n (Leave m cause) k = absurd k
serving-downs n (Join m) k = absurd k

pub calling-downs : (n : ℕ) (e : RingEntry) → IsCalling n e → down_of e ≡ None
calling-downs n (GiveUp id word) k = absurd k
calling-downs n (Post m f) k = refl
calling-downs n (Send m heard) k = absurd k
calling-downs n (Take m f) k = absurd k
calling-downs n (Local m id op result) k = refl
calling-downs n (Pass m done words) k = absurd k
calling-downs n (Leave m cause) k = absurd k
calling-downs n (Join m) k = absurd k

sending-downs : (net : NetPlan) (n : ℕ) (on : ℕ → Bool) (past : List RingEntry) (e : RingEntry)
    → IsNextSending net n on past e → down_of e ≡ None
sending-downs net n on past (GiveUp id word) k = refl
sending-downs net n on past (Post m f) k = absurd k
sending-downs net n on past (Send m heard) k = refl
sending-downs net n on past (Take m f) k = absurd k
sending-downs net n on past (Local m id op result) k = absurd k
sending-downs net n on past (Pass m done words) k = absurd k
sending-downs net n on past (Leave m cause) k = absurd k
sending-downs net n on past (Join m) k = absurd k

pub latest-sent : (alone : Bool) (net : NetPlan) (n : ℕ) (ring ring' : List RingEntry)
    → SendsFrames alone net n each_path ring ring'
    → latest_down (own n ring') ≡ latest_down (own n ring)
latest-sent alone net n ring ring' s =
    latest-adds alone n (λ (e : RingEntry). down_of e ≡ None) ring ring' (λ e is. is)
    (adds-grew alone (is_of n) (λ (e : RingEntry). down_of e ≡ None) ring s.done ring'
    (each-added alone n (IsNextSending net n each_path) (λ (e : RingEntry). down_of e ≡ None)
    (sending-downs net n each_path) ring s.done ring' s.grew s.each) s.grew)

-- a Leave because power failed, and what follows it
pub latest-left : (alone : Bool) (net : NetPlan) (n k : ℕ) (ring ring' : List RingEntry)
    → LeftRing alone net n (Down k) ring ring' → latest_down (own n ring') ≡ k
latest-left alone net n k ring ring' l =
    ap latest_down (grew-ours alone (is_of n) ring (Leave n (Down k) ∷ []) ring' l.grew)
    ∙ latest-more (own n ring) (Leave n (Down k) ∷ [])

join-downs : (n : ℕ) (joined : Bool) (now : ℕ)
    → last_from now (downs_by (join_entries n joined)) ≡ now
join-downs n true now = refl
join-downs n false now = refl

pub latest-back : (alone : Bool) (n : ℕ) (joined : Bool) (ring ring' : List RingEntry)
    → Grew alone (is_of n) ring (join_entries n joined) ring'
    → latest_down (own n ring') ≡ latest_down (own n ring)
latest-back alone n joined ring ring' g =
    ap latest_down (grew-ours alone (is_of n) ring (join_entries n joined) ring' g)
    ∙ (latest-more (own n ring) (join_entries n joined)
    ∙ join-downs n joined (latest_down (own n ring)))

-- a visit
ended-downs : (kind : CallKind) (n : ℕ) (id : CallId) (noted : List Entry) (done : List RingEntry)
    → EndedAs kind n id noted done → Each (λ (e : RingEntry). down_of e ≡ None) done
ended-downs (kinds.Net route pdu) n id noted done k =
    subst (Each (λ (e : RingEntry). down_of e ≡ None)) (sym k.2) (refl, (refl, tt))
ended-downs (kinds.Local op) n id noted done k =
    subst (Each (λ (e : RingEntry). down_of e ≡ None)) (sym k.2) (refl, tt)

each-joined : (P : RingEntry → Type 0) (xs ys : List RingEntry) → Each P xs → Each P ys
    → Each P (xs ++ ys)
each-joined P [] ys a b = b
each-joined P (x ∷ xs) ys a b = (a.0, each-joined P xs ys a.1 b)

all-ended-downs : (n : ℕ) (calls : List Call) (noted : List Entry) (done : List RingEntry)
    → InOrder (IsEnded n) calls noted done → Each (λ (e : RingEntry). down_of e ≡ None) done
all-ended-downs n [] noted done k =
    subst (Each (λ (e : RingEntry). down_of e ≡ None)) (sym k.1) tt
all-ended-downs n (c ∷ cs) noted done k =
    subst (Each (λ (e : RingEntry). down_of e ≡ None)) (sym k.5)
    (each-joined (λ (e : RingEntry). down_of e ≡ None) k.2 k.3
    (ended-downs c.kind n c.id k.0 k.2 k.6) (all-ended-downs n cs k.1 k.3 k.7))

visit-downs : (started : Bool) (n : ℕ) (noted : List Entry) (done : List RingEntry)
    → CollectsIf started (IsEnded n) noted done
    → Each (λ (e : RingEntry). down_of e ≡ None) done
visit-downs true n noted done k = all-ended-downs n k.0 k.1 done k.3
visit-downs false n noted done k =
    subst (Each (λ (e : RingEntry). down_of e ≡ None)) (sym k.1) tt

pub latest-visited : (alone_ram alone : Bool) (fixed : Fixed) (net : NetPlan) (n : ℕ)
    (known known' : List Entry) (ring ring' : List RingEntry)
    → VisitsEnd alone_ram alone fixed net n known known' ring ring'
    → latest_down (own n ring') ≡ latest_down (own n ring)
latest-visited alone_ram alone fixed net n known known' ring ring' v =
    let part = v.calls.goes in
    latest-adds alone n (λ (e : RingEntry). down_of e ≡ None) ring ring' (λ e is. is)
    (adds-grew alone (is_of n) (λ (e : RingEntry). down_of e ≡ None) ring part.done ring'
    (visit-downs (has_started_at fixed v.calls.asked) n part.noted part.done part.due) part.node)

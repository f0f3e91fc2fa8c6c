-- Only ends of bridges take what goes on from its target.
use Rattle.std.proofs.Common.{◌≡◌, ℕ, zero, suc, Bool, true, false, cond, not, ◌&&◌, ◌||◌, nat_le}
use Rattle.std.proofs.Common.{List, [], ◌∷◌, ◌++◌, set, map, replicate, Some, None, All}
use Rattle.std.proofs.Common.{refl, sym, subst, append-nil, append_assoc}
use Rattle.std.proofs.lemmas.Bool.{cond_both}
use Rattle.std.proofs.lemmas.List.Elements.{All-push, All-drop, All-head, All-nil, All-contains}
use Rattle.ring_core.specs.Words.{NetPlan, RingEntry, Post, Send, Take, Local, GiveUp, Pass, Leave}
use Rattle.ring_core.specs.Words.{Join, Frame, FrameKind, CallId, Fate, Fell, AcceptedRequest}
use Rattle.ring_core.specs.Words.{RepeatedRequest, CrowdedOut, AcceptedReply, DroppedReply, Heard}
use Rattle.ring_core.specs.Words.{Acked, Silent, Busy, LeaveCause, Ended, Spent, Down, is_onward}
use Rattle.ring_core.specs.Machine.{NodeIs, RingIs, addresses, part_of, ring_node, fresh, after}
use Rattle.ring_core.specs.Machine.{is_here, is_held, is_bridge, fate_at, fell, with_frame, arrives}
use Rattle.ring_core.specs.Machine.{arrival, arrived, heard_by, heard_of, hears, sent_off, failed}
use Rattle.ring_core.specs.Machine.{silence_word, sent_head, admitted, gone_by, ring_after}
use Rattle.ring_core.specs.Machine.{with_members, opening}
use Rattle.ring_core.specs.Legal.{IsFirst, IsRun, IsTimelyEntry}
use Rattle.ring_core.specs.Stability.{OnwardToBridges}
use Rattle.ring_core.proofs.Sound.{each-replicate}
use Rattle.ring_core.proofs.Stability.{admitted-part, next_ring}

-- what goes on is for the end of a bridge
abbrev IsFor : NetPlan → ℕ → Frame → Type 0
IsFor net n f = is_onward f ≡ true → is_bridge net n ≡ true

abbrev AreFor : NetPlan → List NodeIs → Type 0
AreFor net nodes = (n : ℕ) → All (IsFor net n) (part_of nodes n).inbox

each-part : (P : ℕ → NodeIs → Type 0) (nodes : List NodeIs) (m : ℕ) (c : NodeIs)
    → ((k : ℕ) → P k (part_of nodes k)) → P m c → (k : ℕ) → P k (part_of (set nodes m c) k)
each-part P [] m c all it k = all k
each-part P (d ∷ ds) zero c all it zero = it
each-part P (d ∷ ds) zero c all it (suc k) = all (suc k)
each-part P (d ∷ ds) (suc m) c all it zero = all zero
each-part P (d ∷ ds) (suc m) c all it (suc k) =
    each-part (λ j. P (suc j)) ds m c (λ j. all (suc j)) it k

set-for : (net : NetPlan) (nodes : List NodeIs) (m : ℕ) (c : NodeIs) → AreFor net nodes
    → All (IsFor net m) c.inbox → AreFor net (set nodes m c)
set-for net nodes m c all it = each-part (λ k d. All (IsFor net k) d.inbox) nodes m c all it

handed-for : (net : NetPlan) (nodes : List NodeIs) → AreFor net nodes
    → AreFor net (map admitted nodes)
handed-for net nodes all n =
    subst (λ (c : NodeIs). All (IsFor net n) c.inbox) (sym (admitted-part nodes n)) (all n)

-- who hears what goes on is the end of a bridge
heard-for : (here onward bridge : Bool) → (here && (not onward || bridge)) ≡ true → onward ≡ true
    → bridge ≡ true
heard-for true true bridge heard on = heard
heard-for true false bridge heard on = absurd (cc)
heard-for false onward bridge heard on = absurd (cc)

arrives-heard : (heard reaches : Bool) → cond heard reaches false ≡ true → heard ≡ true
arrives-heard true reaches e = refl
arrives-heard false reaches e = absurd (cc)

received-for : (net : NetPlan) (n : ℕ) (c : NodeIs) (fall : Fell) (f : Frame) → IsFor net n f
    → All (IsFor net n) c.inbox → All (IsFor net n) (with_frame c fall f).inbox
received-for net n c AcceptedRequest f it all = All-push (IsFor net n) c.inbox f all it
received-for net n c RepeatedRequest f it all = all
received-for net n c CrowdedOut f it all = all
received-for net n c AcceptedReply f it all = All-push (IsFor net n) c.inbox f all it
received-for net n c DroppedReply f it all = all

arrived-for : (net : NetPlan) (nodes : List NodeIs) (fate : Fate) (f : Frame) → AreFor net nodes
    → AreFor net (arrived nodes f (arrival net nodes fate f))
arrived-for net nodes fate f all =
    cond_both (arrives net nodes fate f) (Some (fell (part_of nodes f.to) f.kind f.id)) None
    (λ x. AreFor net (arrived nodes f x))
    (λ (come : arrives net nodes fate f ≡ true).
    set-for net nodes f.to _ all (received-for net f.to (part_of nodes f.to) _ f
    (heard-for (is_here (part_of nodes f.to)) (is_onward f) (is_bridge net f.to)
    (arrives-heard (hears net nodes f.to (is_onward f)) _ come)) (all f.to)))
    (λ _. all)

inbox-heard : (c : NodeIs) (kind : FrameKind) (id : CallId) (there : Bool) (h : Heard)
    → (heard_by c kind id there h).inbox ≡ c.inbox
inbox-heard c kind id there Acked = refl
inbox-heard c kind id there Busy = refl
inbox-heard c kind id there Silent =
    cond_both (nat_le 2 c.tries) (sent_off c (failed c kind id (silence_word there))) _
    (λ (x : NodeIs). x.inbox ≡ c.inbox) (λ _. refl) (λ _. refl)

sent-for : (net : NetPlan) (r : RingIs) (m : ℕ) (box : List Frame) → AreFor net r.nodes
    → AreFor net (sent_head net r m box).nodes
sent-for net r m [] all = all
sent-for net r m (f ∷ fs) all =
    let fate = fate_at net.fates r.sent in
    let fall = arrival net r.nodes fate f in
    let nodes = arrived r.nodes f fall in
    let come = arrived-for net r.nodes fate f all in
    set-for net nodes m _ come (subst (All (IsFor net m))
    (sym (inbox-heard (part_of nodes m) f.kind f.id (hears net r.nodes f.to (is_onward f))
    (heard_of fate fall))) (come m))

gone-for : (net : NetPlan) (n : ℕ) (c : NodeIs) (cause : LeaveCause)
    → All (IsFor net n) (gone_by cause c).inbox
gone-for net n c Ended = All-nil (IsFor net n)
gone-for net n c Spent = All-nil (IsFor net n)
gone-for net n c (Down number) = All-nil (IsFor net n)

step-for : (net : NetPlan) (r : RingIs) (e : RingEntry) → AreFor net r.nodes
    → AreFor net (after net r e).nodes
step-for net r (Post n f) all = set-for net r.nodes n _ all (all n)
step-for net r (Send n heard) all = sent-for net r n (ring_node r n).outbox all
step-for net r (Take n f) all =
    set-for net r.nodes n _ all (All-drop (IsFor net n) 1 (ring_node r n).inbox (all n))
step-for net r (Local n id op result) all = all
step-for net r (GiveUp id word) all = set-for net r.nodes id.node _ all (all id.node)
step-for net r (Pass n done words) all = handed-for net _ (set-for net r.nodes n _ all (all n))
step-for net r (Leave n cause) all =
    handed-for net _ (set-for net r.nodes n _ all (gone-for net n (ring_node r n) cause))
step-for net r (Join n) all = cond_both (is_held r) _ _ (λ (x : RingIs). AreFor net x.nodes)
    (λ _. set-for net r.nodes n _ all (all n)) (λ _. set-for net r.nodes n _ all (all n))

abbrev TakesFor : NetPlan → RingEntry → Type 0
TakesFor net (Take n f) = IsFor net n f
TakesFor net _ = Unit {0}

first-for : (net : NetPlan) (n : ℕ) (box : List Frame) (f : Frame) → IsFirst box f
    → All (IsFor net n) box → IsFor net n f
first-for net n [] f first all = absurd first
first-for net n (g ∷ gs) f first all = subst (IsFor net n) first (All-head (IsFor net n) g gs all)

take-for : (net : NetPlan) (past : List RingEntry) (r : RingIs) (e : RingEntry)
    → IsTimelyEntry net past r e → AreFor net r.nodes → TakesFor net e
take-for net past r (Post n f) t all = tt
take-for net past r (Send n heard) t all = tt
take-for net past r (Take n f) t all = first-for net n (ring_node r n).inbox f t.1 (all n)
take-for net past r (Local n id op result) t all = tt
take-for net past r (GiveUp id word) t all = tt
take-for net past r (Pass n done words) t all = tt
take-for net past r (Leave n cause) t all = tt
take-for net past r (Join n) t all = tt

run-for : (net : NetPlan) (past es : List RingEntry) → IsRun net past es
    → All (TakesFor net) past → AreFor net (ring_after net past).nodes
    → All (TakesFor net) (past ++ es)
run-for net past [] run done all = subst (All (TakesFor net)) (sym (append-nil past)) done
run-for net past (e ∷ es) run done all =
    let r = ring_after net past in
    subst (All (TakesFor net)) (append_assoc past (e ∷ []) es)
    (run-for net (past ++ e ∷ []) es run.1
    (All-push (TakesFor net) past e done (take-for net past r e run.0.1 all))
    (subst (λ (x : RingIs). AreFor net x.nodes) (sym (next_ring net past e))
    (step-for net r e all)))

joined-for : (net : NetPlan) (nodes : List NodeIs) (ms : List ℕ) → AreFor net nodes
    → AreFor net (with_members nodes ms)
joined-for net nodes [] all = all
joined-for net nodes (m ∷ ms) all = joined-for net (set nodes m (fresh true)) ms
    (set-for net nodes m (fresh true) all (All-nil (IsFor net m)))

opening-for : (net : NetPlan) → AreFor net (opening net).nodes
opening-for net = joined-for net (replicate addresses (fresh false)) net.members (λ n.
    each-replicate (λ (c : NodeIs). All (IsFor net n) c.inbox) addresses (fresh false)
    (All-nil (IsFor net n)) n)

pub onward-to-bridges : OnwardToBridges
onward-to-bridges net history n f legal taken = All-contains (TakesFor net) history (Take n f)
    (run-for net [] history legal (All-nil (TakesFor net)) (opening-for net)) taken

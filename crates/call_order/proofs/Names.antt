-- Names stand in order.
use Rattle.std.proofs.Common.{◌≡◌, ℕ, ◌+◌, ◌≤◌, ◌==◌, ◌⊎◌, Bool, true, false, cond, List, [], ◌∷◌}
use Rattle.std.proofs.Common.{◌++◌, length, map, Some, None, refl, sym, ap, subst, ◌∙◌, ⊎_elim, inl}
use Rattle.std.proofs.Common.{inr}
use Rattle.std.proofs.Common.{arith, append_assoc}
use Rattle.std.specs.List.{cons_option, flat_map, Contains, AllByRecursion as Each}
use Rattle.std.proofs.lemmas.Grind.{flat_map-append}
use Rattle.std.proofs.lemmas.List.{length-map}
use Rattle.std.proofs.lemmas.List.Elements.{filter_map-append, Contains-push, Contains-push_cases}
use Rattle.plant_types.specs.declared.net.NetPlan.{NetPlan}
use Rattle.plant_types.specs.declared.plan.Plant.{Plant}
use Rattle.ring_core.specs.Words.{frame_route, maker}
use Rattle.ring_core.specs.Legal.{IsRun, IsLegalRing}
use Rattle.ring_core.specs.declared.frame.Frame.{Frame}
use Rattle.ring_core.specs.declared.frame.FrameKind.{FrameKind}
use Rattle.ring_core.specs.declared.frame.FrameKind.TheVariants.{Request, Reply}
use Rattle.ring_core.specs.declared.entry.RingEntry.{RingEntry}
use Rattle.ring_core.specs.declared.entry.RingEntry.TheVariants.{Post, Send, Take, Local, GiveUp}
use Rattle.ring_core.specs.declared.entry.RingEntry.TheVariants.{Pass, Leave, Join}
use Rattle.ring_core.specs.declared.entry.LocalOp.{LocalOp}
use Rattle.mstr_block.specs.declared.call.MstrResult.{MstrResult}
use Rattle.mstr_block.specs.declared.call.CallId.{CallId}
use Rattle.ring_laws.specs.Once.{IsRingHistory, OnlyItsTarget, ReplyToItsCaller, TookCall}
use Rattle.tied_lists.specs.Items.{Answered, Item, RequestItem, Taken, asked_in, item_of}
use Rattle.tied_lists.specs.Items.{taken_of, taken_by, plain_items, stats_items, port_answers}
use Rattle.tied_lists.specs.Items.{replied_in, replied_of, replied_by, due_replies, replies_in}
use Rattle.tied_lists.specs.Items.{answered_of, answered_for, request_of, reply_of}
use Rattle.joint_history.specs.declared.joint.RingLog.{RingLog}
use Rattle.joint_history.specs.declared.joint.Joint.{Joint}
use Rattle.one_order.specs.Merges.{tally}
use Rattle.one_order.specs.Orders.{AtRing, Log, on_ring, if_on_ring, at_station}
use Rattle.one_order.specs.Orders.{if_at_station, own_of}
use Rattle.one_order.proofs.Merges.{tally-append}
use Rattle.one_order.proofs.Fronts.{own-append}
use Rattle.entry_causes.specs.Causes.{StationEntry, Done, PostsReply, no_notes, no_deeds, note}
use Rattle.entry_causes.specs.Causes.{deed, done_next, posting, ready, AreCaused}
use Rattle.entry_causes.specs.Joint.{stations_on, RingIsInOneOrder}
use Rattle.net_laws.proofs.On.{net-sound}
use Rattle.net_laws.proofs.Rings.{of-ring, ring-of}
use Rattle.call_order.specs.Named.{Order, own_in, asks_in, answers_in, ends_in, takes_in}
use Rattle.call_order.specs.Named.{port_takes_in, port_answers_in, overs_in, PostsFollowAsks}
use Rattle.call_order.specs.Named.{AnswersFollowTakes, PortAnswersFollowTakes, Carries}
use Rattle.call_order.specs.Named.{ReplyPostsFollowAnswers, ReplyPostsFollowTakes, EndsFollowOvers}
use Rattle.call_order.specs.Named.{TakesFollowPosts, ReplyTakesFollowPosts, CallsStandInOrder}
use Rattle.call_order.specs.Named.{IsRingOf}
use Rattle.call_order.proofs.Behind.{ring-behind, station-behind, own-behind, ring-own}
use Rattle.call_order.proofs.Behind.{ring-station}
use Rattle.call_order.proofs.Counts.{posts_in, replies_posted_in, all-asked, all-served, all-ended}
use Rattle.call_order.proofs.Counts.{all-posted, all-taken, all-taken-port, all-answered}
use Rattle.call_order.proofs.Counts.{all-replies, all-over, all-sorts, all-answers, for-station}
use Rattle.call_order.proofs.Counts.{with-reply}
use Rattle.call_order.proofs.Readings.{cons-one, takes-read, port-takes-read, port-answers-read}
use Rattle.call_order.proofs.Readings.{replies-read, items-read}
use Rattle.call_order.proofs.Ties.{Ties, all-tie}
use Rattle.call_order.proofs.Due.{Told, HasReply, due-told}
use Rattle.effect_laws.proofs.Sources.{name_of, of-map, of-own, take-of}

-- ---- One station.

abbrev Caused : ℕ → Order → Type 0
Caused n order =
    (v rest : Order) → order ≡ v ++ rest
    → AreCaused (tally note no_notes (at_station n v)) (tally deed no_deeds (own_in n v))

request-posts : (n : ℕ) (f : Frame) → f.kind ≡ Request
    → posts_in (Post n f) ≡ record { id = f.id; route = frame_route f; pdu = f.pdu } ∷ []
request-posts n f k = ap (λ (kind : FrameKind). cons_option (asked_in kind f) []) k

posts-bound : (n : ℕ) (order : Order) → Caused n order → (v rest : Order) → order ≡ v ++ rest
    → length (flat_map posts_in (own_in n v)) ≤ length (flat_map asks_in (at_station n v))
posts-bound n order c v rest q =
    let h = (c v rest q).posts in
    let a = all-asked no_notes (at_station n v) in
    let b = all-posted no_deeds (own_in n v) in
    omega (arith, h, a, b)

-- an answer by its request
abbrev items_in : StationEntry → List RequestItem
items_in e = map item_of (answers_in e)

abbrev port_items_in : RingEntry → List RequestItem
port_items_in r = map item_of (port_answers_in r)

served-size : (es : List StationEntry)
    → length (flat_map items_in es) ≡ length (flat_map answers_in es)
served-size es =
    ap length (sym (items-read answers_in es)) ∙ length-map (flat_map answers_in es) item_of

port-size : (rs : List RingEntry)
    → length (flat_map port_items_in rs) ≡ length (flat_map port_answers_in rs)
port-size rs =
    ap length (sym (items-read port_answers_in rs))
    ∙ length-map (flat_map port_answers_in rs) item_of

answers-bound : (n : ℕ) (order : Order) → Caused n order → (v rest : Order) → order ≡ v ++ rest
    → length (flat_map items_in (at_station n v)) ≤ length (flat_map takes_in (own_in n v))
answers-bound n order c v rest q =
    let h = (c v rest q).answers in
    let a = all-served no_notes (at_station n v) in
    let b = all-taken no_deeds (own_in n v) in
    let e = served-size (at_station n v) in
    omega (arith, h, a, b, e)

port-bound : (n : ℕ) (order : Order) → Caused n order → (v rest : Order) → order ≡ v ++ rest
    → length (flat_map port_items_in (own_in n v)) ≤ length (flat_map port_takes_in (own_in n v))
port-bound n order c v rest q =
    let h = (c v rest q).port_answers in
    let a = all-answered no_deeds (own_in n v) in
    let b = all-taken-port no_deeds (own_in n v) in
    let e = port-size (own_in n v) in
    omega (arith, h, a, b, e)

ends-bound : (n : ℕ) (order : Order) → Caused n order → (v rest : Order) → order ≡ v ++ rest
    → length (flat_map ends_in (at_station n v)) ≤ length (flat_map overs_in (own_in n v))
ends-bound n order c v rest q =
    let h = (c v rest q).ends in
    let a = all-ended no_notes (at_station n v) in
    let b = all-over no_deeds (own_in n v) in
    omega (arith, h, a, b)

-- the lists of an order are those that are tied
record TiedIn (n : ℕ) (order : Order) : Type 0 where
  asks : flat_map posts_in (own_in n order) ≡ flat_map asks_in (at_station n order)
  answers : map item_of (flat_map answers_in (at_station n order))
      ≡ plain_items (taken_by (own_in n order))
  port : map item_of (port_answers (own_in n order)) ≡ stats_items (taken_by (own_in n order))
  replies : replied_by (own_in n order)
      ≡ due_replies (taken_by (own_in n order))
      (replies_in (flat_map answers_in (at_station n order)))
      (replies_in (port_answers (own_in n order)))
  ends : flat_map ends_in (at_station n order) ≡ flat_map overs_in (own_in n order)

tied-in : (ring : List RingEntry) (order : Order) (log : Log StationEntry) → on_ring order ≡ ring
    → at_station log.node order ≡ log.entries → Ties ring log → TiedIn log.node order
tied-in ring order log p q t =
    tied-as (own_of maker log.node ring) log.entries (ap (own_of maker log.node) p) q t.asks
    t.answers t.port t.replies t.ends
  where
    tied-as : (b : List RingEntry) (es : List StationEntry) → own_in log.node order ≡ b
        → at_station log.node order ≡ es
        → flat_map posts_in b ≡ flat_map asks_in es
        → map item_of (flat_map answers_in es) ≡ plain_items (taken_by b)
        → map item_of (port_answers b) ≡ stats_items (taken_by b)
        → replied_by b ≡ due_replies (taken_by b) (replies_in (flat_map answers_in es))
        (replies_in (port_answers b)) → flat_map ends_in es ≡ flat_map overs_in b
        → TiedIn log.node order
    tied-as b es x y asks answers port replies ends = record {
      asks = ap (flat_map posts_in) x ∙ (asks ∙ ap (flat_map asks_in) (sym y));
      answers =
          ap (λ (l : List StationEntry). map item_of (flat_map answers_in l)) y
          ∙ (answers ∙ ap (λ (l : List RingEntry). plain_items (taken_by l)) (sym x));
      port =
          ap (λ (l : List RingEntry). map item_of (port_answers l)) x
          ∙ (port ∙ ap (λ (l : List RingEntry). stats_items (taken_by l)) (sym x));
      replies =
          subst (λ (l : List RingEntry). replied_by l
          ≡ due_replies (taken_by l) (replies_in (flat_map answers_in (at_station log.node order)))
          (replies_in (port_answers l))) (sym x)
          (subst (λ (l : List StationEntry). replied_by b
          ≡ due_replies (taken_by b) (replies_in (flat_map answers_in l))
          (replies_in (port_answers b))) (sym y) replies);
      ends = ap (flat_map ends_in) y ∙ (ends ∙ ap (flat_map overs_in) (sym x));
    }

posts-follow : (n : ℕ) (order : Order) → TiedIn n order → Caused n order → PostsFollowAsks n order
posts-follow n order t c before after f is k =
    ring-behind maker asks_in posts_in n order before after (Post n f)
    (record { id = f.id; route = frame_route f; pdu = f.pdu }) is refl (request-posts n f k) t.asks
    (posts-bound n order c)

answers-follow : (n : ℕ) (order : Order) → TiedIn n order → Caused n order
    → AnswersFollowTakes n order
answers-follow n order t c before after e answer is one =
    station-behind maker items_in takes_in n order before after e (item_of answer) is
    (ap (map item_of) one)
    (sym (items-read answers_in (at_station n order)) ∙ (t.answers ∙ takes-read (own_in n order)))
    (answers-bound n order c)

-- what answers for the port takes nothing
takes-none : (r : RingEntry) (answer : Answered) → port_answers_in r ≡ answer ∷ []
    → port_takes_in r ≡ []
takes-none (Local n id op result) answer q = refl
takes-none (Post n f) answer q = absurd (cc)
takes-none (Take n f) answer q = absurd (cc)
takes-none (GiveUp id word) answer q = absurd (cc)
takes-none (Send n heard) answer q = absurd (cc)
takes-none (Pass n done words) answer q = absurd (cc)
takes-none (Leave n cause) answer q = absurd (cc)
takes-none (Join n) answer q = absurd (cc)

port-answers-follow : (n : ℕ) (order : Order) → TiedIn n order → Caused n order
    → PortAnswersFollowTakes n order
port-answers-follow n order t c before after r answer is m one =
    own-behind maker port_takes_in port_items_in n order before after r (item_of answer) is m
    (ap (map item_of) one) (takes-none r answer one)
    (sym (items-read port_answers_in (own_in n order))
    ∙ (ap (map item_of) (sym (port-answers-read (own_in n order)))
    ∙ (t.port ∙ port-takes-read (own_in n order)))) (port-bound n order c)

ends-follow : (n : ℕ) (order : Order) → TiedIn n order → Caused n order → EndsFollowOvers n order
ends-follow n order t c before after e id is one =
    station-behind maker ends_in overs_in n order before after e id is one t.ends
    (ends-bound n order c)

-- ---- A Reply.

abbrev Tells : ℕ → Order → Frame → Type 0
Tells n before f =
    Carries f (flat_map answers_in (at_station n before))
    ⊎ Carries f (flat_map port_answers_in (own_in n before))

posting-reply : (d : Done) (n : ℕ) (f : Frame) → f.kind ≡ Reply
    → deed d (Post n f) ≡ done_next d PostsReply
posting-reply d n f k = ap (λ (kind : FrameKind). tally done_next d (posting kind ∷ [])) k

reply-posts : (n : ℕ) (f : Frame) → f.kind ≡ Reply
    → replies_posted_in (Post n f) ≡ (f.id, Some f.pdu) ∷ []
reply-posts n f k = ap (λ (kind : FrameKind). cons_option (replied_in kind f) []) k

-- what is counted, and read, where a Reply is posted
record Posting (n : ℕ) (order before after : Order) (f : Frame) : Type 0 where
  is_ready : length (replied_by (own_in n before)) + 1
      ≤ ready (map for-station (taken_by (own_in n before)))
      (map with-reply (flat_map answers_in (at_station n before)))
      (length (port_answers (own_in n before)))
  notes : at_station n order ≡ at_station n before ++ at_station n after
  deeds : own_in n order ≡ own_in n before ++ (Post n f ∷ own_in n after)

posting-at : (n : ℕ) (order before after : Order) (f : Frame) → Caused n order
    → order ≡ before ++ AtRing (Post n f) ∷ after → f.kind ≡ Reply
    → Posting n order before after f
posting-at n order before after f c is k =
    let v : Order = before ++ AtRing (Post n f) ∷ [] in
    let b : List RingEntry = own_in n before in
    let es : List StationEntry = at_station n before in
    let whole : order ≡ v ++ after = is
    ∙ sym (append_assoc before (AtRing (Post n f) ∷ []) after) in
    let own_is : own_in n v ≡ b ++ Post n f ∷ [] = ring-own maker n before (Post n f) refl in
    let done : tally deed no_deeds (own_in n v) ≡ done_next (tally deed no_deeds b) PostsReply
    = ap (tally deed no_deeds) own_is
    ∙ (tally-append deed no_deeds b (Post n f ∷ [])
    ∙ posting-reply (tally deed no_deeds b) n f k) in
    let caused : AreCaused (tally note no_notes es) (done_next (tally deed no_deeds b) PostsReply)
    = subst (λ (q : Done). AreCaused (tally note no_notes es) q) done
    (subst (λ (l : List StationEntry). AreCaused (tally note no_notes l)
    (tally deed no_deeds (own_in n v))) (ring-station n before (Post n f))
    (c v after whole)) in
    let counted = all-replies no_deeds b in
    let read : length (replied_by b)
    ≡ length (flat_map replies_posted_in b) = ap length (replies-read b) in
    let told = all-answered no_deeds b in
    let port = ap length (port-answers-read b) in
    let answered : (tally deed no_deeds b).answered_port ≡ length (port_answers b)
    = omega (arith, told, port) in
    let may : ready (tally deed no_deeds b).requests (tally note no_notes es).answers
    (tally deed no_deeds b).answered_port
    ≡ ready (map for-station (taken_by b)) (map with-reply (flat_map answers_in es))
    (length (port_answers b))
    = λ i. ready (all-sorts no_deeds b i) (all-answers no_notes es i) (answered i) in
    record {
      is_ready = let h = caused.replies in omega (arith, h, counted, read, may);
      notes =
          ap (at_station n) whole ∙ (filter_map-append (if_at_station n) v after
          ∙ ap (λ (l : List StationEntry). l ++ at_station n after)
          (ring-station n before (Post n f)));
      deeds =
          ap (own_in n) whole ∙ (ap (own_of maker n) (filter_map-append if_on_ring v after)
          ∙ (own-append maker n (on_ring v) (on_ring after)
          ∙ (ap (λ (l : List RingEntry). l ++ own_in n after) own_is
          ∙ append_assoc b (Post n f ∷ []) (own_in n after))));
    }

-- what was taken, and what was posted, before and behind a Reply
taken-split : (b rest : List RingEntry) (n : ℕ) (f : Frame)
    → taken_by (b ++ (Post n f ∷ rest)) ≡ taken_by b ++ taken_by rest
taken-split b rest n f = filter_map-append taken_of b (Post n f ∷ rest)

replied-split : (b rest : List RingEntry) (n : ℕ) (f : Frame) → f.kind ≡ Reply
    → replied_by (b ++ (Post n f ∷ rest)) ≡ replied_by b ++ (f.id, Some f.pdu) ∷ replied_by rest
replied-split b rest n f k =
    filter_map-append replied_of b (Post n f ∷ rest)
    ∙ ap (λ (l : List Item). replied_by b ++ l)
    (cons-one (replied_of (Post n f)) (replied_by rest)
    ∙ ap (λ (l : List Item). l ++ replied_by rest) (reply-posts n f k))

port-split : (b rest : List RingEntry) (n : ℕ) (f : Frame)
    → port_answers (b ++ (Post n f ∷ rest)) ≡ port_answers b ++ port_answers rest
port-split b rest n f = filter_map-append answered_of b (Post n f ∷ rest)

-- a port answers with a reply
port-one : (n : ℕ) (id : CallId) (op : LocalOp) (result : MstrResult) (answers : List Answered)
    → Each HasReply answers → Each HasReply (cons_option (answered_for n id op result) answers)
port-one n id op result answers has = at (id.node == n)
  where
    at : (own : Bool) → Each HasReply (cons_option (cond own None (Some
        (record {
          id = id;
          rest = [];
          request = request_of op;
          reply = Some (reply_of result);
        }))) answers)
    at true = has
    at false = (refl, has)

port-replies : (b : List RingEntry) → Each HasReply (port_answers b)
port-replies [] = tt
port-replies (Post n f ∷ b) = port-replies b
port-replies (Send n heard ∷ b) = port-replies b
port-replies (Take n f ∷ b) = port-replies b
port-replies (Local n id op result ∷ b) =
    port-one n id op result (port_answers b) (port-replies b)
port-replies (GiveUp id word ∷ b) = port-replies b
port-replies (Pass n done words ∷ b) = port-replies b
port-replies (Leave n cause ∷ b) = port-replies b
port-replies (Join n ∷ b) = port-replies b

-- the Request stands on the ring
took : (n : ℕ) (before : Order) (u : Taken) (id : CallId) → Contains (taken_by (own_in n before)) u
    → name_of u ≡ id → TookCall (on_ring before) n id
took n before u id there name =
    let found = of-map taken_of (own_in n before) u there in
    let t = take-of found.0 u found.2 in
    let entry : Contains (own_in n before) (Take t.node t.frame) = subst
    (λ (e : RingEntry). Contains (own_in n before) e) t.is found.1 in
    let on = of-own n (on_ring before) (Take t.node t.frame) entry in
    record {
      request = t.frame;
      taken = subst (λ (k : ℕ). Contains (on_ring before) (Take k t.frame)) on.1 on.0;
      kind = t.kind;
      same = t.id ∙ name;
    }

reply-told : (n : ℕ) (order before after : Order) (f : Frame) → f.kind ≡ Reply → TiedIn n order
    → Posting n order before after f
    → Told (taken_by (own_in n before)) (flat_map answers_in (at_station n before))
    (port_answers (own_in n before)) f.id f.pdu
reply-told n order before after f k t p =
    let b : List RingEntry = own_in n before in
    let rest : List RingEntry = own_in n after in
    let taken = ap taken_by p.deeds ∙ taken-split b rest n f in
    let port = ap port_answers p.deeds ∙ port-split b rest n f in
    let peers = ap (flat_map answers_in) p.notes
    ∙ flat_map-append answers_in (at_station n before) (at_station n after) in
    let replied = ap replied_by p.deeds ∙ replied-split b rest n f k in
    due-told (taken_by b) (flat_map answers_in (at_station n before)) (port_answers b)
    (port-replies b) (taken_by rest) (flat_map answers_in (at_station n after))
    (port_answers rest) (replied_by b) (replied_by rest) f.id f.pdu
    (ap (map item_of) (sym peers) ∙ (t.answers ∙ ap plain_items taken))
    (ap (map item_of) (sym port) ∙ (t.port ∙ ap stats_items taken))
    (sym replied
    ∙ (t.replies ∙ (λ i. due_replies (taken i) (replies_in (peers i)) (replies_in (port i)))))
    p.is_ready

reply-posts-follow : (n : ℕ) (order : Order) → TiedIn n order → Caused n order
    → ReplyPostsFollowAnswers n order
reply-posts-follow n order t c before after f is k =
    let x = reply-told n order before after f k t (posting-at n order before after f c is k) in
    ⊎_elim
    (λ (p : Contains (flat_map answers_in (at_station n before)) x.answer).
    inl (record { answer = x.answer; among = p; call = x.call; reply = x.reply }))
    (λ (l : Contains (port_answers (own_in n before)) x.answer). inr (record {
      answer = x.answer;
      among = subst (λ (q : List Answered). Contains q x.answer)
          (port-answers-read (own_in n before)) l;
      call = x.call;
      reply = x.reply;
    })) x.given

reply-requests-follow : (n : ℕ) (order : Order) → TiedIn n order → Caused n order
    → ReplyPostsFollowTakes n order
reply-requests-follow n order t c before after f is k =
    let x = reply-told n order before after f k t (posting-at n order before after f c is k) in
    took n before x.request f.id x.among x.name

-- ---- All stations.

module _ (P : ℕ → Order → Type 0)
    (law : (n : ℕ) (order : Order) → TiedIn n order → Caused n order → P n order) where
  each : (ring : List RingEntry) (order : Order) (logs : List (Log StationEntry))
      → on_ring order ≡ ring
      → Each (Ties ring) logs → Each
      (λ (log : Log StationEntry). at_station log.node order ≡ log.entries) logs
      → Each (λ (log : Log StationEntry). Caused log.node order) logs
      → Each (λ (log : Log StationEntry). P log.node order) logs
  each ring order [] p t s c = tt
  each ring order (log ∷ logs) p t s c = (
    law log.node order (tied-in ring order log p s.0 t.0) c.0,
    each ring order logs p t.1 s.1
        c.1,
  )

-- ---- The ring.

run-front : (net : NetPlan) (past a b : List RingEntry) → IsRun net past (a ++ b)
    → IsRun net past a
run-front net past [] b x = tt
run-front net past (e ∷ a) b x = (x.0, run-front net (past ++ e ∷ []) a b x.1)

-- a front that ends with an entry of the ring
pub front-history : (net : NetPlan) (ring : List RingEntry) (order before after : Order)
    (r : RingEntry) → IsRingHistory net ring → on_ring order ≡ ring
    → order ≡ before ++ AtRing r ∷ after
    → IsRingHistory net (on_ring before ++ r ∷ [])
front-history net ring order before after r h p is =
    let e : ring ≡ (on_ring before ++ r ∷ []) ++ on_ring after = sym p
    ∙ (ap on_ring is ∙ (filter_map-append if_on_ring before (AtRing r ∷ after)
    ∙ sym (append_assoc (on_ring before) (r ∷ []) (on_ring after)))) in
    record {
      members = h.members;
      legal = run-front net [] (on_ring before ++ r ∷ []) (on_ring after)
          (subst (λ (l : List RingEntry). IsLegalRing net l) e h.legal);
    }

pub not-itself : (before : List RingEntry) (n m : ℕ) (f g : Frame)
    → Contains (before ++ Take n f ∷ []) (Post m g) → Contains before (Post m g)
not-itself before n m f g x =
    ⊎_elim (λ (a : Contains before (Post m g)). a) (λ (e : Take n f ≡ Post m g). absurd (cc))
    (Contains-push_cases before (Take n f) (Post m g) x)

takes-follow : OnlyItsTarget → (net : NetPlan) (ring : List RingEntry) (order : Order)
    → IsRingHistory net ring → on_ring order ≡ ring → TakesFollowPosts order
takes-follow law net ring order h p before after n f is k =
    not-itself (on_ring before) n f.id.node f f
    (law net (on_ring before ++ Take n f ∷ []) n f
    (front-history net ring order before after (Take n f) h p is)
    (inr (Contains-push (on_ring before) (Take n f))) k).2

reply-takes-follow : ReplyToItsCaller → (net : NetPlan) (ring : List RingEntry) (order : Order)
    → IsRingHistory net ring → on_ring order ≡ ring → ReplyTakesFollowPosts order
reply-takes-follow law net ring order h p before after n f is k =
    let by = (law net (on_ring before ++ Take n f ∷ []) n f
    (front-history net ring order before after (Take n f) h p is)
    (inr (Contains-push (on_ring before) (Take n f))) k).3 in
    (by.0, not-itself (on_ring before) n by.0 f f by.2)

-- the list of a ring of a plant's joint history is a history of its network
pub ring-history-of : (plant : Plant) (scans : ℕ) (joint : Joint) (ring : RingLog)
    → IsRingOf plant scans joint ring → (net : NetPlan) × IsRingHistory net ring.entries
ring-history-of plant scans joint ring is =
    let of = of-ring plant joint.rings is.sound is.legal.rings ring is.there in
    (of.net, ring-of plant of.net ring (net-sound plant of.net is.sound of.there) of.legal)

module _ (plant : Plant) (scans : ℕ) (joint : Joint) (ring : RingLog)
    (is : IsRingOf plant scans joint ring) (one : RingIsInOneOrder plant joint ring) where
  of-all : (P : ℕ → Order → Type 0)
      → ((n : ℕ) (order : Order) → TiedIn n order → Caused n order → P n order)
      → Each (λ (log : Log StationEntry). P log.node one.order)
      (stations_on plant ring.network joint)
  of-all P law =
      each P law ring.entries one.order (stations_on plant ring.network joint) one.ring_is
      (all-tie plant scans joint ring is) one.stations one.caused

  pub replies-behind : Each (λ (log : Log StationEntry). ReplyPostsFollowTakes log.node one.order)
      (stations_on plant ring.network joint)
  replies-behind = of-all ReplyPostsFollowTakes reply-requests-follow

pub in-order : OnlyItsTarget → ReplyToItsCaller → CallsStandInOrder
in-order target caller plant scans joint ring is one =
    let h = ring-history-of plant scans joint ring is in
    record {
      posts = of-all plant scans joint ring is one PostsFollowAsks posts-follow;
      answers = of-all plant scans joint ring is one AnswersFollowTakes answers-follow;
      port_answers =
          of-all plant scans joint ring is one PortAnswersFollowTakes port-answers-follow;
      reply_posts =
          of-all plant scans joint ring is one ReplyPostsFollowAnswers reply-posts-follow;
      reply_requests = replies-behind plant scans joint ring is one;
      ends = of-all plant scans joint ring is one EndsFollowOvers ends-follow;
      takes = takes-follow target h.0 ring.entries one.order h.1 one.ring_is;
      reply_takes = reply-takes-follow caller h.0 ring.entries one.order h.1 one.ring_is;
    }

-- Sizes and bounds after one more entry.
use Rattle.std.proofs.Common.{◌≡◌, ℕ, zero, suc, ◌+◌, ◌≤◌, Bool, true, false, cond, List, [], ◌∷◌}
use Rattle.std.proofs.Common.{◌++◌, length, get_or, set, map, drop, replicate, nat_le, not, filter}
use Rattle.std.proofs.Common.{Option, Some, None, refl, ◌∙◌, arith, leb-false}
use Rattle.std.proofs.lemmas.Bool.{cond_both}
use Rattle.std.proofs.lemmas.List.{length-set, length-map, length-replicate}
use Rattle.ring_core.specs.Words.{NetPlan, RingEntry, Post, Send, Take, Local, GiveUp, Pass, Leave}
use Rattle.ring_core.specs.Words.{Join, LeaveCause, Ended, Spent, Down, NodeStatus, In, Asking}
use Rattle.ring_core.specs.Words.{Frame, FrameKind, Request, Reply, CallId, Heard, Acked, Silent}
use Rattle.ring_core.specs.Words.{Busy, Await, Nothing, Out, Arrived, Failed, Path, Fell}
use Rattle.ring_core.specs.Words.{AcceptedRequest, RepeatedRequest, CrowdedOut, AcceptedReply}
use Rattle.ring_core.specs.Words.{DroppedReply, asks_for, is_onward}
use Rattle.ring_core.specs.Machine.{NodeIs, RingIs, part_of, ring_node, no_path, fresh, passes_of}
use Rattle.ring_core.specs.Machine.{asked, took, after_pass, aged, aged_await, gone, gave_up}
use Rattle.ring_core.specs.Machine.{is_head, with_frame, heard_by, sent_off, failed, arrived}
use Rattle.ring_core.specs.Machine.{arrival, sent_head, heard_of, fate_at, addresses, opening}
use Rattle.ring_core.specs.Machine.{with_members, after, silence_word, busy_word, hears, is_held}
use Rattle.ring_core.specs.Machine.{with_status, admitted, downed, gone_by, handed_on}
use Rattle.ring_core.specs.Kept.{IsSoundNode, IsSoundRing}

-- what holds at each place of a list, past its end too, after a write
pub each-set : {X : Type 0} (P : X → Type 0) (xs : List X) (d : X) (m : ℕ) (x : X)
    → ((n : ℕ) → P (get_or xs n d)) → P x → (n : ℕ) → P (get_or (set xs m x) n d)
each-set P [] d m x all it n = all n
each-set P (y ∷ ys) d zero x all it zero = it
each-set P (y ∷ ys) d zero x all it (suc n) = all (suc n)
each-set P (y ∷ ys) d (suc m) x all it zero = all zero
each-set P (y ∷ ys) d (suc m) x all it (suc n) = each-set P ys d m x (λ k. all (suc k)) it n

pub each-map : {X : Type 0} (P Q : X → Type 0) (f : X → X) (xs : List X) (d : X)
    → ((x : X) → P x → Q (f x)) → Q d
    → ((n : ℕ) → P (get_or xs n d)) → (n : ℕ) → Q (get_or (map f xs) n d)
each-map P Q f [] d step it all n = it
each-map P Q f (y ∷ ys) d step it all zero = step y (all zero)
each-map P Q f (y ∷ ys) d step it all (suc n) = each-map P Q f ys d step it (λ k. all (suc k)) n

abbrev WaitsAtMost : ℕ → Path → Type 0
WaitsAtMost k p = passes_of p.awaits ≤ k

later : (k : ℕ) (c : NodeIs) → IsSoundNode k c → IsSoundNode (k + 1) c
later k c s = record {
  tries = s.tries;
  passes = omega (arith, s.passes);
  done_run = omega (arith, s.done_run);
  paths = s.paths;
  waits = λ p. omega (arith, s.waits p);
}

-- new paths
repathed : (k : ℕ) (c : NodeIs) (path : ℕ) (new : Path) → IsSoundNode k c → passes_of new.awaits ≤ k
    → IsSoundNode k (record c { paths = set c.paths path new })
repathed k c path new s low = record {
  tries = s.tries;
  passes = s.passes;
  done_run = s.done_run;
  paths = length-set c.paths path new
      ∙ s.paths;
  waits = each-set (WaitsAtMost k) c.paths no_path path new s.waits low;
}

-- other boxes and tries
reboxed : (k : ℕ) (c : NodeIs) (outbox inbox : List Frame) (tries : ℕ) → IsSoundNode k c → tries ≤ 2
    → IsSoundNode k (record c { outbox = outbox; inbox = inbox; tries = tries })
reboxed k c outbox inbox tries s low = record {
  tries = low;
  passes = s.passes;
  done_run = s.done_run;
  paths = s.paths;
  waits = s.waits;
}

posted-sound : (k : ℕ) (c : NodeIs) (f : Frame) (kind : FrameKind) → IsSoundNode k c
    → IsSoundNode k (record c { outbox = c.outbox ++ f ∷ []; paths = asked c kind f })
posted-sound k c f Request s =
    repathed k (record c { outbox = c.outbox ++ f ∷ [] }) f.id.path _
    (reboxed k c (c.outbox ++ f ∷ []) c.inbox c.tries s s.tries) (omega arith)
posted-sound k c f Reply s = reboxed k c (c.outbox ++ f ∷ []) c.inbox c.tries s s.tries

took-sound : (k : ℕ) (c : NodeIs) (kind : FrameKind) (id : CallId) → IsSoundNode k c
    → IsSoundNode k (took c kind id)
took-sound k c Request id s = reboxed k c c.outbox (drop 1 c.inbox) c.tries s s.tries
took-sound k c Reply id s = repathed k (record c { inbox = drop 1 c.inbox }) id.path _
    (reboxed k c c.outbox (drop 1 c.inbox) c.tries s s.tries) (omega arith)

few_tries : (head : Bool) (tries : ℕ) → tries ≤ 2 → cond head 0 tries ≤ 2
few_tries true tries low = omega arith
few_tries false tries low = low

gave_up-sound : (k : ℕ) (c : NodeIs) (id : CallId) → IsSoundNode k c → IsSoundNode k (gave_up c id)
gave_up-sound k c id s =
    let outbox = filter (λ f. not (asks_for id f)) c.outbox in
    let tries = cond (is_head id c.outbox) 0 c.tries in
    repathed k (record c { outbox = outbox; tries = tries }) id.path _
    (reboxed k c outbox c.inbox tries s (few_tries (is_head id c.outbox) c.tries s.tries))
    (omega arith)

aged-waits : (k : ℕ) (a : Await) → passes_of a ≤ k → passes_of (aged_await a) ≤ k + 1
aged-waits k Nothing h = omega arith
aged-waits k (Out number to onward passes) h = omega arith
aged-waits k (Arrived number) h = omega arith
aged-waits k (Failed number word) h = omega arith

run-low : (k run : ℕ) (done : Bool) → run ≤ k → cond done (run + 1) 0 ≤ k + 1
run-low k run true h = omega arith
run-low k run false h = omega arith

passed-sound : (k : ℕ) (c : NodeIs) (done : Bool) → IsSoundNode k c
    → IsSoundNode (k + 1) (after_pass c done)
passed-sound k c done s = record {
  tries = s.tries;
  passes = omega (arith, s.passes);
  done_run = run-low k c.done_run done s.done_run;
  paths = length-map c.paths aged ∙ s.paths;
  waits =
      each-map (WaitsAtMost k) (WaitsAtMost (k + 1)) aged c.paths no_path
      (λ p h. aged-waits k p.awaits h) (omega arith) s.waits;
}

gone-sound : (k : ℕ) (c : NodeIs) → IsSoundNode k c → IsSoundNode k (gone c)
gone-sound k c s = record {
  tries = s.tries;
  passes = s.passes;
  done_run = s.done_run;
  paths = s.paths;
  waits = s.waits;
}

downed-sound : (k : ℕ) (c : NodeIs) (number : ℕ) → IsSoundNode k c → IsSoundNode k (downed c number)
downed-sound k c number s = record {
  tries = omega arith;
  passes = s.passes;
  done_run = omega arith;
  paths = s.paths;
  waits = s.waits;
}

left-sound : (k : ℕ) (c : NodeIs) (cause : LeaveCause) → IsSoundNode k c
    → IsSoundNode k (gone_by cause c)
left-sound k c Ended s = gone-sound k c s
left-sound k c Spent s = gone-sound k c s
left-sound k c (Down number) s = downed-sound k c number s

-- another status
status-sound : (k : ℕ) (c : NodeIs) (status : NodeStatus) → IsSoundNode k c
    → IsSoundNode k (with_status c status)
status-sound k c status s = record {
  tries = s.tries;
  passes = s.passes;
  done_run = s.done_run;
  paths = s.paths;
  waits = s.waits;
}

received-sound : (k : ℕ) (c : NodeIs) (fall : Fell) (f : Frame) → IsSoundNode k c
    → IsSoundNode k (with_frame c fall f)
received-sound k c AcceptedRequest f s = record {
  tries = s.tries;
  passes = s.passes;
  done_run = s.done_run;
  paths = s.paths;
  waits = s.waits;
}
received-sound k c RepeatedRequest f s = s
received-sound k c CrowdedOut f s = s
received-sound k c AcceptedReply f s =
    repathed k (record c { inbox = c.inbox ++ f ∷ [] }) f.id.path _
    (reboxed k c c.outbox (c.inbox ++ f ∷ []) c.tries s s.tries) (omega arith)
received-sound k c DroppedReply f s = s

failed-sound : (k : ℕ) (c : NodeIs) (kind : FrameKind) (id : CallId) (word : ℕ) → IsSoundNode k c
    → IsSoundNode k (sent_off c (failed c kind id word))
failed-sound k c Request id word s =
    repathed k (record c { outbox = drop 1 c.outbox; tries = 0 }) id.path _
    (reboxed k c (drop 1 c.outbox) c.inbox 0 s (omega arith)) (omega arith)
failed-sound k c Reply id word s =
    reboxed k c (drop 1 c.outbox) c.inbox 0 s (omega arith)

heard-sound : (k : ℕ) (c : NodeIs) (kind : FrameKind) (id : CallId) (there : Bool) (h : Heard)
    → IsSoundNode k c → IsSoundNode k (heard_by c kind id there h)
heard-sound k c kind id there Acked s =
    reboxed k c (drop 1 c.outbox) c.inbox 0 s (omega arith)
heard-sound k c kind id there Busy s = failed-sound k c kind id busy_word s
heard-sound k c kind id there Silent s =
    cond_both (nat_le 2 c.tries) _ _ (IsSoundNode k)
    (λ _. failed-sound k c kind id (silence_word there) s)
    (λ few. reboxed k c c.outbox c.inbox (c.tries + 1) s
    (omega (arith, leb-false 2 c.tries few)))

record AreSound (k : ℕ) (nodes : List NodeIs) : Type 0 where
  pub size : length nodes ≡ addresses
  pub each : (n : ℕ) → IsSoundNode k (part_of nodes n)

arrived-sound : (k : ℕ) (nodes : List NodeIs) (f : Frame) (fall : Option Fell) → AreSound k nodes
    → AreSound k (arrived nodes f fall)
arrived-sound k nodes f None s = s
arrived-sound k nodes f (Some fall) s = record {
  size = length-set nodes f.to _
      ∙ s.size;
  each = each-set (IsSoundNode k) nodes (fresh false) f.to _ s.each
      (received-sound k (part_of nodes f.to) fall f (s.each f.to));
}

all-later : (k : ℕ) (nodes : List NodeIs) → ((n : ℕ) → IsSoundNode k (part_of nodes n)) → (n : ℕ)
    → IsSoundNode (k + 1) (part_of nodes n)
all-later k nodes all n = later k (part_of nodes n) (all n)

sent-sound : (net : NetPlan) (k : ℕ) (r : RingIs) (n : ℕ) (box : List Frame) → IsSoundRing k r
    → IsSoundRing (k + 1) (sent_head net r n box)
sent-sound net k r n [] s =
    record { sent = omega (arith, s.sent); size = s.size; each = all-later k r.nodes s.each }
sent-sound net k r n (f ∷ fs) s =
    let fate = fate_at net.fates r.sent in
    let fall = arrival net r.nodes fate f in
    let nodes = arrived r.nodes f fall in
    let a = arrived-sound k r.nodes f fall (record { size = s.size; each = s.each }) in
    record {
      sent = omega (arith, s.sent);
      size = length-set nodes n _
          ∙ a.size;
      each = all-later k _ (each-set (IsSoundNode k) nodes (fresh false) n _ a.each
          (heard-sound k (part_of nodes n) f.kind f.id (hears net r.nodes f.to (is_onward f))
          (heard_of fate fall) (a.each n)));
    }

-- one node's part is written
put-sound : (k : ℕ) (r : RingIs) (n : ℕ) (c : NodeIs) → IsSoundRing k r → IsSoundNode k c
    → IsSoundRing (k + 1) (record r { nodes = set r.nodes n c })
put-sound k r n c s it = record {
  sent = omega (arith, s.sent);
  size = length-set r.nodes n c
      ∙ s.size;
  each = all-later k (set r.nodes n c)
      (each-set (IsSoundNode k) r.nodes (fresh false) n c s.each it);
}

pub each-replicate : {X : Type 0} (P : X → Type 0) (n : ℕ) (x : X) → P x → (m : ℕ)
    → P (get_or (replicate n x) m x)
each-replicate P zero x it m = it
each-replicate P (suc n) x it zero = it
each-replicate P (suc n) x it (suc m) = each-replicate P n x it m

fresh-sound : (k : ℕ) (here : Bool) → IsSoundNode k (fresh here)
fresh-sound k here = record {
  tries = omega arith;
  passes = omega arith;
  done_run = omega arith;
  paths = refl;
  waits = each-replicate (WaitsAtMost k) 5 no_path (omega arith);
}

-- all who ask come in, and the token goes on
handed-sound : (k : ℕ) (r : RingIs) (nodes : List NodeIs) (n : ℕ) → r.sent ≤ k
    → length nodes ≡ addresses → ((m : ℕ) → IsSoundNode k (part_of nodes m))
    → IsSoundRing k (handed_on r nodes n)
handed-sound k r nodes n sent size each = record {
  sent = sent;
  size = length-map nodes admitted ∙ size;
  each = each-map (IsSoundNode k) (IsSoundNode k) admitted nodes (fresh false)
      (λ c s. status-sound k c _ s) (fresh-sound k false) each;
}

pub after-sound : (net : NetPlan) (k : ℕ) (r : RingIs) (e : RingEntry) → IsSoundRing k r
    → IsSoundRing (k + 1) (after net r e)
after-sound net k r (Post n f) s =
    put-sound k r n _ s (posted-sound k (ring_node r n) f f.kind (s.each n))
after-sound net k r (Send n heard) s = sent-sound net k r n (ring_node r n).outbox s
after-sound net k r (Take n f) s =
    put-sound k r n _ s (took-sound k (ring_node r n) f.kind f.id (s.each n))
after-sound net k r (Local n id op result) s =
    record { sent = omega (arith, s.sent); size = s.size; each = all-later k r.nodes s.each }
after-sound net k r (GiveUp id word) s =
    put-sound k r id.node _ s (gave_up-sound k (ring_node r id.node) id (s.each id.node))
after-sound net k r (Pass n done words) s =
    handed-sound (k + 1) r _ n (omega (arith, s.sent)) (length-set r.nodes n _ ∙ s.size)
    (each-set (IsSoundNode (k + 1)) r.nodes (fresh false) n _ (all-later k r.nodes s.each)
    (passed-sound k (ring_node r n) done (s.each n)))
after-sound net k r (Leave n cause) s =
    handed-sound (k + 1) r _ n (omega (arith, s.sent)) (length-set r.nodes n _ ∙ s.size)
    (all-later k _ (each-set (IsSoundNode k) r.nodes (fresh false) n _ s.each
    (left-sound k (ring_node r n) cause (s.each n))))
after-sound net k r (Join n) s =
    let at = ring_node r n in
    let in_now = put-sound k r n (with_status at In) s (status-sound k at In (s.each n)) in
    let asks = put-sound k r n (with_status at Asking) s (status-sound k at Asking (s.each n)) in
    cond_both (is_held r) _ _ (IsSoundRing (k + 1)) (λ _. asks)
    (λ _. record { sent = in_now.sent; size = in_now.size; each = in_now.each })

joined-sound : (nodes : List NodeIs) (ms : List ℕ) → AreSound 0 nodes
    → AreSound 0 (with_members nodes ms)
joined-sound nodes [] s = s
joined-sound nodes (m ∷ ms) s = joined-sound (set nodes m (fresh true)) ms
    (record {
      size = length-set nodes m _ ∙ s.size;
      each = each-set (IsSoundNode 0) nodes (fresh false) m _ s.each (fresh-sound 0 true);
    })

pub opening-sound : (net : NetPlan) → IsSoundRing 0 (opening net)
opening-sound net =
    let s = joined-sound (replicate addresses (fresh false)) net.members
    (record {
      size = length-replicate addresses (fresh false);
      each = each-replicate (IsSoundNode 0) addresses (fresh false) (fresh-sound 0 false);
    }) in
    record { sent = omega arith; size = s.size; each = s.each }

-- What was known stays known after one more entry.
use Rattle.std.proofs.Common.{◌≡◌, ℕ, zero, suc, ◌+◌, ◌<◌, ◌≤◌, Bool, false, List, [], ◌∷◌, ◌++◌}
use Rattle.std.proofs.Common.{get_or, set, length, count_by, refl, sym, ◌∙◌, subst, arith}
use Rattle.std.proofs.lemmas.List.{length-set}
use Rattle.std.proofs.lemmas.List.Elements.{Contains-append_left}
use Rattle.ring_core.specs.MstrBlock.{CallId}
use Rattle.ring_core.specs.declared.frame.FrameKind.{FrameKind}
use Rattle.ring_core.specs.declared.frame.FrameKind.TheVariants.{Request, Reply}
use Rattle.ring_core.specs.declared.frame.Frame.{Frame}
use Rattle.plant_types.specs.declared.net.NetPlan.{NetPlan}
use Rattle.ring_core.specs.declared.entry.RingEntry.{RingEntry}
use Rattle.ring_core.specs.declared.entry.RingEntry.TheVariants.{Post, Send, Take, Local, GiveUp}
use Rattle.ring_core.specs.declared.entry.RingEntry.TheVariants.{Pass, Leave, Join}
use Rattle.ring_core.specs.declared.path.Await.{Await}
use Rattle.ring_core.specs.declared.path.Await.TheVariants.{Nothing, Out, Arrived, Failed}
use Rattle.ring_core.specs.declared.path.Path.{Path}
use Rattle.ring_core.specs.Machine.{AcceptedIs, NodeIs, RingIs, no_path, ring_node, awaiting}
use Rattle.ring_laws.specs.Once.{posts, HasAsked}
use Rattle.ring_laws.proofs.Rests.{Each, takes_at, Sending, AskedIfReply, CameTo, IsAskedFor, Below}
use Rattle.ring_laws.proofs.Rests.{PartsRest, NodeRests, EntryRests, RingRests}
use Rattle.ring_laws.proofs.Lists.{each-push, each-map, count-push, none-if, each-put}

pub asked-more : (h : List RingEntry) (e : RingEntry) (n : ℕ) (id : CallId) → HasAsked h n id
    → HasAsked (h ++ e ∷ []) n id
asked-more h e n id a = record {
  request = a.request;
  posted = Contains-append_left h (e ∷ []) _ a.posted;
  kind = a.kind;
  same = a.same;
}

pub sending-more : (net : NetPlan) (h : List RingEntry) (e : RingEntry) (n : ℕ) (f : Frame)
    → Sending net h n f → Sending net (h ++ e ∷ []) n f
sending-more net h e n f s = (Contains-append_left h (e ∷ []) _ s.0, s.1)

if-reply-more : (h : List RingEntry) (e : RingEntry) (n : ℕ) (id : CallId) (kind : FrameKind)
    → AskedIfReply h n id kind → AskedIfReply
    (h ++ e ∷ []) n id kind
if-reply-more h e n id Request a = tt
if-reply-more h e n id Reply a = asked-more h e n id a

pub came-more : (net : NetPlan) (h : List RingEntry) (e : RingEntry) (n : ℕ) (f : Frame)
    → CameTo net h n f → CameTo net (h ++ e ∷ []) n f
came-more net h e n f c = record {
  to = c.to;
  by = c.by;
  sent = sending-more net h e c.by f c.sent;
  asked = if-reply-more h e n f.id f.kind c.asked;
}

pub awaits-more : (h : List RingEntry) (e : RingEntry) (n p : ℕ) (a : Await) → IsAskedFor h n p a
    → IsAskedFor (h ++ e ∷ []) n p a
awaits-more h e n p Nothing k = tt
awaits-more h e n p (Out seq to onward passes) k = asked-more h e n _ k
awaits-more h e n p (Arrived seq) k = asked-more h e n _ k
awaits-more h e n p (Failed seq word) k = k

pub entry-more : (net : NetPlan) (h : List RingEntry) (e x : RingEntry) → EntryRests net h x
    → EntryRests net (h ++ e ∷ []) x
entry-more net h e (Post n f) k = k
entry-more net h e (Send n heard) k = k
entry-more net h e (Take n f) k = came-more net h e n f k
entry-more net h e (Local n id op result) k = k
entry-more net h e (GiveUp id word) k = k
entry-more net h e (Pass n done words) k = k
entry-more net h e (Leave n cause) k = k
entry-more net h e (Join n) k = k

-- counts below a mark
pub below-less : (c d mark number : ℕ) → d ≤ c → Below c mark number → Below d mark number
below-less c d mark number le b = record {
  once = let o = b.once in omega (arith, le, o);
  none = λ lt. let z = b.none lt in omega (arith, le, z);
}

pub below-up : (c mark up number : ℕ) → mark ≤ up → Below c mark number → Below c up number
below-up c mark up number le b =
    record { once = b.once; none = λ lt. b.none (omega (arith, le, lt)) }

pub below-one : (c d mark up number : ℕ) → mark < number → up ≡ number → d ≡ c + 1
    → Below c mark number → Below d up number
below-one c d mark up number lt is more b = let z = b.none lt in
    record { once = omega (arith, more, z); none = λ l. absurd (omega (arith, l, is)) }

pub count-same : {X : Type 0} (p : X → Bool) (xs : List X) (x : X) → p x ≡ false
    → count_by p (xs ++ x ∷ []) ≡ count_by p xs
count-same p xs x no' =
    let c = count-push p xs x in let o = none-if (p x) no' in omega (arith, c, o)

-- one more entry that neither posts a Request of the node nor takes one there
pub quiet : (net : NetPlan) (h : List RingEntry) (e : RingEntry) (n : ℕ) (ps : List Path)
    (as' : AcceptedIs) (out box : List Frame)
    → ((id : CallId) → id.node ≡ n → posts id e ≡ false) → ((id : CallId) → takes_at n id e ≡ false)
    → PartsRest net h n ps as' out box → PartsRest net (h ++ e ∷ []) n ps as' out box
quiet net h e n ps as' out box np nt i = record {
  paths_all = i.paths_all;
  sending = each-map _ _ out (λ f x. sending-more net h e n f x) i.sending;
  coming = each-map _ _ box (λ f x. came-more net h e n f x) i.coming;
  awaits = λ p. awaits-more h e n p _ (i.awaits p);
  asked = λ id is. below-less _ _ _ _
      (let c = count-same (posts id) h e (np id is) in omega (arith, c)) (i.asked id is);
  seen = λ id. below-less _ _ _ _
      (let c = count-same (takes_at n id) h e (nt id) in omega (arith, c)) (i.seen id);
}

-- a path that awaits something else
posted-set : (ps : List Path) (q p : ℕ) (v : Path) → v.posted ≡ (get_or ps q no_path).posted
    → (get_or (set ps q v) p no_path).posted ≡ (get_or ps p no_path).posted
posted-set [] q p v e = refl
posted-set (x ∷ xs) zero zero v e = e
posted-set (x ∷ xs) zero (suc p) v e = refl
posted-set (x ∷ xs) (suc q) zero v e = refl
posted-set (x ∷ xs) (suc q) (suc p) v e = posted-set xs q p v e

pub awaiting-rests : (net : NetPlan) (h : List RingEntry) (n : ℕ) (c : NodeIs) (as' : AcceptedIs)
    (out box : List Frame) (q : ℕ) (a : Await) → IsAskedFor h n q a
    → PartsRest net h n c.paths as' out box → PartsRest net h n (awaiting c q a) as' out box
awaiting-rests net h n c as' out box q a k i = record {
  paths_all = length-set _ _ _ ∙ i.paths_all;
  sending = i.sending;
  coming = i.coming;
  awaits = each-put (λ p x. IsAskedFor h n p x.awaits) c.paths no_path q _ i.awaits k;
  asked = λ id is. subst (λ (m : ℕ). Below (count_by (posts id) h) m id.seq)
      (sym (posted-set c.paths q id.path _ refl)) (i.asked id is);
  seen = i.seen;
}

-- other boxes
pub out-rests : (net : NetPlan) (h : List RingEntry) (n : ℕ) (ps : List Path) (as' : AcceptedIs)
    (out out' box : List Frame) → Each (Sending net h n) out'
    → PartsRest net h n ps as' out box → PartsRest net h n ps as' out' box
out-rests net h n ps as' out out' box k i = record {
  paths_all = i.paths_all;
  sending = k;
  coming = i.coming;
  awaits = i.awaits;
  asked = i.asked;
  seen = i.seen;
}

pub empty-rests : (net : NetPlan) (h : List RingEntry) (n : ℕ) (ps : List Path) (as' : AcceptedIs)
    (out box : List Frame) → PartsRest net h n ps as' out box
    → PartsRest net h n ps as' out []
empty-rests net h n ps as' out box i = record {
  paths_all = i.paths_all;
  sending = i.sending;
  coming = tt;
  awaits = i.awaits;
  asked = i.asked;
  seen = λ id. below-less _ _ _ _ (omega arith) (i.seen id);
}

-- an entry that posts and takes nothing
pub quiet-all : (net : NetPlan) (h : List RingEntry) (r : RingIs) (e : RingEntry)
    → ((id : CallId) → posts id e ≡ false) → ((k : ℕ) (id : CallId) → takes_at k id e ≡ false)
    → RingRests net h r → (k : ℕ) → NodeRests net (h ++ e ∷ []) k (ring_node r k)
quiet-all net h r e np nt i k =
    quiet net h e k _ _ _ _ (λ id own. np id) (λ id. nt k id) (i.nodes k)

pub quiet-step : (net : NetPlan) (h : List RingEntry) (r s : RingIs) (e : RingEntry)
    → length s.nodes ≡ length r.nodes → ((k : ℕ) → NodeRests net (h ++ e ∷ []) k (ring_node s k))
    → EntryRests net (h ++ e ∷ []) e → RingRests net h r → RingRests net (h ++ e ∷ []) s
quiet-step net h r s e size nodes founded i = record {
  size = size ∙ i.size;
  nodes = nodes;
  entries = each-push _ h e
      (each-map _ _ h (λ x k. entry-more net h e x k) i.entries) founded;
}

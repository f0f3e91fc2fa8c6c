-- Each of the eight entries keeps what boxes, paths and numbers rest on.
use Rattle.std.proofs.Common.{◌≡◌, ℕ, zero, suc, ◌+◌, ◌<◌, ◌≤◌, ◌==◌, ◌&&◌, nat_le, Bool, true}
use Rattle.std.proofs.Common.{false, cond, not, List, [], ◌∷◌, ◌++◌, get_or, set, map, drop, length}
use Rattle.std.proofs.Common.{replicate, count_by, All, Contains, Some, None, refl, sym, ap, ◌∙◌}
use Rattle.std.proofs.Common.{subst, inl, inr, ⊎_elim, arith, get_or-set_same, append-nil}
use Rattle.std.proofs.Common.{append_assoc}
use Rattle.std.proofs.lemmas.List.{length-set, length-map, length-replicate}
use Rattle.std.proofs.lemmas.List.Elements.{Contains-push, All-contains}
use Rattle.std.proofs.lemmas.Bool.{eqb-true, eq-eqb, ne_eqb, cases_Bool, and_left, and_right}
use Rattle.std.proofs.lemmas.Bool.{cond_both, leb-false}
use Rattle.ring_core.specs.MstrBlock.{CallId, MstrResult}
use Rattle.ring_core.specs.declared.frame.FrameKind.{FrameKind}
use Rattle.ring_core.specs.declared.frame.FrameKind.TheVariants.{Request, Reply}
use Rattle.ring_core.specs.declared.frame.Frame.{Frame}
use Rattle.ring_core.specs.declared.entry.LocalOp.{LocalOp}
use Rattle.ring_core.specs.declared.entry.Heard.{Heard}
use Rattle.ring_core.specs.declared.entry.Heard.TheVariants.{Acked, Silent, Busy}
use Rattle.ring_core.specs.declared.entry.LeaveCause.{LeaveCause}
use Rattle.plant_types.specs.declared.net.Fate.{Fate}
use Rattle.plant_types.specs.declared.net.NetPlan.{NetPlan}
use Rattle.ring_core.specs.declared.entry.RingEntry.{RingEntry}
use Rattle.ring_core.specs.declared.entry.RingEntry.TheVariants.{Post, Send, Take, Local, GiveUp}
use Rattle.ring_core.specs.declared.entry.RingEntry.TheVariants.{Pass, Leave, Join}
use Rattle.ring_core.specs.declared.entry.LeaveCause.TheVariants.{Ended, Spent, Down}
use Rattle.ring_core.specs.Words.{is_same_call, asks, asks_for, is_onward}
use Rattle.ring_core.specs.declared.status.NodeStatus.TheVariants.{In, Asking}
use Rattle.ring_core.specs.declared.path.Await.{Await}
use Rattle.ring_core.specs.declared.path.Await.TheVariants.{Nothing, Out, Arrived, Failed}
use Rattle.ring_core.specs.declared.path.Path.{Path}
use Rattle.ring_core.specs.Machine.{NodeIs, RingIs, addresses, no_path, fresh, part_of, ring_node}
use Rattle.ring_core.specs.Machine.{path_of, asked, awaiting, posted, paths_after_take, took, aged}
use Rattle.ring_core.specs.Machine.{aged_await, is_repeat, is_full, waits_for, fell, with_frame}
use Rattle.ring_core.specs.Machine.{AcceptedIs, accepted_of, accepting, arrives, arrival, arrived}
use Rattle.ring_core.specs.Machine.{heard_of, hears, fate_at}
use Rattle.ring_core.specs.Machine.{heard_by, failed, silence_word, sent_head, after, opening}
use Rattle.ring_core.specs.Machine.{with_members, ring_after, is_here, is_held, with_status}
use Rattle.ring_core.specs.Machine.{admitted, gone_by}
use Rattle.ring_core.specs.Refusals.{end_word}
use Rattle.ring_core.specs.Legal.{IsMember, IsFrom, IsNextNumber, IsFirst, IsLawful, IsRingStep}
use Rattle.ring_core.specs.Legal.{IsRun, IsLegalRing}
use Rattle.ring_core.proofs.Numbers.{number-own, number-more}
use Rattle.ring_core.proofs.Runs.{after_all-push}
use Rattle.ring_core.proofs.Stability.{admitted-part}
use Rattle.ring_laws.specs.Once.{posts, HasAsked, IsFailWord}
use Rattle.ring_laws.proofs.Rests.{Each, takes_at, Sending, AskedIfReply, CameTo, IsAskedFor, Below}
use Rattle.ring_laws.proofs.Rests.{PartsRest, NodeRests, RingRests}
use Rattle.ring_laws.proofs.Lists.{each-push, each-drop, each-map, each-filter, count-push}
use Rattle.ring_laws.proofs.Lists.{count-cons, one-if, put-at, each-put, same-eq}
use Rattle.ring_laws.proofs.Keep.{sending-more, came-more, awaits-more, entry-more, below-less}
use Rattle.ring_laws.proofs.Keep.{below-up, below-one, count-same, quiet, awaiting-rests, out-rests}
use Rattle.ring_laws.proofs.Keep.{empty-rests, quiet-all, quiet-step}

abbrev pub AreLow : NetPlan → Type 0
AreLow net = All (λ m. m < addresses) net.members

low : (net : NetPlan) (n : ℕ) → AreLow net → IsMember net n → n < addresses
low net n all member = All-contains (λ m. m < addresses) net.members n all member

-- Post
next-marks : (ps : List Path) (q : ℕ) (v : Path) → (get_or ps q no_path).posted < v.posted → (p : ℕ)
    → (get_or ps p no_path).posted ≤ (get_or (set ps q v) p no_path).posted
next-marks ps q v lt = each-put (λ p x. (get_or ps p no_path).posted ≤ x.posted) ps no_path q v
    (λ p. omega arith) (omega (arith, lt))

post-paths : (net : NetPlan) (h : List RingEntry) (n : ℕ) (c : NodeIs) (f : Frame)
    (kind : FrameKind) → f.kind ≡ kind → IsLawful net (Post n f)
    → IsFrom n kind f → IsNextNumber c kind f.id
    → NodeRests net h n c → PartsRest net (h ++ Post n f ∷ []) n (asked c kind f) c.accepted
    (c.outbox ++ f ∷ []) c.inbox
post-paths net h n c f Reply is law from next i =
    let j = quiet net h (Post n f) n c.paths c.accepted c.outbox c.inbox
    (λ id own. ap (λ (k : FrameKind). asks k && is_same_call f.id id) is) (λ id. refl) i in
    out-rests net _ n c.paths c.accepted c.outbox _ c.inbox
    (each-push _ c.outbox f j.sending (Contains-push h (Post n f), law)) j
post-paths net h n c f Request is law from next i =
    let e = Post n f in
    let v : Path = record { awaits = Out f.id.seq f.to (is_onward f) 0; posted = f.id.seq } in
    let range : f.id.path < length c.paths =
    let l = i.paths_all in let k = from.2.1 in omega (arith, l, k) in
    let here : Contains (h ++ e ∷ []) e = Contains-push h e in
    record {
      paths_all = length-set _ _ _ ∙ i.paths_all;
      sending = each-push _ c.outbox f
          (each-map _ _ c.outbox (λ g x. sending-more net h e n g x) i.sending) (here, law);
      coming = each-map _ _ c.inbox (λ g x. came-more net h e n g x) i.coming;
      awaits = each-put (λ p x. IsAskedFor (h ++ e ∷ []) n p x.awaits) c.paths no_path f.id.path v
          (λ p. awaits-more h e n p _ (i.awaits p))
          (record {
            request = f;
            posted = here;
            kind = is;
            same = λ j. record { node = from.0 j; path = f.id.path; seq = f.id.seq };
          });
      asked = λ id own. ⊎_elim
          (λ (y : is_same_call f.id id ≡ true).
          let same = same-eq f.id id y in
          let mark : (get_or (set c.paths f.id.path v) id.path no_path).posted ≡ id.seq = subst
          (λ (x : CallId). (get_or (set c.paths f.id.path v) x.path no_path).posted ≡ x.seq) same
          (ap (λ (x : Path). x.posted) (get_or-set_same c.paths f.id.path v no_path range)) in
          let below : (get_or c.paths id.path no_path).posted < id.seq =
          subst (λ (x : CallId). (get_or c.paths x.path no_path).posted < x.seq) same next in
          let o : posts id e ≡ true =
          ap (λ (k : FrameKind). asks k && is_same_call f.id id) is ∙ y in
          let cp = count-push (posts id) h e in let k = one-if (posts id e) o in
          below-one _ _ _ _ _ below mark (cp ∙ ap (λ (z : ℕ). count_by (posts id) h + z) k)
          (i.asked id own))
          (λ (no' : is_same_call f.id id ≡ false).
          let o : posts id e ≡ false =
          ap (λ (k : FrameKind). asks k && is_same_call f.id id) is ∙ no' in
          let s = count-same (posts id) h e o in
          below-less _ _ _ _ (omega (arith, s))
          (below-up _ _ _ _ (next-marks c.paths f.id.path v next id.path) (i.asked id own)))
          (cases_Bool (is_same_call f.id id));
      seen = λ id. below-less _ _ _ _
          (let s = count-same (takes_at n id) h e refl in omega (arith, s)) (i.seen id);
    }

-- no Request of another node
not-own : (n k : ℕ) (f : Frame) (kind : FrameKind) (id : CallId) → f.kind ≡ kind → IsFrom n kind f
    → (k ≡ n → ⊥) → id.node ≡ k → (asks f.kind && is_same_call f.id id) ≡ false
not-own n k f Reply id is from other own = ap (λ (x : FrameKind). asks x && is_same_call f.id id) is
not-own n k f Request id is from other own = ⊎_elim
    (λ (y : is_same_call f.id id ≡ true).
    absurd (other (sym own ∙ (sym (ap (λ (x : CallId). x.node) (same-eq f.id id y)) ∙ from.0))))
    (λ (no' : is_same_call f.id id ≡ false). and_right (asks f.kind) (is_same_call f.id id) no')
    (cases_Bool (is_same_call f.id id))

post-step : (net : NetPlan) (h : List RingEntry) (n : ℕ) (f : Frame) → AreLow net
    → IsRingStep net h (Post n f) → (r : RingIs) → r ≡ ring_after net h
    → RingRests net h r → RingRests net (h ++ Post n f ∷ []) (after net r (Post n f))
post-step net h n f all s r is i =
    let range : n < length r.nodes =
    let a = low net n all s.0.0 in let l = i.size in omega (arith, a, l) in
    let next : IsNextNumber (ring_node r n) f.kind f.id =
    subst (λ (x : RingIs). IsNextNumber (ring_node x n) f.kind f.id) (sym is) s.1.0 in
    record {
      size = length-set _ _ _ ∙ i.size;
      nodes = put-at (NodeRests net (h ++ Post n f ∷ [])) r.nodes (fresh false) n
          (posted (ring_node r n) f) range
          (λ k other. quiet net h (Post n f) k _ _ _ _
          (λ id own. not-own n k f f.kind id refl s.0.1 other own) (λ id. refl) (i.nodes k))
          (post-paths net h n (ring_node r n) f f.kind refl s.0 s.0.1 next (i.nodes n));
      entries = each-push _ h (Post n f)
          (each-map _ _ h (λ x k. entry-more net h (Post n f) x k) i.entries) tt;
    }

-- Take
take-count : (n : ℕ) (id : CallId) (f : Frame) → takes_at n id (Take n f) ≡ asks_for id f
take-count n id f = ap (λ (b : Bool). b && asks_for id f) (eq-eqb n n refl)

first-counts : (h : List RingEntry) (n : ℕ) (f : Frame) (box : List Frame) (id : CallId)
    → IsFirst box f
    → count_by (takes_at n id) (h ++ Take n f ∷ []) + count_by (asks_for id) (drop 1 box)
    ≤ count_by (takes_at n id) h + count_by (asks_for id) box
first-counts h n f [] id first = absurd first
first-counts h n f (g ∷ gs) id first =
    let a = count-push (takes_at n id) h (Take n f) in
    let b = count-cons (asks_for id) g gs in
    let c : (◌≡◌) {A = ℕ} (cond (takes_at n id (Take n f)) 1 0) (cond (asks_for id f) 1 0) =
    ap (λ (x : Bool). cond x 1 0) (take-count n id f) in
    let d : (◌≡◌) {A = ℕ} (cond (asks_for id g) 1 0) (cond (asks_for id f) 1 0) =
    ap (λ (x : Frame). cond (asks_for id x) 1 0) first in
    omega (arith, a, b, c, d)

first-came : (net : NetPlan) (h : List RingEntry) (n : ℕ) (box : List Frame) (f : Frame)
    → IsFirst box f → Each (CameTo net h n) box → CameTo net h n f
first-came net h n [] f first all = absurd first
first-came net h n (g ∷ gs) f first all = subst (CameTo net h n) first all.0

answered-rests : (net : NetPlan) (h : List RingEntry) (n : ℕ) (c : NodeIs) (as' : AcceptedIs)
    (out box : List Frame) (kind : FrameKind) (q : ℕ)
    → PartsRest net h n c.paths as' out box
    → PartsRest net h n (paths_after_take c kind q) as' out box
answered-rests net h n c as' out box Request q i = i
answered-rests net h n c as' out box Reply q i = awaiting-rests net h n c as' out box q Nothing tt i

box-rests : (net : NetPlan) (h : List RingEntry) (n : ℕ) (f : Frame) (c : NodeIs)
    → IsFirst c.inbox f → NodeRests net h n c → PartsRest net
    (h ++ Take n f ∷ []) n c.paths c.accepted c.outbox (drop 1 c.inbox)
box-rests net h n f c first i = record {
  paths_all = i.paths_all;
  sending = each-map _ _ c.outbox (λ g x. sending-more net h (Take n f) n g x) i.sending;
  coming = each-drop _ c.inbox
      (each-map _ _ c.inbox (λ g x. came-more net h (Take n f) n g x) i.coming);
  awaits = λ p. awaits-more h (Take n f) n p _ (i.awaits p);
  asked = λ id own. below-less _ _ _ _
      (let s = count-same (posts id) h (Take n f) refl in omega (arith, s)) (i.asked id own);
  seen = λ id. below-less _ _ _ _ (first-counts h n f c.inbox id first) (i.seen id);
}

take-other : (n k : ℕ) (f : Frame) (id : CallId) → (k ≡ n → ⊥) → takes_at k id (Take n f) ≡ false
take-other n k f id other = and_left (n == k) (asks_for id f) (ne_eqb n k (λ e. other (sym e)))

take-step : (net : NetPlan) (h : List RingEntry) (n : ℕ) (f : Frame) → AreLow net
    → IsRingStep net h (Take n f) → (r : RingIs) → r ≡ ring_after net h
    → RingRests net h r → RingRests net (h ++ Take n f ∷ []) (after net r (Take n f))
take-step net h n f all s r is i =
    let range : n < length r.nodes =
    let a = low net n all s.0 in let l = i.size in omega (arith, a, l) in
    let e : RingEntry = Take n f in
    let first : IsFirst (ring_node r n).inbox f =
    subst (λ (x : RingIs). IsFirst (ring_node x n).inbox f) (sym is) s.1.1 in
    record {
      size = length-set _ _ _ ∙ i.size;
      nodes = put-at (NodeRests net (h ++ e ∷ [])) r.nodes (fresh false) n
          (took (ring_node r n) f.kind f.id) range
          (λ k other. quiet net h e k _ _ _ _ (λ id own. refl)
          (λ id. take-other n k f id other) (i.nodes k))
          (answered-rests net (h ++ e ∷ []) n (ring_node r n) _ _ _ f.kind f.id.path
          (box-rests net h n f (ring_node r n) first (i.nodes n)));
      entries = each-push _ h e (each-map _ _ h (λ x k. entry-more net h e x k) i.entries)
          (came-more net h e n f
          (first-came net h n (ring_node r n).inbox f first (i.nodes n).coming));
    }

-- GiveUp
fail-word : (there : Bool) → IsFailWord (silence_word there)
fail-word true = inl refl
fail-word false = inr (inl refl)

word-is : (net : NetPlan) (h : List RingEntry) (n p : ℕ) (r : RingIs) (here : Bool) (a : Await)
    → IsAskedFor h n p a
    → IsFailWord (end_word net r here a)
word-is net h n p r here Nothing k = fail-word false
word-is net h n p r here (Out seq to onward passes) k =
    fail-word (here && hears net r.nodes to onward)
word-is net h n p r here (Arrived seq) k = fail-word false
word-is net h n p r here (Failed seq word) k = k

give_up-step : (net : NetPlan) (h : List RingEntry) (id : CallId) (word : ℕ)
    → IsRingStep net h (GiveUp id word) → (r : RingIs) → r ≡ ring_after net h
    → RingRests net h r → RingRests net (h ++ GiveUp id word ∷ []) (after net r (GiveUp id word))
give_up-step net h id word s r is i =
    let e : RingEntry = GiveUp id word in
    let n = id.node in
    let c = ring_node r n in
    let all = quiet-all net h r e (λ x. refl) (λ k x. refl) i in
    let k = awaiting-rests net (h ++ e ∷ []) n c _ _ _ id.path Nothing tt (all n) in
    let told : word ≡ end_word net r (is_here c) (path_of c id.path).awaits = subst
    (λ (x : RingIs). word
    ≡ end_word net x (is_here (ring_node x n)) (path_of (ring_node x n) id.path).awaits)
    (sym is) s.1.1 in
    quiet-step net h r (after net r e) e (length-set _ _ _)
    (each-put (NodeRests net (h ++ e ∷ [])) r.nodes (fresh false) n _ all
    (out-rests net _ n _ _ c.outbox _ c.inbox
    (each-filter _ (λ f. not (asks_for id f)) c.outbox (all n).sending) k))
    (subst IsFailWord (sym told)
    (word-is net h n id.path r (is_here c) (path_of c id.path).awaits
    ((i.nodes n).awaits id.path))) i

-- Local
local-step : (net : NetPlan) (h : List RingEntry) (n : ℕ) (id : CallId) (op : LocalOp)
    (result : MstrResult) (r : RingIs) → RingRests net h r → RingRests net
    (h ++ Local n id op result ∷ []) r
local-step net h n id op result r i =
    let e : RingEntry = Local n id op result in
    quiet-step net h r r e refl (quiet-all net h r e (λ x. refl) (λ k x. refl) i) tt i

-- all who ask come in: boxes, paths and numbers stay
handed-rests : (net : NetPlan) (h : List RingEntry) (nodes : List NodeIs)
    → ((k : ℕ) → NodeRests net h k (part_of nodes k)) → (k : ℕ)
    → NodeRests net h k (part_of (map admitted nodes) k)
handed-rests net h nodes all k =
    subst (NodeRests net h k) (sym (admitted-part nodes k)) (all k)

-- Pass
aged-at : (ps : List Path) (p : ℕ) → get_or (map aged ps) p no_path ≡ aged (get_or ps p no_path)
aged-at [] p = refl
aged-at (x ∷ xs) zero = refl
aged-at (x ∷ xs) (suc p) = aged-at xs p

length-aged : (ps : List Path) → length (map aged ps) ≡ length ps
length-aged [] = refl
length-aged (x ∷ xs) = ap suc (length-aged xs)

aged-asked : (h : List RingEntry) (n p : ℕ) (a : Await) → IsAskedFor h n p a
    → IsAskedFor h n p (aged_await a)
aged-asked h n p Nothing k = tt
aged-asked h n p (Out seq to onward passes) k = k
aged-asked h n p (Arrived seq) k = k
aged-asked h n p (Failed seq word) k = k

aged-rests : (net : NetPlan) (h : List RingEntry) (n : ℕ) (ps : List Path) (as' : AcceptedIs)
    (out box : List Frame) → PartsRest net h n ps as' out box
    → PartsRest net h n (map aged ps) as' out box
aged-rests net h n ps as' out box i = record {
  paths_all = length-aged ps ∙ i.paths_all;
  sending = i.sending;
  coming = i.coming;
  awaits = λ p. subst (λ (x : Path). IsAskedFor h n p x.awaits) (sym (aged-at ps p))
      (aged-asked h n p _ (i.awaits p));
  asked = λ id own. subst (λ (x : Path). Below (count_by (posts id) h) x.posted id.seq)
      (sym (aged-at ps id.path)) (i.asked id own);
  seen = i.seen;
}

pass-step : (net : NetPlan) (h : List RingEntry) (n : ℕ) (done : Bool) (words : List ℕ) (r : RingIs)
    → RingRests net h r → RingRests net
    (h ++ Pass n done words ∷ []) (after net r (Pass n done words))
pass-step net h n done words r i =
    let e : RingEntry = Pass n done words in
    let all = quiet-all net h r e (λ x. refl) (λ k x. refl) i in
    quiet-step net h r (after net r e) e (length-map _ admitted ∙ length-set _ _ _)
    (handed-rests net _ _ (each-put (NodeRests net (h ++ e ∷ [])) r.nodes (fresh false) n _ all
    (aged-rests net _ n _ _ _ _ (all n)))) tt i

-- Leave
left-rests : (net : NetPlan) (h : List RingEntry) (n : ℕ) (cause : LeaveCause) (c : NodeIs)
    → NodeRests net h n c → NodeRests net h n (gone_by cause c)
left-rests net h n Ended c i = empty-rests net h n _ _ _ _ i
left-rests net h n Spent c i = empty-rests net h n _ _ _ _ i
left-rests net h n (Down number) c i =
    out-rests net h n _ _ c.outbox [] [] tt (empty-rests net h n _ _ _ _ i)

leave-step : (net : NetPlan) (h : List RingEntry) (n : ℕ) (cause : LeaveCause) (r : RingIs)
    → RingRests net h r → RingRests net (h ++ Leave n cause ∷ [])
    (after net r (Leave n cause))
leave-step net h n cause r i =
    let e : RingEntry = Leave n cause in
    let all = quiet-all net h r e (λ x. refl) (λ k x. refl) i in
    quiet-step net h r (after net r e) e (length-map _ admitted ∙ length-set _ _ _)
    (handed-rests net _ _ (each-put (NodeRests net (h ++ e ∷ [])) r.nodes (fresh false) n _ all
    (left-rests net _ n cause (ring_node r n) (all n)))) tt i

-- Join
join-step : (net : NetPlan) (h : List RingEntry) (n : ℕ) (r : RingIs) → RingRests net h r
    → RingRests net (h ++ Join n ∷ []) (after net r (Join n))
join-step net h n r i =
    let e : RingEntry = Join n in
    let all = quiet-all net h r e (λ x. refl) (λ k x. refl) i in
    let put : (c : NodeIs) → NodeRests net (h ++ e ∷ []) n c → (k : ℕ)
    → NodeRests net (h ++ e ∷ []) k (part_of (set r.nodes n c) k) =
    λ c it. each-put (NodeRests net (h ++ e ∷ [])) r.nodes (fresh false) n c all it in
    cond_both (is_held r) _ _ (RingRests net (h ++ e ∷ []))
    (λ _. quiet-step net h r _ e (length-set _ _ _)
    (put (with_status (ring_node r n) Asking) (all n)) tt i)
    (λ _. quiet-step net h r _ e (length-set _ _ _)
    (put (with_status (ring_node r n) In) (all n)) tt i)

-- Send: the target
accepted-rests : (net : NetPlan) (h : List RingEntry) (m : ℕ) (c : NodeIs) (f : Frame)
    → f.kind ≡ Request → CameTo net h m f
    → is_repeat c f.id ≡ false → NodeRests net h m c
    → PartsRest net h m c.paths (accepting c.accepted f.id) c.outbox (c.inbox ++ f ∷ [])
accepted-rests net h m c f is came new i =
    let above : accepted_of c.accepted f.id < f.id.seq =
    leb-false f.id.seq (accepted_of c.accepted f.id) new in
    record {
      paths_all = i.paths_all;
      sending = i.sending;
      coming = each-push _ c.inbox f i.coming came;
      awaits = i.awaits;
      asked = i.asked;
      seen = λ id. ⊎_elim
          (λ (y : is_same_call f.id id ≡ true).
          let same = same-eq f.id id y in
          let mark : accepted_of (accepting c.accepted f.id) id ≡ id.seq = subst
          (λ (x : CallId). accepted_of (accepting c.accepted f.id) x ≡ x.seq) same
          (number-own c.accepted f.id) in
          let below : accepted_of c.accepted id < id.seq =
          subst (λ (x : CallId). accepted_of c.accepted x < x.seq) same above in
          let o : asks_for id f ≡ true =
          ap (λ (k : FrameKind). asks k && is_same_call f.id id) is ∙ y in
          let cp = count-push (asks_for id) c.inbox f in let k = one-if (asks_for id f) o in
          below-one _ _ _ _ _ below mark (omega (arith, cp, k)) (i.seen id))
          (λ (no' : is_same_call f.id id ≡ false).
          let o : asks_for id f ≡ false =
          ap (λ (k : FrameKind). asks k && is_same_call f.id id) is ∙ no' in
          let s = count-same (asks_for id) c.inbox f o in
          below-less _ _ _ _ (omega (arith, s))
          (below-up _ _ _ _ (number-more c.accepted f.id id above) (i.seen id)))
          (cases_Bool (is_same_call f.id id));
    }

awaited : (h : List RingEntry) (m p seq : ℕ) (a : Await) → waits_for a seq ≡ true
    → IsAskedFor h m p a → HasAsked h m
    (record { node = m; path = p; seq = seq })
awaited h m p seq Nothing w k = absurd (let no' : false ≡ true = w in cc)
awaited h m p seq (Out out to onward passes) w k =
    subst (λ (x : ℕ). HasAsked h m (record { node = m; path = p; seq = x })) (eqb-true out seq w) k
awaited h m p seq (Arrived out) w k = absurd (let no' : false ≡ true = w in cc)
awaited h m p seq (Failed out word) w k = absurd (let no' : false ≡ true = w in cc)

reply-rests : (net : NetPlan) (h : List RingEntry) (m n : ℕ) (c : NodeIs) (f : Frame)
    → f.kind ≡ Reply → f.to ≡ m → f.id.node ≡ m → Sending net h n f
    → waits_for (path_of c f.id.path).awaits f.id.seq ≡ true → NodeRests net h m c
    → PartsRest net h m
    (awaiting c f.id.path (Arrived f.id.seq)) c.accepted c.outbox (c.inbox ++ f ∷ [])
reply-rests net h m n c f is to node sent w i =
    let ask : HasAsked h m (record { node = m; path = f.id.path; seq = f.id.seq }) =
    awaited h m f.id.path f.id.seq _ w (i.awaits f.id.path) in
    let whole : HasAsked h m f.id = subst (λ (x : ℕ).
    HasAsked h m (record { node = x; path = f.id.path; seq = f.id.seq })) (sym node) ask in
    let came : CameTo net h m f = record {
      to = to;
      by = n;
      sent = sent;
      asked = subst (λ (k : FrameKind). AskedIfReply h m f.id k) (sym is) whole;
    } in
    let j = awaiting-rests net h m c c.accepted c.outbox c.inbox f.id.path
    (Arrived f.id.seq) ask i in
    record {
      paths_all = j.paths_all;
      sending = j.sending;
      coming = each-push _ c.inbox f i.coming came;
      awaits = j.awaits;
      asked = j.asked;
      seen = λ id. below-less _ _ _ _
          (let o : asks_for id f ≡ false = ap (λ (k : FrameKind). asks k && is_same_call f.id id)
          is in let s = count-same (asks_for id) c.inbox f o in omega
          (arith, s)) (i.seen id);
    }

fell-rests : (net : NetPlan) (h : List RingEntry) (n : ℕ) (c : NodeIs) (f : Frame)
    (kind : FrameKind) → f.kind ≡ kind → AreLow net → Sending net h n f
    → IsFrom n kind f → NodeRests net h f.to c
    → NodeRests net h f.to (with_frame c (fell c kind f.id) f)
fell-rests net h n c f Request is all sent from i =
    cond_both (is_repeat c f.id) _ _ (λ x. NodeRests net h f.to (with_frame c x f)) (λ _. i)
    (λ (new : is_repeat c f.id ≡ false).
    cond_both (is_full c) _ _ (λ x. NodeRests net h f.to (with_frame c x f)) (λ _. i)
    (λ _. accepted-rests net h f.to c f is
    (record {
      to = refl;
      by = n;
      sent = sent;
      asked = subst (λ (k : FrameKind). AskedIfReply h f.to f.id k) (sym is) tt;
    }) new i))
fell-rests net h n c f Reply is all sent from i =
    cond_both (waits_for (path_of c f.id.path).awaits f.id.seq) _ _
    (λ x. NodeRests net h f.to (with_frame c x f))
    (λ (w : waits_for (path_of c f.id.path).awaits f.id.seq ≡ true).
    reply-rests net h f.to n c f is refl (sym from.0) sent w i)
    (λ _. i)

arrived-rests : (net : NetPlan) (h : List RingEntry) (nodes : List NodeIs) (n : ℕ) (fate : Fate)
    (f : Frame) → AreLow net → Sending net h n f → ((k : ℕ) → NodeRests net h k (part_of nodes k))
    → (k : ℕ) → NodeRests net h k (part_of (arrived nodes f (arrival net nodes fate f)) k)
arrived-rests net h nodes n fate f low' sent all =
    cond_both (arrives net nodes fate f) (Some (fell (part_of nodes f.to) f.kind f.id)) None
    (λ x. (k : ℕ) → NodeRests net h k (part_of (arrived nodes f x) k))
    (λ _. each-put (NodeRests net h) nodes (fresh false) f.to _ all
    (fell-rests net h n (part_of nodes f.to) f f.kind refl low' sent sent.1.1 (all f.to)))
    (λ _. all)

length-arrived : (net : NetPlan) (nodes : List NodeIs) (fate : Fate) (f : Frame)
    → length (arrived nodes f (arrival net nodes fate f)) ≡ length nodes
length-arrived net nodes fate f =
    cond_both (arrives net nodes fate f) (Some (fell (part_of nodes f.to) f.kind f.id)) None
    (λ x. length (arrived nodes f x) ≡ length nodes) (λ _. length-set _ _ _) (λ _. refl)

-- Send: the sender
failed-rests : (net : NetPlan) (h : List RingEntry) (n : ℕ) (c : NodeIs) (as' : AcceptedIs)
    (out box : List Frame) (kind : FrameKind) (id : CallId) (word : ℕ)
    → IsFailWord word → PartsRest net h n c.paths as' out box
    → PartsRest net h n (failed c kind id word) as' out box
failed-rests net h n c as' out box Request id word w i =
    awaiting-rests net h n c as' out box id.path (Failed id.seq word) w i
failed-rests net h n c as' out box Reply id word w i = i

heard-rests : (net : NetPlan) (h : List RingEntry) (n : ℕ) (c : NodeIs) (kind : FrameKind)
    (id : CallId) (there : Bool) (heard : Heard) → NodeRests net h n c
    → NodeRests net h n (heard_by c kind id there heard)
heard-rests net h n c kind id there Acked i =
    out-rests net h n _ _ c.outbox _ _ (each-drop _ c.outbox i.sending) i
heard-rests net h n c kind id there Busy i =
    failed-rests net h n c _ _ _ kind id 0x6105 (inr (inr refl))
    (out-rests net h n _ _ c.outbox _ _ (each-drop _ c.outbox i.sending) i)
heard-rests net h n c kind id there Silent i =
    cond_both (nat_le 2 c.tries) _ _ (NodeRests net h n)
    (λ _. failed-rests net h n c _ _ _ kind id _ (fail-word there)
    (out-rests net h n _ _ c.outbox _ _ (each-drop _ c.outbox i.sending) i))
    (λ _. i)

sent-rests : (net : NetPlan) (h : List RingEntry) (r : RingIs) (n : ℕ) (box : List Frame)
    → AreLow net → Each (Sending net h n) box → ((k : ℕ) → NodeRests net h k (ring_node r k))
    → (k : ℕ) → NodeRests net h k (ring_node (sent_head net r n box) k)
sent-rests net h r n [] low' box all = all
sent-rests net h r n (f ∷ fs) low' box all =
    let fate = fate_at net.fates r.sent in
    let nodes = arrived r.nodes f (arrival net r.nodes fate f) in
    let here = arrived-rests net h r.nodes n fate f low' box.0 all in
    each-put (NodeRests net h) nodes (fresh false) n _ here
    (heard-rests net h n (part_of nodes n) f.kind f.id _
    (heard_of fate (arrival net r.nodes fate f)) (here n))

length-sent : (net : NetPlan) (r : RingIs) (n : ℕ) (box : List Frame)
    → length (sent_head net r n box).nodes ≡ length r.nodes
length-sent net r n [] = refl
length-sent net r n (f ∷ fs) =
    length-set _ _ _ ∙ length-arrived net r.nodes (fate_at net.fates r.sent) f

send-step : (net : NetPlan) (h : List RingEntry) (n : ℕ) (heard : Heard) → AreLow net → (r : RingIs)
    → RingRests net h r → RingRests net
    (h ++ Send n heard ∷ []) (after net r (Send n heard))
send-step net h n heard low' r i =
    let e : RingEntry = Send n heard in
    let all = quiet-all net h r e (λ x. refl) (λ k x. refl) i in
    quiet-step net h r (after net r e) e (length-sent net r n (ring_node r n).outbox)
    (sent-rests net (h ++ e ∷ []) r n (ring_node r n).outbox low' (all n).sending all) tt i

-- all eight, and lists of them
step-rests : (net : NetPlan) (h : List RingEntry) (e : RingEntry) → AreLow net → IsRingStep net h e
    → (r : RingIs) → r ≡ ring_after net h → RingRests net h r
    → RingRests net (h ++ e ∷ []) (after net r e)
step-rests net h (Post n f) all s r is i = post-step net h n f all s r is i
step-rests net h (Send n heard) all s r is i = send-step net h n heard all r i
step-rests net h (Take n f) all s r is i = take-step net h n f all s r is i
step-rests net h (Local n id op result) all s r is i = local-step net h n id op result r i
step-rests net h (GiveUp id word) all s r is i = give_up-step net h id word s r is i
step-rests net h (Pass n done words) all s r is i = pass-step net h n done words r i
step-rests net h (Leave n cause) all s r is i = leave-step net h n cause r i
step-rests net h (Join n) all s r is i = join-step net h n r i

run-rests : (net : NetPlan) (h es : List RingEntry) → AreLow net → IsRun net h es
    → RingRests net h (ring_after net h) → RingRests net (h ++ es)
    (ring_after net (h ++ es))
run-rests net h [] all run i = subst (λ (l : List RingEntry). RingRests net l (ring_after net l))
    (sym (append-nil h)) i
run-rests net h (e ∷ es) all run i =
    let one' = step-rests net h e all run.0 (ring_after net h) refl i in
    let more = subst (λ (x : RingIs). RingRests net (h ++ e ∷ []) x)
    (sym (after_all-push net (opening net) h e)) one' in
    subst (λ (l : List RingEntry). RingRests net l (ring_after net l)) (append_assoc h (e ∷ []) es)
    (run-rests net (h ++ e ∷ []) es all run.1 more)

-- the opening ring
get_or-same : {X : Type 0} (k : ℕ) (x : X) (p : ℕ) → get_or (replicate k x) p x ≡ x
get_or-same zero x p = refl
get_or-same (suc k) x zero = refl
get_or-same (suc k) x (suc p) = get_or-same k x p

fresh-rests : (net : NetPlan) (n : ℕ) (here : Bool) → NodeRests net [] n (fresh here)
fresh-rests net n here = record {
  paths_all = length-replicate {A = Path} 5 no_path;
  sending = tt;
  coming = tt;
  awaits = λ p. subst (λ (x : Path). IsAskedFor [] n p x.awaits) (sym (get_or-same 5 no_path p)) tt;
  asked = λ id own. record { once = omega arith; none = λ lt. refl };
  seen = λ id. record { once = omega arith; none = λ lt. refl };
}

joined-rests : (net : NetPlan) (nodes : List NodeIs) (ms : List ℕ)
    → ((k : ℕ) → NodeRests net [] k (part_of nodes k)) → (k : ℕ) → NodeRests net [] k
    (part_of (with_members nodes ms) k)
joined-rests net nodes [] all = all
joined-rests net nodes (m ∷ ms) all = joined-rests net (set nodes m (fresh true)) ms
    (each-put (NodeRests net []) nodes (fresh false) m (fresh true) all (fresh-rests net m true))

length-joined : (nodes : List NodeIs) (ms : List ℕ) → length (with_members nodes ms) ≡ length nodes
length-joined nodes [] = refl
length-joined nodes (m ∷ ms) = length-joined (set nodes m (fresh true)) ms ∙ length-set _ _ _

opening-rests : (net : NetPlan) → RingRests net [] (opening net)
opening-rests net = record {
  size = length-joined _ net.members ∙ length-replicate {A = NodeIs} addresses (fresh false);
  nodes = joined-rests net _ net.members (λ k. subst (NodeRests net [] k)
      (sym (get_or-same addresses (fresh false) k)) (fresh-rests net k false));
  entries = tt;
}

pub legal-rests : (net : NetPlan) (es : List RingEntry) → AreLow net → IsLegalRing net es
    → RingRests net es (ring_after net es)
legal-rests net es all legal = run-rests net [] es all legal (opening-rests net)

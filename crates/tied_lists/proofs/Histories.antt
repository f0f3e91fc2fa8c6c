-- Each legal history keeps what a node's paths and boxes follow.
use Rattle.std.proofs.Common.{◌≡◌, ◌≢◌, ℕ, zero, suc, ◌+◌, ◌<◌, ◌≤◌, ◌&&◌, nat_le, Bool, true}
use Rattle.std.proofs.Common.{false, cond, List, [], ◌∷◌, ◌++◌, get_or, set, map, drop, length}
use Rattle.std.proofs.Common.{replicate, Option, Some, None, refl, sym, ap}
use Rattle.std.proofs.Common.{◌∙◌, subst, inl, inr, ◌⊎◌, ⊎_elim, arith}
use Rattle.std.proofs.Common.{append-nil, append_assoc}
use Rattle.std.specs.List.{AllByRecursion as Each}
use Rattle.std.proofs.lemmas.Bool.{cases_eq, cases_Bool, cond_both}
use Rattle.std.proofs.lemmas.Bool.{leb-false, leb-true}
use Rattle.std.proofs.lemmas.List.{length-set, length-replicate}
use Rattle.ring_core.specs.declared.path.Await.{Await}
use Rattle.ring_core.specs.declared.path.Await.TheVariants.{Nothing, Out, Arrived, Failed}
use Rattle.ring_core.specs.declared.path.Path.{Path}
use Rattle.plant_types.specs.declared.net.Fate.{Fate}
use Rattle.ring_core.specs.Words.{asks, is_onward, maker}
use Rattle.ring_core.specs.Machine.{NodeIs, RingIs, addresses, path_places, no_path, fresh, part_of}
use Rattle.ring_core.specs.Machine.{ring_node, path_of, asked, posted, paths_after_take}
use Rattle.ring_core.specs.Machine.{took, gave_up, aged, after_pass, is_repeat, is_full}
use Rattle.ring_core.specs.Machine.{waits_for, fell, with_frame, hears, arrives, arrival, arrived}
use Rattle.ring_core.specs.Machine.{heard_of, fate_at, heard_by, failed, silence_word, busy_word}
use Rattle.ring_core.specs.Machine.{sent_off, sent_head, sent_one, after, opening}
use Rattle.ring_core.specs.Machine.{with_members, ring_after, awaited_number, is_here, is_in}
use Rattle.ring_core.specs.Machine.{admitted, with_status, gone_by}
use Rattle.ring_core.specs.Machine.{is_held, made_asking}
use Rattle.ring_core.specs.Refusals.{or_no, free_no, post_no, path_no}
use Rattle.ring_core.specs.Refusals.{pass_no, give_up_no}
use Rattle.ring_core.specs.Refusals.{answer_after, away_no, paths_no, join_no}
use Rattle.ring_core.specs.Legal.{IsFrom, IsNextNumber, IsFirst}
use Rattle.ring_core.specs.Legal.{IsTimelyEntry, IsRingStep, IsRun}
use Rattle.ring_core.proofs.Runs.{after_all-push}
use Rattle.tied_lists.specs.Words.{CallId, FrameKind, Request, Reply, Frame, NetPlan, Heard, Acked}
use Rattle.tied_lists.specs.Words.{Silent, Busy, LeaveCause, RingEntry, Post, Send, Take, Local}
use Rattle.tied_lists.specs.Words.{GiveUp, Pass, Leave, Join, Ended, Spent, Down}
use Rattle.tied_lists.specs.Words.{NodeStatus, In, Away, Asking, Gone}
use Rattle.tied_lists.specs.Own.{own}
use Rattle.tied_lists.specs.Waits.{AwaitsThis, IsOnRing, IsPatient, ArePatient, status_at}
use Rattle.tied_lists.proofs.Boxes.{each-push, each-drop, each-map, each-filter}
use Rattle.tied_lists.proofs.Boxes.{HasCome, CameOn, come-apart, has_arrived, IsSent, OutOn}
use Rattle.tied_lists.proofs.Paths.{Follows, quiet-own, post-request, post-reply, take-request}
use Rattle.tied_lists.proofs.Paths.{take-reply, give-up, fail-request, drop-first, come-request}
use Rattle.tied_lists.proofs.Paths.{come-reply, pass-on, empty-box, follows-boxes, NotAsked}
pub use Rattle.tied_lists.proofs.Nodes.{IsOwn, RingFollows, at-same, own-mine, own-other}
use Rattle.tied_lists.proofs.Nodes.{AsksNothing, IsBusy, NodeFollows, first-none, second-none}
use Rattle.tied_lists.proofs.Nodes.{turn-holds, free-holds, taken-none, unsent-none}
use Rattle.tied_lists.proofs.Nodes.{untaken-none, awaited-none, low, at-other, each-put, OwnBox}
use Rattle.tied_lists.proofs.Nodes.{own-step, other-step, handed-own, handed-other}

-- Post
post-paths : (net : NetPlan) (n : ℕ) (b : List RingEntry) (c : NodeIs) (f : Frame)
    (kind : FrameKind) → f.kind ≡ kind → IsFrom n
    kind f → IsNextNumber c kind f.id → path_no c kind f.id.path ≡ None
    → Follows n b c.paths c.outbox c.inbox c.tries
    → Follows n (b ++ Post n f ∷ []) (asked c kind f) (c.outbox ++ f ∷ []) c.inbox c.tries
post-paths net n b c f Request is from next free i = post-request n b c.paths c.outbox c.inbox
    c.tries f is from.0 from.1 from.2 (taken-none _ free) next i
post-paths net n b c f Reply is from next free i =
    post-reply n b c.paths c.outbox c.inbox c.tries f is i

post-step : (net : NetPlan) (h : List RingEntry) (n m : ℕ) (f : Frame) → n < addresses
    → IsPatient (status_at net h n) n (Post m f) → IsRingStep net h (Post m f) → (r : RingIs)
    → r ≡ ring_after net h → RingFollows n h r
    → RingFollows n (h ++ Post m f ∷ []) (after net r (Post m f))
post-step net h n m f range patient s r is i =
    let t : IsTimelyEntry net h r (Post m f) =
    subst (λ (x : RingIs). IsTimelyEntry net h x (Post m f)) (sym is) s.1 in
    ⊎_elim (λ (e : m ≡ n).
    subst (λ (k : ℕ). RingFollows n (h ++ Post k f ∷ []) (after net r (Post k f))) (sym e)
    (let from : IsFrom n f.kind f = subst (λ (k : ℕ). IsFrom k f.kind f) e s.0.1 in
    let next : IsNextNumber (ring_node r n) f.kind f.id =
    subst (λ (k : ℕ). IsNextNumber (ring_node r k) f.kind f.id) e t.0 in
    let no' : post_no r n f ≡ None = subst (λ (k : ℕ). post_no r k f ≡ None) e t.1 in
    let c = ring_node r n in
    own-step n h r (Post n f) r.holder (posted c f) range refl
    (record {
      part = post-paths net n (own n h) c f f.kind refl from next (second-none _ _ no') i.node.part;
      left = i.node.left;
      busy = inr (free-holds r n (first-none _ _ no'));
      asking = λ asks. absurd (patient e
          (sym (ap (λ (x : RingIs). (ring_node x n).status) is) ∙ asks));
    })
    (each-push (IsOwn n) c.outbox f (i.frames n) from) i))
    (λ (o : m ≡ n → ⊥). other-step n h r (after net r (Post m f)) (Post m f) o (length-set _ _ _)
    (at-other r.nodes m n _ (λ x. o (sym x))) i.node.busy
    (each-put OwnBox r.nodes (fresh false) m _ i.frames
    (each-push (IsOwn m) (ring_node r m).outbox f (i.frames m) s.0.1)) i)
    (cases_eq m n)

-- Take
first-frame : (box : List Frame) (f : Frame) → IsFirst box f → box ≡ f ∷ drop 1 box
first-frame [] f first = absurd first
first-frame (g ∷ gs) f first = ap (λ (x : Frame). x ∷ gs) first

path-low : (ps : List Path) (p : ℕ) (a : Await) → length ps ≡ path_places
    → (get_or ps p no_path).awaits ≡ a → (a ≡ Nothing → ⊥) → p < path_places
path-low ps p a size is not_nothing = ⊎_elim (λ (x : nat_le path_places p ≡ true).
    absurd (not_nothing (sym is ∙ ap (λ (y : Path). y.awaits)
    (default-at ps no_path p (let l = leb-true path_places p x in let s
    = size in omega (arith, l, s))))))
    (λ (x : nat_le path_places p ≡ false). leb-false path_places p x)
    (cases_Bool (nat_le path_places p))
  where
    default-at : {X : Type 0} (xs : List X) (d : X) (k : ℕ) → length xs ≤ k → get_or xs k d ≡ d
    default-at [] d k le = refl
    default-at (x ∷ xs) d zero le = absurd (omega (arith, le))
    default-at (x ∷ xs) d (suc k) le = default-at xs d k (omega (arith, le))

take-paths : (n : ℕ) (b : List RingEntry) (c : NodeIs) (f : Frame) (fs : List Frame)
    (kind : FrameKind) → f.kind ≡ kind → c.inbox
    ≡ f ∷ fs → Follows n b c.paths c.outbox c.inbox c.tries
    → Follows n (b ++ Take n f ∷ []) (paths_after_take c kind f.id.path) c.outbox
    (drop 1 c.inbox) c.tries
take-paths n b c f fs Request is box i = take-request n b c.paths c.outbox c.inbox c.tries f is i
take-paths n b c f fs Reply is box i =
    let j : Follows n b c.paths c.outbox (f ∷ fs) c.tries =
    subst (λ (l : List Frame). Follows n b c.paths c.outbox l c.tries) box i in
    let came : CameOn n c.paths Reply f.id =
    subst (λ (k : FrameKind). CameOn n c.paths k f.id) is j.comes.0 in
    let low' : f.id.path < path_places = path-low c.paths f.id.path (Arrived f.id.seq) i.size came.0
    (λ x. absurd (cc)) in
    subst (λ (l : List Frame). Follows n (b ++ Take n f ∷ []) (paths_after_take c Reply f.id.path)
    c.outbox (drop 1 l) c.tries) (sym box)
    (take-reply n b c.paths c.outbox f fs c.tries c refl is low' j)

take-step : (net : NetPlan) (h : List RingEntry) (n m : ℕ) (f : Frame) → n < addresses
    → IsRingStep net h (Take m f) → (r : RingIs) → r ≡ ring_after net h → RingFollows n h r
    → RingFollows n (h ++ Take m f ∷ []) (after net r (Take m f))
take-step net h n m f range s r is i =
    let t : IsTimelyEntry net h r (Take m f) =
    subst (λ (x : RingIs). IsTimelyEntry net h x (Take m f)) (sym is) s.1 in
    ⊎_elim (λ (e : m ≡ n).
    subst (λ (k : ℕ). RingFollows n (h ++ Take k f ∷ []) (after net r (Take k f))) (sym e)
    (let c = ring_node r n in
    let first : IsFirst c.inbox f = subst (λ (k : ℕ). IsFirst (ring_node r k).inbox f) e t.1 in
    own-step n h r (Take n f) r.holder (took c f.kind f.id) range refl
    (record {
      part = take-paths n (own n h) c f (drop 1 c.inbox) f.kind refl
          (first-frame c.inbox f first) i.node.part;
      left = λ gone'. ap (drop 1) (i.node.left gone');
      busy = i.node.busy;
      asking = i.node.asking;
    })
    (i.frames n) i))
    (λ (o : m ≡ n → ⊥). other-step n h r (after net r (Take m f)) (Take m f) o (length-set _ _ _)
    (at-other r.nodes m n _ (λ x. o (sym x))) i.node.busy
    (each-put OwnBox r.nodes (fresh false) m _ i.frames (i.frames m)) i)
    (cases_eq m n)

-- GiveUp
own-request : (n : ℕ) (f : Frame) (kind : FrameKind) → IsFrom n kind f → kind ≡ Request
    → f.id.node ≡ n
own-request n f Request from is = from.0
own-request n f Reply from is = absurd (cc)

come-left : (n : ℕ) (ps : List Path) (q : ℕ) (v : Path) (box : List Frame) → box ≡ []
    → Each (HasCome n (set ps q v)) box
come-left n ps q v box e = subst (Each (HasCome n (set ps q v))) (sym e) tt

answer-none : (answer : ℕ) (a : Await) → answer_after answer a ≡ None → has_arrived a ≡ false
answer-none answer Nothing e = refl
answer-none answer (Out seq to onward passes) e = refl
answer-none answer (Arrived seq) e = absurd (cc)
answer-none answer (Failed seq word) e = refl

give_up-come : (net : NetPlan) (n : ℕ) (c : NodeIs) (q : ℕ) (v : Path) (here : Bool)
    → is_here c ≡ here
    → (is_here c ≡ false → c.inbox ≡ [])
    → (cond here (answer_after net.answer (path_of c q).awaits) None) ≡ None
    → Each (HasCome n c.paths) c.inbox → Each (HasCome n (set c.paths q v)) c.inbox
give_up-come net n c q v true is left due all =
    come-apart n c.paths q v c.inbox (answer-none net.answer (path_of c q).awaits due) all
give_up-come net n c q v false is left due all = come-left n c.paths q v c.inbox (left is)

give_up-step : (net : NetPlan) (h : List RingEntry) (n : ℕ) (id : CallId) (word : ℕ) → n < addresses
    → IsRingStep net h (GiveUp id
    word) → (r : RingIs) → r ≡ ring_after net h → RingFollows n h r
    → RingFollows n (h ++ GiveUp id word ∷ []) (after net r (GiveUp id word))
give_up-step net h n id word range s r is i =
    let t : IsTimelyEntry net h r (GiveUp id word) =
    subst (λ (x : RingIs). IsTimelyEntry net h x (GiveUp id word)) (sym is) s.1 in
    let m = id.node in
    let filtered : Each (IsOwn m) (gave_up (ring_node r m) id).outbox =
    each-filter (IsOwn m) (IsOwn m) _ (ring_node r m).outbox (λ f x k. k) (i.frames m) in
    ⊎_elim (λ (e : m ≡ n).
    let c = ring_node r n in
    let same : ring_node r m ≡ c = ap (ring_node r) e in
    let no' : give_up_no net r id ≡ None = t.0 in
    let rest = second-none _ _ no' in
    let number : awaited_number (path_of c id.path).awaits ≡ id.seq =
    subst (λ (x : NodeIs). awaited_number (path_of x
    id.path).awaits ≡ id.seq) same (awaited-none _ id.seq (first-none _ _ rest)) in
    let due : cond (is_here c) (answer_after net.answer (path_of c id.path).awaits) None ≡ None =
    subst (λ (x : NodeIs). cond (is_here x)
    (answer_after net.answer (path_of x id.path).awaits) None ≡ None) same (second-none _ _ rest) in
    let free : free_no r n ≡ None = subst (λ (k : ℕ). free_no r k ≡ None) e (first-none _ _ no') in
    subst (λ (k : ℕ). RingFollows n (h ++ GiveUp id word ∷ []) (record {
      holder = r.holder;
      sent = r.sent;
      nodes = set r.nodes k
          (gave_up (ring_node r k) id);
    })) (sym e)
    (own-step n h r (GiveUp id word) r.holder (gave_up c id) range e
    (record {
      part = give-up n (own n h) c c.inbox id word e s.0.1 number
          (each-map (IsOwn n) _ c.outbox (λ f from. own-request n f f.kind from) (i.frames n))
          (give_up-come net n c id.path _ (is_here c) refl i.node.left due i.node.part.comes)
          i.node.part.once_in i.node.part;
      left = i.node.left;
      busy = inr (free-holds r n free);
      asking = λ asks. each-filter NotAsked NotAsked _ c.outbox (λ f x k. k) (i.node.asking asks);
    })
    (subst (λ (k : ℕ). Each (IsOwn k) (gave_up (ring_node r k) id).outbox) e filtered) i))
    (λ (o : m ≡ n → ⊥). other-step n h r (after net r (GiveUp id word)) (GiveUp id word) o
    (length-set _ _ _) (at-other r.nodes m
    n _ (λ x. o (sym x))) i.node.busy
    (each-put OwnBox r.nodes (fresh false) m _ i.frames filtered) i)
    (cases_eq m n)

-- Local
local-step : (net : NetPlan) (h : List RingEntry) (n : ℕ) (e : RingEntry) (r : RingIs)
    → ((p : ℕ) (now : Option Frame) → Rattle.tied_lists.specs.Waits.waits_next p now e ≡ now)
    → ((p now : ℕ) → Rattle.tied_lists.specs.Waits.number_next p now e ≡
    now)
    → RingFollows n h r → RingFollows n (h ++ e ∷ []) r
local-step net h n e r w k i = record {
  size = i.size;
  node = ⊎_elim (λ (x : maker e ≡ n). subst
      (λ (l : List RingEntry). NodeFollows n l r.holder (ring_node r n)) (sym (own-mine n h e x))
      (record {
        part = quiet-own n (own n h) _ _ _ _ e w k i.node.part;
        left = i.node.left;
        busy = i.node.busy;
        asking = i.node.asking;
      }))
      (λ (x : maker e ≡ n → ⊥). subst
      (λ (l : List RingEntry). NodeFollows n l r.holder (ring_node r n)) (sym (own-other n h e x))
      i.node) (cases_eq (maker e) n);
  frames = i.frames;
}

-- Pass
pass-step : (net : NetPlan) (h : List RingEntry) (n m : ℕ) (done : Bool) (words : List ℕ)
    → n < addresses → IsRingStep net h (Pass
    m done words) → (r : RingIs) → r ≡ ring_after net h → RingFollows n h r
    → RingFollows n (h ++ Pass m done words ∷ []) (after net r (Pass m done words))
pass-step net h n m done words range s r is i =
    let t : IsTimelyEntry net h r (Pass m done words) =
    subst (λ (x : RingIs). IsTimelyEntry net h x (Pass m done words)) (sym is) s.1 in
    let holds : r.holder ≡ m = turn-holds r m (first-none _ _ t.0) in
    ⊎_elim (λ (e : m ≡ n). subst (λ (k : ℕ). RingFollows n (h ++ Pass k done words ∷ [])
    (after net r (Pass k done words))) (sym e)
    (let c = ring_node r n in
    let no' : pass_no r n ≡ None = subst (λ (k : ℕ). pass_no r k ≡ None) e t.0 in
    let boxes = second-none _ _ no' in
    let out : c.outbox ≡ [] = unsent-none c.outbox (first-none _ _ boxes) in
    let box : c.inbox ≡ [] = untaken-none c.inbox (second-none _ _ boxes) in
    let j : Follows n (own n h) c.paths [] [] c.tries =
    subst (λ (l : List Frame). Follows n (own n h) c.paths [] l c.tries) box
    (subst (λ (l : List Frame). Follows n (own n h) c.paths l c.inbox c.tries) out i.node.part) in
    handed-own n h r (Pass n done words) (after_pass c done) range refl
    (record {
      part = subst (λ (l : List Frame). Follows n (own n h ++ Pass n done words ∷ [])
          (map aged c.paths) c.outbox l c.tries) (sym
          box) (subst (λ (l : List Frame). Follows n (own n h ++ Pass n done words ∷ [])
          (map aged c.paths) l [] c.tries) (sym
          out)
          (pass-on n (own n h) c.paths c.tries done words j));
      left = λ _. box;
      busy = inl (subst AsksNothing (sym out) tt);
      asking = λ _. subst AsksNothing (sym out) tt;
    })
    (i.frames n) i))
    (λ (o : m ≡ n → ⊥). handed-other n h r (Pass m done words) m (after_pass (ring_node r m) done)
    o refl holds (i.frames m) i)
    (cases_eq m n)

-- Leave
left-follows : (n : ℕ) (b : List RingEntry) (holder : ℕ) (c : NodeIs) (cause : LeaveCause)
    → Follows n b c.paths c.outbox c.inbox c.tries
    → NodeFollows n b holder (admitted (gone_by cause c))
left-follows n b holder c Ended i = record {
  part = empty-box n b c.paths c.outbox c.inbox c.tries i;
  left = λ _. refl;
  busy = inr (inr refl);
  asking = λ e. absurd (cc);
}
left-follows n b holder c Spent i = record {
  part = empty-box n b c.paths c.outbox c.inbox c.tries i;
  left = λ _. refl;
  busy = inr (inr refl);
  asking = λ e. absurd (cc);
}
left-follows n b holder c (Down number) i = record {
  part = follows-boxes n b c.paths c.outbox [] c.inbox [] c.tries 0 tt (λ q. omega arith) tt
      (λ q. omega arith) (omega arith) i;
  left = λ _. refl;
  busy = inl tt;
  asking = λ _. tt;
}

left-own : (m : ℕ) (c : NodeIs) (cause : LeaveCause) → OwnBox m c → OwnBox m (gone_by cause c)
left-own m c Ended all = all
left-own m c Spent all = all
left-own m c (Down number) all = tt

leave-step : (net : NetPlan) (h : List RingEntry) (n m : ℕ) (cause : LeaveCause) → n < addresses
    → IsRingStep net h (Leave m
    cause) → (r : RingIs) → r ≡ ring_after net h → RingFollows n h r
    → RingFollows n (h ++ Leave m cause ∷ []) (after net r (Leave m cause))
leave-step net h n m cause range s r is i =
    let t : IsTimelyEntry net h r (Leave m cause) =
    subst (λ (x : RingIs). IsTimelyEntry net h x (Leave m cause)) (sym is) s.1 in
    let holds : r.holder ≡ m = turn-holds r m (first-none _ _ (first-none _ _ t)) in
    ⊎_elim (λ (e : m ≡ n).
    subst (λ (k : ℕ). RingFollows n (h ++ Leave k cause ∷ []) (after net r (Leave k cause))) (sym e)
    (let c = ring_node r n in
    handed-own n h r (Leave n cause) (gone_by cause c) range refl
    (left-follows n _ _ c cause (quiet-own n (own n h) _ _ _ _ (Leave n cause) (λ p now. refl)
    (λ p now. refl) i.node.part)) (left-own n c cause (i.frames n)) i))
    (λ (o : m ≡ n → ⊥). handed-other n h r (Leave m cause) m (gone_by cause (ring_node r m)) o refl
    holds (left-own m (ring_node r m) cause (i.frames m)) i)
    (cases_eq m n)

-- Join: no path waits, so no Request is in the outbox
path-free : (c : NodeIs) → paths_no c ≡ None → (p : ℕ) → 1 ≤ p → p ≤ 4
    → (path_of c p).awaits ≡ Nothing
path-free c none p least most =
    let two = second-none _ _ none in
    let three = second-none _ _ two in
    at p least most (taken-none _ (first-none _ _ none)) (taken-none _ (first-none _ _ two))
    (taken-none _ (first-none _ _ three)) (taken-none _ (second-none _ _ three))
  where
    at : (p : ℕ) → 1 ≤ p → p ≤ 4 → (path_of c 1).awaits ≡ Nothing → (path_of c 2).awaits ≡ Nothing
        → (path_of c 3).awaits ≡ Nothing → (path_of c 4).awaits ≡ Nothing
        → (path_of c p).awaits ≡ Nothing
    at zero l h a b d e = absurd (omega (arith, l))
    at (suc zero) l h a b d e = a
    at (suc (suc zero)) l h a b d e = b
    at (suc (suc (suc zero))) l h a b d e = d
    at (suc (suc (suc (suc zero)))) l h a b d e = e
    at (suc (suc (suc (suc (suc p))))) l h a b d e = absurd (omega (arith, h))

none-out-free : (n : ℕ) (c : NodeIs) → paths_no c ≡ None → (f : Frame) (kind : FrameKind)
    → f.kind ≡ kind → IsFrom n kind f → OutOn c.paths kind f.id → NotAsked f
none-out-free n c none f Reply is from out = ap asks is
none-out-free n c none f Request is from out =
    let free = path-free c none f.id.path from.2.0 from.2.1 in
    let no' : waits_for Nothing f.id.seq ≡ true =
    subst (λ (a : Await). waits_for a f.id.seq ≡ true) free out in
    let no2 : false ≡ true = no' in absurd (cc)

all-free : (n : ℕ) (c : NodeIs) → paths_no c ≡ None → (box : List Frame) → Each (IsOwn n) box
    → Each (IsSent c.paths) box → AsksNothing box
all-free n c none [] from out = tt
all-free n c none (f ∷ fs) from out =
    (none-out-free n c none f f.kind refl from.0 out.0, all-free n c none fs from.1 out.1)

was-away : (s : NodeStatus) → away_no s ≡ None → is_in s ≡ false
was-away In e = absurd (cc)
was-away Away e = refl
was-away Asking e = absurd (cc)
was-away Gone e = absurd (cc)

join-follows : (n : ℕ) (b : List RingEntry) (holder holder' : ℕ) (c : NodeIs) (s : NodeStatus)
    → or_no (away_no c.status) (paths_no c) ≡ None → Each (IsOwn n) c.outbox
    → NodeFollows n b holder c
    → NodeFollows n (b ++ Join n ∷ []) holder' (with_status c s)
join-follows n b holder holder' c s none from i =
    let free = all-free n c (second-none _ _ none) c.outbox from i.part.outs in
    record {
      part = quiet-own n b c.paths c.outbox c.inbox c.tries (Join n) (λ p now. refl)
          (λ p now. refl) i.part;
      left = λ _. i.left (was-away c.status (first-none _ _ none));
      busy = inl free;
      asking = λ _. free;
    }

join-other : (n : ℕ) (r : RingIs) (m : ℕ) → is_held r ≡ false
    → IsBusy n r.holder (is_here (ring_node r n)) (ring_node r n).outbox
    → IsBusy n m (is_here (ring_node r n)) (ring_node r n).outbox
join-other n r m none busy = ⊎_elim (λ (x : AsksNothing (ring_node r n).outbox). inl x)
    (λ (y : (r.holder ≡ n) ⊎ (is_here (ring_node r n) ≡ false)). ⊎_elim
    (λ (z : r.holder ≡ n). inr (inr (ap (λ (k : ℕ). is_here (ring_node r k)) (sym z) ∙ none)))
    (λ (z : is_here (ring_node r n) ≡ false). inr (inr z)) y) busy

join-step : (net : NetPlan) (h : List RingEntry) (n m : ℕ) → n < addresses
    → IsRingStep net h (Join m) → (r : RingIs) → r ≡ ring_after net h → RingFollows n h r
    → RingFollows n (h ++ Join m ∷ []) (after net r (Join m))
join-step net h n m range s r is i =
    let t : join_no r m ≡ None = subst (λ (x : RingIs). join_no x m ≡ None) (sym is) s.1 in
    ⊎_elim (λ (e : m ≡ n).
    subst (λ (k : ℕ). RingFollows n (h ++ Join k ∷ []) (made_asking r k)) (sym e)
    (let none : join_no r n ≡ None = subst (λ (k : ℕ). join_no r k ≡ None) e t in
    let join : (holder : ℕ) (s : NodeStatus) → RingFollows n (h ++ Join n ∷ []) (record {
      holder = holder;
      sent = r.sent;
      nodes = set r.nodes n (with_status (ring_node r n) s);
    }) = λ holder s. own-step n h r (Join n) holder (with_status (ring_node r n) s) range refl
    (join-follows n (own n h) r.holder holder (ring_node r n) s none (i.frames n) i.node)
    (i.frames n) i in
    cond_both (is_held r) _ _ (RingFollows n (h ++ Join n ∷ [])) (λ _. join r.holder Asking)
    (λ _. join n In)))
    (λ (o : m ≡ n → ⊥).
    let other : (holder : ℕ) (s : NodeStatus)
    → IsBusy n holder (is_here (ring_node r n)) (ring_node r n).outbox
    → RingFollows n (h ++ Join m ∷ []) (record {
      holder = holder;
      sent = r.sent;
      nodes = set r.nodes m (with_status (ring_node r m) s);
    }) = λ holder s busy. other-step n h r (record {
      holder = holder;
      sent = r.sent;
      nodes = set r.nodes m (with_status (ring_node r m) s);
    }) (Join m) o (length-set _ _ _) (at-other r.nodes m n _ (λ x. o (sym x))) busy
    (each-put OwnBox r.nodes (fresh false) m _ i.frames (i.frames m)) i in
    cond_both (is_held r) _ _ (RingFollows n (h ++ Join m ∷ []))
    (λ _. other r.holder Asking i.node.busy)
    (λ (no' : is_held r ≡ false). other m In (join-other n r m no' i.node.busy)))
    (cases_eq m n)

-- Send: the sender
abbrev LowIfAsk : FrameKind → ℕ → Type 0
LowIfAsk Request p = p < path_places
LowIfAsk Reply p = Unit {0}

low-if : (n : ℕ) (f : Frame) (kind : FrameKind) → IsFrom n kind f → LowIfAsk kind f.id.path
low-if n f Request from = let k = from.2.1 in omega (arith, k)
low-if n f Reply from = tt

failed-follows : (n : ℕ) (b : List RingEntry) (c : NodeIs) (f : Frame) (fs : List Frame) (word : ℕ)
    (kind : FrameKind) → f.kind ≡ kind → LowIfAsk kind f.id.path
    → Follows n b c.paths (f ∷ fs) c.inbox c.tries
    → Follows n b (failed c kind f.id word) fs c.inbox 0
failed-follows n b c f fs word Request is low' i =
    fail-request n b c f fs c.inbox c.tries 0 word is low' (omega arith) i
failed-follows n b c f fs word Reply is low' i =
    drop-first n b c.paths f fs c.inbox c.tries 0 (omega arith) i

abbrev NodeOf : ℕ → List RingEntry → NodeIs → Type 0
NodeOf n b c = Follows n b c.paths c.outbox c.inbox c.tries

heard-follows : (n : ℕ) (b : List RingEntry) (c : NodeIs) (f : Frame) (fs : List Frame)
    (there : Bool) (heard : Heard) → c.outbox
    ≡ f ∷ fs → IsOwn n f → NodeOf n b c
    → NodeOf n b (heard_by c f.kind f.id there heard)
heard-follows n b c f fs there heard is from i =
    let j : Follows n b c.paths (f ∷ fs) c.inbox c.tries =
    subst (λ (l : List Frame). Follows n b c.paths l c.inbox c.tries) is i in
    let low' = low-if n f f.kind from in
    let rest : fs ≡ drop 1 c.outbox = sym (ap (drop 1) is) in
    let gone' : (word : ℕ) → NodeOf n b (sent_off c (failed c f.kind f.id word)) =
    λ word. subst (λ (l : List Frame). Follows n b (failed c f.kind f.id word) l c.inbox 0) rest
    (failed-follows n b c f fs word f.kind refl low' j) in
    by-heard heard gone' (subst (λ (l : List Frame). Follows n b c.paths l c.inbox 0) rest
    (drop-first n b c.paths f fs c.inbox c.tries 0 (omega arith) j))
  where
    by-heard : (h : Heard) → ((word : ℕ) → NodeOf n b (sent_off c (failed c f.kind f.id word)))
        → NodeOf n b (sent_off c c.paths)
        → NodeOf n b (heard_by c f.kind f.id there h)
    by-heard Acked lost kept = kept
    by-heard Busy lost kept = lost busy_word
    by-heard Silent lost kept = cond_both (nat_le 2 c.tries)
        (sent_off c (failed c f.kind f.id (silence_word there))) (record c {
          tries = c.tries + 1;
        }) (NodeOf n b)
        (λ _. lost (silence_word there))
        (λ (few : nat_le 2 c.tries ≡ false). let k = leb-false 2 c.tries few in record {
          size = i.size;
          paths = i.paths;
          asks = i.asks;
          numbers = i.numbers;
          outs = i.outs;
          once_out = i.once_out;
          comes = i.comes;
          once_in = i.once_in;
          tries_few = omega (arith, k);
        })

pub heard-status : (c : NodeIs) (kind : FrameKind) (id : CallId) (there : Bool) (h : Heard)
    → (heard_by c kind id there h).status ≡ c.status
heard-status c kind id there Acked = refl
heard-status c kind id there Busy = refl
heard-status c kind id there Silent = cond_both (nat_le 2 c.tries) (sent_off c (failed c kind id
    (silence_word there))) _ (λ (x : NodeIs). x.status ≡ c.status) (λ _. refl) (λ _. refl)

pub heard-inbox : (c : NodeIs) (kind : FrameKind) (id : CallId) (there : Bool) (h : Heard)
    → (heard_by c kind id there h).inbox ≡ c.inbox
heard-inbox c kind id there Acked = refl
heard-inbox c kind id there Busy = refl
heard-inbox c kind id there Silent = cond_both (nat_le 2 c.tries) (sent_off c (failed c kind id
    (silence_word there))) _ (λ (x : NodeIs). x.inbox ≡ c.inbox) (λ _. refl) (λ _. refl)

heard-own : (m : ℕ) (c : NodeIs) (kind : FrameKind) (id : CallId) (there : Bool) (h : Heard)
    → OwnBox m c → OwnBox m (heard_by c kind id there h)
heard-own m c kind id there Acked all = each-drop (IsOwn m) c.outbox all
heard-own m c kind id there Busy all = each-drop (IsOwn m) c.outbox all
heard-own m c kind id there Silent all =
    cond_both (nat_le 2 c.tries) (sent_off c (failed c kind id (silence_word there))) _
    (OwnBox m) (λ _. each-drop (IsOwn m) c.outbox all) (λ _. all)

heard-asks : (c : NodeIs) (kind : FrameKind) (id : CallId) (there : Bool) (h : Heard)
    → AsksNothing c.outbox → AsksNothing (heard_by c kind id there h).outbox
heard-asks c kind id there Acked all = each-drop NotAsked c.outbox all
heard-asks c kind id there Busy all = each-drop NotAsked c.outbox all
heard-asks c kind id there Silent all =
    cond_both (nat_le 2 c.tries) (sent_off c (failed c kind id (silence_word there))) _
    (λ (x : NodeIs). AsksNothing x.outbox) (λ _. each-drop NotAsked c.outbox all) (λ _. all)

-- Send: the target
pub to-other : (m : ℕ) (f : Frame) (kind : FrameKind) → IsFrom m kind f → f.to ≢ m
to-other m f Request from = from.1
to-other m f Reply from = from.1

fell-follows : (n m : ℕ) (b : List RingEntry) (c : NodeIs) (f : Frame) (kind : FrameKind)
    → f.kind ≡ kind → IsFrom m kind f → f.to
    ≡ n → m ≢ n → AsksNothing c.outbox → NodeOf n b c
    → NodeOf n b (with_frame c (fell c kind f.id) f)
fell-follows n m b c f Request is from to other out i =
    cond_both (is_repeat c f.id) _ _ (λ x. NodeOf n b (with_frame c x f)) (λ _. i)
    (λ _. cond_both (is_full c) _ _ (λ x. NodeOf n b (with_frame c x f)) (λ _. i)
    (λ _. come-request n b c.paths c.outbox c.inbox c.tries f is (λ e. other (sym from.0 ∙ e)) i))
fell-follows n m b c f Reply is from to other out i =
    cond_both (waits_for (path_of c f.id.path).awaits f.id.seq) _ _
    (λ x. NodeOf n b (with_frame c x f))
    (λ (w : waits_for (path_of c f.id.path).awaits f.id.seq ≡ true).
    come-reply n b c c.outbox c.inbox c.tries f is (sym from.0 ∙ to)
    (path-low c.paths f.id.path _ i.size refl (λ e. not-nothing
    (path_of c f.id.path).awaits f.id.seq w e)) w out i)
    (λ _. i)
  where
    not-nothing : (a : Await) (s : ℕ) → waits_for a s ≡ true → a ≡ Nothing → ⊥
    not-nothing a s w e = let no' : waits_for Nothing s ≡ true =
        subst (λ (x : Await). waits_for x s ≡ true) e w in let no2 : false ≡ true = no' in cc

-- frames come to nobody's outbox, and to nobody who has left
fell-outbox : (c : NodeIs) (f : Frame) (kind : FrameKind)
    → (with_frame c (fell c kind f.id) f).outbox ≡ c.outbox
fell-outbox c f Request =
    cond_both (is_repeat c f.id) _ _ (λ x. (with_frame c x f).outbox ≡ c.outbox) (λ _. refl)
    (λ _. cond_both (is_full c) _ _ (λ x. (with_frame c x f).outbox ≡ c.outbox) (λ _. refl)
    (λ _. refl))
fell-outbox c f Reply = cond_both (waits_for (path_of c f.id.path).awaits f.id.seq) _ _
    (λ x. (with_frame c x f).outbox ≡ c.outbox) (λ _. refl) (λ _. refl)

fell-status : (c : NodeIs) (f : Frame) (kind : FrameKind)
    → (with_frame c (fell c kind f.id) f).status ≡ c.status
fell-status c f Request =
    cond_both (is_repeat c f.id) _ _ (λ x. (with_frame c x f).status ≡ c.status) (λ _. refl)
    (λ _. cond_both (is_full c) _ _ (λ x. (with_frame c x f).status ≡ c.status) (λ _. refl)
    (λ _. refl))
fell-status c f Reply = cond_both (waits_for (path_of c f.id.path).awaits f.id.seq) _ _
    (λ x. (with_frame c x f).status ≡ c.status) (λ _. refl) (λ _. refl)

arrives-here : (here goes x : Bool) → cond (here && goes) x false ≡ true → here ≡ true
arrives-here true goes x e = refl
arrives-here false goes x e = absurd (let no' : false ≡ true = e in cc)

pub arrived-part : (net : NetPlan) (nodes : List NodeIs) (f : Frame) (fate : Fate)
    (P : ℕ → NodeIs → Type 0) → ((k : ℕ) → P k (part_of nodes k))
    → (is_here (part_of nodes f.to) ≡ true
    → P f.to (with_frame (part_of nodes f.to) (fell (part_of nodes f.to) f.kind f.id) f))
    → (k : ℕ) → P k (part_of (arrived nodes f (arrival net nodes fate f)) k)
arrived-part net nodes f fate P all at =
    cond_both (arrives net nodes fate f) (Some (fell (part_of nodes f.to) f.kind f.id)) None (λ x.
    (k : ℕ) → P k (part_of (arrived nodes f x) k))
    (λ (y : arrives net nodes fate f ≡ true). each-put P nodes (fresh false) f.to _ all
    (at (arrives-here (is_here (part_of nodes f.to)) _ _ y)))
    (λ _. all)

pub length-arrived : (net : NetPlan) (nodes : List NodeIs) (fate : Fate) (f : Frame)
    → length (arrived nodes f (arrival net nodes fate f)) ≡ length nodes
length-arrived net nodes fate f =
    cond_both (arrives net nodes fate f) (Some (fell (part_of nodes f.to) f.kind f.id)) None
    (λ x. length (arrived nodes f x) ≡ length nodes) (λ _. length-set _ _ _) (λ _. refl)

-- what is said of the node, of each place
abbrev If : ℕ → (NodeIs → Type 0) → ℕ → NodeIs → Type 0
If n P k c = k ≡ n → P c

-- no Request in the outbox of a member that does not hold the token
nothing-asked : (n holder : ℕ) (here : Bool) (out : List Frame) → holder ≢ n → here ≡ true
    → IsBusy n holder here out → AsksNothing out
nothing-asked n holder here out not_mine is b = ⊎_elim (λ (x : AsksNothing out). x)
    (λ (y : (holder ≡ n) ⊎ (here ≡ false)). ⊎_elim (λ (z : holder ≡ n). absurd (not_mine z))
    (λ (z : here ≡ false). absurd (cc)) y) b

came-node : (n m : ℕ) (b : List RingEntry) (holder : ℕ) (c : NodeIs) (f : Frame) → IsOwn m f
    → f.to ≡ n → m ≢ n → holder ≢ n → is_here c ≡ true → NodeFollows n b holder c
    → NodeFollows n b holder (with_frame c (fell c f.kind f.id) f)
came-node n m b holder c f from to other not_mine here i =
    let d = with_frame c (fell c f.kind f.id) f in
    let still = fell-status c f f.kind in
    let out = fell-outbox c f f.kind in
    record {
      part = fell-follows n m b c f f.kind refl from to other
          (nothing-asked n holder (is_here c) c.outbox not_mine here i.busy) i.part;
      left = λ gone'. absurd (let x : is_here d ≡ true = ap is_in still ∙ here in cc);
      busy = subst (λ (o : List Frame). IsBusy n holder (is_here d) o) (sym out)
          (subst (λ (x : Bool). IsBusy n holder x c.outbox) (sym (ap is_in still)) i.busy);
      asking = λ asks. subst AsksNothing (sym out) (i.asking (sym still ∙ asks));
    }

sent-other : (net : NetPlan) (h : List RingEntry) (n m : ℕ) (heard : Heard) (f : Frame)
    (fs : List Frame) → m ≢ n → (r : RingIs) → r.holder ≡ m → (ring_node r m).outbox ≡ f ∷ fs
    → RingFollows n h r
    → RingFollows n (h ++ Send m heard ∷ []) (sent_one net r m f)
sent-other net h n m heard f fs other r holds box i =
    let fate = fate_at net.fates r.sent in
    let nodes = arrived r.nodes f (arrival net r.nodes fate f) in
    let from : IsOwn m f = (subst (λ (l : List Frame). Each (IsOwn m) l) box (i.frames m)).0 in
    let mine : (k : ℕ) → If n (NodeFollows n (own n h) r.holder) k (part_of nodes k) =
    arrived-part net r.nodes f fate (If n (NodeFollows n (own n h) r.holder))
    (λ k e. subst (λ (x : ℕ). NodeFollows n (own n h) r.holder (part_of r.nodes x)) (sym e) i.node)
    (λ here e. came-node n m (own n h) r.holder (part_of r.nodes f.to) f from e other
    (λ x. other (sym holds ∙ x)) here (subst (λ
    (x : ℕ). NodeFollows n (own n h) r.holder (part_of r.nodes x)) (sym e) i.node)) in
    let frames : (k : ℕ) → OwnBox k (part_of nodes k) =
    arrived-part net r.nodes f fate OwnBox i.frames (λ here. subst (Each
    (IsOwn f.to)) (sym (fell-outbox (part_of r.nodes f.to) f f.kind)) (i.frames f.to)) in
    let c' = heard_by (part_of nodes m) f.kind f.id (hears net r.nodes f.to (is_onward f))
    (heard_of fate (arrival net r.nodes fate f)) in
    record {
      size = length-set _ _ _ ∙ (length-arrived net r.nodes fate f ∙ i.size);
      node = subst (λ (x : NodeIs). NodeFollows n (own n (h ++ Send m heard ∷ [])) r.holder x)
          (sym (at-other nodes m n c' (λ x. other (sym x))))
          (subst (λ (l : List RingEntry). NodeFollows n l r.holder (part_of nodes n))
          (sym (own-other n h (Send m heard) other)) (mine n refl));
      frames = each-put OwnBox nodes (fresh false) m c' frames
          (heard-own m (part_of nodes m) f.kind f.id _ _ (frames m));
    }

sent-own : (net : NetPlan) (h : List RingEntry) (n : ℕ) (heard : Heard) (f : Frame)
    (fs : List Frame) → n < addresses → (r : RingIs) → r.holder ≡ n
    → (ring_node r n).outbox ≡ f ∷ fs → RingFollows n h r
    → RingFollows n (h ++ Send n heard ∷ []) (sent_one net r n f)
sent-own net h n heard f fs range r holds box i =
    let fate = fate_at net.fates r.sent in
    let nodes = arrived r.nodes f (arrival net r.nodes fate f) in
    let from : IsOwn n f = (subst (λ (l : List Frame). Each (IsOwn n) l) box (i.frames n)).0 in
    let same : part_of nodes n ≡ ring_node r n =
    arrived-part net r.nodes f fate (If n (λ c. c ≡ ring_node r n))
    (λ k e. ap (part_of r.nodes) e) (λ here e. absurd (to-other n f f.kind from e)) n refl in
    let frames : (k : ℕ) → OwnBox k (part_of nodes k) =
    arrived-part net r.nodes f fate OwnBox i.frames (λ here. subst (Each
    (IsOwn f.to)) (sym (fell-outbox (part_of r.nodes f.to) f f.kind)) (i.frames f.to)) in
    let there = hears net r.nodes f.to (is_onward f) in
    let told = heard_of fate (arrival net r.nodes fate f) in
    let c = part_of nodes n in
    let c' = heard_by c f.kind f.id there told in
    let size : length nodes ≡ addresses = length-arrived net r.nodes fate f ∙ i.size in
    let now : NodeFollows n (own n h) r.holder c = subst (NodeFollows n (own n h) r.holder)
    (sym same) i.node in
    let b' = own n h ++ Send n heard ∷ [] in
    let node : NodeFollows n b' r.holder c' = record {
      part = heard-follows n b' c f fs there told (ap (λ (x : NodeIs). x.outbox) same ∙ box) from
          (quiet-own n (own n h) c.paths
          c.outbox c.inbox c.tries (Send n heard) (λ p now'. refl) (λ p now'. refl) now.part);
      left = λ gone'. heard-inbox c f.kind f.id there told
          ∙ now.left (ap is_in (sym (heard-status c f.kind f.id there told)) ∙ gone');
      busy = inr (inl holds);
      asking = λ asks. heard-asks c f.kind f.id there told
          (now.asking (sym (heard-status c f.kind f.id there told) ∙ asks));
    } in
    record {
      size = length-set _ _ _ ∙ size;
      node = subst (λ (x : NodeIs). NodeFollows n (own n (h ++ Send n heard ∷ [])) r.holder x)
          (sym (at-same nodes n c' size range))
          (subst (λ (l : List RingEntry). NodeFollows n l r.holder c')
          (sym (own-mine n h (Send n heard) refl)) node);
      frames = each-put OwnBox nodes (fresh false) n c' frames
          (heard-own n c f.kind f.id there told (frames n));
    }

sent-step : (net : NetPlan) (h : List RingEntry) (n m : ℕ) (heard : Heard) (box : List Frame)
    → n < addresses → (r : RingIs) → r.holder ≡ m → (ring_node r m).outbox ≡ box → RingFollows n h r
    → RingFollows n (h ++ Send m heard ∷ []) (sent_head net r m box)
sent-step net h n m heard [] range r holds is i =
    local-step net h n (Send m heard) r (λ p now. refl) (λ p now. refl) i
sent-step net h n m heard (f ∷ fs) range r holds is i =
    ⊎_elim (λ (e : m ≡ n).
    subst (λ (k : ℕ). RingFollows n (h ++ Send k heard ∷ []) (sent_one net r k f)) (sym e)
    (sent-own net h n heard f fs range r (holds ∙ e)
    (subst (λ (k : ℕ). (ring_node r k).outbox ≡ f ∷ fs) e is) i))
    (λ (o : m ≡ n → ⊥). sent-other net h n m heard f fs o r holds is i)
    (cases_eq m n)

send-step : (net : NetPlan) (h : List RingEntry) (n m : ℕ) (heard : Heard) → n < addresses
    → IsRingStep net h (Send m heard) → (r
    : RingIs) → r ≡ ring_after net h → RingFollows n h r
    → RingFollows n (h ++ Send m heard ∷ []) (after net r (Send m heard))
send-step net h n m heard range s r is i =
    let t : IsTimelyEntry net h r (Send m heard) =
    subst (λ (x : RingIs). IsTimelyEntry net h x (Send m heard)) (sym is) s.1 in
    sent-step net h n m heard (ring_node r m).outbox range r (turn-holds r m (first-none _ _ t.0))
    refl i

-- all eight, and lists of them
step-follows : (net : NetPlan) (h : List RingEntry) (n : ℕ) (e : RingEntry) → n < addresses
    → IsPatient (status_at net h n) n e
    → IsRingStep net h e → (r : RingIs) → r ≡ ring_after net h → RingFollows n h r
    → RingFollows n (h ++ e ∷ []) (after net r e)
step-follows net h n (Post m f) range patient s r is i =
    post-step net h n m f range patient s r is i
step-follows net h n (Send m heard) range patient s r is i =
    send-step net h n m heard range s r is i
step-follows net h n (Take m f) range patient s r is i = take-step net h n m f range s r is i
step-follows net h n (Local m id op result) range patient s r is i =
    local-step net h n (Local m id op result) r (λ p now. refl) (λ p now. refl) i
step-follows net h n (GiveUp id word) range patient s r is i =
    give_up-step net h n id word range s r is i
step-follows net h n (Pass m done words) range patient s r is i =
    pass-step net h n m done words range s r is i
step-follows net h n (Leave m cause) range patient s r is i =
    leave-step net h n m cause range s r is i
step-follows net h n (Join m) range patient s r is i = join-step net h n m range s r is i

run-follows : (net : NetPlan) (n : ℕ) (h es : List RingEntry) → n < addresses → IsRun net h es
    → ArePatient net n h es
    → RingFollows n h (ring_after net
    h) → RingFollows n (h ++ es) (ring_after net (h ++ es))
run-follows net n h [] range run patient i =
    subst (λ (l : List RingEntry). RingFollows n l (ring_after net l)) (sym (append-nil h)) i
run-follows net n h (e ∷ es) range run patient i =
    let one' = step-follows net h n e range patient.0 run.0 (ring_after net h) refl i in
    let more = subst (λ (x : RingIs). RingFollows n (h ++ e ∷ []) x)
    (sym (after_all-push net (opening net) h e)) one' in
    subst (λ (l : List RingEntry). RingFollows n l (ring_after net l)) (append_assoc h (e ∷ []) es)
    (run-follows net n (h ++ e ∷ []) es range run.1 patient.1 more)

-- at first
get_or-same : {X : Type 0} (k : ℕ) (x : X) (p : ℕ) → get_or (replicate k x) p x ≡ x
get_or-same zero x p = refl
get_or-same (suc k) x zero = refl
get_or-same (suc k) x (suc p) = get_or-same k x p

abbrev IsFresh : NodeIs → Type 0
IsFresh c = (c.paths ≡ replicate path_places no_path) × (c.outbox ≡ []) × (c.inbox ≡ [])
    × (c.tries ≡ 0)

joined-fresh : (nodes : List NodeIs) (ms : List ℕ) → ((k : ℕ) → IsFresh (part_of nodes k)) → (k : ℕ)
    → IsFresh (part_of (with_members nodes ms) k)
joined-fresh nodes [] all = all
joined-fresh nodes (m ∷ ms) all =
    joined-fresh (set nodes m (fresh true)) ms (each-put (λ _. IsFresh) nodes (fresh false) m (fresh
    true) all (refl, refl, refl, refl))

length-joined : (nodes : List NodeIs) (ms : List ℕ) → length (with_members nodes ms) ≡ length nodes
length-joined nodes [] = refl
length-joined nodes (m ∷ ms) = length-joined (set nodes m (fresh true)) ms ∙ length-set _ _ _

fresh-follows : (n : ℕ) → Follows n [] (replicate path_places no_path) [] [] 0
fresh-follows n = record {
  size = length-replicate {A = Path} 5 no_path;
  paths = λ p. subst (λ (x : Path). AwaitsThis x.awaits None) (sym (get_or-same 5 no_path p)) tt;
  asks = λ p f is. absurd (let no' : None ≡ Some f = is in cc);
  numbers = λ p low'. ap (λ (x : Path). x.posted) (get_or-same 5 no_path p);
  outs = tt;
  once_out = λ q. omega arith;
  comes = tt;
  once_in = λ q. omega arith;
  tries_few = omega arith;
}

opening-follows : (net : NetPlan) (n : ℕ) → RingFollows n [] (opening net)
opening-follows net n =
    let all : (k : ℕ) → IsFresh (part_of (opening net).nodes k) =
    joined-fresh (replicate addresses (fresh false)) net.members
    (λ k. subst IsFresh (sym (get_or-same addresses (fresh false) k)) (refl, refl, refl, refl)) in
    let c = ring_node (opening net) n in
    let is = all n in
    record {
      size = length-joined _ net.members ∙ length-replicate {A = NodeIs} addresses (fresh false);
      node = record {
        part = fresh-part c.paths c.outbox c.inbox c.tries is.0 is.1 is.2 is.3;
        left = λ _. is.2;
        busy = inl (subst AsksNothing (sym is.1) tt);
        asking = λ _. subst AsksNothing (sym is.1) tt;
      };
      frames = λ m. subst (Each (IsOwn m)) (sym (all m).1) tt;
    }
  where
    fresh-part : (ps : List Path) (out box : List Frame) (tries : ℕ)
        → ps ≡ replicate path_places no_path → out ≡ [] → box ≡ [] → tries ≡ 0
        → Follows n [] ps out box tries
    fresh-part ps out box tries a b c d = subst (λ (x : List Path). Follows n [] x out box tries)
        (sym a) (subst (λ
        (x : List Frame). Follows n [] (replicate path_places no_path) x box tries) (sym b)
        (subst (λ (x : List Frame). Follows n [] (replicate path_places no_path) [] x tries) (sym c)
        (subst (λ (x : ℕ). Follows n
        [] (replicate path_places no_path) [] [] x) (sym d) (fresh-follows n))))

-- what a node's paths and boxes follow after a legal history
pub legal-follows : (net : NetPlan) (h : List RingEntry) (n : ℕ) → IsOnRing net h n
    → RingFollows n h (ring_after net h)
legal-follows net h n on =
    run-follows net n [] h (low net n on.members on.member) on.legal on.patient
    (opening-follows net n)

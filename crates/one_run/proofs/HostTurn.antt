-- A hold of the token by a host makes one thing.
use Rattle.std.proofs.Common.{◌≡◌, ℕ, Bool, true, false, List, [], ◌∷◌}
use Rattle.std.proofs.Common.{◌++◌, filter_map, map, Option, Some, None, inl, inr, refl, sym, ap}
use Rattle.std.proofs.Common.{subst, ◌∙◌, append_assoc, append-nil}
use Rattle.std.specs.Prelude.{◌||◌, flat_map}
use Rattle.std.specs.List.{AllByRecursion as Each, AllZip}
use Rattle.std.proofs.lemmas.Bool.{eqb-true}
use Rattle.plant_types.specs.declared.net.HostAsk.{HostAsk}
use Rattle.plant_types.specs.declared.net.HostPlan.{HostPlan}
use Rattle.plant_types.specs.declared.net.NetPlan.{NetPlan}
use Rattle.mstr_block.specs.Table.{network_paths}
use Rattle.mstr_block.specs.declared.call.CallId.{CallId}
use Rattle.ring_core.specs.Legal.{IsLegalRing}
use Rattle.ring_core.specs.Machine.{path_of, ring_after}
use Rattle.ring_core.specs.Refusals.{free_no, or_no, path_no, taken_no, word_of}
use Rattle.ring_core.specs.Scratch.{local_result, words_put}
use Rattle.ring_core.specs.Statistics.{is_for_stats}
use Rattle.ring_core.specs.Words.{request_along}
use Rattle.ring_core.specs.declared.frame.FrameKind.{FrameKind}
use Rattle.ring_core.specs.declared.frame.FrameKind.TheVariants.{Request, Reply}
use Rattle.ring_core.specs.declared.frame.Frame.{Frame}
use Rattle.ring_core.specs.declared.path.Await.{Await}
use Rattle.ring_core.specs.declared.path.Await.TheVariants.{Nothing, Out, Arrived, Failed}
use Rattle.ring_core.specs.declared.entry.RingEntry.{RingEntry}
use Rattle.ring_core.specs.declared.entry.RingEntry.TheVariants.{Post, Take, Local}
use Rattle.ring_core.specs.declared.refusal.RingNo.{RingNo}
use Rattle.host_port.specs.Calls.{goes_on_path}
use Rattle.host_port.specs.Host.{due_request, host_is_done, request_for}
use Rattle.host_port.specs.declared.entry.HostEntry.{HostEntry}
use Rattle.tied_lists.specs.Items.{reply_of}
use Rattle.tied_lists.specs.Own.{is_of}
use Rattle.tied_lists.proofs.Turns.{legal-parts}
use Rattle.comm_port.specs.Giving.{part_at}
use Rattle.comm_port.specs.HostTurns.{AsksAllDue, EndsHostTurn, GivenUp, GivesUpDue}
use Rattle.comm_port.specs.HostTurns.{HoldsHostTurn, SendsOut}
use Rattle.comm_port.specs.HostTurns.{ServesFrame, ServesInbox, ServesKind, TellsTaken}
use Rattle.comm_port.specs.HostTurns.{ask_entry_of}
use Rattle.comm_port.specs.HostTurns.{bad_answer_of, bad_answer_to, give_up_of, hold_of, host_at}
use Rattle.comm_port.specs.Giving.{inbox_of, HasFailed}
use Rattle.comm_port.specs.HostTurns.{host_cause, host_notes_of, went_on}
use Rattle.comm_port.specs.Leaving.{last_entry}
use Rattle.comm_port.specs.Replies.{reply_frame}
use Rattle.serial_run.proofs.TurnLaws.{cons-head, cons-tail, nil-cons}
use Rattle.one_run.proofs.Dues.{op-same, result-is, ring-step, word-is}
use Rattle.one_run.proofs.Fails.{HasFailedOn, IsNoSend, next-fails, no-more-fail}
use Rattle.one_run.proofs.Parts.{Goes, goes-then}
use Rattle.one_run.proofs.Meets.{grew-is, grew-ours}
use Rattle.one_run.proofs.Sending.{frames-same}

-- a front of a legal list is legal
front : (net : NetPlan) (x more y : List RingEntry) → y ≡ x ++ more → IsLegalRing net y
    → IsLegalRing net x
front net x more y is legal = (legal-parts net x more (subst (IsLegalRing net) is legal)).0

pub legal-goes : {E : Type 0} (net : NetPlan) (n : ℕ) (a b : List E) (x y : List RingEntry)
    → Goes n a b x y → IsLegalRing net y → IsLegalRing net x
legal-goes net n a b x y g legal = front net x g.done y g.ring_is legal

-- ---- what came is served

module _ (net : NetPlan) (n : ℕ) where
  -- what a node does with a frame is one thing
  frame-same : (f : Frame) (past p p' rest rest' : List RingEntry)
      → IsLegalRing net (past ++ (p ++ rest)) → IsLegalRing net (past ++ (p' ++ rest'))
      → ServesFrame n f p → ServesFrame n f p' → p ≡ p'
  frame-same f past p p' rest rest' legal legal' u v = at f.kind (is_for_stats f) u v
    where
      told : (q : List RingEntry) (more : List RingEntry) (t : TellsTaken n f q)
          → IsLegalRing net (past ++ (q ++ more))
          → t.result ≡ local_result net (past ++ Take n f ∷ []) n t.op
      told q more t ok =
          result-is net (past ++ Take n f ∷ []) n f.id t.op t.result
          (Post n (reply_frame f.id (reply_of t.result)) ∷ more)
          (subst (IsLegalRing net) (ap (λ l. past ++ (l ++ more)) t.entries_are
          ∙ sym (append_assoc past (Take n f ∷ []) _)) ok)

      at : (kind : FrameKind) (stats : Bool)
          → Rattle.comm_port.specs.HostTurns.ServesKind kind n f p → ServesKind kind n f p' → p ≡ p'
      at Reply stats a b = a ∙ sym b
      at Request stats a b = by (is_for_stats f) a b
        where
          by : (b' : Bool) → Rattle.comm_port.specs.HostTurns.ServesRequest b' n f p
              → Rattle.comm_port.specs.HostTurns.ServesRequest b' n f p' → p ≡ p'
          by false c d = c ∙ sym d
          by true c d =
              let op = op-same c.op d.op f.pdu c.answers d.answers in
              let same : c.result ≡ d.result = told p rest c legal
              ∙ ap (local_result net (past ++ Take n f ∷ []) n) op ∙ sym (told p' rest' d legal') in
              c.entries_are ∙ (λ i. Take n f ∷ Local n f.id (op i) (same i)
              ∷ Post n (reply_frame f.id (reply_of (same i))) ∷ []) ∙ sym d.entries_are

  -- and with frames in their order
  parts-same : (frames : List Frame) (past : List RingEntry) (parts parts' : List (List RingEntry))
      → IsLegalRing net (past ++ flat_map (λ part. part) parts)
      → IsLegalRing net (past ++ flat_map (λ part. part) parts')
      → AllZip (ServesFrame n) frames parts → AllZip (ServesFrame n) frames parts' → parts ≡ parts'
  parts-same [] past [] [] legal legal' a b = refl
  parts-same [] past (p ∷ parts) parts' legal legal' a b = absurd a
  parts-same [] past [] (p ∷ parts') legal legal' a b = absurd b
  parts-same (f ∷ frames) past [] parts' legal legal' a b = absurd a
  parts-same (f ∷ frames) past (p ∷ parts) [] legal legal' a b = absurd b
  parts-same (f ∷ frames) past (p ∷ parts) (p' ∷ parts') legal legal' a b =
      let head = frame-same f past p p' (flat_map (λ part. part) parts)
      (flat_map (λ part. part) parts') legal legal' a.0 b.0 in
      let join = sym (append_assoc past p (flat_map (λ part. part) parts)) in
      let join' = (λ i. past ++ (sym head i ++ flat_map (λ part. part) parts'))
      ∙ sym (append_assoc past p (flat_map (λ part. part) parts')) in
      let tail = parts-same frames (past ++ p) parts parts' (subst (IsLegalRing net) join legal)
      (subst (IsLegalRing net) join' legal') a.1 b.1 in
      λ i. head i ∷ tail i

  -- what is served adds to both lists
  serves-goes : (a b : List HostEntry) (x y : List RingEntry) → ServesInbox true net n a b x y
      → Goes n a b x y
  serves-goes a b x y s = record {
    noted = flat_map host_notes_of (inbox_of net n x);
    known_is = s.all.notes;
    done = flat_map (λ part. part) s.all.parts;
    ring_is = grew-is (is_of n) x _ y s.all.grew;
    mine = grew-ours (is_of n) x _ y s.all.grew;
  }

  -- and is one thing
  serves-same : (a b b' : List HostEntry) (x y y' : List RingEntry) → ServesInbox true net n a b x y
      → IsLegalRing net y → ServesInbox true net n a b' x y'
      → IsLegalRing net y' → (b ≡ b') × (y ≡ y')
  serves-same a b b' x y y' s legal s' legal' =
      let is = grew-is (is_of n) x _ y s.all.grew in
      let is' = grew-is (is_of n) x _ y' s'.all.grew in
      let same = parts-same (inbox_of net n x) x s.all.parts s'.all.parts
      (subst (IsLegalRing net) is legal) (subst (IsLegalRing net) is' legal')
      s.all.serves s'.all.serves in (
        s.all.notes ∙ sym s'.all.notes,
        is ∙ ap (λ parts. x ++ flat_map (λ part. part) parts) same ∙ sym is',
      )

-- ---- requests are made

abbrev EachDue : HostPlan → ℕ → List HostEntry → List Frame → Type 0
EachDue plan hold list asks = (before after : List Frame) (ask : Frame)
    → asks ≡ before ++ ask ∷ after
    → due_request (host_at plan (list ++ map ask_entry_of before)) hold ≡ Some ask

-- requests that are due behind the first
next-due : (plan : HostPlan) (hold : ℕ) (list : List HostEntry) (k : Frame) (asks : List Frame)
    → EachDue plan hold list (k ∷ asks)
    → EachDue plan hold (list ++ ask_entry_of k ∷ []) asks
next-due plan hold list k asks each before after ask is =
    ap (λ l. due_request (host_at plan l) hold) (append_assoc list (ask_entry_of k ∷ [])
    (map ask_entry_of before)) ∙ each (k ∷ before) after ask (ap (λ l. k ∷ l) is)

-- requests that are due until none is are one list
asked-same : (plan : HostPlan) (hold : ℕ) (list : List HostEntry) (asks asks' : List Frame)
    → EachDue plan hold list asks → EachDue plan hold list asks'
    → due_request (host_at plan (list ++ map ask_entry_of asks)) hold ≡ None
    → due_request (host_at plan (list ++ map ask_entry_of asks')) hold ≡ None → asks ≡ asks'
asked-same plan hold list [] [] each each' none none' = refl
asked-same plan hold list [] (k ∷ asks') each each' none none' =
    absurd (let no' : None ≡ Some k = sym none ∙ each' [] asks' k refl in cc)
asked-same plan hold list (k ∷ asks) [] each each' none none' =
    absurd (let no' : None ≡ Some k = sym none' ∙ each [] asks k refl in cc)
asked-same plan hold list (k ∷ asks) (k' ∷ asks') each each' none none' =
    let both : Some k ≡ Some k' = sym (each [] asks k refl) ∙ each' [] asks' k' refl in
    let head : k ≡ k' = cc in
    let join = append_assoc list (ask_entry_of k ∷ []) (map ask_entry_of asks) in
    let join' = append_assoc list (ask_entry_of k' ∷ []) (map ask_entry_of asks') in
    let tail = asked-same plan hold (list ++ ask_entry_of k ∷ []) asks asks'
    (next-due plan hold list k asks each)
    (subst (λ c. EachDue plan hold (list ++ ask_entry_of c ∷ []) asks') (sym head)
    (next-due plan hold list k' asks' each'))
    (ap (λ l. due_request (host_at plan l) hold) join ∙ none)
    (subst (λ c. due_request
    (host_at plan ((list ++ ask_entry_of c ∷ []) ++ map ask_entry_of asks')) hold ≡ None) (sym head)
    (ap (λ l. due_request (host_at plan l) hold) join' ∙ none')) in
    λ i. head i ∷ tail i

-- each is a Request
request-kind : (o : Option CallId) (q : Option HostAsk) (f : Frame) → request_for o q ≡ Some f
    → f.kind ≡ Request
request-kind None q f is = absurd (let no' : None ≡ Some f = is in cc)
request-kind (Some id) None f is = absurd (let no' : None ≡ Some f = is in cc)
request-kind (Some id) (Some ask) f is =
    let same : request_along id ask.route ask.pdu ≡ f = cc in
    ap (λ (g : Frame). g.kind) (sym same)

each-request : (plan : HostPlan) (hold : ℕ) (list : List HostEntry) (asks : List Frame)
    → EachDue plan hold list asks → Each (λ (f : Frame). f.kind ≡ Request) asks
each-request plan hold list [] each = tt
each-request plan hold list (k ∷ asks) each = (
  request-kind _ _ k (each [] asks k refl),
  each-request plan hold (list ++ ask_entry_of k ∷ []) asks (next-due plan hold list k asks each),
)

module _ (net : NetPlan) (n : ℕ) (plan : HostPlan) (hold : ℕ) where
  -- what is asked adds to both lists
  asks-goes : (asks : List Frame) (a b : List HostEntry) (x y : List RingEntry)
      → AsksAllDue true n plan hold asks a b x y → Goes n a b x y
  asks-goes asks a b x y s = record {
    noted = map ask_entry_of asks;
    known_is = s.in_order.asked;
    done = map (Post n) asks;
    ring_is = grew-is (is_of n) x _ y s.in_order.grew;
    mine = grew-ours (is_of n) x _ y s.in_order.grew;
  }

  -- and is one thing
  asks-same : (asks asks' : List Frame) (a b b' : List HostEntry) (x y y' : List RingEntry)
      → AsksAllDue true n plan hold asks a b x y
      → AsksAllDue true n plan hold asks' a b' x y' → (asks ≡ asks') × (b ≡ b') × (y ≡ y')
  asks-same asks asks' a b b' x y y' s s' =
      let none = ap (λ l. due_request (host_at plan l) hold) (sym s.in_order.asked) ∙ s.no_more in
      let none' = ap (λ l. due_request (host_at plan l) hold) (sym s'.in_order.asked)
      ∙ s'.no_more in
      let same = asked-same plan hold a asks asks' s.in_order.each s'.in_order.each none none' in (
        same,
        s.in_order.asked ∙ ap (λ l. a ++ map ask_entry_of l) same ∙ sym s'.in_order.asked,
        grew-is (is_of n) x _ y s.in_order.grew ∙ ap (λ l. x ++ map (Post n) l) same
            ∙ sym (grew-is (is_of n) x _ y' s'.in_order.grew),
      )

-- no call that was just posted has failed
taken-fails : (a : Await) → taken_no a ≡ None → HasFailed a → ⊥
taken-fails Nothing none f = f
taken-fails (Out seq to onward passes) none f = f
taken-fails (Arrived seq) none f = f
taken-fails (Failed seq word) none f = let no' : Some _ ≡ None = none in cc

-- why a Post is not refused
second-none : (a b : Option RingNo) → or_no a b ≡ None → b ≡ None
second-none None b e = e
second-none (Some x) b e = absurd (let no' : Some x ≡ None = e in cc)

-- a Post is no Send
quiet-posts : (n : ℕ) (asks : List Frame) → Each (IsNoSend n) (map (Post n) asks)
quiet-posts n [] = tt
quiet-posts n (k ∷ asks) = (tt, quiet-posts n asks)

-- no call that was posted in this turn has failed before the first Send
posts-fine : (net : NetPlan) (n : ℕ) (asks : List Frame) (past : List RingEntry)
    → Each (λ (f : Frame). f.kind ≡ Request) asks
    → IsLegalRing net (past ++ map (Post n) asks) → (p : ℕ) → went_on asks p ≡ true
    → HasFailedOn (part_at net n (past ++ map (Post n) asks)) p → ⊥
posts-fine net n [] past requests legal p went f = let no' : false ≡ true = went in cc
posts-fine net n (k ∷ asks) past requests legal p went f =
    at (goes_on_path p k) refl went (posts-fine net n asks (past ++ Post n k ∷ []) requests.1)
  where
    join : past ++ (Post n k ∷ map (Post n) asks) ≡ (past ++ Post n k ∷ []) ++ map (Post n) asks
    join = sym (append_assoc past (Post n k ∷ []) (map (Post n) asks))

    later : HasFailedOn (part_at net n ((past ++ Post n k ∷ []) ++ map (Post n) asks)) p
    later = subst (λ l. HasFailedOn (part_at net n l) p) join f

    at : (b : Bool) → goes_on_path p k ≡ b → (b || went_on asks p) ≡ true
        → (IsLegalRing net ((past ++ Post n k ∷ []) ++ map (Post n) asks) → (q : ℕ)
        → went_on asks q ≡ true
        → HasFailedOn (part_at net n ((past ++ Post n k ∷ []) ++ map (Post n) asks)) q → ⊥) → ⊥
    at false is rest more = more (subst (IsLegalRing net) join legal) p rest later
    at true is rest more =
        elim (next-fails net past (Post n k) n p (no-more-fail net (past ++ Post n k ∷ [])
        (map (Post n) asks) n p (quiet-posts n asks) later)) [
          | inr sends ↦ absurd sends
          | inl before ↦
              let step = ring-step net past (Post n k) (map (Post n) asks) legal in
              let none = second-none (free_no (ring_after net past) n)
              (path_no (part_at net n past) k.kind k.id.path) step.1.1 in
              let free : taken_no (path_of (part_at net n past) k.id.path).awaits ≡ None =
              ap (λ kind. path_no (part_at net n past) kind k.id.path) (sym requests.0) ∙ none in
              taken-fails (path_of (part_at net n past) k.id.path).awaits free
              (subst (HasFailedOn (part_at net n past)) (sym (eqb-true k.id.path p is)) before)
        ]

-- ---- frames are sent

module _ (net : NetPlan) (n : ℕ) (on : ℕ → Bool) where
  -- what is sent adds to both lists
  out-goes : (a b : List HostEntry) (x y : List RingEntry) → SendsOut true net n on a b x y
      → Goes n a b x y
  out-goes a b x y s = record {
    noted = filter_map bad_answer_to s.frames.done;
    known_is = s.answers;
    done = s.frames.done;
    ring_is = grew-is (is_of n) x _ y s.frames.grew;
    mine = grew-ours (is_of n) x _ y s.frames.grew;
  }

  -- and is one thing
  out-same : (a b b' : List HostEntry) (x y y' : List RingEntry)
      → ((p : ℕ) → on p ≡ true → HasFailedOn (part_at net n x) p → ⊥)
      → SendsOut true net n on a b x y → IsLegalRing net y → SendsOut true net n on a b' x y'
      → IsLegalRing net y' → (b ≡ b') × (y ≡ y')
  unfolding out-goes
  out-same a b b' x y y' none s legal s' legal' = (
    s.answers ∙ ap (λ l. a ++ filter_map bad_answer_to l) same ∙ sym s'.answers,
    g.ring_is ∙ ap (λ l. x ++ l) same ∙ sym g'.ring_is,
  )
    where
      g : Goes n a b x y
      g = out-goes a b x y s

      g' : Goes n a b' x y'
      g' = out-goes a b' x y' s'

      same : s.frames.done ≡ s'.frames.done
      same = frames-same net n on x y y' none s.frames legal s'.frames legal'

-- ---- calls are given up

-- calls that are given up are one list, by their names
ends-same : (net : NetPlan) (past : List RingEntry) (ends ends' : List GivenUp)
    → map (λ (end : GivenUp). end.id) ends ≡ map (λ (end : GivenUp). end.id) ends'
    → IsLegalRing net (past ++ map give_up_of ends)
    → IsLegalRing net (past ++ map give_up_of ends') → ends ≡ ends'
ends-same net past [] [] are legal legal' = refl
ends-same net past [] (e ∷ ends') are legal legal' = nil-cons are
ends-same net past (e ∷ ends) [] are legal legal' = nil-cons (sym are)
ends-same net past (e ∷ ends) (e' ∷ ends') are legal legal' =
    let id : e.id ≡ e'.id = cons-head are in
    let word : e.word ≡ e'.word = word-is net past e.id e.word (map give_up_of ends) legal
    ∙ ap (word_of net (ring_after net past)) id
    ∙ sym (word-is net past e'.id e'.word (map give_up_of ends') legal') in
    let head : e ≡ e' = λ i. record { id = id i; word = word i } in
    let join = sym (append_assoc past (give_up_of e ∷ []) (map give_up_of ends)) in
    let join' = (λ i. past ++ (give_up_of (sym head i) ∷ map give_up_of ends'))
    ∙ sym (append_assoc past (give_up_of e ∷ []) (map give_up_of ends')) in
    let tail = ends-same net (past ++ give_up_of e ∷ []) ends ends' (cons-tail are)
    (subst (IsLegalRing net) join legal) (subst (IsLegalRing net) join' legal') in
    λ i. head i ∷ tail i

module _ (net : NetPlan) (n : ℕ) (paths : List ℕ) where
  -- what is given up adds to both lists
  gives-goes : (a b : List HostEntry) (x y : List RingEntry) → GivesUpDue true net n paths a b x y
      → Goes n a b x y
  gives-goes a b x y s = record {
    noted = map bad_answer_of s.ends;
    known_is = s.answers;
    done = map give_up_of s.ends;
    ring_is = grew-is (is_of n) x _ y s.grew;
    mine = grew-ours (is_of n) x _ y s.grew;
  }

  -- and is one thing
  gives-same : (a b b' : List HostEntry) (x y y' : List RingEntry)
      → GivesUpDue true net n paths a b x y → IsLegalRing net y
      → GivesUpDue true net n paths a b' x y' → IsLegalRing net y' → (b ≡ b') × (y ≡ y')
  gives-same a b b' x y y' s legal s' legal' =
      let is = grew-is (is_of n) x _ y s.grew in
      let is' = grew-is (is_of n) x _ y' s'.grew in
      let same = ends-same net x s.ends s'.ends (s.calls ∙ sym s'.calls)
      (subst (IsLegalRing net) is legal) (subst (IsLegalRing net) is' legal') in (
        s.answers ∙ ap (λ l. a ++ map bad_answer_of l) same ∙ sym s'.answers,
        is ∙ ap (λ l. x ++ map give_up_of l) same ∙ sym is',
      )

-- ---- the end, and the whole

module _ (net : NetPlan) (n : ℕ) (plan : HostPlan) (budget : Bool) where
  abbrev End : List HostEntry → List HostEntry → List RingEntry → List RingEntry → Bool → Type 0
  End a b x y left = EndsHostTurn true net n plan budget a b x y left

  abbrev last : List HostEntry → List RingEntry → RingEntry
  last a x = last_entry n (host_is_done (host_at plan a)) (words_put n x)
      (host_cause net n plan budget a x)

  -- the ring goes on by the last entry
  handed-is : (a b : List HostEntry) (x y : List RingEntry) (left : Bool) (e : End a b x y left)
      → e.handed_ring ≡ x ++ last a x ∷ []
  handed-is a b x y left e = grew-is (is_of n) x (last a x ∷ []) e.handed_ring e.handed.grew

  handed-goes : (a b : List HostEntry) (x y : List RingEntry) (left : Bool) (e : End a b x y left)
      → Goes n a a x e.handed_ring
  handed-goes a b x y left e = record {
    noted = [];
    known_is = sym (append-nil a);
    done = last a x ∷ [];
    ring_is = handed-is a b x y left e;
    mine = grew-ours (is_of n) x (last a x ∷ []) e.handed_ring e.handed.grew;
  }

  -- the end of a turn adds to both lists
  end-goes : (a b : List HostEntry) (x y : List RingEntry) (left : Bool) → End a b x y left
      → Goes n a b x y
  end-goes a b x y left e = at left refl
    where
      at : (l : Bool) → left ≡ l → Goes n a b x y
      at true is = goes-then n a a b x e.handed_ring y (handed-goes a b x y left e)
          (gives-goes net n network_paths a b e.handed_ring y (e.gives_up is))
      at false is =
          let stays = e.ends_there is in
          subst (λ l. Goes n a l x y) (sym stays.1)
          (subst (λ l. Goes n a a x l) (sym stays.0) (handed-goes a b x y left e))

  -- and is one thing
  end-same : (a b b' : List HostEntry) (x y y' : List RingEntry) (left left' : Bool)
      → End a b x y left → IsLegalRing net y → End a b' x y' left'
      → IsLegalRing net y' → (b ≡ b') × (y ≡ y') × (left ≡ left')
  end-same a b b' x y y' left left' e legal e' legal' = at left refl
    where
      same : left ≡ left'
      same = e.left_is ∙ sym e'.left_is

      ring : e.handed_ring ≡ e'.handed_ring
      ring = handed-is a b x y left e ∙ sym (handed-is a b' x y' left' e')

      at : (l : Bool) → left ≡ l → (b ≡ b') × (y ≡ y') × (left ≡ left')
      at true is =
          let both = gives-same net n network_paths a b b' e.handed_ring y y' (e.gives_up is) legal
          (subst (λ r. GivesUpDue true net n network_paths a b' r y') (sym ring)
          (e'.gives_up (sym same ∙ is))) legal' in
          (both.0, both.1, same)
      at false is =
          let stays = e.ends_there is in
          let stays' = e'.ends_there (sym same ∙ is) in
          (stays.1 ∙ sym stays'.1, stays.0 ∙ ring ∙ sym stays'.0, same)

  module _ (left : Bool) (a b : List HostEntry) (x y : List RingEntry)
      (t : HoldsHostTurn true net n plan budget a b x y left) where
    served-goes : Goes n a t.served_list x t.served_ring
    served-goes = serves-goes net n a t.served_list x t.served_ring t.serves

    asked-goes : Goes n t.served_list t.asked_list t.served_ring t.asked_ring
    asked-goes = asks-goes net n plan (hold_of n x) t.asks t.served_list t.asked_list t.served_ring
        t.asked_ring t.makes

    sent-goes : Goes n t.asked_list t.sent_list t.asked_ring t.sent_ring
    sent-goes = out-goes net n (went_on t.asks) t.asked_list t.sent_list t.asked_ring
        t.sent_ring t.sends

    given-goes : Goes n t.sent_list t.given_list t.sent_ring t.given_ring
    given-goes = gives-goes net n network_paths t.sent_list t.given_list t.sent_ring
        t.given_ring t.gives_up

    ended-goes : Goes n t.given_list b t.given_ring y
    ended-goes = end-goes t.given_list b t.given_ring y left t.ends

    -- a turn adds to both lists
    pub host-goes : Goes n a b x y
    host-goes =
        goes-then n a t.served_list b x t.served_ring y served-goes
        (goes-then n t.served_list t.asked_list b t.served_ring t.asked_ring y asked-goes
        (goes-then n t.asked_list t.sent_list b t.asked_ring t.sent_ring y sent-goes
        (goes-then n t.sent_list t.given_list b t.sent_ring t.given_ring y given-goes ended-goes)))

    module _ (legal : IsLegalRing net y) where
      legal-given : IsLegalRing net t.given_ring
      legal-given = legal-goes net n t.given_list b t.given_ring y ended-goes legal

      legal-sent : IsLegalRing net t.sent_ring
      legal-sent = legal-goes net n t.sent_list t.given_list t.sent_ring t.given_ring
          given-goes legal-given

      legal-asked : IsLegalRing net t.asked_ring
      legal-asked = legal-goes net n t.asked_list t.sent_list t.asked_ring t.sent_ring
          sent-goes legal-sent

      legal-served : IsLegalRing net t.served_ring
      legal-served = legal-goes net n t.served_list t.asked_list t.served_ring t.asked_ring
          asked-goes legal-asked

      -- no call of this turn has failed when the node begins to send
      none-asked : (p : ℕ) → went_on t.asks p ≡ true
          → HasFailedOn (part_at net n t.asked_ring) p → ⊥
      none-asked p went f =
          let is = grew-is (is_of n) t.served_ring _ t.asked_ring t.makes.in_order.grew in
          posts-fine net n t.asks t.served_ring
          (each-request plan (hold_of n x) t.served_list t.asks t.makes.in_order.each)
          (subst (IsLegalRing net) is legal-asked) p went
          (subst (λ l. HasFailedOn (part_at net n l) p) is f)

  -- a turn makes one thing
  pub host-same : (left left' : Bool) (a b b' : List HostEntry) (x y y' : List RingEntry)
      → HoldsHostTurn true net n plan budget a b x y left
      → IsLegalRing net y → HoldsHostTurn true net n plan budget a b' x y' left'
      → IsLegalRing net y' → (b ≡ b') × (y ≡ y') × (left ≡ left')
  host-same left left' a b b' x y y' t legal t' legal' = ended
    where
      served : (t.served_list ≡ t'.served_list) × (t.served_ring ≡ t'.served_ring)
      served = serves-same net n a t.served_list t'.served_list x t.served_ring t'.served_ring
          t.serves (legal-served left a b x y t legal) t'.serves
          (legal-served left' a b' x y' t' legal')

      asked : (t.asks ≡ t'.asks) × (t.asked_list ≡ t'.asked_list) × (t.asked_ring ≡ t'.asked_ring)
      asked = asks-same net n plan (hold_of n x) t.asks t'.asks t.served_list t.asked_list
          t'.asked_list t.served_ring t.asked_ring t'.asked_ring t.makes
          (subst (λ l. AsksAllDue true n plan (hold_of n x) t'.asks l t'.asked_list t.served_ring
          t'.asked_ring) (sym served.0)
          (subst (λ r. AsksAllDue true n plan (hold_of n x) t'.asks t'.served_list t'.asked_list r
          t'.asked_ring) (sym served.1) t'.makes))

      sent : (t.sent_list ≡ t'.sent_list) × (t.sent_ring ≡ t'.sent_ring)
      sent = out-same net n (went_on t.asks) t.asked_list t.sent_list t'.sent_list t.asked_ring
          t.sent_ring t'.sent_ring
          (none-asked left a b x y t legal) t.sends (legal-sent left a b x y t legal)
          (subst (λ (l : List Frame). SendsOut true net n (went_on l) t.asked_list t'.sent_list
          t.asked_ring t'.sent_ring) (sym asked.0)
          (subst (λ l. SendsOut true net n (went_on t'.asks) l t'.sent_list t.asked_ring
          t'.sent_ring) (sym asked.1)
          (subst (λ r. SendsOut true net n (went_on t'.asks) t'.asked_list t'.sent_list r
          t'.sent_ring) (sym asked.2) t'.sends)))
          (legal-sent left' a b' x y' t' legal')

      given : (t.given_list ≡ t'.given_list) × (t.given_ring ≡ t'.given_ring)
      given = gives-same net n network_paths t.sent_list t.given_list t'.given_list t.sent_ring
          t.given_ring t'.given_ring t.gives_up
          (legal-given left a b x y t legal)
          (subst (λ l. GivesUpDue true net n network_paths l t'.given_list t.sent_ring
          t'.given_ring) (sym sent.0)
          (subst (λ r. GivesUpDue true net n network_paths t'.sent_list t'.given_list r
          t'.given_ring) (sym sent.1) t'.gives_up))
          (legal-given left' a b' x y' t' legal')

      ended : (b ≡ b') × (y ≡ y') × (left ≡ left')
      ended = end-same t.given_list b b' t.given_ring y y' left left' t.ends legal
          (subst (λ l. End l b' t.given_ring y' left') (sym given.0)
          (subst (λ r. End t'.given_list b' r y' left') (sym given.1) t'.ends)) legal'

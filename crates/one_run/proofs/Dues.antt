-- What is due in a turn is one thing: each value that an entry carries is that of its place.
use Rattle.std.proofs.Common.{◌≡◌, ℕ, ◌≤◌, Bool, true, false, cond, List, [], ◌∷◌}
use Rattle.std.proofs.Common.{◌++◌, Option, Some, None, refl, sym, ap, subst, ◌∙◌, arith}
use Rattle.std.proofs.Common.{append_assoc}
use Rattle.std.specs.List.{AllByRecursion as Each}
use Rattle.std.proofs.lemmas.Bool.{cond-false, cond-true, eq-eqb}
use Rattle.plant_types.specs.declared.net.NetPlan.{NetPlan}
use Rattle.mstr_block.specs.declared.call.CallId.{CallId}
use Rattle.mstr_block.specs.declared.call.MstrResult.{MstrResult}
use Rattle.mstr_block.specs.declared.call.MstrResult.TheVariants.{Bad}
use Rattle.controller_core.specs.declared.call.Call.{Call}
use Rattle.controller_core.specs.declared.call.CallKind.{CallKind}
use Rattle.controller_core.specs.declared.call.CallKind.TheVariants as kinds
use Rattle.controller_core.specs.declared.entry.Entry.{Entry}
use Rattle.controller_core.specs.declared.entry.Entry.TheVariants as entries
use Rattle.controller_core.specs.declared.fixed.Fixed.{Fixed}
use Rattle.controller_core.specs.Controller.{Fits}
use Rattle.controller_core.specs.Event.{peer_entry, reply_in}
use Rattle.controller_core.specs.Replay.{ControllerState, replay}
use Rattle.controller_core.proofs.NextEntry.{fits_last}
use Rattle.ring_core.specs.Legal.{IsLegalRing, IsRingStep}
use Rattle.ring_core.specs.Machine.{ring_after}
use Rattle.ring_core.specs.Refusals.{word_of}
use Rattle.ring_core.specs.Scratch.{local_result}
use Rattle.ring_core.specs.Statistics.{is_for_stats}
use Rattle.ring_core.specs.Words.{request_along}
use Rattle.ring_core.specs.declared.frame.FrameKind.{FrameKind}
use Rattle.ring_core.specs.declared.frame.FrameKind.TheVariants.{Request, Reply}
use Rattle.ring_core.specs.declared.frame.Frame.{Frame}
use Rattle.ring_core.specs.declared.entry.LocalOp.{LocalOp}
use Rattle.ring_core.specs.declared.entry.LocalOp.TheVariants as ops
use Rattle.ring_core.specs.declared.entry.RingEntry.{RingEntry}
use Rattle.ring_core.specs.declared.entry.RingEntry.TheVariants.{Post, Take, Local, GiveUp}
use Rattle.tied_lists.specs.Items.{request_of, reply_of}
use Rattle.tied_lists.proofs.Turns.{legal-parts}
use Rattle.comm_port.specs.HoldTurn.{EndedAs, IsEnded, IsGivenUp, IsMade, IsServed, MadeAs}
use Rattle.comm_port.specs.HoldTurn.{ServedAs, reply_entries}
use Rattle.comm_port.specs.Parts.{InOrder}
use Rattle.joint_history.specs.Reading.{controller_at}
use Rattle.comm_port.specs.Replies.{reply_frame}
use Rattle.one_run.proofs.Meets.{Behind, IsMine, May, behind-by, closing, closing_kind, closings}
use Rattle.one_run.proofs.Meets.{ending}
use Rattle.one_run.proofs.Meets.{each-front, each-rest, endings, finish-same, may-as, may-front}

-- ---- values that the ring gives

-- each entry of a legal list is a step
pub ring-step : (net : NetPlan) (past : List RingEntry) (e : RingEntry) (rest : List RingEntry)
    → IsLegalRing net (past ++ e ∷ rest) → IsRingStep net past e
ring-step net past e rest legal = (legal-parts net past (e ∷ rest) legal).1.0

-- the word of a call that is given up
pub word-is : (net : NetPlan) (past : List RingEntry) (id : CallId) (word : ℕ)
    (rest : List RingEntry) → IsLegalRing net (past ++ GiveUp id word ∷ rest)
    → word ≡ word_of net (ring_after net past) id
word-is net past id word rest legal = (ring-step net past (GiveUp id word) rest legal).1.1

-- the result of an operation
pub result-is : (net : NetPlan) (past : List RingEntry) (n : ℕ) (id : CallId) (op : LocalOp)
    (result : MstrResult) (rest : List RingEntry)
    → IsLegalRing net (past ++ Local n id op result ∷ rest) → result ≡ local_result net past n op
result-is net past n id op result rest legal =
    (ring-step net past (Local n id op result) rest legal).1.1

-- the operation that answers a request for statistics
pub op-same : (one two : LocalOp) (pdu : List ℕ) → request_of one ≡ Some pdu
    → request_of two ≡ Some pdu → one ≡ two
op-same ops.RemoteGet ops.RemoteGet pdu p q = refl
op-same ops.RemoteClear ops.RemoteClear pdu p q = refl
op-same ops.RemoteGet ops.RemoteClear pdu p q = absurd (apart (p ∙ sym q))
  where
    apart : request_of ops.RemoteGet ≡ request_of ops.RemoteClear → ⊥
    apart same = cc
op-same ops.RemoteClear ops.RemoteGet pdu p q = absurd (apart (q ∙ sym p))
  where
    apart : request_of ops.RemoteGet ≡ request_of ops.RemoteClear → ⊥
    apart same = cc
op-same ops.GetStats two pdu p q = absurd (let no' : None ≡ Some pdu = p in cc)
op-same ops.ClearStats two pdu p q = absurd (let no' : None ≡ Some pdu = p in cc)
op-same (ops.PutGlobal words) two pdu p q = absurd (let no' : None ≡ Some pdu = p in cc)
op-same (ops.GetGlobal node long) two pdu p q = absurd (let no' : None ≡ Some pdu = p in cc)
op-same ops.RemoteGet ops.GetStats pdu p q = absurd (let no' : None ≡ Some pdu = q in cc)
op-same ops.RemoteGet ops.ClearStats pdu p q = absurd (let no' : None ≡ Some pdu = q in cc)
op-same ops.RemoteGet (ops.PutGlobal words) pdu p q = absurd (let no' : None ≡ Some pdu = q in cc)
op-same ops.RemoteGet (ops.GetGlobal node long) pdu p q =
    absurd (let no' : None ≡ Some pdu = q in cc)
op-same ops.RemoteClear ops.GetStats pdu p q = absurd (let no' : None ≡ Some pdu = q in cc)
op-same ops.RemoteClear ops.ClearStats pdu p q = absurd (let no' : None ≡ Some pdu = q in cc)
op-same ops.RemoteClear (ops.PutGlobal words) pdu p q = absurd (let no' : None ≡ Some pdu = q in cc)
op-same ops.RemoteClear (ops.GetGlobal node long) pdu p q =
    absurd (let no' : None ≡ Some pdu = q in cc)

-- ---- one thing

-- what was noted and done is one thing, after which no more calls have ended than of the node
pub record One (n : ℕ) (known : List Entry) (ring : List RingEntry) (noted noted' : List Entry)
    (done done' : List RingEntry) : Type 0 where
  pub notes : noted ≡ noted'
  pub does : done ≡ done'
  pub behind : Behind n (known ++ noted) (ring ++ done)

-- so is what is due to each thing, where both final lists are legal and tell the same
abbrev pub OneDue : {X : Type 0} → Fixed → NetPlan → ℕ → (X → Type 0)
    → (X → List Entry → List RingEntry → Type 0) → Type 0
OneDue {X} fixed net n Fit Due = (x : X) (known noted noted' : List Entry)
    (ring done done' : List RingEntry) → Fit x → Behind n known ring
    → Each (IsMine n) done → May fixed net n (known ++ noted) (ring ++ done)
    → May fixed net n (known ++ noted') (ring ++ done')
    → Due x noted done → Due x noted' done' → One n known ring noted noted' done done'

module _ {X : Type 0} (fixed : Fixed) (net : NetPlan) (n : ℕ) (Fit : X → Type 0)
    (Due : X → List Entry → List RingEntry → Type 0)
    (one : OneDue fixed net n Fit Due) where
  abbrev OneInOrder : List X → Type 0
  OneInOrder xs = (known noted noted' : List Entry) (ring done done' : List RingEntry) → Each Fit xs
      → Behind n known ring
      → Each (IsMine n) done → May fixed net n (known ++ noted) (ring ++ done)
      → May fixed net n (known ++ noted') (ring ++ done')
      → InOrder Due xs noted done → InOrder Due xs noted' done'
      → One n known ring noted noted' done done'

  -- and to one more
  one-more : (x : X) (xs : List X) → OneInOrder xs → OneInOrder (x ∷ xs)
  one-more x xs later known noted noted' ring done done' fit behind mine m m' a b = record {
    notes = a.4 ∙ (λ i. head.notes i ++ tail.notes i) ∙ sym b.4;
    does = a.5 ∙ (λ i. head.does i ++ tail.does i) ∙ sym b.5;
    behind = subst (λ k. Behind n k (ring ++ done))
        (append_assoc known a.0 a.1 ∙ ap (λ l. known ++ l) (sym a.4))
        (subst (Behind n ((known ++ a.0) ++ a.1))
        (append_assoc ring a.2 a.3 ∙ ap (λ l. ring ++ l) (sym a.5)) tail.behind);
  }
    where
      both : Each (IsMine n) (a.2 ++ a.3)
      both = subst (Each (IsMine n)) a.5 mine

      split : May fixed net n ((known ++ a.0) ++ a.1) ((ring ++ a.2) ++ a.3)
      split = may-as fixed net n _ _ _ _
          (ap (λ l. known ++ l) a.4 ∙ sym (append_assoc known a.0 a.1))
          (ap (λ l. ring ++ l) a.5 ∙ sym (append_assoc ring a.2 a.3)) m

      split' : May fixed net n ((known ++ b.0) ++ b.1) ((ring ++ b.2) ++ b.3)
      split' = may-as fixed net n _ _ _ _
          (ap (λ l. known ++ l) b.4 ∙ sym (append_assoc known b.0 b.1))
          (ap (λ l. ring ++ l) b.5 ∙ sym (append_assoc ring b.2 b.3)) m'

      head : One n known ring a.0 b.0 a.2 b.2
      head = one x known a.0 b.0 ring a.2 b.2 fit.0 behind (each-front (IsMine n) a.2 a.3 both)
          (may-front fixed net n (known ++ a.0) a.1 (ring ++ a.2) a.3 split)
          (may-front fixed net n (known ++ b.0) b.1 (ring ++ b.2) b.3 split') a.6 b.6

      tail : One n (known ++ a.0) (ring ++ a.2) a.1 b.1 a.3 b.3
      tail = later (known ++ a.0) a.1 b.1 (ring ++ a.2) a.3 b.3 fit.1 head.behind
          (each-rest (IsMine n) a.2 a.3 both) split
          (may-as fixed net n _ _ _ _ (ap (λ l. (known ++ l) ++ b.1) (sym head.notes))
          (ap (λ l. (ring ++ l) ++ b.3) (sym head.does)) split')
          a.7 b.7

  -- and one after another
  pub one-in-order : (xs : List X) → OneInOrder xs
  one-in-order [] known noted noted' ring done done' fit behind mine m m' a b = record {
    notes = a.0 ∙ sym b.0;
    does = a.1 ∙ sym b.1;
    behind = behind-by n known noted ring done mine behind
        (subst (λ l. endings l ≤ closings done) (sym a.0)
        (let z : endings [] ≤ closings done = omega arith in z));
  }
  one-in-order (x ∷ xs) known noted noted' ring done done' fit behind mine m m' a b =
      one-more x xs (one-in-order xs) known noted noted' ring done done' fit behind mine m m' a b

-- ---- each part

module _ (fixed : Fixed) (net : NetPlan) (n : ℕ) where
  -- by what is noted and done
  by : (known noted noted' known-noted known-noted' : List Entry) (ring done done' : List RingEntry)
      (is : List RingEntry) → noted ≡ known-noted
      → noted' ≡ known-noted' → done ≡ is → done' ≡ is → known-noted ≡ known-noted'
      → Each (IsMine n) done → Behind n known ring
      → endings known-noted ≤ closings is → One n known ring noted noted' done done'
  by known noted noted' one two ring done done' is p p' q q' same mine behind few = record {
    notes = p ∙ same ∙ sym p';
    does = q ∙ sym q';
    behind = behind-by n known noted ring done mine behind (subst (λ l. endings l ≤ closings done)
        (sym p) (subst (λ l. endings one ≤ closings l) (sym q) few));
  }

  -- a request that comes ends no call of the controller
  peer-quiet : (id : CallId) (pdu : List ℕ) (reply : Option (List ℕ))
      → ending (peer_entry id pdu reply) ≡ 0
  peer-quiet id pdu None = refl
  peer-quiet id pdu (Some reply) = refl

  -- what is noted of a request is its reply at that moment, or none
  reply-is : (s : ControllerState) (id : CallId) (pdu : List ℕ) (reply : Option (List ℕ))
      → Fits fixed s (peer_entry id pdu reply) → reply_in s pdu ≡ reply
  reply-is s id pdu (Some reply) fits = cond-true s.powered _ _ fits.0 ∙ ap Some (sym fits.1)
  reply-is s id pdu None fits = cond-false s.powered _ _ fits

  -- a frame that is served
  pub one-served : OneDue fixed net n (λ (f : Frame). Unit {0}) (IsServed n)
  one-served f known noted noted' ring done done' fit behind mine m m' u v = at f.kind refl
      (is_for_stats f) u v
    where
      at : (kind : FrameKind) → f.kind ≡ kind → (stats : Bool) → ServedAs kind stats n f noted done
          → ServedAs kind stats n f noted' done'
          → One n known ring noted noted' done done'
      at Reply kind stats a b =
          let closes : closing (Take n f) ≡ 1 = ap closing_kind kind in
          let same = finish-same n known ring f.id a.0 b.0 (Take n f) behind
          (eq-eqb n n refl) closes
          (may-as fixed net n _ _ _ _ (ap (λ l. known ++ l) a.1) (ap (λ l. ring ++ l) a.2) m).meets
          (may-as fixed net n _ _ _ _ (ap (λ l. known ++ l) b.1)
          (ap (λ l. ring ++ l) b.2) m').meets in
          by known noted noted' (entries.Finish f.id a.0 ∷ []) (entries.Finish f.id b.0 ∷ []) ring
          done done' (Take n f ∷ []) a.1 b.1 a.2 b.2
          (ap (λ r. entries.Finish f.id r ∷ []) same) mine behind (omega (arith, closes))
      at Request kind true a b =
          let post : MstrResult → RingEntry = λ r. Post n (reply_frame f.id (reply_of r)) in
          let op = op-same a.0 b.0 f.pdu a.2 b.2 in
          let first = result-is net (ring ++ Take n f ∷ []) n f.id a.0 a.1 (post a.1 ∷ [])
          (subst (IsLegalRing net) (ap (λ l. ring ++ l) a.4 ∙ sym (append_assoc ring (Take n f ∷ [])
          (Local n f.id a.0 a.1 ∷ post a.1 ∷ []))) m.ring_legal) in
          let second = result-is net (ring ++ Take n f ∷ []) n f.id b.0 b.1 (post b.1 ∷ [])
          (subst (IsLegalRing net) (ap (λ l. ring ++ l) b.4 ∙ sym (append_assoc ring (Take n f ∷ [])
          (Local n f.id b.0 b.1 ∷ post b.1 ∷ []))) m'.ring_legal) in
          let same : a.1 ≡ b.1 = first ∙ ap (local_result net (ring ++ Take n f ∷ []) n) op
          ∙ sym second in
          by known noted noted' [] [] ring done done'
          (Take n f ∷ Local n f.id a.0 a.1 ∷ post a.1 ∷ []) a.3 b.3 a.4
          (b.4 ∙ (λ i. Take n f ∷ Local n f.id (sym op i) (sym same i) ∷ post (sym same i) ∷ []))
          refl mine behind
          (let z : endings [] ≤ closings (Take n f ∷ Local n f.id a.0 a.1 ∷ post a.1 ∷ []) =
          omega arith in z)
      at Request kind false a b =
          let now : ControllerState = replay fixed known in
          let same : a.0 ≡ b.0 = sym (reply-is now f.id f.pdu a.0
          (fits_last (controller_at fixed known) (peer_entry f.id f.pdu a.0)
          (may-as fixed net n _ _ _ _ (ap (λ l. known ++ l) a.1) refl m).legal))
          ∙ reply-is now f.id f.pdu b.0
          (fits_last (controller_at fixed known) (peer_entry f.id f.pdu b.0)
          (may-as fixed net n _ _ _ _ (ap (λ l. known ++ l) b.1) refl m').legal) in
          let quiet = peer-quiet f.id f.pdu a.0 in
          by known noted noted' (peer_entry f.id f.pdu a.0 ∷ [])
          (peer_entry f.id f.pdu b.0 ∷ []) ring done done'
          (Take n f ∷ reply_entries n f.id a.0) a.1 b.1 a.2
          (b.2 ∙ (λ i. Take n f ∷ reply_entries n f.id (sym same i)))
          (ap (λ r. peer_entry f.id f.pdu r ∷ []) same) mine behind
          (let z : endings (peer_entry f.id f.pdu a.0 ∷ [])
          ≤ closings (Take n f ∷ reply_entries n f.id a.0) = omega (arith, quiet) in z)

  -- an operation at home
  one-local : (id : CallId) (op : LocalOp) (known noted noted' : List Entry)
      (ring done done' : List RingEntry) → id.node ≡ n → Behind n known ring
      → Each (IsMine n) done → May fixed net n (known ++ noted) (ring ++ done)
      → May fixed net n (known ++ noted') (ring ++ done')
      → MadeAs (kinds.Local op) n id noted done → MadeAs (kinds.Local op) n id noted' done'
      → One n known ring noted noted' done done'
  one-local id op known noted noted' ring done done' node behind mine m m' a b =
      let first = result-is net ring n id op a.0 []
      (subst (IsLegalRing net) (ap (λ l. ring ++ l) a.2) m.ring_legal) in
      let second = result-is net ring n id op b.0 []
      (subst (IsLegalRing net) (ap (λ l. ring ++ l) b.2) m'.ring_legal) in
      let same : a.0 ≡ b.0 = first ∙ sym second in
      let closes : closing (Local n id op a.0) ≡ 1 =
      ap (λ b'. cond {A = ℕ} b' 1 0) (eq-eqb id.node n node) in
      by known noted noted' (entries.Finish id a.0 ∷ []) (entries.Finish id b.0 ∷ []) ring done
      done' (Local n id op a.0 ∷ []) a.1 b.1 a.2
      (b.2 ∙ ap (λ r. Local n id op r ∷ []) (sym same)) (ap (λ r. entries.Finish id r ∷ []) same)
      mine behind (omega (arith, closes))

  abbrev pub IsOwnCall : Call → Type 0
  IsOwnCall call = call.id.node ≡ n

  -- a call that is made
  pub one-made : OneDue fixed net n IsOwnCall (IsMade n)
  one-made call known noted noted' ring done done' node behind mine m m' u v = at call.kind u v
    where
      at : (kind : CallKind) → MadeAs kind n call.id noted done → MadeAs kind n call.id noted' done'
          → One n known ring noted noted' done done'
      at (kinds.Net route pdu) a b =
          let post : RingEntry = Post n (request_along call.id route pdu) in
          by known noted noted' [] [] ring done done' (post ∷ []) a.0 b.0 a.1 b.1 refl mine behind
          (let z : endings [] ≤ closings (post ∷ []) = omega arith in z)
      at (kinds.Local op) a b = one-local call.id op known noted noted' ring done done' node
          behind mine m m' a b

  -- a call that is given up
  pub one-given : OneDue fixed net n (λ (id : CallId). Unit {0}) IsGivenUp
  one-given id known noted noted' ring done done' fit behind mine m m' a b =
      let first = word-is net ring id a.0 []
      (subst (IsLegalRing net) (ap (λ l. ring ++ l) a.2) m.ring_legal) in
      let second = word-is net ring id b.0 []
      (subst (IsLegalRing net) (ap (λ l. ring ++ l) b.2) m'.ring_legal) in
      let same : a.0 ≡ b.0 = first ∙ sym second in
      by known noted noted' (entries.Finish id (Bad a.0) ∷ []) (entries.Finish id (Bad b.0) ∷ [])
      ring done done' (GiveUp id a.0 ∷ []) a.1 b.1 a.2
      (b.2 ∙ ap (λ w. GiveUp id w ∷ []) (sym same))
      (ap (λ w. entries.Finish id (Bad w) ∷ []) same) mine behind
      (let z : endings (entries.Finish id (Bad a.0) ∷ []) ≤ closings (GiveUp id a.0 ∷ []) =
      omega arith in z)

  -- a call that is ended at once
  pub one-ended : OneDue fixed net n IsOwnCall (IsEnded n)
  one-ended call known noted noted' ring done done' node behind mine m m' u v = at call.kind u v
    where
      at : (kind : CallKind) → EndedAs kind n call.id noted done
          → EndedAs kind n call.id noted' done' → One n known ring noted noted' done done'
      at (kinds.Net route pdu) a b =
          let post : RingEntry = Post n (request_along call.id route pdu) in
          let first = word-is net (ring ++ post ∷ []) call.id a.0 []
          (subst (IsLegalRing net) (ap (λ l. ring ++ l) a.2
          ∙ sym (append_assoc ring (post ∷ []) (GiveUp call.id a.0 ∷ []))) m.ring_legal) in
          let second = word-is net (ring ++ post ∷ []) call.id b.0 []
          (subst (IsLegalRing net) (ap (λ l. ring ++ l) b.2
          ∙ sym (append_assoc ring (post ∷ []) (GiveUp call.id b.0 ∷ []))) m'.ring_legal) in
          let same : a.0 ≡ b.0 = first ∙ sym second in
          by known noted noted' (entries.Finish call.id (Bad a.0) ∷ [])
          (entries.Finish call.id (Bad b.0) ∷ []) ring done done'
          (post ∷ GiveUp call.id a.0 ∷ []) a.1 b.1 a.2
          (b.2 ∙ ap (λ w. post ∷ GiveUp call.id w ∷ []) (sym same))
          (ap (λ w. entries.Finish call.id (Bad w) ∷ []) same) mine behind
          (let z : endings (entries.Finish call.id (Bad a.0) ∷ [])
          ≤ closings (post ∷ GiveUp call.id a.0 ∷ []) = omega arith in z)
      at (kinds.Local op) a b = one-local call.id op known noted noted' ring done done' node
          behind mine m m' a b

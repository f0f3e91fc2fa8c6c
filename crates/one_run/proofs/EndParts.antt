-- The parts of a hold of the token by an end of a bridge, each of which makes one thing.
use Rattle.std.proofs.Common.{◌≡◌, ℕ, Bool, true, false, List, [], ◌∷◌, ◌++◌, filter_map}
use Rattle.std.proofs.Common.{Option, Some, None, refl, sym, ap, subst, ◌∙◌, append_assoc}
use Rattle.std.proofs.Common.{append-nil}
use Rattle.std.specs.List.{AllByRecursion as Each}
use Rattle.std.proofs.lemmas.Bool.{eqb-true}
use Rattle.plant_types.specs.declared.net.BridgePlan.{BridgePlan}
use Rattle.plant_types.specs.declared.net.NetPlan.{NetPlan}
use Rattle.mstr_block.specs.declared.call.CallId.{CallId}
use Rattle.mstr_block.specs.declared.call.MstrResult.{MstrResult}
use Rattle.bridge_relay.specs.declared.entry.BridgeEntry.{BridgeEntry}
use Rattle.bridge_relay.specs.declared.entry.BridgeEntry.TheVariants.{Accept, Forward, Finish}
use Rattle.bridge_relay.specs.declared.entry.BridgeEntry.TheVariants.{Back, Gone}
use Rattle.bridge_relay.specs.declared.entry.RelayResult.TheVariants as results
use Rattle.bridge_relay.specs.Laws.{is_by}
use Rattle.bridge_relay.specs.Legal.{FitsBridge, IsBridgeHistory, due_back, due_forward}
use Rattle.ring_core.specs.Legal.{IsLegalRing}
use Rattle.ring_core.specs.Scratch.{local_result}
use Rattle.ring_core.specs.Statistics.{is_for_stats}
use Rattle.ring_core.specs.declared.frame.FrameKind.{FrameKind}
use Rattle.ring_core.specs.declared.frame.FrameKind.TheVariants.{Request, Reply}
use Rattle.ring_core.specs.declared.frame.Frame.{Frame}
use Rattle.ring_core.specs.declared.entry.LocalOp.{LocalOp}
use Rattle.ring_core.specs.declared.entry.RingEntry.{RingEntry}
use Rattle.ring_core.specs.declared.entry.RingEntry.TheVariants.{Post, Take, Local, GiveUp}
use Rattle.tied_lists.specs.Items.{reply_of}
use Rattle.tied_lists.specs.Own.{is_of}
use Rattle.tied_lists.proofs.Turns.{legal-parts}
use Rattle.comm_port.specs.Giving.{part_at, NoneFailed, each_path}
use Rattle.comm_port.specs.Parts.{InOrder, PartOf}
use Rattle.comm_port.specs.Replies.{reply_frame}
use Rattle.bridge_port.specs.EndParts.{EndGivesUp, EndSendsAll, EndServes, EndServesAs}
use Rattle.bridge_port.specs.EndParts.{IsBackEntry, IsForwardEntry, PostsAll, finish_at_end}
use Rattle.bridge_port.specs.EndParts.{post_of}
use Rattle.serial_run.proofs.TurnLaws.{each-join}
use Rattle.one_run.proofs.Dues.{op-same, result-is, word-is}
use Rattle.one_run.proofs.Fails.{IsNoSend}
use Rattle.one_run.proofs.Meets.{grew-is, grew-ours}
use Rattle.one_run.proofs.Parts.{Goes}
use Rattle.one_run.proofs.Sending.{frames-same}

-- ---- what is due in order

-- what is due to each thing is one thing, where the rings that it leaves are legal
abbrev pub OneEach : {X : Type 0} → NetPlan → (X → List BridgeEntry → List RingEntry → Type 0)
    → Type 0
OneEach {X} net Due = (x : X) (noted noted' : List BridgeEntry) (past done done' : List RingEntry)
    → IsLegalRing net (past ++ done) → IsLegalRing net (past ++ done')
    → Due x noted done → Due x noted' done' → (noted ≡ noted') × (done ≡ done')

-- a frame that is served
pub frame-once : (net : NetPlan) (n : ℕ) → OneEach net (EndServes n)
frame-once net n f noted noted' past done done' legal legal' u v = at f.kind (is_for_stats f) u v
  where
    told : (q : List RingEntry) (op : LocalOp) (result : MstrResult)
        → q ≡ Take n f ∷ Local n f.id op result ∷ Post n (reply_frame f.id (reply_of result)) ∷ []
        → IsLegalRing net (past ++ q) → result ≡ local_result net (past ++ Take n f ∷ []) n op
    told q op result is ok =
        result-is net (past ++ Take n f ∷ []) n f.id op result
        (Post n (reply_frame f.id (reply_of result)) ∷ [])
        (subst (IsLegalRing net) (ap (λ l. past ++ l) is
        ∙ sym (append_assoc past (Take n f ∷ []) _)) ok)

    at : (kind : FrameKind) (stats : Bool) → EndServesAs kind stats n f noted done
        → EndServesAs kind stats n f noted' done' → (noted ≡ noted') × (done ≡ done')
    at Reply stats a b = (a.0 ∙ sym b.0, a.1 ∙ sym b.1)
    at Request true a b =
        let op : a.0 ≡ b.0 = op-same a.0 b.0 f.pdu a.2 b.2 in
        let same : a.1 ≡ b.1 = told done a.0 a.1 a.4 legal
        ∙ ap (local_result net (past ++ Take n f ∷ []) n) op
        ∙ sym (told done' b.0 b.1 b.4 legal') in (
          a.3 ∙ sym b.3,
          a.4 ∙ (λ i. Take n f ∷ Local n f.id (op i) (same i)
              ∷ Post n (reply_frame f.id (reply_of (same i))) ∷ []) ∙ sym b.4,
        )
    at Request false a b = (a.0 ∙ sym b.0, a.1 ∙ sym b.1)

-- a call that is given up
pub call-once : (net : NetPlan) (n : ℕ) → OneEach net (EndGivesUp n)
call-once net n id noted noted' past done done' legal legal' a b =
    let first = word-is net past id a.0 []
    (subst (IsLegalRing net) (ap (λ l. past ++ l) a.2) legal) in
    let second = word-is net past id b.0 []
    (subst (IsLegalRing net) (ap (λ l. past ++ l) b.2) legal') in
    let word : a.0 ≡ b.0 = first ∙ sym second in (
      a.1 ∙ (λ i. Finish n id (results.Bad (word i)) ∷ []) ∙ sym b.1,
      a.2 ∙ (λ i. GiveUp id (word i) ∷ []) ∙ sym b.2,
    )

-- what a part adds to both lists
pub part-adds : (n : ℕ) (Due : List BridgeEntry → List RingEntry → Type 0) (a b : List BridgeEntry)
    (x y : List RingEntry) → PartOf true true (is_by n) n Due a b x y → Goes n a b x y
part-adds n Due a b x y p = record {
  noted = p.noted;
  known_is = grew-is (is_by n) a p.noted b p.station;
  done = p.done;
  ring_is = grew-is (is_of n) x p.done y p.node;
  mine = grew-ours (is_of n) x p.done y p.node;
}

module _ {X : Type 0} (net : NetPlan) (n : ℕ)
    (Due : X → List BridgeEntry → List RingEntry → Type 0) (one : OneEach net Due) where
  -- what is due to things one after another is one thing
  order-once : (xs : List X) (noted noted' : List BridgeEntry) (past done done' : List RingEntry)
      → IsLegalRing net (past ++ done) → IsLegalRing net (past ++ done')
      → InOrder Due xs noted done → InOrder Due xs noted' done'
      → (noted ≡ noted') × (done ≡ done')
  order-once [] noted noted' past done done' legal legal' a b = (a.0 ∙ sym b.0, a.1 ∙ sym b.1)
  order-once (x ∷ xs) noted noted' past done done' legal legal' a b =
      let split : IsLegalRing net ((past ++ a.2) ++ a.3) = subst (IsLegalRing net)
      (ap (λ l. past ++ l) a.5 ∙ sym (append_assoc past a.2 a.3)) legal in
      let split' : IsLegalRing net ((past ++ b.2) ++ b.3) = subst (IsLegalRing net)
      (ap (λ l. past ++ l) b.5 ∙ sym (append_assoc past b.2 b.3)) legal' in
      let head = one x a.0 b.0 past a.2 b.2 (legal-parts net (past ++ a.2) a.3 split).0
      (legal-parts net (past ++ b.2) b.3 split').0 a.6 b.6 in
      let tail = order-once xs a.1 b.1 (past ++ a.2) a.3 b.3 split
      (subst (λ l. IsLegalRing net ((past ++ l) ++ b.3)) (sym head.1) split') a.7 b.7 in (
        a.4 ∙ (λ i. head.0 i ++ tail.0 i) ∙ sym b.4,
        a.5 ∙ (λ i. head.1 i ++ tail.1 i) ∙ sym b.5,
      )

  -- so is the part
  pub part-once : (xs : List X) (a b b' : List BridgeEntry) (x y y' : List RingEntry)
      → PartOf true true (is_by n) n (InOrder Due xs) a b x y → IsLegalRing net y
      → PartOf true true (is_by n) n (InOrder Due xs) a b' x y' → IsLegalRing net y'
      → (b ≡ b') × (y ≡ y')
  part-once xs a b b' x y y' p legal p' legal' =
      let is = grew-is (is_of n) x p.done y p.node in
      let is' = grew-is (is_of n) x p'.done y' p'.node in
      let same = order-once xs p.noted p'.noted x p.done p'.done
      (subst (IsLegalRing net) is legal) (subst (IsLegalRing net) is' legal') p.due p'.due in (
        grew-is (is_by n) a p.noted b p.station ∙ ap (λ l. a ++ l) same.0
            ∙ sym (grew-is (is_by n) a p'.noted b' p'.station),
        is ∙ ap (λ l. x ++ l) same.1 ∙ sym is',
      )

-- ---- what is made until nothing is due

-- each of these was due behind those before it
abbrev AreDue : (List BridgeEntry → Option BridgeEntry) → List BridgeEntry → List BridgeEntry
    → Type 0
AreDue due list [] = Unit {0}
AreDue due list (e ∷ es) = (due list ≡ Some e) × AreDue due (list ++ e ∷ []) es

-- those that were due until none was are one list
due-once : (due : List BridgeEntry → Option BridgeEntry) (list es es' : List BridgeEntry)
    → AreDue due list es → AreDue due list es' → due (list ++ es) ≡ None
    → due (list ++ es') ≡ None → es ≡ es'
due-once due list [] [] a b none none' = refl
due-once due list [] (e ∷ es') a b none none' = absurd
    (let bad : None ≡ Some e = sym none ∙ ap due (append-nil list) ∙ b.0 in cc)
due-once due list (e ∷ es) [] a b none none' = absurd
    (let bad : None ≡ Some e = sym none' ∙ ap due (append-nil list) ∙ a.0 in cc)
due-once due list (e ∷ es) (e' ∷ es') a b none none' =
    let both : Some e ≡ Some e' = sym a.0 ∙ b.0 in
    let head : e ≡ e' = cc in
    let tail = due-once due (list ++ e ∷ []) es es' a.1
    (subst (λ c. AreDue due (list ++ c ∷ []) es') (sym head) b.1)
    (ap due (append_assoc list (e ∷ []) es) ∙ none)
    (ap due (append_assoc list (e ∷ []) es' ∙ ap (λ c. list ++ c ∷ es') head) ∙ none') in
    λ i. head i ∷ tail i

-- an entry of one sort of this end that fits is what is due
abbrev pub IsItsDue : BridgePlan → ℕ → (BridgeEntry → Type 0)
    → (List BridgeEntry → Option BridgeEntry) → Type 0
IsItsDue plan n Sort due = (past : List BridgeEntry) (e : BridgeEntry) → Sort e → is_by n e ≡ true
    → FitsBridge plan past e → due past ≡ Some e

-- a Back
pub back-due : (plan : BridgePlan) (n : ℕ)
    → IsItsDue plan n IsBackEntry (λ past. due_back plan past n)
back-due plan n past (Back side id reply) sort mine fits =
    subst (λ k. due_back plan past k ≡ Some (Back side id reply)) (eqb-true side n mine) fits
back-due plan n past (Accept side id route request) sort mine fits = absurd sort
back-due plan n past (Forward side old id route request) sort mine fits = absurd sort
back-due plan n past (Finish side id result) sort mine fits = absurd sort
back-due plan n past (Gone side) sort mine fits = absurd sort

-- a Forward
pub forward-due : (plan : BridgePlan) (n : ℕ)
    → IsItsDue plan n IsForwardEntry (λ past. due_forward plan past n)
forward-due plan n past (Forward side old id route request) sort mine fits =
    subst (λ k. due_forward plan past k ≡ Some (Forward side old id route request))
    (eqb-true side n mine) fits
forward-due plan n past (Accept side id route request) sort mine fits = absurd sort
forward-due plan n past (Finish side id result) sort mine fits = absurd sort
forward-due plan n past (Back side id reply) sort mine fits = absurd sort
forward-due plan n past (Gone side) sort mine fits = absurd sort

module _ (plan : BridgePlan) (n : ℕ) (Sort : BridgeEntry → Type 0)
    (due : List BridgeEntry → Option BridgeEntry) (its : IsItsDue plan n Sort due) where
  abbrev Posts : List BridgeEntry → List BridgeEntry → List RingEntry → List RingEntry → Type 0
  Posts a b x y = PostsAll true true Sort due n a b x y

  -- entries of this sort of a legal list were due
  are-due : (list es : List BridgeEntry) → IsBridgeHistory plan (list ++ es) → Each Sort es
      → Each (λ e. is_by n e ≡ true) es → AreDue due list es
  are-due list [] legal sort mine = tt
  are-due list (e ∷ es) legal sort mine = (
    its list e sort.0 mine.0 (legal list es e refl).fits,
    are-due (list ++ e ∷ []) es
        (subst (IsBridgeHistory plan) (sym (append_assoc list (e ∷ []) es)) legal) sort.1 mine.1,
  )

  -- so are those that were made
  made-due : (a b : List BridgeEntry) (x y : List RingEntry) (s : Posts a b x y)
      → IsBridgeHistory plan b → AreDue due a s.part.noted
  made-due a b x y s legal = are-due a s.part.noted
      (subst (IsBridgeHistory plan) (grew-is (is_by n) a s.part.noted b s.part.station) legal)
      s.part.due.0 (grew-ours (is_by n) a s.part.noted b s.part.station)

  -- they are one list, and so is what was posted of them
  pub posts-once : (a a' b b' : List BridgeEntry) (x x' y y' : List RingEntry) → a ≡ a' → x ≡ x'
      → (s : Posts a b x y) → IsBridgeHistory plan b
      → (s' : Posts a' b' x' y') → IsBridgeHistory plan b'
      → (s.part.noted ≡ s'.part.noted) × (b ≡ b') × (y ≡ y')
  posts-once a a' b b' x x' y y' first from s legal s' legal' = (
    same,
    is ∙ (λ i. first i ++ same i) ∙ sym is',
    grew-is (is_of n) x s.part.done y s.part.node ∙ (λ i. from i ++ posted i)
        ∙ sym (grew-is (is_of n) x' s'.part.done y' s'.part.node),
  )
    where
      is : b ≡ a ++ s.part.noted
      is = grew-is (is_by n) a s.part.noted b s.part.station

      is' : b' ≡ a' ++ s'.part.noted
      is' = grew-is (is_by n) a' s'.part.noted b' s'.part.station

      same : s.part.noted ≡ s'.part.noted
      same = due-once due a s.part.noted s'.part.noted (made-due a b x y s legal)
          (subst (λ l. AreDue due l s'.part.noted) (sym first) (made-due a' b' x' y' s' legal'))
          (ap due (sym is) ∙ s.none_due)
          (ap due (ap (λ l. l ++ s'.part.noted) first ∙ sym is') ∙ s'.none_due)

      posted : s.part.done ≡ s'.part.done
      posted = s.part.due.1 ∙ ap (filter_map (post_of n)) same ∙ sym s'.part.due.1

-- ---- what is sent

module _ (net : NetPlan) (n : ℕ) where
  -- it adds to both lists
  pub sends-adds : (a b : List BridgeEntry) (x y : List RingEntry)
      → EndSendsAll true true net n a b x y → Goes n a b x y
  sends-adds a b x y s = record {
    noted = filter_map (finish_at_end n) s.frames.done;
    known_is = grew-is (is_by n) a (filter_map (finish_at_end n) s.frames.done) b s.finishes;
    done = s.frames.done;
    ring_is = grew-is (is_of n) x s.frames.done y s.frames.grew;
    mine = grew-ours (is_of n) x s.frames.done y s.frames.grew;
  }

  -- and is one thing
  pub sends-once : (a b b' : List BridgeEntry) (x y y' : List RingEntry)
      → NoneFailed each_path (part_at net n x) → EndSendsAll true true net n a b x y
      → IsLegalRing net y → EndSendsAll true true net n a b' x y'
      → IsLegalRing net y' → (b ≡ b') × (y ≡ y')
  unfolding sends-adds
  sends-once a b b' x y y' none s legal s' legal' = (
    g.known_is ∙ ap (λ l. a ++ filter_map (finish_at_end n) l) same ∙ sym g'.known_is,
    g.ring_is ∙ ap (λ l. x ++ l) same ∙ sym g'.ring_is,
  )
    where
      g : Goes n a b x y
      g = sends-adds a b x y s

      g' : Goes n a b' x y'
      g' = sends-adds a b' x y' s'

      same : s.frames.done ≡ s'.frames.done
      same = frames-same net n each_path x y y' none s.frames legal s'.frames legal'

-- ---- no Send, so that no call fails

-- a frame that is served is no Send
frame-quiet : (n : ℕ) (f : Frame) (noted : List BridgeEntry) (done : List RingEntry)
    → EndServes n f noted done → Each (IsNoSend n) done
frame-quiet n f noted done u = at f.kind (is_for_stats f) u
  where
    at : (kind : FrameKind) (stats : Bool) → EndServesAs kind stats n f noted done
        → Each (IsNoSend n) done
    at Reply stats a = subst (Each (IsNoSend n)) (sym a.1) (tt, tt)
    at Request true a = subst (Each (IsNoSend n)) (sym a.4) (tt, (tt, (tt, tt)))
    at Request false a = subst (Each (IsNoSend n)) (sym a.1) (tt, tt)

-- nor are frames that are served in order
pub served-quiet : (n : ℕ) (fs : List Frame) (noted : List BridgeEntry) (done : List RingEntry)
    → InOrder (EndServes n) fs noted done → Each (IsNoSend n) done
served-quiet n [] noted done a = subst (Each (IsNoSend n)) (sym a.1) tt
served-quiet n (f ∷ fs) noted done a =
    subst (Each (IsNoSend n)) (sym a.5)
    (each-join (IsNoSend n) a.2 a.3 (frame-quiet n f a.0 a.2 a.6)
    (served-quiet n fs a.1 a.3 a.7))

-- nor is what is posted
pub posts-quiet : (n : ℕ) (noted : List BridgeEntry)
    → Each (IsNoSend n) (filter_map (post_of n) noted)
posts-quiet n [] = tt
posts-quiet n (Back side id reply ∷ noted) = (tt, posts-quiet n noted)
posts-quiet n (Forward side old id route request ∷ noted) = (tt, posts-quiet n noted)
posts-quiet n (Accept side id route request ∷ noted) = posts-quiet n noted
posts-quiet n (Finish side id result ∷ noted) = posts-quiet n noted
posts-quiet n (Gone side ∷ noted) = posts-quiet n noted

-- nor are calls that are given up in order
pub given-quiet : (n : ℕ) (ids : List CallId) (noted : List BridgeEntry) (done : List RingEntry)
    → InOrder (EndGivesUp n) ids noted done → Each (IsNoSend n) done
given-quiet n [] noted done a = subst (Each (IsNoSend n)) (sym a.1) tt
given-quiet n (id ∷ ids) noted done a =
    subst (Each (IsNoSend n)) (sym a.5)
    (each-join (IsNoSend n) a.2 a.3 (subst (Each (IsNoSend n)) (sym a.6.2) (tt, tt))
    (given-quiet n ids a.1 a.3 a.7))

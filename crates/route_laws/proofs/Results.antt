-- No call of a controller ends with the word for a reply that doesn't fit its request.
use Rattle.std.proofs.Common.{◌≡◌, ℕ, ◌++◌, Some, List, [], ◌∷◌, refl, sym, ap, ◌∙◌, subst}
use Rattle.std.specs.Prelude.{Contains, length, nat_le}
use Rattle.std.proofs.lemmas.Bool.{eq-eqb}
use Rattle.std.proofs.lemmas.List.Elements.{All-contains, Contains-append_left}
use Rattle.std.proofs.lemmas.List.Elements.{Contains-append_right}
use Rattle.plant_types.specs.declared.plan.Plant.{Plant}
use Rattle.mstr_block.specs.declared.call.CallId.{CallId}
use Rattle.mstr_block.specs.declared.call.MstrResult.{MstrResult}
use Rattle.mstr_block.specs.declared.call.MstrResult.TheVariants.{Bad}
use Rattle.ring_core.specs.declared.entry.LocalOp.{LocalOp}
use Rattle.ring_core.specs.declared.entry.RingEntry.{RingEntry}
use Rattle.ring_core.specs.declared.entry.RingEntry.TheVariants.{Post, Take, Local, GiveUp}
use Rattle.ring_core.specs.declared.frame.FrameKind.{FrameKind}
use Rattle.ring_core.specs.declared.frame.FrameKind.TheVariants.{Reply}
use Rattle.ring_core.specs.declared.frame.Frame.{Frame}
use Rattle.ring_laws.specs.Once.{IsFailWord}
use Rattle.ring_laws.proofs.Law.{given-up-word}
use Rattle.ring_laws.proofs.Lists.{each-contains}
use Rattle.tied_lists.specs.Own.{own}
use Rattle.tied_lists.specs.Items.{AController, Asked, Came, Ended, asked_by, asked_in, asked_of}
use Rattle.tied_lists.specs.Items.{last_asked, net_ask, result_for}
use Rattle.joint_history.specs.declared.joint.ControllerLog.{ControllerLog}
use Rattle.joint_history.specs.declared.joint.Joint.{Joint}
use Rattle.joint_history.specs.JointLaws.{IsTiedController, fixed_of, IsJoint, IsLegalJoint}
use Rattle.joint_history.specs.JointLaws.{IsLegalLog}
use Rattle.joint_history.specs.Reading.{items_of}
use Rattle.joint_history.proofs.Collected.{CallLaws}
use Rattle.joint_history.specs.Nets.{noted_on_rings}
use Rattle.effect_laws.proofs.Asks.{IsAskOf, controller-fits}
use Rattle.effect_laws.proofs.Fits.{NetAsk, port-good}
use Rattle.effect_laws.proofs.Reports.{finish-ends}
use Rattle.effect_laws.proofs.Sources.{EndedBy, by_port, by_reply, by_word, end-at, ended-by}
use Rattle.effect_laws.proofs.Sources.{in-map, in-own, of-map, of-own, placed, here}
use Rattle.std.proofs.lemmas.List.Sums.{count_by-le-length}
use Rattle.effect_laws.proofs.Words.{FitsLast, TellsTruly, ask-of, asked-before, asked_as}
use Rattle.effect_laws.proofs.Words.{bad-same, came-same, fail-word, last-of, last-some, post-of}
use Rattle.effect_laws.proofs.Words.{truly}
use Rattle.plant_types.specs.Plans.{IsPlant}
use Rattle.route_laws.specs.Laws.{FinishesHaveResults}
use Rattle.route_laws.specs.Ways.{SentOn, sent_on_in}
use Rattle.route_laws.proofs.Comes.{TookReply, reply-end}
use Rattle.route_laws.proofs.Hops.{partner}
use Rattle.route_laws.proofs.Places.{on-its-ring, ring-of-node, size_of}
use Rattle.route_laws.proofs.Requests.{Requested}

-- the Request that a node posted last for a call, before it took the Reply
pub record AskedLast (ring : List RingEntry) (n : ℕ) (before : List RingEntry) (id : CallId)
    : Type 0 where
  pub ask : Asked
  pub posted : Contains (asked_by (own n ring)) ask
  pub last : last_asked id (asked_by before) ≡ Some ask.pdu
  pub requested : Requested ring id ask.route ask.pdu

module _ (laws : CallLaws) (plant : Plant) (scans : ℕ) (joint : Joint) (is : IsPlant plant)
    (legal : IsLegalJoint plant scans joint) (tied : IsJoint joint) where
  -- what a controller asks another node for
  net-asked : (log : ControllerLog) → Contains joint.controllers log → (a : Asked)
      → Contains (asked_by (own log.node (noted_on_rings joint))) a → NetAsk a.pdu
  net-asked log there a among =
      let t = All-contains (IsTiedController (noted_on_rings joint)) joint.controllers log
      tied.controllers there in
      let plan = partner (IsLegalLog plant scans) plant.controllers joint.controllers log
      legal.controllers there in
      let known = controller-fits laws (fixed_of plant scans plan.0) log.entries plan.1.1 in
      let called = of-map net_ask (items_of log.entries).calls a
      (subst (λ (l : List Asked). Contains l a) t.asks among) in
      ask-of called.0 a
      (each-contains IsAskOf (items_of log.entries).calls called.0 known.asks called.1) called.2

  -- it stands in the node's own list
  last-posted : (n : ℕ) (before : List RingEntry) (x : RingEntry) (after : List RingEntry)
      (id : CallId) (pdu : List ℕ) → own n (noted_on_rings joint) ≡ before ++ x ∷ after
      → last_asked id (asked_by before) ≡ Some pdu
      → AskedLast (noted_on_rings joint) n before id
  last-posted n before x after id pdu own_is last =
      let ring = noted_on_rings joint in
      let w = last-of id (asked_by before) pdu last in
      let found = of-map asked_of before w.last w.there in
      let post = post-of found.0 w.last found.2 in
      let in_own : Contains (own n ring) found.0 =
      subst (λ (l : List RingEntry). Contains l found.0) (sym own_is)
      (Contains-append_left before (x ∷ after) found.0 found.1) in
      record {
        ask = w.last;
        posted = in-map asked_of (own n ring) found.0 w.last found.2 in_own;
        last = last ∙ ap (λ (l : List ℕ). Some l) (sym w.pdu_is);
        requested = record {
          node = post.node;
          frame = post.frame;
          there = subst (λ (e : RingEntry). Contains ring e) post.is
              (of-own n ring found.0 in_own).0;
          kind = post.kind;
          name = post.id ∙ w.name;
          route_is = post.route;
          request_is = post.pdu;
        };
      }

  pub asked-last : (n : ℕ) (before after : List RingEntry) (m : ℕ) (f : Frame)
      → own n (noted_on_rings joint) ≡ before ++ Take m f ∷ after → f.kind ≡ Reply
      → AskedLast (noted_on_rings joint) n before f.id
  asked-last n before after m f own_is kind =
      let ring = noted_on_rings joint in
      let among_own : Contains (own n ring) (Take m f) =
      subst (λ (l : List RingEntry). Contains l (Take m f)) (sym own_is)
      (Contains-append_right before (Take m f ∷ after) (Take m f) (here (Take m f) after)) in
      let taken = of-own n ring (Take m f) among_own in
      let r = ring-of-node plant scans joint n (Take m f) is legal taken.0 taken.1 in
      let place = placed n r.ring.entries before (Take m f) after (sym r.own_is ∙ own_is) in
      let earlier = asked-before r.net r.ring.entries place.front place.rest m f r.history
      place.ring_is kind in
      let asking : Contains before (Post m earlier.request) =
      subst (λ (l : List RingEntry). Contains l (Post m earlier.request)) place.own_is
      (in-own n place.front (Post m earlier.request) (eq-eqb m n taken.1) earlier.posted) in
      let asked = asked_as earlier.request in
      let some = last-some f.id (asked_by before) asked
      (in-map asked_of before (Post m earlier.request) asked
      (ap (λ (k : FrameKind). asked_in k earlier.request) earlier.kind) asking) earlier.same in
      last-posted n before (Take m f) after f.id some.0 own_is some.1

  reply-fits : (log : ControllerLog) (before after : List RingEntry) (m : ℕ) (f : Frame)
      → Contains joint.controllers log
      → own log.node (noted_on_rings joint) ≡ before ++ Take m f ∷ after → f.kind ≡ Reply
      → FitsLast f.id before f.pdu
  reply-fits log before after m f there own_is kind =
      let ring = noted_on_rings joint in
      let sent = sent_on_in joint in
      let size = size_of ring in
      let asked = asked-last log.node before after m f own_is kind in
      let taken = of-own log.node ring (Take m f)
      (subst (λ (l : List RingEntry). Contains l (Take m f)) (sym own_is)
      (Contains-append_right before (Take m f ∷ after) (Take m f) (here (Take m f) after))) in
      let took : TookReply joint f.id f.pdu = record {
        node = m;
        frame = f;
        there = taken.0;
        kind = kind;
        same = refl;
        reply_is = refl;
      } in
      let end = reply-end laws plant scans joint is legal tied (length sent) f.id f.pdu
      (count_by-le-length (λ (s : SentOn). nat_le (size s.old) (size f.id)) sent) took
      asked.ask.route asked.ask.pdu asked.requested in
      record {
        ask = asked.ask.pdu;
        last = asked.last;
        fits = end.fits (net-asked log there asked.ask asked.posted);
      }

  -- ---- the law

  word-none : (id : CallId) (word : ℕ) → Contains (noted_on_rings joint) (GiveUp id word)
      → word ≡ 0x3000 → ⊥
  word-none id word there word_is =
      let r = ring-of-node plant scans joint id.node (GiveUp id word) is legal there refl in
      let mine = on-its-ring plant (noted_on_rings joint) id.node (GiveUp id word) r there refl in
      fail-word (subst IsFailWord word_is
      (given-up-word r.net r.ring.entries id word r.history mine))

  port-none : (m : ℕ) (id : CallId) (op : LocalOp) (result : MstrResult)
      → Contains (noted_on_rings joint) (Local m id op result) → result ≡ Bad 0x3000 → ⊥
  port-none m id op result there bad =
      let r = ring-of-node plant scans joint m (Local m id op result) is legal there refl in
      let mine = on-its-ring plant (noted_on_rings joint) m (Local m id op result) r there refl in
      let truth = each-contains (TellsTruly r.net) r.ring.entries (Local m id op result)
      (truly r.net [] r.ring.entries r.history.legal) mine in
      port-good r.net truth.0 m op (sym truth.1 ∙ bad)

  ended-none : (log : ControllerLog) → Contains joint.controllers log
      → (end' : Ended) → end'.outcome ≡ Came (Bad 0x3000)
      → (before after : List RingEntry) (e : RingEntry)
      → own log.node (noted_on_rings joint) ≡ before ++ e ∷ after
      → Contains (noted_on_rings joint) e
      → EndedBy AController (asked_by before) e end' → ⊥
  ended-none log there end' out before after e own_is in' (by_reply m f entry kind name outcome) =
      let fit = reply-fits log before after m f there
      (subst (λ (x : RingEntry). own log.node (noted_on_rings joint) ≡ before ++ x ∷ after) entry
      own_is) kind in
      fit.fits (sym (ap (λ o. result_for o f.pdu) fit.last) ∙ came-same _ _ (outcome ∙ out))
  ended-none log there end' out before after e own_is in' (by_word word entry outcome) =
      word-none end'.id word
      (subst (λ (x : RingEntry). Contains (noted_on_rings joint) x) entry in')
      (bad-same word (came-same (Bad word) (Bad 0x3000) (outcome ∙ out)))
  ended-none log there end' out before after e own_is in' (by_port m op told entry mine outcome) =
      port-none m end'.id op told
      (subst (λ (x : RingEntry). Contains (noted_on_rings joint) x) entry in')
      (came-same told (Bad 0x3000) (outcome ∙ out))

pub finishes-have-results : CallLaws → FinishesHaveResults
finishes-have-results laws plant scans joint is legal tied log id result there finished bad =
    let ring = noted_on_rings joint in
    let b = own log.node ring in
    let t = All-contains (IsTiedController ring) joint.controllers log tied.controllers there in
    let told = finish-ends log.entries id result finished in
    let w = end-at AController [] b told.end'
    (subst (λ (l : List Ended). Contains l told.end') t.ends told.there) in
    let in_ring = (of-own log.node ring w.entry
    (subst (λ (l : List RingEntry). Contains l w.entry) (sym w.is)
    (Contains-append_right w.before (w.entry ∷ w.after) w.entry (here w.entry w.after)))).0 in
    ended-none laws plant scans joint is legal tied log there told.end'
    (told.outcome_is ∙ ap (λ (r : MstrResult). Came r) bad) w.before w.after w.entry w.is in_ring
    (ended-by AController ([] ++ asked_by w.before) w.entry told.end' w.ended)

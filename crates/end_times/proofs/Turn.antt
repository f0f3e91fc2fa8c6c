-- A turn of a bridge's end keeps it in time with its node.
use Rattle.std.proofs.Common.{◌≡◌, ℕ, Bool, true, false, cond, List, [], ◌∷◌, ◌++◌, filter_map}
use Rattle.std.proofs.Common.{Option, Some, None, refl, sym, ap, ◌∙◌, subst, append-nil}
use Rattle.std.specs.Prelude.{is_some}
use Rattle.std.specs.List.{AllByRecursion as Each}
use Rattle.std.proofs.lemmas.Bool.{eq-eqb}
use Rattle.plant_types.specs.declared.net.BridgePlan.{BridgePlan}
use Rattle.plant_types.specs.declared.net.NetPlan.{NetPlan}
use Rattle.mstr_block.specs.declared.call.CallId.{CallId}
use Rattle.bridge_relay.specs.declared.entry.BridgeEntry.{BridgeEntry}
use Rattle.bridge_relay.specs.declared.entry.BridgeEntry.TheVariants.{Accept, Forward, Finish}
use Rattle.bridge_relay.specs.declared.entry.BridgeEntry.TheVariants.{Back, Gone}
use Rattle.bridge_relay.specs.declared.entry.RelayResult.TheVariants as results
use Rattle.bridge_relay.specs.Laws.{end_after, is_by}
use Rattle.bridge_relay.specs.Machine.{is_idle_end}
use Rattle.ring_core.specs.Machine.{ring_after}
use Rattle.ring_core.specs.Scratch.{words_put}
use Rattle.ring_core.specs.Statistics.{is_for_stats}
use Rattle.ring_core.specs.declared.frame.Frame.{Frame}
use Rattle.ring_core.specs.declared.frame.FrameKind.{FrameKind}
use Rattle.ring_core.specs.declared.frame.FrameKind.TheVariants.{Request, Reply}
use Rattle.ring_core.specs.declared.entry.LeaveCause.{LeaveCause}
use Rattle.ring_core.specs.declared.entry.RingEntry.{RingEntry}
use Rattle.ring_core.specs.declared.entry.RingEntry.TheVariants.{Post, Send, Take, Local, GiveUp}
use Rattle.ring_core.specs.declared.entry.RingEntry.TheVariants.{Pass, Leave, Join}
use Rattle.tied_lists.specs.Items.{reply_of}
use Rattle.tied_lists.specs.Own.{is_of, own, Grew}
use Rattle.tied_lists.proofs.Growth.{grew-more, grew-one, grew-ours}
use Rattle.bridge_port.specs.CommPort.{cause_due, each_path, inbox_of, last_entry, made_at_end}
use Rattle.bridge_port.specs.CommPort.{overdue, reply_frame, InOrder, IsNextSending, IsSending}
use Rattle.bridge_port.specs.CommPort.{PartOf}
use Rattle.bridge_port.proofs.CommPort.{each-added, quiet-due}
use Rattle.bridge_port.specs.EndParts.{ArePosted, AsksRing, EndAsksIfDone, EndGivesUp, EndSendsAll}
use Rattle.bridge_port.specs.EndParts.{EndServes, EndServesAs, EndsEndTurn}
use Rattle.bridge_port.specs.EndParts.{IsBackEntry, IsForwardEntry, LeavesBridge, LeavesIf}
use Rattle.bridge_port.specs.EndParts.{are_some, finish_at_end, post_of}
use Rattle.one_order.specs.Merges.{tally}
use Rattle.one_order.proofs.Merges.{nothing-due, end-fits, join}
use Rattle.end_times.specs.EndCauses.{EndNoted, EndDone, no_end_notes, no_end_deeds, end_note}
use Rattle.end_times.specs.EndCauses.{end_deed, AreEndCaused}
use Rattle.end_times.specs.EndTimes.{EndInTimeAfter, IsEndInTime}
use Rattle.end_times.specs.Laws.{EndTurnsStayInTime, EndOthersStayInTime, EndsStartInTime}
use Rattle.end_times.proofs.Counts.{IsDueIf, IsDue, Anywhere, MayGo, EndsKeep, none-caused}
use Rattle.end_times.proofs.Counts.{none-due, due-as, both-due, ends-due, takes-reply, accepts-due}
use Rattle.end_times.proofs.Counts.{tells-due, backs-due, forwards-due, still-due, goes-due}

-- lists that went on by what is due
by-grew : (n : ℕ) (alone alone' : Bool) (a b : List BridgeEntry) (x y : List RingEntry)
    (noted : List BridgeEntry) (done : List RingEntry)
    → Grew alone (is_by n) a noted b → Grew alone' (is_of n) x done y → IsDue noted done
    → IsEndInTime n a x → IsEndInTime n b y
by-grew n alone alone' a b x y noted done g h is k =
    let s : EndNoted = tally end_note no_end_notes (made_at_end n a) in
    let d : EndDone = tally end_deed no_end_deeds (own n x) in
    let due = is s d (end-fits end_note end_deed AreEndCaused no_end_notes no_end_deeds
    (made_at_end n a) (own n x) none-caused k) tt in
    subst (λ (l : List BridgeEntry). EndInTimeAfter no_end_notes no_end_deeds l (own n y))
    (sym (grew-ours alone (is_by n) a noted b g))
    (subst (λ (l : List RingEntry).
    EndInTimeAfter no_end_notes no_end_deeds (made_at_end n a ++ noted) l)
    (sym (grew-ours alone' (is_of n) x done y h))
    (join end_note end_deed AreEndCaused no_end_notes no_end_deeds (made_at_end n a) noted
    (own n x) done k due.0))

by-part : (n : ℕ) (alone alone' : Bool) (Due : List BridgeEntry → List RingEntry → Type 0)
    (a b : List BridgeEntry) (x y : List RingEntry)
    → ((noted : List BridgeEntry) (done : List RingEntry) → Due noted done → IsDue noted done)
    → PartOf alone alone' (is_by n) n Due a b x y → IsEndInTime n a x → IsEndInTime n b y
by-part n alone alone' Due a b x y due p k =
    by-grew n alone alone' a b x y p.noted p.done p.station p.node (due p.noted p.done p.due) k

-- what is due to each
in-order : {X : Type 0} (Good : EndNoted → EndDone → Type 0)
    (Due : X → List BridgeEntry → List RingEntry → Type 0)
    → ((x : X) (noted : List BridgeEntry) (done : List RingEntry) → Due x noted done
    → IsDueIf Good noted done)
    → (xs : List X) (noted : List BridgeEntry) (done : List RingEntry)
    → InOrder Due xs noted done → IsDueIf Good noted done
in-order Good Due due [] noted done is =
    due-as Good noted [] done [] is.0 is.1 (none-due Good)
in-order Good Due due (x ∷ xs) noted done is =
    due-as Good noted (is.0 ++ is.1) done (is.2 ++ is.3) is.4 is.5
    (both-due Good is.0 is.1 is.2 is.3 (due x is.0 is.2 is.6)
    (in-order Good Due due xs is.1 is.3 is.7))

anywhere-keeps : EndsKeep Anywhere
anywhere-keeps s d g = tt

may-go-keeps : EndsKeep MayGo
may-go-keeps s d g = g

-- ---- first: served

served-due : (n : ℕ) (f : Frame) (kind : FrameKind) (stats : Bool) → f.kind ≡ kind
    → is_for_stats f ≡ stats → (noted : List BridgeEntry) (done : List RingEntry)
    → EndServesAs kind stats n f noted done → IsDue noted done
served-due n f Reply stats p q noted done is =
    due-as Anywhere noted _ done _ is.0 is.1
    (ends-due Anywhere anywhere-keeps n f.id (results.Reply f.pdu) (Take n f)
    (λ d. takes-reply n f d p))
served-due n f Request true p q noted done is =
    due-as Anywhere noted [] done _ is.3 is.4
    (tells-due n f (reply_frame f.id (reply_of is.1)) f.id is.0 is.1 p q refl)
served-due n f Request false p q noted done is =
    due-as Anywhere noted _ done _ is.0 is.1 (accepts-due n f.id f.rest f.pdu f p q)

-- ---- second: given back and sent on

backs-posted : (n : ℕ) (noted : List BridgeEntry) → Each IsBackEntry noted
    → IsDue noted (filter_map (post_of n) noted)
backs-posted n [] all = none-due Anywhere
backs-posted n (Back side id reply ∷ noted) all =
    both-due Anywhere (Back side id reply ∷ []) noted (Post n _ ∷ [])
    (filter_map (post_of n) noted) (backs-due side n id reply _ refl) (backs-posted n noted all.1)
backs-posted n (Accept side id route request ∷ noted) all = absurd all.0
backs-posted n (Forward side old id route request ∷ noted) all = absurd all.0
backs-posted n (Finish side id result ∷ noted) all = absurd all.0
backs-posted n (Gone side ∷ noted) all = absurd all.0

forwards-posted : (n : ℕ) (noted : List BridgeEntry) → Each IsForwardEntry noted
    → IsDue noted (filter_map (post_of n) noted)
forwards-posted n [] all = none-due Anywhere
forwards-posted n (Forward side old id route request ∷ noted) all =
    both-due Anywhere (Forward side old id route request ∷ []) noted (Post n _ ∷ [])
    (filter_map (post_of n) noted) (forwards-due side n old id route request _ refl)
    (forwards-posted n noted all.1)
forwards-posted n (Accept side id route request ∷ noted) all = absurd all.0
forwards-posted n (Back side id reply ∷ noted) all = absurd all.0
forwards-posted n (Finish side id result ∷ noted) all = absurd all.0
forwards-posted n (Gone side ∷ noted) all = absurd all.0

backs-are-due : (n : ℕ) (noted : List BridgeEntry) (done : List RingEntry)
    → ArePosted IsBackEntry n noted done → IsDue noted done
backs-are-due n noted done is =
    due-as Anywhere noted noted done _ refl is.1 (backs-posted n noted is.0)

forwards-are-due : (n : ℕ) (noted : List BridgeEntry) (done : List RingEntry)
    → ArePosted IsForwardEntry n noted done → IsDue noted done
forwards-are-due n noted done is =
    due-as Anywhere noted noted done _ refl is.1 (forwards-posted n noted is.0)

-- ---- third: sent

is-sending : (net : NetPlan) (n : ℕ) (past : List RingEntry) (e : RingEntry)
    → IsNextSending net n each_path past e → IsSending e
is-sending net n past (Post m f) is = is
is-sending net n past (Send m heard) is = tt
is-sending net n past (Take m f) is = is
is-sending net n past (Local m id op result) is = is
is-sending net n past (GiveUp id word) is = tt
is-sending net n past (Pass m done words) is = is
is-sending net n past (Leave m cause) is = is
is-sending net n past (Join m) is = is

sent-due : (n : ℕ) (done : List RingEntry) → Each IsSending done
    → IsDue (filter_map (finish_at_end n) done) done
sent-due n [] all = none-due Anywhere
sent-due n (Send m heard ∷ done) all =
    both-due Anywhere [] (filter_map (finish_at_end n) done) (Send m heard ∷ []) done
    (still-due Anywhere (Send m heard) (λ d. refl)) (sent-due n done all.1)
sent-due n (GiveUp id word ∷ done) all =
    both-due Anywhere (Finish n id (results.Bad word) ∷ []) (filter_map (finish_at_end n) done)
    (GiveUp id word ∷ []) done
    (ends-due Anywhere anywhere-keeps n id (results.Bad word) (GiveUp id word) (λ d. refl))
    (sent-due n done all.1)
sent-due n (Post m f ∷ done) all = absurd all.0
sent-due n (Take m f ∷ done) all = absurd all.0
sent-due n (Local m id op result ∷ done) all = absurd all.0
sent-due n (Pass m says words ∷ done) all = absurd all.0
sent-due n (Leave m cause ∷ done) all = absurd all.0
sent-due n (Join m ∷ done) all = absurd all.0

by-sends : (alone alone' : Bool) (net : NetPlan) (n : ℕ) (a b : List BridgeEntry)
    (x y : List RingEntry) → EndSendsAll alone alone' net n a b x y → IsEndInTime n a x
    → IsEndInTime n b y
by-sends alone alone' net n a b x y s k =
    by-grew n alone alone' a b x y (filter_map (finish_at_end n) s.frames.done) s.frames.done
    s.finishes s.frames.grew
    (sent-due n s.frames.done (each-added alone' n (IsNextSending net n each_path) IsSending
    (is-sending net n) x s.frames.done y s.frames.grew s.frames.each)) k

-- ---- fourth: given up

gives-due : (Good : EndNoted → EndDone → Type 0) → EndsKeep Good → (n : ℕ) (id : CallId)
    (noted : List BridgeEntry) (done : List RingEntry) → EndGivesUp n id noted done
    → IsDueIf Good noted done
gives-due Good keeps n id noted done is =
    due-as Good noted _ done _ is.1 is.2
    (ends-due Good keeps n id (results.Bad is.0) (GiveUp id is.0) (λ d. refl))

-- ---- last: the token goes on

grew-none : {E : Type 0} (alone : Bool) (ours : E → Bool) (xs ys : List E) → ys ≡ xs
    → Grew alone ours xs [] ys
grew-none alone ours xs ys is = record {
  more = [];
  after_is = is ∙ sym (append-nil xs);
  ours_are = refl;
  all_alone = λ same. refl;
}

by-asks : (posted alone alone' : Bool) (plan : BridgePlan) (net : NetPlan) (n : ℕ)
    (a b : List BridgeEntry) (x y : List RingEntry) (done : Bool)
    → EndAsksIfDone alone alone' plan net n posted a b x y done → IsEndInTime n a x
    → IsEndInTime n b y
by-asks true alone alone' plan net n a b x y done asked k =
    by-grew n alone alone' a b x y [] [] (grew-none alone (is_by n) a b asked.0)
    (grew-none alone' (is_of n) x y asked.1) (none-due Anywhere) k
by-asks false alone alone' plan net n a b x y done asked k =
    by-grew n alone alone' a b x y [] [] (grew-one alone (is_by n) a [] b refl asked.0)
    (by (is_idle_end (end_after plan b n)) asked.1) (none-due Anywhere) k
  where
    by : (idle : Bool) → AsksRing idle alone' net n x y done → Grew alone' (is_of n) x [] y
    by true ring = grew-one alone' (is_of n) x [] y refl ring.0
    by false ring = grew-none alone' (is_of n) x y ring.0

module _ (alone alone' : Bool) (plan : BridgePlan) (net : NetPlan) (n : ℕ)
    (budget posted left : Bool) (a b : List BridgeEntry) (x y : List RingEntry)
    (e : EndsEndTurn alone alone' plan net n budget posted a b x y left)
    (k : IsEndInTime n a x) where
  abbrev cause : Option LeaveCause
  cause = cause_due net (ring_after net e.asked_ring) n e.done budget

  abbrev words : List ℕ
  words = words_put n e.asked_ring

  asked : IsEndInTime n e.asked_list e.asked_ring
  asked = by-asks posted alone alone' plan net n a e.asked_list x e.asked_ring e.done e.asked k

  handed : (c : Option LeaveCause) → cause ≡ c
      → Grew alone' (is_of n) e.asked_ring (last_entry n e.done words c ∷ []) e.handed_ring
  handed c is = subst (λ (l : Option LeaveCause).
      Grew alone' (is_of n) e.asked_ring (last_entry n e.done words l ∷ []) e.handed_ring) is
      e.handed.grew

  leaves : (c : Option LeaveCause) → cause ≡ c
      → LeavesIf (is_some c) alone alone' n e.asked_list b e.handed_ring y
  leaves c is = subst (λ (l : Bool). LeavesIf l alone alone' n e.asked_list b e.handed_ring y)
      (e.left_is ∙ ap is_some is) e.leaves

  -- the token went on
  passed : cause ≡ None → IsEndInTime n b y
  passed is =
      let stood = leaves None is in
      subst (λ (l : List BridgeEntry). IsEndInTime n l y) (sym stood.0)
      (subst (λ (l : List RingEntry). IsEndInTime n e.asked_list l) (sym stood.1)
      (by-grew n alone alone' e.asked_list e.asked_list e.asked_ring e.handed_ring [] _
      (grew-none alone (is_by n) e.asked_list e.asked_list refl) (handed None is)
      (still-due Anywhere (Pass n e.done words) (λ d. refl)) asked))

  gone-mine : is_by n (Gone n) ≡ true
  gone-mine = eq-eqb n n refl

  -- the node left
  parted : (why : LeaveCause) → cause ≡ Some why → IsEndInTime n b y
  parted why is =
      let off : LeavesBridge alone alone' n e.asked_list b e.handed_ring y = leaves (Some why) is in
      let gives = off.gives_up in
      by-grew n alone alone' e.asked_list b e.asked_ring y (gives.noted ++ Gone n ∷ [])
      (Leave n why ∷ gives.done)
      (grew-more alone (is_by n) e.asked_list off.given_list b gives.noted (Gone n ∷ [])
      gives.station
      (grew-one alone (is_by n) off.given_list (Gone n ∷ []) b
      (ap (λ (m : Bool). cond m (Gone n ∷ []) []) gone-mine) off.gone))
      (grew-more alone' (is_of n) e.asked_ring e.handed_ring y (Leave n why ∷ []) gives.done
      (handed (Some why) is) gives.node)
      (goes-due n why gives.noted gives.done
      (quiet-due net (ring_after net e.asked_ring) n e.done budget why is)
      (in-order MayGo (EndGivesUp n) (gives-due MayGo may-go-keeps n) _ gives.noted gives.done
      gives.due)) asked

  by-ends : IsEndInTime n b y
  by-ends = at cause refl
    where
      at : (c : Option LeaveCause) → cause ≡ c → IsEndInTime n b y
      at None is = passed is
      at (Some why) is = parted why is

-- ---- the whole

pub end-in-time : EndTurnsStayInTime
end-in-time alone alone' plan net n budget left list new_list ring new_ring t k =
    let served = by-part n alone alone' (InOrder (EndServes n) (inbox_of net n ring)) list
    t.served_list ring t.served_ring
    (in-order Anywhere (EndServes n)
    (λ f noted done is. served-due n f f.kind (is_for_stats f) refl refl noted done is)
    (inbox_of net n ring)) t.serves k in
    let backed = by-part n alone alone' (ArePosted IsBackEntry n) t.served_list t.backed_list
    t.served_ring t.backed_ring (backs-are-due n) t.backs.part served in
    let called = by-part n alone alone' (ArePosted IsForwardEntry n) t.backed_list t.called_list
    t.backed_ring t.called_ring (forwards-are-due n) t.forwards.part backed in
    let sent = by-sends alone alone' net n t.called_list t.sent_list t.called_ring t.sent_ring
    t.sends called in
    let given = by-part n alone alone' (InOrder (EndGivesUp n) (overdue net n t.sent_ring))
    t.sent_list t.given_list t.sent_ring t.given_ring
    (in-order Anywhere (EndGivesUp n) (gives-due Anywhere anywhere-keeps n)
    (overdue net n t.sent_ring)) t.gives_up sent in
    by-ends alone alone' plan net n budget (are_some t.forwards.part.noted) left t.given_list
    new_list t.given_ring new_ring t.ends given

pub others-in-time : EndOthersStayInTime
others-in-time n list more ring others none none' k =
    by-grew n false false list (list ++ more) ring (ring ++ others) [] []
    (record {
      more = more;
      after_is = refl;
      ours_are = none;
      all_alone = λ (is : false ≡ true). absurd (cc);
    })
    (record {
      more = others;
      after_is = refl;
      ours_are = none';
      all_alone = λ (is : false ≡ true). absurd (cc);
    }) (none-due Anywhere) k

pub starts-in-time : EndsStartInTime
starts-in-time n list ring none none' =
    subst (λ (l : List BridgeEntry). EndInTimeAfter no_end_notes no_end_deeds l (own n ring))
    (sym none)
    (subst (λ (l : List RingEntry). EndInTimeAfter no_end_notes no_end_deeds [] l) (sym none')
    (nothing-due end_note end_deed AreEndCaused no_end_notes no_end_deeds))

-- A host's turn keeps it in time with its node.
use Rattle.std.proofs.Common.{◌≡◌, ℕ, Bool, true, false, List, [], ◌∷◌, ◌++◌, map}
use Rattle.std.proofs.Common.{filter_map, Option, Some, None, refl, sym, ap, ◌∙◌, subst}
use Rattle.std.proofs.Common.{append_assoc, append-nil}
use Rattle.std.specs.List.{AllByRecursion as Each, AllZip, flat_map}
use Rattle.std.proofs.lemmas.Bool.{ne_eqb}
use Rattle.plant_types.specs.declared.net.HostAsk.{HostAsk}
use Rattle.plant_types.specs.declared.net.HostPlan.{HostPlan}
use Rattle.plant_types.specs.declared.net.NetPlan.{NetPlan}
use Rattle.mstr_block.specs.declared.call.CallId.{CallId}
use Rattle.ring_core.specs.Statistics.{is_for_stats}
use Rattle.ring_core.specs.Words.{request_along}
use Rattle.ring_core.specs.declared.frame.Frame.{Frame}
use Rattle.ring_core.specs.declared.frame.FrameKind.{FrameKind}
use Rattle.ring_core.specs.declared.frame.FrameKind.TheVariants.{Request, Reply}
use Rattle.ring_core.specs.declared.entry.RingEntry.{RingEntry}
use Rattle.ring_core.specs.declared.entry.RingEntry.TheVariants.{Post, Send, Take, Local, GiveUp}
use Rattle.ring_core.specs.declared.entry.RingEntry.TheVariants.{Pass, Leave, Join}
use Rattle.ring_core.specs.Machine.{ring_after}
use Rattle.host_port.specs.Host.{host_is_done, request_for}
use Rattle.host_port.specs.declared.entry.HostEntry.{HostEntry}
use Rattle.host_port.specs.declared.entry.HostEntry.TheVariants.{Answer, Served}
use Rattle.host_port.specs.declared.entry.HostResult.TheVariants as results
use Rattle.tied_lists.specs.Own.{is_of, own, Grew}
use Rattle.tied_lists.proofs.Growth.{grew-ours}
use Rattle.comm_port.specs.HoldTurn.{inbox_of}
use Rattle.comm_port.specs.HostTurns.{ServesFrame, ServesKind, ServesRequest, host_notes_of}
use Rattle.comm_port.specs.HostTurns.{host_notes_of_kind, host_notes_of_request, ask_entry_of}
use Rattle.comm_port.specs.HostTurns.{GivenUp, give_up_of}
use Rattle.comm_port.specs.HostTurns.{bad_answer_of, GivesUpDue, bad_answer_to, went_on}
use Rattle.comm_port.specs.HostTurns.{EndsHostTurn, HoldsHostTurn, host_at}
use Rattle.comm_port.proofs.Leaves.{quiet-due}
use Rattle.comm_port.specs.SendsAll.{IsNextSending}
use Rattle.comm_port.proofs.Parts.{each-added}
use Rattle.comm_port.specs.Order.{IsSending}
use Rattle.one_order.specs.Merges.{tally}
use Rattle.one_order.proofs.Merges.{nothing-due, end-fits, join, tally-append}
use Rattle.entry_causes.specs.Causes.{Noted, Done, no_notes, no_deeds, host_notings, note_host}
use Rattle.entry_causes.specs.Causes.{deed, AreCaused, posting}
use Rattle.entry_causes.specs.InTime.{HostInTime}
use Rattle.entry_causes.proofs.Counts.{none-caused}
use Rattle.time_laws.specs.InTime.{OwesNoReply, HostStaysInTime, done_by}
use Rattle.time_laws.specs.Laws.{HostOthersStayInTime, HostStartsInTime}
use Rattle.time_laws.proofs.Blocks as blocks
use Rattle.time_laws.proofs.Turn.{IsForeign, take-is, local-is, last-still, next-sending}

abbrev IsDue : List HostEntry → List RingEntry → Type 0
IsDue noted done = blocks.IsDue host_notings noted done

due-as : (noted noted' : List HostEntry) (done done' : List RingEntry) → noted ≡ noted'
    → done ≡ done' → IsDue noted' done'
    → IsDue noted done
due-as noted noted' done done' p q is = blocks.due-as host_notings noted noted' done done' p q is

by-grew : (n : ℕ) (alone : Bool) (a b : List HostEntry) (x y : List RingEntry)
    (noted : List HostEntry) (done : List RingEntry)
    → b ≡ a ++ noted → Grew alone (is_of n) x done y → IsDue noted done → HostStaysInTime n a x
    → HostStaysInTime n b y
by-grew n alone a b x y noted done g h is k =
    let s : Noted = tally note_host no_notes a in
    let d : Done = tally deed no_deeds (own n x) in
    let due = is s d (end-fits note_host deed AreCaused no_notes no_deeds a
    (own n x) none-caused k.timely) k.replied in
    let own-is : own n y ≡ own n x ++ done = grew-ours alone (is_of n) x done y h in
    record {
      timely = subst (λ (l : List HostEntry). HostInTime l (own n y)) (sym g)
          (subst (λ (l : List RingEntry). HostInTime (a ++ noted) l) (sym own-is)
          (join note_host deed AreCaused no_notes no_deeds a noted (own n x) done k.timely due.0));
      replied = subst (λ (l : List HostEntry). OwesNoReply (tally note_host no_notes l)
          (done_by n y))
          (sym g)
          (subst (λ (t : Noted). OwesNoReply t (done_by n y))
          (sym (tally-append note_host no_notes a noted))
          (subst (λ (l : List RingEntry). OwesNoReply (tally note_host s noted)
          (tally deed no_deeds l)) (sym own-is)
          (subst (λ (q : Done). OwesNoReply (tally note_host s noted) q)
          (sym (tally-append deed no_deeds (own n x) done)) due.1)));
    }

-- ---- first: served
frame-due : (n : ℕ) (f : Frame) (kind : FrameKind) (stats : Bool) → f.kind ≡ kind
    → is_for_stats f ≡ stats → (done : List RingEntry)
    → IsForeign n f → ServesKind kind n f done → IsDue (host_notes_of_kind kind f) done
frame-due n f Reply stats p q done other is =
    due-as _ _ done _ refl is (blocks.ends-due host_notings (Answer f.id (results.Reply f.pdu))
    (Take n f) refl (take-is n f Reply stats p q))
frame-due n f Request stats p q done other is =
    at stats q (subst (λ (b : Bool). ServesRequest b n f done) q is)
  where
    at : (b : Bool) → is_for_stats f ≡ b → ServesRequest b n f done
        → IsDue (host_notes_of_request (is_for_stats f) f) done
    at true q' is' = due-as _ [] done _ (ap (λ (b : Bool). host_notes_of_request b f) q')
        is'.entries_are
        (blocks.tells-due host_notings (Take n f) (Local n f.id is'.op is'.result) _
        (take-is n f Request true p q')
        (local-is n f.id is'.op is'.result false (ne_eqb f.id.node n (other p))) refl)
    at false q' is' = due-as _ _ done _ (ap (λ (b : Bool). host_notes_of_request b f) q') is'
        (blocks.serves-due host_notings (Served f.id f.pdu _) (Take n f) _ refl
        (take-is n f Request false p q') refl)

frames-due : (n : ℕ) (frames : List Frame) (parts : List (List RingEntry))
    → Each (IsForeign n) frames → AllZip (ServesFrame n) frames parts
    → IsDue (flat_map host_notes_of frames) (flat_map (λ part. part) parts)
frames-due n [] [] other is = blocks.none-due host_notings
frames-due n [] (p ∷ parts) other is = absurd is
frames-due n (f ∷ frames) [] other is = absurd is
frames-due n (f ∷ frames) (p ∷ parts) other is =
    blocks.both-due host_notings (host_notes_of f) (flat_map host_notes_of frames) p
    (flat_map (λ part. part) parts)
    (frame-due n f f.kind (is_for_stats f) refl refl p other.0 is.0)
    (frames-due n frames parts other.1 is.1)

-- ---- second: asked
for-request : (call : Option CallId) (due : Option HostAsk) (f : Frame)
    → request_for call due ≡ Some f → f.kind ≡ Request
for-request (Some id) (Some ask) f is =
    let same : request_along id ask.route ask.pdu ≡ f = cc in
    ap (λ (g : Frame). g.kind) (sym same)
for-request (Some id) None f is = absurd (cc)
for-request None due f is = absurd (cc)

-- what holds wherever an item stands holds of each
pub each-of : {X : Type 0} (P : X → Type 0) (front xs : List X)
    → ((before after : List X) (x : X) → front ++ xs ≡ before ++ x ∷ after → P x)
    → Each P xs
each-of P front [] all = tt
each-of P front (x ∷ xs) all = (
  all front xs x refl,
  each-of P (front ++ x ∷ []) xs
      (λ before after y is. all before after y (sym (append_assoc front (x ∷ []) xs) ∙ is)),
)

asked-due : (n : ℕ) (asks : List Frame) → Each (λ (f : Frame). f.kind ≡ Request) asks
    → IsDue (map ask_entry_of asks) (map (Post n) asks)
asked-due n [] k = blocks.none-due host_notings
asked-due n (f ∷ asks) k = blocks.both-due host_notings (ask_entry_of f ∷ [])
    (map ask_entry_of asks) (Post n f ∷ []) (map (Post n) asks)
    (blocks.asks-due host_notings (ask_entry_of f) (Post n f) refl
    (ap (λ (kind : FrameKind). posting kind ∷ []) k.0)) (asked-due n asks k.1)

-- ---- third: sent
sent-due : (done : List RingEntry) → Each IsSending done
    → IsDue (filter_map bad_answer_to done) done
sent-due [] is = blocks.none-due host_notings
sent-due (Send m heard ∷ done) is =
    blocks.both-due host_notings [] (filter_map bad_answer_to done) (Send m heard ∷ []) done
    (blocks.still-due host_notings (Send m heard) refl) (sent-due done is.1)
sent-due (GiveUp id word ∷ done) is =
    blocks.both-due host_notings (Answer id (results.Bad word) ∷ []) (filter_map bad_answer_to done)
    (GiveUp id word ∷ []) done
    (blocks.ends-due host_notings (Answer id (results.Bad word)) (GiveUp id word) refl refl)
    (sent-due done is.1)
sent-due (Post m f ∷ done) is = absurd is.0
sent-due (Take m f ∷ done) is = absurd is.0
sent-due (Local m id op result ∷ done) is = absurd is.0
sent-due (Pass m words said ∷ done) is = absurd is.0
sent-due (Leave m cause ∷ done) is = absurd is.0
sent-due (Join m ∷ done) is = absurd is.0

-- ---- given up
gives-due : (ends : List GivenUp) → IsDue (map bad_answer_of ends) (map give_up_of ends)
gives-due [] = blocks.none-due host_notings
gives-due (e ∷ ends) =
    blocks.both-due host_notings (bad_answer_of e ∷ []) (map bad_answer_of ends) (give_up_of e ∷ [])
    (map give_up_of ends)
    (blocks.ends-due host_notings (Answer e.id (results.Bad e.word)) (GiveUp e.id e.word) refl refl)
    (gives-due ends)

by-gives : (n : ℕ) (alone : Bool) (net : NetPlan) (paths : List ℕ) (a b : List HostEntry)
    (x y : List RingEntry)
    → GivesUpDue alone net n paths a b x y → HostStaysInTime n a x → HostStaysInTime n b y
by-gives n alone net paths a b x y g k =
    by-grew n alone a b x y (map bad_answer_of g.ends) (map give_up_of g.ends) g.answers g.grew
    (gives-due g.ends) k

by-end : (n : ℕ) (alone : Bool) (net : NetPlan) (plan : HostPlan) (budget left : Bool)
    (a b : List HostEntry) (x y : List RingEntry)
    → EndsHostTurn alone net n plan budget a b x y left → HostStaysInTime n a x
    → HostStaysInTime n b y
by-end n alone net plan budget left a b x y e k = at left refl
  where
    handed : HostStaysInTime n a e.handed_ring
    handed =
        by-grew n alone a a x e.handed_ring [] _ (sym (append-nil a)) e.handed.grew
        (blocks.still-due host_notings _ (last-still n _ _ _ (quiet-due net (ring_after net x) n
        (host_is_done (host_at plan a)) budget))) k

    at : (l : Bool) → left ≡ l → HostStaysInTime n b y
    at false is = let same = e.ends_there is in
        subst (λ (l : List HostEntry). HostStaysInTime n l y) (sym same.1)
        (subst (λ (l : List RingEntry). HostStaysInTime n a l) (sym same.0) handed)
    at true is = by-gives n alone net _ a b e.handed_ring y (e.gives_up is) handed

pub host-in-time : (alone : Bool) (net : NetPlan) (n : ℕ) (plan : HostPlan) (budget left : Bool)
    (list new_list : List HostEntry) (ring new_ring : List RingEntry)
    → HoldsHostTurn alone net n plan budget list new_list ring new_ring left
    → Each (IsForeign n) (inbox_of net n ring)
    → HostStaysInTime n list ring → HostStaysInTime n new_list new_ring
host-in-time alone net n plan budget left list new_list ring new_ring t foreign k =
    let served = by-grew n alone list t.served_list ring t.served_ring _ _ t.serves.all.notes
    t.serves.all.grew
    (frames-due n (inbox_of net n ring) t.serves.all.parts foreign t.serves.all.serves) k in
    let kinds : Each (λ (f : Frame). f.kind ≡ Request) t.asks =
    each-of (λ (f : Frame). f.kind ≡ Request) [] t.asks
    (λ before after f is. for-request _ _ f (t.makes.in_order.each before after f is)) in
    let asked = by-grew n alone t.served_list t.asked_list t.served_ring t.asked_ring
    (map ask_entry_of t.asks) (map (Post n) t.asks) t.makes.in_order.asked t.makes.in_order.grew
    (asked-due n t.asks kinds) served in
    let frames = t.sends.frames in
    let on = went_on t.asks in
    let sent = by-grew n alone t.asked_list t.sent_list t.asked_ring t.sent_ring
    (filter_map bad_answer_to frames.done) frames.done t.sends.answers frames.grew
    (sent-due frames.done (each-added alone n (IsNextSending net n on) IsSending
    (next-sending net n on) t.asked_ring frames.done t.sent_ring frames.grew frames.each)) asked in
    by-end n alone net plan budget left t.given_list new_list t.given_ring new_ring t.ends
    (by-gives n alone net _ t.sent_list t.given_list t.sent_ring t.given_ring t.gives_up sent)

pub host-others-in-time : HostOthersStayInTime
host-others-in-time n list ring others none k =
    by-grew n false list list ring (ring ++ others) [] [] (sym (append-nil list))
    (record {
      more = others;
      after_is = refl;
      ours_are = none;
      all_alone = λ (is : false ≡ true). absurd (cc);
    }) (blocks.none-due host_notings) k

pub host-starts-in-time : HostStartsInTime
host-starts-in-time n ring none = record {
  timely = subst (λ (l : List RingEntry). HostInTime [] l) (sym none)
      (nothing-due note_host deed AreCaused no_notes no_deeds);
  replied = subst (λ (l : List RingEntry). OwesNoReply no_notes (tally deed no_deeds l)) (sym none)
      (record { answered = tt; posted = refl });
}

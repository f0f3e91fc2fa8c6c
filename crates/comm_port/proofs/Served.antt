-- What is taken, answered and ended leaves the lists tied.
use Rattle.std.proofs.Common.{◌≡◌, ℕ, ◌<◌, ◌==◌, Bool, true, false, cond, List, [], ◌∷◌, ◌++◌}
use Rattle.std.proofs.Common.{filter, get_or, set, length, Option, Some, None, refl, sym, ap, ◌∙◌}
use Rattle.std.proofs.Common.{subst, ⊎_elim, arith, append_assoc}
use Rattle.std.proofs.Common.{get_or-set_same, get_or-set_other, eq-eqb, ne_eqb}
use Rattle.std.proofs.lemmas.Bool.{cases_eq, cond-true, cond-false}
use Rattle.std.proofs.lemmas.List.{length-set}
use Rattle.mstr_block.specs.declared.call.CallId.{CallId}
use Rattle.mstr_block.specs.declared.call.MstrResult.{MstrResult}
use Rattle.controller_core.specs.declared.entry.Entry.{Entry}
use Rattle.controller_core.specs.declared.entry.Entry.TheVariants.{Peer, Off, Finish}
use Rattle.controller_core.specs.Event.{peer_entry}
use Rattle.ring_core.specs.declared.frame.FrameKind.{FrameKind}
use Rattle.ring_core.specs.declared.frame.FrameKind.TheVariants.{Request, Reply}
use Rattle.ring_core.specs.declared.frame.Frame.{Frame}
use Rattle.ring_core.specs.declared.entry.RingEntry.{RingEntry}
use Rattle.ring_core.specs.declared.entry.RingEntry.TheVariants.{Post, Take, Local}
use Rattle.ring_core.specs.Words.{is_same_call}
use Rattle.ring_core.specs.Statistics.{is_for_stats}
use Rattle.ring_core.specs.Machine.{path_places, NodeIs}
use Rattle.ring_core.specs.Legal.{IsLegalRing, IsFirst}
use Rattle.tied_lists.specs.ReplyLaws.{result_of}
use Rattle.tied_lists.specs.Own.{is_of, own, WentOn, Grew}
use Rattle.tied_lists.specs.Items.{AController, Items, Called, NetCall, Came, asked_by, last_asked}
use Rattle.tied_lists.specs.Items.{result_for, reply_of, with_end, with_answer}
use Rattle.tied_lists.specs.Tied.{TiedBut}
use Rattle.tied_lists.specs.Calls.{IsOutAs, IsOut}
use Rattle.tied_lists.specs.Waits.{waiting as waits_on, waits_posted, waits_taken}
use Rattle.tied_lists.specs.Waits.{Holds}
use Rattle.tied_lists.proofs.Paths.{waiting-push}
use Rattle.tied_lists.proofs.Asked.{waiting-last, other-path, no-end-push}
use Rattle.tied_lists.proofs.Growth.{grew-ours}
use Rattle.tied_lists.proofs.Steps.{tied-off, tied-served, tied-told, tied-got}
use Rattle.tied_lists.proofs.Turns.{part, unmoved, after-take, reply-awaited}
use Rattle.tied_lists.proofs.Turns.{request-of-other}
use Rattle.comm_port.specs.Sides.{RingSideIs, RamSideIs}
use Rattle.joint_history.specs.Reading.{answered_here, is_ours, items_of}
use Rattle.comm_port.specs.Replies.{reply_frame, TellsStatistics}
use Rattle.comm_port.specs.Turns.{IsNoBridge, IsOwnTurn, KeepsInbox, AreWaiting, Turning, Taking}
use Rattle.comm_port.proofs.RingTurns.{own-moved, on-still, own-on, turn-on}
use Rattle.comm_port.proofs.Onward.{answered-last, taken-last}
use Rattle.comm_port.proofs.Later.{later-one, tied-later, waits-later}

-- other items that have made as much and ended as little of what waits
pub waiting-as : (n : ℕ) (a a' : Items) (b b' : List RingEntry) (w : List (Option Frame))
    → ((p : ℕ) → waits_on p b' ≡ waits_on p
    b) → ((id : CallId) → IsOutAs a id NetCall → IsOutAs a' id NetCall) → AreWaiting n a b w
    → AreWaiting n a' b' w
waiting-as n a a' b b' w same out k = record {
  size = k.size;
  waits = λ p. k.waits p ∙ sym (same p);
  asks = k.asks;
  outs = λ p f is. out f.id
      (k.outs p f is);
}

-- a path that waits for nothing any more
pub waiting-ended : (n : ℕ) (a a' : Items) (b b' : List RingEntry) (w : List (Option Frame)) (q : ℕ)
    → q < path_places → waits_on
    q b' ≡ None → ((p : ℕ) → (p ≡ q → ⊥) → waits_on p b' ≡ waits_on p b)
    → ((id : CallId) → (id.path ≡ q → ⊥) → IsOutAs a id NetCall → IsOutAs a' id NetCall)
    → AreWaiting n a b w → AreWaiting n a' b' (set w q None)
waiting-ended n a a' b b' w q low here others out k =
    let range : q < length w = let s = k.size in omega (arith, s, low) in
    let now : get_or (set w q None) q None ≡ None = get_or-set_same w q None None range in
    record {
      size = length-set _ _ _ ∙ k.size;
      waits = λ p. ⊎_elim (λ (e : p ≡ q). subst
          (λ (x : ℕ). get_or (set w q None) x None ≡ waits_on x b') (sym e) (now ∙ sym here))
          (λ (o : p ≡ q → ⊥). get_or-set_other w q p None None o ∙ (k.waits p ∙ sym (others p o)))
          (cases_eq p q);
      asks = λ p f is. k.asks p f (old p f is);
      outs = λ p f is. out f.id (λ e. not_here p f is (sym (k.asks p f (old p f is)).path ∙ e))
          (k.outs p f (old p f is));
    }
  where
    now' : q < length w → get_or (set w q None) q None ≡ None
    now' range = get_or-set_same w q None None range

    range' : q < length w
    range' = let s = k.size in omega (arith, s, low)

    not_here : (p : ℕ) (f : Frame) → get_or (set w q None) p None ≡ Some f → p ≡ q → ⊥
    not_here p f is e = let no' : None ≡ Some f = sym (now' range')
        ∙ (ap (λ (x : ℕ). get_or (set w q None) x None) (sym e) ∙ is) in cc

    old : (p : ℕ) (f : Frame) → get_or (set w q None) p None ≡ Some f → get_or w p None ≡ Some f
    old p f is = sym (get_or-set_other w q p None None (not_here p f is)) ∙ is

-- what a Take finds
pub take-lead : {P Q : Type 0} (alone : Bool) (n : ℕ) (f : Frame) (ram : RamSideIs P)
    (known : List Entry) (side side' :
    RingSideIs Q) (ring ring' : List RingEntry) (w : List (Option Frame)) → side' ≡ side
    → IsNoBridge side.net n → IsLegalRing side.net ring' → WentOn alone
    (is_of n) ring (Take n f ∷ []) ring'
    → Turning n [] ram known side ring w → Taking n f ram known side' ring' w
take-lead {P} {Q} alone n f ram known side side' ring ring' w same none legal went t =
    let m = own-moved side alone n ring (Take n f) ring' refl t.own_turn legal went in
    subst (λ (s : RingSideIs Q). Taking n f ram known s ring' w) (sym same) (record {
      before = own n ring;
      own_is = m.own_is;
      node = t.node;
      own_turn = record {
        serves = t.own_turn.serves;
        on = own-on side alone n ring (Take n f) ring' t.own_turn legal went;
        free = (after-take side.net n ring f ring' m).free;
      };
      tied = t.tied;
      waits = t.waits;
      rest = taken-last alone side.net n f ring ring' none legal went;
      request = λ kind. request-of-other side.net n ring f ring' kind m;
      reply = λ kind. let a = reply-awaited side.net n ring f ring' kind m in (
        a.ask,
        a.waits,
        a.same,
        (let i = a.is_ask.is_path
            in let k = i.1 in omega (arith, k)),
      );
    })

-- the call of a Reply has ended
finish-out : (a : Items) (q : CallId) (id : CallId) (r : MstrResult) → is_same_call q id ≡ false
    → IsOutAs a id NetCall → IsOutAs
    (with_end a q (Came r)) id NetCall
finish-out a q id r other out = record
    { made = out.made; unended = no-end-push id a.ends _ other out.unended }

taken-reply : (n : ℕ) (before : List RingEntry) (f : Frame) → f.kind ≡ Reply → (p : ℕ)
    → waits_on p (before ++ Take n f ∷ []) ≡
    cond (f.id.path == p) None (waits_on p before)
taken-reply n before f kind p = waiting-push p before (Take n f) ∙ ap
    (λ (k : FrameKind). waits_taken p (waits_on p before) k f) kind

pub end-lead : {P Q : Type 0} (alone : Bool) (n : ℕ) (f ask : Frame) (ram ram' : RamSideIs P)
    (known known' : List Entry) (side :
    RingSideIs Q) (ring : List RingEntry) (w : List (Option Frame)) → ram' ≡ ram → f.kind ≡ Reply
    → get_or w f.id.path None ≡ Some
    ask
    → WentOn alone is_ours known (Finish f.id (result_of ask.pdu f.pdu) ∷ []) known'
    → Taking n f ram known side ring w → Turning
    n [] ram' known' side ring (set w f.id.path None)
end-lead {P} {Q} alone n f ask ram ram' known known' side ring w same kind slot went t =
    let q = f.id.path in
    let r = t.reply kind in
    let ask_is : r.0 ≡ ask = let e : Some r.0 ≡ Some ask = sym r.1 ∙ (sym (t.waits.waits q) ∙ slot)
    in cc in
    let id_is : ask.id ≡ f.id = ap (λ (x : Frame). x.id) (sym ask_is) ∙ r.2 in
    let last : last_asked f.id (asked_by t.before) ≡ Some ask.pdu = subst
    (λ (i : CallId). last_asked i (asked_by t.before) ≡ Some ask.pdu) id_is
    (waiting-last q ask t.before (ap (λ (i : CallId). i.path) id_is) (sym (t.waits.waits q) ∙ slot))
    in
    let made = subst (λ (i : CallId). IsOutAs (items_of known) i NetCall) id_is
    (t.waits.outs q ask slot) in
    let outcome : result_for (last_asked f.id (asked_by t.before)) f.pdu ≡ result_of ask.pdu
    f.pdu = ap (λ o. result_for o f.pdu) last in
    let later = later-one alone known (Finish f.id (result_of ask.pdu f.pdu)) known' went refl in
    let tied : TiedBut AController []
    (with_end (items_of known) f.id (Came (result_of ask.pdu f.pdu)))
    (t.before ++ Take n f ∷ []) =
    subst (λ (x : MstrResult). TiedBut AController [] (with_end (items_of known) f.id (Came x))
    (t.before ++ Take n f ∷ [])) outcome
    (tied-got AController [] (items_of known) t.before n f kind made.made t.tied) in
    subst (λ (s : RamSideIs P). Turning n [] s known' side ring (set w q None)) (sym same) (record {
      node = t.node;
      own_turn = t.own_turn;
      tied = tied-later AController [] (own n ring) later
          (subst (TiedBut AController []
          (with_end (items_of known) f.id (Came (result_of ask.pdu f.pdu)))) (sym t.own_is) tied);
      waits = waits-later n (own n ring) (set w q None) later
          (subst (λ (l : List RingEntry).
          AreWaiting n (with_end (items_of known) f.id (Came (result_of ask.pdu f.pdu))) l
          (set w q None)) (sym t.own_is)
          (waiting-ended n (items_of known) _ t.before (t.before ++ Take n f ∷ []) w q r.3
          (taken-reply n t.before f kind q ∙ cond-true (q == q) _ _ (eq-eqb q q refl))
          (λ p o. taken-reply n t.before f kind p ∙ cond-false (q == p) _ _
          (ne_eqb q p (λ e. o (sym e))))
          (λ id other out. finish-out (items_of known) f.id id (result_of ask.pdu f.pdu)
          (other-path f.id id (λ e. other (sym e))) out) t.waits));
    })

-- what waits, where a Request was taken and a Reply posted
posted-reply : (n : ℕ) (before : List RingEntry) (g : Frame) → g.kind ≡ Reply → (p : ℕ)
    → waits_on p (before ++ Post n g ∷ []) ≡ waits_on p before
posted-reply n before g kind p = waiting-push p before (Post n g) ∙ ap
    (λ (k : FrameKind). waits_posted p (waits_on p before) k g) kind

taken-request : (n : ℕ) (before : List RingEntry) (f : Frame) → f.kind ≡ Request → (p : ℕ)
    → waits_on p (before ++ Take n f ∷ []) ≡ waits_on p before
taken-request n before f kind p = waiting-push p before (Take n f) ∙ ap
    (λ (k : FrameKind). waits_taken p (waits_on p before) k f) kind

pub answer-lead : {P Q : Type 0} (alone alone' : Bool) (n : ℕ) (f : Frame) (reply : List ℕ)
    (ram ram' : RamSideIs P) (known known'
    : List Entry) (side side' : RingSideIs Q) (ring ring' : List RingEntry)
    (w : List (Option Frame))
    → ram' ≡ ram → side' ≡ side → f.kind ≡ Request → is_for_stats f ≡ false
    → IsLegalRing side.net ring'
    → KeepsInbox side.net n ring ring'
    → WentOn alone is_ours known (Peer f.id f.pdu reply ∷ []) known'
    → Grew alone' (is_of n) ring (Post n (reply_frame f.id reply)
    ∷ []) ring' → Taking n f ram known side ring w → Turning n [] ram' known' side' ring' w
answer-lead {P} {Q} alone alone' n f reply ram ram' known known' side side' ring ring' w same same'
    kind plain legal kept went grew t =
    let g = reply_frame f.id reply in
    let own_is : own n ring' ≡ t.before ++ (Take n f ∷ Post n g ∷ []) = grew-ours alone' (is_of n)
    ring (Post n g ∷ []) ring' grew
    ∙ (ap (λ l. l ++ Post n g ∷ []) t.own_is ∙ append_assoc t.before (Take n f ∷ [])
    (Post n g ∷ [])) in
    let later = later-one alone known (Peer f.id f.pdu reply) known' went refl in
    let a' = with_answer (items_of known) (answered_here f.id f.pdu (Some reply)) in
    subst (λ (s : RamSideIs P). Turning n [] s known' side' ring' w) (sym same) (record {
      node = t.node;
      own_turn = turn-on side side' ring ring' n same' t.own_turn legal kept;
      tied = tied-later AController [] (own n ring') later
          (subst (TiedBut AController [] a') (sym own_is)
          (answered-last AController [] (items_of known) _ f (Some reply) t.rest
          (tied-served AController [] (items_of known) t.before n f g reply kind plain refl refl
          refl t.tied)));
      waits = waits-later n (own n ring') w later
          (subst (λ (l : List RingEntry). AreWaiting n a' l w) (sym own_is)
          (waiting-as n (items_of known) a' t.before (t.before ++ (Take n f ∷ Post n g ∷ [])) w
          (λ p. ap (waits_on p) (sym (append_assoc t.before (Take n f ∷ []) (Post n g ∷ [])))
          ∙ (posted-reply n (t.before ++ Take
          n f ∷ []) g refl p ∙ taken-request n t.before f kind p))
          (λ id out. record { made = out.made; unended = out.unended }) t.waits));
    })

-- a Request that came without power
pub off-lead : {P Q : Type 0} (alone : Bool) (n : ℕ) (f : Frame) (ram ram' : RamSideIs P)
    (known known' : List Entry) (side : RingSideIs Q) (ring : List RingEntry)
    (w : List (Option Frame)) → ram' ≡ ram → f.kind ≡ Request → is_for_stats f ≡ false
    → WentOn alone is_ours known (Off f.id f.pdu ∷ []) known'
    → Taking n f ram known side ring w → Turning n [] ram' known' side ring w
off-lead {P} {Q} alone n f ram ram' known known' side ring w same kind plain went t =
    let later = later-one alone known (Off f.id f.pdu) known' went refl in
    let a' = with_answer (items_of known) (answered_here f.id f.pdu None) in
    subst (λ (s : RamSideIs P). Turning n [] s known' side ring w) (sym same) (record {
      node = t.node;
      own_turn = t.own_turn;
      tied = tied-later AController [] (own n ring) later
          (subst (TiedBut AController [] a') (sym t.own_is)
          (answered-last AController [] (items_of known) _ f None t.rest
          (tied-off AController [] (items_of known) t.before n f kind plain t.tied)));
      waits = waits-later n (own n ring) w later
          (subst (λ (l : List RingEntry). AreWaiting n a' l w) (sym t.own_is)
          (waiting-as n (items_of known) a' t.before (t.before ++ Take n f ∷ []) w
          (taken-request n t.before f kind)
          (λ id out. record { made = out.made; unended = out.unended }) t.waits));
    })

pub port-lead : {P Q : Type 0} (alone' : Bool) (n : ℕ) (f : Frame) (ram : RamSideIs P)
    (known : List Entry) (side side' :
    RingSideIs Q) (ring ring' : List RingEntry) (w : List (Option Frame))
    → side' ≡ side → f.kind ≡ Request → is_for_stats f ≡ true → IsLegalRing side.net ring'
    → KeepsInbox side.net n ring ring' → TellsStatistics
    alone' n f.id f.pdu ring ring' → Taking n f ram known side ring w
    → Turning n [] ram known side' ring' w
port-lead {P} {Q} alone' n f ram known side side' ring ring' w same' kind stats legal kept told t =
    let g = reply_frame f.id (reply_of told.result) in
    let e = Local n f.id told.op told.result in
    let own_is : own n ring' ≡ t.before ++ (Take n f ∷ e ∷ Post n g ∷ []) = grew-ours alone'
    (is_of n) ring (e ∷ Post n g ∷ [])
    ring' told.grew ∙ (ap (λ l. l ++ (e ∷ Post n g ∷ [])) t.own_is ∙ append_assoc t.before
    (Take n f ∷ []) (e ∷ Post n g ∷
    [])) in
    record {
      node = t.node;
      own_turn = turn-on side side' ring ring' n same' t.own_turn legal kept;
      tied = subst (TiedBut AController [] (items_of known)) (sym own_is)
          (tied-told AController [] (items_of known) t.before n f g told.op told.result kind stats
          (t.request kind) told.answers refl refl refl t.tied);
      waits = subst (λ (l : List RingEntry). AreWaiting n (items_of known) l w) (sym own_is)
          (waiting-as n (items_of known) (items_of known) t.before
          (t.before ++ (Take n f ∷ e ∷ Post n g ∷ [])) w
          (λ p. ap (waits_on p) (sym (append_assoc t.before (Take n f ∷ e ∷ []) (Post n g ∷ [])))
          ∙ (posted-reply n (t.before ++ (Take n f ∷ e ∷ [])) g refl p
          ∙ (ap (waits_on p) (sym (append_assoc t.before (Take n f ∷ []) (e ∷ [])))
          ∙ (waiting-push p (t.before ++ Take n f ∷ [])
          e ∙ taken-request n t.before f kind p))))
          (λ id out. out) t.waits);
    }

-- the call of a Reply can be ended
pub reply-out : {P Q : Type 0} (n : ℕ) (f : Frame) (ram : RamSideIs P) (known : List Entry)
    (side : RingSideIs Q) (ring : List
    RingEntry) (w : List (Option Frame)) → f.kind ≡ Reply → Taking n f ram known side ring w
    → IsOut (items_of known) f.id
reply-out n f ram known side ring w kind t =
    let r = t.reply kind in (
      NetCall,
      subst (λ (i : CallId). IsOutAs (items_of known) i NetCall) r.2
          (t.waits.outs f.id.path r.0 (t.waits.waits f.id.path ∙ r.1)),
    )

-- a question, or a Take of an empty inbox
pub ring-still : {P Q : Type 0} (alone : Bool) (n : ℕ) (rest : List Called) (ram : RamSideIs P)
    (known : List Entry) (side side' :
    RingSideIs Q) (ring ring' : List RingEntry) (w : List (Option Frame)) → side' ≡ side
    → IsLegalRing side.net ring' → WentOn alone
    (is_of n) ring [] ring'
    → Turning n rest ram known side ring w → Turning n rest ram known side' ring' w
ring-still {P} {Q} alone n rest ram known side side' ring ring' w same legal went t =
    let on = on-still side alone ring ring' n t.own_turn legal went in
    let f = unmoved side.net n alone ring ring' on went t.own_turn.free in
    subst (λ (s : RingSideIs Q). Turning n rest ram known s ring' w) (sym same) (record {
      node = t.node;
      own_turn = record {
        serves = t.own_turn.serves;
        on = on;
        free = f.free;
      };
      tied = subst (TiedBut AController rest (items_of known)) (sym f.own_is) t.tied;
      waits = subst (λ (l : List RingEntry). AreWaiting n (items_of known) l w) (sym f.own_is)
          t.waits;
    })

pub holds-still : {Q : Type 0} (alone : Bool) (n : ℕ) (side side' : RingSideIs Q)
    (ring ring' : List RingEntry) → side' ≡ side →
    IsLegalRing side.net ring' → WentOn alone (is_of n) ring [] ring' → IsOwnTurn side ring n
    → Holds side.net ring n → Holds
    side'.net ring' n
holds-still {Q} alone n side side' ring ring' same legal went t h =
    let f = unmoved side.net n alone ring ring' (on-still side alone ring ring' n t legal went) went
    t.free in
    subst (λ (s : RingSideIs Q). Holds s.net ring' n) (sym same) (f.holds h)

pub holds-took : {Q : Type 0} (alone : Bool) (n : ℕ) (f : Frame) (side : RingSideIs Q)
    (ring ring' : List RingEntry) → IsLegalRing
    side.net ring' → WentOn alone (is_of n) ring (Take n f ∷ []) ring' → IsOwnTurn side ring n
    → Holds side.net ring n → Holds
    side.net ring' n
holds-took alone n f side ring ring' legal went t
    h = (after-take side.net n ring f ring' (own-moved side alone n ring (Take n f)
    ring' refl t legal went)).holds h

shorter : (box : List Frame) (f : Frame) → IsFirst box f
    → length (Rattle.std.proofs.Common.drop 1 box) < length box
shorter [] f first = absurd first
shorter (g ∷ gs) f first = omega arith

pub take-less : {Q : Type 0} (alone : Bool) (n : ℕ) (f : Frame) (side : RingSideIs Q)
    (ring ring' : List RingEntry) → IsLegalRing
    side.net ring' → WentOn alone (is_of n) ring (Take n f ∷ []) ring' → IsOwnTurn side ring n
    → length (part side.net ring' n).inbox < length (part side.net ring n).inbox
take-less alone n f side ring ring' legal went t =
    let m = own-moved side alone n ring (Take n f) ring' refl t legal went in
    let w = after-take side.net n ring f ring' m in
    let first : IsFirst (part side.net ring n).inbox f = subst (λ (c : NodeIs). IsFirst c.inbox f)
    m.found.part_is m.step.1.1 in
    subst (λ (c : NodeIs). length c.inbox < length (part side.net ring n).inbox) (sym w.part_is)
    (shorter (part side.net ring n).inbox f first)

-- what a part kept
pub less-kept : {Q : Type 0} (side side1 side2 : RingSideIs Q) (n : ℕ)
    (ring ring1 ring2 : List RingEntry) → side1 ≡ side → side2
    ≡ side1 → KeepsInbox side1.net n ring1 ring2
    → length (part side.net ring1 n).inbox < length (part side.net ring n).inbox
    → length (part side2.net ring2 n).inbox < length (part side.net ring n).inbox
less-kept {Q} side side1 side2 n ring ring1 ring2 a b k less =
    let k' = subst (λ (s : RingSideIs Q). KeepsInbox s.net n ring1 ring2) a k in
    subst (λ (s : RingSideIs Q). length (part s.net ring2 n).inbox < length
    (part side.net ring n).inbox) (sym (b ∙ a))
    (subst (λ (l : List Frame). length l < length (part side.net ring n).inbox) (sym k'.inbox) less)

pub holds-kept : {Q : Type 0} (side side1 side2 : RingSideIs Q) (n : ℕ)
    (ring1 ring2 : List RingEntry) → side1 ≡ side → side2 ≡
    side1 → KeepsInbox side1.net n ring1 ring2 → Holds side.net ring1 n → Holds side2.net ring2 n
holds-kept {Q} side side1 side2 n ring1 ring2 a b k h =
    let k' = subst (λ (s : RingSideIs Q). KeepsInbox s.net n ring1 ring2) a k in
    subst (λ (s : RingSideIs Q). Holds s.net ring2 n) (sym (b ∙ a)) (k'.holds h)

-- what a controller notes of a request is its worker's, with power or without
pub peer-ours : (id : CallId) (request : List ℕ) (reply : Option (List ℕ))
    → filter is_ours (peer_entry id request reply ∷ []) ≡ peer_entry id request reply ∷ []
peer-ours id request (Some reply) = refl
peer-ours id request None = refl

pub went-reply : (alone : Bool) (id : CallId) (request : List ℕ) (one other : Option (List ℕ))
    (known known' : List Entry) → one ≡ other
    → WentOn alone is_ours known (peer_entry id request one ∷ []) known'
    → WentOn alone is_ours known (peer_entry id request other ∷ []) known'
went-reply alone id request one other known known' is w =
    subst (λ (o : Option (List ℕ)). WentOn alone is_ours known (peer_entry id request o ∷ [])
    known')
    is w

-- What is due to frames that an end's node takes.
use Rattle.std.proofs.Common.{◌≡◌, ℕ, Bool, true, false, List, [], ◌∷◌, ◌++◌, refl, sym, ap}
use Rattle.std.proofs.Common.{◌∙◌, subst}
use Rattle.std.proofs.Common.{append_assoc, append-nil}
use Rattle.bridge_relay.specs.declared.entry.BridgeEntry.{BridgeEntry}
use Rattle.bridge_relay.specs.declared.entry.BridgeEntry.TheVariants.{Accept, Finish}
use Rattle.bridge_relay.specs.declared.entry.RelayResult.TheVariants as results
use Rattle.bridge_relay.specs.Laws.{is_by}
use Rattle.ring_core.specs.declared.frame.FrameKind.{FrameKind}
use Rattle.ring_core.specs.declared.frame.FrameKind.TheVariants.{Request, Reply}
use Rattle.ring_core.specs.declared.frame.Frame.{Frame}
use Rattle.ring_core.specs.declared.entry.RingEntry.{RingEntry}
use Rattle.ring_core.specs.declared.entry.RingEntry.TheVariants.{Post, Take, Local}
use Rattle.ring_core.specs.Statistics.{is_for_stats}
use Rattle.ring_core.specs.Legal.{IsLegalRing}
use Rattle.tied_lists.specs.Items.{reply_of}
use Rattle.tied_lists.specs.Own.{is_of, WentOn}
use Rattle.tied_lists.proofs.Growth.{grew-one}
use Rattle.comm_port.specs.Giving.{inbox_of}
use Rattle.comm_port.specs.Parts.{InOrder, PartOf}
use Rattle.comm_port.specs.Replies.{reply_frame, TellsStatistics}
use Rattle.comm_port.specs.Sides.{RingSideIs}
use Rattle.comm_port.specs.Turns.{IsOwnTurn, KeepsInbox}
use Rattle.comm_port.proofs.Parts.{grew-none, part-both, in-order-last}
use Rattle.comm_port.proofs.RingTurns.{mine}
use Rattle.comm_port.proofs.Serves.{inbox-still, inbox-took}
use Rattle.bridge_port.specs.EndParts.{EndAnswers, EndServes, EndServesAs}

-- ---- one frame

pub reply-due : (n : ℕ) (f : Frame) → f.kind ≡ Reply
    → EndAnswers n f (Finish n f.id (results.Reply f.pdu) ∷ []) []
reply-due n f kind = subst (λ (k : FrameKind). EndServesAs k (is_for_stats f) n f
    (Finish n f.id (results.Reply f.pdu) ∷ []) (Take n f ∷ [])) (sym kind) (refl, refl)

pub request-due : (n : ℕ) (f : Frame) → f.kind ≡ Request → is_for_stats f ≡ false
    → EndAnswers n f (Accept n f.id f.rest f.pdu ∷ []) []
request-due n f kind plain =
    let noted : List BridgeEntry = Accept n f.id f.rest f.pdu ∷ [] in
    subst (λ (k : FrameKind). EndServesAs k (is_for_stats f) n f noted (Take n f ∷ [])) (sym kind)
    (subst (λ (b : Bool). EndServesAs Request b n f noted (Take n f ∷ [])) (sym plain) (refl, refl))

pub port-due : (alone : Bool) (n : ℕ) (f : Frame) (ring ring' : List RingEntry) → f.kind ≡ Request
    → is_for_stats f ≡ true → (t : TellsStatistics alone n f.id f.pdu ring ring')
    → EndAnswers n f []
    (Local n f.id t.op t.result ∷ Post n (reply_frame f.id (reply_of t.result)) ∷ [])
port-due alone n f ring ring' kind stats t =
    let done : List RingEntry =
    Take n f ∷ Local n f.id t.op t.result ∷ Post n (reply_frame f.id (reply_of t.result)) ∷ [] in
    subst (λ (k : FrameKind). EndServesAs k (is_for_stats f) n f [] done) (sym kind)
    (subst (λ (b : Bool). EndServesAs Request b n f [] done) (sym stats)
    (t.op, t.result, t.answers, refl, refl))

-- ---- all of them

-- these are left of the frames that lay in an inbox; all before them were served
abbrev pub ServesOn : ℕ → List Frame → List Frame → List BridgeEntry → List RingEntry → Type 0
ServesOn n start left noted done = (served : List Frame) × (start ≡ served ++ left)
    × InOrder (EndServes n) served noted done

-- a Take, and what is due to its frame
took-and : (n : ℕ) (f : Frame) (start old new : List Frame) → old ≡ f ∷ new
    → (noted noted' : List BridgeEntry) (done done' : List RingEntry)
    → ServesOn n start old noted done → EndAnswers n f noted' done'
    → ServesOn n start new (noted ++ noted') (done ++ Take n f ∷ done')
took-and n f start old new is noted noted' done done' a b = (
  a.0 ++ f ∷ [],
  a.1 ∙ (ap (λ (l : List Frame). a.0 ++ l) is ∙ sym (append_assoc a.0 (f ∷ []) new)),
  in-order-last (EndServes n) a.0 f noted noted' done (Take n f ∷ done') a.2 b,
)

-- one frame more was served
pub serves-more : {Q : Type 0} (alone alone' : Bool) (n : ℕ) (f : Frame) (start : List Frame)
    (side : RingSideIs Q) (list0 list list' : List BridgeEntry)
    (ring0 ring ring1 ring' : List RingEntry) → IsLegalRing side.net ring1
    → WentOn alone' (is_of n) ring (Take n f ∷ []) ring1
    → IsOwnTurn side ring n → KeepsInbox side.net n ring1 ring'
    → PartOf alone alone' (is_by n) n (ServesOn n start (inbox_of side.net n ring)) list0 list
    ring0 ring
    → PartOf alone alone' (is_by n) n (EndAnswers n f) list list' ring1 ring'
    → PartOf alone alone' (is_by n) n (ServesOn n start (inbox_of side.net n ring')) list0 list'
    ring0 ring'
serves-more alone alone' n f start side list0 list list' ring0 ring ring1 ring' legal went t kept
    a b =
    let old = inbox_of side.net n ring in
    let new = inbox_of side.net n ring' in
    let is : old ≡ f ∷ new = inbox-took alone' n f side ring ring1 legal went t ∙ ap
    (λ (l : List Frame). f ∷ l) (sym kept.inbox) in
    part-both alone alone' (is_by n) n (ServesOn n start old)
    (λ noted done. (rest : List RingEntry) × (done ≡ Take n f ∷ rest) × EndAnswers n f noted rest)
    (ServesOn n start new) list0 list list' ring0 ring ring'
    (λ noted noted' done done' x y. subst
    (λ (l : List RingEntry). ServesOn n start new (noted ++ noted') (done ++ l)) (sym y.1)
    (took-and n f start old new is noted noted' done y.0 x y.2)) a
    (part-both alone alone' (is_by n) n (λ noted done. (noted ≡ []) × (done ≡ Take n f ∷ []))
    (EndAnswers n f)
    (λ noted done. (rest : List RingEntry) × (done ≡ Take n f ∷ rest) × EndAnswers n f noted rest)
    list list list' ring ring1 ring'
    (λ noted noted' done done' x y. (
      done',
      ap (λ (l : List RingEntry). l ++ done') x.1,
      subst (λ (l : List BridgeEntry). EndAnswers n f (l ++ noted') done') (sym x.0) y,
    ))
    (record {
      noted = [];
      done = Take n f ∷ [];
      due = (refl, refl);
      station = grew-none alone (is_by n) list;
      node = grew-one alone' (is_of n) ring (Take n f ∷ []) ring1 (mine n (Take n f) refl) went;
    }) b)

-- the inbox is empty
pub all-served : {Q : Type 0} (alone alone' : Bool) (n : ℕ) (start : List Frame)
    (side : RingSideIs Q) (list0 list : List BridgeEntry) (ring0 ring ring' : List RingEntry)
    → IsLegalRing side.net ring' → WentOn alone' (is_of n) ring [] ring' → IsOwnTurn side ring n
    → inbox_of side.net n ring' ≡ []
    → PartOf alone alone' (is_by n) n (ServesOn n start (inbox_of side.net n ring)) list0 list
    ring0 ring
    → PartOf alone alone' (is_by n) n (InOrder (EndServes n) start) list0 list ring0 ring'
all-served alone alone' n start side list0 list ring0 ring ring' legal went t empty p =
    let none : inbox_of side.net n ring ≡ [] = sym
    (inbox-still alone' n side ring ring' legal went t) ∙ empty in
    part-both alone alone' (is_by n) n (ServesOn n start (inbox_of side.net n ring))
    (λ noted done. (noted ≡ []) × (done ≡ []))
    (InOrder (EndServes n) start) list0 list list ring0 ring ring'
    (λ noted noted' done done' a b.
    let all : start ≡ a.0 = a.1 ∙ (ap (λ (l : List Frame). a.0 ++ l) none ∙ append-nil a.0) in
    let noted-is : noted ++ noted' ≡ noted =
    ap (λ (l : List BridgeEntry). noted ++ l) b.0 ∙ append-nil noted in
    let done-is : done ++ done' ≡ done =
    ap (λ (l : List RingEntry). done ++ l) b.1 ∙ append-nil done in
    subst (λ (l : List Frame). InOrder (EndServes n) l (noted ++ noted') (done ++ done')) (sym all)
    (subst (λ (l : List BridgeEntry). InOrder (EndServes n) a.0 l (done ++ done')) (sym noted-is)
    (subst (λ (l : List RingEntry). InOrder (EndServes n) a.0 noted l) (sym done-is) a.2))) p
    (record {
      noted = [];
      done = [];
      due = (refl, refl);
      station = grew-none alone (is_by n) list;
      node = grew-one alone' (is_of n) ring [] ring' refl went;
    })

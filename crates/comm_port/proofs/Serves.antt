-- What is due to frames that are taken.
use Rattle.std.proofs.Common.{◌≡◌, ℕ, Bool, true, false, List, [], ◌∷◌, ◌++◌, drop, refl, sym, ap}
use Rattle.std.proofs.Common.{◌∙◌, subst, append_assoc, append-nil, Option}
use Rattle.mstr_block.specs.declared.call.MstrResult.{MstrResult}
use Rattle.plant_types.specs.declared.net.NetPlan.{NetPlan}
use Rattle.controller_core.specs.declared.entry.Entry.{Entry}
use Rattle.controller_core.specs.declared.entry.Entry.TheVariants.{Finish}
use Rattle.controller_core.specs.Event.{peer_entry}
use Rattle.ring_core.specs.declared.frame.FrameKind.{FrameKind}
use Rattle.ring_core.specs.declared.frame.FrameKind.TheVariants.{Request, Reply}
use Rattle.ring_core.specs.declared.frame.Frame.{Frame}
use Rattle.ring_core.specs.declared.entry.RingEntry.{RingEntry}
use Rattle.ring_core.specs.declared.entry.RingEntry.TheVariants.{Post, Take, Local}
use Rattle.ring_core.specs.Statistics.{is_for_stats}
use Rattle.ring_core.specs.Legal.{IsLegalRing, IsFirst}
use Rattle.ring_core.specs.Machine.{NodeIs}
use Rattle.tied_lists.specs.Items.{reply_of}
use Rattle.tied_lists.specs.Own.{is_of, WentOn}
use Rattle.tied_lists.proofs.Growth.{grew-one}
use Rattle.tied_lists.proofs.Turns.{part, after-take, unmoved}
use Rattle.comm_port.specs.Sides.{RingSideIs}
use Rattle.comm_port.specs.HoldTurn.{ServedAs, IsServed, inbox_of, reply_entries}
use Rattle.comm_port.specs.Parts.{InOrder, PartOf}
use Rattle.joint_history.specs.Reading.{is_ours}
use Rattle.comm_port.specs.Replies.{reply_frame, TellsStatistics}
use Rattle.comm_port.specs.Serving.{IsAnswered, ServesOn}
use Rattle.comm_port.specs.Turns.{IsOwnTurn, KeepsInbox}
use Rattle.comm_port.proofs.Parts.{grew-none, part-both, in-order-last}
use Rattle.comm_port.proofs.RingTurns.{mine, own-moved, on-still}

pub reply-due : (n : ℕ) (f : Frame) (r : MstrResult) → f.kind ≡ Reply
    → IsAnswered n f (Finish f.id r ∷ []) []
reply-due n f r kind = subst (λ (k : FrameKind). ServedAs k (is_for_stats f) n f
    (Finish f.id r ∷ []) (Take n f ∷ [])) (sym kind) (r, refl, refl)

pub request-due : (n : ℕ) (f : Frame) (reply : Option (List ℕ)) → f.kind ≡ Request
    → is_for_stats f ≡ false
    → IsAnswered n f (peer_entry f.id f.pdu reply ∷ []) (reply_entries n f.id reply)
request-due n f reply kind plain =
    let noted = peer_entry f.id f.pdu reply ∷ [] in
    let done = Take n f ∷ reply_entries n f.id reply in
    subst (λ (k : FrameKind). ServedAs k (is_for_stats f) n f noted done) (sym kind)
    (subst (λ (b : Bool). ServedAs Request b n f noted done) (sym plain) (reply, refl, refl))

pub port-due : (alone : Bool) (n : ℕ) (f : Frame) (ring ring' : List RingEntry) → f.kind ≡ Request
    → is_for_stats f ≡ true
    → (t : TellsStatistics alone n f.id f.pdu ring ring')
    → IsAnswered n f [] (Local n f.id t.op t.result ∷ Post n
    (reply_frame f.id (reply_of t.result)) ∷ [])
port-due alone n f ring ring' kind stats t =
    let done = Take n f ∷ Local n f.id t.op t.result ∷ Post n (reply_frame f.id (reply_of t.result))
    ∷ [] in
    subst (λ (k : FrameKind). ServedAs k (is_for_stats f) n f [] done) (sym kind)
    (subst (λ (b : Bool). ServedAs Request b n f [] done) (sym stats)
    (t.op, t.result, t.answers, refl, refl))

-- the inbox before a Take, and after
first-out : (box : List Frame) (f : Frame) → IsFirst box f → box ≡ f ∷ drop 1 box
first-out [] f first = absurd first
first-out (g ∷ gs) f first = ap (λ (x : Frame). x ∷ gs) first

pub inbox-took : {Q : Type 0} (alone : Bool) (n : ℕ) (f : Frame) (side : RingSideIs Q)
    (ring ring' : List RingEntry) → IsLegalRing
    side.net ring' → WentOn alone (is_of n) ring (Take n f ∷ []) ring' → IsOwnTurn side ring n
    → inbox_of side.net n ring ≡ f ∷ inbox_of side.net n ring'
inbox-took alone n f side ring ring' legal went t =
    let m = own-moved side alone n ring (Take n f) ring' refl t legal went in
    let w = after-take side.net n ring f ring' m in
    let first : IsFirst (part side.net ring n).inbox f = subst (λ (c : NodeIs). IsFirst c.inbox f)
    m.found.part_is m.step.1.1 in
    first-out (inbox_of side.net n ring) f first ∙ ap (λ (l : List Frame). f ∷ l)
    (sym (ap (λ (c : NodeIs). c.inbox) w.part_is))

pub inbox-still : {Q : Type 0} (alone : Bool) (n : ℕ) (side : RingSideIs Q)
    (ring ring' : List RingEntry) → IsLegalRing side.net ring' →
    WentOn alone (is_of n) ring [] ring' → IsOwnTurn side ring n
    → inbox_of side.net n ring' ≡ inbox_of side.net n ring
inbox-still alone n side ring ring' legal went t =
    ap (λ (c : NodeIs). c.inbox) (unmoved side.net n alone ring ring'
    (on-still side alone ring ring' n t legal went) went t.free).part_is

-- a Take, and what is due to its frame
took-and : (net : NetPlan) (n : ℕ) (f : Frame) (start old new : List Frame) → old ≡ f ∷ new
    → (noted noted' : List Entry) (done
    done' : List RingEntry) → ServesOn n start old noted done → IsAnswered n f noted' done'
    → ServesOn n start new (noted ++ noted') (done ++ Take n f ∷ done')
took-and net n f start old new is noted noted' done done' a b = (
  a.0 ++ f ∷ [],
  a.1 ∙ (ap (λ (l : List Frame). a.0 ++ l) is ∙ sym (append_assoc a.0 (f ∷ []) new)),
  in-order-last (IsServed n) a.0 f noted noted' done (Take n f ∷ done') a.2 b,
)

-- one frame more was served
pub serves-more : {Q : Type 0} (alone alone' : Bool) (n : ℕ) (f : Frame) (start : List Frame)
    (side : RingSideIs Q) (known0 known
    known' : List Entry) (ring0 ring ring1 ring' : List RingEntry) → IsLegalRing side.net ring1
    → WentOn alone' (is_of n) ring (Take n f ∷ []) ring1
    → IsOwnTurn side ring n → KeepsInbox side.net n ring1 ring'
    → PartOf alone alone' is_ours n (ServesOn n start (inbox_of side.net n ring)) known0 known ring0
    ring
    → PartOf alone alone' is_ours n (IsAnswered n f) known known' ring1 ring'
    → PartOf alone alone' is_ours n (ServesOn n start (inbox_of side.net n ring')) known0 known'
    ring0 ring'
serves-more alone alone' n f start side known0 known known' ring0 ring ring1 ring' legal went t kept
    a b =
    let old = inbox_of side.net n ring in
    let new = inbox_of side.net n ring' in
    let is : old ≡ f ∷ new = inbox-took alone' n f side ring ring1 legal went t ∙ ap
    (λ (l : List Frame). f ∷ l) (sym kept.inbox) in
    part-both alone alone' is_ours n (ServesOn n start old)
    (λ noted done. (rest : List RingEntry) × (done ≡ Take n f ∷ rest) × IsAnswered n f noted rest)
    (ServesOn n start new)
    known0 known known' ring0 ring ring'
    (λ noted noted' done done' x y. subst
    (λ (l : List RingEntry). ServesOn n start new (noted ++ noted') (done ++ l)) (sym y.1)
    (took-and side.net n f start old new is noted noted' done y.0 x y.2)) a
    (part-both alone alone' is_ours n (λ noted done. (noted ≡ []) × (done ≡ Take n f ∷ []))
    (IsAnswered n f)
    (λ noted done. (rest : List RingEntry) × (done ≡ Take n f ∷ rest) × IsAnswered n f noted rest)
    known known known' ring ring1 ring'
    (λ noted noted' done done' x y. (
      done',
      ap (λ (l : List RingEntry). l ++ done') x.1,
      subst (λ (l : List Entry). IsAnswered n f (l ++
          noted') done') (sym x.0) y,
    ))
    (record {
      noted = [];
      done = Take n f ∷ [];
      due = (refl, refl);
      station = grew-none alone is_ours known;
      node = grew-one alone' (is_of n) ring (Take n f ∷ []) ring1 (mine n (Take n f) refl) went;
    }) b)

-- the inbox is empty
pub all-served : {Q : Type 0} (alone alone' : Bool) (n : ℕ) (start : List Frame)
    (side : RingSideIs Q) (known0 known : List Entry)
    (ring0 ring ring' : List RingEntry) → IsLegalRing side.net ring'
    → WentOn alone' (is_of n) ring [] ring' → IsOwnTurn side ring n
    → inbox_of side.net n ring' ≡ []
    → PartOf alone alone' is_ours n (ServesOn n start (inbox_of side.net n ring)) known0 known ring0
    ring
    → PartOf alone alone' is_ours n (InOrder (IsServed n) start) known0 known ring0 ring'
all-served alone alone' n start side known0 known ring0 ring ring' legal went t empty p =
    let none : inbox_of side.net n ring ≡ [] = sym
    (inbox-still alone' n side ring ring' legal went t) ∙ empty in
    part-both alone alone' is_ours n (ServesOn n start (inbox_of side.net n ring))
    (λ noted done. (noted ≡ []) × (done ≡ []))
    (InOrder (IsServed n) start) known0 known known ring0 ring ring'
    (λ noted noted' done done' a b.
    let all : start ≡ a.0 = a.1 ∙ (ap (λ (l : List Frame). a.0 ++ l) none ∙ append-nil a.0) in
    let noted-is : noted ++ noted' ≡ noted = ap (λ (l : List Entry). noted ++ l) b.0 ∙ append-nil
    noted in
    let done-is : done ++ done' ≡ done = ap (λ (l : List RingEntry). done ++ l) b.1 ∙ append-nil
    done in
    subst (λ (l : List Frame). InOrder (IsServed n) l (noted ++ noted') (done ++ done')) (sym all)
    (subst (λ (l : List Entry). InOrder (IsServed n) a.0 l (done ++ done')) (sym noted-is)
    (subst (λ (l : List RingEntry). InOrder (IsServed n) a.0 noted l) (sym done-is) a.2))) p
    (record {
      noted = [];
      done = [];
      due = (refl, refl);
      station = grew-none alone is_ours known;
      node = grew-one alone' (is_of n) ring [] ring' refl went;
    })

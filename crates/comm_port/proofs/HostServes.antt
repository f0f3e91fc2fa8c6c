-- What a host's node serves.
use Rattle.std.proofs.Common.{◌≡◌, ℕ, Bool, true, false, List, [], ◌∷◌, ◌++◌, drop, refl, sym, ap}
use Rattle.std.proofs.Common.{subst, ◌∙◌, append_assoc, append-nil}
use Rattle.std.specs.Prelude.{flat_map}
use Rattle.std.specs.List.{AllZip}
use Rattle.std.proofs.lemmas.Grind.{flat_map-append}
use Rattle.plant_types.specs.declared.net.NetPlan.{NetPlan}
use Rattle.ring_core.specs.Legal.{IsFirst, IsLegalRing}
use Rattle.ring_core.specs.Machine.{NodeIs}
use Rattle.ring_core.specs.Statistics.{is_for_stats}
use Rattle.ring_core.specs.declared.frame.FrameKind.{FrameKind}
use Rattle.ring_core.specs.declared.frame.FrameKind.TheVariants.{Request, Reply}
use Rattle.ring_core.specs.declared.frame.Frame.{Frame}
use Rattle.ring_core.specs.declared.entry.RingEntry.{RingEntry}
use Rattle.ring_core.specs.declared.entry.RingEntry.TheVariants.{Post, Take, Local}
use Rattle.host_port.specs.declared.entry.HostEntry.{HostEntry}
use Rattle.host_port.specs.declared.entry.HostEntry.TheVariants.{Answer, Served}
use Rattle.host_port.specs.declared.entry.HostResult.TheVariants as results
use Rattle.host_port.specs.Legal.{refusal_to}
use Rattle.tied_lists.specs.Own.{is_of, Grew, WentOn}
use Rattle.tied_lists.specs.Items.{reply_of}
use Rattle.tied_lists.proofs.Growth.{grew-more, grew-one}
use Rattle.tied_lists.proofs.Turns.{after-take, part, unmoved}
use Rattle.comm_port.specs.Sides.{RingSideIs}
use Rattle.comm_port.specs.Replies.{reply_frame, TellsStatistics}
use Rattle.comm_port.specs.Turns.{IsOwnTurn, KeepsInbox}
use Rattle.comm_port.specs.Giving.{inbox_of}
use Rattle.comm_port.specs.HostTurns.{host_notes_of, host_notes_of_kind, host_notes_of_request}
use Rattle.comm_port.specs.HostTurns.{ServesFrame, ServesFrames, ServesInbox, ServesKind}
use Rattle.comm_port.specs.HostTurns.{ServesRequest, ServesTaken}
use Rattle.comm_port.proofs.RingTurns.{mine, on-still, own-moved}

pub grew_not : (alone : Bool) (n : ℕ) (ring : List RingEntry) → Grew alone (is_of n) ring [] ring
grew_not alone n ring = record {
  more = [];
  after_is = sym (append-nil ring);
  ours_are = refl;
  all_alone = λ is. refl;
}

-- ---- one frame

pub served-got : (alone : Bool) (n : ℕ) (f : Frame) (list new : List HostEntry)
    (ring : List RingEntry) → f.kind ≡ Reply
    → new ≡ list ++ Answer f.id (results.Reply f.pdu) ∷ []
    → ServesTaken alone n f list new ring ring
served-got alone n f list new ring kind is = record {
  rest = [];
  serves = subst (λ (k : FrameKind). ServesKind k n f (Take n f ∷ [])) (sym kind) refl;
  grew = grew_not alone n ring;
  notes = is ∙ ap (λ (k : FrameKind). list ++ host_notes_of_kind k f) (sym kind);
}

pub served-refused : (alone : Bool) (n : ℕ) (f : Frame) (reply : List ℕ) (list new : List HostEntry)
    (ring ring' : List RingEntry)
    → f.kind ≡ Request → is_for_stats f ≡ false → reply ≡ refusal_to f.pdu
    → new ≡ list ++ Served f.id f.pdu reply ∷ []
    → Grew alone (is_of n) ring (Post n (reply_frame f.id reply) ∷ []) ring'
    → ServesTaken alone n f list new ring ring'
served-refused alone n f reply list new ring ring' kind plain reply_is is grew =
    let rest : List RingEntry = Post n (reply_frame f.id reply) ∷ [] in
    let one : ServesRequest false n f (Take n f ∷ rest) = ap
    (λ (r : List ℕ). Take n f ∷ Post n (reply_frame f.id r) ∷ []) reply_is in
    let two : ServesKind Request n f (Take n f ∷ rest) = subst
    (λ (b : Bool). ServesRequest b n f (Take n f ∷ rest)) (sym plain) one in
    record {
      rest = rest;
      serves = subst (λ (k : FrameKind). ServesKind k n f (Take n f ∷ rest)) (sym kind) two;
      grew = grew;
      notes = is ∙ ap (λ (r : List ℕ). list ++ Served f.id f.pdu r ∷ []) reply_is
          ∙ ap (λ (b : Bool). list ++ host_notes_of_request b f) (sym plain)
          ∙ ap (λ (k : FrameKind). list ++ host_notes_of_kind k f) (sym kind);
    }

pub served-told : (alone : Bool) (n : ℕ) (f : Frame) (list : List HostEntry)
    (ring ring' : List RingEntry) → f.kind ≡ Request
    → is_for_stats f ≡ true → TellsStatistics alone n f.id f.pdu ring ring'
    → ServesTaken alone n f list list ring ring'
served-told alone n f list ring ring' kind stats tells =
    let rest : List RingEntry = Local n f.id tells.op tells.result ∷ Post n
    (reply_frame f.id (reply_of tells.result)) ∷ [] in
    let one : ServesRequest true n f (Take n f ∷ rest) = record
    { op = tells.op; result = tells.result; answers = tells.answers; entries_are = refl } in
    let two : ServesKind Request n f (Take n f ∷ rest) = subst
    (λ (b : Bool). ServesRequest b n f (Take n f ∷ rest)) (sym stats) one in
    record {
      rest = rest;
      serves = subst (λ (k : FrameKind). ServesKind k n f (Take n f ∷ rest)) (sym kind) two;
      grew = tells.grew;
      notes = sym (append-nil list) ∙ ap (λ (b : Bool). list ++ host_notes_of_request b f)
          (sym stats)
          ∙ ap (λ (k : FrameKind). list ++ host_notes_of_kind k f) (sym kind);
    }

-- ---- one after another

all-zip-push : {A B : Type 0} (R : A → B → Type 0) (xs : List A) (ys : List B) (x : A) (y : B)
    → AllZip R xs ys → R x y
    → AllZip R (xs ++ x ∷ []) (ys ++ y ∷ [])
all-zip-push R [] [] x y all r = (r, tt)
all-zip-push R [] (b ∷ ys) x y all r = absurd all
all-zip-push R (a ∷ xs) [] x y all r = absurd all
all-zip-push R (a ∷ xs) (b ∷ ys) x y all r = (all.0, all-zip-push R xs ys x y all.1 r)

abbrev flat : List (List RingEntry) → List RingEntry
flat parts = flat_map (λ part. part) parts

flat-push : (parts : List (List RingEntry)) (p : List RingEntry)
    → flat (parts ++ p ∷ []) ≡ flat parts ++ p
flat-push parts p = flat_map-append (λ (x : List RingEntry). x) parts (p ∷ []) ∙ ap
    (λ l. flat parts ++ l) (append-nil p)

serves-next : (alone : Bool) (n : ℕ) (fs : List Frame) (f : Frame) (l0 l l' : List HostEntry)
    (r0 r r1 r2 : List RingEntry)
    → ServesFrames alone n fs l0 l r0 r → WentOn alone (is_of n) r (Take n f ∷ []) r1
    → ServesTaken alone n f l l' r1 r2
    → ServesFrames alone n (fs ++ f ∷ []) l0 l' r0 r2
serves-next alone n fs f l0 l l' r0 r r1 r2 a went t =
    let p : List RingEntry = Take n f ∷ t.rest in
    let took = grew-one alone (is_of n) r (Take n f ∷ []) r1 (mine n (Take n f) refl) went in
    record {
      parts = a.parts ++ p ∷ [];
      serves = all-zip-push (ServesFrame n) fs a.parts f p a.serves t.serves;
      grew = subst (λ (added : List RingEntry). Grew alone (is_of n) r0 added r2)
          (sym (flat-push a.parts p))
          (grew-more alone (is_of n) r0 r r2 (flat a.parts) p a.grew
          (grew-more alone (is_of n) r r1 r2 (Take n f ∷ []) t.rest took t.grew));
      notes = t.notes ∙ ap (λ h. h ++ host_notes_of f) a.notes ∙ append_assoc l0
          (flat_map host_notes_of fs) (host_notes_of f)
          ∙ ap (λ h. l0 ++ h) (sym (flat_map-append host_notes_of fs (f ∷ []) ∙ ap
          (λ h. flat_map host_notes_of fs ++ h) (append-nil (host_notes_of f))));
    }

-- the frames that were served so far, and those that lie in the inbox
pub record ServedSoFar (alone : Bool) (net : NetPlan) (n : ℕ) (list new_list : List HostEntry)
    (ring new_ring : List RingEntry)
    : Type 0 where
  pub frames : List Frame
  pub frames_are : inbox_of net n ring ≡ frames ++ inbox_of net n new_ring
  pub all : ServesFrames alone n frames list new_list ring new_ring

pub so-far-start : (alone : Bool) (net : NetPlan) (n : ℕ) (list : List HostEntry)
    (ring : List RingEntry)
    → ServedSoFar alone net n list list ring ring
so-far-start alone net n list ring = record {
  frames = [];
  frames_are = refl;
  all = record {
    parts = [];
    serves = tt;
    grew = grew_not alone n ring;
    notes = sym
        (append-nil list);
  };
}

first-drop : (box : List Frame) (f : Frame) → IsFirst box f → box ≡ f ∷ drop 1 box
first-drop [] f first = absurd first
first-drop (g ∷ gs) f first = ap (λ (x : Frame). x ∷ gs) first

pub so-far-next : {Q : Type 0} (alone : Bool) (n : ℕ) (f : Frame) (side : RingSideIs Q)
    (l0 l l' : List HostEntry)
    (r0 r r1 r2 : List RingEntry) → IsOwnTurn side r n → ServedSoFar alone side.net n l0 l r0 r
    → IsLegalRing side.net r1
    → WentOn alone (is_of n) r (Take n f ∷ []) r1 → KeepsInbox side.net n r1 r2
    → ServesTaken alone n f l l' r1 r2
    → ServedSoFar alone side.net n l0 l' r0 r2
so-far-next alone n f side l0 l l' r0 r r1 r2 turn a legal went kept t =
    let m = own-moved side alone n r (Take n f) r1 refl turn legal went in
    let w = after-take side.net n r f r1 m in
    let first : IsFirst (part side.net r n).inbox f = subst (λ (c : NodeIs). IsFirst c.inbox f)
    m.found.part_is m.step.1.1 in
    let rest : inbox_of side.net n r2 ≡ drop 1 (inbox_of side.net n r) = kept.inbox ∙ ap
    (λ (c : NodeIs). c.inbox) w.part_is in
    let box : inbox_of side.net n r ≡ f ∷ inbox_of side.net n r2 =
    first-drop (inbox_of side.net n r) f first ∙ ap (λ (l : List Frame). f ∷ l) (sym rest) in
    record {
      frames = a.frames ++ f ∷ [];
      frames_are = a.frames_are ∙ ap (λ l. a.frames ++ l) box ∙ sym
          (append_assoc a.frames (f ∷ []) (inbox_of side.net n r2));
      all = serves-next alone n a.frames f l0 l l' r0 r r1 r2 a.all went t;
    }

pub so-far-end : {Q : Type 0} (alone : Bool) (n : ℕ) (side : RingSideIs Q) (l0 l : List HostEntry)
    (r0 r r1 : List RingEntry)
    → IsOwnTurn side r n → ServedSoFar alone side.net n l0 l r0 r → IsLegalRing side.net r1
    → WentOn alone (is_of n) r [] r1
    → inbox_of side.net n r1 ≡ [] → ServesInbox alone side.net n l0 l r0 r1
so-far-end alone n side l0 l r0 r r1 turn a legal went empty =
    let found = unmoved side.net n alone r r1 (on-still side alone r r1 n turn legal went) went
    turn.free in
    let none : inbox_of side.net n r ≡ [] = ap (λ (c : NodeIs). c.inbox) (sym found.part_is) ∙ empty
    in
    let frames_are : inbox_of side.net n r0 ≡ a.frames = a.frames_are ∙ ap (λ l. a.frames ++ l) none
    ∙ append-nil a.frames in
    let still = grew-one alone (is_of n) r [] r1 refl went in
    record {
      all = subst (λ (fs : List Frame). ServesFrames alone n fs l0 l r0 r1) (sym frames_are)
          (record {
            parts = a.all.parts;
            serves = a.all.serves;
            grew = subst (λ (added : List RingEntry). Grew alone (is_of n) r0 added r1)
                (append-nil (flat a.all.parts))
                (grew-more alone (is_of n) r0 r r1 (flat a.all.parts) [] a.all.grew still);
            notes = a.all.notes;
          });
      empty = empty;
    }

pub so-far-at : {Q : Type 0} (alone : Bool) (n : ℕ) (side side' : RingSideIs Q)
    (l0 l : List HostEntry) (r0 r : List RingEntry)
    → side' ≡ side → ServedSoFar alone side.net n l0 l r0 r
    → ServedSoFar alone side'.net n l0 l r0 r
so-far-at {Q} alone n side side' l0 l r0 r same a = subst
    (λ (s : RingSideIs Q). ServedSoFar alone s.net n l0 l r0 r) (sym same) a

pub serves-at : {Q : Type 0} (alone : Bool) (n : ℕ) (side side' : RingSideIs Q)
    (l0 l : List HostEntry) (r0 r : List RingEntry)
    → side' ≡ side → ServesInbox alone side.net n l0 l r0 r
    → ServesInbox alone side'.net n l0 l r0 r
serves-at {Q} alone n side side' l0 l r0 r same a = subst
    (λ (s : RingSideIs Q). ServesInbox alone s.net n l0 l r0 r) (sym same) a

-- What a Send and a GiveUp of a node leave.
use Rattle.std.proofs.Common.{◌≡◌, ◌⊎◌, ℕ, ◌+◌, ◌*◌, ◌-◌, ◌<◌, ◌≤◌, ◌==◌, nat_le, Bool, true}
use Rattle.std.proofs.Common.{false, not, cond, List, [], ◌∷◌, length, drop, Some}
use Rattle.std.proofs.Common.{None, refl, sym, ap, subst, ◌∙◌, inl, inr, arith}
use Rattle.std.specs.Prelude.{if◌then◌else◌}
use Rattle.std.specs.List.{filter, AllByRecursion as Each}
use Rattle.std.proofs.lemmas.Bool.{leb-false}
use Rattle.plant_types.specs.declared.net.NetPlan.{NetPlan}
use Rattle.mstr_block.specs.declared.call.CallId.{CallId}
use Rattle.ring_core.specs.declared.frame.FrameKind.{FrameKind}
use Rattle.ring_core.specs.declared.frame.Frame.{Frame}
use Rattle.ring_core.specs.declared.refusal.RingNo.{RingNo}
use Rattle.ring_core.specs.declared.refusal.RingNo.TheVariants.{NotMember, NotHolder, NothingToSend}
use Rattle.ring_core.specs.declared.refusal.RingNo.TheVariants.{NoMemory}
use Rattle.ring_core.specs.declared.entry.Heard.{Heard}
use Rattle.ring_core.specs.declared.entry.Heard.TheVariants.{Acked, Silent, Busy}
use Rattle.ring_core.specs.declared.entry.RingEntry.{RingEntry}
use Rattle.ring_core.specs.declared.entry.RingEntry.TheVariants.{Send, GiveUp}
use Rattle.ring_core.specs.Words.{asks_for, is_onward}
use Rattle.ring_core.specs.Machine.{is_here, is_in, hears, NodeIs, RingIs}
use Rattle.ring_core.specs.Machine.{addresses, part_of, ring_after, ring_node}
use Rattle.ring_core.specs.Machine.{fate_at, arrival, arrived, heard_of, heard_by, sent_head}
use Rattle.ring_core.specs.Machine.{is_head, sent_off, failed, silence_word}
use Rattle.ring_core.specs.Refusals.{or_no, empty_no, send_no}
use Rattle.ring_core.specs.Legal.{IsLegalRing, IsHeard}
use Rattle.tied_lists.specs.Own.{is_of, WentOn}
use Rattle.tied_lists.specs.Waits.{has_left, IsOnRing, Holds, IsFree}
use Rattle.tied_lists.proofs.Histories.{IsOwn, RingFollows, at-same, arrived-part, heard-status}
use Rattle.tied_lists.proofs.Histories.{heard-inbox, legal-follows, length-arrived, to-other}
use Rattle.tied_lists.proofs.Turns.{Found, Moved, after-give_up, part, unmoved}
use Rattle.tied_lists.proofs.Growth.{grew-one}
use Rattle.comm_port.specs.Sides.{RingSideIs}
use Rattle.comm_port.specs.Turns.{IsOwnTurn, KeepsInbox}
use Rattle.comm_port.specs.Sending.{AllSent, GaveUp, SentNext, sends_left, sends_of}
use Rattle.comm_port.proofs.RingTurns.{kept-by, mine, on-still, own-on, own-moved}
use Rattle.std.proofs.Common.{◌++◌, Option, ⊎_elim}
use Rattle.ring_core.specs.Refusals.{free_no, give_up_no}
use Rattle.tied_lists.proofs.Turns.{found-at, legal-parts}
use Rattle.comm_port.specs.Giving.{part_at, part_no}
use Rattle.comm_port.specs.Sending.{IsThis, IsThisGiveUp}
use Rattle.comm_port.proofs.Dues.{free-none}
use Rattle.comm_port.proofs.Parts.{each-still, each-went}

-- ---- how many Sends are left

len-drop : (f : Frame) (fs out : List Frame) → out ≡ f ∷ fs → length (drop 1 out) + 1 ≡ length out
len-drop f fs out is = subst (λ (l : List Frame). length (drop 1 l) + 1 ≡ length l) (sym is)
    (omega arith)

silent-falls : (c : NodeIs) (kind : FrameKind) (id : CallId) (there : Bool) (f : Frame)
    (fs : List Frame) → c.outbox ≡ f ∷ fs →
    c.tries ≤ 2 → (b : Bool) → nat_le 2 c.tries ≡ b
    → sends_of (if b then sent_off c (failed c kind id (silence_word there)) else record c
    { tries = c.tries + 1 }) < sends_of c
silent-falls c kind id there f fs is few true last = let l = len-drop f fs c.outbox is in omega
    arith
silent-falls c kind id there f fs is few false more =
    let l = len-drop f fs c.outbox is in
    let low = leb-false 2 c.tries more in
    omega arith

sends-fall : (c : NodeIs) (kind : FrameKind) (id : CallId) (there : Bool) (heard : Heard)
    (f : Frame) (fs : List Frame) → c.outbox ≡ f ∷ fs → c.tries ≤ 2
    → sends_of (heard_by c kind id there heard) < sends_of c
sends-fall c kind id there Acked f fs is few = let l = len-drop f fs c.outbox is in omega arith
sends-fall c kind id there Busy f fs is few = let l = len-drop f fs c.outbox is in omega arith
sends-fall c kind id there Silent f fs is few = silent-falls c kind id there f fs is few
    (nat_le 2 c.tries) refl

shorter : (test : Frame → Bool) (xs : List Frame) → length (filter test xs) ≤ length xs
shorter test [] = omega arith
shorter test (x ∷ xs) = elim (test x) as
    (λ b. length (cond b (x ∷ filter test xs) (filter test xs)) ≤ length (x ∷ xs)) [
      | true ↦ let less = shorter test xs in omega arith
      | false ↦ let less = shorter test xs in omega arith
    ]

sends-no-more : (id : CallId) (out : List Frame) (tries : ℕ) → tries ≤ 2
    → 3 * length (filter (λ f. not (asks_for id f)) out) - (if is_head id out then 0 else tries) ≤ 3
    * length out - tries
sends-no-more id [] tries few = omega arith
sends-no-more id (f ∷ fs) tries few =
    let less = shorter (λ g. not (asks_for id g)) fs in
    elim (asks_for id f) as (λ b. 3 * length
    (cond (not b) (f ∷ filter (λ g. not (asks_for id g)) fs)
    (filter (λ g. not (asks_for id g)) fs)) - (if b then 0 else tries)
    ≤ 3 * length (f ∷ fs) - tries) [
      | true ↦ omega arith
      | false ↦ omega arith
    ]

-- ---- a Send

pub record SentOne (net : NetPlan) (n : ℕ) (before : List RingEntry) (heard : Heard)
    (after' : List RingEntry) : Type 0 where
  pub f : Frame
  pub fs : List Frame
  pub there : Bool
  pub box : (part net before n).outbox ≡ f ∷ fs
  pub part_is : part net after' n ≡ heard_by (part net before n) f.kind f.id there heard
  pub holds : Holds net before n → Holds net after' n
  pub free : IsFree net after' n

record SentPart (n : ℕ) (r s : RingIs) (heard : Heard) : Type 0 where
  f : Frame
  fs : List Frame
  there : Bool
  box : (ring_node r n).outbox ≡ f ∷ fs
  part_is : ring_node s n ≡ heard_by (ring_node r n) f.kind f.id there heard
  holder : s.holder ≡ r.holder

sent-part : (net : NetPlan) (h : List RingEntry) (n : ℕ) (heard : Heard) (box : List Frame)
    (r s : RingIs) → n < addresses →
    RingFollows n h r → (ring_node r n).outbox ≡ box
    → IsHeard net r box heard → s ≡ sent_head net r n box → SentPart n r s heard
sent-part net h n heard [] r s range follows is told after_is = absurd told
sent-part net h n heard (f ∷ fs) r s range follows is told after_is =
    let fate = fate_at net.fates r.sent in
    let nodes = arrived r.nodes f (arrival net r.nodes fate f) in
    let there = hears net r.nodes f.to (is_onward f) in
    let from : IsOwn n f = (subst (λ (l : List Frame). Each (IsOwn n) l) is (follows.frames n)).0 in
    let same : part_of nodes n ≡ ring_node r n = arrived-part net r.nodes f fate
    (λ k c. k ≡ n → c ≡ ring_node r n)
    (λ k e. ap (part_of r.nodes) e) (λ here e. absurd (to-other n f f.kind from e)) n refl in
    let size : length nodes ≡ addresses = length-arrived net r.nodes fate f ∙ follows.size in
    let c' = heard_by (part_of nodes n) f.kind f.id there
    (heard_of fate (arrival net r.nodes fate f)) in
    record {
      f = f;
      fs = fs;
      there = there;
      box = is;
      part_is = ap (λ (x : RingIs). ring_node x n) after_is ∙ at-same nodes n c' size range
          ∙ (λ i. heard_by (same i) f.kind f.id there (sym told i));
      holder = ap (λ (x : RingIs). x.holder) after_is;
    }

low-address : (net : NetPlan) (h : List RingEntry) (n : ℕ) → IsOnRing net h n → n < addresses
low-address net h n on = Rattle.std.proofs.lemmas.List.Elements.All-contains (λ m. m < addresses)
    net.members n on.members on.member

pub sent-one : (net : NetPlan) (n : ℕ) (before : List RingEntry) (heard : Heard)
    (after' : List RingEntry) → Holds net before n →
    Moved net n before (Send n heard) after' → SentOne net n before heard after'
sent-one net n before heard after' holding m =
    let r = ring_after net m.past in
    let p = sent-part net m.past n heard (ring_node r n).outbox r (ring_after net after')
    (low-address net m.past n m.on)
    (legal-follows net m.past n m.on) refl m.step.1.1 m.ring_is in
    let there = m.found.holds holding in
    let now : Holds net after' n = record {
      holder = p.holder ∙ there.holder;
      here = ap (λ (c : NodeIs). is_here c) p.part_is
          ∙ ap is_in (heard-status (ring_node r n) p.f.kind p.f.id
          p.there heard) ∙ there.here;
    } in
    record {
      f = p.f;
      fs = p.fs;
      there = p.there;
      box = ap (λ (c : NodeIs). c.outbox) (sym m.found.part_is) ∙ p.box;
      part_is = p.part_is ∙ ap (λ (c : NodeIs). heard_by c p.f.kind p.f.id p.there heard)
          m.found.part_is;
      holds = λ h. now;
      free = inl now;
    }

few-tries : (net : NetPlan) (h : List RingEntry) (n : ℕ) → IsOnRing net h n
    → (part net h n).tries ≤ 2
few-tries net h n on = (legal-follows net h n on).node.part.tries_few

-- others before an entry leave the node's part
part-between : {Q : Type 0} (side : RingSideIs Q) (alone : Bool) (n : ℕ) (ring : List RingEntry)
    (e : RingEntry) (ring' : List
    RingEntry) → IsOwnTurn side ring n → IsLegalRing side.net ring'
    → (w : WentOn alone (is_of n) ring (e ∷ []) ring')
    → part_at side.net n (ring ++ w.between) ≡ part_at side.net n ring
part-between side alone n ring e ring' t legal w =
    let parts = legal-parts side.net (ring ++ w.between) (e ∷ [])
    (subst (IsLegalRing side.net) w.after_is legal) in
    (found-at side.net n ring w.between parts.0 w.others t.free).part_is

pub sent-next : {Q : Type 0} (side : RingSideIs Q) (alone : Bool) (n : ℕ) (ring : List RingEntry)
    (heard : Heard) (ring' : List
    RingEntry) → IsOwnTurn side ring n → Holds side.net ring n → IsLegalRing side.net ring'
    → WentOn alone (is_of n) ring (Send n heard ∷ []) ring'
    → SentNext alone side.net n heard ring ring'
sent-next side alone n ring heard ring' t holds legal w =
    let m = own-moved side alone n ring (Send n heard) ring' refl t legal w in
    let s = sent-one side.net n ring heard ring' holds m in
    let few = few-tries side.net ring n t.on in
    record {
      grew = grew-one alone (is_of n) ring (Send n heard ∷ []) ring' (mine n (Send n heard) refl) w;
      kept = record {
        on = λ _. own-on side alone n ring (Send n heard) ring' t legal w;
        free = s.free;
        holds = s.holds;
        inbox = ap (λ (c : NodeIs). c.inbox) s.part_is ∙ heard-inbox (part side.net ring n) s.f.kind
            s.f.id s.there heard;
      };
      less = subst (λ (c : NodeIs). sends_of c < sends_left side.net ring n) (sym s.part_is)
          (sends-fall (part side.net ring n) s.f.kind s.f.id s.there heard s.f s.fs s.box few);
      frame = s.f;
      left = s.fs;
      there = s.there;
      first = s.box;
      part_is = s.part_is;
      each = each-went alone n (IsThis side.net n (Send n heard) ring) ring (Send n heard) ring' w
          (refl, part-between side alone n ring (Send n heard) ring' t legal w);
    }

-- nothing to send
empty-box : (here holds : Bool) (other : ℕ) (out : List Frame)
    → or_no (if here then (if holds then None else Some (NotHolder other)) else Some NotMember)
    (empty_no out) ≡ Some NothingToSend → out ≡ []
empty-box false holds other out is = absurd cc
empty-box true false other out is = absurd cc
empty-box true true other [] is = refl
empty-box true true other (f ∷ out) is = absurd cc

pub kept-found : (net : NetPlan) (n : ℕ) (ring ring' : List RingEntry) → IsOnRing net ring' n
    → Found net n ring ring' → KeepsInbox net n ring ring'
kept-found net n ring ring' on f = record {
  on = λ _. on;
  free = f.free;
  holds = f.holds;
  inbox = ap (λ (c : NodeIs). c.inbox) f.part_is;
}

pub all-sent : {Q : Type 0} (side : RingSideIs Q) (alone : Bool) (n : ℕ)
    (ring ring' : List RingEntry) (why : RingNo) → IsOwnTurn
    side ring n → IsLegalRing side.net ring'
    → WentOn alone (is_of n) ring [] ring'
    → (send_no (ring_after side.net ring') n ≡ Some why) ⊎ ((why ≡ NoMemory) × (send_no
    (ring_after side.net ring') n ≡ None)) → why ≡ NothingToSend
    → AllSent alone side.net n ring ring'
all-sent side alone n ring ring' why t legal w refused is =
    let on = on-still side alone ring ring' n t legal w in
    let found = unmoved side.net n alone ring ring' on w t.free in
    let r = ring_after side.net ring' in
    record {
      grew = grew-one alone (is_of n) ring [] ring' refl w;
      kept = kept-found side.net n ring ring' on found;
      empty = elim refused [
        | inl no' ↦ empty-box (is_here (ring_node r n)) (r.holder == n) r.holder
            (ring_node r n).outbox
            (no' ∙ ap Some is)
        | inr short ↦ let wrong : NothingToSend ≡ NoMemory = sym is ∙ short.0 in absurd cc
      ];
      part_is = found.part_is;
    }

-- ---- a GiveUp

second-none : (a b : Option RingNo) → or_no a b ≡ None → b ≡ None
second-none None b e = e
second-none (Some x) b e = absurd (cc)

second-some : (a b : Option RingNo) (why : RingNo) → a ≡ None → or_no a b ≡ Some why → b ≡ Some why
second-some None b why none e = e
second-some (Some x) b why none e = absurd (cc)

pub gave-up : {Q : Type 0} (side : RingSideIs Q) (alone : Bool) (id : CallId) (word : ℕ)
    (ring ring' : List RingEntry) → IsOwnTurn
    side ring id.node → IsLegalRing side.net ring'
    → WentOn alone (is_of id.node) ring (GiveUp id word ∷ []) ring'
    → GaveUp alone side.net id ring ring' (Some word)
gave-up side alone id word ring ring' t legal w =
    let n = id.node in
    let m = own-moved side alone n ring (GiveUp id word) ring' refl t legal w in
    let wrote = after-give_up side.net n ring id word ring' refl m in
    let c = part side.net ring n in
    record {
      grew = grew-one alone (is_of n) ring (GiveUp id word ∷ []) ring'
          (mine n (GiveUp id word) refl) w;
      kept = kept-by side.net n ring ring' _ refl
          (own-on side alone n ring (GiveUp id word) ring' t legal w) wrote;
      less = subst (λ (x : NodeIs). sends_of x ≤ sends_left side.net ring n) (sym wrote.part_is)
          (sends-no-more id c.outbox
          c.tries (few-tries side.net ring n t.on));
      left = λ gone. ap (λ (c : NodeIs). has_left c.status) wrote.part_is ∙ gone;
      may = λ v e. subst (λ (x : NodeIs). part_no side.net x id ≡ None) m.found.part_is
          (second-none (free_no (ring_after side.net m.past) n)
          (part_no side.net (part_at side.net n m.past) id) m.step.1.0);
      never = λ e. absurd (let bad : Some word ≡ None = e in cc);
      part_is = wrote.part_is;
      each = each-went alone n (IsThisGiveUp side.net id ring) ring (GiveUp id word) ring' w
          (word, (refl, part-between side alone n ring (GiveUp id word) ring' t legal w));
    }

pub gave-not : {Q : Type 0} (side : RingSideIs Q) (alone : Bool) (id : CallId)
    (ring ring' : List RingEntry) → IsOwnTurn side ring
    id.node → IsLegalRing side.net ring'
    → WentOn alone (is_of id.node) ring [] ring' → (why : RingNo) → (why ≡ NoMemory → ⊥)
    → (give_up_no side.net (ring_after
    side.net ring') id ≡ Some why) ⊎
    ((why ≡ NoMemory) × (give_up_no side.net (ring_after side.net ring') id ≡ None))
    → GaveUp alone
    side.net id ring ring' None
gave-not side alone id ring ring' t legal w why other refused =
    let n = id.node in
    let on = on-still side alone ring ring' n t legal w in
    let found = unmoved side.net n alone ring ring' on w t.free in
    let same : sends_left side.net ring' n ≡ sends_left side.net ring n = ap sends_of found.part_is
    in
    record {
      grew = grew-one alone (is_of n) ring [] ring' refl w;
      kept = kept-found side.net n ring ring' on found;
      less = omega arith;
      left = λ gone. ap (λ (c : NodeIs). has_left c.status) found.part_is ∙ gone;
      may = λ v e. absurd (let bad : None ≡ Some v = e in cc);
      never = λ e. (
        why,
        subst (λ (x : NodeIs). part_no side.net x id ≡ Some why) found.part_is
            (second-some (free_no (ring_after side.net ring') n)
            (part_no side.net (part_at side.net n ring') id) why
            (free-none side.net ring' n found.free) said),
      );
      part_is = found.part_is;
      each = each-still alone n (IsThisGiveUp side.net id ring) ring ring' w;
    }
  where
    said : give_up_no side.net (ring_after side.net ring') id ≡ Some why
    said = ⊎_elim (λ (x : give_up_no side.net (ring_after side.net ring') id ≡ Some why). x)
        (λ (x : (why ≡ NoMemory) × (give_up_no side.net (ring_after side.net ring') id ≡ None)).
        absurd (other x.0)) refused

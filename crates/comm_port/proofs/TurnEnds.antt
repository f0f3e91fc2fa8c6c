-- The end of a turn.
use Rattle.std.proofs.Common.{◌≡◌, ◌⊎◌, ℕ, ◌+◌, ◌<◌, ◌≤◌, ◌==◌, nat_le, nat_lt, Bool, true, false}
use Rattle.std.proofs.Common.{◌&&◌, cond, List, [], ◌∷◌, ◌++◌, Option, Some, None, refl, sym, ap}
use Rattle.std.proofs.Common.{subst, ◌∙◌, inl, inr, append-nil}
use Rattle.std.specs.Prelude.{if◌then◌else◌}
use Rattle.std.proofs.lemmas.Bool.{cases_Bool, le-leb, lt-leb, ltb-true}
use Rattle.std.proofs.lemmas.Bool.{ltb-false}
use Rattle.plant_types.specs.declared.net.NetPlan.{NetPlan}
use Rattle.ring_core.specs.declared.frame.Frame.{Frame}
use Rattle.ring_core.specs.declared.refusal.RingNo.{RingNo}
use Rattle.ring_core.specs.declared.refusal.RingNo.TheVariants.{NotMember, NotHolder, NotDue}
use Rattle.ring_core.specs.declared.refusal.RingNo.TheVariants.{NoMemory}
use Rattle.ring_core.specs.declared.entry.LocalOp.TheVariants.{GetStats, ClearStats, PutGlobal}
use Rattle.ring_core.specs.declared.entry.LocalOp.TheVariants.{GetGlobal, RemoteGet, RemoteClear}
use Rattle.ring_core.specs.declared.entry.LeaveCause.{LeaveCause}
use Rattle.ring_core.specs.declared.entry.LeaveCause.TheVariants.{Ended, Spent, Down}
use Rattle.ring_core.specs.declared.entry.RingEntry.{RingEntry}
use Rattle.ring_core.specs.declared.entry.RingEntry.TheVariants.{Post, Send, Take, Local, GiveUp}
use Rattle.ring_core.specs.declared.entry.RingEntry.TheVariants.{Pass, Leave, Join}
use Rattle.ring_core.specs.Words.{maker}
use Rattle.ring_core.specs.Machine.{is_here, NodeIs, RingIs, ring_after, ring_node}
use Rattle.ring_core.specs.Refusals.{or_no, unsent_no, untaken_no, due_no, leave_no, turn_no}
use Rattle.ring_core.specs.Refusals.{cause_boxes_no}
use Rattle.ring_core.specs.Refusals.{cause_held, needed_of, quiet_for}
use Rattle.ring_core.specs.Scratch.{put_after, put_with, words_put}
use Rattle.ring_core.specs.Legal.{IsLegalRing}
use Rattle.ring_core.specs.Stability.{Stays}
use Rattle.ring_core.proofs.Stability.{holders-keep}
use Rattle.tied_lists.specs.Own.{is_of, own, WentOn, Grew}
use Rattle.tied_lists.specs.Waits.{IsOnRing, Holds}
use Rattle.tied_lists.proofs.Turns.{moved, after-leave, after-pass, legal-parts, none-by, on-went}
use Rattle.tied_lists.proofs.Growth.{grew-one, grew-more, grew-ours}
use Rattle.comm_port.specs.Sides.{RingSideIs}
use Rattle.comm_port.specs.Leaving.{cause_due, is_due, last_entry, HandedOn, LeftOrStood, LeftRing}
use Rattle.comm_port.specs.Leaving.{StoodStill}
use Rattle.comm_port.specs.Turns.{IsOwnTurn}
use Rattle.comm_port.proofs.RingTurns.{mine, on-grew}

-- ---- what others leave of a node that holds the token

pub stays-between : (net : NetPlan) (n : ℕ) (alone : Bool) (before added after' : List RingEntry)
    → IsLegalRing net after' → (w :
    WentOn alone (is_of n) before added after')
    → Holds net before n
    → Stays net (ring_after net before) (ring_after net (before ++ w.between)) n
stays-between net n alone before added after' legal w holds =
    let all = subst (IsLegalRing net) w.after_is legal in
    let front = (legal-parts net (before ++ w.between) added all).0 in
    holders-keep net before w.between n (legal-parts net before w.between front).1 holds.here
    holds.holder (none-by n w.between w.others)

pub stood-still : (net : NetPlan) (n : ℕ) (alone : Bool) (before after' : List RingEntry)
    → IsLegalRing net after' → WentOn alone (is_of n) before [] after'
    → Holds net before n → StoodStill alone net n before after'
stood-still net n alone before after' legal w holds =
    let is : after' ≡ before ++ w.between = w.after_is ∙ append-nil (before ++ w.between) in
    let s = stays-between net n alone before [] after' legal w holds in
    let now = λ (h : List RingEntry). ring_after net h in
    record {
      grew = grew-one alone (is_of n) before [] after' refl w;
      holds = record {
        holder = ap (λ (h : List RingEntry). (ring_after net h).holder) is ∙ s.holder
            ∙ holds.holder;
        here = ap (λ (h : List RingEntry). (is_here (ring_node (ring_after net h) n))) is ∙ ap
            (λ (c : NodeIs). is_here c) s.part ∙ holds.here;
      };
      part = ap (λ (h : List RingEntry). ring_node (ring_after net h) n) is ∙ s.part;
      quiet = ap (λ (h : List RingEntry). quiet_for net (ring_after net h) n) is ∙ s.quiet;
    }

-- a cause holds as long as before
held-as : (net : NetPlan) (r s : RingIs) (n : ℕ) (cause : LeaveCause)
    → ring_node s n ≡ ring_node r n → quiet_for net s n ≡ quiet_for net r n
    → cause_held net s n cause ≡ cause_held net r n cause
held-as net r s n Ended part quiet = quiet
held-as net r s n Spent part quiet = ap (λ (c : NodeIs). c.passes) part
held-as net r s n (Down number) part quiet = refl

needed-as : (net : NetPlan) (r s : RingIs) (n : ℕ) (cause : LeaveCause)
    → ring_node s n ≡ ring_node r n → needed_of net s n cause ≡ needed_of net r n cause
needed-as net r s n Ended part = refl
needed-as net r s n Spent part = refl
needed-as net r s n (Down number) part = ap (λ (c : NodeIs). 1 + c.down) part

pub due-as : (net : NetPlan) (r s : RingIs) (n : ℕ) (cause : LeaveCause)
    → ring_node s n ≡ ring_node r n → quiet_for net s n ≡ quiet_for net r n
    → is_due net s n cause ≡ is_due net r n cause
due-as net r s n cause part quiet =
    λ i. nat_le (needed-as net r s n cause part i) (held-as net r s n cause part quiet i)

-- ---- when a Leave is due

second-none : (a b : Option RingNo) → or_no a b ≡ None → b ≡ None
second-none None b is = is
second-none (Some why) b is = absurd cc

not-early : (held needed : ℕ) → due_no held needed ≡ None → needed ≤ held
not-early held needed is = elim (cases_Bool (nat_lt held needed)) [
  | inl low ↦
      let none : Some (NotDue held needed) ≡ None = sym
      (ap (λ b. if b then Some (NotDue held needed) else None) low) ∙ is in
      absurd cc
  | inr high ↦ ltb-false held needed high
]

pub leave-due : (net : NetPlan) (r : RingIs) (n : ℕ) (cause : LeaveCause)
    → leave_no net r n cause ≡ None → true ≡ is_due net r n cause
leave-due net r n cause is =
    sym (le-leb (needed_of net r n cause) (cause_held net r n cause)
    (not-early (cause_held net r n cause) (needed_of net r n cause) (second-none _ _ is)))

-- no other reason is that it's early
other-reason : (held needed : ℕ) (here holds : Bool) (other : ℕ) (out box : List Frame)
    → or_no (if here then (if holds then None else Some (NotHolder other)) else Some NotMember)
    (or_no (unsent_no out) (untaken_no
    box)) ≡ Some (NotDue held needed) → ⊥
other-reason held needed false holds other out box is = cc
other-reason held needed true false other out box is = cc
other-reason held needed true true other (f ∷ out) box is = cc
other-reason held needed true true other [] (f ∷ box) is = cc
other-reason held needed true true other [] [] is = cc

early : (held needed h k : ℕ) → due_no held needed ≡ Some (NotDue h k) → held < needed
early held needed h k is = elim (cases_Bool (nat_lt held needed)) [
  | inl low ↦ ltb-true held needed low
  | inr high ↦
      let none : None ≡ Some (NotDue h k) = sym
      (ap (λ b. if b then Some (NotDue held needed) else None) high) ∙ is in
      absurd cc
]

first-reason : (r : RingIs) (n : ℕ) (cause : LeaveCause) (h k : ℕ)
    → or_no (turn_no r n) (cause_boxes_no cause (ring_node r n)) ≡ Some (NotDue h k) → ⊥
first-reason r n Ended h k is = other-reason h k (is_here (ring_node r n)) (r.holder == n) r.holder
    (ring_node r n).outbox (ring_node r n).inbox is
first-reason r n Spent h k is = other-reason h k (is_here (ring_node r n)) (r.holder == n) r.holder
    (ring_node r n).outbox (ring_node r n).inbox is
first-reason r n (Down number) h k is = other-reason h k (is_here (ring_node r n)) (r.holder == n)
    r.holder [] [] is

late-or : (held needed h k : ℕ) (p : Option RingNo) → (p ≡ Some (NotDue h k) → ⊥)
    → or_no p (due_no held needed) ≡ Some (NotDue h k) → held < needed
late-or held needed h k None other is = early held needed h k is
late-or held needed h k (Some why) other is = absurd (other is)

pub leave-early : (net : NetPlan) (r : RingIs) (n : ℕ) (cause : LeaveCause) (h k : ℕ)
    → leave_no net r n cause ≡ Some (NotDue h k)
    → false ≡ is_due net r n cause
leave-early net r n cause h k is =
    sym (lt-leb (needed_of net r n cause) (cause_held net r n cause)
    (late-or (cause_held net r n cause) (needed_of net r n cause) h k _
    (first-reason r n cause h k) is))

-- ---- the two ends of an attempt

pub did-leave : (net : NetPlan) (n : ℕ) (cause : LeaveCause) (alone : Bool)
    (before after' : List RingEntry) → IsOnRing net before
    n → IsLegalRing net after' → Holds net before n
    → WentOn alone (is_of n) before (Leave n cause ∷ []) after'
    → (true ≡ is_due net (ring_after net before) n cause) × LeftRing alone net n cause before
    after'
did-leave net n cause alone before after' on legal holds w =
    let now : IsOnRing net after' n =
    on-went net n alone before (Leave n cause) after' on (inl holds) legal w in
    let m = moved net n alone before (Leave n cause) after' refl now w (inl holds) in
    let s = stays-between net n alone before (Leave n cause ∷ []) after' legal w holds in
    let past = before ++ w.between in
    let step = (legal-parts net past (Leave n cause ∷ [])
    (subst (IsLegalRing net) w.after_is legal)).1.0 in (
      leave-due net (ring_after net past) n cause step.1 ∙ due-as net (ring_after net before)
          (ring_after net past) n cause s.part s.quiet,
      record {
        grew = grew-one alone (is_of n) before (Leave n cause ∷ []) after'
            (mine n (Leave n cause) refl) w;
        gone = after-leave net n before cause after' m;
      },
    )

pub did-not : (net : NetPlan) (n : ℕ) (cause : LeaveCause) (alone : Bool)
    (before after' : List RingEntry) (why : RingNo) (h k :
    ℕ) → IsLegalRing net after' → Holds net before n
    → WentOn alone (is_of n) before [] after'
    → (why ≡ NoMemory) ⊎ (leave_no net (ring_after net after') n cause ≡ Some why)
    → why ≡ NotDue h k
    → (false ≡ is_due net (ring_after net before) n cause) × StoodStill alone net n before after'
did-not net n cause alone before after' why h k legal holds w refused is =
    let s = stood-still net n alone before after' legal w holds in
    elim refused [
      | inl short ↦ let no_memory : NotDue h k ≡ NoMemory = sym is ∙ short in absurd cc
      | inr early' ↦ (
        leave-early net (ring_after net after') n cause h k (early' ∙ ap Some is)
            ∙ due-as net (ring_after net before) (ring_after net after') n cause s.part s.quiet,
        s,
      )
    ]

-- ---- the words that a node put are told by its own entries

apart-put : (n : ℕ) (put : List ℕ) (e : RingEntry) → (maker e == n) ≡ false → put_with n put e ≡ put
apart-put n put (Post node frame) is = refl
apart-put n put (Send node heard) is = refl
apart-put n put (Take node frame) is = refl
apart-put n put (Local node id GetStats result) is = refl
apart-put n put (Local node id ClearStats result) is = refl
apart-put n put (Local node id (PutGlobal words) result) is = ap (λ b. if b then words else put) is
apart-put n put (Local node id (GetGlobal from size) result) is = refl
apart-put n put (Local node id RemoteGet result) is = refl
apart-put n put (Local node id RemoteClear result) is = refl
apart-put n put (GiveUp id word) is = refl
apart-put n put (Pass node done words) is = refl
apart-put n put (Leave node Ended) is = refl
apart-put n put (Leave node Spent) is = refl
apart-put n put (Leave node (Down number)) is = ap (λ b. if b then [] else put) is
apart-put n put (Join node) is = refl

put-own : (n : ℕ) (put : List ℕ) (es : List RingEntry)
    → put_after n put es ≡ put_after n put (own n es)
put-own n put [] = refl
put-own n put (e ∷ es) = elim (cases_Bool (maker e == n)) [
  | inl ours ↦ put-own n (put_with n put e) es ∙ ap
      (λ b. put_after n put (cond b (e ∷ own n es) (own n es))) (sym ours)
  | inr other ↦
      ap (λ p. put_after n p es) (apart-put n put e other) ∙ put-own n put es
      ∙ ap (λ b. put_after n put (cond b (e ∷ own n es) (own n es))) (sym other)
]

pub words-as : (n : ℕ) (one other : List RingEntry) → own n one ≡ own n other
    → words_put n one ≡ words_put n other
words-as n one other same = put-own n [] one ∙ ap (put_after n []) same ∙ sym (put-own n [] other)

pub still-own : (alone : Bool) (net : NetPlan) (n : ℕ) (old new : List RingEntry)
    → StoodStill alone net n old new → own n new ≡ own n old
still-own alone net n old new s = grew-ours alone (is_of n) old [] new s.grew ∙ append-nil
    (own n old)

-- ---- a turn whose node stays

nothing-due : (spent ended : Bool) → spent ≡ false → ended ≡ false
    → (if spent then Some Spent else (if ended then Some Ended else None)) ≡ None
nothing-due spent ended one two = ap
    (λ b. if b then Some Spent else (if ended then Some Ended else None)) one ∙ ap
    (λ b. if b then Some Ended else None) two

stood : (net : NetPlan) (n : ℕ) (cause : LeaveCause) (alone : Bool) (old new : List RingEntry)
    (left : Bool) → left ≡ false →
    LeftOrStood alone net n cause old new left → StoodStill alone net n old new
stood net n cause alone old new true is did = absurd cc
stood net n cause alone old new false is did = did

-- it goes on with its turn
pub stood-turn : {Q : Type 0} (side side' : RingSideIs Q) (n : ℕ) (cause : LeaveCause)
    (alone : Bool) (old new : List RingEntry) (left : Bool) → left ≡ false → side' ≡ side
    → IsLegalRing side.net new → LeftOrStood alone side.net n cause old new left
    → IsOwnTurn side old n → IsOwnTurn side' new n
stood-turn {Q} side side' n cause alone old new left is same legal did t =
    let s = stood side.net n cause alone old new left is did in
    subst (λ (x : RingSideIs Q). IsOwnTurn x new n) (sym same) (record {
      serves = t.serves;
      on = on-grew alone side.net n old [] new t.on legal tt s.grew;
      free = inl s.holds;
    })

passed-at : (net : NetPlan) (n : ℕ) (done budget alone : Bool) (a b c d : List RingEntry)
    (spent ended : Bool)
    → spent ≡ (budget && is_due net (ring_after net a) n Spent)
    → LeftOrStood alone net n Spent a b spent → spent ≡ false
    → ended ≡ (done && is_due net (ring_after net b) n Ended)
    → LeftOrStood alone net n Ended b c ended → ended ≡ false
    → WentOn alone (is_of n) c (Pass n done (words_put n c) ∷ []) d → IsOnRing net a n
    → IsLegalRing net d
    → HandedOn alone net n done (words_put n a) (cause_due net (ring_after net a) n done budget) a d
passed-at net n done budget alone a b c d spent ended one did_one not_one two did_two not_two w on
    legal =
    let s = stood net n Spent alone a b spent not_one did_one in
    let t = stood net n Ended alone b c ended not_two did_two in
    let second : (done && is_due net (ring_after net a) n Ended) ≡ false =
    ap (λ x. done && x) (sym (due-as net (ring_after net a) (ring_after net b) n Ended s.part
    s.quiet)) ∙ sym two ∙ not_two in
    let none : cause_due net (ring_after net a) n done budget ≡ None = nothing-due _ _
    (sym one ∙ not_one) second in
    let words : words_put n c ≡ words_put n a = words-as n c a
    (still-own alone net n b c t ∙ still-own alone net n a b s) in
    let e : RingEntry = Pass n done (words_put n c) in
    let last = grew-one alone (is_of n) c (e ∷ []) d (mine n e refl) w in
    let still = grew-more alone (is_of n) a b c [] [] s.grew t.grew in
    let all : Grew alone (is_of n) a (Pass n done (words_put n c) ∷ []) d = grew-more alone
    (is_of n) a c d [] (e ∷ []) still last in
    let on' : IsOnRing net d n = on-grew alone net n a (e ∷ []) d on legal (tt, tt) all in
    record {
      grew = subst (λ o. Grew alone (is_of n) a (last_entry n done (words_put n a) o ∷ []) d)
          (sym none)
          (subst (λ l. Grew alone (is_of n) a (Pass n done l ∷ []) d) words all);
      gone = λ why is. let no' : None ≡ Some why = sym none ∙ is in absurd cc;
      stays = λ is. after-pass net n c done (words_put n c) d
          (moved net n alone c e d refl on' w (inl t.holds)) t.holds;
    }

-- the same, where the second attempt speaks of a side that stayed the same
pub passed-on : {Q : Type 0} (side side' side'' : RingSideIs Q) (n : ℕ) (done budget alone : Bool)
    (a b c d : List RingEntry)
    (spent ended : Bool) → side' ≡ side → side'' ≡ side'
    → spent ≡ (budget && is_due side.net (ring_after side.net a) n Spent)
    → LeftOrStood alone side.net n Spent a b spent → spent ≡ false
    → ended ≡ (done && is_due side'.net (ring_after side'.net b) n Ended)
    → LeftOrStood alone side'.net n Ended b c ended → ended ≡ false
    → WentOn alone (is_of n) c (Pass n done (words_put n c) ∷ []) d → IsOwnTurn side a n
    → IsLegalRing side''.net d
    → HandedOn alone side.net n done (words_put n a)
    (cause_due side.net (ring_after side.net a) n done budget) a d
passed-on {Q} side side' side'' n done budget alone a b c d spent ended same next_same one did_one
    not_one two did_two not_two w turn legal =
    passed-at side.net n done budget alone a b c d spent ended one did_one not_one
    (subst (λ (s : RingSideIs Q). ended ≡ (done && is_due s.net (ring_after s.net b) n Ended)) same
    two)
    (subst (λ (s : RingSideIs Q). LeftOrStood alone s.net n Ended b c ended) same did_two) not_two w
    turn.on (subst (λ (s : RingSideIs Q). IsLegalRing s.net d) (next_same ∙ same) legal)

-- ---- a turn whose node leaves since it is done

ended-due : (spent ended : Bool) → spent ≡ false → ended ≡ true
    → (if spent then Some Spent else (if ended then Some Ended else None)) ≡ Some Ended
ended-due spent ended one two = ap
    (λ b. if b then Some Spent else (if ended then Some Ended else None)) one ∙ ap
    (λ b. if b then Some Ended else None) two

left : (net : NetPlan) (n : ℕ) (cause : LeaveCause) (alone : Bool) (old new : List RingEntry)
    (gone : Bool) → gone ≡ true →
    LeftOrStood alone net n cause old new gone → LeftRing alone net n cause old new
left net n cause alone old new true is did = did
left net n cause alone old new false is did = absurd cc

ended-at : (net : NetPlan) (n : ℕ) (done budget alone : Bool) (words : List ℕ)
    (a b c : List RingEntry) (spent ended : Bool)
    → spent ≡ (budget && is_due net (ring_after net a) n Spent)
    → LeftOrStood alone net n Spent a b spent → spent ≡ false
    → ended ≡ (done && is_due net (ring_after net b) n Ended)
    → LeftOrStood alone net n Ended b c ended → ended ≡ true
    → HandedOn alone net n done words (cause_due net (ring_after net a) n done budget) a c
ended-at net n done budget alone words a b c spent ended one did_one not_one two did_two is_two =
    let s = stood net n Spent alone a b spent not_one did_one in
    let l = left net n Ended alone b c ended is_two did_two in
    let second : (done && is_due net (ring_after net a) n Ended) ≡ true =
    ap (λ x. done && x) (sym (due-as net (ring_after net a) (ring_after net b) n Ended s.part
    s.quiet)) ∙ sym two ∙ is_two in
    let why : cause_due net (ring_after net a) n done budget ≡ Some Ended = ended-due _ _
    (sym one ∙ not_one) second in
    let all : Grew alone (is_of n) a (Leave n Ended ∷ []) c = grew-more alone (is_of n) a b c []
    (Leave n Ended ∷ []) s.grew l.grew in
    record {
      grew = subst (λ o. Grew alone (is_of n) a (last_entry n done words o ∷ []) c) (sym why) all;
      gone = λ _ _. l.gone;
      stays = λ is. let no' : Some Ended ≡ None = sym why ∙ is in absurd cc;
    }

-- the same, where the second attempt speaks of a side that stayed the same
pub ended-on : {Q : Type 0} (side side' : RingSideIs Q) (n : ℕ) (done budget alone : Bool)
    (words : List ℕ) (a b c : List RingEntry)
    (spent ended : Bool) → side' ≡ side
    → spent ≡ (budget && is_due side.net (ring_after side.net a) n Spent)
    → LeftOrStood alone side.net n Spent a b spent → spent ≡ false
    → ended ≡ (done && is_due side'.net (ring_after side'.net b) n Ended)
    → LeftOrStood alone side'.net n Ended b c ended → ended ≡ true
    → HandedOn alone side.net n done words
    (cause_due side.net (ring_after side.net a) n done budget) a c
ended-on {Q} side side' n done budget alone words a b c spent ended same one did_one not_one two
    did_two is_two =
    ended-at side.net n done budget alone words a b c spent ended one did_one not_one
    (subst (λ (s : RingSideIs Q). ended ≡ (done && is_due s.net (ring_after s.net b) n Ended)) same
    two)
    (subst (λ (s : RingSideIs Q). LeftOrStood alone s.net n Ended b c ended) same did_two) is_two

-- What a node may do on the ring while it holds the token, or has left.
use Rattle.std.proofs.Common.{◌≡◌, ◌⊎◌, ℕ, ◌+◌, ◌<◌, ◌==◌, Bool, true, false, cond, List, [], ◌∷◌}
use Rattle.std.proofs.Common.{Option, Some, None, refl, sym, ap, ◌∙◌, subst, ⊎_elim, arith}
use Rattle.std.proofs.Common.{eq-eqb}
use Rattle.std.specs.Prelude.{nat_lt}
use Rattle.std.proofs.lemmas.Bool.{cond-true, le-ltb}
use Rattle.plant_types.specs.declared.net.NetPlan.{NetPlan}
use Rattle.mstr_block.specs.declared.call.CallId.{CallId}
use Rattle.ring_core.specs.declared.frame.FrameKind.{FrameKind}
use Rattle.ring_core.specs.declared.frame.FrameKind.TheVariants.{Request, Reply}
use Rattle.ring_core.specs.declared.frame.Frame.{Frame}
use Rattle.ring_core.specs.declared.path.Await.TheVariants.{Nothing}
use Rattle.ring_core.specs.declared.refusal.RingNo.{RingNo}
use Rattle.ring_core.specs.declared.refusal.RingNo.TheVariants.{NotHolder, NothingToSend}
use Rattle.ring_core.specs.declared.refusal.RingNo.TheVariants.{NotDue, NoMemory}
use Rattle.ring_core.specs.declared.entry.LeaveCause.{LeaveCause}
use Rattle.ring_core.specs.declared.entry.LeaveCause.TheVariants.{Ended, Spent, Down}
use Rattle.ring_core.specs.declared.entry.RingEntry.{RingEntry}
use Rattle.ring_core.specs.Machine.{is_here, NodeIs, ring_node, ring_after, path_of}
use Rattle.ring_core.specs.Refusals.{or_no, turn_no, free_no, taken_no, path_no, post_no, empty_no}
use Rattle.ring_core.specs.Refusals.{send_no, unsent_no, untaken_no, boxes_no, pass_no, due_no}
use Rattle.ring_core.specs.Refusals.{leave_no, cause_held, needed_of, give_up_no, cause_boxes_no}
use Rattle.ring_core.specs.Legal.{IsLegalRing}
use Rattle.tied_lists.specs.Own.{is_of, WentOn}
use Rattle.tied_lists.specs.Waits.{Holds}
use Rattle.tied_lists.proofs.Turns.{Found, unmoved}
use Rattle.comm_port.specs.Sides.{RingSideIs}
use Rattle.comm_port.specs.Giving.{part_at, part_no}
use Rattle.comm_port.specs.Turns.{IsOwnTurn}
use Rattle.comm_port.proofs.Dues.{free-none}
use Rattle.comm_port.proofs.RingTurns.{on-still}

-- a call that nothing forbids can want memory alone
pub short-alone : (no' : Option RingNo) (why : RingNo) → no' ≡ None
    → (no' ≡ Some why) ⊎ ((why ≡ NoMemory) × (no' ≡ None)) → why ≡ NoMemory
short-alone no' why none refused = ⊎_elim
    (λ (said : no' ≡ Some why). absurd (let bad : None ≡ Some why = sym none ∙ said in cc))
    (λ (short : (why ≡ NoMemory) × (no' ≡ None)). short.0) refused

-- what others left, where the call added nothing
pub found-still : {Q : Type 0} (alone : Bool) (n : ℕ) (side : RingSideIs Q)
    (ring ring' : List RingEntry) → IsLegalRing side.net ring'
    → WentOn alone (is_of n) ring [] ring'
    → IsOwnTurn
    side ring n → Found side.net n ring ring'
found-still alone n side ring ring' legal went t = unmoved side.net n alone ring ring'
    (on-still side alone ring ring' n t legal went) went t.free

pub or-none : (a b : Option RingNo) → a ≡ None → b ≡ None → or_no a b ≡ None
or-none a b one two = ap (λ x. or_no x b) one ∙ two

turn-none : (net : NetPlan) (ring : List RingEntry) (n : ℕ) → Holds net ring n
    → turn_no (ring_after net ring) n ≡ None
turn-none net ring n h =
    let r = ring_after net ring in
    cond-true (is_here (ring_node r n)) _ _ h.here ∙ cond-true (r.holder == n) None
    (Some (NotHolder r.holder)) (eq-eqb r.holder n h.holder)

pub post-short : {Q : Type 0} (alone : Bool) (n : ℕ) (f : Frame) (side : RingSideIs Q)
    (ring ring' : List RingEntry) (why : RingNo) → IsLegalRing side.net ring'
    → WentOn alone (is_of n) ring
    [] ring' → IsOwnTurn side ring n → path_no (part_at side.net n ring) f.kind f.id.path ≡ None
    → (post_no (ring_after side.net ring') n f ≡ Some why) ⊎
    ((why ≡ NoMemory) × (post_no (ring_after side.net ring') n f ≡ None)) → why ≡ NoMemory
post-short alone n f side ring ring' why legal went t free refused =
    let found = found-still alone n side ring ring' legal went t in
    short-alone _ why (or-none (free_no (ring_after side.net ring') n)
    (path_no (part_at side.net n ring') f.kind f.id.path)
    (free-none side.net ring' n found.free)
    (ap (λ (c : NodeIs). path_no c f.kind f.id.path) found.part_is ∙ free)) refused

pub local-short : {Q : Type 0} (alone : Bool) (n : ℕ) (side : RingSideIs Q)
    (ring ring' : List RingEntry) (why : RingNo) → IsLegalRing side.net ring'
    → WentOn alone (is_of n) ring [] ring' →
    IsOwnTurn side ring n → (free_no (ring_after side.net ring') n ≡ Some why) ⊎
    ((why ≡ NoMemory) × (free_no (ring_after side.net ring') n ≡ None)) → why ≡ NoMemory
local-short alone n side ring ring' why legal went t refused =
    short-alone _ why (free-none side.net ring' n
    (found-still alone n side ring ring' legal went t).free) refused

-- both boxes are empty
boxes-none : (c : NodeIs) → c.outbox ≡ [] → c.inbox ≡ [] → boxes_no c ≡ None
boxes-none c out box = or-none (unsent_no c.outbox) (untaken_no c.inbox) (ap unsent_no out)
    (ap untaken_no box)

pass-none : (net : NetPlan) (ring : List RingEntry) (n : ℕ) → Holds net ring n
    → (part_at net n ring).outbox ≡ [] → (part_at net n ring).inbox ≡ []
    → pass_no (ring_after net ring) n ≡ None
pass-none net ring n h out box = or-none (turn_no (ring_after net ring) n)
    (boxes_no (part_at net n ring)) (turn-none net ring n h)
    (boxes-none (part_at net n ring) out box)

pub pass-short : {Q : Type 0} (alone : Bool) (n : ℕ) (side : RingSideIs Q)
    (ring ring' : List RingEntry) (why : RingNo) → IsLegalRing side.net ring'
    → WentOn alone (is_of n) ring [] ring' →
    IsOwnTurn side ring n → Holds side.net ring n → (part_at side.net n ring).outbox ≡ []
    → (part_at side.net n ring).inbox ≡ []
    → (pass_no (ring_after side.net ring') n ≡ Some why) ⊎
    ((why ≡ NoMemory) × (pass_no (ring_after side.net ring') n ≡ None)) → why ≡ NoMemory
pass-short alone n side ring ring' why legal went t h out box refused =
    let found = found-still alone n side ring ring' legal went t in
    short-alone _ why (pass-none side.net ring' n (found.holds h)
    (ap (λ (c : NodeIs). c.outbox) found.part_is ∙ out)
    (ap (λ (c : NodeIs). c.inbox) found.part_is ∙ box)) refused

-- a Leave can be too early, no more
due-early : (held needed : ℕ) (why : RingNo) → due_no held needed ≡ Some why
    → NotDue held needed ≡ why
due-early held needed why is = by (nat_lt held needed) is
  where
    by : (b : Bool) → cond b (Some (NotDue held needed)) None ≡ Some why → NotDue held needed ≡ why
    by true e = cc
    by false e = absurd (let bad : None ≡ Some why = e in cc)

boxes-empty : (cause : LeaveCause) (c : NodeIs) → c.outbox ≡ [] → c.inbox ≡ []
    → cause_boxes_no cause c ≡ None
boxes-empty Ended c out box = boxes-none c out box
boxes-empty Spent c out box = boxes-none c out box
boxes-empty (Down number) c out box = refl

first-none : (net : NetPlan) (ring : List RingEntry) (n : ℕ) (cause : LeaveCause)
    → Holds net ring n → (part_at net n ring).outbox ≡ [] → (part_at net n ring).inbox ≡ []
    → or_no (turn_no (ring_after net ring) n) (cause_boxes_no cause (part_at net n ring)) ≡ None
first-none net ring n cause h out box = or-none (turn_no (ring_after net ring) n)
    (cause_boxes_no cause (part_at net n ring)) (turn-none net ring n h)
    (boxes-empty cause (part_at net n ring) out box)

pub leave-short : {Q : Type 0} (alone : Bool) (n : ℕ) (cause : LeaveCause) (side : RingSideIs Q)
    (ring ring' : List RingEntry) (why : RingNo) → IsLegalRing side.net ring' → WentOn alone
    (is_of n) ring [] ring' → IsOwnTurn side ring n → Holds side.net ring n
    → (part_at side.net n ring).outbox ≡ [] → (part_at side.net n ring).inbox ≡ []
    → ((held needed : ℕ) → why ≡ NotDue held needed → ⊥)
    → (why ≡ NoMemory) ⊎ (leave_no side.net (ring_after side.net ring') n cause ≡ Some why)
    → why ≡ NoMemory
leave-short alone n cause side ring ring' why legal went t h out box late refused =
    let found = found-still alone n side ring ring' legal went t in
    let r = ring_after side.net ring' in
    let none = first-none side.net ring' n cause (found.holds h)
    (ap (λ (c : NodeIs). c.outbox) found.part_is ∙ out)
    (ap (λ (c : NodeIs). c.inbox) found.part_is ∙ box) in
    ⊎_elim (λ (short : why ≡ NoMemory). short)
    (λ (said : leave_no side.net r n cause ≡ Some why).
    let needed = needed_of side.net r n cause in
    let early : due_no (cause_held side.net r n cause) needed ≡ Some why = sym
    (ap (λ x. or_no x (due_no (cause_held side.net r n cause) needed)) none) ∙ said
    in
    absurd (late (cause_held side.net r n cause) needed
    (sym (due-early (cause_held side.net r n cause) needed why early))))
    refused

-- a Send can find nothing, no more
nothing-said : (box : List Frame) (why : RingNo) → empty_no box ≡ Some why → why ≡ NothingToSend
nothing-said [] why e = cc
nothing-said (f ∷ fs) why e = absurd (let bad : None ≡ Some why = e in cc)

pub send-short : {Q : Type 0} (alone : Bool) (n : ℕ) (side : RingSideIs Q)
    (ring ring' : List RingEntry) (why : RingNo) → IsLegalRing side.net ring'
    → WentOn alone (is_of n) ring [] ring' →
    IsOwnTurn side ring n → Holds side.net ring n → (why ≡ NothingToSend → ⊥)
    → (send_no (ring_after side.net ring') n ≡ Some why) ⊎
    ((why ≡ NoMemory) × (send_no (ring_after
    side.net ring') n ≡ None)) → why ≡ NoMemory
send-short alone n side ring ring' why legal went t h other refused =
    let found = found-still alone n side ring ring' legal went t in
    let r = ring_after side.net ring' in
    ⊎_elim (λ (said : send_no r n ≡ Some why).
    let empty : empty_no (ring_node r n).outbox ≡ Some why = sym
    (ap (λ x. or_no x (empty_no (ring_node r n).outbox))
    (turn-none side.net ring' n (found.holds h))) ∙ said in
    absurd (other (nothing-said (ring_node r n).outbox why empty)))
    (λ (short : (why ≡ NoMemory) × (send_no r n ≡ None)). short.0) refused

-- a path that awaits nothing is free
pub free-path-no : (c : NodeIs) (kind : FrameKind) (p : ℕ) → (path_of c p).awaits ≡ Nothing
    → path_no c kind p ≡ None
free-path-no c Request p is = ap taken_no is
free-path-no c Reply p is = refl

pub give-short : {Q : Type 0} (alone : Bool) (id : CallId) (side : RingSideIs Q)
    (ring ring' : List RingEntry) (why : RingNo) → IsLegalRing side.net ring'
    → WentOn alone (is_of id.node) ring
    [] ring' → IsOwnTurn side ring id.node
    → part_no side.net (part_at side.net id.node ring) id ≡ None
    → (give_up_no side.net (ring_after side.net ring') id ≡ Some why) ⊎
    ((why ≡ NoMemory) × (give_up_no side.net (ring_after side.net ring') id ≡ None))
    → why ≡ NoMemory
give-short alone id side ring ring' why legal went t may refused =
    let n = id.node in
    let found = found-still alone n side ring ring' legal went t in
    short-alone _ why (or-none (free_no (ring_after side.net ring') n)
    (part_no side.net (part_at side.net n ring') id) (free-none side.net ring' n found.free)
    (ap (λ (c : NodeIs). part_no side.net c id) found.part_is ∙ may)) refused

-- a Leave because power failed more often than the node left for it can want memory alone
pub down-short : {Q : Type 0} (alone : Bool) (n number : ℕ) (side : RingSideIs Q)
    (ring ring' : List RingEntry) (why : RingNo) → IsLegalRing side.net ring'
    → WentOn alone (is_of n) ring [] ring' → IsOwnTurn side ring n → Holds side.net ring n
    → (part_at side.net n ring).down < number
    → (why ≡ NoMemory) ⊎ (leave_no side.net (ring_after side.net ring') n (Down number) ≡ Some why)
    → why ≡ NoMemory
down-short alone n number side ring ring' why legal went t h more refused =
    let found = found-still alone n side ring ring' legal went t in
    let r = ring_after side.net ring' in
    let less : (part_at side.net n ring').down < number =
    subst (λ (c : NodeIs). c.down < number) (sym found.part_is) more in
    let due : due_no number (1 + (ring_node r n).down) ≡ None =
    ap (λ (b : Bool). cond b (Some (NotDue number (1 + (ring_node r n).down))) None)
    (le-ltb number (1 + (ring_node r n).down) (omega (arith, less))) in
    let none : leave_no side.net r n (Down number) ≡ None =
    or-none (or_no (turn_no r n) None) _ (or-none (turn_no r n) None
    (turn-none side.net ring' n (found.holds h)) refl) due in
    ⊎_elim (λ (short : why ≡ NoMemory). short)
    (λ (said : leave_no side.net r n (Down number) ≡ Some why).
    absurd (let bad : None ≡ Some why = sym none ∙ said in cc)) refused

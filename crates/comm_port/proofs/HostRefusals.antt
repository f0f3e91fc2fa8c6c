-- A host's turn meets no refusal but want of memory.
use Rattle.std.proofs.Common.{◌≡◌, ◌⊎◌, ◌==◌, ℕ, Bool, true, false, List, [], ◌∷◌, Option, Some}
use Rattle.std.proofs.Common.{None}
use Rattle.std.proofs.Common.{refl, sym, ap, ◌∙◌, ⊎_elim, eq-eqb}
use Rattle.std.specs.Prelude.{if◌then◌else◌}
use Rattle.ring_core.specs.Legal.{IsLegalRing}
use Rattle.ring_core.specs.Words.{frame_route}
use Rattle.ring_core.specs.Machine.{is_here, NodeIs, path_of, ring_after, ring_node, RingIs}
use Rattle.ring_core.specs.Refusals.{or_no, path_no, post_no, taken_no, turn_no}
use Rattle.ring_core.specs.declared.refusal.RingNo.{RingNo}
use Rattle.ring_core.specs.declared.refusal.RingNo.TheVariants.{NoMemory, NotHolder, NotMember}
use Rattle.ring_core.specs.declared.frame.FrameKind.{FrameKind}
use Rattle.ring_core.specs.declared.frame.FrameKind.TheVariants.{Request}
use Rattle.ring_core.specs.declared.frame.Frame.{Frame}
use Rattle.ring_core.specs.declared.path.Await.{Await}
use Rattle.ring_core.specs.declared.path.Await.TheVariants.{Nothing, Out, Arrived, Failed}
use Rattle.ring_core.specs.declared.entry.RingEntry.{RingEntry}
use Rattle.host_port.specs.declared.entry.HostEntry.TheVariants.{Ask}
use Rattle.host_port.specs.Host.{HostIs, HostWentOn}
use Rattle.host_port.proofs.OpenRequests.{open_requests}
use Rattle.tied_lists.specs.Own.{is_of, own, WentOn}
use Rattle.tied_lists.specs.Waits.{AwaitsThis, Holds, waiting}
use Rattle.tied_lists.proofs.Histories.{legal-follows}
use Rattle.tied_lists.proofs.Turns.{part, unmoved}
use Rattle.comm_port.specs.Sides.{RingSideIs}
use Rattle.comm_port.specs.Turns.{IsOwnTurn}
use Rattle.comm_port.specs.HostTurns.{HostTurning}
use Rattle.comm_port.proofs.HostAsks.{ask-legal}
use Rattle.comm_port.proofs.HostRuns.{free-none}
use Rattle.comm_port.proofs.RingTurns.{on-still}

-- a call that nothing stands against was refused for want of memory
pub only-short : (no' : Option RingNo) (why : RingNo) → no' ≡ None
    → (no' ≡ Some why) ⊎ ((why ≡ NoMemory) × (no' ≡ None)) → why ≡ NoMemory
only-short no' why none refused = ⊎_elim
    (λ (e : no' ≡ Some why). absurd (let wrong : Some why ≡ None = sym e ∙ none in cc))
    (λ (e : (why ≡ NoMemory) × (no' ≡ None)). e.0) refused

turn-none : (r : RingIs) (here holds : Bool) → here ≡ true → holds ≡ true
    → (if here then (if holds then None else Some (NotHolder r.holder)) else Some NotMember) ≡ None
turn-none r true true h k = refl
turn-none r true false h k = absurd (cc)
turn-none r false b h k = absurd (cc)

-- a Take by who holds the token
pub take-short : {Q : Type 0} (alone : Bool) (n : ℕ) (side : RingSideIs Q)
    (ring ring' : List RingEntry) (why : RingNo) → IsOwnTurn side ring n
    → Holds side.net ring n → IsLegalRing side.net ring' → WentOn alone (is_of n) ring [] ring'
    → (turn_no (ring_after side.net ring') n ≡ Some why) ⊎
    ((why ≡ NoMemory) × (turn_no (ring_after side.net ring') n ≡ None)) → why ≡ NoMemory
take-short alone n side ring ring' why t holds legal went refused =
    let found = unmoved side.net n alone ring ring' (on-still side alone ring ring' n t legal went)
    went t.free in
    let h = found.holds holds in
    let r = ring_after side.net ring' in
    only-short (turn_no r n) why (turn-none r (is_here (ring_node r n)) (r.holder == n) h.here
    (eq-eqb r.holder n h.holder)) refused

none-awaits : (a : Await) (w : Option Frame) → w ≡ None → AwaitsThis a w → a ≡ Nothing
none-awaits Nothing w is this = refl
none-awaits (Out s to onward passes) None is this = absurd this
none-awaits (Arrived s) None is this = absurd this
none-awaits (Failed s word) None is this = absurd this
none-awaits (Out s to onward passes) (Some f) is this = absurd (cc)
none-awaits (Arrived s) (Some f) is this = absurd (cc)
none-awaits (Failed s word) (Some f) is this = absurd (cc)

-- a Post of the next request of a host
pub post-short : {Q : Type 0} (alone : Bool) (n : ℕ) (f : Frame) (old new : HostIs)
    (side : RingSideIs Q) (ring ring' : List RingEntry) (why : RingNo)
    → HostTurning n old side ring → f.kind ≡ Request
    → HostWentOn (Ask f.id (frame_route f) f.pdu ∷ []) old new
    → IsLegalRing side.net ring'
    → WentOn alone (is_of n) ring [] ring' → (post_no (ring_after side.net ring') n f ≡ Some why)
    ⊎ ((why ≡ NoMemory) × (post_no (ring_after side.net ring') n f ≡ None)) → why ≡ NoMemory
post-short alone n f old new side ring ring' why t kind w legal went refused =
    let net = side.net in
    let p = f.id.path in
    let found = unmoved net n alone ring ring'
    (on-still side alone ring ring' n t.own_turn legal went)
    went t.own_turn.free in
    let call = open_requests.new old.plan old.history f.id (frame_route f) f.pdu
    (ask-legal old new f w) in
    let follows = (legal-follows net ring n t.own_turn.on).node.part in
    let awaits : (path_of (part net ring n) p).awaits ≡ Nothing =
    none-awaits (path_of (part net ring n) p).awaits (waiting p (own n ring))
    (t.paths.waits p ∙ call.free) (follows.paths p) in
    let free' : path_no (part net ring' n) f.kind p ≡ None = ap
    (λ (k : FrameKind). path_no (part net ring' n) k p) kind
    ∙ ap (λ (c : NodeIs). taken_no (path_of c p).awaits) found.part_is ∙ ap taken_no awaits in
    let all : post_no (ring_after net ring') n f ≡ None =
    ap (λ (o : Option RingNo). or_no o (path_no (part net ring' n) f.kind p))
    (free-none net ring' n found.free) ∙ free' in
    only-short (post_no (ring_after net ring') n f) why all refused

-- What giving back and sending on leave of both lists.
use Rattle.std.proofs.Common.{◌≡◌, ◌≢◌, ℕ, ◌≤◌, Bool, true, List, [], ◌∷◌, Option, Some}
use Rattle.std.proofs.Common.{option_map, refl, sym, ap, subst}
use Rattle.std.specs.List.{cons_option}
use Rattle.plant_types.specs.declared.net.BridgePlan.{BridgePlan}
use Rattle.plant_types.specs.declared.net.NetPlan.{NetPlan}
use Rattle.mstr_block.specs.declared.call.CallId.{CallId}
use Rattle.bridge_relay.specs.declared.entry.BridgeEntry.{BridgeEntry}
use Rattle.bridge_relay.specs.declared.entry.BridgeEntry.TheVariants.{Back, Forward}
use Rattle.bridge_relay.specs.Bridge.{IsForwarded, IsGivenBack, frame_made}
use Rattle.bridge_relay.specs.Laws.{is_by}
use Rattle.bridge_relay.specs.Legal.{IsBridgeHistory, due_back, due_forward}
use Rattle.ring_core.specs.Legal.{IsFrom, IsLegalRing}
use Rattle.ring_core.specs.Machine.{posted}
use Rattle.ring_core.specs.Words.{frame_route}
use Rattle.ring_core.specs.declared.frame.FrameKind.{FrameKind}
use Rattle.ring_core.specs.declared.frame.FrameKind.TheVariants.{Request}
use Rattle.ring_core.specs.declared.frame.Frame.{Frame}
use Rattle.ring_core.specs.declared.entry.RingEntry.{RingEntry}
use Rattle.ring_core.specs.declared.entry.RingEntry.TheVariants.{Post}
use Rattle.tied_lists.specs.Own.{Grew, WentOn, is_of}
use Rattle.tied_lists.specs.Items.{Items}
use Rattle.tied_lists.proofs.Growth.{grew-one}
use Rattle.tied_lists.proofs.Turns.{after-post, part}
use Rattle.comm_port.specs.Parts.{PartOf}
use Rattle.comm_port.specs.Sides.{RingSideIs}
use Rattle.comm_port.specs.Turns.{IsOwnTurn, KeepsInbox}
use Rattle.comm_port.proofs.RingTurns.{kept-post, mine, own-moved, own-on}
use Rattle.bridge_port.specs.EndParts.{AreForwarded}
use Rattle.bridge_port.specs.EndTurns.{EndTurning}
use Rattle.comm_port.specs.JointHistory.{backs_of, side_items}
use Rattle.bridge_port.specs.Sides.{BridgeSideIs, MakesDue}
use Rattle.bridge_port.proofs.Across.{legal-front}
use Rattle.bridge_port.proofs.Lists.{items-still, mine-one}
use Rattle.bridge_port.proofs.Names.{accepted-other, answers_named}
use Rattle.bridge_port.proofs.Owed.{due-accepted}
use Rattle.bridge_port.proofs.Posted.{MayCall, due-front, frame-of, may-call, went-due}

-- ---- a reply

abbrev pub MakesBack : Bool → BridgePlan → ℕ → List BridgeEntry → List BridgeEntry → Option Frame
    → Type 0
MakesBack alone plan n list list' o = MakesDue alone n (λ past. due_back plan past n)
    (λ past f. IsGivenBack plan past n f) list list' o

-- what was given back
pub record GaveBack (alone : Bool) (n : ℕ) (list list' : List BridgeEntry) (reply : Frame)
    : Type 0 where
  pub went : WentOn alone (is_by n) list (Back n reply.id reply.pdu ∷ []) list'
  pub accepted : 1 ≤ answers_named reply.id (side_items n list).answers

pub gave-back : {P Q : Type 0} (alone : Bool) (n : ℕ) (bridge : BridgeSideIs P)
    (list list' : List BridgeEntry) (side : RingSideIs Q) (ring : List RingEntry)
    (o : Option Frame) (reply : Frame) → o ≡ Some reply → MakesBack alone bridge.plan n list list' o
    → IsBridgeHistory bridge.plan list' → EndTurning n bridge list side ring
    → GaveBack alone n list list' reply
gave-back alone n bridge list list' side ring o reply is m legal t =
    let plan = bridge.plan in
    let e : BridgeEntry = Back n reply.id reply.pdu in
    let given = frame-of alone n (λ past. due_back plan past n)
    (λ past f. IsGivenBack plan past n f) list list' o reply is m in
    let front = due-front alone n (λ past. due_back plan past n)
    (λ past f. IsGivenBack plan past n f) list list' o e m given.due in
    let before = legal-front plan m.past (e ∷ []) (subst (IsBridgeHistory plan) front legal) in
    record {
      went = went-due alone n (λ past. due_back plan past n)
          (λ past f. IsGivenBack plan past n f) list list' o e m given.due;
      accepted = subst (λ (a : Items). 1 ≤ answers_named reply.id a.answers)
          (items-still alone n list m.past m.went)
          (due-accepted plan n m.past reply.id reply.pdu t.is_open.end before given.due);
    }

-- it goes to another node
pub back-other : {P Q : Type 0} (alone : Bool) (n : ℕ) (bridge : BridgeSideIs P)
    (list list' : List BridgeEntry) (side : RingSideIs Q) (ring : List RingEntry) (reply : Frame)
    → GaveBack alone n list list' reply → EndTurning n bridge list side ring
    → reply.id.node ≢ n
back-other alone n bridge list list' side ring reply gave t =
    accepted-other side.net ring n reply.id (side_items n list) (backs_of n list) t.own_turn.on
    t.tied gave.accepted

-- ---- a request

abbrev pub MakesForward : Bool → BridgePlan → ℕ → List BridgeEntry → List BridgeEntry
    → Option Frame → Type 0
MakesForward alone plan n list list' o = MakesDue alone n (λ past. due_forward plan past n)
    (λ past f. IsForwarded plan past n f) list list' o

-- what was sent on
pub record SentOn {Q : Type 0} (alone : Bool) (n : ℕ) (plan : BridgePlan)
    (list list' : List BridgeEntry) (side : RingSideIs Q) (ring : List RingEntry)
    (request : Frame) : Type 0 where
  pub past : List BridgeEntry
  pub from : IsFrom n request.kind request
  pub may : MayCall n list past plan (part side.net ring n) request
  pub went : WentOn alone (is_by n) list
      (Forward n may.old request.id (frame_route request) request.pdu ∷ []) list'

pub sent-on : {P Q : Type 0} (alone : Bool) (n : ℕ) (bridge : BridgeSideIs P)
    (list list' : List BridgeEntry) (side : RingSideIs Q) (ring : List RingEntry)
    (o : Option Frame) (request : Frame) → o ≡ Some request
    → MakesForward alone bridge.plan n list list' o
    → IsBridgeHistory bridge.plan list' → EndTurning n bridge list side ring
    → SentOn alone n bridge.plan list list' side ring request
sent-on alone n bridge list list' side ring o request is m legal t =
    let plan = bridge.plan in
    let given = frame-of alone n (λ past. due_forward plan past n)
    (λ past f. IsForwarded plan past n f) list list' o request is m in
    let e : BridgeEntry = Forward n given.old request.id (frame_route request) request.pdu in
    let front = due-front alone n (λ past. due_forward plan past n)
    (λ past f. IsForwarded plan past n f) list list' o e m given.due in
    let before = legal-front plan m.past (e ∷ []) (subst (IsBridgeHistory plan) front legal) in
    let may = may-call alone n bridge list m.past side ring request m.went before given t in
    record {
      past = m.past;
      from = subst (λ (k : FrameKind). IsFrom n k request) (sym given.kind) given.from;
      may = may;
      went = went-due alone n (λ past. due_forward plan past n)
          (λ past f. IsForwarded plan past n f) list list' o
          (Forward n may.old request.id (frame_route request) request.pdu) m may.due;
    }

-- what its Post leaves at the ring
pub record CallPosted (alone : Bool) (net : NetPlan) (n : ℕ) (f : Frame)
    (ring ring' : List RingEntry) : Type 0 where
  pub grew : Grew alone (is_of n) ring (Post n f ∷ []) ring'
  pub kept : KeepsInbox net n ring ring'
  pub node_is : part net ring' n ≡ posted (part net ring n) f

pub call-posted : {Q : Type 0} (alone : Bool) (n : ℕ) (f : Frame) (side : RingSideIs Q)
    (ring ring' : List RingEntry) → IsOwnTurn side ring n → IsLegalRing side.net ring'
    → WentOn alone (is_of n) ring (Post n f ∷ []) ring' → CallPosted alone side.net n f ring ring'
call-posted alone n f side ring ring' turn legal went =
    let m = own-moved side alone n ring (Post n f) ring' refl turn legal went in
    let on = own-on side alone n ring (Post n f) ring' turn legal went in
    record {
      grew = grew-one alone (is_of n) ring (Post n f ∷ []) ring' (mine n (Post n f) refl) went;
      kept = kept-post side.net n ring ring' f on m;
      node_is = (after-post side.net n ring f ring' m).part_is;
    }

forwarded-frame : (n : ℕ) (old : CallId) (f : Frame)
    → f.kind ≡ Request → frame_made (Forward n old f.id (frame_route f) f.pdu) ≡ Some f
forwarded-frame n old f kind =
    λ i. Some (record { kind = sym kind i; to = f.to; rest = f.rest; id = f.id; pdu = f.pdu })

pub forwarded-one : (alone alone' : Bool) (n : ℕ)
    (old : CallId) (f : Frame)
    (list list' : List BridgeEntry) (ring ring' : List RingEntry) → f.kind ≡ Request
    → WentOn alone (is_by n) list (Forward n old f.id (frame_route f) f.pdu ∷ []) list'
    → Grew alone' (is_of n) ring (Post n f ∷ []) ring'
    → PartOf alone alone' (is_by n) n (AreForwarded true n) list list' ring ring'
forwarded-one alone alone' n old f list list' ring ring' kind went grew =
    let e : BridgeEntry = Forward n old f.id (frame_route f) f.pdu in
    record {
      noted = e ∷ [];
      done = Post n f ∷ [];
      due = (
        (
          (tt, tt),
          ap (λ (o : Option Frame). cons_option (option_map (Post n) o) [])
              (sym (forwarded-frame n old f kind)),
        ),
        refl,
      );
      station = grew-one alone (is_by n) list (e ∷ []) list' (mine-one n e refl) went;
      node = grew;
    }

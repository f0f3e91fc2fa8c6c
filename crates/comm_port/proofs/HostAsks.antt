-- What a host's asks and give-ups leave.
use Rattle.std.proofs.Common.{◌≡◌, ℕ, ◌+◌, ◌<◌, ◌≤◌, Bool, true, false, List, []}
use Rattle.std.proofs.Common.{◌∷◌, ◌++◌, length, Option, Some, None, Ok, refl, sym, ap}
use Rattle.std.proofs.Common.{subst, ◌∙◌, inr, append-nil, arith}
use Rattle.std.specs.Prelude.{IfSome, is_some}
use Rattle.plant_types.specs.declared.net.NetPlan.{NetPlan}
use Rattle.std.proofs.lemmas.List.{length_push}
use Rattle.std.proofs.lemmas.Option.{slice_get_within}
use Rattle.plant_types.specs.declared.net.HostAsk.{HostAsk}
use Rattle.plant_types.specs.declared.net.HostPlan.{HostPlan}
use Rattle.mstr_block.specs.declared.call.CallId.{CallId}
use Rattle.ring_core.specs.declared.frame.FrameKind.TheVariants.{Request}
use Rattle.ring_core.specs.declared.frame.Frame.{Frame}
use Rattle.ring_core.specs.declared.path.Await.{Await}
use Rattle.ring_core.specs.declared.path.Await.TheVariants.{Nothing, Out, Arrived, Failed}
use Rattle.ring_core.specs.declared.entry.RingEntry.{RingEntry}
use Rattle.ring_core.specs.declared.entry.RingEntry.TheVariants.{Post, Send, GiveUp, Pass, Leave}
use Rattle.ring_core.specs.declared.entry.Heard.{Heard}
use Rattle.ring_core.specs.declared.entry.LeaveCause.{LeaveCause}
use Rattle.ring_core.specs.Legal.{IsFrom, IsLegalRing, IsNextNumber}
use Rattle.ring_core.specs.Words.{frame_route, request_along}
use Rattle.ring_core.specs.Machine.{NodeIs, awaited_number, path_of, ring_after, ring_node}
use Rattle.host_port.specs.declared.entry.HostEntry.{HostEntry}
use Rattle.host_port.specs.declared.entry.HostEntry.TheVariants.{Ask, Answer}
use Rattle.host_port.specs.declared.entry.HostResult.TheVariants as results
use Rattle.host_port.specs.Calls.{asked_on, is_unanswered, requests_in}
use Rattle.host_port.specs.Host.{HostIs, HostWentOn, due_ask, due_request, entry_asked, if_due}
use Rattle.host_port.specs.Host.{next_ask, request_for}
use Rattle.host_port.specs.Legal.{IsHostHistory}
use Rattle.host_port.proofs.OpenRequests.{open_requests}
use Rattle.host_port.proofs.Unanswered.{requests_ask}
use Rattle.tied_lists.specs.Own.{is_of, own, Grew, WentOn}
use Rattle.tied_lists.specs.Items.{AHost, Items, Called, OverNet, with_calls, with_end, Lacked}
use Rattle.tied_lists.specs.Tied.{Tied, TiedBut}
use Rattle.tied_lists.specs.Waits.{has_left, AwaitsThis, HasLeft, Holds, waiting}
use Rattle.tied_lists.proofs.Growth.{grew-ours}
use Rattle.tied_lists.proofs.Histories.{legal-follows}
use Rattle.tied_lists.proofs.Steps.{tied-all, tied-called, tied-given_up, tied-none, tied-posted}
use Rattle.tied_lists.proofs.Steps.{tied-quiet}
use Rattle.tied_lists.proofs.Turns.{unmoved}
use Rattle.comm_port.specs.Sides.{RingSideIs}
use Rattle.joint_history.specs.Reading.{host_items_of}
use Rattle.comm_port.specs.Giving.{IsAtRest}
use Rattle.comm_port.specs.Turns.{IsOwnTurn, KeepsInbox}
use Rattle.comm_port.specs.Sending.{AllSent, GaveUp, SentNext, SentOrAll, sends_left, sends_of}
use Rattle.comm_port.specs.Leaving.{HandedOn, IsHere, last_entry}
use Rattle.comm_port.specs.HostTurns.{asks_left, EndsWithPass, HostTies, HostTurning, PathsAgree}
use Rattle.comm_port.proofs.HostLists.{agree_asked, agree_given_up, agree_still}
use Rattle.comm_port.proofs.HostLists.{made_net}
use Rattle.comm_port.proofs.HostTurning.{items-now, legal-with, own-turn, turning-still}
use Rattle.comm_port.proofs.Leaves.{IsQuietCause, handed-on, handed-ends}
use Rattle.comm_port.proofs.Sends.{kept-found}
use Rattle.comm_port.proofs.Through.{rest-through}
use Rattle.comm_port.proofs.RingTurns.{kept-both, kept-post, on-still, own-on, own-moved}

-- ---- an Ask

-- what is due is a Request, the next of the plan
pub record IsNextDue (v : HostIs) (f : Frame) : Type 0 where
  pub kind : f.kind ≡ Request
  pub within : length (requests_in v.history) < length v.plan.requests

due-ask : (v : HostIs) (hold : ℕ) (o : Option HostAsk) (ask : HostAsk) → next_ask v ≡ o
    → if_due hold o ≡ Some ask → length
    (requests_in v.history) < length v.plan.requests
due-ask v hold None ask is due = absurd cc
due-ask v hold (Some x) ask is due = slice_get_within v.plan.requests
    (length (requests_in v.history)) x is

due-of : (v : HostIs) (hold : ℕ) (call : Option CallId) (o : Option HostAsk) (f : Frame)
    → due_ask v hold ≡ o → Some f ≡ request_for call o → IsNextDue v f
due-of v hold None None f is due = absurd cc
due-of v hold None (Some ask) f is due = absurd cc
due-of v hold (Some id) None f is due = absurd cc
due-of v hold (Some id) (Some ask) f is due =
    let same : f ≡ request_along id ask.route ask.pdu = cc in
    record {
      kind = ap (λ (g : Frame). g.kind) same;
      within = due-ask v hold (next_ask v) ask refl
          is;
    }

pub due-frame : (v : HostIs) (hold : ℕ) (f : Frame) → Some f ≡ due_request v hold → IsNextDue v f
due-frame v hold f is = due-of v hold _ (due_ask v hold) f refl is

pub due-kind : (v : HostIs) (hold : ℕ) (f : Frame) → Some f ≡ due_request v hold → f.kind ≡ Request
due-kind v hold f is = (due-frame v hold f is).kind

-- the host's list behind it
pub ask-legal : (old new : HostIs) (f : Frame)
    → HostWentOn (Ask f.id (frame_route f) f.pdu ∷ []) old new → IsHostHistory old.plan
    (old.history ++ Ask f.id (frame_route f) f.pdu ∷ [])
ask-legal old new f w = legal-with old new (Ask f.id (frame_route f) f.pdu) w

pub ask-next : {Q : Type 0} (n : ℕ) (f : Frame) (old new : HostIs) (side : RingSideIs Q)
    (ring : List RingEntry) → HostTurning n
    old side ring → f.kind ≡ Request
    → HostWentOn (Ask f.id (frame_route f) f.pdu ∷ []) old new
    → IsNextNumber (ring_node (ring_after side.net ring) n) f.kind f.id
ask-next n f old new side ring t kind w =
    let call = open_requests.new old.plan old.history f.id (frame_route f) f.pdu
    (ask-legal old new f w) in
    let part = (legal-follows side.net ring n t.own_turn.on).node.part in
    let range = call.is_path in
    let low = range.1 in
    let posted = part.numbers f.id.path (omega arith) ∙ t.paths.numbers f.id.path in
    let seq : f.id.seq ≡ asked_on old.history f.id.path + 1 = ap (λ (i : CallId). i.seq) call.name
    in
    subst (λ k. IsNextNumber (ring_node (ring_after side.net ring) n) k f.id) (sym kind)
    (omega (arith, posted, seq))

pub turning-asked : {Q : Type 0} (alone : Bool) (n : ℕ) (f : Frame) (old new : HostIs)
    (side : RingSideIs Q) (ring ring' : List
    RingEntry) → HostTurning n old side ring → f.kind ≡ Request
    → HostWentOn (Ask f.id (frame_route f) f.pdu ∷ []) old new
    → WentOn alone (is_of n) ring (Post n f ∷ []) ring' → IsLegalRing side.net ring' →
    HostTurning n new side ring' × KeepsInbox side.net n ring ring'
turning-asked alone n f old new side ring ring' t kind w went legal =
    let e : HostEntry = Ask f.id (frame_route f) f.pdu in
    let call : Called = record { id = f.id; sort = OverNet (frame_route f) f.pdu } in
    let m = own-moved side alone n ring (Post n f) ring' refl t.own_turn legal went in
    let on = own-on side alone n ring (Post n f) ring' t.own_turn legal went in
    let kept = kept-post side.net n ring ring' f on m in
    let tied = tied-all AHost _ _ (tied-posted AHost [] call _ _ n f kind refl
    (tied-called AHost (call ∷ [])
    (host_items_of old.history) (own n ring) t.tied)) in
    let paths = agree_asked old.plan old.history (own n ring) n f kind (ask-legal old new f w)
    t.paths in (
      record {
        node = ap (λ (p : HostPlan). p.node) w.plan ∙ t.node;
        legal = w.legal;
        own_turn = own-turn side ring ring' n t.own_turn legal kept;
        tied = subst (λ a. Tied AHost a (own n ring')) (sym (items-now old new e w))
            (subst (Tied AHost (with_calls (host_items_of old.history) (call ∷ []))) (sym m.own_is)
            tied);
        paths = subst (λ h. PathsAgree h (own n ring')) (sym w.history)
            (subst (PathsAgree (old.history ++ e ∷ [])) (sym m.own_is) paths);
      },
      kept,
    )

pub fewer-asks : (old new : HostIs) (f : Frame) (hold : ℕ) → Some f ≡ due_request old hold
    → HostWentOn (Ask f.id (frame_route f) f.pdu ∷ [])
    old new → asks_left new < asks_left old
fewer-asks old new f hold is w =
    let d = (due-frame old hold f is).within in
    let more : length (requests_in new.history) ≡ length (requests_in old.history) + 1 =
    ap (λ h. length (requests_in h)) w.history ∙ ap length
    (requests_ask old.history f.id (frame_route f) f.pdu)
    ∙ length_push (requests_in old.history) _ in
    let plan : length new.plan.requests ≡ length old.plan.requests = ap
    (λ (p : HostPlan). length p.requests) w.plan in
    omega arith

-- ---- a GiveUp

awaited : (seq : ℕ) (a : Await) (w : Option Frame) → awaited_number a ≡ seq → (seq ≡ 0 → ⊥)
    → AwaitsThis a w → (f : Frame) × (w ≡ Some f) × (f.id.seq ≡ seq)
awaited seq Nothing w is some this = absurd (some (sym is))
awaited seq (Out s to onward passes) None is some this = absurd this
awaited seq (Arrived s) None is some this = absurd this
awaited seq (Failed s word) None is some this = absurd this
awaited seq (Out s to onward passes) (Some f) is some this = (f, refl, sym this ∙ is)
awaited seq (Arrived s) (Some f) is some this = (f, refl, sym this ∙ is)
awaited seq (Failed s word) (Some f) is some this = (f, refl, sym this ∙ is)

-- what a path awaits is a call of the host that is out
pub awaited-out : {Q : Type 0} (n p seq : ℕ) (host : HostIs) (side : RingSideIs Q)
    (ring : List RingEntry) → HostTurning n host side ring
    → seq ≡ awaited_number (path_of (ring_node (ring_after side.net ring) n) p).awaits
    → (seq ≡ 0 → ⊥)
    → is_unanswered host.history (record { node = n; path = p; seq = seq }) ≡ true
awaited-out n p seq host side ring t is some =
    let part = (legal-follows side.net ring n t.own_turn.on).node.part in
    let found = awaited seq (path_of (ring_node (ring_after side.net ring) n) p).awaits
    (waiting p (own n ring)) (sym is) some (part.paths p) in
    let ask = part.asks p found.0 found.1 in
    let there = open_requests.last host.plan host.history p found.0 t.legal
    (sym (t.paths.waits p) ∙ found.1) in
    let same : found.0.id ≡ record { node = n; path = p; seq = seq } = λ i. record
    { node = ask.node i; path = ask.path i; seq = found.2 i } in
    subst (λ (id : CallId). is_unanswered host.history id ≡ true) same there.out

pub turning-gave : {Q : Type 0} (alone : Bool) (id : CallId) (word : ℕ) (old new : HostIs)
    (side : RingSideIs Q) (ring ring' :
    List RingEntry) → HostTurning id.node old side ring
    → is_unanswered old.history id ≡ true → HostWentOn (Answer id (results.Bad word) ∷ []) old new
    → GaveUp alone side.net id ring
    ring' (Some word) → IsLegalRing side.net ring' → HostTurning id.node new side ring'
turning-gave alone id word old new side ring ring' t out w gave legal =
    let n = id.node in
    let e : HostEntry = Answer id (results.Bad word) in
    let own_is : own n ring' ≡ own n ring ++ GiveUp id word ∷ [] = grew-ours alone (is_of n) ring
    (GiveUp id word ∷ []) ring' gave.grew in
    let tied = tied-all AHost _ _ (tied-given_up AHost [] (host_items_of old.history) (own n ring)
    id word (made_net old.history
    id out) (tied-none AHost _ _ t.tied)) in
    let paths = agree_given_up old.plan old.history (own n ring) id word (results.Bad word)
    (legal-with old new e w) t.paths in
    record {
      node = ap (λ (p : HostPlan). p.node) w.plan ∙ t.node;
      legal = w.legal;
      own_turn = own-turn side ring ring' n t.own_turn legal gave.kept;
      tied = subst (λ a. Tied AHost a (own n ring')) (sym (items-now old new e w))
          (subst (Tied AHost (with_end (host_items_of old.history) id (Lacked word))) (sym own_is)
          tied);
      paths = subst (λ h. PathsAgree h (own n ring')) (sym w.history)
          (subst (PathsAgree (old.history ++ e ∷ [])) (sym own_is) paths);
    }

-- nothing was given up
pub turning-grew : {Q : Type 0} (alone : Bool) (n : ℕ) (host : HostIs) (side : RingSideIs Q)
    (ring ring' : List RingEntry) →
    HostTurning n host side ring → Grew alone (is_of n) ring [] ring'
    → KeepsInbox side.net n ring ring' → IsLegalRing side.net ring' → HostTurning n host side ring'
turning-grew alone n host side ring ring' t grew kept legal =
    let same : own n ring' ≡ own n ring = grew-ours alone (is_of n) ring [] ring' grew ∙ append-nil
    (own n ring) in
    record {
      node = t.node;
      legal = t.legal;
      own_turn = own-turn side ring ring' n t.own_turn legal kept;
      tied = subst (Tied AHost (host_items_of host.history)) (sym same) t.tied;
      paths = subst (PathsAgree host.history) (sym same) t.paths;
    }

-- ---- one step of giving up, behind a look at the ring

pub record Looked {Q : Type 0} (alone : Bool) (n : ℕ) (host : HostIs) (side : RingSideIs Q)
    (ring ring' : List RingEntry) : Type 0 where
  pub turning : HostTurning n host side ring'
  pub kept : KeepsInbox side.net n ring ring'
  pub less : sends_left side.net ring' n ≤ sends_left side.net ring n
  pub left : HasLeft side.net ring n → HasLeft side.net ring' n

pub looked : {Q : Type 0} (alone : Bool) (n : ℕ) (host : HostIs) (side : RingSideIs Q)
    (ring ring' : List RingEntry) → IsLegalRing
    side.net ring' → WentOn alone (is_of n) ring [] ring'
    → HostTurning n host side ring → Looked alone n host side ring ring'
looked alone n host side ring ring' legal went t =
    let on = on-still side alone ring ring' n t.own_turn legal went in
    let found = unmoved side.net n alone ring ring' on went t.own_turn.free in
    let same : sends_left side.net ring' n ≡ sends_left side.net ring n = ap sends_of found.part_is
    in
    record {
      turning = turning-still alone n host side ring ring' legal went t;
      kept = kept-found side.net n ring ring' on found;
      less = omega arith;
      left = λ gone. ap (λ (c : NodeIs). has_left c.status) found.part_is ∙ gone;
    }

pub turn-at : {Q : Type 0} (n : ℕ) (side side' : RingSideIs Q) (ring : List RingEntry)
    → side' ≡ side → IsOwnTurn side ring n → IsOwnTurn side' ring n
turn-at {Q} n side side' ring same t = subst (λ (s : RingSideIs Q). IsOwnTurn s ring n) (sym same) t

pub gave-at : {Q : Type 0} (alone : Bool) (id : CallId) (side side' : RingSideIs Q)
    (ring ring' : List RingEntry) (o o' : Option ℕ) →
    side' ≡ side → o ≡ o' → GaveUp alone side'.net id ring ring' o
    → GaveUp alone side.net id ring ring' o'
gave-at {Q} alone id side side' ring ring' o o' same is gave =
    subst (λ (s : RingSideIs Q). GaveUp alone s.net id ring ring' o') same
    (subst (GaveUp alone side'.net id ring ring') is gave)

pub gave-none : {Q : Type 0} (alone : Bool) (id : CallId) (o : Option ℕ) (host : HostIs)
    (side side' : RingSideIs Q) (a b c : List
    RingEntry) → Looked alone id.node host side a b → side' ≡ side
    → GaveUp alone side'.net id b c o → o ≡ None → IsLegalRing side'.net c
    → Looked alone id.node host side a c
gave-none {Q} alone id o host side side' a b c l same gave is legal' =
    let g = gave-at alone id side side' b c o None same is gave in
    let legal = subst (λ (s : RingSideIs Q). IsLegalRing s.net c) same legal' in
    record {
      turning = turning-grew alone id.node host side b c l.turning g.grew g.kept legal;
      kept = kept-both side.net id.node a b c l.kept g.kept;
      less = let x = g.less in let y = l.less in omega arith;
      left = λ gone. g.left (l.left gone);
    }

pub gave-some : {Q : Type 0} (alone : Bool) (id : CallId) (o : Option ℕ) (word : ℕ)
    (old new : HostIs) (side side' : RingSideIs Q)
    (a b c : List RingEntry) → Looked alone id.node old side a b → side' ≡ side
    → GaveUp alone side'.net id b c o → o ≡ Some word → IsLegalRing side'.net c
    → is_unanswered old.history id ≡ true → HostWentOn
    (Answer id (results.Bad word) ∷ []) old new → Looked alone id.node new side a c
gave-some {Q} alone id o word old new side side' a b c l same gave is legal' out w =
    let g = gave-at alone id side side' b c o (Some word) same is gave in
    let legal = subst (λ (s : RingSideIs Q). IsLegalRing s.net c) same legal' in
    record {
      turning = turning-gave alone id word old new side b c l.turning out w g legal;
      kept = kept-both side.net id.node a b c l.kept g.kept;
      less = let x = g.less in let y = l.less in omega arith;
      left = λ gone. g.left (l.left gone);
    }

-- ---- what an ask answered

pub went-some : (o : Option Frame) (f : Frame) (old new : HostIs) → o ≡ Some f
    → HostWentOn (entry_asked {E = ℕ} (Ok o)) old new →
    HostWentOn (Ask f.id (frame_route f) f.pdu ∷ []) old new
went-some o f old new is w = subst
    (λ (x : Option Frame). HostWentOn (entry_asked {E = ℕ} (Ok x)) old new) is w

pub from-some : (n : ℕ) (o : Option Frame) (f : Frame) → o ≡ Some f → IfSome o (IsFrom n Request)
    → IsFrom n Request f
from-some n o f is from = subst (λ (x : Option Frame). IfSome x (IsFrom n Request)) is from

-- ---- a Send

pub turning-sent : {Q : Type 0} (alone : Bool) (n : ℕ) (heard : Heard) (host : HostIs)
    (side : RingSideIs Q) (ring ring' : List
    RingEntry) → HostTurning n host side ring → SentNext alone side.net n heard ring ring'
    → IsLegalRing side.net ring' → HostTurning n host side ring'
turning-sent alone n heard host side ring ring' t sent legal =
    let own_is : own n ring' ≡ own n ring ++ Send n heard ∷ [] = grew-ours alone (is_of n) ring
    (Send n heard ∷ []) ring' sent.grew in
    let tied = tied-all AHost _ _ (tied-quiet AHost [] (host_items_of host.history) (own n ring)
    (Send n heard) refl refl refl
    refl refl refl (tied-none AHost _ _ t.tied)) in
    let paths = agree_still host.history (own n ring) (Send n heard) (λ p now. refl) (λ p now. refl)
    t.paths in
    record {
      node = t.node;
      legal = t.legal;
      own_turn = own-turn side ring ring' n t.own_turn legal sent.kept;
      tied = subst (Tied AHost (host_items_of host.history)) (sym own_is) tied;
      paths = subst (PathsAgree host.history) (sym own_is) paths;
    }

-- ---- the last entry of a turn

last-quiet : (n : ℕ) (done : Bool) (words : List ℕ) (cause : Option LeaveCause) (a : Items)
    (b : List RingEntry) → IsQuietCause cause → TiedBut AHost
    [] a b → TiedBut AHost [] a (b ++ last_entry n done words cause ∷ [])
last-quiet n done words None a b quiet t =
    tied-quiet AHost [] a b (Pass n done words) refl refl refl
    refl refl refl t
last-quiet n done words (Some cause) a b quiet t = tied-quiet AHost [] a b (Leave n cause) refl refl
    refl refl refl (quiet cause refl) t

last-still : (n : ℕ) (done : Bool) (words : List ℕ) (cause : Option LeaveCause) (h : List HostEntry)
    (b : List RingEntry) →
    PathsAgree h b → PathsAgree h (b ++ last_entry n done words cause ∷ [])
last-still n done words None h b agree = agree_still h b (Pass n done words) (λ p now. refl)
    (λ p now. refl) agree
last-still n done words (Some cause) h b agree = agree_still h b (Leave n cause) (λ p now. refl)
    (λ p now. refl) agree

pub ties-handed : {Q : Type 0} (alone : Bool) (n : ℕ) (done : Bool) (words : List ℕ)
    (cause : Option LeaveCause) (host : HostIs)
    (side : RingSideIs Q) (ring ring' : List RingEntry) → HostTurning n host side ring
    → HandedOn alone side.net n done words cause ring ring' → IsQuietCause cause
    → IsLegalRing side.net ring' → 0 < side.net.answer → IsAtRest side.net n ring
    → HostTies n host side ring'
ties-handed alone n done words cause host side ring ring' t handed quiet legal wait rest =
    let own_is = grew-ours alone (is_of n) ring (last_entry n done words cause ∷ []) ring'
    handed.grew in
    record {
      node = t.node;
      legal = t.legal;
      serves = t.own_turn.serves;
      on = handed-on alone side.net n done words cause ring ring' t.own_turn.on legal handed;
      answer = wait;
      tied = subst (Tied AHost (host_items_of host.history)) (sym own_is)
          (tied-all AHost _ _ (last-quiet n done words cause _ _ quiet
          (tied-none AHost _ _ t.tied)));
      paths = subst (PathsAgree host.history) (sym own_is)
          (last-still n done words cause host.history (own n ring) t.paths);
      rest = rest-through alone side.net n ring ring' t.own_turn.on legal
          (handed-ends alone side.net n done words cause ring ring' handed) rest;
    }

pub turning-left : {Q : Type 0} (n : ℕ) (host : HostIs) (side : RingSideIs Q)
    (ring : List RingEntry) → HostTies n host side ring
    → HasLeft side.net ring n → HostTurning n host side ring
turning-left n host side ring t gone = record {
  node = t.node;
  legal = t.legal;
  own_turn = record { serves = t.serves; on = t.on; free = inr gone };
  tied = t.tied;
  paths = t.paths;
}

pub holds-at : {Q : Type 0} (n : ℕ) (side side' : RingSideIs Q) (ring : List RingEntry)
    → side' ≡ side → Holds side.net ring n → Holds side'.net ring n
holds-at {Q} n side side' ring same h = subst (λ (s : RingSideIs Q). Holds s.net ring n) (sym same)
    h

pub sent-some : (alone : Bool) (net : NetPlan) (n : ℕ) (heard : Heard) (old new : List RingEntry)
    (o : Option Heard) → o ≡ Some
    heard → SentOrAll alone net n old new o → SentNext alone net n heard old new
sent-some alone net n heard old new o is sent = subst (SentOrAll alone net n old new) is sent

pub sent-none : (alone : Bool) (net : NetPlan) (n : ℕ) (old new : List RingEntry) (o : Option Heard)
    → o ≡ None → SentOrAll alone
    net n old new o → AllSent alone net n old new
sent-none alone net n old new o is sent = subst (SentOrAll alone net n old new) is sent

-- the last entry, where the node stays
pub ends-with : (alone : Bool) (net : NetPlan) (n : ℕ) (done : Bool) (words : List ℕ)
    (cause : Option LeaveCause) (ring ring' :
    List RingEntry) → HandedOn alone net n done words cause ring ring' → false ≡ is_some cause
    → EndsWithPass n done (own n ring')
ends-with alone net n done words None ring ring' handed is =
    record {
      front = own n ring;
      words = words;
      is = grew-ours alone (is_of n) ring
          (Pass n done words ∷ []) ring' handed.grew;
    }
ends-with alone net n done words (Some cause) ring ring' handed is = absurd cc

pub gone-with : (alone : Bool) (net : NetPlan) (n : ℕ) (done : Bool) (words : List ℕ)
    (cause : Option LeaveCause) (ring ring' :
    List RingEntry) → HandedOn alone net n done words cause ring ring' → true ≡ is_some cause
    → HasLeft net ring' n
gone-with alone net n done words None ring ring' handed is = absurd cc
gone-with alone net n done words (Some cause) ring ring' handed is = handed.gone cause refl

pub stays-with : (alone : Bool) (net : NetPlan) (n : ℕ) (done : Bool) (words : List ℕ)
    (cause : Option LeaveCause) (ring ring' :
    List RingEntry) → HandedOn alone net n done words cause ring ring' → false ≡ is_some cause
    → IsHere net ring' n
stays-with alone net n done words None ring ring' handed is = handed.stays refl
stays-with alone net n done words (Some cause) ring ring' handed is = absurd cc

pub gone-on : {Q : Type 0} (n : ℕ) (side side' : RingSideIs Q) (ring ring' : List RingEntry)
    → side' ≡ side → HasLeft side.net ring n
    → (HasLeft side'.net ring n → HasLeft side'.net ring' n) → HasLeft side.net ring' n
gone-on {Q} n side side' ring ring' same gone stays = subst
    (λ (s : RingSideIs Q). HasLeft s.net ring n → HasLeft s.net ring' n) same stays gone

-- What each part of a host's turn leaves.
use Rattle.std.proofs.Common.{◌≡◌, ℕ, Bool, true, false, List, [], ◌∷◌, ◌++◌, Some}
use Rattle.std.proofs.Common.{refl, sym, ap, subst, ◌∙◌, append_assoc}
use Rattle.plant_types.specs.declared.net.HostPlan.{HostPlan}
use Rattle.mstr_block.specs.declared.call.CallId.{CallId}
use Rattle.ring_core.specs.declared.frame.FrameKind.TheVariants.{Request, Reply}
use Rattle.ring_core.specs.declared.frame.Frame.{Frame}
use Rattle.ring_core.specs.declared.entry.RingEntry.{RingEntry}
use Rattle.ring_core.specs.declared.entry.RingEntry.TheVariants.{Post, Take, Local}
use Rattle.ring_core.specs.Legal.{IsLegalRing}
use Rattle.ring_core.specs.Statistics.{is_for_stats}
use Rattle.host_port.specs.declared.entry.HostEntry.{HostEntry}
use Rattle.host_port.specs.declared.entry.HostEntry.TheVariants.{Answer, Served}
use Rattle.host_port.specs.declared.entry.HostResult.TheVariants as results
use Rattle.host_port.specs.Calls.{is_unanswered}
use Rattle.host_port.specs.Host.{HostIs, HostWentOn}
use Rattle.host_port.specs.Legal.{IsHostHistory}
use Rattle.tied_lists.specs.Own.{is_of, own, Grew, WentOn}
use Rattle.tied_lists.specs.Items.{AHost, with_answer}
use Rattle.tied_lists.specs.Items.{with_end}
use Rattle.tied_lists.specs.Items.{Replied, reply_of}
use Rattle.tied_lists.specs.Tied.{Tied}
use Rattle.tied_lists.proofs.Growth.{grew-ours}
use Rattle.tied_lists.proofs.Steps.{tied-all, tied-got, tied-none}
use Rattle.tied_lists.proofs.Steps.{tied-served, tied-told}
use Rattle.comm_port.specs.Sides.{RingSideIs}
use Rattle.joint_history.specs.Reading.{answered_here, host_item_next, host_items_of}
use Rattle.comm_port.specs.Replies.{reply_frame, TellsStatistics}
use Rattle.comm_port.specs.Turns.{IsNoBridge, IsOwnTurn, KeepsInbox}
use Rattle.comm_port.specs.HostTurns.{HostTaking, HostTurning, PathsAgree}
use Rattle.comm_port.proofs.HostLists.{agree_got, agree_replied}
use Rattle.comm_port.proofs.HostLists.{agree_served, agree_still, agree_taken, items_with}
use Rattle.comm_port.proofs.HostLists.{made_net}
use Rattle.tied_lists.proofs.Turns.{after-take, reply-awaited, request-of-other, unmoved}
use Rattle.host_port.proofs.OpenRequests.{open_requests}
use Rattle.comm_port.proofs.RingTurns.{on-still, own-moved, own-on}
use Rattle.comm_port.proofs.Onward.{answered-last, taken-last}
use Rattle.comm_port.proofs.Sends.{kept-found}

-- a turn goes on
pub own-turn : {Q : Type 0} (side : RingSideIs Q) (ring ring' : List RingEntry) (n : ℕ)
    → IsOwnTurn side ring n → IsLegalRing side.net
    ring' → KeepsInbox side.net n ring ring' → IsOwnTurn side ring' n
own-turn side ring ring' n t legal k = record
    { serves = t.serves; on = k.on t.on; free = k.free }

-- a host's list that went on by one entry
pub legal-with : (old new : HostIs) (e : HostEntry) → HostWentOn (e ∷ []) old new
    → IsHostHistory old.plan (old.history ++ e ∷ [])
legal-with old new e w = subst (λ p. IsHostHistory p (old.history ++ e ∷ [])) w.plan
    (subst (IsHostHistory new.plan) w.history w.legal)

pub items-now : (old new : HostIs) (e : HostEntry) → HostWentOn (e ∷ []) old new
    → host_items_of new.history ≡ host_item_next (host_items_of old.history) e
items-now old new e w = ap host_items_of w.history ∙ items_with old.history e

-- ---- a Reply

pub turning-got : {Q : Type 0} (n : ℕ) (f : Frame) (old new : HostIs) (side : RingSideIs Q)
    (ring : List RingEntry) → HostTaking n
    f old side ring → f.kind ≡ Reply
    → HostWentOn (Answer f.id (results.Reply f.pdu) ∷ []) old new → HostTurning n new side ring
turning-got n f old new side ring t kind w =
    let e : HostEntry = Answer f.id (results.Reply f.pdu) in
    let made = made_net old.history f.id (t.reply kind) in
    let tied = tied-all AHost _ _ (tied-got AHost [] (host_items_of old.history) t.before n f kind
    made (tied-none AHost _ _ t.tied)) in
    let paths = agree_got old.plan old.history t.before n f (results.Reply f.pdu) kind
    (legal-with old new e w) t.paths in
    record {
      node = ap (λ (p : HostPlan). p.node) w.plan ∙ t.node;
      legal = w.legal;
      own_turn = t.own_turn;
      tied = subst (λ a. Tied AHost a (own n ring)) (sym (items-now old new e w)) (subst (Tied AHost
          (with_end (host_items_of old.history) f.id (Replied f.pdu))) (sym t.own_is) tied);
      paths = subst (λ h. PathsAgree h (own n ring)) (sym w.history)
          (subst (PathsAgree (old.history ++ e ∷ [])) (sym t.own_is) paths);
    }

-- ---- a Request that the host refuses

pub turning-served : {Q : Type 0} (n : ℕ) (f : Frame) (reply : List ℕ) (old new : HostIs)
    (side : RingSideIs Q) (alone : Bool)
    (ring ring' : List RingEntry) → HostTaking n f old side ring → f.kind ≡ Request
    → is_for_stats f ≡ false → HostWentOn (Served f.id f.pdu reply ∷ []) old new
    → Grew alone (is_of n) ring (Post n (reply_frame f.id reply) ∷ []) ring'
    → IsLegalRing side.net ring' → KeepsInbox side.net n ring ring' → HostTurning n new side ring'
turning-served n f reply old new side alone ring ring' t kind plain w grew legal kept =
    let e : HostEntry = Served f.id f.pdu reply in
    let g = reply_frame f.id reply in
    let all = t.before ++ (Take n f ∷ Post n g ∷ []) in
    let own_is : own n ring' ≡ all = grew-ours alone (is_of n) ring (Post n g ∷ []) ring' grew ∙ ap
    (λ l. l ++ Post n g ∷ []) t.own_is
    ∙ append_assoc t.before (Take n f ∷ []) (Post n g ∷ []) in
    let tied = tied-all AHost _ _ (answered-last AHost [] (host_items_of old.history) _ f
    (Some reply) t.rest (tied-served AHost [] (host_items_of old.history) t.before n f g
    reply kind plain refl refl refl (tied-none AHost _ _ t.tied))) in
    let before = agree_taken old.history t.before n f kind t.paths in
    let paths = agree_served old.history ((t.before ++ Take n f ∷ []) ++ Post n g ∷ []) f.id f.pdu
    reply (agree_replied
    old.history (t.before ++ Take n f ∷ []) n g refl before) in
    let joined = append_assoc t.before (Take n f ∷ []) (Post n g ∷ []) in
    record {
      node = ap (λ (p : HostPlan). p.node) w.plan ∙ t.node;
      legal = w.legal;
      own_turn = own-turn side ring ring' n t.own_turn legal kept;
      tied = subst (λ a. Tied AHost a (own n ring')) (sym (items-now old new e w))
          (subst (Tied AHost (with_answer (host_items_of old.history)
          (answered_here f.id f.pdu (Some reply)))) (sym own_is) tied);
      paths = subst (λ h. PathsAgree h (own n ring')) (sym w.history)
          (subst (PathsAgree (old.history ++ e ∷ [])) (joined ∙ sym own_is) paths);
    }

-- ---- a Request for statistics

pub turning-told : {Q : Type 0} (n : ℕ) (f : Frame) (host : HostIs) (side : RingSideIs Q)
    (alone : Bool) (ring ring' : List
    RingEntry) → HostTaking n f host side ring → f.kind ≡ Request
    → is_for_stats f ≡ true → TellsStatistics alone n f.id f.pdu ring ring'
    → IsLegalRing side.net ring'
    → KeepsInbox side.net n ring ring' → HostTurning n host side ring'
turning-told n f host side alone ring ring' t kind stats tells legal kept =
    let g = reply_frame f.id (reply_of tells.result) in
    let local : RingEntry = Local n f.id tells.op tells.result in
    let own_is : own n ring' ≡ t.before ++ (Take n f ∷ local ∷ Post n g ∷ []) =
    grew-ours alone (is_of n) ring (local ∷ Post n g ∷ []) ring' tells.grew ∙ ap
    (λ l. l ++ (local ∷ Post n g ∷ [])) t.own_is
    ∙ append_assoc t.before (Take n f ∷ []) (local ∷ Post n g ∷ []) in
    let tied = tied-all AHost _ _ (tied-told AHost [] (host_items_of host.history) t.before n f g
    tells.op tells.result kind stats
    (t.request kind) tells.answers refl refl refl (tied-none AHost _ _ t.tied)) in
    let one = agree_taken host.history t.before n f kind t.paths in
    let two = agree_still host.history (t.before ++ Take n f ∷ []) local (λ p now. refl)
    (λ p now. refl) one in
    let three = agree_replied host.history ((t.before ++ Take n f ∷ []) ++ local ∷ []) n g refl two
    in
    let joined : ((t.before ++ Take n f ∷ []) ++ local ∷ []) ++ Post n g ∷ [] ≡ t.before ++
    (Take n f ∷ local ∷ Post n g ∷ []) =
    append_assoc (t.before ++ Take n f ∷ []) (local ∷ []) (Post n g ∷ []) ∙ append_assoc t.before
    (Take n f ∷ []) (local ∷ Post n g ∷ []) in
    record {
      node = t.node;
      legal = t.legal;
      own_turn = own-turn side ring ring' n t.own_turn legal kept;
      tied = subst (Tied AHost (host_items_of host.history)) (sym own_is) tied;
      paths = subst (PathsAgree host.history) (joined ∙ sym own_is) three;
    }

-- ---- what is taken

-- a Take, of a frame of another node or of a Reply that is awaited
pub taking-now : {Q : Type 0} (alone : Bool) (n : ℕ) (f : Frame) (host : HostIs)
    (side side' : RingSideIs Q) (ring ring' : List
    RingEntry) → side' ≡ side → IsNoBridge side.net n → IsLegalRing side.net ring'
    → WentOn alone (is_of n) ring (Take n f ∷ []) ring' → HostTurning n host side ring
    → HostTaking n f host side' ring'
taking-now {Q} alone n f host side side' ring ring' same none legal went t =
    let m = own-moved side alone n ring (Take n f) ring' refl t.own_turn legal went in
    subst (λ (s : RingSideIs Q). HostTaking n f host s ring') (sym same) (record {
      before = own n ring;
      own_is = m.own_is;
      node = t.node;
      legal = t.legal;
      own_turn = record {
        serves = t.own_turn.serves;
        on = own-on side alone n ring (Take n f) ring' t.own_turn legal went;
        free = (after-take side.net n ring f ring' m).free;
      };
      tied = t.tied;
      paths = t.paths;
      rest = taken-last alone side.net n f ring ring' none legal went;
      request = λ kind. request-of-other side.net n ring f ring' kind m;
      reply = λ kind.
          let a = reply-awaited side.net n ring f ring' kind m in
          let there = open_requests.last host.plan host.history f.id.path a.ask t.legal
          (sym (t.paths.waits f.id.path) ∙ a.waits) in
          subst (λ (id : CallId). is_unanswered host.history id ≡ true) a.same there.out;
    })

-- the node took nothing, as its inbox is empty
pub turning-still : {Q : Type 0} (alone : Bool) (n : ℕ) (host : HostIs) (side : RingSideIs Q)
    (ring ring' : List RingEntry) →
    IsLegalRing side.net ring' → WentOn alone (is_of n) ring [] ring'
    → HostTurning n host side ring → HostTurning n host side ring'
turning-still alone n host side ring ring' legal went t =
    let on = on-still side alone ring ring' n t.own_turn legal went in
    let found = unmoved side.net n alone ring ring' on went t.own_turn.free in
    record {
      node = t.node;
      legal = t.legal;
      own_turn = own-turn side ring ring' n t.own_turn legal
          (kept-found side.net n ring ring' on found);
      tied = subst (Tied AHost (host_items_of host.history)) (sym found.own_is) t.tied;
      paths = subst (PathsAgree host.history) (sym found.own_is) t.paths;
    }

-- a side that stayed the same
pub turning-side : {Q : Type 0} (n : ℕ) (host : HostIs) (side side' : RingSideIs Q)
    (ring : List RingEntry) → side' ≡ side →
    HostTurning n host side ring → HostTurning n host side' ring
turning-side {Q} n host side side' ring same t = subst
    (λ (s : RingSideIs Q). HostTurning n host s ring) (sym same) t

-- Where a reply comes from: the node at the end of the route, or a bridge on the way.
use Rattle.std.proofs.Common.{◌≡◌, ◌⊎◌, ℕ, zero, suc, ◌<◌, ◌≤◌, not, List, [], ◌∷◌, ◌++◌, Option}
use Rattle.std.proofs.Common.{Some, None, refl, sym, ap, ◌∙◌, subst, inl, inr, ⊎_elim, arith}
use Rattle.std.specs.Prelude.{Contains, filter, filter_map, map, option_map, slice_get, unwrap_or}
use Rattle.std.specs.List.{AllByRecursion as Each}
use Rattle.std.proofs.lemmas.Bool.{cases_Bool, eq-eqb}
use Rattle.std.proofs.lemmas.List.Elements.{All-contains}
use Rattle.plant_types.specs.declared.net.BridgePlan.{BridgePlan}
use Rattle.plant_types.specs.declared.plan.Plant.{Plant}
use Rattle.mstr_block.specs.declared.call.CallId.{CallId}
use Rattle.ring_core.specs.declared.entry.RingEntry.{RingEntry}
use Rattle.ring_core.specs.declared.entry.RingEntry.TheVariants.{Post, Take, Local}
use Rattle.ring_core.specs.declared.frame.Frame.{Frame}
use Rattle.ring_core.specs.declared.frame.FrameKind.{FrameKind}
use Rattle.ring_core.specs.declared.frame.FrameKind.TheVariants as kinds
use Rattle.ring_laws.proofs.Lists.{each-contains, same-refl}
use Rattle.bridge_relay.specs.declared.entry.BridgeEntry.{BridgeEntry}
use Rattle.bridge_relay.specs.declared.entry.BridgeEntry.TheVariants.{Back}
use Rattle.bridge_relay.specs.declared.entry.RelayResult.TheVariants.{Reply}
use Rattle.bridge_relay.specs.Legal.{IsEnd}
use Rattle.bridge_relay.specs.Machine.{exception_to, far_side}
use Rattle.bridge_causes.specs.Causes.{BackCause, IsFromCall, IsRefusal, OfCall, OfRefusal}
use Rattle.bridge_causes.specs.Causes.{RefusalCause}
use Rattle.tied_lists.specs.Own.{own}
use Rattle.tied_lists.specs.Items.{ABridge, AController, AHost, Answered, Came, Ended, Item, Items}
use Rattle.tied_lists.specs.Items.{Lacked, Replied, Station, outcome_of_reply, outcome_of_word}
use Rattle.tied_lists.specs.Items.{port_answers, replied_by, replied_in, replied_of}
use Rattle.tied_lists.specs.Tied.{Tied, is_port_reply}
use Rattle.joint_history.specs.declared.joint.BridgeLog.{BridgeLog}
use Rattle.joint_history.specs.declared.joint.ControllerLog.{ControllerLog}
use Rattle.joint_history.specs.declared.joint.HostLog.{HostLog}
use Rattle.joint_history.specs.declared.joint.Joint.{Joint}
use Rattle.joint_history.specs.Effects.{effects}
use Rattle.joint_history.specs.JointLaws.{IsJoint, IsLegalBridgeLog, IsLegalHostLog, IsLegalJoint}
use Rattle.joint_history.specs.JointLaws.{IsLegalLog, IsTiedController, IsTiedHost, fixed_of}
use Rattle.joint_history.specs.Nets.{noted_on_rings}
use Rattle.joint_history.specs.Reading.{host_items_of, items_of}
use Rattle.joint_history.proofs.Collected.{CallLaws}
use Rattle.effect_laws.specs.Answers.{ControllerAnswers, HostAnswers, NodeAnswers, PortAnswers}
use Rattle.effect_laws.proofs.Asks.{IsFitAnswer, controller-fits, host-fits}
use Rattle.effect_laws.proofs.Fits.{Fitting, NetAsk, exception-fits, port-fits}
use Rattle.effect_laws.proofs.Reports.{Origin, origin-in, port-served}
use Rattle.effect_laws.proofs.Sources.{EndedBy, behind, by_port, by_reply, by_word, here, in-map}
use Rattle.effect_laws.proofs.Sources.{in-own, of-mapped}
use Rattle.route_laws.specs.Ends.{AnsweredAtEnd, RefusedOnWay}
use Rattle.plant_types.specs.Plans.{IsPlant}
use Rattle.route_laws.specs.Ways.{SentOn, names_from, next_name, sent_of, sent_on_in}
use Rattle.route_laws.proofs.Effects.{one-effect}
use Rattle.route_laws.proofs.Causes.{Caused, back-caused, cause-accepted, cause-some, of-front}
use Rattle.route_laws.proofs.Causes.{plan-of}
use Rattle.effect_laws.proofs.Gave.{controller-gave, host-gave, port-gave}
use Rattle.effect_laws.proofs.Words.{TellsTruly, truly}
use Rattle.route_laws.proofs.Hops.{accepted-requested, partner, sent-requested}
use Rattle.route_laws.proofs.Once.{forwards-accepts, is_old, taken-on-once}
use Rattle.route_laws.proofs.Places.{on-its-ring, reply-posted, ring-of-node, size_of}
use Rattle.route_laws.proofs.Requests.{IsLast, Requested, StandsAt, a_controller, a_host, an_end}
use Rattle.route_laws.proofs.Requests.{controller-last, host-last, noted-by, port-taken, port-took}
use Rattle.route_laws.proofs.Requests.{requested-as, same-request, take-requested, taken-last}
use Rattle.route_laws.proofs.Sides.{back-there, finish-told, in-filter}
use Rattle.route_laws.proofs.Success.{next-is, rank, rank-falls}
use Rattle.route_laws.proofs.Traces.{EndedAt, controller-effect, ended-at, entry-end, host-effect}
use Rattle.route_laws.proofs.Traces.{in-flat, side-tied, size-accepted, size-sent}
use Rattle.route_laws.proofs.Ways.{found-counts}

-- ---- a Reply that was taken

-- a node took this Reply to a call
pub record TookReply (joint : Joint) (id : CallId) (reply : List ℕ) : Type 0 where
  pub node : ℕ
  pub frame : Frame
  pub there : Contains (noted_on_rings joint) (Take node frame)
  pub kind : frame.kind ≡ kinds.Reply
  pub same : frame.id ≡ id
  pub reply_is : frame.pdu ≡ reply

-- a host's or a bridge's call that came to a reply
pub took-given : (joint : Joint) (station : Station) (end' : Ended) (id : CallId) (pdu : List ℕ)
    → ((request : Option (List ℕ)) (reply : List ℕ)
    → outcome_of_reply station request reply ≡ Replied reply)
    → ((word : ℕ) → outcome_of_word station word ≡ Lacked word)
    → EndedAt (noted_on_rings joint) station end' → end'.id ≡ id
    → end'.outcome ≡ Replied pdu → TookReply joint id pdu
took-given joint station end' id pdu replies words at same is = by at.entry at.there at.by
  where
    pdu-same : (x y : List ℕ) → Replied x ≡ Replied y → x ≡ y
    pdu-same x y e = cc

    by : (e : RingEntry) → Contains (noted_on_rings joint) e → EndedBy station at.asked e end'
        → TookReply joint id pdu
    by e there (by_reply n f e_is kind named outcome) = record {
      node = n;
      frame = f;
      there = subst (λ (x : RingEntry). Contains (noted_on_rings joint) x) e_is there;
      kind = kind;
      same = named ∙ same;
      reply_is = pdu-same f.pdu pdu (sym (replies _ f.pdu) ∙ outcome ∙ is);
    }
    by e there (by_word word e_is outcome) =
        absurd (let no' : Lacked word ≡ Replied pdu = sym (words word) ∙ outcome ∙ is in cc)
    by e there (by_port n op result e_is mine outcome) =
        absurd (let no' : Came result ≡ Replied pdu = outcome ∙ is in cc)

-- ---- what is behind a Reply that was posted

-- the node to which the Request of the call went gave it
pub record AtNode (joint : Joint) (id : CallId) (reply : List ℕ) : Type 0 where
  pub node : ℕ
  pub request : List ℕ
  pub requested : Requested (noted_on_rings joint) id (node ∷ []) request
  pub given : NodeAnswers joint node id request reply
  pub fits : NetAsk request → Fitting request reply
  pub effect : 1 ≤ effects joint id

-- a bridge to which the Request of the call went made it
pub record AtBridge (joint : Joint) (id : CallId) (reply : List ℕ) : Type 0 where
  pub plan : BridgePlan
  pub log : BridgeLog
  pub there : Contains joint.bridges log
  pub legal : IsLegalBridgeLog plan log
  pub side : ℕ
  pub rest : List ℕ
  pub request : List ℕ
  pub requested : Requested (noted_on_rings joint) id (side ∷ rest) request
  pub before : List BridgeEntry
  pub after : List BridgeEntry
  pub returned : log.entries ≡ before ++ Back side id reply ∷ after
  pub code : ℕ
  pub cause : RefusalCause plan before side (far_side plan side) id rest request code
  pub is : reply ≡ exception_to request code

-- a bridge sent the call on, on a shorter way, and there it was taken
pub record FromNext (joint : Joint) (id : CallId) (reply : List ℕ) : Type 0 where
  pub new : CallId
  pub sent : Contains (sent_on_in joint) (record { old = id; id = new })
  pub shorter : size_of (noted_on_rings joint) new < size_of (noted_on_rings joint) id
  pub to : ℕ
  pub rest : List ℕ
  pub request : List ℕ
  pub before : Requested (noted_on_rings joint) id (to ∷ rest) request
  pub after : Requested (noted_on_rings joint) new rest request
  pub took : TookReply joint new reply

pub data ReplyFrom (joint : Joint) (id : CallId) (reply : List ℕ) : Type 0 where
  from_node : AtNode joint id reply → ReplyFrom joint id reply
  from_bridge : AtBridge joint id reply → ReplyFrom joint id reply
  from_next : FromNext joint id reply → ReplyFrom joint id reply

-- what a call's reply is, in all
pub record EndReply (joint : Joint) (names : List CallId) (route request reply : List ℕ)
    : Type 0 where
  pub by : AnsweredAtEnd joint names route request reply
      ⊎ RefusedOnWay joint names route request reply
  pub fits : NetAsk request → Fitting request reply

module _ (laws : CallLaws) (plant : Plant) (scans : ℕ) (joint : Joint) (is : IsPlant plant)
    (legal : IsLegalJoint plant scans joint) (tied : IsJoint joint) where
  -- ---- nodes

  port-fitting : (n : ℕ) (id : CallId) (request reply : List ℕ)
      → PortAnswers joint n id request reply → Fitting request reply
  port-fitting n id request reply (op, result, there, asked, told) =
      let r = ring-of-node plant scans joint n (Local n id op result) is legal there refl in
      let mine = on-its-ring plant (noted_on_rings joint) n (Local n id op result) r there refl in
      let truth = each-contains (TellsTruly r.net) r.ring.entries (Local n id op result)
      (truly r.net [] r.ring.entries r.history.legal) mine in
      subst (λ (l : List ℕ). Fitting request l) told
      (port-fits r.net truth.0 n op result request asked truth.1)

  -- what a port answered
  port-gives : (n : ℕ) (answer : Answered) (id : CallId) (reply : List ℕ) → StandsAt joint n
      → Contains (port_answers (own n (noted_on_rings joint))) answer → answer.id ≡ id
      → answer.reply ≡ Some reply → AtNode joint id reply
  port-gives n answer id reply stands there named told =
      let ring = noted_on_rings joint in
      let t = port-took ring n answer (port-taken plant scans joint is legal tied n stands) there in
      let r = take-requested plant scans joint is legal tied n t.frame t.there t.kind in
      let gave = subst (λ (i : CallId). PortAnswers joint n i t.request reply) named
      (port-gave joint n answer t.request reply there t.asked told) in
      record {
        node = n;
        request = t.request;
        requested = requested-as r (t.name ∙ named) (ap (λ (l : List ℕ). n ∷ l) t.rest_is)
            t.request_is;
        given = inr (inr gave);
        fits = λ net. port-fitting n id t.request reply gave;
        effect = port-served joint n answer id there named;
      }

  -- the Request of an answer's name, where a station took it
  origin-requested : (n : ℕ) (f : Frame) (a : Items) (station : Station)
      → Tied station a (own n (noted_on_rings joint)) → Each IsLast a.answers
      → (o : Origin a (noted_on_rings joint) n f)
      → Requested (noted_on_rings joint) f.id (n ∷ []) o.request.pdu
  origin-requested n f a station t last o =
      let r = take-requested plant scans joint is legal tied n o.request o.taken o.kind in
      requested-as r o.same (ap (λ (l : List ℕ). n ∷ l)
      (taken-last (noted_on_rings joint) n a o.request t.peers last o.taken o.kind)) refl

  controller-gives : (log : ControllerLog) (f : Frame) → Contains joint.controllers log
      → Contains (noted_on_rings joint) (Post log.node f) → f.kind ≡ kinds.Reply
      → AtNode joint f.id f.pdu
  controller-gives log f there posted kind =
      let ring = noted_on_rings joint in
      let a = items_of log.entries in
      let t = All-contains (IsTiedController ring) joint.controllers log tied.controllers there in
      let o = origin-in ring log.node f AController a t posted kind in
      let plan = partner (IsLegalLog plant scans) plant.controllers joint.controllers log
      legal.controllers there in
      let known = controller-fits laws (fixed_of plant scans plan.0) log.entries plan.1.1 in
      ⊎_elim
      (λ (peer : Contains a.answers o.answer). record {
        node = log.node;
        request = o.request.pdu;
        requested = origin-requested log.node f a AController t (controller-last log.entries) o;
        given = inl (subst (λ (i : CallId). ControllerAnswers joint log.node i o.request.pdu f.pdu)
            o.named (controller-gave joint log o.answer o.request.pdu f.pdu there peer o.asked
            o.told));
        fits = each-contains IsFitAnswer a.answers o.answer known.answers peer o.request.pdu f.pdu
            o.asked o.told;
        effect = controller-effect plant scans joint is legal tied log f there posted kind;
      })
      (λ (port : Contains (port_answers (own log.node ring)) o.answer).
      port-gives log.node o.answer f.id f.pdu (a_controller log there refl) port o.named o.told)
      o.among

  host-gives : (log : HostLog) (f : Frame) → Contains joint.hosts log
      → Contains (noted_on_rings joint) (Post log.node f) → f.kind ≡ kinds.Reply
      → AtNode joint f.id f.pdu
  host-gives log f there posted kind =
      let ring = noted_on_rings joint in
      let a = host_items_of log.entries in
      let t = All-contains (IsTiedHost ring) joint.hosts log tied.hosts there in
      let o = origin-in ring log.node f AHost a t posted kind in
      let plan = partner IsLegalHostLog plant.hosts joint.hosts log legal.hosts there in
      let known = host-fits plan.0 log.entries plan.1.1 in
      ⊎_elim
      (λ (peer : Contains a.answers o.answer). record {
        node = log.node;
        request = o.request.pdu;
        requested = origin-requested log.node f a AHost t (host-last log.entries) o;
        given = inr (inl (subst (λ (i : CallId). HostAnswers joint log.node i o.request.pdu f.pdu)
            o.named (host-gave joint log o.answer o.request.pdu f.pdu there peer o.asked
            o.told)));
        fits = each-contains IsFitAnswer a.answers o.answer known peer o.request.pdu f.pdu
            o.asked o.told;
        effect = host-effect plant scans joint is legal tied log f there posted kind;
      })
      (λ (port : Contains (port_answers (own log.node ring)) o.answer).
      port-gives log.node o.answer f.id f.pdu (a_host log there refl) port o.named o.told)
      o.among

  -- ---- bridges

  refused-gives : (plan : BridgePlan) (log : BridgeLog) (side : ℕ) (id : CallId) (pdu : List ℕ)
      → IsLegalBridgeLog plan log → Contains joint.bridges log
      → (c : Caused plan log.entries side id pdu)
      → IsRefusal plan c.before side (far_side plan side) id pdu → AtBridge joint id pdu
  refused-gives plan log side id pdu lawful there c no' =
      let got = of-front log.entries c.before _ c.after _ c.is
      (cause-accepted plan c.before side (far_side plan side) id no'.route no'.request no'.code
      no'.cause) in
      record {
        plan = plan;
        log = log;
        there = there;
        legal = lawful;
        side = side;
        rest = no'.route;
        request = no'.request;
        requested = accepted-requested plant scans joint is legal tied plan log side id no'.route
            no'.request lawful there got;
        before = c.before;
        after = c.after;
        returned = c.is;
        code = no'.code;
        cause = no'.cause;
        is = no'.reply_is;
      }

  next-gives : (plan : BridgePlan) (log : BridgeLog) (side : ℕ) (id : CallId) (pdu : List ℕ)
      → IsLegalBridgeLog plan log → Contains joint.bridges log
      → (c : Caused plan log.entries side id pdu)
      → IsFromCall c.before side (far_side plan side) id pdu → FromNext joint id pdu
  next-gives plan log side id pdu lawful there c on =
      let list = log.entries in
      let ring = noted_on_rings joint in
      let across = far_side plan side in
      let got = of-front list c.before _ c.after _ c.is on.accepted in
      let sent = of-front list c.before _ c.after _ c.is on.sent in
      let ended = of-front list c.before _ c.after _ c.is on.ended in
      let before = size-accepted plant scans joint is legal tied plan log side id on.route
      on.request lawful there got in
      let after = size-sent plant scans joint is legal tied plan log across id on.onward on.route
      on.request lawful there sent in
      let this : SentOn = record { old = id; id = on.onward } in
      let t = side-tied plant scans joint is legal tied plan log across lawful there
      (entry-end plant scans joint is legal tied plan list _ lawful.2 ended) in
      let told = finish-told list across on.onward (Reply pdu) ended in
      record {
        new = on.onward;
        sent = in-flat (λ (l : BridgeLog). filter_map sent_of l.entries) joint.bridges log this
            there (in-map sent_of list _ this refl sent);
        shorter = omega (arith, before, after);
        to = side;
        rest = on.route;
        request = on.request;
        before = accepted-requested plant scans joint is legal tied plan log side id on.route
            on.request lawful there got;
        after = sent-requested plant scans joint is legal tied plan log across id on.onward
            on.route on.request lawful there sent;
        took = took-given joint ABridge told.end' on.onward pdu (λ request reply. refl)
            (λ word. refl)
            (ended-at ring ABridge across _ told.end' t.ends told.there)
            told.id_is told.outcome_is;
      }

  -- what a bridge gave back
  back-gives : (log : BridgeLog) (side : ℕ) (id : CallId) (pdu : List ℕ)
      → (there : Contains joint.bridges log)
      → (plan : BridgePlan) → IsLegalBridgeLog plan log
      → (c : Caused plan log.entries side id pdu) → ReplyFrom joint id pdu
  back-gives log side id pdu there plan lawful c = by c.cause
    where
      by : BackCause plan c.before side (far_side plan side) id pdu → ReplyFrom joint id pdu
      by (OfCall on) = from_next (next-gives plan log side id pdu lawful there c on)
      by (OfRefusal no') = from_bridge (refused-gives plan log side id pdu lawful there c no')

  -- what the port of a bridge's end posted is its answer
  port-replies : (n : ℕ) (id : CallId) (pdu : List ℕ) → StandsAt joint n
      → Contains {X = Item} (map (λ (a : Answered). (a.id, a.reply))
      (port_answers (own n (noted_on_rings joint)))) (id, Some pdu)
      → AtNode joint id pdu
  port-replies n id pdu stands there =
      let answers = port_answers (own n (noted_on_rings joint)) in
      let item : Item = (id, Some pdu) in
      let found = of-mapped {Y = Item} (λ (a : Answered). (a.id, a.reply)) answers item there in
      port-gives n found.0 id pdu stands found.1 (ap (λ (i : Item). i.0) found.2)
      (ap (λ (i : Item). i.1) found.2)

  end-gives : (plan : BridgePlan) (log : BridgeLog) (side : ℕ) (f : Frame)
      → IsLegalBridgeLog plan log → Contains joint.bridges log → IsEnd plan side
      → Contains (noted_on_rings joint) (Post side f) → f.kind ≡ kinds.Reply
      → ReplyFrom joint f.id f.pdu
  end-gives plan log side f lawful there at posted kind =
      let ring = noted_on_rings joint in
      let b = own side ring in
      let t = side-tied plant scans joint is legal tied plan log side lawful there at in
      let item : Item = (f.id, Some f.pdu) in
      let mine = in-own side ring (Post side f) (eq-eqb side side refl) posted in
      let replied = in-map replied_of b (Post side f) item
      (ap (λ (k : FrameKind). replied_in k f) kind) mine in
      elim (cases_Bool (is_port_reply (port_answers b) item)) [
        | inl port ↦
            let told = in-filter (is_port_reply (port_answers b)) (replied_by b) item port replied
            in
            from_node (port-replies side f.id f.pdu (an_end plan log there lawful at)
            (subst (λ (l : List Item). Contains l item) t.replies.told told))
        | inr back ↦
            let given = in-filter (λ (i : Item). not (is_port_reply (port_answers b) i))
            (replied_by b) item (ap not back) replied in
            let among = back-there log.entries side f.id f.pdu
            (subst (λ (l : List Item). Contains l item) t.replies.given given) in
            let p = plan-of plant scans joint log is legal there in
            back-gives log side f.id f.pdu there p.plan p.legal
            (back-caused p.plan log.entries side f.id f.pdu p.sound p.legal.2 among)
      ]

  -- ---- all nodes

  posted-from : (k : ℕ) (f : Frame) → StandsAt joint k
      → Contains (noted_on_rings joint) (Post k f) → f.kind ≡ kinds.Reply
      → ReplyFrom joint f.id f.pdu
  posted-from k f (a_controller log there node) posted kind =
      from_node (controller-gives log f there
      (subst (λ (m : ℕ). Contains (noted_on_rings joint) (Post m f)) (sym node) posted) kind)
  posted-from k f (a_host log there node) posted kind =
      from_node (host-gives log f there
      (subst (λ (m : ℕ). Contains (noted_on_rings joint) (Post m f)) (sym node) posted) kind)
  posted-from k f (an_end plan log there lawful at) posted kind =
      end-gives plan log k f lawful there at posted kind

  reply-from : (id : CallId) (reply : List ℕ) → TookReply joint id reply
      → ReplyFrom joint id reply
  reply-from id reply took =
      let by = reply-posted plant scans joint is legal took.node took.frame took.there took.kind in
      subst (λ (l : List ℕ). ReplyFrom joint id l) took.reply_is
      (subst (λ (i : CallId). ReplyFrom joint i took.frame.pdu) took.same
      (posted-from by.0 took.frame
      (noted-by plant scans joint is legal tied by.0 (Post by.0 took.frame) by.1 refl)
      by.1 took.kind))

  -- ---- ends

  -- a call that took effect was sent on no more
  last-name : (id : CallId) → 1 ≤ effects joint id → next_name (sent_on_in joint) id ≡ None
  last-name id some = at (slice_get (filter (is_old id) (sent_on_in joint)) 0) refl
    where
      at : (o : Option SentOn) → slice_get (filter (is_old id) (sent_on_in joint)) 0 ≡ o
          → option_map (λ (s : SentOn). s.id) o ≡ None
      at None found = refl
      at (Some s) found =
          let one = one-effect laws plant scans joint id is legal tied in
          let on = forwards-accepts plant scans joint id legal in
          let count = found-counts (is_old id) (sent_on_in joint) s found in
          absurd (omega (arith, some, one, on, count))

  node-end : (names : List CallId) (id : CallId) (route request reply : List ℕ)
      → Contains names id → AtNode joint id reply
      → Requested (noted_on_rings joint) id route request
      → EndReply joint names route request reply
  node-end names id route request reply named a asked =
      let same = same-request plant scans joint is legal tied id route (a.node ∷ []) request
      a.request asked a.requested in
      record {
        by = inl (record {
          name = id;
          named = named;
          last = last-name id a.effect;
          to = a.node;
          end = ([], same.0);
          given = subst (λ (l : List ℕ). NodeAnswers joint a.node id l reply) (sym same.1) a.given;
        });
        fits = subst (λ (l : List ℕ). NetAsk l → Fitting l reply) (sym same.1) a.fits;
      }

  bridge-end : (names : List CallId) (id : CallId) (route request reply : List ℕ)
      → Contains names id → AtBridge joint id reply
      → Requested (noted_on_rings joint) id route request
      → EndReply joint names route request reply
  bridge-end names id route request reply named a asked =
      let same = same-request plant scans joint is legal tied id route (a.side ∷ a.rest) request
      a.request asked a.requested in
      let made : reply ≡ exception_to request a.code =
      a.is ∙ ap (λ (l : List ℕ). exception_to l a.code) (sym same.1) in
      record {
        by = inr (record {
          name = id;
          named = named;
          plan = a.plan;
          log = a.log;
          there = a.there;
          legal = a.legal;
          side = a.side;
          way = [];
          rest = a.rest;
          on_way = same.0;
          before = a.before;
          after = a.after;
          returned = a.returned;
          code = a.code;
          cause = subst (λ (l : List ℕ).
              RefusalCause a.plan a.before a.side (far_side a.plan a.side) id a.rest l a.code)
              (sym same.1) a.cause;
          is = made;
        });
        fits = λ net. subst (λ (l : List ℕ). Fitting request l) (sym made)
            (exception-fits request a.code (cause-some a.plan a.before a.side
            (far_side a.plan a.side) id a.rest a.request a.code a.cause));
      }

  -- what is so of the rest of a way is so of all of it
  further : (names more : List CallId) (to : ℕ) (route request reply : List ℕ)
      → ((name : CallId) → Contains more name → Contains names name)
      → EndReply joint more route request reply → EndReply joint names (to ∷ route) request reply
  further names more to route request reply among e = record {
    by = ⊎_elim
        (λ (a : AnsweredAtEnd joint more route request reply). inl (record {
          name = a.name;
          named = among a.name a.named;
          last = a.last;
          to = a.to;
          end = (to ∷ a.end.0, ap (λ (l : List ℕ). to ∷ l) a.end.1);
          given = a.given;
        }))
        (λ (r : RefusedOnWay joint more route request reply). inr (record {
          name = r.name;
          named = among r.name r.named;
          plan = r.plan;
          log = r.log;
          there = r.there;
          legal = r.legal;
          side = r.side;
          way = to ∷ r.way;
          rest = r.rest;
          on_way = ap (λ (l : List ℕ). to ∷ l) r.on_way;
          before = r.before;
          after = r.after;
          returned = r.returned;
          code = r.code;
          cause = r.cause;
          is = r.is;
        }))
        e.by;
    fits = e.fits;
  }

  abbrev EndOf : ℕ → CallId → List ℕ → Type 0
  EndOf more id reply = TookReply joint id reply
      → (route request : List ℕ) → Requested (noted_on_rings joint) id route request
      → EndReply joint (names_from more (sent_on_in joint) id) route request reply

  next-end : (more : ℕ) (id : CallId) (route request reply : List ℕ)
      → (on : FromNext joint id reply) → EndOf more on.new reply
      → Requested (noted_on_rings joint) id route request
      → EndReply joint (names_from (suc more) (sent_on_in joint) id) route request reply
  next-end more id route request reply on later asked =
      let sent = sent_on_in joint in
      let s : SentOn = record { old = id; id = on.new } in
      let few = (taken-on-once plant scans joint is legal tied id).forwarded in
      let next = next-is sent id s few on.sent (same-refl id) in
      let names = λ (o : Option SentOn). unwrap_or (option_map (names_from more sent)
      (option_map (λ (x : SentOn). x.id) o)) [] in
      let same = same-request plant scans joint is legal tied id route (on.to ∷ on.rest) request
      on.request asked on.before in
      subst (λ (l : List ℕ). EndReply joint (names_from (suc more) sent id) l request reply)
      (sym same.0)
      (subst (λ (l : List ℕ). EndReply joint (names_from (suc more) sent id) (on.to ∷ on.rest) l
      reply) (sym same.1)
      (further (names_from (suc more) sent id) (names_from more sent on.new) on.to on.rest
      on.request reply
      (λ name among. behind id (names (slice_get (filter (is_old id) sent) 0)) name
      (subst (λ (o : Option SentOn). Contains (names o) name) (sym next) among))
      (later on.took on.rest on.request on.after)))

  abbrev Laters : ℕ → Type 0
  Laters more = (id : CallId) (reply : List ℕ)
      → rank (size_of (noted_on_rings joint)) (sent_on_in joint) (size_of (noted_on_rings joint) id)
      ≤ more
      → EndOf more id reply

  pub reply-end : (more : ℕ) (id : CallId) (reply : List ℕ)
      → rank (size_of (noted_on_rings joint)) (sent_on_in joint) (size_of (noted_on_rings joint) id)
      ≤ more
      → EndOf more id reply
  reply-end zero id reply low took route request asked = at (reply-from id reply took)
    where
      names : List CallId
      names = names_from zero (sent_on_in joint) id

      at : ReplyFrom joint id reply → EndReply joint names route request reply
      at (from_node a) = node-end names id route request reply (here id []) a asked
      at (from_bridge a) = bridge-end names id route request reply (here id []) a asked
      at (from_next on) =
          let size = size_of (noted_on_rings joint) in
          let falls = rank-falls size (sent_on_in joint) (record { old = id; id = on.new })
          (size on.new) (size id) on.sent refl on.shorter in
          absurd (omega (arith, falls, low))
  reply-end (suc more) id reply low took route request asked =
      at (reply-end more) (reply-from id reply took)
    where
      names : List CallId
      names = names_from (suc more) (sent_on_in joint) id

      first : Contains names id
      first = here id (unwrap_or (option_map (names_from more (sent_on_in joint))
          (next_name (sent_on_in joint) id)) [])

      at : Laters more → ReplyFrom joint id reply → EndReply joint names route request reply
      at later (from_node a) = node-end names id route request reply first a asked
      at later (from_bridge a) = bridge-end names id route request reply first a asked
      at later (from_next on) =
          let size = size_of (noted_on_rings joint) in
          let falls = rank-falls size (sent_on_in joint) (record { old = id; id = on.new })
          (size on.new) (size id) on.sent refl on.shorter in
          next-end more id route request reply on
          (later on.new reply (omega (arith, falls, low))) asked
